use Rattle.law_clean.proofs.CleanParts.{clean_maps}
use Rattle.law_tables.proofs.DroppedObjects.{drop_maps, drop_clean, drop_exact, drop_parts}
use Rattle.law_tables.proofs.drop_laws.Goals as goal

pub returns : goal.returns
returns c = record {
  maps = λ g image image' row shape clean drops. drop_maps g image image' row (record { shape = shape; clean = clean }) drops;
  clean = λ g image image' row shape clean drops. drop_clean g image image' row (record { shape = shape; clean = clean_maps g image shape clean }) drops clean;
  sgam = λ g image image' row shape clean drops exact. drop_exact g image image' row (record { shape = shape; clean = clean }) drops exact;
  parts = λ g image image' row shape clean drops. drop_parts g image image' row (record { shape = shape; clean = clean }) drops;
}
