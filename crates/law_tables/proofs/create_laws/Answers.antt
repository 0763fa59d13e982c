use Rattle.law_clean.proofs.CleanParts.{clean_maps}
use Rattle.law_tables.proofs.CreatedObjects.{create_maps, create_clean, create_exact, create_parts}
use Rattle.law_tables.proofs.create_laws.Goals as goal

pub returns : goal.returns
returns c = record {
  maps = λ g image image' row p shape clean creates. create_maps g image image' row p (record { shape = shape; clean = clean }) creates;
  clean = λ g image image' row p shape clean creates heap.
      create_clean g image image' row p (record { shape = shape; clean = clean_maps g image shape clean }) creates clean heap;
  sgam = λ g image image' row p shape clean creates taken exact. create_exact g image image' row p (record { shape = shape; clean = clean }) creates taken exact;
  parts = λ g image image' row p shape clean creates. create_parts g image image' row p (record { shape = shape; clean = clean }) creates;
}
