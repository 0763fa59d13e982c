use Rattle.std.proofs.lemmas.Bool.{both_ways}
use Rattle.spec_rows.specs.Changes.{Compacted}
use Rattle.pg_slots.proofs.change.find_place.Goals as goal

pub returns : goal.returns
returns c =
    Compacted c.compact.new.page.bytes (λ behind. both_ways c.fits_behind.result c.if-fits_behind.false (c.fits_behind.ensures.1 behind))
    c.compact.ensures.compacted c.place-2.ensures
