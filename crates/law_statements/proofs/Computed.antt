-- The examples, computed.
use Rattle.std.proofs.Common.{refl}
use Rattle.spec_file.specs.Image.{number_at}
use Rattle.spec_file.specs.Catalog.{entry_at}
use Rattle.spec_file.specs.CatalogBytes.{entry_bytes}
use Rattle.spec_file.specs.CatalogRows.{rows_of}
use Rattle.spec_plan.specs.Reading.{passes_catalog}
use Rattle.spec_words.specs.Words.{◌then◌, give, refuse, sees, unless_held, where_good, look, reach, take, write, first_of, for_each}
use Rattle.law_statements.specs.Examples.{FirstIsCreated, NameIsToldFirst, ChainIsDropped, PagesAreDropped}

pub first_is_created : FirstIsCreated
unfolding number_at rows_of entry_at entry_bytes passes_catalog ◌then◌ give sees where_good look reach take write first_of
first_is_created = (refl, refl, refl)

pub name_is_told_first : NameIsToldFirst
unfolding number_at rows_of entry_at passes_catalog ◌then◌ give refuse sees where_good look take
name_is_told_first = (refl, refl)

pub chain_is_dropped : ChainIsDropped
unfolding number_at rows_of entry_at passes_catalog ◌then◌ give sees unless_held where_good look reach take write for_each
chain_is_dropped = (refl, refl, refl)

pub pages_are_dropped : PagesAreDropped
unfolding number_at rows_of entry_at passes_catalog ◌then◌ give sees unless_held where_good look reach take write for_each
pages_are_dropped = (refl, refl, refl)
