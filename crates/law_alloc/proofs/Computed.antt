-- The examples, computed.
use Rattle.std.proofs.Common.{refl}
use Rattle.spec_file.specs.Image.{number_at}
use Rattle.spec_file.specs.Catalog.{entry_at}
use Rattle.spec_file.specs.CatalogRows.{rows_of}
use Rattle.spec_words.specs.Words.{◌then◌, give, refuse, sees, unless_held, where_good, look, reach, take, write, first_of, for_each}
use Rattle.law_alloc.specs.Examples.{LowestIsTaken, HeldExtentIsPassedOver, HeldByteIsPassedOver, LastPageLowersSgam, NothingIsLeft, LowestHeldIsTold, BootKeepsItsExtent, LastPageFreesItsExtent, MarkedExtentStaysInUse, MarkedExtentIsFreed, BadMapIsTold, SlotComesFirst, MarkedPageComesNext, FreeExtentIsMarked, MarkIsTakenBack, NewIamPageSays, LowestAreCreated, EntryIsFound}

pub lowest_is_taken : LowestIsTaken
unfolding number_at ◌then◌ give sees where_good reach take write first_of
lowest_is_taken = (refl, refl, refl)

pub held_extent_is_passed_over : HeldExtentIsPassedOver
unfolding number_at ◌then◌ give sees where_good reach take write first_of
held_extent_is_passed_over = (refl, refl, refl)

pub held_byte_is_passed_over : HeldByteIsPassedOver
unfolding number_at ◌then◌ give sees where_good reach take write first_of
held_byte_is_passed_over = (refl, refl, refl)

pub last_page_lowers_sgam : LastPageLowersSgam
unfolding number_at ◌then◌ give sees where_good reach take write first_of
last_page_lowers_sgam = (refl, refl, refl)

pub nothing_is_left : NothingIsLeft
unfolding number_at ◌then◌ give sees where_good reach take write first_of
nothing_is_left = (refl, refl, refl)

pub lowest_held_is_told : LowestHeldIsTold
unfolding ◌then◌ give refuse unless_held for_each
lowest_held_is_told = (refl, refl)

pub boot_keeps_its_extent : BootKeepsItsExtent
unfolding number_at ◌then◌ give sees where_good reach take write
boot_keeps_its_extent = (refl, refl, refl)

pub last_page_frees_its_extent : LastPageFreesItsExtent
unfolding number_at ◌then◌ give sees where_good reach take write
last_page_frees_its_extent = (refl, refl, refl)

pub marked_extent_stays_in_use : MarkedExtentStaysInUse
unfolding number_at ◌then◌ give sees where_good reach take write
marked_extent_stays_in_use = ((refl, refl, refl), (refl, refl, refl))

pub marked_extent_is_freed : MarkedExtentIsFreed
unfolding number_at ◌then◌ give sees where_good reach take write
marked_extent_is_freed = (refl, refl, refl)

pub bad_map_is_told : BadMapIsTold
unfolding number_at ◌then◌ give sees where_good reach take write first_of
bad_map_is_told = refl

pub slot_comes_first : SlotComesFirst
unfolding number_at ◌then◌ give sees where_good look reach take write first_of for_each
slot_comes_first = (refl, refl, refl)

pub marked_page_comes_next : MarkedPageComesNext
unfolding number_at ◌then◌ give sees where_good look reach take write first_of for_each
marked_page_comes_next = (refl, refl, refl)

pub free_extent_is_marked : FreeExtentIsMarked
unfolding number_at ◌then◌ give sees where_good look reach take write first_of for_each
free_extent_is_marked = (refl, refl, refl)

pub mark_is_taken_back : MarkIsTakenBack
unfolding number_at ◌then◌ give sees where_good look reach take write first_of for_each
mark_is_taken_back = (refl, refl, refl)

pub new_iam_page_says : NewIamPageSays
unfolding number_at
new_iam_page_says = (refl, refl, refl, refl)

pub lowest_are_created : LowestAreCreated
unfolding number_at rows_of entry_at
lowest_are_created = (refl, refl, refl, refl, refl, refl)

pub entry_is_found : EntryIsFound
unfolding number_at entry_at
entry_is_found = (refl, refl, refl)
