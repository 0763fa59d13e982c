use Rattle.law_alloc.proofs.Computed.{lowest_is_taken, held_extent_is_passed_over, held_byte_is_passed_over, last_page_lowers_sgam, nothing_is_left, lowest_held_is_told, boot_keeps_its_extent, last_page_frees_its_extent, marked_extent_stays_in_use, marked_extent_is_freed, bad_map_is_told, slot_comes_first, marked_page_comes_next, free_extent_is_marked, mark_is_taken_back, new_iam_page_says, lowest_are_created, entry_is_found}
use Rattle.law_alloc.proofs.examples.Goals as goal

pub returns : goal.returns
returns c = record {
  lowest = lowest_is_taken;
  extent = held_extent_is_passed_over;
  byte = held_byte_is_passed_over;
  last = last_page_lowers_sgam;
  nothing = nothing_is_left;
  told = lowest_held_is_told;
  boot = boot_keeps_its_extent;
  freed = last_page_frees_its_extent;
  in_use = marked_extent_stays_in_use;
  marked = marked_extent_is_freed;
  bad = bad_map_is_told;
  slot = slot_comes_first;
  page = marked_page_comes_next;
  mark = free_extent_is_marked;
  back = mark_is_taken_back;
  iam = new_iam_page_says;
  created = lowest_are_created;
  found = entry_is_found;
}
