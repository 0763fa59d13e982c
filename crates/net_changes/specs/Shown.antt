-- What is shown otherwise than before a statement, on the pages that it put.
use Rattle.std.specs.Prelude.{◌≡◌, ℕ, ◌==◌, ◌&&◌, not, Bool, List, filter, map, flat_map}
use Rattle.std.specs.List.{list_any, range_with_len}
use Rattle.spec_file.specs.declared.data.PageNo.{PageNo}
use Rattle.spec_file.specs.declared.data.Resource.{Resource}
use Rattle.spec_file.specs.declared.geometry.Geometry.{Geometry}
use Rattle.spec_file.specs.Image.{page}
use Rattle.spec_file.specs.Places.{Place, gam_place, sgam_place, is_free}
use Rattle.spec_chain.specs.Uses.{is_allocated}
use Rattle.spec_plan.specs.declared.plan.Planned.{Planned}
use Rattle.spec_words.specs.NetChanges.{is_turned, bit_change, is_byte_changed, begins_run, run_change, is_page_changed, page_changes}
use Rattle.spec_words.specs.Takes.{counts}
use Rattle.db_locks.specs.States.{PlanState}
use Rattle.net_changes.specs.declared.maps.Map.{Map}
use Rattle.net_changes.specs.declared.maps.Map.TheVariants.{Gam, Sgam}
use Rattle.net_changes.specs.declared.pair.Pair.{Pair}
use Rattle.net_changes.specs.Bytes.{is_kind}

-- the numbers of pages
abbrev pub numbers : List PageNo → List ℕ
numbers pages = map (λ (p : PageNo). p.0) pages

-- page p is among these
abbrev pub is_put : List PageNo → ℕ → Bool
is_put pages p = list_any (λ (q : PageNo). q.0 == p) pages

-- page p as it was shown at first, and as it is shown
pub record IsPair (state : PlanState) (p : ℕ) (pair : Pair) : Type 0 where
  pub before : pair.before.bytes ≡ page state.first p
  pub after : pair.after.bytes ≡ page state.shown p

-- where a map has the bit of an extent
abbrev pub map_place : Map → Geometry → ℕ → Place
map_place Gam g e = gam_place g e
map_place Sgam g e = sgam_place g e

-- the bits that turn, of those of so many extents from one on, rising
unfoldable pub bits_shown : PlanState → (ℕ → Place) → ℕ → ℕ → List Planned
bits_shown state place low n = map (λ e. bit_change state.first state.shown (place e)) (filter (λ e. is_turned state.first state.shown (place e)) (range_with_len low n))

-- the runs of PFS bytes that begin at one of so many pages from one on, rising
unfoldable pub runs_shown : PlanState → ℕ → ℕ → List Planned
runs_shown state low n = map (run_change state.view.shape.geometry state.first state.shown) (filter (begins_run state.view.shape.geometry state.first state.shown) (range_with_len low n))

-- page p, which objects may own, differs, and is an IAM page or is none
abbrev pub is_due : PlanState → Bool → ℕ → Bool
is_due state iams p = is_page_changed state.view.shape.geometry state.first state.shown p && is_kind iams (page state.shown p)

-- the changes of those of these pages that are due
unfoldable pub pages_shown : PlanState → Bool → List ℕ → List Planned
pages_shown state iams ps = flat_map (page_changes state.view.shape.geometry state.first state.shown) (filter (is_due state iams) ps)

-- page p becomes allocated by its PFS bit
abbrev pub byte_rises : PlanState → ℕ → Bool
byte_rises state p = not (is_allocated state.view.shape.geometry state.first p) && is_allocated state.view.shape.geometry state.shown p

-- an extent is no longer free
abbrev pub bit_falls : PlanState → ℕ → Bool
bit_falls state e = is_free state.view.shape.geometry state.first e && not (is_free state.view.shape.geometry state.shown e)

abbrev pub is_byte_shown : PlanState → ℕ → Bool
is_byte_shown state p = is_byte_changed state.view.shape.geometry state.first state.shown p

abbrev pub is_page_shown : PlanState → ℕ → Bool
is_page_shown state p = is_page_changed state.view.shape.geometry state.first state.shown p

abbrev pub counts_shown : PlanState → Resource → Bool
counts_shown state r = counts state.view.shape state.first state.shown r
