-- The pages that a statement's view shows, and those that its transaction sees.
use Rattle.std.specs.Prelude.{◌≡◌, ℕ, zero, suc, ◌<◌, List, [], ◌∷◌, length, map, filter, slice_set, All, Bool, true, not, None, Contains}
use Rattle.std.specs.List.{range_with_len}
use Rattle.spec_file.specs.declared.data.PageNo.{PageNo}
use Rattle.spec_file.specs.declared.data.Resource.{Resource}
use Rattle.spec_file.specs.Image.{Image, AreBytes, page, page_size}
use Rattle.spec_words.specs.Takes.{is_among, in_order}
use Rattle.spec_words.specs.Views.{View}
use Rattle.spec_run.specs.Begun.{view_at}
use Rattle.pg_base.specs.declared.page.Page.{Page}
use Rattle.db_locks.specs.Guards.{carried}
use Rattle.db_locks.specs.States.{are_rising}
use Rattle.db_core.specs.declared.state.State.{State}
use Rattle.db_core.specs.Store.{run_is, log_of}
use Rattle.db_core.specs.Views.{tran_at}

-- what the transaction of session `at`, counted from 0, sees before its statement takes or puts anything
abbrev pub began_at : State → ℕ → View
began_at st at = view_at (run_is st) (log_of st) (tran_at st.sessions.items at)

-- nobody else holds any of these
abbrev pub AreFree : View → List Resource → Type 0
AreFree view taken = (r : Resource) → is_among taken r ≡ true → view.other r ≡ None

-- of these, in the order of takes, those that the transaction doesn't hold
abbrev pub not_held : (Resource → Bool) → List Resource → List Resource
not_held own taken = filter (λ r. not (own r)) (in_order taken)

-- an image with these pages put into it
abbrev pub with_pages : List PageNo → List Page → Image → Image
with_pages [] pages image = image
with_pages (p ∷ put) [] image = image
with_pages (p ∷ put) (x ∷ pages) image = slice_set (with_pages put pages image) p.0 x.bytes

-- what is seen of each page: as it was seen at first, with each bit turned that was shown otherwise at first
abbrev pub seen_pages : Image → Image → Image → Image
seen_pages first shown start = map (λ p. carried (page first p) (page shown p) (page start p)) (range_with_len 0 (length start))

abbrev pub IsWholePage : Page → Type 0
IsWholePage x = (length x.bytes ≡ page_size) × AreBytes x.bytes

-- these pages were put into a file with so many pages: each is one of the file, and has its bytes
pub record ArePut (put : List PageNo) (pages : List Page) (size : ℕ) : Type 0 where
  pub long : length pages ≡ length put
  pub rising : are_rising put ≡ true
  pub inside : (p : PageNo) → Contains put p → p.0 < size
  pub whole : All IsWholePage pages

-- page p stands at place k, behind lower ones
abbrev pub StandsAt : PageNo → List PageNo → ℕ → Type 0
StandsAt p [] k = ⊥
StandsAt p (q ∷ rest) zero = q.0 ≡ p.0
StandsAt p (q ∷ rest) (suc k) = (q.0 < p.0) × StandsAt p rest k

-- page p would stand at place k, behind lower ones and before a higher one
abbrev pub FitsAt : PageNo → List PageNo → ℕ → Type 0
FitsAt p [] zero = Unit {0}
FitsAt p [] (suc k) = ⊥
FitsAt p (q ∷ rest) zero = p.0 < q.0
FitsAt p (q ∷ rest) (suc k) = (q.0 < p.0) × FitsAt p rest k
