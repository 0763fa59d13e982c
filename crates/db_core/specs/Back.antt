-- A check takes items back from its pages.
use Rattle.std.specs.Prelude.{◌≡◌, ℕ, ◌+◌, ◌<◌, ◌≤◌, true, List, length, reverse, take, slice_get, count_by, Option, Some, ◌⊎◌}
use Rattle.spec_file.specs.Image.{Image}
use Rattle.spec_log.specs.declared.item.Record.{Record}
use Rattle.spec_log.specs.declared.item.Record.TheVariants.{Change, Undo}
use Rattle.spec_log.specs.Items.{tran_of}
use Rattle.spec_log.specs.Log.{item_at}
use Rattle.spec_log.specs.Images.{page_of_cell, take_back, taken_back}
use Rattle.vol_pool.specs.Cells.{FitsCell}
use Rattle.db_core.specs.declared.session.Check.{Check}
use Rattle.db_core.specs.declared.session.Phase.TheVariants as phases
use Rattle.db_core.specs.Reading.{reads_left}
use Rattle.db_core.specs.States.{is_among}

-- the first items, the newest first
abbrev pub first_back : List Record → ℕ → List Record
first_back items place = reverse (take place items)

-- the image with what these transactions have among the first items taken back
abbrev pub without : List ℕ → List Record → ℕ → Image → Image
without ongoing items place image = taken_back (is_among ongoing) (first_back items place) image

-- what a Change had left may be put
abbrev pub MayPutLeft : Image → Option Record → Type 0
MayPutLeft image (Some (Change tran cell before after)) = (page_of_cell cell < length image) × FitsCell cell after
MayPutLeft image other = Unit {0}

-- the item may be taken back, behind these older ones
abbrev pub MayTakeBack : Image → List Record → Record → Type 0
MayTakeBack image older (Change tran cell before after) = (page_of_cell cell < length image) × FitsCell cell before
MayTakeBack image older (Undo tran change) = (0 < change.0) × (change.0 ≤ length older) × MayPutLeft image (item_at older change.0)
MayTakeBack image older other = Unit {0}

-- each item that a check may still have to take back fits into its pages
pub record MayGoBack (items : List Record) (check : Check) : Type 0 where
  pub inside : check.place ≤ length items
  pub each : (n : ℕ) (x : Record) → n < check.place → slice_get items n ≡ Some x → MayTakeBack check.pages (first_back items n) x

-- the last item of the open transactions is taken back
pub record TakesLast (items : List Record) (old new : Check) : Type 0 where
  pub item : Record
  pub stands : slice_get items new.place ≡ Some item
  pub theirs : is_among old.ongoing.items (tran_of item) ≡ true
  pub below : new.place < old.place
  pub last : (image : Image) → without old.ongoing.items items old.place image ≡ without old.ongoing.items items (new.place + 1) image
  pub pages : new.pages ≡ take_back (first_back items new.place) item old.pages
  pub phase : new.phase ≡ old.phase

-- no item of the open transactions is left
pub record FindsNone (items : List Record) (old new : Check) : Type 0 where
  pub none : (image : Image) → without old.ongoing.items items old.place image ≡ image
  pub place : new.place ≡ 0
  pub pages : new.pages ≡ old.pages
  pub phase : new.phase ≡ phases.Undone

-- one step of a check: it takes one item back, or finds none
pub record GoesBack (items : List Record) (old new : Check) : Type 0 where
  pub point : new.point ≡ old.point
  pub ongoing : new.ongoing.items ≡ old.ongoing.items
  pub step : TakesLast items old new ⊎ FindsNone items old new

-- how many of the first items are of these transactions
abbrev pub theirs_among : List ℕ → List Record → ℕ → ℕ
theirs_among ongoing items place = count_by (λ x. is_among ongoing (tran_of x)) (take place items)

-- how many turns a check takes at most before the one that ends it
abbrev pub steps_left : List Record → Check → ℕ
steps_left items check = theirs_among check.ongoing.items items check.place + reads_left (length check.pages) check.phase
