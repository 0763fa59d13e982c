-- A walk along a chain: where it stands, and what it has found.
use Rattle.std.specs.Prelude.{◌≡◌, ◌≢◌, ◌⊎◌, ◌↔◌, ℕ, ◌+◌, ◌-◌, ◌*◌, ◌/◌, ◌%◌, ◌<◌, ◌==◌, min, Bool, true, false, IsTrue, if◌then◌else◌, List, length, slice_index_or, Option, Some, None}
use Rattle.spec_file.specs.declared.geometry.Geometry.{Geometry}
use Rattle.spec_file.specs.Image.{Image, page}
use Rattle.spec_file.specs.Places.{interval_size}
use Rattle.spec_file.specs.CatalogRows.{CatalogRow}
use Rattle.spec_file.specs.Iam.{iam_interval, iam_mark}
use Rattle.spec_chain.specs.declared.end.ChainEnd.{ChainEnd}
use Rattle.spec_chain.specs.declared.end.ChainEnd.TheVariants as end
use Rattle.std.proofs.Math.ListN.{set}
use Rattle.spec_chain.specs.Chains.{next_of, pointer, holder, IsMet, or_else, fault_of_number, fault_of_bytes}
use Rattle.spec_chain.specs.Marks.{IsMarked}
use Rattle.spec_chain.specs.Uses.{IsUseBy}
use Rattle.spec_check.specs.declared.report.CheckError.{CheckError}
use Rattle.spec_check.specs.Chains.{before, interval_at, IsFirstOf, IsErrorAt, IsErrorOfChain}
use Rattle.ck_error.specs.Gathered.{Adds, Below}
use Rattle.ck_facts.specs.declared.map.PageUse.{PageUse}
use Rattle.ck_chain.specs.declared.walk.Link.{Link}
use Rattle.ck_chain.specs.declared.walk.Walk.{Walk}
use Rattle.ck_chain.specs.declared.walk.Owner.{Owner}
use Rattle.ck_chain.specs.declared.found.Found.{Found}
use Rattle.ck_chain.specs.Pages.{PrevDiffers, SequenceDiffers, IntervalRepeats, MarksBehind, SlotBehind, SlotHolds}
use Rattle.ck_chain.specs.Marking.{AreMarkedAs, MarksFront}

-- what is told of interval m before the k-th page: its first page, or 0 for none
abbrev pub IsFirstBefore : Image → CatalogRow → ℕ → ℕ → ℕ → Type 0
IsFirstBefore image row k m p =
    ((p ≡ 0) × ((j : ℕ) → j < k → interval_at image row j ≢ m))
    ⊎ ((p ≢ 0) × (j : ℕ) × (j < k) × IsFirstOf image row m j × (p ≡ pointer image row j))

-- the walk stands before the k-th page of the chain
pub record IsWalk (image : Image) (row : CatalogRow) (k : ℕ) (walk : Walk) : Type 0 where
  pub page : walk.link.page ≡ pointer image row k
  pub holder : walk.link.holder ≡ holder image row k
  pub before : walk.link.before ≡ before image row k
  pub count : walk.link.count ≡ k
  pub met : (p : ℕ) → p < length walk.met.items → IsTrue (slice_index_or walk.met.items p false) ↔ IsMet image row k p
  pub firsts : (m : ℕ) → m < 8 → IsFirstBefore image row k m (slice_index_or walk.firsts m 0)

-- a page that was met ends the chain
abbrev pub met_end : Bool → Option ChainEnd
met_end met = if met then Some end.Met else None

-- how a chain ends at the walk's next page, whose bytes were read, if it ends there
abbrev pub looked_at : Owner → Walk → List ℕ → Option ChainEnd
looked_at owner walk bytes =
    or_else (fault_of_number owner.geometry owner.pages walk.link.count walk.link.page)
    (or_else (fault_of_bytes owner.geometry owner.pages owner.id walk.link.page bytes)
    (met_end (slice_index_or walk.met.items walk.link.page false)))

-- how many extents of the page's interval are in the file
abbrev pub inside_count : Geometry → ℕ → List ℕ → ℕ
inside_count g pages bytes = min (pages / 8 - interval_size g * iam_interval bytes) (interval_size g)

-- the walk has gone on behind its next page
pub record GoesOnBehind (old : Walk) (bytes : List ℕ) (new : Walk) : Type 0 where
  pub link : new.link ≡ record { page = next_of bytes; holder = old.link.page; before = old.link.page; count = old.link.count + 1 }
  pub met : new.met.items ≡ set old.met.items old.link.page true
  pub firsts : new.firsts ≡ set old.firsts (iam_interval bytes)
      (if slice_index_or old.firsts (iam_interval bytes) 0 == 0 then old.link.page else slice_index_or old.firsts (iam_interval bytes) 0)

-- the errors that a page gives where the walk stands before it
abbrev pub PageGives : Owner → Link → ℕ → List ℕ → CheckError → Type 0
PageGives owner link first bytes x =
    ((PrevDiffers owner.id link.page link.before bytes x
    ⊎ (SequenceDiffers owner.id link.page link.count bytes x ⊎ IntervalRepeats owner.id link.page first x))
    ⊎ Below (interval_size owner.geometry) (MarksBehind owner.geometry (owner.pages / 8) owner.id link.page bytes) x)
    ⊎ ((link.count ≡ 0) × Below 8 (SlotBehind owner.pages owner.id link.page bytes) x)

-- the uses that it tells of
abbrev pub PageTells : Owner → Link → List ℕ → PageUse → Type 0
PageTells owner link bytes u =
    (u ≡ record { page = link.page; object = owner.id; place = 8 })
    ⊎ ((link.count ≡ 0) × Below 8 (SlotHolds owner.pages owner.id bytes) u)

-- all that a page gives was taken; `first` is the first page of its interval before it, 0 for none
pub record TakesPage (owner : Owner) (link : Link) (first count : ℕ) (bytes : List ℕ) (old new : Found) : Type 0 where
  pub errors : Adds old.errors.items new.errors.items (PageGives owner link first bytes)
  pub uses : Adds old.uses.items new.uses.items (PageTells owner link bytes)
  pub extents : AreMarkedAs owner.index (MarksFront bytes (interval_size owner.geometry * iam_interval bytes) count)
      old.extents.items new.extents.items

-- the errors of the k-th page and, of the first, those of its slots
abbrev pub GivesAt : Geometry → Image → CatalogRow → ℕ → CheckError → Type 0
GivesAt g image row k x =
    IsErrorAt g image row k x
    ⊎ ((k ≡ 0) × Below 8 (SlotBehind (length image) row.id (pointer image row k) (page image (pointer image row k))) x)

abbrev pub UseAt : Image → CatalogRow → ℕ → PageUse → Type 0
UseAt image row k u =
    (u ≡ record { page = pointer image row k; object = row.id; place = 8 })
    ⊎ ((k ≡ 0) × Below 8 (SlotHolds (length image) row.id (page image (pointer image row k))) u)

-- the k-th page marks the extent
abbrev pub MarksOf : Geometry → Image → CatalogRow → ℕ → ℕ → Type 0
MarksOf g image row k e =
    (interval_at image row k ≡ e / interval_size g) × IsTrue (iam_mark (page image (pointer image row k)) (e % interval_size g))

-- what the first k pages of a chain give
pub record IsFound (g : Geometry) (image : Image) (row : CatalogRow) (i k : ℕ) (old new : Found) : Type 0 where
  pub errors : Adds old.errors.items new.errors.items (Below k (GivesAt g image row))
  pub uses : Adds old.uses.items new.uses.items (Below k (UseAt image row))
  pub extents : AreMarkedAs i (λ e. (j : ℕ) × (j < k) × MarksOf g image row j e) old.extents.items new.extents.items

-- a use by the object
abbrev pub IsUseOf : Geometry → Image → CatalogRow → PageUse → Type 0
IsUseOf g image row u = (row.id ≡ u.object) × IsUseBy g image u.page row u.place

-- all that an object's chain gives
pub record IsChainRead (g : Geometry) (image : Image) (row : CatalogRow) (i : ℕ) (old new : Found) : Type 0 where
  pub errors : Adds old.errors.items new.errors.items (IsErrorOfChain g image row)
  pub uses : Adds old.uses.items new.uses.items (IsUseOf g image row)
  pub extents : AreMarkedAs i (IsMarked g image row) old.extents.items new.extents.items
