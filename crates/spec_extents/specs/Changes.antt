-- What taking and freeing of pages do to what extent e shows.
use Rattle.std.specs.Prelude.{◌≡◌, ◌≢◌, ◌⊎◌, ◌↔◌, ℕ, ◌/◌, true, false, IsTrue}
use Rattle.spec_file.specs.declared.geometry.Geometry.{Geometry}
use Rattle.spec_file.specs.declared.pfs.PfsKind.TheVariants as kinds
use Rattle.spec_file.specs.Pfs.{is_allocated_byte}
use Rattle.spec_file.specs.Roles.{is_ordinary}
use Rattle.spec_chain.specs.Uses.{Use}
use Rattle.spec_extents.specs.Extents.{Extent, IsMarked, IsMixed, Fits, FitsUse, FitsMark}

-- it shows the same
pub record ShowsSame (e : ℕ) (old new : Extent) : Type 0 where
  pub free : new.free ≡ old.free
  pub mixed : new.mixed ≡ old.mixed
  pub bytes : (p : ℕ) → p / 8 ≡ e → new.byte p ≡ old.byte p
  pub uses : (p : ℕ) → p / 8 ≡ e → (u : Use) → new.uses p u ↔ old.uses p u
  pub marks : (o : ℕ) → new.marks o ↔ old.marks o

-- page p isn't allocated, and is of an extent that is mixed or free. It gets the use u, and a byte that fits it. The
-- extent isn't free any more; whether it is still mixed is left open, since no rule asks for that.
pub record TakesSingle (g : Geometry) (e p : ℕ) (u : Use) (old new : Extent) : Type 0 where
  pub from : (old.mixed ≡ true) ⊎ (old.free ≡ true)
  pub at : p / 8 ≡ e
  pub ordinary : IsTrue (is_ordinary g p)
  pub unallocated : is_allocated_byte (old.byte p) ≡ false
  pub free : new.free ≡ false
  pub byte : FitsUse (new.byte p) u.place
  pub bytes : (q : ℕ) → q / 8 ≡ e → q ≢ p → new.byte q ≡ old.byte q
  pub uses : (q : ℕ) → q / 8 ≡ e → (v : Use) → new.uses q v ↔ (old.uses q v ⊎ ((q ≡ p) × (v ≡ u)))
  pub marks : (o : ℕ) → new.marks o → old.marks o

-- page p, which has the use u, gets another byte that fits it: it is filled
pub record FillsSingle (g : Geometry) (e p : ℕ) (u : Use) (old new : Extent) : Type 0 where
  pub from : old.uses p u
  pub at : p / 8 ≡ e
  pub ordinary : IsTrue (is_ordinary g p)
  pub free : new.free ≡ old.free
  pub mixed : new.mixed ≡ old.mixed
  pub byte : FitsUse (new.byte p) u.place
  pub bytes : (q : ℕ) → q / 8 ≡ e → q ≢ p → new.byte q ≡ old.byte q
  pub uses : (q : ℕ) → q / 8 ≡ e → (v : Use) → new.uses q v ↔ old.uses q v
  pub marks : (o : ℕ) → new.marks o ↔ old.marks o

-- page p of a marked extent gets another byte: it is taken, freed or filled
pub record ChangesByte (g : Geometry) (e p : ℕ) (old new : Extent) : Type 0 where
  pub from : IsMarked old
  pub at : p / 8 ≡ e
  pub ordinary : IsTrue (is_ordinary g p)
  pub free : new.free ≡ old.free
  pub mixed : new.mixed ≡ old.mixed
  pub byte : FitsMark (new.byte p)
  pub bytes : (q : ℕ) → q / 8 ≡ e → q ≢ p → new.byte q ≡ old.byte q
  pub uses : (q : ℕ) → q / 8 ≡ e → (v : Use) → new.uses q v ↔ old.uses q v
  pub marks : (o : ℕ) → new.marks o ↔ old.marks o

-- object o marks a free extent, and takes page p of it
pub record TakesExtent (g : Geometry) (e p o : ℕ) (old new : Extent) : Type 0 where
  pub from : old.free ≡ true
  pub at : p / 8 ≡ e
  pub ordinary : IsTrue (is_ordinary g p)
  pub free : new.free ≡ false
  pub mixed : new.mixed ≡ false
  pub byte : Fits (new.byte p) kinds.Uniform
  pub bytes : (q : ℕ) → q / 8 ≡ e → q ≢ p → new.byte q ≡ old.byte q
  pub uses : (q : ℕ) → q / 8 ≡ e → (v : Use) → new.uses q v → old.uses q v
  pub marks : (q : ℕ) → new.marks q ↔ (old.marks q ⊎ (q ≡ o))

-- a shared extent has a page to take
pub record IsStillShared (extent : Extent) : Type 0 where
  pub free : extent.free ≡ false
  pub mixed : extent.mixed ≡ true

-- extent e is free, and none of its pages is allocated
pub record IsEmptied (e : ℕ) (extent : Extent) : Type 0 where
  pub free : extent.free ≡ true
  pub mixed : extent.mixed ≡ false
  pub unallocated : (p : ℕ) → p / 8 ≡ e → is_allocated_byte (extent.byte p) ≡ false

-- some pages lose their uses, and their bytes become 0. Then the extent is mixed, or free where none is allocated.
pub record FreesSingles (g : Geometry) (e : ℕ) (gone : ℕ → Type 0) (old new : Extent) : Type 0 where
  pub from : IsMixed e old
  pub ordinary : (p : ℕ) → p / 8 ≡ e → gone p → IsTrue (is_ordinary g p)
  pub zeros : (p : ℕ) → p / 8 ≡ e → gone p → new.byte p ≡ 0
  pub bytes : (p : ℕ) → p / 8 ≡ e → (gone p → ⊥) → new.byte p ≡ old.byte p
  pub uses : (p : ℕ) → p / 8 ≡ e → (u : Use) → new.uses p u ↔ (old.uses p u × (gone p → ⊥))
  pub marks : (o : ℕ) → new.marks o → old.marks o
  pub bits : IsStillShared new ⊎ IsEmptied e new

-- a marked extent is free again
pub record FreesExtent (g : Geometry) (e : ℕ) (old new : Extent) : Type 0 where
  pub from : IsMarked old
  pub free : new.free ≡ true
  pub mixed : new.mixed ≡ old.mixed
  pub zeros : (p : ℕ) → p / 8 ≡ e → IsTrue (is_ordinary g p) → new.byte p ≡ 0
  pub bytes : (p : ℕ) → p / 8 ≡ e → is_ordinary g p ≡ false → new.byte p ≡ old.byte p
  pub uses : (p : ℕ) → p / 8 ≡ e → (u : Use) → new.uses p u → old.uses p u
  pub unmarked : IsMarked new → ⊥
