-- A plan that may be carried out: what it takes is free, what it holds covers its changes, and these find what
-- they say in the view.
use Rattle.std.proofs.Common.{◌≡◌, ℕ, ◌+◌, ◌*◌, ◌≤◌, true, ltb, leb, eqb, ◌&&◌, List, [], ◌∷◌, length, Option, Some, None, arith}
use Rattle.std.specs.Prelude.{IsSomeAnd}
use Rattle.std.proofs.lemmas.Bool.{and_parts, leb-true, eqb-true}
use Rattle.std.proofs.lemmas.List.Sums.{sum_by-cons}
use Rattle.spec_file.specs.declared.data.Resource.{Resource}
use Rattle.spec_file.specs.declared.geometry.Geometry.{Geometry}
use Rattle.spec_log.specs.declared.item.Cell.{Cell}
use Rattle.spec_log.specs.declared.item.Cell.TheVariants.{Bytes, Bit}
use Rattle.spec_log.specs.declared.item.Record.{Record}
use Rattle.spec_log.specs.Items.{has_cell_form}
use Rattle.spec_log.specs.Log.{holds}
use Rattle.spec_log.specs.Bytes.{change_length}
use Rattle.spec_log.specs.Cover.{IsCovered, byte_guard, bit_guard, HoldsGuard}
use Rattle.spec_plan.specs.declared.plan.Planned.{Planned}
use Rattle.spec_plan.specs.Planned.{planned_size}
use Rattle.law_net.specs.Plans.{HaveCells, IsCoveredBy, AreCoveredBy}

-- what the transaction holds covers each change
abbrev pub AreCovered : Geometry → ℕ → List Record → ℕ → List Planned → Type 0
AreCovered g pages log t [] = Unit {0}
AreCovered g pages log t (c ∷ cs) = IsCovered g pages log t c.cell (length c.after) × AreCovered g pages log t cs

some_holds : (P : Resource → Type 0) (log : List Record) (t : ℕ) → ((r : Resource) → P r → holds log t r ≡ true) → (guard : Option Resource) → IsSomeAnd guard P → HoldsGuard log t guard
some_holds P log t all None h = elim h [ ]
some_holds P log t all (Some r) h = all r h

covered_by : (P : Resource → Type 0) (g : Geometry) (pages : ℕ) (log : List Record) (t : ℕ) (cell : Cell) (size : ℕ) → ((r : Resource) → P r → holds log t r ≡ true) →
    IsCoveredBy P g pages cell size → IsCovered g pages log t cell size
covered_by P g pages log t (Bytes p off) size all c = ((λ i lt. some_holds P log t all (byte_guard g pages p.0 (off + i)) (c.0 i lt)), c.1)
covered_by P g pages log t (Bit p n) size all c = some_holds P log t all (bit_guard g pages p.0 n) c

pub all_covered_by : (P : Resource → Type 0) (g : Geometry) (pages : ℕ) (log : List Record) (t : ℕ) (changes : List Planned) → ((r : Resource) → P r → holds log t r ≡ true) →
    AreCoveredBy P g pages changes → AreCovered g pages log t changes
all_covered_by P g pages log t [] all c = tt
all_covered_by P g pages log t (change ∷ changes) all c =
    (covered_by P g pages log t change.cell (length change.after) all c.0, all_covered_by P g pages log t changes all c.1)

-- a cell has at most 8,192 bytes
cell_length : (cell : Cell) (before after : List ℕ) → has_cell_form cell before after ≡ true → length after ≤ 8192
cell_length (Bytes page off) before after h =
    let a = and_parts (ltb 0 (length after) && leb (off + length after) 8192) (eqb (length before) (length after)) h in
    let b = leb-true (off + length after) 8192 (and_parts (ltb 0 (length after)) (leb (off + length after) 8192) a.0).1 in
    omega (arith, b)
cell_length (Bit page n) before after h =
    let a = and_parts (ltb n 63904 && eqb (length before) 1 && eqb (length after) 1) _ h in
    let b = eqb-true (length after) 1 (and_parts (ltb n 63904 && eqb (length before) 1) (eqb (length after) 1) a.0).1 in
    omega (arith, b)

pub size_bound : (changes : List Planned) → HaveCells changes → planned_size changes ≤ 16404 * length changes
size_bound [] h = omega arith
size_bound (c ∷ cs) h =
    let one = cell_length c.cell c.before c.after h.0 in
    let more = size_bound cs h.1 in
    let sum : planned_size (c ∷ cs) ≡ change_length (length c.after) + planned_size cs = sum_by-cons (λ (d : Planned). change_length (length d.after)) c cs in
    omega (arith, one, more, sum)
