-- Planned changes that find what they say, one after another, and are covered: they go on doing so while others
-- write.
use Rattle.std.proofs.Common.{◌≡◌, ℕ, ◌+◌, true, List, [], ◌∷◌, length, Option, Some, None, refl, sym, ap, ◌∙◌, subst}
use Rattle.std.specs.Prelude.{if◌then◌else◌}
use Rattle.spec_file.specs.declared.data.Resource.{Resource}
use Rattle.spec_file.specs.declared.geometry.Geometry.{Geometry}
use Rattle.spec_file.specs.Image.{Image}
use Rattle.spec_log.specs.declared.item.Cell.{Cell}
use Rattle.spec_log.specs.declared.item.Cell.TheVariants.{Bytes, Bit}
use Rattle.spec_log.specs.declared.item.Record.{Record}
use Rattle.spec_log.specs.Items.{tran_of, has_cell_form}
use Rattle.spec_log.specs.Log.{holds}
use Rattle.spec_log.specs.Cells.{read_cell, put}
use Rattle.spec_log.specs.Cover.{IsCovered, HoldsGuard, byte_guard, bit_guard}
use Rattle.spec_log.specs.Images.{apply}
use Rattle.spec_log.specs.Rules.{Follows, KeepsRules, HaveForm}
use Rattle.law_undo.proofs.Atoms.{read, has_atom, bit_in, write_on, over}
use Rattle.law_undo.proofs.Reading.{IsInside, SameShape, shape_trans, inside_shape, shape_put, read_put}
use Rattle.law_undo.proofs.ReadLogs.{cell_form, read_apply, shape_apply}
use Rattle.law_undo.proofs.Guards.{guard_of, atom, covered_at, follows_at, rules_at}
use Rattle.law_undo.proofs.Holders.{one_holder}
use Rattle.law_undo.proofs.CellAtoms.{same_cell}
use Rattle.law_undo.proofs.Views.{writer_holds}
use Rattle.law_undo.proofs.Shapes.{shape_sym}
use Rattle.spec_plan.specs.declared.plan.Planned.{Planned}
use Rattle.law_net.specs.Plans.{Find, HaveCells}
use Rattle.law_net.specs.NetLaw.{HaveBytes}
use Rattle.law_net.proofs.PlannedCells.{AreCovered}
use Rattle.law_run.proofs.Others.{holds_other}

-- changes of transaction t that are planned over an image after a log
pub record ArePlanned (g : Geometry) (pages : ℕ) (log : List Record) (t : ℕ) (image : Image) (changes : List Planned) : Type 0 where
  pub cells : HaveCells changes
  pub bytes : HaveBytes changes
  pub covered : AreCovered g pages log t changes
  pub find : Find image changes

-- two images have the same where the transaction holds the guard
abbrev pub SameWhereHeld : Geometry → ℕ → List Record → ℕ → Image → Image → Type 0
SameWhereHeld g pages log t x y =
    (p i j : ℕ) → IsInside (atom g pages p i j) x → holds log t (guard_of g pages p i j) ≡ true → read x (atom g pages p i j) ≡ read y (atom g pages p i j)

shape_both : (x y : Image) (cell : Cell) (bytes : List ℕ) → SameShape x y → SameShape (put x cell bytes) (put y cell bytes)
shape_both x y cell bytes s =
    shape_trans (put x cell bytes) x (put y cell bytes) (shape_sym x (put x cell bytes) (shape_put x cell bytes))
    (shape_trans x y (put y cell bytes) s (shape_put y cell bytes))

same_put : (g : Geometry) (pages : ℕ) (log : List Record) (t : ℕ) (x y : Image) (c : Planned) → has_cell_form c.cell c.before c.after ≡ true →
    SameShape x y → SameWhereHeld g pages log t x y → SameWhereHeld g pages log t (put x c.cell c.after) (put y c.cell c.after)
same_put g pages log t x y c form s same p i j inside held =
    let k = atom g pages p i j in
    let f = cell_form c.cell c.before c.after form in
    let inside_x = inside_shape k (put x c.cell c.after) x (shape_sym x (put x c.cell c.after) (shape_put x c.cell c.after)) inside in
    let inside_y = inside_shape k x y s inside_x in
    read_put x c.cell c.after k f.left inside_x
    ∙ ap (λ v. if has_atom c.cell (length c.after) k then bit_in c.cell c.after k else v) (same p i j inside_x held)
    ∙ sym (read_put y c.cell c.after k f.left inside_y)

pub find_same : (g : Geometry) (pages : ℕ) (log : List Record) (t : ℕ) (x y : Image) (changes : List Planned) → HaveCells changes → AreCovered g pages log t changes →
    SameShape x y → SameWhereHeld g pages log t x y → Find x changes → Find y changes
find_same g pages log t x y [] cells covered s same find = tt
find_same g pages log t x y (c ∷ cs) cells covered s same find =
    let long : length c.before ≡ length c.after = (cell_form c.cell c.before c.after cells.0).as_long in
    let cell_same : read_cell x c.cell (length c.before) ≡ read_cell y c.cell (length c.before) =
    same_cell x y c.cell (length c.before) (guard_of g pages) s
    (λ p i j inside has. same p i j inside (covered_at g pages log t c.cell (length c.after) p i j covered.0
    (subst (λ n. has_atom c.cell n (atom g pages p i j) ≡ true) long has))) in (
      sym cell_same ∙ find.0,
      find_same g pages log t (put x c.cell c.after) (put y c.cell c.after) cs cells.1 covered.1 (shape_both x y c.cell c.after s)
          (same_put g pages log t x y c cells.0 s same) find.1,
    )

-- what others append writes nothing that the transaction holds
pub others_write : (g : Geometry) (pages : ℕ) (log : List Record) (t : ℕ) (x : Record) (image : Image) → KeepsRules g pages log → HaveForm (x ∷ log) → Follows g pages log x →
    (tran_of x ≡ t → ⊥) → SameWhereHeld g pages log t image (apply log x image)
others_write g pages log t x image rules forms follows differ p i j inside held =
    let k = atom g pages p i j in
    sym (read_apply log x image k forms inside ∙ still (write_on log k x) (λ q w.
    differ (one_holder k log (tran_of x) t (rules_at g pages p i j log rules) (writer_holds k log x q (rules_at g pages p i j log rules) (follows_at g pages p i j log x follows) w) held)))
  where
    still : (o : Option (ℕ × ℕ)) → ((q : ℕ × ℕ) → o ≡ Some q → ⊥) → over o (read image (atom g pages p i j)) ≡ read image (atom g pages p i j)
    still None none = refl
    still (Some q) none = absurd (none q refl)

guard_other : (log : List Record) (t : ℕ) (x : Record) (guard : Option Resource) → (tran_of x ≡ t → ⊥) → HoldsGuard log t guard → HoldsGuard (x ∷ log) t guard
guard_other log t x None differ h = h
guard_other log t x (Some r) differ h = holds_other x log t r differ ∙ h

-- a log in which the transaction holds as much covers as much
pub covered_more : (g : Geometry) (pages : ℕ) (log longer : List Record) (t u : ℕ) (cell : Cell) (size : ℕ) →
    ((guard : Option Resource) → HoldsGuard log t guard → HoldsGuard longer u guard) → IsCovered g pages log t cell size → IsCovered g pages longer u cell size
covered_more g pages log longer t u (Bytes p off) size more c = ((λ i lt. more (byte_guard g pages p.0 (off + i)) (c.0 i lt)), c.1)
covered_more g pages log longer t u (Bit p n) size more c = more (bit_guard g pages p.0 n) c

pub all_covered_more : (g : Geometry) (pages : ℕ) (log longer : List Record) (t u : ℕ) (changes : List Planned) →
    ((guard : Option Resource) → HoldsGuard log t guard → HoldsGuard longer u guard) → AreCovered g pages log t changes → AreCovered g pages longer u changes
all_covered_more g pages log longer t u [] more c = tt
all_covered_more g pages log longer t u (change ∷ changes) more c =
    (covered_more g pages log longer t u change.cell (length change.after) more c.0, all_covered_more g pages log longer t u changes more c.1)

-- planned changes stay planned under what others append
pub planned_other : (g : Geometry) (pages : ℕ) (log : List Record) (t : ℕ) (x : Record) (image : Image) (changes : List Planned) → KeepsRules g pages log → HaveForm (x ∷ log) →
    Follows g pages log x → (tran_of x ≡ t → ⊥) → ArePlanned g pages log t image changes → ArePlanned g pages (x ∷ log) t (apply log x image) changes
planned_other g pages log t x image changes rules forms follows differ p = record {
  cells = p.cells;
  bytes = p.bytes;
  covered = all_covered_more g pages log (x ∷ log) t t changes (λ guard. guard_other log t x guard differ) p.covered;
  find = find_same g pages log t image (apply log x image) changes p.cells p.covered (shape_apply log x image)
      (others_write g pages log t x image rules forms follows differ) p.find;
}
