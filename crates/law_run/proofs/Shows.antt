-- Where a transaction holds the guard, or nobody else does, the file shows what it sees.
use Rattle.std.proofs.Common.{◌≡◌, ℕ, true, false, List, ◌++◌, length}
use Rattle.spec_file.specs.declared.data.Resource.{Resource}
use Rattle.spec_file.specs.declared.geometry.Geometry.{Geometry}
use Rattle.spec_file.specs.Image.{Image}
use Rattle.spec_log.specs.declared.item.Cell.{Cell}
use Rattle.spec_log.specs.declared.item.Record.{Record}
use Rattle.spec_log.specs.Log.{has_ended, is_unfinished, holds, IsFreeFor}
use Rattle.spec_log.specs.Cells.{read_cell}
use Rattle.spec_log.specs.Cover.{IsCovered}
use Rattle.spec_log.specs.Images.{view_of, final_image}
use Rattle.spec_log.specs.Sound.{IsSound, is_old}
use Rattle.law_undo.proofs.Reading.{inside_shape}
use Rattle.law_undo.proofs.Guards.{guard_of, atom, covered_at}
use Rattle.law_undo.proofs.Holders.{unfinished_parts}
use Rattle.law_undo.proofs.HolderLaws.{holders_are_one}
use Rattle.law_undo.proofs.LawAtAtom.{not_true}
use Rattle.law_undo.proofs.Law.{shows_at}
use Rattle.law_undo.specs.Laws.{IsOngoing}
use Rattle.law_undo.proofs.Views.{sound_rules}
use Rattle.law_undo.proofs.CellAtoms.{same_cell}
use Rattle.law_undo.proofs.Shapes.{shape_sym, view_shape, view_final_shape}
use Rattle.law_run.proofs.Plans.{SameWhereHeld}

-- what a longer log's holder holds is free for the transaction now
pub view_shows : (g : Geometry) (opened log : List Record) (b : Image) (t : ℕ) (longer : List Record) (u : ℕ) → IsSound g (length b) opened b log → IsOngoing opened log t →
    ((r : Resource) → holds longer u r ≡ true → IsFreeFor (log ++ opened) t r) →
    SameWhereHeld g (length b) longer u (view_of t opened log b) (final_image opened log b)
view_shows g opened log b t longer u s ongoing free p i j inside held =
    shows_at g opened log b t p i j
    (inside_shape (atom g (length b) p i j) (view_of t opened log b) b (shape_sym b (view_of t opened log b) (view_shape g opened log b t s)) inside)
    s ongoing (free (guard_of g (length b) p i j) held)

-- a cell that the transaction's holdings cover
pub covered_cell_shows : (g : Geometry) (opened log : List Record) (b : Image) (t : ℕ) (cell : Cell) (size : ℕ) → IsSound g (length b) opened b log →
    is_unfinished (log ++ opened) t ≡ true → is_old opened t ≡ false → IsCovered g (length b) (log ++ opened) t cell size →
    read_cell (view_of t opened log b) cell size ≡ read_cell (final_image opened log b) cell size
covered_cell_shows g opened log b t cell size s unfinished new covered =
    let rules = sound_rules g (length b) opened b log s in
    let ended : has_ended (log ++ opened) t ≡ false = not_true (has_ended (log ++ opened) t) (unfinished_parts (log ++ opened) t unfinished).not_ended in
    same_cell (view_of t opened log b) (final_image opened log b) cell size (guard_of g (length b)) (view_final_shape g opened log b t s)
    (λ p i j inside has. view_shows g opened log b t (log ++ opened) t s (new, ended)
    (λ r held v theirs. holders_are_one g (length b) (log ++ opened) r v t rules theirs held) p i j inside
    (covered_at g (length b) (log ++ opened) t cell size p i j covered has))
