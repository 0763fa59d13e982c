-- What a Commit changes, and what changes no image.
use Rattle.std.proofs.Common.{◌≡◌, ℕ, ◌+◌, ◌/◌, ◌%◌, Bool, true, false, eqb, ◌&&◌, ◌||◌, List, [], ◌∷◌, ◌++◌, length, Some, None, inl, refl, sym, ap, ◌∙◌}
use Rattle.std.specs.Prelude.{if◌then◌else◌, slice_index}
use Rattle.std.specs.List.{list_any}
use Rattle.std.proofs.lemmas.Bool.{false≢true, and_parts, and_from, both_ways, or_parts}
use Rattle.spec_file.specs.Image.{page, maps_start}
use Rattle.spec_log.specs.declared.item.Cell.{Cell}
use Rattle.spec_log.specs.declared.item.Cell.TheVariants.{Bytes, Bit}
use Rattle.spec_log.specs.declared.item.Record.{Record}
use Rattle.spec_log.specs.declared.item.Record.TheVariants.{Start, Change, Undo, Commit, Abort, Snap, Failed, CheckEnd}
use Rattle.spec_log.specs.Log.{has_ended, has_committed, has_undone}
use Rattle.spec_log.specs.Images.{committed_image, view_of}
use Rattle.law_undo.proofs.Atoms.{Atom, read, has_atom, bit_in, over, write_on, applied_at, applied_at-same}
use Rattle.law_undo.proofs.Holders.{unfinished_parts}
use Rattle.law_undo.proofs.LawAtAtom.{start_at, not_true, applied_still}
use Rattle.law_undo.proofs.LawSteps.{eqb_sym, or_swap}
use Rattle.law_undo.proofs.Reading.{inside_shape}
use Rattle.law_undo.proofs.ReadLogs.{read_applied, same_images}
use Rattle.law_undo.proofs.Guards.{atom, guard_of, rules_at}
use Rattle.law_undo.proofs.Views.{sound_rules, sound_forms, sound_commits, read_committed, read_view, shape_committed, shape_view}
use Rattle.law_undo.specs.Laws.{CommitShowsView, CommitChangesOwn, SilentItemsChangeNothing, has_byte, puts_byte}
use Rattle.law_undo.proofs.Law.{same_byte}

pub commit_shows_view : CommitShowsView
commit_shows_view g opened log b tran s =
    let whole = Commit tran ∷ log in
    let forms = sound_forms g (length b) opened b whole s in
    let none = sound_commits g (length b) opened b whole s in
    let none_before = sound_commits g (length b) opened b log s.3 in
    let not_ended = not_true (has_ended (log ++ opened) tran.0) (unfinished_parts (log ++ opened) tran.0 s.1).not_ended in
    same_images (guard_of g (length b)) b (committed_image opened whole b) (view_of tran.0 opened log b)
    (shape_committed opened whole b none) (shape_view tran.0 opened log b none_before)
    (λ p i j inside.
    let k = atom g (length b) p i j in
    let v = start_at k opened (read b k) in
    read_committed opened whole b k forms none inside
    ∙ applied_still (has_committed whole) k opened log (Commit tran) v refl
    ∙ applied_at-same (has_committed whole) (λ u. has_committed log u || eqb u tran.0) k opened log v
    (λ u. inl (or_swap (eqb tran.0 u) (has_committed log u) ∙ ap (λ c. has_committed log u || c) (eqb_sym tran.0 u)))
    ∙ sym (read_view tran.0 opened log b k (rules_at g (length b) p i j (log ++ opened) (sound_rules g (length b) opened b log s.3))
    (sound_forms g (length b) opened b log s.3) none_before inside not_ended))

-- a cell with an atom has its byte
atom_byte : (cell : Cell) (size : ℕ) (k : Atom) → has_atom cell size k ≡ true → has_byte cell size k.page k.byte ≡ true
atom_byte (Bytes q off) size k h = h
atom_byte (Bit q n) size k h =
    let a = and_parts (eqb q.0 k.page) (eqb (maps_start + n / 8) k.byte && eqb (n % 8) k.bit) h in
    and_from (eqb q.0 k.page) (eqb (maps_start + n / 8) k.byte) a.0 (and_parts (eqb (maps_start + n / 8) k.byte) (eqb (n % 8) k.bit) a.1).0

same_both : {A : Type 0} (s : Bool) (image : A) → (if s then image else image) ≡ image
same_both true image = refl
same_both false image = refl

-- who puts no byte there and undoes nothing changes nothing there
untouched : (k : Atom) (opened log : List Record) (t v : ℕ) → list_any (puts_byte t k.page k.byte) log ≡ false → has_undone log t ≡ false →
    applied_at (λ u. eqb u t) k opened log v ≡ v
untouched k opened [] t v puts undone = refl
untouched k opened (Start session index tran number changes size takes ∷ log) t v puts undone =
    same_both (eqb tran.0 t) (applied_at (λ u. eqb u t) k opened log v) ∙ untouched k opened log t v puts undone
untouched k opened (Change tran cell before after ∷ log) t v puts undone =
    let parts = or_parts (eqb tran.0 t && has_byte cell (length after) k.page k.byte) (list_any (puts_byte t k.page k.byte) log) puts in
    let ih = untouched k opened log t v parts.1 undone in
    by_own (eqb tran.0 t) (has_atom cell (length after) k) (atom_byte cell (length after) k) parts.0 ih
  where
    by_own : (own here : Bool) → (here ≡ true → has_byte cell (length after) k.page k.byte ≡ true) → (own && has_byte cell (length after) k.page k.byte) ≡ false →
        applied_at (λ u. eqb u t) k opened log v ≡ v →
        (if own then over (if here then Some (bit_in cell before k, bit_in cell after k) else None) (applied_at (λ u. eqb u t) k opened log v) else applied_at (λ u. eqb u t) k opened log v) ≡ v
    by_own false here f n ih = ih
    by_own true false f n ih = ih
    by_own true true f n ih = absurd (both_ways (has_byte cell (length after) k.page k.byte) n (f refl))
untouched k opened (Undo tran change ∷ log) t v puts undone =
    let parts = or_parts (eqb tran.0 t) (has_undone log t) undone in
    ap (λ s. if s then over (write_on (log ++ opened) k (Undo tran change)) (applied_at (λ u. eqb u t) k opened log v) else applied_at (λ u. eqb u t) k opened log v) parts.0
    ∙ untouched k opened log t v puts parts.1
untouched k opened (Commit tran ∷ log) t v puts undone = same_both (eqb tran.0 t) (applied_at (λ u. eqb u t) k opened log v) ∙ untouched k opened log t v puts undone
untouched k opened (Abort tran ∷ log) t v puts undone = same_both (eqb tran.0 t) (applied_at (λ u. eqb u t) k opened log v) ∙ untouched k opened log t v puts undone
untouched k opened (Snap session index ∷ log) t v puts undone = same_both (eqb 0 t) (applied_at (λ u. eqb u t) k opened log v) ∙ untouched k opened log t v puts undone
untouched k opened (Failed session index page ∷ log) t v puts undone = same_both (eqb 0 t) (applied_at (λ u. eqb u t) k opened log v) ∙ untouched k opened log t v puts undone
untouched k opened (CheckEnd session index outcome ∷ log) t v puts undone = same_both (eqb 0 t) (applied_at (λ u. eqb u t) k opened log v) ∙ untouched k opened log t v puts undone

pub commit_changes_own : CommitChangesOwn
commit_changes_own g opened log b tran p at s puts =
    let before = committed_image opened log b in
    let none = sound_commits g (length b) opened b log s.3 in
    let shape_before = shape_committed opened log b none in
    ap (λ image. slice_index (page image p) at) (commit_shows_view g opened log b tran s)
    ∙ same_byte b (view_of tran.0 opened log b) before p at (shape_view tran.0 opened log b none) shape_before
    (λ j lt lt2.
    let k = atom g (length b) p at j in
    read_applied (λ u. eqb u tran.0) opened log before k (sound_forms g (length b) opened b log s.3) (inside_shape k b before shape_before (record { page_in = lt; byte_in = lt2 }))
    ∙ untouched k opened log tran.0 (read before k) puts s.2.1)

pub silent_items_change_nothing : SilentItemsChangeNothing
silent_items_change_nothing opened log b (Start session index tran number changes size takes) h =
    record { final = refl; committed = refl; views = λ t. same_both (eqb tran.0 t) (view_of t opened log b) }
silent_items_change_nothing opened log b (Change tran cell before after) h = absurd (false≢true h)
silent_items_change_nothing opened log b (Undo tran change) h = absurd (false≢true h)
silent_items_change_nothing opened log b (Commit tran) h = absurd (false≢true h)
silent_items_change_nothing opened log b (Abort tran) h =
    record { final = refl; committed = refl; views = λ t. same_both (eqb tran.0 t) (view_of t opened log b) }
silent_items_change_nothing opened log b (Snap session index) h = record { final = refl; committed = refl; views = λ t. same_both (eqb 0 t) (view_of t opened log b) }
silent_items_change_nothing opened log b (Failed session index page) h = record { final = refl; committed = refl; views = λ t. same_both (eqb 0 t) (view_of t opened log b) }
silent_items_change_nothing opened log b (CheckEnd session index outcome) h = record { final = refl; committed = refl; views = λ t. same_both (eqb 0 t) (view_of t opened log b) }
