-- Taking back the newest part of a log, and what its items meet at each atom.
use Rattle.std.proofs.Common.{◌≡◌, ℕ, ◌+◌, ◌<◌, Bool, true, false, eqb, ltb, leb, ◌&&◌, List, [], ◌∷◌, ◌++◌, length, Option, Some, None, inl, inr, refl, sym, ap, ◌∙◌, subst}
use Rattle.std.specs.Prelude.{if◌then◌else◌, MatchOption}
use lib.Pointwise.{bytes_decides}
use Rattle.std.proofs.lemmas.Bool.{false≢true, cases_Bool, and_parts, eqb-true, both_ways, cond_both, or_parts, ltb-true}
use Rattle.spec_file.specs.declared.geometry.Geometry.{Geometry}
use Rattle.spec_file.specs.Image.{Image, page, page_size}
use Rattle.spec_log.specs.declared.item.Cell.{Cell}
use Rattle.spec_log.specs.declared.item.Cell.TheVariants.{Bytes, Bit}
use Rattle.spec_log.specs.declared.item.Record.{Record}
use Rattle.spec_log.specs.declared.item.Record.TheVariants.{Start, Change, Undo, Commit, Abort, Snap, Failed, CheckEnd}
use Rattle.spec_log.specs.Items.{tran_of, has_cell_form}
use Rattle.spec_log.specs.Log.{ends, has_ended, item_at}
use Rattle.spec_log.specs.Cover.{byte_guard_by, bit_guard_by, IsCovered}
use Rattle.spec_file.specs.Roles.{role_of}
use Rattle.spec_log.specs.Rules.{HaveForm, KeepsRules, Follows}
use Rattle.spec_log.specs.Cells.{read_cell}
use Rattle.spec_log.specs.Images.{take_back, shows_before, shows, page_of_cell, page_of_item, damage_of}
use Rattle.spec_log.specs.Sound.{IsSound}
use Rattle.law_undo.proofs.Atoms.{Atom, read, bit_in, turned, named_on, write_on, over, under, IsQuiet}
use Rattle.law_undo.proofs.LawAtAtom.{final_at, Writes}
use Rattle.law_undo.proofs.LawSteps.{item_writes}
use Rattle.law_undo.proofs.Reading.{IsInside, SameShape, shape_refl, shape_trans, inside_shape}
use Rattle.law_undo.proofs.ReadLogs.{cell_form, FormOf, form_at, read_take_back, shape_take_back}
use Rattle.law_undo.proofs.Guards.{atom, guard_of, guarded_inside, rules_at, follows_at}
use Rattle.law_undo.proofs.Views.{sound_rules, others_quiet}
use Rattle.law_undo.proofs.CellAtoms.{cell_shows}
use Rattle.law_undo.proofs.Law.{law_at, fits_at}

-- the chosen items of the newest part are taken back, the newest first
abbrev pub taken_part : (ℕ → Bool) → List Record → List Record → Image → Image
taken_part c opened [] image = image
taken_part c opened (x ∷ log) image = taken_part c opened log (if c (tran_of x) then take_back (log ++ opened) x image else image)

abbrev pub taken_part_at : (ℕ → Bool) → Atom → List Record → List Record → ℕ → ℕ
taken_part_at c k opened [] v = v
taken_part_at c k opened (x ∷ log) v = taken_part_at c k opened log (if c (tran_of x) then under (write_on (log ++ opened) k x) v else v)

pub shape_taken_part : (c : ℕ → Bool) (opened log : List Record) (b : Image) → SameShape b (taken_part c opened log b)
shape_taken_part c opened [] b = shape_refl b
shape_taken_part c opened (x ∷ log) b =
    let next : Image = if c (tran_of x) then take_back (log ++ opened) x b else b in
    shape_trans b next (taken_part c opened log next)
    (cond_both (c (tran_of x)) (take_back (log ++ opened) x b) b (SameShape b) (λ e. shape_take_back (log ++ opened) x b) (λ e. shape_refl b))
    (shape_taken_part c opened log next)

pub read_taken_part : (c : ℕ → Bool) (opened log : List Record) (b : Image) (k : Atom) → HaveForm (log ++ opened) → IsInside k b →
    read (taken_part c opened log b) k ≡ taken_part_at c k opened log (read b k)
read_taken_part c opened [] b k f inside = refl
read_taken_part c opened (x ∷ log) b k f inside =
    by_test (c (tran_of x))
    (read_taken_part c opened log (take_back (log ++ opened) x b) k f.1 (inside_shape k b (take_back (log ++ opened) x b) (shape_take_back (log ++ opened) x b) inside))
    (read_taken_part c opened log b k f.1 inside)
  where
    by_test : (s : Bool) → read (taken_part c opened log (take_back (log ++ opened) x b)) k ≡ taken_part_at c k opened log (read (take_back (log ++ opened) x b) k) →
        read (taken_part c opened log b) k ≡ taken_part_at c k opened log (read b k) →
        read (taken_part c opened log (if s then take_back (log ++ opened) x b else b)) k ≡ taken_part_at c k opened log (if s then under (write_on (log ++ opened) k x) (read b k) else read b k)
    by_test true p q = p ∙ ap (taken_part_at c k opened log) (read_take_back (log ++ opened) x b k f inside)
    by_test false p q = q

-- each chosen item, as it is taken back, finds at the atom what it wrote
abbrev pub TellsAt : (ℕ → Bool) → Atom → List Record → List Record → ℕ → Type 0
TellsAt c k opened [] v = Unit {0}
TellsAt c k opened (x ∷ log) v =
    (c (tran_of x) ≡ true → MatchOption (write_on (log ++ opened) k x) (Unit {0}) (λ q. v ≡ q.1))
    × TellsAt c k opened log (if c (tran_of x) then under (write_on (log ++ opened) k x) v else v)

-- where the chosen are quiet there is nothing to meet
tells_quiet : (c : ℕ → Bool) (k : Atom) (opened log : List Record) (v : ℕ) → ((t : ℕ) → c t ≡ true → IsQuiet t k (log ++ opened)) → TellsAt c k opened log v
tells_quiet c k opened [] v quiet = tt
tells_quiet c k opened (x ∷ log) v quiet = (
  (λ e. subst (λ w. MatchOption w (Unit {0}) (λ q. v ≡ q.1)) (sym ((quiet (tran_of x) e).0 refl)) tt),
  tells_quiet c k opened log (if c (tran_of x) then under (write_on (log ++ opened) k x) v else v) (λ t e. (quiet t e).1),
)

-- from the file as it stands
pub tells_final : (c : ℕ → Bool) (g : Geometry) (opened log : List Record) (b : Image) (p i j : ℕ) → IsInside (atom g (length b) p i j) b → IsSound g (length b) opened b log →
    ((t : ℕ) → c t ≡ true → has_ended (log ++ opened) t ≡ false) →
    TellsAt c (atom g (length b) p i j) opened log (final_at (atom g (length b) p i j) opened log (read b (atom g (length b) p i j)))
tells_final c g opened [] b p i j inside s open_now = tt
tells_final c g opened (x ∷ log) b p i j inside s open_now =
    let k = atom g (length b) p i j in
    let rules_here = rules_at g (length b) p i j (log ++ opened) (sound_rules g (length b) opened b log s.3) in
    by_write (write_on (log ++ opened) k x) (c (tran_of x)) refl
    (item_writes k (read b k) opened log x rules_here (follows_at g (length b) p i j (log ++ opened) x s.1) (fits_at g opened log b p i j x inside s) (law_at g opened log b p i j inside s.3))
    (tells_final c g opened log b p i j inside s.3 (λ t e. (or_parts (ends t x) (has_ended (log ++ opened) t) (open_now t e)).1))
  where
    other : (u t : ℕ) → c u ≡ false → c t ≡ true → eqb u t ≡ false
    other u t left taken = elim (cases_Bool (eqb u t)) [
      | inl e ↦ absurd (both_ways (c u) left (subst (λ w. c w ≡ true) (sym (eqb-true u t e)) taken))
      | inr e ↦ e
    ]

    by_write : (w : Option (ℕ × ℕ)) (chosen : Bool) → c (tran_of x) ≡ chosen →
        MatchOption w (Unit {0}) (Writes (atom g (length b) p i j) (read b (atom g (length b) p i j)) opened log (tran_of x)) →
        TellsAt c (atom g (length b) p i j) opened log (final_at (atom g (length b) p i j) opened log (read b (atom g (length b) p i j))) →
        (chosen ≡ true → MatchOption w (Unit {0}) (λ q. over w (final_at (atom g (length b) p i j) opened log (read b (atom g (length b) p i j))) ≡ q.1))
        × TellsAt c (atom g (length b) p i j) opened log
        (if chosen then under w (over w (final_at (atom g (length b) p i j) opened log (read b (atom g (length b) p i j)))) else over w (final_at (atom g (length b) p i j) opened log (read b (atom g (length b) p i j))))
    by_write None true e written ih = ((λ h. tt), ih)
    by_write None false e written ih = ((λ h. tt), ih)
    by_write (Some q) true e written ih = ((λ h. refl), subst (TellsAt c (atom g (length b) p i j) opened log) (sym written.finds) ih)
    by_write (Some q) false e written ih = (
      (λ h. absurd (false≢true h)),
      tells_quiet c (atom g (length b) p i j) opened log q.1 (λ t so.
          others_quiet (atom g (length b) p i j) (log ++ opened) (tran_of x) t (rules_at g (length b) p i j (log ++ opened) (sound_rules g (length b) opened b log s.3))
          written.holder (other (tran_of x) t e so) (or_parts (ends t x) (has_ended (log ++ opened) t) (open_now t so)).1),
    )

-- the cell of a Change lies in the file
covered_inside : (g : Geometry) (pages : ℕ) (log : List Record) (t : ℕ) (cell : Cell) (before after : List ℕ) → has_cell_form cell before after ≡ true →
    IsCovered g pages log t cell (length after) → page_of_cell cell < pages
covered_inside g pages log t (Bytes q off) before after form covered =
    let a = and_parts (ltb 0 (length after) && leb (off + length after) 8192) (eqb (length before) (length after)) form in
    let some : 0 < length after = ltb-true 0 (length after) (and_parts (ltb 0 (length after)) (leb (off + length after) 8192) a.0).0 in
    (guarded_inside log t pages q.0 (byte_guard_by (role_of g q.0) g pages q.0 (off + 0)) (covered.0 0 some)).0
covered_inside g pages log t (Bit q n) before after form covered = (guarded_inside log t pages q.0 (bit_guard_by (role_of g q.0) g pages q.0 n) covered).0

-- so does that of a Change that is named
abbrev pub NamesInside : ℕ → Option Record → Type 0
NamesInside pages None = Unit {0}
NamesInside pages (Some (Start session index tran number changes size takes)) = Unit {0}
NamesInside pages (Some (Change tran cell before after)) = page_of_cell cell < pages
NamesInside pages (Some (Undo tran change)) = Unit {0}
NamesInside pages (Some (Commit tran)) = Unit {0}
NamesInside pages (Some (Abort tran)) = Unit {0}
NamesInside pages (Some (Snap session index)) = Unit {0}
NamesInside pages (Some (Failed session index failed)) = Unit {0}
NamesInside pages (Some (CheckEnd session index outcome)) = Unit {0}

item_inside : (g : Geometry) (pages : ℕ) (older : List Record) (x : Record) → HaveForm (x ∷ older) → Follows g pages older x → NamesInside pages (Some x)
item_inside g pages older (Start session index tran number changes size takes) f r = tt
item_inside g pages older (Change tran cell before after) f r = covered_inside g pages older tran.0 cell before after f.0 r.1
item_inside g pages older (Undo tran change) f r = tt
item_inside g pages older (Commit tran) f r = tt
item_inside g pages older (Abort tran) f r = tt
item_inside g pages older (Snap session index) f r = tt
item_inside g pages older (Failed session index failed) f r = tt
item_inside g pages older (CheckEnd session index outcome) f r = tt

named_inside : (g : Geometry) (pages : ℕ) (log : List Record) (lsn : ℕ) → HaveForm log → KeepsRules g pages log → NamesInside pages (item_at log lsn)
named_inside g pages [] lsn f r = tt
named_inside g pages (x ∷ older) lsn f r =
    cond_both (eqb lsn (length older + 1)) (Some x) (item_at older lsn) (NamesInside pages) (λ e. item_inside g pages older x f r.0) (λ e. named_inside g pages older lsn f.1 r.1)

-- the image has whole pages, as many as the file
pub record IsFile (pages : ℕ) (image : Image) : Type 0 where
  pub as_many : length image ≡ pages
  pub whole : (p : ℕ) → p < pages → length (page image p) ≡ page_size

pub file_shape : (pages : ℕ) (image other : Image) → SameShape image other → IsFile pages image → IsFile pages other
file_shape pages image other s f = record { as_many = s.pages ∙ f.as_many; whole = λ p lt. s.bytes p ∙ f.whole p lt }

-- what the atoms of an item's cell tell
abbrev pub TellsItem : Geometry → ℕ → List Record → Record → Image → Type 0
TellsItem g pages older x image = (p i j : ℕ) → IsInside (atom g pages p i j) image →
    MatchOption (write_on older (atom g pages p i j) x) (Unit {0}) (λ q. read image (atom g pages p i j) ≡ q.1)

shows_named : (g : Geometry) (pages : ℕ) (o : Option Record) (image : Image) → FormOf o → NamesInside pages o → IsFile pages image →
    ((p i j : ℕ) → IsInside (atom g pages p i j) image → MatchOption (turned (named_on (atom g pages p i j) o)) (Unit {0}) (λ q. read image (atom g pages p i j) ≡ q.1)) →
    shows_before o image ≡ true
shows_named g pages None image form inside file tells = refl
shows_named g pages (Some (Start session index tran number changes size takes)) image form inside file tells = refl
shows_named g pages (Some (Change tran cell before after)) image form inside file tells =
    (bytes_decides (read_cell image cell (length before)) before).1
    (cell_shows image cell before after (guard_of g pages) form (subst (λ n. page_of_cell cell < n) (sym file.as_many) inside) (file.whole (page_of_cell cell) inside) before (cell_form cell before after form).as_long
    (λ p i j within h. subst (λ s. MatchOption {T = ℕ × ℕ} (turned (if s then Some (bit_in cell before (atom g pages p i j), bit_in cell after (atom g pages p i j)) else None)) (Unit {0}) (λ q. read image (atom g pages p i j) ≡ q.1)) h (tells p i j within)))
shows_named g pages (Some (Undo tran change)) image form inside file tells = refl
shows_named g pages (Some (Commit tran)) image form inside file tells = refl
shows_named g pages (Some (Abort tran)) image form inside file tells = refl
shows_named g pages (Some (Snap session index)) image form inside file tells = refl
shows_named g pages (Some (Failed session index failed)) image form inside file tells = refl
shows_named g pages (Some (CheckEnd session index outcome)) image form inside file tells = refl

shows_item : (g : Geometry) (pages : ℕ) (older : List Record) (x : Record) (image : Image) → HaveForm (x ∷ older) → Follows g pages older x → KeepsRules g pages older → IsFile pages image →
    TellsItem g pages older x image → shows older x image ≡ true
shows_item g pages older (Start session index tran number changes size takes) image f r rs file tells = refl
shows_item g pages older (Change tran cell before after) image f r rs file tells =
    let inside = covered_inside g pages older tran.0 cell before after f.0 r.1 in
    (bytes_decides (read_cell image cell (length after)) after).1
    (cell_shows image cell before after (guard_of g pages) f.0 (subst (λ n. page_of_cell cell < n) (sym file.as_many) inside) (file.whole (page_of_cell cell) inside) after refl
    (λ p i j within h. subst (λ s. MatchOption {T = ℕ × ℕ} (if s then Some (bit_in cell before (atom g pages p i j), bit_in cell after (atom g pages p i j)) else None) (Unit {0}) (λ q. read image (atom g pages p i j) ≡ q.1)) h (tells p i j within)))
shows_item g pages older (Undo tran change) image f r rs file tells =
    shows_named g pages (item_at older change.0) image (form_at older change.0 f.1) (named_inside g pages older change.0 f.1 rs) file tells
shows_item g pages older (Commit tran) image f r rs file tells = refl
shows_item g pages older (Abort tran) image f r rs file tells = refl
shows_item g pages older (Snap session index) image f r rs file tells = refl
shows_item g pages older (Failed session index failed) image f r rs file tells = refl
shows_item g pages older (CheckEnd session index outcome) image f r rs file tells = refl

-- the newest part meets no damage where its items find what they wrote
pub part_undamaged : (c : ℕ → Bool) (g : Geometry) (pages : ℕ) (opened log : List Record) (image : Image) → HaveForm (log ++ opened) → KeepsRules g pages (log ++ opened) → IsFile pages image →
    ((p i j : ℕ) → IsInside (atom g pages p i j) image → TellsAt c (atom g pages p i j) opened log (read image (atom g pages p i j))) →
    damage_of c (log ++ opened) image ≡ damage_of c opened (taken_part c opened log image)
part_undamaged c g pages opened [] image f r file tells = refl
part_undamaged c g pages opened (x ∷ log) image f r file tells =
    by_choice (c (tran_of x)) refl (λ next file_next tells_next. part_undamaged c g pages opened log next f.1 r.1 file_next tells_next)
  where
    by_choice : (chosen : Bool) → c (tran_of x) ≡ chosen →
        ((next : Image) → IsFile pages next → ((p i j : ℕ) → IsInside (atom g pages p i j) next → TellsAt c (atom g pages p i j) opened log (read next (atom g pages p i j))) →
        damage_of c (log ++ opened) next ≡ damage_of c opened (taken_part c opened log next)) →
        (if chosen then (if shows (log ++ opened) x image then damage_of c (log ++ opened) (take_back (log ++ opened) x image) else Some (page_of_item (log ++ opened) x)) else damage_of c (log ++ opened) image)
        ≡ damage_of c opened (taken_part c opened log (if chosen then take_back (log ++ opened) x image else image))
    by_choice true e ih =
        let next = take_back (log ++ opened) x image in
        let shape = shape_take_back (log ++ opened) x image in
        ap (λ s. if s then damage_of c (log ++ opened) next else Some (page_of_item (log ++ opened) x))
        (shows_item g pages (log ++ opened) x image f r.0 r.1 file (λ p i j inside. (tells p i j inside).0 e))
        ∙ ih next (file_shape pages image next shape file) (λ p i j inside.
        let k = atom g pages p i j in
        let before : IsInside k image = record { page_in = subst (λ n. k.page < n) shape.pages inside.page_in; byte_in = subst (λ n. k.byte < n) (shape.bytes k.page) inside.byte_in } in
        subst (TellsAt c k opened log) (sym (read_take_back (log ++ opened) x image k f before))
        (subst (λ s. TellsAt c k opened log (if s then under (write_on (log ++ opened) k x) (read image k) else read image k)) e (tells p i j before).1))
    by_choice false e ih =
        ih image file (λ p i j inside.
        let k = atom g pages p i j in
        subst (λ s. TellsAt c k opened log (if s then under (write_on (log ++ opened) k x) (read image k) else read image k)) e (tells p i j inside).1)
