-- The laws on whole images, atom by atom.
use Rattle.std.proofs.Common.{◌≡◌, ℕ, ◌+◌, ◌-◌, ◌*◌, ◌/◌, ◌%◌, ◌<◌, ◌≤◌, Bool, true, false, eqb, ltb, ◌||◌, List, [], ◌∷◌, ◌++◌, length, Some, None, inl, inr, refl, sym, ap, ◌∙◌, subst, arith}
use Rattle.std.specs.Prelude.{slice_index}
use Rattle.std.specs.Int.{bit_at}
use Rattle.std.proofs.lemmas.Bool.{false≢true, cases_Bool, eqb-true, or_from, ne_eqb, false_from_ne_true, ltb-true, ltb-false}
use Rattle.std.proofs.lemmas.Nat.Bits.{same_from_bits}
use Rattle.std.proofs.lemmas.List.{get_or_past}
use Rattle.spec_file.specs.declared.data.Resource.{Resource}
use Rattle.spec_file.specs.declared.geometry.Geometry.{Geometry}
use Rattle.spec_file.specs.Image.{Image, page, maps_start}
use Rattle.spec_log.specs.declared.item.Record.{Record}
use Rattle.spec_log.specs.declared.item.Record.TheVariants.{Start, Change, Undo, Commit, Abort, Snap, Failed, CheckEnd}
use Rattle.spec_log.specs.Log.{has_ended, has_committed, has_taken, is_unfinished, IsFreeFor}
use Rattle.spec_log.specs.Cover.{bit_guard}
use Rattle.spec_log.specs.Rules.{KeepsRules}
use Rattle.spec_log.specs.Images.{final_image, committed_image, undone_image, view_of}
use Rattle.spec_log.specs.Sound.{IsSound}
use Rattle.law_undo.proofs.Atoms.{Atom, read, taken_back_at, IsQuiet, applied_at-same}
use Rattle.law_undo.proofs.Holders.{unfinished_parts, one_holder, quiet_without_take}
use Rattle.law_undo.proofs.LawAtAtom.{start_at, committed_at, final_at, view_at, Chain, LawAt, not_true, quiet_or_holds}
use Rattle.law_undo.proofs.LawSteps.{FitsAt, law_step, opened_law, taken_above}
use Rattle.law_undo.proofs.Reading.{IsInside, SameShape, inside_shape, shape_trans}
use Rattle.law_undo.proofs.ReadLogs.{cell_form, read_applied, read_taken_back, shape_applied, shape_taken_back, same_images}
use Rattle.law_undo.proofs.Guards.{no_byte_guard, atom, guard_of, first_guard, rules_at, follows_at}
use Rattle.law_undo.proofs.Views.{sound_rules, sound_forms, sound_commits, read_committed, read_view, shape_committed, shape_view}
use Rattle.law_undo.specs.Laws.{UndoGivesCommitted, FileShowsBytes, FileShowsBits, UndosBringBack, NobodySeesCommitted, IsOngoing}
use Rattle.law_undo.proofs.CellAtoms.{cell_atom}

-- what a Change found is what its transaction saw at each atom of the cell
pub fits_at : (g : Geometry) (opened log : List Record) (b : Image) (p i j : ℕ) (x : Record) → IsInside (atom g (length b) p i j) b → IsSound g (length b) opened b (x ∷ log) →
    FitsAt (atom g (length b) p i j) opened log (read b (atom g (length b) p i j)) x
fits_at g opened log b p i j (Start session index tran number changes size takes) inside s = s.2
fits_at g opened log b p i j (Change tran cell before after) inside s = (
  s.2.0,
  λ e.
      let k = atom g (length b) p i j in
      let form = cell_form cell before after s.0 in
      sym (read_view tran.0 opened log b k (rules_at g (length b) p i j (log ++ opened) (sound_rules g (length b) opened b log s.3))
      (sound_forms g (length b) opened b log s.3) (sound_commits g (length b) opened b log s.3) inside
      (not_true (has_ended (log ++ opened) tran.0) (unfinished_parts (log ++ opened) tran.0 s.1.0).not_ended))
      ∙ cell_atom (view_of tran.0 opened log b) cell before (length after) k form.as_long s.2.1 e,
)
fits_at g opened log b p i j (Undo tran change) inside s = s.2
fits_at g opened log b p i j (Commit tran) inside s = s.2.0
fits_at g opened log b p i j (Abort tran) inside s = s.2
fits_at g opened log b p i j (Snap session index) inside s = tt
fits_at g opened log b p i j (Failed session index page) inside s = tt
fits_at g opened log b p i j (CheckEnd session index outcome) inside s = tt

pub law_at : (g : Geometry) (opened log : List Record) (b : Image) (p i j : ℕ) → IsInside (atom g (length b) p i j) b → IsSound g (length b) opened b log →
    LawAt (atom g (length b) p i j) (read b (atom g (length b) p i j)) opened log
law_at g opened [] b p i j inside s = opened_law (atom g (length b) p i j) (read b (atom g (length b) p i j)) opened (rules_at g (length b) p i j opened s.1)
law_at g opened (x ∷ log) b p i j inside s =
    law_step (atom g (length b) p i j) (read b (atom g (length b) p i j)) opened log x
    (rules_at g (length b) p i j (log ++ opened) (sound_rules g (length b) opened b log s.3)) (follows_at g (length b) p i j (log ++ opened) x s.1)
    (fits_at g opened log b p i j x inside s) (law_at g opened log b p i j inside s.3)

pub undo_gives_committed : UndoGivesCommitted
undo_gives_committed g opened log b s =
    let file = final_image opened log b in
    let same_file : SameShape b file = shape_applied (λ t. true) opened log b in
    let forms = sound_forms g (length b) opened b log s in
    let none = sound_commits g (length b) opened b log s in
    same_images (guard_of g (length b)) b (undone_image opened log b) (committed_image opened log b)
    (shape_trans b file (undone_image opened log b) same_file (shape_taken_back (is_unfinished (log ++ opened)) (log ++ opened) file))
    (shape_committed opened log b none)
    (λ p i j inside.
    let k = atom g (length b) p i j in
    read_taken_back (is_unfinished (log ++ opened)) (log ++ opened) file k forms (inside_shape k b file same_file inside)
    ∙ ap (taken_back_at (is_unfinished (log ++ opened)) k (log ++ opened)) (read_applied (λ t. true) opened log b k forms inside)
    ∙ (law_at g opened log b p i j inside s).undone
    ∙ sym (read_committed opened log b k forms none inside))

-- at an atom whose guard nobody else holds
pub shows_at : (g : Geometry) (opened log : List Record) (b : Image) (t p i j : ℕ) → IsInside (atom g (length b) p i j) b → IsSound g (length b) opened b log →
    IsOngoing opened log t → IsFreeFor (log ++ opened) t (guard_of g (length b) p i j) →
    read (view_of t opened log b) (atom g (length b) p i j) ≡ read (final_image opened log b) (atom g (length b) p i j)
shows_at g opened log b t p i j inside s ongoing free =
    let k = atom g (length b) p i j in
    let forms = sound_forms g (length b) opened b log s in
    read_view t opened log b k (rules_at g (length b) p i j (log ++ opened) (sound_rules g (length b) opened b log s)) forms (sound_commits g (length b) opened b log s) inside ongoing.1
    ∙ (law_at g opened log b p i j inside s).seen t ongoing.0 ongoing.1 free
    ∙ sym (read_applied (λ t. true) opened log b k forms inside)

-- two images of one shape agree at a bit where they do if it is there
pub same_bit : (b x y : Image) (p at j : ℕ) → SameShape b x → SameShape b y →
    (p < length b → at < length (page b p) → bit_at (slice_index (page x p) at) j ≡ bit_at (slice_index (page y p) at) j) →
    bit_at (slice_index (page x p) at) j ≡ bit_at (slice_index (page y p) at) j
same_bit b x y p at j sx sy same = elim (cases_Bool (ltb p (length b))) [
  | inr past ↦
      let over_x : length x ≤ p = subst (λ n. n ≤ p) (sym sx.pages) (ltb-false p (length b) past) in
      let over_y : length y ≤ p = subst (λ n. n ≤ p) (sym sy.pages) (ltb-false p (length b) past) in
      ap (λ bytes. bit_at (slice_index bytes at) j) (get_or_past x p [] over_x ∙ sym (get_or_past y p [] over_y))
  | inl lt ↦ elim (cases_Bool (ltb at (length (page b p)))) [
    | inr past ↦
        let over_x : length (page x p) ≤ at = subst (λ n. n ≤ at) (sym (sx.bytes p)) (ltb-false at (length (page b p)) past) in
        let over_y : length (page y p) ≤ at = subst (λ n. n ≤ at) (sym (sy.bytes p)) (ltb-false at (length (page b p)) past) in
        ap (λ v. bit_at v j) (get_or_past (page x p) at 0 over_x ∙ sym (get_or_past (page y p) at 0 over_y))
    | inl lt2 ↦ same (ltb-true p (length b) lt) (ltb-true at (length (page b p)) lt2)
  ]
]

pub same_byte : (b x y : Image) (p at : ℕ) → SameShape b x → SameShape b y →
    ((j : ℕ) → p < length b → at < length (page b p) → bit_at (slice_index (page x p) at) j ≡ bit_at (slice_index (page y p) at) j) →
    slice_index (page x p) at ≡ slice_index (page y p) at
same_byte b x y p at sx sy same =
    same_from_bits (slice_index (page x p) at) (slice_index (page y p) at) (λ j. same_bit b x y p at j sx sy (same j))

pub file_shows_bytes : FileShowsBytes
file_shows_bytes g opened log b t p at r s ongoing guarded free =
    same_byte b (view_of t opened log b) (final_image opened log b) p at (shape_view t opened log b (sound_commits g (length b) opened b log s)) (shape_applied (λ t. true) opened log b)
    (λ j lt lt2. shows_at g opened log b t p at j (record { page_in = lt; byte_in = lt2 }) s ongoing
    (subst (IsFreeFor (log ++ opened) t) (sym (ap (λ o. first_guard o (bit_guard g (length b) p (8 * (at - maps_start) + j))) guarded)) free))

-- the guard of a bit of a map page, found at its byte
bit_guarded : (g : Geometry) (pages p n : ℕ) (r : Resource) → bit_guard g pages p n ≡ Some r → guard_of g pages p (maps_start + n / 8) (n % 8) ≡ r
bit_guarded g pages p n r e =
    let place : 8 * (maps_start + n / 8 - maps_start) + n % 8 ≡ n = same_place n in
    ap (λ o. first_guard o (bit_guard g pages p (8 * (maps_start + n / 8 - maps_start) + n % 8))) (no_byte_guard g pages p n (maps_start + n / 8) r e)
    ∙ ap (λ m. first_guard None (bit_guard g pages p m)) place ∙ ap (first_guard None) e
  where
    same_place : (n : ℕ) → 8 * (maps_start + n / 8 - maps_start) + n % 8 ≡ n
    same_place n = omega arith

pub file_shows_bits : FileShowsBits
file_shows_bits g opened log b t p n r s ongoing guarded free =
    let i = maps_start + n / 8 in
    let j = n % 8 in
    ap (λ v. eqb v 1) (same_bit b (view_of t opened log b) (final_image opened log b) p i j (shape_view t opened log b (sound_commits g (length b) opened b log s)) (shape_applied (λ t. true) opened log b)
    (λ lt lt2. shows_at g opened log b t p i j (record { page_in = lt; byte_in = lt2 }) s ongoing
    (subst (IsFreeFor (log ++ opened) t) (sym (bit_guarded g (length b) p n r guarded)) free)))

or_no : (b c : Bool) → c ≡ false → (b || c) ≡ b
or_no true c e = refl
or_no false c e = e

-- a transaction that is quiet at an atom sees there what is committed
quiet_view : (k : Atom) (opened log : List Record) (t v : ℕ) → IsQuiet t k (log ++ opened) → view_at t k opened log v ≡ committed_at k opened log v
quiet_view k opened log t v quiet =
    applied_at-same (λ u. has_committed log u || eqb u t) (has_committed log) k opened log (start_at k opened v) (λ u. elim (cases_Bool (eqb u t)) [
      | inl e ↦ inr (subst (λ w. IsQuiet w k (log ++ opened)) (sym (eqb-true u t e)) quiet)
      | inr e ↦ inl (or_no (has_committed log u) (eqb u t) e)
    ])

-- whole images from their atoms
seen_as_committed : (g : Geometry) (opened log : List Record) (b : Image) (t : ℕ) → IsSound g (length b) opened b log → has_ended (log ++ opened) t ≡ false →
    ((p i j : ℕ) → IsInside (atom g (length b) p i j) b → view_at t (atom g (length b) p i j) opened log (read b (atom g (length b) p i j)) ≡ committed_at (atom g (length b) p i j) opened log (read b (atom g (length b) p i j))) →
    view_of t opened log b ≡ committed_image opened log b
seen_as_committed g opened log b t s open_now same =
    let forms = sound_forms g (length b) opened b log s in
    let none = sound_commits g (length b) opened b log s in
    same_images (guard_of g (length b)) b (view_of t opened log b) (committed_image opened log b) (shape_view t opened log b none) (shape_committed opened log b none)
    (λ p i j inside.
    let k = atom g (length b) p i j in
    read_view t opened log b k (rules_at g (length b) p i j (log ++ opened) (sound_rules g (length b) opened b log s)) forms none inside open_now
    ∙ same p i j inside ∙ sym (read_committed opened log b k forms none inside))

pub undos_bring_back : UndosBringBack
undos_bring_back g opened log b t s new open_now none_left =
    let not_ended = not_true (has_ended (log ++ opened) t) (unfinished_parts (log ++ opened) t open_now).not_ended in
    seen_as_committed g opened log b t s not_ended (λ p i j inside.
    let k = atom g (length b) p i j in
    let rules_here = rules_at g (length b) p i j (log ++ opened) (sound_rules g (length b) opened b log s) in
    let law = law_at g opened log b p i j inside s in
    elim (quiet_or_holds (log ++ opened) t k rules_here open_now) [
      | inl quiet ↦ quiet_view k opened log t (read b k) quiet
      | inr held ↦
          law.seen t new not_ended (λ u h. one_holder k (log ++ opened) u t rules_here h held)
          ∙ sym (subst (λ ps. Chain k ps (committed_at k opened log (read b k)) (final_at k opened log (read b k))) none_left (law.chained t new held))
    ])

-- transaction 0 holds nothing, and never ends
pub zero_open : (g : Geometry) (pages : ℕ) (log : List Record) → KeepsRules g pages log → has_ended log 0 ≡ false
zero_open g pages [] r = refl
zero_open g pages (Start session index tran number changes size takes ∷ log) r = zero_open g pages log r.1
zero_open g pages (Change tran cell before after ∷ log) r = zero_open g pages log r.1
zero_open g pages (Undo tran change ∷ log) r = zero_open g pages log r.1
zero_open g pages (Commit tran ∷ log) r = or_from (eqb tran.0 0) (has_ended log 0) (above_zero tran.0 (unfinished_parts log tran.0 r.0).above) (zero_open g pages log r.1)
  where
    above_zero : (t : ℕ) → ltb 0 t ≡ true → eqb t 0 ≡ false
    above_zero t h = let lt : 0 < t = ltb-true 0 t h in ne_eqb t 0 (λ e. omega arith)
zero_open g pages (Abort tran ∷ log) r = or_from (eqb tran.0 0) (has_ended log 0) (above_zero tran.0 (unfinished_parts log tran.0 r.0.0).above) (zero_open g pages log r.1)
  where
    above_zero : (t : ℕ) → ltb 0 t ≡ true → eqb t 0 ≡ false
    above_zero t h = let lt : 0 < t = ltb-true 0 t h in ne_eqb t 0 (λ e. omega arith)
zero_open g pages (Snap session index ∷ log) r = zero_open g pages log r.1
zero_open g pages (Failed session index page ∷ log) r = zero_open g pages log r.1
zero_open g pages (CheckEnd session index outcome ∷ log) r = zero_open g pages log r.1

pub nobody_sees_committed : NobodySeesCommitted
nobody_sees_committed g opened log b s =
    let rules_now = sound_rules g (length b) opened b log s in
    seen_as_committed g opened log b 0 s (zero_open g (length b) (log ++ opened) rules_now) (λ p i j inside.
    let k = atom g (length b) p i j in
    let rules_here = rules_at g (length b) p i j (log ++ opened) rules_now in
    quiet_view k opened log 0 (read b k) (quiet_without_take 0 k (log ++ opened) rules_here
    (false_from_ne_true (has_taken (log ++ opened) 0 k.guard) (λ h. no_zero (taken_above k (log ++ opened) 0 rules_here h)))))
  where
    no_zero : ltb 0 0 ≡ true → ⊥
    no_zero h = false≢true h
