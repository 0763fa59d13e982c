-- Damage is met exactly where the opened log's own items meet it.
use Rattle.std.proofs.Common.{◌≡◌, ℕ, ◌<◌, Bool, true, false, eqb, ltb, not, ◌&&◌, ◌||◌, List, [], ◌∷◌, ◌++◌, length, Option, Some, None, ◌⊎◌, inl, inr, refl, sym, ap, ◌∙◌, subst}
use Rattle.std.specs.Prelude.{if◌then◌else◌, MatchOption, bytes_eq}
use Rattle.std.proofs.lemmas.Bool.{cases_Bool, and_parts, and_from, eq-eqb, ne_eqb, both_ways, or_left, or_right, true_from_ne_false}
use Rattle.spec_file.specs.declared.geometry.Geometry.{Geometry}
use Rattle.spec_file.specs.Image.{Image}
use Rattle.spec_log.specs.declared.item.Record.{Record}
use Rattle.spec_log.specs.declared.item.Record.TheVariants.{Start, Change, Undo, Commit, Abort, Snap, Failed, CheckEnd}
use Rattle.spec_log.specs.Items.{tran_of}
use Rattle.spec_log.specs.Log.{starts, takes_it, has_started, has_ended, has_taken, is_unfinished, holds, item_at}
use Rattle.spec_log.specs.Rules.{HaveForm, KeepsRules}
use Rattle.spec_log.specs.Images.{take_back, shows_before, shows, page_of_item, damage_of, final_image}
use Rattle.spec_log.specs.Sound.{IsSound, Fits, is_old}
use Rattle.law_undo.proofs.Atoms.{Atom, read, has_atom, bit_in, turned, named_on, write_on, over, under, applied_at, IsQuiet}
use Rattle.law_undo.proofs.Holders.{unfinished_parts, one_holder, quiet_without_take}
use Rattle.law_undo.proofs.LawAtAtom.{not_true}
use Rattle.law_undo.proofs.Reading.{IsInside, SameShape, shape_trans, inside_shape}
use Rattle.spec_log.proofs.RulesLaws.{older_rules, older_forms}
use Rattle.law_undo.proofs.ReadLogs.{cell_form, FormOf, form_at, read_applied, read_take_back, shape_applied, shape_take_back}
use Rattle.law_undo.proofs.Guards.{atom, guard_of, rules_at, follows_at}
use Rattle.law_undo.proofs.Views.{sound_rules, sound_forms, writer_holds}
use Rattle.law_undo.proofs.CellAtoms.{same_cell}
use Rattle.law_undo.proofs.TakenParts.{taken_part, taken_part_at, shape_taken_part, read_taken_part, TellsAt, tells_final, part_undamaged, IsFile, file_shape}
use Rattle.law_undo.specs.Laws.{DamageIsOld}

-- at each chosen item that writes the atom, two images have the same there
abbrev pub SameAt : (ℕ → Bool) → Atom → List Record → ℕ → ℕ → Type 0
SameAt c k [] m v = Unit {0}
SameAt c k (x ∷ older) m v =
    (c (tran_of x) ≡ true → MatchOption (write_on older k x) (Unit {0}) (λ q. m ≡ v))
    × SameAt c k older (if c (tran_of x) then under (write_on older k x) m else m) (if c (tran_of x) then under (write_on older k x) v else v)

if_some : (w : Option (ℕ × ℕ)) (P : Type 0) → P → MatchOption {T = ℕ × ℕ} w (Unit {0}) (λ q. P)
if_some None P p = tt
if_some (Some q) P p = p

same_equal : (c : ℕ → Bool) (k : Atom) (log : List Record) (m v : ℕ) → m ≡ v → SameAt c k log m v
same_equal c k [] m v e = tt
same_equal c k (x ∷ older) m v e = (
  (λ h. if_some (write_on older k x) (m ≡ v) e),
  same_equal c k older (if c (tran_of x) then under (write_on older k x) m else m) (if c (tran_of x) then under (write_on older k x) v else v)
      (ap (λ n. if c (tran_of x) then under (write_on older k x) n else n) e),
)

same_quiet : (c : ℕ → Bool) (k : Atom) (log : List Record) (m v : ℕ) → ((t : ℕ) → c t ≡ true → IsQuiet t k log) → SameAt c k log m v
same_quiet c k [] m v quiet = tt
same_quiet c k (x ∷ older) m v quiet = (
  (λ h. subst (λ w. MatchOption {T = ℕ × ℕ} w (Unit {0}) (λ q. m ≡ v)) (sym ((quiet (tran_of x) h).0 refl)) tt),
  same_quiet c k older (if c (tran_of x) then under (write_on older k x) m else m) (if c (tran_of x) then under (write_on older k x) v else v) (λ t h. (quiet t h).1),
)

-- either the chosen are quiet at the atom, or one of them isn't
pub record Writer (c : ℕ → Bool) (k : Atom) (log : List Record) : Type 0 where
  pub tran : ℕ
  pub chosen : c tran ≡ true
  pub writes : IsQuiet tran k log → ⊥

some_none : (q : ℕ × ℕ) → Some q ≡ None → ⊥
some_none q e = cc

quiet_or_writer : (c : ℕ → Bool) (k : Atom) (log : List Record) → ((t : ℕ) → c t ≡ true → IsQuiet t k log) ⊎ Writer c k log
quiet_or_writer c k [] = inl (λ t h. tt)
quiet_or_writer c k (x ∷ older) = by_write (write_on older k x) refl (c (tran_of x)) refl (quiet_or_writer c k older)
  where
    by_write : (w : Option (ℕ × ℕ)) → write_on older k x ≡ w → (s : Bool) → c (tran_of x) ≡ s → ((t : ℕ) → c t ≡ true → IsQuiet t k older) ⊎ Writer c k older →
        ((t : ℕ) → c t ≡ true → IsQuiet t k (x ∷ older)) ⊎ Writer c k (x ∷ older)
    by_write w e s h (inr writer) = inr (record { tran = writer.tran; chosen = writer.chosen; writes = λ quiet. writer.writes quiet.1 })
    by_write None e s h (inl quiet) = inl (λ t chosen. ((λ same. e), quiet t chosen))
    by_write (Some q) e true h (inl quiet) = inr (record { tran = tran_of x; chosen = h; writes = λ all. some_none q (sym e ∙ all.0 refl) })
    by_write (Some q) e false h (inl quiet) =
        inl (λ t chosen. ((λ same. absurd (both_ways (c (tran_of x)) h (subst (λ u. c u ≡ true) (sym same) chosen))), quiet t chosen))

-- two images meet the same damage where they have the same at each chosen item's cell
same_shows_named : (g : Geometry) (pages : ℕ) (o : Option Record) (x y : Image) → FormOf o → SameShape x y →
    ((p i j : ℕ) → IsInside (atom g pages p i j) x → MatchOption {T = ℕ × ℕ} (turned (named_on (atom g pages p i j) o)) (Unit {0}) (λ q. read x (atom g pages p i j) ≡ read y (atom g pages p i j))) →
    shows_before o x ≡ shows_before o y
same_shows_named g pages None x y form shape same = refl
same_shows_named g pages (Some (Start session index tran number changes size takes)) x y form shape same = refl
same_shows_named g pages (Some (Change tran cell before after)) x y form shape same =
    ap (λ bytes. bytes_eq bytes before) (same_cell x y cell (length before) (guard_of g pages) shape (λ p i j inside h.
    let here : has_atom cell (length after) (atom g pages p i j) ≡ true = subst (λ n. has_atom cell n (atom g pages p i j) ≡ true) (cell_form cell before after form).as_long h in
    subst (λ s. MatchOption {T = ℕ × ℕ} (turned (if s then Some (bit_in cell before (atom g pages p i j), bit_in cell after (atom g pages p i j)) else None)) (Unit {0}) (λ q. read x (atom g pages p i j) ≡ read y (atom g pages p i j))) here (same p i j inside)))
same_shows_named g pages (Some (Undo tran change)) x y form shape same = refl
same_shows_named g pages (Some (Commit tran)) x y form shape same = refl
same_shows_named g pages (Some (Abort tran)) x y form shape same = refl
same_shows_named g pages (Some (Snap session index)) x y form shape same = refl
same_shows_named g pages (Some (Failed session index failed)) x y form shape same = refl
same_shows_named g pages (Some (CheckEnd session index outcome)) x y form shape same = refl

same_shows : (g : Geometry) (pages : ℕ) (older : List Record) (z : Record) (x y : Image) → HaveForm (z ∷ older) → SameShape x y →
    ((p i j : ℕ) → IsInside (atom g pages p i j) x → MatchOption {T = ℕ × ℕ} (write_on older (atom g pages p i j) z) (Unit {0}) (λ q. read x (atom g pages p i j) ≡ read y (atom g pages p i j))) →
    shows older z x ≡ shows older z y
same_shows g pages older (Start session index tran number changes size takes) x y form shape same = refl
same_shows g pages older (Change tran cell before after) x y form shape same =
    ap (λ bytes. bytes_eq bytes after) (same_cell x y cell (length after) (guard_of g pages) shape (λ p i j inside h.
    subst (λ s. MatchOption {T = ℕ × ℕ} (if s then Some (bit_in cell before (atom g pages p i j), bit_in cell after (atom g pages p i j)) else None) (Unit {0}) (λ q. read x (atom g pages p i j) ≡ read y (atom g pages p i j))) h (same p i j inside)))
same_shows g pages older (Undo tran change) x y form shape same = same_shows_named g pages (item_at older change.0) x y (form_at older change.0 form.1) shape same
same_shows g pages older (Commit tran) x y form shape same = refl
same_shows g pages older (Abort tran) x y form shape same = refl
same_shows g pages older (Snap session index) x y form shape same = refl
same_shows g pages older (Failed session index failed) x y form shape same = refl
same_shows g pages older (CheckEnd session index outcome) x y form shape same = refl

-- taking back keeps two shapes the same
shape_both : (older : List Record) (z : Record) (x y : Image) → SameShape x y → SameShape (take_back older z x) (take_back older z y)
shape_both older z x y shape =
    let a = shape_take_back older z x in
    let b = shape_take_back older z y in
    record { pages = b.pages ∙ shape.pages ∙ sym a.pages; bytes = λ p. b.bytes p ∙ shape.bytes p ∙ sym (a.bytes p) }

same_damage : (c : ℕ → Bool) (g : Geometry) (pages : ℕ) (log : List Record) (x y : Image) → HaveForm log → SameShape x y →
    ((p i j : ℕ) → IsInside (atom g pages p i j) x → SameAt c (atom g pages p i j) log (read x (atom g pages p i j)) (read y (atom g pages p i j))) →
    damage_of c log x ≡ damage_of c log y
same_damage c g pages [] x y form shape same = refl
same_damage c g pages (z ∷ older) x y form shape same =
    by_choice (c (tran_of z)) refl (λ u w shape_next same_next. same_damage c g pages older u w form.1 shape_next same_next)
  where
    by_choice : (chosen : Bool) → c (tran_of z) ≡ chosen →
        ((u w : Image) → SameShape u w → ((p i j : ℕ) → IsInside (atom g pages p i j) u → SameAt c (atom g pages p i j) older (read u (atom g pages p i j)) (read w (atom g pages p i j))) →
        damage_of c older u ≡ damage_of c older w) →
        (if chosen then (if shows older z x then damage_of c older (take_back older z x) else Some (page_of_item older z)) else damage_of c older x)
        ≡ (if chosen then (if shows older z y then damage_of c older (take_back older z y) else Some (page_of_item older z)) else damage_of c older y)
    by_choice true e ih =
        ap (λ s. if s then damage_of c older (take_back older z x) else Some (page_of_item older z)) (same_shows g pages older z x y form shape (λ p i j inside. (same p i j inside).0 e))
        ∙ ap (λ d. if shows older z y then d else Some (page_of_item older z)) (ih (take_back older z x) (take_back older z y) (shape_both older z x y shape) (λ p i j inside.
        let k = atom g pages p i j in
        let a = shape_take_back older z x in
        let before : IsInside k x = record { page_in = subst (λ n. k.page < n) a.pages inside.page_in; byte_in = subst (λ n. k.byte < n) (a.bytes k.page) inside.byte_in } in
        subst (λ m. SameAt c k older m (read (take_back older z y) k)) (sym (read_take_back older z x k form before))
        (subst (SameAt c k older (under (write_on older k z) (read x k))) (sym (read_take_back older z y k form (inside_shape k x y shape before)))
        (subst (λ s. SameAt c k older (if s then under (write_on older k z) (read x k) else read x k) (if s then under (write_on older k z) (read y k) else read y k)) e (same p i j before).1))))
    by_choice false e ih = ih x y shape (λ p i j inside.
        let k = atom g pages p i j in
        subst (λ s. SameAt c k older (if s then under (write_on older k z) (read x k) else read x k) (if s then under (write_on older k z) (read y k) else read y k)) e (same p i j inside).1)

-- an old transaction stands after the run as it stood before
ended_same : (g : Geometry) (pages : ℕ) (opened : List Record) (b : Image) (log : List Record) (t : ℕ) → IsSound g pages opened b log → is_old opened t ≡ true → has_ended (log ++ opened) t ≡ has_ended opened t
ended_same g pages opened b [] t s old = refl
ended_same g pages opened b (Start session index tran number changes size takes ∷ log) t s old = ended_same g pages opened b log t s.3 old
ended_same g pages opened b (Change tran cell before after ∷ log) t s old = ended_same g pages opened b log t s.3 old
ended_same g pages opened b (Undo tran change ∷ log) t s old = ended_same g pages opened b log t s.3 old
ended_same g pages opened b (Commit tran ∷ log) t s old =
    ap (λ c. c || has_ended (log ++ opened) t) (ne_eqb tran.0 t (λ e. both_ways (is_old opened t) (subst (λ u. is_old opened u ≡ false) e s.2.0) old)) ∙ ended_same g pages opened b log t s.3 old
ended_same g pages opened b (Abort tran ∷ log) t s old =
    ap (λ c. c || has_ended (log ++ opened) t) (ne_eqb tran.0 t (λ e. both_ways (is_old opened t) (subst (λ u. is_old opened u ≡ false) e s.2) old)) ∙ ended_same g pages opened b log t s.3 old
ended_same g pages opened b (Snap session index ∷ log) t s old = ended_same g pages opened b log t s.3 old
ended_same g pages opened b (Failed session index failed ∷ log) t s old = ended_same g pages opened b log t s.3 old
ended_same g pages opened b (CheckEnd session index outcome ∷ log) t s old = ended_same g pages opened b log t s.3 old

started_more : (log opened : List Record) (t : ℕ) → has_started opened t ≡ true → has_started (log ++ opened) t ≡ true
started_more [] opened t h = h
started_more (x ∷ log) opened t h = or_right (starts t x) (has_started (log ++ opened) t) (started_more log opened t h)

taken_more : (log opened : List Record) (t : ℕ) (k : Atom) → has_taken opened t k.guard ≡ true → has_taken (log ++ opened) t k.guard ≡ true
taken_more [] opened t k h = h
taken_more (x ∷ log) opened t k h = or_right (takes_it t k.guard x) (has_taken (log ++ opened) t k.guard) (taken_more log opened t k h)

old_unfinished : (g : Geometry) (pages : ℕ) (opened : List Record) (b : Image) (log : List Record) (t : ℕ) → IsSound g pages opened b log → is_old opened t ≡ true →
    is_unfinished (log ++ opened) t ≡ is_unfinished opened t
old_unfinished g pages opened b log t s old =
    let started : has_started opened t ≡ true = (and_parts (ltb 0 t) (has_started opened t) old).1 in
    ap (λ c. ltb 0 t && (c && not (has_ended (log ++ opened) t))) (started_more log opened t started ∙ sym started)
    ∙ ap (λ c. ltb 0 t && (has_started opened t && not c)) (ended_same g pages opened b log t s old)

-- who is unfinished in the opened log is of it
unfinished_old : (opened : List Record) (t : ℕ) → is_unfinished opened t ≡ true → is_old opened t ≡ true
unfinished_old opened t h = let u = unfinished_parts opened t h in and_from (ltb 0 t) (has_started opened t) u.above u.started

-- each item of a log that keeps the rules has a transaction that started by then, or none
abbrev pub AreStarted : List Record → Type 0
AreStarted [] = Unit {0}
AreStarted (x ∷ older) = ((tran_of x ≡ 0) ⊎ (has_started (x ∷ older) (tran_of x) ≡ true)) × AreStarted older

are_started : (g : Geometry) (pages : ℕ) (log : List Record) → KeepsRules g pages log → AreStarted log
are_started g pages [] r = tt
are_started g pages (Start session index tran number changes size takes ∷ older) r = (inr (or_left (eqb tran.0 tran.0) (has_started older tran.0) (eq-eqb tran.0 tran.0 refl)), are_started g pages older r.1)
are_started g pages (Change tran cell before after ∷ older) r = (inr (unfinished_parts older tran.0 r.0.0).started, are_started g pages older r.1)
are_started g pages (Undo tran change ∷ older) r = (inr (unfinished_parts older tran.0 r.0.0).started, are_started g pages older r.1)
are_started g pages (Commit tran ∷ older) r = (inr (unfinished_parts older tran.0 r.0).started, are_started g pages older r.1)
are_started g pages (Abort tran ∷ older) r = (inr (unfinished_parts older tran.0 r.0.0).started, are_started g pages older r.1)
are_started g pages (Snap session index ∷ older) r = (inl refl, are_started g pages older r.1)
are_started g pages (Failed session index failed ∷ older) r = (inl refl, are_started g pages older r.1)
are_started g pages (CheckEnd session index outcome ∷ older) r = (inl refl, are_started g pages older r.1)

-- two choices that agree on what has started, and on none, choose the same items
damage_chosen : (c d : ℕ → Bool) (log : List Record) (image : Image) → AreStarted log → c 0 ≡ d 0 → ((t : ℕ) → has_started log t ≡ true → c t ≡ d t) → damage_of c log image ≡ damage_of d log image
damage_chosen c d [] image started zero_same same = refl
damage_chosen c d (x ∷ older) image started zero_same same =
    let here : c (tran_of x) ≡ d (tran_of x) = elim started.0 [ inl e ↦ subst (λ t. c t ≡ d t) (sym e) zero_same | inr h ↦ same (tran_of x) h ] in
    let before = λ (t : ℕ) (h : has_started older t ≡ true). same t (or_right (starts t x) (has_started older t) h) in
    ap (λ s. if s then (if shows older x image then damage_of c older (take_back older x image) else Some (page_of_item older x)) else damage_of c older image) here
    ∙ by_choice (d (tran_of x)) (damage_chosen c d older (take_back older x image) started.1 zero_same before) (damage_chosen c d older image started.1 zero_same before)
  where
    by_choice : (chosen : Bool) → damage_of c older (take_back older x image) ≡ damage_of d older (take_back older x image) → damage_of c older image ≡ damage_of d older image →
        (if chosen then (if shows older x image then damage_of c older (take_back older x image) else Some (page_of_item older x)) else damage_of c older image)
        ≡ (if chosen then (if shows older x image then damage_of d older (take_back older x image) else Some (page_of_item older x)) else damage_of d older image)
    by_choice true p q = ap (λ v. if shows older x image then v else Some (page_of_item older x)) p
    by_choice false p q = q

-- whoever writes in the run isn't of the opened log
writer_new : (opened log : List Record) (b : Image) (k : Atom) (x : Record) (q : ℕ × ℕ) → Fits opened log b x → write_on (log ++ opened) k x ≡ Some q → is_old opened (tran_of x) ≡ false
writer_new opened log b k (Start session index tran number changes size takes) q f w = f
writer_new opened log b k (Change tran cell before after) q f w = f.0
writer_new opened log b k (Undo tran change) q f w = f
writer_new opened log b k (Commit tran) q f w = f.0
writer_new opened log b k (Abort tran) q f w = f
writer_new opened log b k (Snap session index) q f w = refl
writer_new opened log b k (Failed session index failed) q f w = refl
writer_new opened log b k (CheckEnd session index outcome) q f w = refl

-- the run writes nothing where an unfinished transaction of the opened log holds the guard
part_unwritten : (g : Geometry) (opened log : List Record) (b : Image) (p i j t : ℕ) → IsSound g (length b) opened b log → is_unfinished opened t ≡ true →
    has_taken opened t (guard_of g (length b) p i j) ≡ true → (c : ℕ → Bool) (m v : ℕ) →
    (applied_at c (atom g (length b) p i j) opened log v ≡ v) × (taken_part_at c (atom g (length b) p i j) opened log m ≡ m)
part_unwritten g opened [] b p i j t s open_now taken c m v = (refl, refl)
part_unwritten g opened (x ∷ log) b p i j t s open_now taken c m v =
    let k = atom g (length b) p i j in
    let old = unfinished_old opened t open_now in
    let held : holds (log ++ opened) t k.guard ≡ true = and_from (is_unfinished (log ++ opened) t) (has_taken (log ++ opened) t k.guard)
    (old_unfinished g (length b) opened b log t s.3 old ∙ open_now) (taken_more log opened t k taken) in
    let ih = part_unwritten g opened log b p i j t s.3 open_now taken c m v in
    let none : write_on (log ++ opened) k x ≡ None = by_write (write_on (log ++ opened) k x) refl held old in (
      ap (λ w. if c (tran_of x) then over w (applied_at c k opened log v) else applied_at c k opened log v) none ∙ same_both (c (tran_of x)) (applied_at c k opened log v) ∙ ih.0,
      ap (taken_part_at c k opened log) (ap (λ w. if c (tran_of x) then under w m else m) none ∙ same_both (c (tran_of x)) m) ∙ ih.1,
    )
  where
    same_both : (s : Bool) (n : ℕ) → (if s then n else n) ≡ n
    same_both true n = refl
    same_both false n = refl

    by_write : (w : Option (ℕ × ℕ)) → write_on (log ++ opened) (atom g (length b) p i j) x ≡ w → holds (log ++ opened) t (guard_of g (length b) p i j) ≡ true → is_old opened t ≡ true →
        write_on (log ++ opened) (atom g (length b) p i j) x ≡ None
    by_write None e held old = e
    by_write (Some q) e held old =
        let k = atom g (length b) p i j in
        let rules_here = rules_at g (length b) p i j (log ++ opened) (sound_rules g (length b) opened b log s.3) in
        let writer = writer_holds k (log ++ opened) x q rules_here (follows_at g (length b) p i j (log ++ opened) x s.1) e in
        let same : tran_of x ≡ t = one_holder k (log ++ opened) (tran_of x) t rules_here writer held in
        absurd (both_ways (is_old opened t) (subst (λ u. is_old opened u ≡ false) same (writer_new opened log b k x q s.2 e)) old)

pub damage_is_old : DamageIsOld
damage_is_old g opened log b whole s =
    let now = is_unfinished (log ++ opened) in
    let before = is_unfinished opened in
    let file = final_image opened log b in
    let forms = sound_forms g (length b) opened b log s in
    let rules_now = sound_rules g (length b) opened b log s in
    let same_file : SameShape b file = shape_applied (λ t. true) opened log b in
    let rest = taken_part now opened log file in
    let same_rest : SameShape b rest = shape_trans b file rest same_file (shape_taken_part now opened log file) in
    let as_file : IsFile (length b) b = record { as_many = refl; whole = λ p lt. whole p [] lt } in
    let forms_before = older_forms log opened forms in
    let rules_before = older_rules g (length b) log opened rules_now in
    part_undamaged now g (length b) opened log file forms rules_now (file_shape (length b) b file same_file as_file) (λ p i j inside.
    let k = atom g (length b) p i j in
    let here : IsInside k b = record { page_in = subst (λ n. k.page < n) same_file.pages inside.page_in; byte_in = subst (λ n. k.byte < n) (same_file.bytes k.page) inside.byte_in } in
    subst (TellsAt now k opened log) (sym (read_applied (λ t. true) opened log b k forms here))
    (tells_final now g opened log b p i j here s (λ t h. not_true (has_ended (log ++ opened) t) (unfinished_parts (log ++ opened) t h).not_ended)))
    ∙ damage_chosen now before opened rest (are_started g (length b) opened rules_before) refl (λ t started.
    elim (cases_Bool (ltb 0 t)) [
      | inl above ↦ old_unfinished g (length b) opened b log t s (and_from (ltb 0 t) (has_started opened t) above started)
      | inr zero_t ↦ ap (λ a. a && (has_started (log ++ opened) t && not (has_ended (log ++ opened) t))) zero_t ∙ sym (ap (λ a. a && (has_started opened t && not (has_ended opened t))) zero_t)
    ])
    ∙ same_damage before g (length b) opened rest b forms_before (record { pages = sym same_rest.pages; bytes = λ p. sym (same_rest.bytes p) }) (λ p i j inside.
    let k = atom g (length b) p i j in
    let here : IsInside k b = record { page_in = subst (λ n. k.page < n) same_rest.pages inside.page_in; byte_in = subst (λ n. k.byte < n) (same_rest.bytes k.page) inside.byte_in } in
    elim (quiet_or_writer before k opened) [
      | inl quiet ↦ same_quiet before k opened (read rest k) (read b k) quiet
      | inr writer ↦
          let taken : has_taken opened writer.tran k.guard ≡ true = true_from_ne_false (has_taken opened writer.tran k.guard) (λ none. writer.writes (quiet_without_take writer.tran k opened (rules_at g (length b) p i j opened rules_before) none)) in
          same_equal before k opened (read rest k) (read b k)
          (read_taken_part now opened log file k forms (inside_shape k b file same_file here)
          ∙ ap (taken_part_at now k opened log) (read_applied (λ t. true) opened log b k forms here ∙ (part_unwritten g opened log b p i j writer.tran s writer.chosen taken (λ t. true) (read b k) (read b k)).0)
          ∙ (part_unwritten g opened log b p i j writer.tran s writer.chosen taken now (read b k) (read b k)).1)
    ])
