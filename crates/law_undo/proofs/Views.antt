-- A transaction's view and the committed image, applied in one go.
use Rattle.std.proofs.Common.{◌≡◌, ℕ, Bool, true, false, eqb, ◌||◌, List, [], ◌∷◌, ◌++◌, length, Option, Some, None, inl, inr, refl, sym, ap, ◌∙◌, subst}
use Rattle.std.specs.Prelude.{if◌then◌else◌}
use Rattle.std.proofs.lemmas.Bool.{false≢true, cases_Bool, or_cases, eqb-true, eqb-false, eq-eqb, both_ways, or_left}
use Rattle.spec_file.specs.declared.geometry.Geometry.{Geometry}
use Rattle.spec_file.specs.Image.{Image, page}
use Rattle.spec_log.specs.declared.item.Record.{Record}
use Rattle.spec_log.specs.declared.item.Record.TheVariants.{Start, Change, Undo, Commit, Abort, Snap, Failed, CheckEnd}
use Rattle.spec_log.specs.Items.{tran_of}
use Rattle.spec_log.specs.Log.{ends, has_ended, has_committed, has_undone, has_taken, holds}
use Rattle.spec_log.specs.Rules.{HaveForm, KeepsRules}
use Rattle.spec_log.specs.Cells.{put}
use Rattle.spec_log.specs.Images.{apply, applied, changed, start_image, committed_image, view_of}
use Rattle.spec_log.specs.Sound.{IsSound}
use Rattle.law_undo.proofs.Atoms.{Atom, read, has_atom, bit_in, turned, named_on, write_on, over, applied_at, IsQuiet, applied_at-same}
use Rattle.law_undo.proofs.Holders.{FollowsAt, RulesAt, or_false, unfinished_parts, one_holder, AreQuiet, left_quiet, quiet_without_take}
use Rattle.law_undo.proofs.LawAtAtom.{start_at, committed_at, view_at, not_true, quiet_or_holds, committed_ended}
use Rattle.law_undo.proofs.LawSteps.{taken_holds}
use Rattle.law_undo.proofs.Reading.{IsInside, SameShape, inside_shape}
use Rattle.law_undo.proofs.ReadLogs.{read_applied, read_from_start, shape_applied, shape_start}

-- a sound log keeps the rules, and its items have their form
pub sound_rules : (g : Geometry) (pages : ℕ) (opened : List Record) (b : Image) (log : List Record) → IsSound g pages opened b log → KeepsRules g pages (log ++ opened)
sound_rules g pages opened b [] s = s.1
sound_rules g pages opened b (x ∷ log) s = (s.1, sound_rules g pages opened b log s.3)

pub sound_forms : (g : Geometry) (pages : ℕ) (opened : List Record) (b : Image) (log : List Record) → IsSound g pages opened b log → HaveForm (log ++ opened)
sound_forms g pages opened b [] s = s.0
sound_forms g pages opened b (x ∷ log) s = (s.0, sound_forms g pages opened b log s.3)

-- what has committed wasn't rolled back
abbrev pub NoneUndone : List Record → Type 0
NoneUndone log = (t : ℕ) → has_committed log t ≡ true → has_undone log t ≡ false

pub sound_commits : (g : Geometry) (pages : ℕ) (opened : List Record) (b : Image) (log : List Record) → IsSound g pages opened b log → NoneUndone log
sound_commits g pages opened b [] s t h = absurd (false≢true h)
sound_commits g pages opened b (Start session index tran number changes size takes ∷ log) s t h = sound_commits g pages opened b log s.3 t h
sound_commits g pages opened b (Change tran cell before after ∷ log) s t h = sound_commits g pages opened b log s.3 t h
sound_commits g pages opened b (Undo tran change ∷ log) s t h = elim (cases_Bool (eqb tran.0 t)) [
  | inl e ↦ absurd (both_ways (has_ended (log ++ opened) tran.0)
      (not_true (has_ended (log ++ opened) tran.0) (unfinished_parts (log ++ opened) tran.0 s.1.0).not_ended)
      (committed_ended log opened tran.0 (subst (λ u. has_committed log u ≡ true) (sym (eqb-true tran.0 t e)) h)))
  | inr e ↦ ap (λ c. c || has_undone log t) e ∙ sound_commits g pages opened b log s.3 t h
]
sound_commits g pages opened b (Commit tran ∷ log) s t h = elim (or_cases (eqb tran.0 t) (has_committed log t) h) [
  | inl e ↦ subst (λ u. has_undone log u ≡ false) (eqb-true tran.0 t e) s.2.1
  | inr e ↦ sound_commits g pages opened b log s.3 t e
]
sound_commits g pages opened b (Abort tran ∷ log) s t h = sound_commits g pages opened b log s.3 t h
sound_commits g pages opened b (Snap session index ∷ log) s t h = sound_commits g pages opened b log s.3 t h
sound_commits g pages opened b (Failed session index page ∷ log) s t h = sound_commits g pages opened b log s.3 t h
sound_commits g pages opened b (CheckEnd session index outcome ∷ log) s t h = sound_commits g pages opened b log s.3 t h

-- where no chosen transaction was rolled back, its Changes alone are all its items
pub changed_applied : (c : ℕ → Bool) (opened log : List Record) (b : Image) → ((t : ℕ) → c t ≡ true → has_undone log t ≡ false) → changed c log b ≡ applied c opened log b
changed_applied c opened [] b n = refl
changed_applied c opened (Start session index tran number changes size takes ∷ log) b n = changed_applied c opened log b n ∙ sym (same_both (c tran.0) (applied c opened log b))
  where
    same_both : (s : Bool) (image : Image) → (if s then image else image) ≡ image
    same_both true image = refl
    same_both false image = refl
changed_applied c opened (Change tran cell before after ∷ log) b n = ap (λ im. if c tran.0 then put im cell after else im) (changed_applied c opened log b n)
changed_applied c opened (Undo tran change ∷ log) b n = elim (cases_Bool (c tran.0)) [
  | inl e ↦ absurd (both_ways (has_undone (Undo tran change ∷ log) tran.0) (n tran.0 e) (or_left (eqb tran.0 tran.0) (has_undone log tran.0) (eq-eqb tran.0 tran.0 refl)))
  | inr e ↦ changed_applied c opened log b (λ t h. (or_false (eqb tran.0 t) (has_undone log t) (n t h)).1)
      ∙ sym (ap (λ s. if s then apply (log ++ opened) (Undo tran change) (applied c opened log b) else applied c opened log b) e)
]
changed_applied c opened (Commit tran ∷ log) b n = changed_applied c opened log b n ∙ sym (same_both (c tran.0) (applied c opened log b))
  where
    same_both : (s : Bool) (image : Image) → (if s then image else image) ≡ image
    same_both true image = refl
    same_both false image = refl
changed_applied c opened (Abort tran ∷ log) b n = changed_applied c opened log b n ∙ sym (same_both (c tran.0) (applied c opened log b))
  where
    same_both : (s : Bool) (image : Image) → (if s then image else image) ≡ image
    same_both true image = refl
    same_both false image = refl
changed_applied c opened (Snap session index ∷ log) b n = changed_applied c opened log b n ∙ sym (same_both (c 0) (applied c opened log b))
  where
    same_both : (s : Bool) (image : Image) → (if s then image else image) ≡ image
    same_both true image = refl
    same_both false image = refl
changed_applied c opened (Failed session index page ∷ log) b n = changed_applied c opened log b n ∙ sym (same_both (c 0) (applied c opened log b))
  where
    same_both : (s : Bool) (image : Image) → (if s then image else image) ≡ image
    same_both true image = refl
    same_both false image = refl
changed_applied c opened (CheckEnd session index outcome ∷ log) b n = changed_applied c opened log b n ∙ sym (same_both (c 0) (applied c opened log b))
  where
    same_both : (s : Bool) (image : Image) → (if s then image else image) ≡ image
    same_both true image = refl
    same_both false image = refl

pub committed_applied : (opened log : List Record) (b : Image) → NoneUndone log → committed_image opened log b ≡ applied (has_committed log) opened log (start_image opened b)
committed_applied opened log b n = changed_applied (has_committed log) opened log (start_image opened b) n

-- who writes at an atom holds its guard
pub writer_holds : (k : Atom) (g : List Record) (x : Record) (q : ℕ × ℕ) → RulesAt k g → FollowsAt k g x → write_on g k x ≡ Some q → holds g (tran_of x) k.guard ≡ true
writer_holds k g (Start session index tran number changes size takes) q r f w = absurd (none_some q w)
  where
    none_some : (q : ℕ × ℕ) → None ≡ Some q → ⊥
    none_some q e = cc
writer_holds k g (Change tran cell before after) q r f w = elim (cases_Bool (has_atom cell (length after) k)) [
  | inl e ↦ f.1 e
  | inr e ↦ absurd (none_some q (sym (ap (λ s. if s then Some (bit_in cell before k, bit_in cell after k) else None) e) ∙ w))
]
  where
    none_some : (q : ℕ × ℕ) → None ≡ Some q → ⊥
    none_some q e = cc
writer_holds k g (Undo tran change) q r f w = elim (quiet_or_holds g tran.0 k r f.0) [
  | inl quiet ↦
      let last = f.1 in
      let all : AreQuiet k ((change.0, last.change) ∷ last.others) = subst (AreQuiet k) last.is_last (left_quiet tran.0 k g quiet) in
      absurd (none_some q (sym (ap (λ o. turned (named_on k o)) last.is_named ∙ ap turned all.0) ∙ w))
  | inr held ↦ held
]
  where
    none_some : (q : ℕ × ℕ) → None ≡ Some q → ⊥
    none_some q e = cc
writer_holds k g (Commit tran) q r f w = absurd (none_some q w)
  where
    none_some : (q : ℕ × ℕ) → None ≡ Some q → ⊥
    none_some q e = cc
writer_holds k g (Abort tran) q r f w = absurd (none_some q w)
  where
    none_some : (q : ℕ × ℕ) → None ≡ Some q → ⊥
    none_some q e = cc
writer_holds k g (Snap session index) q r f w = absurd (none_some q w)
  where
    none_some : (q : ℕ × ℕ) → None ≡ Some q → ⊥
    none_some q e = cc
writer_holds k g (Failed session index page) q r f w = absurd (none_some q w)
  where
    none_some : (q : ℕ × ℕ) → None ≡ Some q → ⊥
    none_some q e = cc
writer_holds k g (CheckEnd session index outcome) q r f w = absurd (none_some q w)
  where
    none_some : (q : ℕ × ℕ) → None ≡ Some q → ⊥
    none_some q e = cc

-- where another writes, a transaction that hasn't ended is quiet
pub others_quiet : (k : Atom) (g : List Record) (u t : ℕ) → RulesAt k g → holds g u k.guard ≡ true → eqb u t ≡ false → has_ended g t ≡ false → IsQuiet t k g
others_quiet k g u t r held other open_now = elim (cases_Bool (has_taken g t k.guard)) [
  | inl taken ↦ absurd (eqb-false u t other (one_holder k g u t r held (taken_holds k g t r open_now taken)))
  | inr not_taken ↦ quiet_without_take t k g r not_taken
]

nobody_applied : (k : Atom) (opened log : List Record) (v : ℕ) → applied_at (λ u. false) k opened log v ≡ v
nobody_applied k opened [] v = refl
nobody_applied k opened (x ∷ log) v = nobody_applied k opened log v

-- a quiet transaction's items change nothing at the atom
pub quiet_applied : (k : Atom) (opened log : List Record) (t v : ℕ) → IsQuiet t k (log ++ opened) → applied_at (λ u. eqb u t) k opened log v ≡ v
quiet_applied k opened log t v quiet =
    applied_at-same (λ u. eqb u t) (λ u. false) k opened log v (λ u. elim (cases_Bool (eqb u t)) [
      | inl e ↦ inr (subst (λ s. IsQuiet s k (log ++ opened)) (sym (eqb-true u t e)) quiet)
      | inr e ↦ inl e
    ])
    ∙ nobody_applied k opened log v

-- the own items after the committed ones, or among them
pub view_same : (c : ℕ → Bool) (k : Atom) (opened log : List Record) (t v : ℕ) → RulesAt k (log ++ opened) → has_ended (log ++ opened) t ≡ false →
    applied_at (λ u. eqb u t) k opened log (applied_at c k opened log v) ≡ applied_at (λ u. c u || eqb u t) k opened log v
view_same c k opened [] t v r open_now = refl
view_same c k opened (x ∷ log) t v r open_now =
    let open_before = (or_false (ends t x) (has_ended (log ++ opened) t) open_now).1 in
    let ih = view_same c k opened log t v r.1 open_before in
    by_write (write_on (log ++ opened) k x) refl (c (tran_of x)) (eqb (tran_of x) t) refl refl ih
  where
    by_write : (w : Option (ℕ × ℕ)) → write_on (log ++ opened) k x ≡ w → (chosen own : Bool) → c (tran_of x) ≡ chosen → eqb (tran_of x) t ≡ own →
        applied_at (λ u. eqb u t) k opened log (applied_at c k opened log v) ≡ applied_at (λ u. c u || eqb u t) k opened log v →
        (if own then over w (applied_at (λ u. eqb u t) k opened log (if chosen then over w (applied_at c k opened log v) else applied_at c k opened log v))
        else applied_at (λ u. eqb u t) k opened log (if chosen then over w (applied_at c k opened log v) else applied_at c k opened log v))
        ≡ (if chosen || own then over w (applied_at (λ u. c u || eqb u t) k opened log v) else applied_at (λ u. c u || eqb u t) k opened log v)
    by_write None e true true ec eo ih = ih
    by_write None e true false ec eo ih = ih
    by_write None e false true ec eo ih = ih
    by_write None e false false ec eo ih = ih
    by_write (Some q) e true true ec eo ih = refl
    by_write (Some q) e false true ec eo ih = refl
    by_write (Some q) e false false ec eo ih = ih
    by_write (Some q) e true false ec eo ih =
        quiet_applied k opened log t q.1 (others_quiet k (log ++ opened) (tran_of x) t r.1 (writer_holds k (log ++ opened) x q r.1 r.0 e) eo
        (or_false (ends t x) (has_ended (log ++ opened) t) open_now).1)

-- the committed image and a view, read at an atom
pub read_committed : (opened log : List Record) (b : Image) (k : Atom) → HaveForm (log ++ opened) → NoneUndone log → IsInside k b →
    read (committed_image opened log b) k ≡ committed_at k opened log (read b k)
read_committed opened log b k f n inside =
    ap (λ image. read image k) (committed_applied opened log b n) ∙ read_from_start (has_committed log) opened log b k f inside

pub shape_committed : (opened log : List Record) (b : Image) → NoneUndone log → SameShape b (committed_image opened log b)
shape_committed opened log b n =
    subst (SameShape b) (sym (committed_applied opened log b n))
    (let s = shape_start opened b in let a = shape_applied (has_committed log) opened log (start_image opened b) in
    record { pages = a.pages ∙ s.pages; bytes = λ p. a.bytes p ∙ s.bytes p })

pub shape_view : (t : ℕ) (opened log : List Record) (b : Image) → NoneUndone log → SameShape b (view_of t opened log b)
shape_view t opened log b n =
    let s = shape_committed opened log b n in
    let a = shape_applied (λ u. eqb u t) opened log (committed_image opened log b) in
    record { pages = a.pages ∙ s.pages; bytes = λ p. a.bytes p ∙ s.bytes p }

pub read_view : (t : ℕ) (opened log : List Record) (b : Image) (k : Atom) → RulesAt k (log ++ opened) → HaveForm (log ++ opened) → NoneUndone log → IsInside k b →
    has_ended (log ++ opened) t ≡ false → read (view_of t opened log b) k ≡ view_at t k opened log (read b k)
read_view t opened log b k r f n inside open_now =
    read_applied (λ u. eqb u t) opened log (committed_image opened log b) k f (inside_shape k b (committed_image opened log b) (shape_committed opened log b n) inside)
    ∙ ap (applied_at (λ u. eqb u t) k opened log) (read_committed opened log b k f n inside)
    ∙ view_same (has_committed log) k opened log t (start_at k opened (read b k)) r open_now
