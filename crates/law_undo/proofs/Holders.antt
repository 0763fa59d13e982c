-- Who holds the guard of an atom, and who can have written there.
use Rattle.std.proofs.Common.{◌≡◌, ℕ, ◌+◌, Bool, true, false, eqb, ltb, not, ◌&&◌, ◌||◌, List, [], ◌∷◌, length, Some, None, ◌⊎◌, inl, inr, refl, sym, ap, ◌∙◌, subst}
use Rattle.std.specs.List.{list_any}
use Rattle.std.proofs.lemmas.Bool.{true≢false, false≢true, or_cases, and_parts, and_from, eqb-true, both_ways, cond_both, or_left, or_right}
use Rattle.spec_file.specs.declared.data.Resource.{Resource}
use Rattle.spec_log.specs.declared.item.Record.{Record}
use Rattle.spec_log.specs.declared.item.Record.TheVariants.{Start, Change, Undo, Commit, Abort, Snap, Failed, CheckEnd}
use Rattle.spec_log.specs.Items.{is_same}
use Rattle.spec_log.specs.Log.{starts, ends, takes_it, has_started, has_ended, has_taken, is_unfinished, holds, IsFreeFor, rest_of, left_of}
use Rattle.spec_log.specs.Rules.{IsLastLeft}
use Rattle.law_undo.proofs.Atoms.{Atom, has_atom, bit_in, change_on, turned, named_on, IsQuiet}

-- what the rules of a log ask of an item, as far as one atom is concerned
abbrev pub FollowsAt : Atom → List Record → Record → Type 0
FollowsAt k log (Start session index tran number changes size takes) =
    list_any (is_same k.guard) takes ≡ true → (ltb 0 tran.0 ≡ true) × IsFreeFor log tran.0 k.guard
FollowsAt k log (Change tran cell before after) = (is_unfinished log tran.0 ≡ true) × (has_atom cell (length after) k ≡ true → holds log tran.0 k.guard ≡ true)
FollowsAt k log (Undo tran change) = (is_unfinished log tran.0 ≡ true) × IsLastLeft log tran.0 change.0
FollowsAt k log (Commit tran) = is_unfinished log tran.0 ≡ true
FollowsAt k log (Abort tran) = (is_unfinished log tran.0 ≡ true) × (left_of tran.0 log ≡ [])
FollowsAt k log (Snap session index) = Unit {0}
FollowsAt k log (Failed session index page) = Unit {0}
FollowsAt k log (CheckEnd session index outcome) = Unit {0}

abbrev pub RulesAt : Atom → List Record → Type 0
RulesAt k [] = Unit {0}
RulesAt k (x ∷ older) = FollowsAt k older x × RulesAt k older

-- tests
pub or_false : (b c : Bool) → (b || c) ≡ false → (b ≡ false) × (c ≡ false)
or_false true c h = absurd (true≢false h)
or_false false c h = (refl, h)

pub not_or : (b c : Bool) → not (b || c) ≡ true → (not b ≡ true) × (not c ≡ true)
not_or true c h = absurd (false≢true h)
not_or false c h = (refl, h)

-- an unfinished transaction has started and has not ended
pub record Unfinished (log : List Record) (t : ℕ) : Type 0 where
  pub above : ltb 0 t ≡ true
  pub started : has_started log t ≡ true
  pub not_ended : not (has_ended log t) ≡ true

pub unfinished_parts : (log : List Record) (t : ℕ) → is_unfinished log t ≡ true → Unfinished log t
unfinished_parts log t h =
    let a = and_parts (ltb 0 t) (has_started log t && not (has_ended log t)) h in
    let b = and_parts (has_started log t) (not (has_ended log t)) a.1 in
    record { above = a.0; started = b.0; not_ended = b.1 }

pub unfinished_from : (log : List Record) (t : ℕ) → Unfinished log t → is_unfinished log t ≡ true
unfinished_from log t u = and_from (ltb 0 t) (has_started log t && not (has_ended log t)) u.above (and_from (has_started log t) (not (has_ended log t)) u.started u.not_ended)

pub holds_parts : (log : List Record) (t : ℕ) (r : Resource) → holds log t r ≡ true → (is_unfinished log t ≡ true) × (has_taken log t r ≡ true)
holds_parts log t r h = and_parts (is_unfinished log t) (has_taken log t r) h

-- who took a resource has started
takes_starts : (t : ℕ) (r : Resource) (x : Record) → takes_it t r x ≡ true → starts t x ≡ true
takes_starts t r (Start session index tran number changes size takes) h = (and_parts (eqb tran.0 t) (list_any (is_same r) takes) h).0
takes_starts t r (Change tran cell before after) h = h
takes_starts t r (Undo tran change) h = h
takes_starts t r (Commit tran) h = h
takes_starts t r (Abort tran) h = h
takes_starts t r (Snap session index) h = h
takes_starts t r (Failed session index page) h = h
takes_starts t r (CheckEnd session index outcome) h = h

pub taken_started : (log : List Record) (t : ℕ) (r : Resource) → has_taken log t r ≡ true → has_started log t ≡ true
taken_started [] t r h = h
taken_started (x ∷ older) t r h =
    elim (or_cases (takes_it t r x) (has_taken older t r) h) [
      | inl e ↦ or_left (starts t x) (has_started older t) (takes_starts t r x e)
      | inr e ↦ or_right (starts t x) (has_started older t) (taken_started older t r e)
    ]

-- who holds a resource after an item held it before, or takes it now
pub holds_older : (x : Record) (older : List Record) (t : ℕ) (r : Resource) → holds (x ∷ older) t r ≡ true → (holds older t r ≡ true) ⊎ (takes_it t r x ≡ true)
holds_older x older t r h =
    let p = holds_parts (x ∷ older) t r h in
    let u = unfinished_parts (x ∷ older) t p.0 in
    elim (or_cases (takes_it t r x) (has_taken older t r) p.1) [
      | inl e ↦ inr e
      | inr e ↦ inl (and_from (is_unfinished older t) (has_taken older t r)
          (unfinished_from older t (record {
            above = u.above;
            started = taken_started older t r e;
            not_ended = (not_or (ends t x) (has_ended older t) u.not_ended).1;
          })) e)
    ]

-- the guard has one holder
pub taken_free : (k : Atom) (x : Record) (older : List Record) (t : ℕ) → FollowsAt k older x → takes_it t k.guard x ≡ true → (ltb 0 t ≡ true) × IsFreeFor older t k.guard
taken_free k (Start session index tran number changes size takes) older t f h =
    let p = and_parts (eqb tran.0 t) (list_any (is_same k.guard) takes) h in
    subst (λ u. (ltb 0 u ≡ true) × IsFreeFor older u k.guard) (eqb-true tran.0 t p.0) (f p.1)
taken_free k (Change tran cell before after) older t f h = absurd (false≢true h)
taken_free k (Undo tran change) older t f h = absurd (false≢true h)
taken_free k (Commit tran) older t f h = absurd (false≢true h)
taken_free k (Abort tran) older t f h = absurd (false≢true h)
taken_free k (Snap session index) older t f h = absurd (false≢true h)
taken_free k (Failed session index page) older t f h = absurd (false≢true h)
taken_free k (CheckEnd session index outcome) older t f h = absurd (false≢true h)

taken_once : (x : Record) (t u : ℕ) (r : Resource) → takes_it t r x ≡ true → takes_it u r x ≡ true → t ≡ u
taken_once (Start session index tran number changes size takes) t u r h k =
    sym (eqb-true tran.0 t (and_parts (eqb tran.0 t) (list_any (is_same r) takes) h).0) ∙ eqb-true tran.0 u (and_parts (eqb tran.0 u) (list_any (is_same r) takes) k).0
taken_once (Change tran cell before after) t u r h k = absurd (false≢true h)
taken_once (Undo tran change) t u r h k = absurd (false≢true h)
taken_once (Commit tran) t u r h k = absurd (false≢true h)
taken_once (Abort tran) t u r h k = absurd (false≢true h)
taken_once (Snap session index) t u r h k = absurd (false≢true h)
taken_once (Failed session index page) t u r h k = absurd (false≢true h)
taken_once (CheckEnd session index outcome) t u r h k = absurd (false≢true h)

pub one_holder : (k : Atom) (log : List Record) (t u : ℕ) → RulesAt k log → holds log t k.guard ≡ true → holds log u k.guard ≡ true → t ≡ u
one_holder k [] t u r h g = absurd (false≢true (holds_parts [] t k.guard h).1)
one_holder k (x ∷ older) t u r h g =
    elim (holds_older x older t k.guard h) [
      | inl a ↦ elim (holds_older x older u k.guard g) [
        | inl b ↦ one_holder k older t u r.1 a b
        | inr b ↦ (taken_free k x older u r.0 b).1 t a
      ]
      | inr a ↦ elim (holds_older x older u k.guard g) [
        | inl b ↦ sym ((taken_free k x older t r.0 a).1 u b)
        | inr b ↦ taken_once x t u k.guard a b
      ]
    ]

-- the changes that are left to undo are quiet too
abbrev pub AreQuiet : Atom → List (ℕ × Record) → Type 0
AreQuiet k [] = Unit {0}
AreQuiet k (p ∷ ps) = (change_on k p.1 ≡ None) × AreQuiet k ps

AreQuiet-rest : (k : Atom) (ps : List (ℕ × Record)) → AreQuiet k ps → AreQuiet k (rest_of ps)
AreQuiet-rest k [] h = tt
AreQuiet-rest k (p ∷ ps) h = h.1

pub left_quiet : (t : ℕ) (k : Atom) (log : List Record) → IsQuiet t k log → AreQuiet k (left_of t log)
left_quiet t k [] q = tt
left_quiet t k (Start session index tran number changes size takes ∷ older) q = left_quiet t k older q.1
left_quiet t k (Change tran cell before after ∷ older) q =
    cond_both (eqb tran.0 t) ((length older + 1, Change tran cell before after) ∷ left_of t older) (left_of t older) (AreQuiet k)
    (λ e. (q.0 (eqb-true tran.0 t e), left_quiet t k older q.1))
    (λ e. left_quiet t k older q.1)
left_quiet t k (Undo tran change ∷ older) q =
    cond_both (eqb tran.0 t) (rest_of (left_of t older)) (left_of t older) (AreQuiet k)
    (λ e. AreQuiet-rest k (left_of t older) (left_quiet t k older q.1))
    (λ e. left_quiet t k older q.1)
left_quiet t k (Commit tran ∷ older) q = left_quiet t k older q.1
left_quiet t k (Abort tran ∷ older) q = left_quiet t k older q.1
left_quiet t k (Snap session index ∷ older) q = left_quiet t k older q.1
left_quiet t k (Failed session index page ∷ older) q = left_quiet t k older q.1
left_quiet t k (CheckEnd session index outcome ∷ older) q = left_quiet t k older q.1

-- who never took the guard of an atom never wrote it
pub quiet_without_take : (t : ℕ) (k : Atom) (log : List Record) → RulesAt k log → has_taken log t k.guard ≡ false → IsQuiet t k log
quiet_without_take t k [] r n = tt
quiet_without_take t k (Start session index tran number changes size takes ∷ older) r n =
    ((λ e. refl), quiet_without_take t k older r.1 (or_false (takes_it t k.guard (Start session index tran number changes size takes)) (has_taken older t k.guard) n).1)
quiet_without_take t k (Change tran cell before after ∷ older) r n = (
  (λ e. cond_both (has_atom cell (length after) k) (Some (bit_in cell before k, bit_in cell after k)) None (λ w. w ≡ None)
      (λ same. absurd (both_ways (has_taken older t k.guard) n
      (subst (λ u. has_taken older u k.guard ≡ true) e (holds_parts older tran.0 k.guard (r.0.1 same)).1)))
      (λ differ. refl)),
  quiet_without_take t k older r.1 n,
)
quiet_without_take t k (Undo tran change ∷ older) r n =
    let quiet = quiet_without_take t k older r.1 n in (
      (λ e. let last = r.0.1 in
          let all = left_quiet t k older quiet in
          let those : AreQuiet k ((change.0, last.change) ∷ last.others) = subst (AreQuiet k) (subst (λ u. left_of u older ≡ (change.0, last.change) ∷ last.others) e last.is_last) all in
          ap (λ o. turned (named_on k o)) last.is_named ∙ ap turned those.0),
      quiet,
    )
quiet_without_take t k (Commit tran ∷ older) r n = ((λ e. refl), quiet_without_take t k older r.1 n)
quiet_without_take t k (Abort tran ∷ older) r n = ((λ e. refl), quiet_without_take t k older r.1 n)
quiet_without_take t k (Snap session index ∷ older) r n = ((λ e. refl), quiet_without_take t k older r.1 n)
quiet_without_take t k (Failed session index page ∷ older) r n = ((λ e. refl), quiet_without_take t k older r.1 n)
quiet_without_take t k (CheckEnd session index outcome ∷ older) r n = ((λ e. refl), quiet_without_take t k older r.1 n)
