-- Who holds what, read item by item.
use Rattle.std.proofs.Common.{◌≡◌, ℕ, ◌+◌, ◌<◌, ◌≤◌, eqb, Bool, true, false, ◌&&◌, ◌||◌, not, ltb, List, [], ◌∷◌, length, get_or, take, take_all, reverse, ◌⊎◌, inl, inr, refl, sym, ap, ◌∙◌, subst, eq-eqb}
use Rattle.std.specs.List.{list_any}
use Rattle.std.proofs.lemmas.Bool.{eqb-true, false≢true, and_parts, cases_Bool}
use Rattle.spec_file.specs.declared.data.Resource.{Resource}
use Rattle.spec_log.specs.declared.item.Record.{Record}
use Rattle.spec_log.specs.declared.item.Record.TheVariants.{Start, Change, Undo, Commit, Abort, Snap, Failed, CheckEnd}
use Rattle.spec_log.specs.Items.{grain_of, number_of, is_same, tran_of}
use Rattle.spec_log.proofs.ItemLaws.{starts_tran}
use Rattle.spec_log.specs.Log.{starts, takes_it, has_started, has_ended, is_unfinished, has_taken, holds, IsFreeFor}
use Rattle.spec_log.specs.Rules.{AreFreeFor}
use Rattle.plain_log.proofs.Reverse.{any_one_more, any_stands, reverse_take_at}

-- nobody but t holds the resource, of the transactions of these items
abbrev pub FreeAmong : List Record → ℕ → Resource → List Record → Type 0
FreeAmong log t r [] = Unit {0}
FreeAmong log t r (x ∷ part) = (holds log (tran_of x) r ≡ true → tran_of x ≡ t) × FreeAmong log t r part

holder_started : (log : List Record) (u : ℕ) (r : Resource) → holds log u r ≡ true → has_started log u ≡ true
holder_started log u r h =
    (and_parts (has_started log u) (not (has_ended log u)) (and_parts (ltb 0 u) (has_started log u && not (has_ended log u)) (and_parts (is_unfinished log u) (has_taken log u r) h).0).1).0

free_by_start : (log part : List Record) (t u : ℕ) (r : Resource) → FreeAmong log t r part → holds log u r ≡ true → list_any (starts u) part ≡ true → u ≡ t
free_by_start log [] t u r free h any = absurd (false≢true any)
free_by_start log (x ∷ part) t u r free h any = elim (cases_Bool (starts u x)) [
  | inl e ↦ let same : tran_of x ≡ u = starts_tran u x e in sym same ∙ free.0 (subst (λ v. holds log v r ≡ true) (sym same) h)
  | inr e ↦ free_by_start log part t u r free.1 h (ap (λ b. b || list_any (starts u) part) (sym e) ∙ any)
]

pub among_more : (log items : List Record) (t : ℕ) (r : Resource) (i : ℕ) (x : Record) → i < length items → x ≡ get_or items i x → FreeAmong log t r (reverse (take i items)) → (holds log (tran_of x) r ≡ true → tran_of x ≡ t) →
    FreeAmong log t r (reverse (take (i + 1) items))
among_more log items t r i x lt e before here = subst (FreeAmong log t r) (sym (reverse_take_at items i x lt e)) (here, before)

pub free_all : (items : List Record) (t : ℕ) (r : Resource) (i : ℕ) → length items ≤ i → FreeAmong (reverse items) t r (reverse (take i items)) → IsFreeFor (reverse items) t r
free_all items t r i end free u h =
    free_by_start (reverse items) (reverse items) t u r (subst (λ part. FreeAmong (reverse items) t r (reverse part)) (take_all i items end) free) h (holder_started (reverse items) u r h)

-- resources of one grain and number are taken together
same_among : (r s : Resource) (takes : List Resource) → is_same r s ≡ true → list_any (is_same r) takes ≡ list_any (is_same s) takes
same_among r s takes h =
    let parts = and_parts (eqb (grain_of r) (grain_of s)) (eqb (number_of r) (number_of s)) h in
    ap (λ a. list_any (λ x. eqb a (grain_of x) && eqb (number_of r) (number_of x)) takes) (eqb-true (grain_of r) (grain_of s) parts.0)
    ∙ ap (λ n. list_any (λ x. eqb (grain_of s) (grain_of x) && eqb n (number_of x)) takes) (eqb-true (number_of r) (number_of s) parts.1)

same_item : (u : ℕ) (r s : Resource) (x : Record) → is_same r s ≡ true → takes_it u r x ≡ takes_it u s x
same_item u r s (Start session index tran number changes size takes) h = ap (λ b. eqb tran.0 u && b) (same_among r s takes h)
same_item u r s (Change tran cell before after) h = refl
same_item u r s (Undo tran change) h = refl
same_item u r s (Commit tran) h = refl
same_item u r s (Abort tran) h = refl
same_item u r s (Snap session index) h = refl
same_item u r s (Failed session index failed) h = refl
same_item u r s (CheckEnd session index outcome) h = refl

same_taken : (log : List Record) (u : ℕ) (r s : Resource) → is_same r s ≡ true → has_taken log u r ≡ has_taken log u s
same_taken [] u r s h = refl
same_taken (x ∷ older) u r s h =
    ap (λ b. b || list_any (takes_it u r) older) (same_item u r s x h) ∙ ap (λ b. takes_it u s x || b) (same_taken older u r s h)

same_free : (log : List Record) (t : ℕ) (r s : Resource) → is_same r s ≡ true → IsFreeFor log t s → IsFreeFor log t r
same_free log t r s h free u held = free u (ap (λ b. is_unfinished log u && b) (sym (same_taken log u r s h)) ∙ held)

same_as_itself : (r : Resource) → is_same r r ≡ true
same_as_itself r = ap (λ b. b && eqb (number_of r) (number_of r)) (eq-eqb (grain_of r) (grain_of r) refl) ∙ eq-eqb (number_of r) (number_of r) refl

one_of_two : (a b : Bool) → (a || (b || false)) ≡ true → (a ≡ true) ⊎ (b ≡ true)
one_of_two true b h = inl refl
one_of_two false true h = inr refl
one_of_two false false h = absurd (false≢true h)

pub free_more : (log : List Record) (t : ℕ) (takes : List Resource) (i : ℕ) (s d : Resource) → i < length takes → s ≡ get_or takes i d → AreFreeFor log t (take i takes) → IsFreeFor log t s → AreFreeFor log t (take (i + 1) takes)
free_more log t takes i s d lt e before here r any =
    elim (one_of_two (list_any (is_same r) (take i takes)) (is_same r s) (sym (any_one_more (is_same r) takes i s d lt e) ∙ any)) [
      | inl earlier ↦ before r earlier
      | inr same ↦ same_free log t r s same here
    ]

pub not_free : (log : List Record) (t : ℕ) (takes : List Resource) (i : ℕ) (s d : Resource) → i < length takes → s ≡ get_or takes i d → AreFreeFor log t takes → IsFreeFor log t s
not_free log t takes i s d lt e all = all s (any_stands (is_same s) takes i s d lt e (same_as_itself s))
