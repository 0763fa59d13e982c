-- How the errors of a page's keys grow, slot by slot.
use Rattle.std.proofs.Common.{◌≡◌, ◌≢◌, ℕ, ◌+◌, ◌-◌, ◌%◌, ◌≤◌, ◌==◌, Bool, true, false, not, IsTrue, nat_le, List, Result, Ok, Err, OnOk, arith, refl, sym, subst, ap, ◌∙◌}
use Rattle.std.proofs.lemmas.Bool.{leb-true, le-leb, eqb-true, eq-eqb}
use Rattle.spec_file.specs.declared.data.NoMemory.{NoMemory}
use Rattle.spec_check.specs.declared.report.CheckError.{CheckError}
use Rattle.spec_tables.specs.PageRules.{wrong_order}
use Rattle.ck_error.specs.Gathered.{Adds, Below}
use Rattle.ck_error.proofs.GatheringLaws.{adds_as, adds_none, adds_given, adds_below_more, adds_if}
use Rattle.ck_facts.specs.Tested.{slot_key, FallsAt}

-- one slot more, where the key before is known
pub falls_more : (o p slot low key : ℕ) (bytes : List ℕ) (xs ys zs : List CheckError) (e : CheckError) (before : ℕ) → slot ≡ before + 1
    → low ≡ slot_key bytes before → key ≡ slot_key bytes slot → e ≡ wrong_order o p slot key
    → Adds xs ys (Below slot (FallsAt o p bytes)) → Adds ys zs (λ x. IsTrue (nat_le key low) × (x ≡ e))
    → Adds xs zs (Below (slot + 1) (FallsAt o p bytes))
falls_more o p slot low key bytes xs ys zs e before next first second is a b = adds_below_more xs ys zs slot (FallsAt o p bytes) a
    (adds_as ys zs (λ x. IsTrue (nat_le key low) × (x ≡ e)) (FallsAt o p bytes slot)
    (λ x h. let falls = leb-true key low h.0 in record {
      before = before;
      next = next;
      falls = omega (arith, falls, first, second);
      is = h.1 ∙ (is ∙ ap (wrong_order o p slot) second);
    })
    (λ x h.
    let same : h.before ≡ before = omega (arith, h.next, next) in
    let falls : slot_key bytes slot ≤ slot_key bytes before = subst (λ k. slot_key bytes slot ≤ slot_key bytes k) same h.falls in (
      le-leb key low (omega (arith, falls, first, second)),
      h.is ∙ sym (is ∙ ap (wrong_order o p slot) second),
    )) b)

pub slot_back : (n : ℕ) → n + 1 - 1 ≡ n
slot_back n = omega arith

unequal : (b : Bool) → (IsTrue b → ⊥) → IsTrue (not b)
unequal true h = absurd (h refl)
unequal false h = refl

-- whether two numbers differ
pub differs_from : (a b : ℕ) → IsTrue (not (a == b)) → a ≢ b
differs_from a b h same = let no = eq-eqb a b same in cc

pub differs_in : (a b : ℕ) → a ≢ b → IsTrue (not (a == b))
differs_in a b h = unequal (a == b) (λ same. h (eqb-true a b same))

-- the wrong fullness, where the right one is known
pub fullness_adds : (xs ys : List CheckError) (pfs n m : ℕ) (e f : CheckError) → n ≡ m → e ≡ f → Adds xs ys (λ x. IsTrue (not (pfs % 8 == n)) × (x ≡ e))
    → Adds xs ys (λ x. (pfs % 8 ≢ m) × (x ≡ f))
fullness_adds xs ys pfs n m e f right is a = adds_if xs ys (not (pfs % 8 == n)) e f (pfs % 8 ≢ m)
    (λ h. subst (λ k. pfs % 8 ≢ k) right (differs_from (pfs % 8) n h), λ h. differs_in (pfs % 8) n (subst (λ k. pfs % 8 ≢ k) (sym right) h)) is a

-- a rule under a condition that holds, by a call whose answer is handed on
pub given_on_ok : (r : Result (Unit {0}) NoMemory) (xs ys : List CheckError) (C : Type 0) (P : CheckError → Type 0) → C
    → OnOk r (Adds xs ys P) → OnOk r (Adds xs ys (λ x. C × P x))
given_on_ok (Ok t) xs ys C P holds a = adds_given xs ys C P holds a
given_on_ok (Err e) xs ys C P holds a = a
