-- Marks that one object gets besides.
use Rattle.std.proofs.Common.{◌≡◌, ◌⊎◌, ℕ, ◌+◌, ◌<◌, Bool, rules, IsTrue, List, length, set, get_or, Some, arith, sym, subst, inl, inr, ⊎_elim, refl, ◌∙◌}
use Rattle.std.proofs.lemmas.List.{get_or-set_same}
use Rattle.std.proofs.lemmas.Option.{get_or_from_slice_get, slice_get_within, slice_get-get_or, same_Some}
use Rattle.std.specs.List.{slice_get}
use Rattle.ck_facts.specs.declared.map.ExtentMap.{ExtentMap}
use Rattle.spec_file.specs.Iam.{iam_mark}
use Rattle.ck_chain.specs.Marking.{IsMarkedAs, AreMarkedAs, MarksFront}

-- the element that was written
pub set_here : {X : Type 0} (xs : List X) (i : ℕ) (y z : X) → i < length xs → slice_get (set xs i y) i ≡ Some z → z ≡ y
set_here {X} xs i y z inside h = sym (get_or_from_slice_get (set xs i y) i z z h) ∙ get_or-set_same xs i y z inside

-- where nothing is marked besides, all stays
pub unmarked : (i : ℕ) (B : Type 0) (x : ExtentMap) → (B → ⊥) → IsMarkedAs i B x x
unmarked i B x never = record {
  free = refl;
  mixed = refl;
  others = λ k other. refl;
  mark = (λ h. inl h, λ h. ⊎_elim (λ old. old) (λ b. absurd (never b)) h);
}

pub marked_none : (i : ℕ) (B : ℕ → Type 0) (xs : List ExtentMap) → ((e : ℕ) → B e → ⊥) → AreMarkedAs i B xs xs
marked_none i B xs never = record {
  count = refl;
  each = λ e x y at now. subst (IsMarkedAs i (B e) x) (same_Some x y (sym at ∙ now)) (unmarked i (B e) x (never e));
}

-- the same marks by another name
pub marked_as : (i : ℕ) (A B : ℕ → Type 0) (xs ys : List ExtentMap) → ((e : ℕ) → e < length xs → A e → B e)
    → ((e : ℕ) → e < length xs → B e → A e) → AreMarkedAs i A xs ys → AreMarkedAs i B xs ys
marked_as i A B xs ys there back h = record {
  count = h.count;
  each = λ e x y at now. let was = h.each e x y at now in let below = slice_get_within xs e x at in record {
    free = was.free;
    mixed = was.mixed;
    others = was.others;
    mark = (
      λ m. ⊎_elim (λ old. inl old) (λ a. inr (there e below a)) (was.mark.0 m),
      λ m. was.mark.1 (⊎_elim (λ old. inl old) (λ b. inr (back e below b)) m),
    );
  };
}

-- one after another
pub marked_both : (i : ℕ) (A B : ℕ → Type 0) (xs ys zs : List ExtentMap) → AreMarkedAs i A xs ys → AreMarkedAs i B ys zs
    → AreMarkedAs i (λ e. A e ⊎ B e) xs zs
marked_both i A B xs ys zs a b = record {
  count = b.count ∙ a.count;
  each = λ e x z at now.
      let below : e < length ys = subst (λ n. e < n) b.count (slice_get_within zs e z now) in
      let mid = slice_get-get_or ys e x below in
      let first = a.each e x (get_or ys e x) at mid in
      let second = b.each e (get_or ys e x) z mid now in
      record {
        free = second.free ∙ first.free;
        mixed = second.mixed ∙ first.mixed;
        others = λ k other. second.others k other ∙ first.others k other;
        mark = (
          λ m. ⊎_elim (λ old. ⊎_elim (λ older. inl older) (λ p. inr (inl p)) (first.mark.0 old)) (λ q. inr (inr q)) (second.mark.0 m),
          λ m. second.mark.1 (⊎_elim (λ older. inl (first.mark.1 (inl older)))
              (λ new. ⊎_elim (λ p. inl (first.mark.1 (inr p))) (λ q. inr q) new) m),
        );
      };
}

upto : (k n : ℕ) → k < n + 1 → (k < n) ⊎ (k ≡ n)
upto k n h = search (rules, arith)

-- one mark more of an IAM page
pub front_more : (i : ℕ) (bytes : List ℕ) (start n : ℕ) (b : Bool) (xs ys zs : List ExtentMap) → b ≡ iam_mark bytes n
    → AreMarkedAs i (MarksFront bytes start n) xs ys → AreMarkedAs i (λ e. IsTrue b × (e ≡ start + n)) ys zs
    → AreMarkedAs i (MarksFront bytes start (n + 1)) xs zs
front_more i bytes start n b xs ys zs is front one =
    marked_as i (λ e. MarksFront bytes start n e ⊎ (IsTrue b × (e ≡ start + n))) (MarksFront bytes start (n + 1)) xs zs
    (λ e below h. ⊎_elim (λ (k, less, at, marked). (k, omega (arith, less), at, marked)) (λ (marked, at). (n, omega arith, at, subst IsTrue is marked)) h)
    (λ e below (k, less, at, marked). ⊎_elim (λ old. inl (k, old, at, marked))
    (λ here. inr (subst IsTrue (sym is) (subst (λ j. IsTrue (iam_mark bytes j)) here marked), subst (λ j. e ≡ start + j) here at)) (upto k n less))
    (marked_both i _ _ xs ys zs front one)
