-- What is made of the numbers of a range that pass a test.
use Rattle.std.proofs.Common.{◌≡◌, ℕ, zero, suc, ◌+◌, ◌<◌, ◌≤◌, Bool, true, false, ◌&&◌, List, [], ◌∷◌, ◌++◌, inl, inr, refl, sym, ap, ◌∙◌, subst, arith}
use Rattle.std.specs.Prelude.{if◌then◌else◌, filter, map, flat_map}
use Rattle.std.specs.List.{range_with_len}
use Rattle.std.proofs.lemmas.Bool.{cases_Bool}
use Rattle.std.proofs.lemmas.List.{map-append}
use Rattle.std.proofs.lemmas.List.Concat.{flat_map_single}
use Rattle.std.proofs.lemmas.List.Elements.{filter-append}

-- a test at x is that of another at y, and so is what is made of what passes
pub record SameAt {A : Type 0} (t u : ℕ → Bool) (f h : ℕ → A) (x y : ℕ) : Type 0 where
  pub test : t x ≡ u y
  pub made : t x ≡ true → f x ≡ h y

flat_ranges : {A : Type 0} (t u : ℕ → Bool) (f h : ℕ → List A) (n a b : ℕ) → ((k x y : ℕ) → k < n → x ≡ a + k → y ≡ b + k → SameAt t u f h x y) →
    flat_map f (filter t (range_with_len a n)) ≡ flat_map h (filter u (range_with_len b n))
flat_ranges t u f h zero a b all = refl
flat_ranges t u f h (suc n) a b all =
    let here = all 0 a b (omega arith) (omega arith) (omega arith) in
    let later = flat_ranges t u f h n (a + 1) (b + 1) (λ k x y lt e d. all (k + 1) x y (omega (arith, lt)) (omega (arith, e)) (omega (arith, d))) in
    elim (cases_Bool (t a)) [
      | inl passes ↦
          ap (λ c. flat_map f (if c then a ∷ filter t (range_with_len (a + 1) n) else filter t (range_with_len (a + 1) n))) passes
          ∙ ap (λ xs. xs ++ flat_map f (filter t (range_with_len (a + 1) n))) (here.made passes)
          ∙ ap (λ xs. h b ++ xs) later
          ∙ sym (ap (λ c. flat_map h (if c then b ∷ filter u (range_with_len (b + 1) n) else filter u (range_with_len (b + 1) n))) (sym here.test ∙ passes))
      | inr fails ↦
          ap (λ c. flat_map f (if c then a ∷ filter t (range_with_len (a + 1) n) else filter t (range_with_len (a + 1) n))) fails
          ∙ later
          ∙ sym (ap (λ c. flat_map h (if c then b ∷ filter u (range_with_len (b + 1) n) else filter u (range_with_len (b + 1) n))) (sym here.test ∙ fails))
    ]

pub map_ranges : {A : Type 0} (t u : ℕ → Bool) (f h : ℕ → A) (n a b : ℕ) → ((k x y : ℕ) → k < n → x ≡ a + k → y ≡ b + k → SameAt t u f h x y) →
    map f (filter t (range_with_len a n)) ≡ map h (filter u (range_with_len b n))
map_ranges t u f h n a b all =
    sym (flat_map_single f (filter t (range_with_len a n)))
    ∙ flat_ranges t u (λ x. f x ∷ []) (λ x. h x ∷ []) n a b
    (λ k x y lt e d. let s = all k x y lt e d in record { test = s.test; made = λ p. ap (λ z. z ∷ []) (s.made p) })
    ∙ flat_map_single h (filter u (range_with_len b n))

-- the same over one range
same_place : {A : Type 0} (t u : ℕ → Bool) (f h : ℕ → A) (n : ℕ) → ((x : ℕ) → x < n → SameAt t u f h x x) → (k x y : ℕ) → k < n → x ≡ 0 + k → y ≡ 0 + k → SameAt t u f h x y
same_place t u f h n all k x y lt e d = subst (λ z. SameAt t u f h x z) (together x y k e d) (all x (omega (arith, lt, e)))
  where
    together : (x y k : ℕ) → x ≡ 0 + k → y ≡ 0 + k → x ≡ y
    together x y k e d = omega (arith, e, d)

pub flat_range : {A : Type 0} (t u : ℕ → Bool) (f h : ℕ → List A) (n : ℕ) → ((x : ℕ) → x < n → SameAt t u f h x x) →
    flat_map f (filter t (range_with_len 0 n)) ≡ flat_map h (filter u (range_with_len 0 n))
flat_range t u f h n all = flat_ranges t u f h n 0 0 (same_place t u f h n all)

pub map_range : {A : Type 0} (t u : ℕ → Bool) (f h : ℕ → A) (n : ℕ) → ((x : ℕ) → x < n → SameAt t u f h x x) →
    map f (filter t (range_with_len 0 n)) ≡ map h (filter u (range_with_len 0 n))
map_range t u f h n all = map_ranges t u f h n 0 0 (same_place t u f h n all)

-- a range in two parts
range_parts : (a m n : ℕ) → range_with_len a (m + n) ≡ range_with_len a m ++ range_with_len (a + m) n
range_parts a zero n = both a n
  where
    none : (n : ℕ) → 0 + n ≡ n
    none n = omega arith

    here : (a : ℕ) → a ≡ a + 0
    here a = omega arith

    both : (a n : ℕ) → range_with_len a (0 + n) ≡ range_with_len (a + 0) n
    both a n = ap (range_with_len a) (none n) ∙ ap (λ k. range_with_len k n) (here a)
range_parts a (suc m) n =
    ap (range_with_len a) (more m n) ∙ ap (λ xs. a ∷ xs) (range_parts (a + 1) m n)
    ∙ ap (λ k. a ∷ (range_with_len (a + 1) m ++ range_with_len k n)) (next a m)
  where
    more : (m n : ℕ) → suc m + n ≡ suc (m + n)
    more m n = omega arith

    next : (a m : ℕ) → a + 1 + m ≡ a + suc m
    next a m = omega arith

pub map_parts : {A : Type 0} (t : ℕ → Bool) (f : ℕ → A) (a m n : ℕ) →
    map f (filter t (range_with_len a (m + n))) ≡ map f (filter t (range_with_len a m)) ++ map f (filter t (range_with_len (a + m) n))
map_parts t f a m n =
    ap (λ xs. map f (filter t xs)) (range_parts a m n) ∙ ap (map f) (filter-append t (range_with_len a m) (range_with_len (a + m) n))
    ∙ map-append f (filter t (range_with_len a m)) (filter t (range_with_len (a + m) n))

-- nothing of a range passes
pub none_pass : (t : ℕ → Bool) (n a : ℕ) → ((x : ℕ) → a ≤ x → x < a + n → t x ≡ false) → filter t (range_with_len a n) ≡ []
none_pass t zero a none = refl
none_pass t (suc n) a none =
    ap (λ c. if c then a ∷ filter t (range_with_len (a + 1) n) else filter t (range_with_len (a + 1) n)) (none a (omega arith) (omega arith))
    ∙ none_pass t n (a + 1) (λ x low high. none x (omega (arith, low)) (omega (arith, high)))

-- two tests one after the other
pub filter_both : {A : Type 0} (s t : A → Bool) (xs : List A) → filter (λ x. s x && t x) xs ≡ filter t (filter s xs)
filter_both s t [] = refl
filter_both s t (x ∷ xs) = by_first (s x) refl (filter_both s t xs)
  where
    by_first : (b : Bool) → s x ≡ b → filter (λ y. s y && t y) xs ≡ filter t (filter s xs) → filter (λ y. s y && t y) (x ∷ xs) ≡ filter t (filter s (x ∷ xs))
    by_first true e ih =
        ap (λ b. if b && t x then x ∷ filter (λ y. s y && t y) xs else filter (λ y. s y && t y) xs) e
        ∙ ap (λ ys. if t x then x ∷ ys else ys) ih
        ∙ sym (ap (λ b. filter t (if b then x ∷ filter s xs else filter s xs)) e)
    by_first false e ih =
        ap (λ b. if b && t x then x ∷ filter (λ y. s y && t y) xs else filter (λ y. s y && t y) xs) e
        ∙ ih
        ∙ sym (ap (λ b. filter t (if b then x ∷ filter s xs else filter s xs)) e)
