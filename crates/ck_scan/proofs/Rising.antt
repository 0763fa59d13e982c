-- Rising lists of numbers: one number is put in, and two lists that share none are put together.
use Rattle.std.proofs.Common.{◌≡◌, ◌⊎◌, ℕ, ◌+◌, ◌*◌, ◌<◌, ◌≤◌, Bool, true, false, cond, nat_lt, List, [], ◌∷◌, Contains, length, arith, rules, sym, subst, ◌∙◌, refl, inl, inr, ⊎_elim}
use Rattle.std.proofs.lemmas.Bool.{ltb-true, ltb-false}
use Rattle.std.specs.List.{AllByRecursion, sum_by}
use Rattle.std.specs.List.Sorted.{IsStrictlySortedBy}
use Rattle.std.specs.Ordering.{nat_cmp}
use Rattle.std.specs.declared.cmp.Ordering.TheVariants.{Less, Equal, Greater}
use Rattle.std.proofs.lemmas.Cmp.{ranked, by_ranked}
use Rattle.std.proofs.lemmas.List.Sums.{sum_by-cons}
use Rattle.spec_check.proofs.Members.{nothing_there, cons_here, cons_there, cons_cases, below, rest_sorted}

less_of : (a b : ℕ) → a < b → nat_cmp a b ≡ Less
less_of a b h = by_ranked (a < b) (a ≡ b) (b < a) (nat_cmp a b) (ranked a b (nat_cmp a b) refl)
    (λ is less. is) (λ is same. absurd (omega (arith, same, h))) (λ is more. absurd (omega (arith, more, h)))

pub less_from : (a b : ℕ) → nat_cmp a b ≡ Less → a < b
less_from a b h = by_ranked (a < b) (a ≡ b) (b < a) (nat_cmp a b) (ranked a b (nat_cmp a b) refl)
    (λ is less. less) (λ is same. let no : Less ≡ Equal = sym h ∙ is in absurd (cc)) (λ is more. let no : Less ≡ Greater = sym h ∙ is in absurd (cc))

-- a list with one number put in where it is not below those before it
abbrev pub put : ℕ → List ℕ → List ℕ
put n [] = n ∷ []
put n (x ∷ xs) = cond (nat_lt n x) (n ∷ x ∷ xs) (x ∷ put n xs)

-- what holds of both lists that may come of it
put_one : (P : List ℕ → Type 0) (n x : ℕ) (first rest : List ℕ) → (n < x → P first) → (x ≤ n → P rest) → P (cond (nat_lt n x) first rest)
put_one P n x first rest low high = by (nat_lt n x) refl where
  by : (t : Bool) → nat_lt n x ≡ t → P (cond t first rest)
  by true is = low (ltb-true n x is)
  by false is = high (ltb-false n x is)

pub put_cases : (n : ℕ) (xs : List ℕ) (p : ℕ) → Contains (put n xs) p → Contains xs p ⊎ (n ≡ p)
put_cases n [] p c = ⊎_elim (λ is. inr is) (λ none. absurd (nothing_there p none)) (cons_cases n [] p c)
put_cases n (x ∷ xs) p c = put_one (λ l. Contains l p → Contains (x ∷ xs) p ⊎ (n ≡ p)) n x (n ∷ x ∷ xs) (x ∷ put n xs)
    (λ low c. ⊎_elim (λ is. inr is) (λ was. inl was) (cons_cases n (x ∷ xs) p c))
    (λ high c. ⊎_elim (λ is. inl (subst (Contains (x ∷ xs)) is (cons_here x xs)))
    (λ later. ⊎_elim (λ was. inl (cons_there x xs p was)) (λ is. inr is) (put_cases n xs p later)) (cons_cases x (put n xs) p c)) c

pub put_kept : (n : ℕ) (xs : List ℕ) (p : ℕ) → Contains xs p → Contains (put n xs) p
put_kept n [] p c = absurd (nothing_there p c)
put_kept n (x ∷ xs) p c = put_one (λ l. Contains l p) n x (n ∷ x ∷ xs) (x ∷ put n xs)
    (λ low. cons_there n (x ∷ xs) p c)
    (λ high. ⊎_elim (λ is. subst (Contains (x ∷ put n xs)) is (cons_here x (put n xs))) (λ later. cons_there x (put n xs) p (put_kept n xs p later)) (cons_cases x xs p c))

pub put_here : (n : ℕ) (xs : List ℕ) → Contains (put n xs) n
put_here n [] = cons_here n []
put_here n (x ∷ xs) = put_one (λ l. Contains l n) n x (n ∷ x ∷ xs) (x ∷ put n xs)
    (λ low. cons_here n (x ∷ xs)) (λ high. cons_there x (put n xs) n (put_here n xs))

pub put_length : (n : ℕ) (xs : List ℕ) → length (put n xs) ≡ length xs + 1
put_length n [] = refl
put_length n (x ∷ xs) = put_one (λ l. length l ≡ length (x ∷ xs) + 1) n x (n ∷ x ∷ xs) (x ∷ put n xs)
    (λ low. omega arith) (λ high. omega (arith, put_length n xs))

pub put_sum : (f : ℕ → ℕ) (n : ℕ) (xs : List ℕ) → sum_by f (put n xs) ≡ sum_by f xs + f n
put_sum f n [] = omega (arith, sum_by-cons f n [])
put_sum f n (x ∷ xs) = put_one (λ l. sum_by f l ≡ sum_by f (x ∷ xs) + f n) n x (n ∷ x ∷ xs) (x ∷ put n xs)
    (λ low. omega (arith, sum_by-cons f n (x ∷ xs)))
    (λ high. omega (arith, put_sum f n xs, sum_by-cons f x xs, sum_by-cons f x (put n xs)))

all_from : (P : ℕ → Type 0) (xs : List ℕ) → ((p : ℕ) → Contains xs p → P p) → AllByRecursion P xs
all_from P [] h = tt
all_from P (x ∷ xs) h = (h x (cons_here x xs), all_from P xs (λ p c. h p (cons_there x xs p c)))

-- a number that is not in a rising list is put into it
pub put_sorted : (n : ℕ) (xs : List ℕ) → IsStrictlySortedBy nat_cmp xs → (Contains xs n → ⊥) → IsStrictlySortedBy nat_cmp (put n xs)
unfolding IsStrictlySortedBy
put_sorted n [] s fresh = (tt, tt)
put_sorted n (x ∷ xs) s fresh = put_one (IsStrictlySortedBy nat_cmp) n x (n ∷ x ∷ xs) (x ∷ put n xs)
    (λ low. (
      all_from (λ y. nat_cmp n y ≡ Less) (x ∷ xs) (λ p c. ⊎_elim (λ is. less_of n p (subst (λ k. n < k) is low))
          (λ later. let after = less_from x p (below nat_cmp x xs p s later) in less_of n p (omega (arith, low, after))) (cons_cases x xs p c)),
      s,
    ))
    (λ high. (
      all_from (λ y. nat_cmp x y ≡ Less) (put n xs) (λ p c. ⊎_elim (λ was. below nat_cmp x xs p s was)
          (λ is. less_of x p (subst (λ k. x < k) is (other x n high (λ e. fresh (subst (Contains (x ∷ xs)) e (cons_here x xs)))))) (put_cases n xs p c)),
      put_sorted n xs s.1 (λ c. fresh (cons_there x xs n c)),
    )) where
      other : (a b : ℕ) → a ≤ b → (a ≡ b → ⊥) → a < b
      other a b le ne = search (rules, arith, le, ne)

pub none_sorted : IsStrictlySortedBy nat_cmp []
unfolding IsStrictlySortedBy
none_sorted = tt

-- a rising list of numbers from a on and below n has at most so many members
pub short : (xs : List ℕ) (a n : ℕ) → IsStrictlySortedBy nat_cmp xs → ((p : ℕ) → Contains xs p → (a ≤ p) × (p < n)) → a ≤ n → length xs + a ≤ n
short [] a n s h le = omega (arith, le)
short (x ∷ xs) a n s h le =
    let at = h x (cons_here x xs) in
    let low : a ≤ x = at.0 in
    let high : x < n = at.1 in
    let rest : length xs + (x + 1) ≤ n = short xs (x + 1) n (rest_sorted nat_cmp x xs s)
    (λ p c. let after : x < p = less_from x p (below nat_cmp x xs p s c) in (omega (arith, after), (h p (cons_there x xs p c)).1))
    (omega (arith, high)) in
    omega (arith, rest, low)

pub few_rows : (rows_of : ℕ → ℕ) (xs : List ℕ) (k : ℕ) → ((p : ℕ) → Contains xs p → rows_of p ≤ k) → sum_by rows_of xs ≤ k * length xs
few_rows rows_of [] k h = omega arith
few_rows rows_of (x ∷ xs) k h =
    let first : rows_of x ≤ k = h x (cons_here x xs) in
    let rest : sum_by rows_of xs ≤ k * length xs = few_rows rows_of xs k (λ p c. h p (cons_there x xs p c)) in
    omega (arith, first, rest, sum_by-cons rows_of x xs)

-- the pages of two rising lists that share none, together in one
abbrev pub both : List ℕ → List ℕ → List ℕ
both [] ys = ys
both (x ∷ xs) ys = put x (both xs ys)

pub both_cases : (xs ys : List ℕ) (p : ℕ) → Contains (both xs ys) p → Contains xs p ⊎ Contains ys p
both_cases [] ys p c = inr c
both_cases (x ∷ xs) ys p c = ⊎_elim (λ was. ⊎_elim (λ a. inl (cons_there x xs p a)) (λ b. inr b) (both_cases xs ys p was))
    (λ is. inl (subst (Contains (x ∷ xs)) is (cons_here x xs))) (put_cases x (both xs ys) p c)

pub both_first : (xs ys : List ℕ) (p : ℕ) → Contains xs p → Contains (both xs ys) p
both_first [] ys p c = absurd (nothing_there p c)
both_first (x ∷ xs) ys p c = ⊎_elim (λ is. subst (Contains (put x (both xs ys))) is (put_here x (both xs ys)))
    (λ later. put_kept x (both xs ys) p (both_first xs ys p later)) (cons_cases x xs p c)

pub both_second : (xs ys : List ℕ) (p : ℕ) → Contains ys p → Contains (both xs ys) p
both_second [] ys p c = c
both_second (x ∷ xs) ys p c = put_kept x (both xs ys) p (both_second xs ys p c)

pub both_length : (xs ys : List ℕ) → length (both xs ys) ≡ length xs + length ys
both_length [] ys = omega arith
both_length (x ∷ xs) ys = omega (arith, both_length xs ys, put_length x (both xs ys))

pub both_sum : (f : ℕ → ℕ) (xs ys : List ℕ) → sum_by f (both xs ys) ≡ sum_by f xs + sum_by f ys
both_sum f [] ys = omega arith
both_sum f (x ∷ xs) ys = omega (arith, both_sum f xs ys, put_sum f x (both xs ys), sum_by-cons f x xs)

pub both_sorted : (xs ys : List ℕ) → IsStrictlySortedBy nat_cmp xs → IsStrictlySortedBy nat_cmp ys → ((p : ℕ) → Contains xs p → Contains ys p → ⊥)
    → IsStrictlySortedBy nat_cmp (both xs ys)
both_sorted [] ys s t apart = t
both_sorted (x ∷ xs) ys s t apart = put_sorted x (both xs ys) (both_sorted xs ys (rest_sorted nat_cmp x xs s) t (λ p c d. apart p (cons_there x xs p c) d))
    (λ c. ⊎_elim (λ again. let less = less_from x x (below nat_cmp x xs x s again) in absurd (omega (arith, less))) (λ there. apart x (cons_here x xs) there) (both_cases xs ys x c))
