-- The uses of a page are found among those of its extent.
use Rattle.std.proofs.Common.{◌≡◌, ℕ, ◌+◌, ◌<◌, ◌≤◌, ◌&&◌, Bool, true, false, not, nat_lt, List, [], ◌∷◌, filter, arith, sym, ap, ◌∙◌, refl}
use Rattle.std.proofs.lemmas.Bool.{ltb-true, ltb-false, lt-ltb, le-ltb, not-true, and_parts}
use Rattle.std.proofs.lemmas.List.Kept.{IsNonDecreasingBy-filter}
use Rattle.ck_facts.specs.declared.map.PageUse.{PageUse}
use Rattle.ck_facts.specs.PageUses.{IsByPage, uses_between}

pub between_by_page : (low high : ℕ) (uses : List PageUse) → IsByPage uses → IsByPage (uses_between low high uses)
between_by_page low high uses h = record {
  rises = IsNonDecreasingBy-filter (λ u. u.page) (λ u. nat_lt u.page high) _ (IsNonDecreasingBy-filter (λ u. u.page) (λ u. not (nat_lt u.page low)) uses h.rises);
}

-- one filter after another
both_step : {X : Type 0} (f g : X → Bool) (x : X) (xs : List X) (b c : Bool) → g x ≡ b → f x ≡ c
    → filter f (filter g xs) ≡ filter (λ y. g y && f y) xs → filter f (filter g (x ∷ xs)) ≡ filter (λ y. g y && f y) (x ∷ xs)
both_step f g x xs true true is told rest = rw (is, told) (ap (λ l. x ∷ l) rest)
both_step f g x xs true false is told rest = rw (is, told) rest
both_step f g x xs false c is told rest = rw is rest

filter_both : {X : Type 0} (f g : X → Bool) (xs : List X) → filter f (filter g xs) ≡ filter (λ y. g y && f y) xs
filter_both f g [] = refl
filter_both f g (x ∷ xs) = both_step f g x xs (g x) (f x) refl refl (filter_both f g xs)

-- a filter that lets less through than the one before it
inside_step : {X : Type 0} (h g : X → Bool) (x : X) (xs : List X) (b c : Bool) → g x ≡ b → h x ≡ c → (h x ≡ true → g x ≡ true)
    → filter h (filter g xs) ≡ filter h xs → filter h (filter g (x ∷ xs)) ≡ filter h (x ∷ xs)
inside_step h g x xs true true is told less rest = rw (is, told) (ap (λ l. x ∷ l) rest)
inside_step h g x xs true false is told less rest = rw (is, told) rest
inside_step h g x xs false true is told less rest = let no_ : false ≡ true = sym is ∙ less told in absurd (cc)
inside_step h g x xs false false is told less rest = rw (is, told) rest

filter_inside : {X : Type 0} (h g : X → Bool) (xs : List X) → ((x : X) → h x ≡ true → g x ≡ true) → filter h (filter g xs) ≡ filter h xs
filter_inside h g [] less = refl
filter_inside h g (x ∷ xs) less = inside_step h g x xs (g x) (h x) refl refl (less x) (filter_inside h g xs less)

-- the uses of a page are those of it among the uses of its extent
low_enough : (p low : ℕ) (u : PageUse) → low ≤ p → (not (nat_lt u.page p) && nat_lt u.page (p + 1)) ≡ true → not (nat_lt u.page low) ≡ true
low_enough p low u from h =
    let parts = and_parts (not (nat_lt u.page p)) (nat_lt u.page (p + 1)) h in
    let at = ltb-false u.page p (not-true (nat_lt u.page p) parts.0) in
    ap not (le-ltb u.page low (omega (arith, at, from)))

high_enough : (p high : ℕ) (u : PageUse) → p < high → (not (nat_lt u.page p) && nat_lt u.page (p + 1)) ≡ true → nat_lt u.page high ≡ true
high_enough p high u below h =
    let parts = and_parts (not (nat_lt u.page p)) (nat_lt u.page (p + 1)) h in
    let at = ltb-true u.page (p + 1) parts.1 in
    lt-ltb u.page high (omega (arith, at, below))

pub page_in_extent : (p low high : ℕ) (uses : List PageUse) → low ≤ p → p < high
    → uses_between p (p + 1) (uses_between low high uses) ≡ uses_between p (p + 1) uses
page_in_extent p low high uses from below =
    let here = λ (u : PageUse). not (nat_lt u.page p) && nat_lt u.page (p + 1) in
    let start = λ (u : PageUse). not (nat_lt u.page low) in
    let end = λ (u : PageUse). nat_lt u.page high in
    filter_both (λ (u : PageUse). nat_lt u.page (p + 1)) (λ (u : PageUse). not (nat_lt u.page p)) (uses_between low high uses)
    ∙ filter_inside here end (filter start uses) (λ u. high_enough p high u below)
    ∙ filter_inside here start uses (λ u. low_enough p low u from)
    ∙ sym (filter_both (λ (u : PageUse). nat_lt u.page (p + 1)) (λ (u : PageUse). not (nat_lt u.page p)) uses)
