-- The definitions of a tree, in the form in which the laws go on.
use Rattle.std.proofs.Common.{◌≡◌, ℕ, zero, suc, ◌+◌, ◌<◌, ◌≤◌, List, [], ◌∷◌, ◌++◌, Option, Some, None, Contains, unwrap_or, refl, sym, ap, ◌∙◌, subst, inl, inr, ⊎_elim, arith, append_assoc}
use Rattle.std.proofs.lemmas.Bool.{cases_eq, eq-eqb, ne_eqb}
use Rattle.std.proofs.lemmas.List.Elements.{Contains-push_cases, Contains-push, Contains-append_left, Contains-append_right, Contains-append_cases}
use Rattle.spec_levels.specs.Levels.{Row, Node, Leaf, Index, keys_of, first_key, pages_of, rows_of, Rises, IsUnder, IsIndexUnder, AreUnder, AreLevels, pages_above, AreDistinct}
use Rattle.law_ways.proofs.Bounds.{Within, next_key}
use Rattle.law_ways.proofs.Fits.{Level, Starts, StartsAt, Fits, count, all_pages}

pub next_row : (rest : List (Row ℕ)) → first_key rest ≡ next_key rest None
next_row [] = refl
next_row (r ∷ rest) = refl

module _ {V : Type 0} where
  pub rises_from : (low : ℕ) (high : Option ℕ) (xs : List (Row V)) → Within low high xs → Rises low high (keys_of xs)
  rises_from low high [] w = w
  rises_from low high (x ∷ xs) w = (w.0, w.1, rises_from (suc x.key) high xs w.2)

  pub within_from : (low : ℕ) (high : Option ℕ) (xs : List (Row V)) → Rises low high (keys_of xs) → Within low high xs
  within_from low high [] w = w
  within_from low high (x ∷ xs) w = (w.0, w.1, within_from (suc x.key) high xs w.2)

  starts_from : (k : ℕ) (xs : List (Row V)) → first_key xs ≡ Some k → StartsAt k xs
  starts_from k [] e = absurd (cc)
  starts_from k (x ∷ xs) e = ap (λ o. unwrap_or o k) e

  first_from : (k : ℕ) (xs : List (Row V)) → StartsAt k xs → first_key xs ≡ Some k
  first_from k [] s = absurd s
  first_from k (x ∷ xs) s = ap Some s

  pub level_from : (rows : List (Row ℕ)) (nodes : List (Node V)) → AreUnder IsUnder rows nodes → Level None rows nodes
  level_from [] [] u = tt
  level_from [] (n ∷ ns) u = absurd u
  level_from (r ∷ rest) [] u = absurd u
  level_from (r ∷ rest) (n ∷ ns) u = (u.0.page, within_from r.key (next_key rest None) n.rows (subst (λ k. Rises r.key k (keys_of n.rows)) (next_row rest) u.0.keys), level_from rest ns u.1)

pub under_from : {V : Type 0} (rows : List (Row ℕ)) (nodes : List (Node V)) → Level None rows nodes → AreUnder IsUnder rows nodes
under_from [] [] l = tt
under_from [] (n ∷ ns) l = absurd l
under_from (r ∷ rest) [] l = absurd l
under_from (r ∷ rest) (n ∷ ns) l = (
  record { page = l.0; keys = subst (λ k. Rises r.key k (keys_of n.rows)) (sym (next_row rest)) (rises_from r.key (next_key rest None) n.rows l.1) },
  under_from rest ns l.2,
)

pub index_from : (rows : List (Row ℕ)) (nodes : List Index) → Level None rows nodes → Starts rows nodes → AreUnder IsIndexUnder rows nodes
index_from [] [] l s = tt
index_from [] (n ∷ ns) l s = absurd l
index_from (r ∷ rest) [] l s = absurd l
index_from (r ∷ rest) (n ∷ ns) l s = (
  record {
    under = record { page = l.0; keys = subst (λ k. Rises r.key k (keys_of n.rows)) (sym (next_row rest)) (rises_from r.key (next_key rest None) n.rows l.1) };
    first = first_from r.key n.rows s.0;
  },
  index_from rest ns l.2 s.1,
)

pub from_index : (rows : List (Row ℕ)) (nodes : List Index) → AreUnder IsIndexUnder rows nodes → Level None rows nodes × Starts rows nodes
from_index [] [] u = (tt, tt)
from_index [] (n ∷ ns) u = absurd u
from_index (r ∷ rest) [] u = absurd u
from_index (r ∷ rest) (n ∷ ns) u =
    let h = from_index rest ns u.1 in (
      (u.0.under.page, within_from r.key (next_key rest None) n.rows (subst (λ k. Rises r.key k (keys_of n.rows)) (next_row rest) u.0.under.keys), h.0),
      (starts_from r.key n.rows u.0.first, h.1),
    )

pub fits_from : (rows : List (Row ℕ)) (above : List (List Index)) (leaves : List Leaf) → AreLevels rows above leaves → Fits None rows above leaves
fits_from rows [] leaves h = (level_from rows leaves h.0, h.1)
fits_from rows (nodes ∷ more) leaves h =
    let both = from_index rows nodes h.0 in (both.0, both.1, h.1, fits_from (rows_of nodes) more leaves h.2)

pub levels_from : (rows : List (Row ℕ)) (above : List (List Index)) (leaves : List Leaf) → Fits None rows above leaves → AreLevels rows above leaves
levels_from rows [] leaves h = (under_from rows leaves h.0, h.1)
levels_from rows (nodes ∷ more) leaves h = (index_from rows nodes h.0 h.1, h.2, levels_from (rows_of nodes) more leaves h.3)

-- a page stands in a list as often as it is counted
nothing_there : {X : Type 0} (x : X) → Contains {X = X} [] x → ⊥
nothing_there x h = omega (arith, h.1)

one_is : {X : Type 0} (x y : X) → Contains (x ∷ []) y → x ≡ y
one_is x y h = ⊎_elim (λ none. absurd (nothing_there y none)) (λ e. e) (Contains-push_cases [] x y h)

pub counted : (p : ℕ) (xs : List ℕ) → Contains xs p → 0 < count p xs
counted p [] h = absurd (nothing_there p h)
counted p (x ∷ xs) h = ⊎_elim
    (λ here. let e = eq-eqb x p (one_is x p here) in rw e (omega arith))
    (λ there. let e = counted p xs there in omega (arith, e))
    (Contains-append_cases (x ∷ []) xs p h)

pub contains_from : (p : ℕ) (xs : List ℕ) → 0 < count p xs → Contains xs p
contains_from p [] some = absurd (omega (arith, some))
contains_from p (x ∷ xs) some = elim (cases_eq x p) [
  | inl here ↦ subst (Contains (x ∷ xs)) here (Contains-append_left (x ∷ []) xs x (Contains-push [] x))
  | inr other ↦ Contains-append_right (x ∷ []) xs p (contains_from p xs (let e = ne_eqb x p other in let f = rw e at some in omega (arith, f)))
]

pub once : (p : ℕ) (xs : List ℕ) → AreDistinct xs → count p xs ≤ 1
once p [] d = omega arith
once p (x ∷ xs) d = elim (cases_eq x p) [
  | inl here ↦ let e = eq-eqb x p here in rw e (few here (count p xs) refl)
  | inr other ↦ let e = ne_eqb x p other in let f = once p xs d.1 in rw e (omega (arith, f))
]
  where
    few : x ≡ p → (n : ℕ) → count p xs ≡ n → 1 + n ≤ 1
    few here zero is = omega arith
    few here (suc n) is = absurd (d.0 (subst (Contains xs) (sym here) (contains_from p xs (omega (arith, is)))))

pub distinct_from : (xs : List ℕ) → ((p : ℕ) → count p xs ≤ 1) → AreDistinct xs
distinct_from [] few = tt
distinct_from (x ∷ xs) few = (
  λ h. let c = counted x xs h in let f = few x in let e = eq-eqb x x refl in let g = rw e at f in omega (arith, c, g),
  distinct_from xs (λ p. let f = few p in omega (arith, f)),
)

pub pages_are_all : (above : List (List Index)) (leaves : List Leaf) → all_pages above leaves ≡ pages_above above ++ pages_of leaves
pages_are_all [] leaves = refl
pages_are_all (nodes ∷ more) leaves =
    ap (λ l. pages_of nodes ++ l) (pages_are_all more leaves) ∙ sym (append_assoc (pages_of nodes) (pages_above more) (pages_of leaves))
