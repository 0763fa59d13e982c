-- The trees worked by hand.
use Rattle.std.proofs.Common.{◌≡◌, ◌==◌, ◌&&◌, ℕ, zero, suc, ◌<◌, ◌≤◌, Bool, true, Some, List, [], ◌∷◌, length, Contains, refl, sym, ap, ◌∙◌, subst, ⊎_elim, arith}
use Rattle.std.specs.Prelude.{not}
use Rattle.std.proofs.lemmas.Bool.{and_parts, not-true, eq-eqb, both_ways}
use Rattle.std.proofs.lemmas.List.Elements.{Contains-append_right, Contains-append_cases}
use Rattle.spec_check.proofs.Members.{nothing_there, cons_cases, cons_here, cons_there}
use Rattle.spec_levels.specs.Levels.{Row, AreDistinct, AreLevels, IsTree, root_row, tree_pages}
use Rattle.law_levels.specs.Examples.{row, leaf, empty_tree, Numbers, three_levels, right_numbers, AreRight, NumbersAreAsked, two_leaves, RowsAreAsked, above_leaf, tower, HeightIsAsked}
use Rattle.law_levels.proofs.Lists.{distinct_append}
use Rattle.law_levels.proofs.Rules.{apart}

-- lists of numbers without one number, and of which each stands once, by a test that is computed
abbrev is_new : ℕ → List ℕ → Bool
is_new x [] = true
is_new x (y ∷ ys) = not (y == x) && is_new x ys

absent : (x : ℕ) (ys : List ℕ) → is_new x ys ≡ true → Contains ys x → ⊥
absent x [] test i = nothing_there x i
absent x (y ∷ ys) test i =
    let parts = and_parts (not (y == x)) (is_new x ys) test in
    ⊎_elim (λ e. both_ways (y == x) (not-true (y == x) parts.0) (eq-eqb y x e)) (λ later. absent x ys parts.1 later) (cons_cases y ys x i)

abbrev are_new : List ℕ → Bool
are_new [] = true
are_new (x ∷ xs) = is_new x xs && are_new xs

distinct : (xs : List ℕ) → are_new xs ≡ true → AreDistinct xs
distinct [] test = tt
distinct (x ∷ xs) test = let parts = and_parts (is_new x xs) (are_new xs) test in ((λ i. absent x xs parts.0 i), distinct xs parts.1)

only : (x y : ℕ) → Contains (x ∷ []) y → x ≡ y
only x y i = ⊎_elim (λ e. e) (λ none. absurd (nothing_there y none)) (cons_cases x [] y i)

pub empty_is_tree : IsTree 24 empty_tree
empty_is_tree = record {
  levels = ((record { page = refl; keys = tt }, tt), (refl, refl, tt));
  distinct = distinct (24 ∷ []) refl;
  nonzero = absent 0 (24 ∷ []) refl;
  height = omega arith;
}

-- the pages of the tree of three levels but its last leaf
abbrev others : List ℕ
others = 24 ∷ 30 ∷ 31 ∷ 40 ∷ 41 ∷ 42 ∷ []

right_is_tree : (n : Numbers) → AreRight n → IsTree 24 (three_levels n)
right_is_tree n h =
    let first = h.first in
    let second = h.second in
    let keys = h.keys in record {
      levels = (
        (record { under = record { page = refl; keys = (omega arith, tt, (omega arith, tt, tt)) }; first = refl }, tt),
        (refl, refl, tt),
        (
          (
            record { under = record { page = refl; keys = (omega arith, omega arith, (omega arith, omega arith, tt)) }; first = refl },
            (
              record {
                under = record { page = h.index_child; keys = (omega (arith, first), tt, (omega (arith, first, second), tt, tt)) };
                first = ap (λ (k : ℕ). Some k) first;
              },
              tt,
            ),
          ),
          (refl, h.index_next, (h.index_prev, refl, tt)),
          (
            (
              record { page = refl; keys = (omega arith, omega arith, tt) },
              (
                record {
                  page = h.leaf_child;
                  keys = (keys.0, omega (arith, keys, first), (omega (arith, keys), omega (arith, keys, first), tt));
                },
                (record { page = refl; keys = tt }, (record { page = refl; keys = (second.1, tt, tt) }, tt)),
              ),
            ),
            (h.start, refl, (h.leaf_prev, h.leaf_next, (refl, refl, (refl, h.end, tt)))),
          ),
        ),
      );
      distinct = distinct_append others (n.last ∷ []) (distinct others refl) ((λ i. nothing_there n.last i), tt)
          (λ p i j. h.last (cons_there 0 others n.last (subst (Contains others) (sym (only n.last p j)) i)));
      nonzero = λ i. ⊎_elim (absent 0 others refl)
          (λ t. h.last (subst (Contains (0 ∷ others)) (sym (only n.last 0 t)) (cons_here 0 others))) (Contains-append_cases others (n.last ∷ []) 0 i);
      height = omega arith;
    }

same : (x y : ℕ) → Some x ≡ Some y → x ≡ y
same x y e = cc

tree_is_right : (n : Numbers) → IsTree 24 (three_levels n) → AreRight n
tree_is_right n is =
    let middle = is.levels.2 in
    let right = middle.0.1.0 in
    let leaves = middle.2 in
    let of_second = leaves.0.1.0 in
    let keys = of_second.keys in
    let first = same n.first 50 right.first in
    let rises = right.under.keys.2.0 in record {
      index_child = right.under.page;
      leaf_child = of_second.page;
      first = first;
      second = (omega (arith, rises, first), leaves.0.1.1.1.0.keys.0);
      index_next = middle.1.1;
      index_prev = middle.1.2.0;
      leaf_prev = leaves.1.2.0;
      leaf_next = leaves.1.2.1;
      start = leaves.1.0;
      end = leaves.1.2.2.2.1;
      keys = (keys.0, (let up = keys.2.0 in omega (arith, up)), (let below = keys.2.1 in omega (arith, below, first)));
      last = λ i. ⊎_elim (λ e. is.nonzero (Contains-append_right others (n.last ∷ []) 0 (subst (λ p. Contains (n.last ∷ []) p) (sym e) (cons_here n.last []))))
          (λ t. apart others (n.last ∷ []) is.distinct n.last t (cons_here n.last [])) (cons_cases 0 others n.last i);
    }

pub numbers_are_asked : NumbersAreAsked
numbers_are_asked n = (tree_is_right n, right_is_tree n)

pub right_numbers_are_tree : IsTree 24 (three_levels right_numbers)
right_numbers_are_tree = right_is_tree right_numbers (record {
  index_child = refl;
  leaf_child = refl;
  first = refl;
  second = (omega arith, omega arith);
  index_next = refl;
  index_prev = refl;
  leaf_prev = refl;
  leaf_next = refl;
  start = refl;
  end = refl;
  keys = (omega arith, omega arith, omega arith);
  last = absent 43 (0 ∷ others) refl;
})

-- the rows of a root above two leaves
abbrev AreTwo : List (Row ℕ) → Type 0
AreTwo rows = (key : ℕ) × (0 < key) × (rows ≡ row 0 30 ∷ row key 31 ∷ [])

row_is : (r : Row ℕ) (key child : ℕ) → r.key ≡ key → r.value ≡ child → r ≡ row key child
row_is r key child a b = ap (λ k. row k r.value) a ∙ ap (row key) b

two_from : (rows : List (Row ℕ)) → IsTree 24 (two_leaves rows) → AreTwo rows
two_from [] is = let first = is.levels.0.0.first in absurd (cc)
two_from (a ∷ []) is = absurd is.levels.2.0.1
two_from (a ∷ b ∷ []) is =
    let root = is.levels.0.0 in
    let under = is.levels.2.0 in
    let rises = root.under.keys.2.0 in (
      b.key,
      omega (arith, rises),
      ap (λ r. r ∷ b ∷ []) (row_is a 0 30 (same a.key 0 root.first) under.0.page)
          ∙ ap (λ r. row 0 30 ∷ r ∷ []) (row_is b b.key 31 refl under.1.0.page),
    )
two_from (a ∷ b ∷ (c ∷ rows)) is = absurd is.levels.2.0.1.1

two_is_tree : (key : ℕ) → 0 < key → IsTree 24 (two_leaves (row 0 30 ∷ row key 31 ∷ []))
two_is_tree key some = record {
  levels = (
    (record { under = record { page = refl; keys = (omega arith, tt, (omega (arith, some), tt, tt)) }; first = refl }, tt),
    (refl, refl, tt),
    ((record { page = refl; keys = tt }, (record { page = refl; keys = tt }, tt)), (refl, refl, (refl, refl, tt))),
  );
  distinct = distinct (24 ∷ 30 ∷ 31 ∷ []) refl;
  nonzero = absent 0 (24 ∷ 30 ∷ 31 ∷ []) refl;
  height = omega arith;
}

pub rows_are_asked : RowsAreAsked
rows_are_asked rows = (two_from rows, λ h. subst (λ rs. IsTree 24 (two_leaves rs)) (sym h.2) (two_is_tree h.0 h.1))

-- towers
height_is : (n : ℕ) → length (above_leaf n) ≡ n
height_is zero = refl
height_is (suc n) = ap (λ (m : ℕ). suc m) (height_is n)

tower_levels : (n : ℕ) → AreLevels (root_row (suc n) ∷ []) (above_leaf n) (leaf 1 0 0 [] ∷ [])
tower_levels zero = ((record { page = refl; keys = tt }, tt), (refl, refl, tt))
tower_levels (suc n) = ((record { under = record { page = refl; keys = (omega arith, tt, tt) }; first = refl }, tt), (refl, refl, tt), tower_levels n)

low_pages : (n p : ℕ) → Contains (tree_pages (tower n)) p → (0 < p) × (p ≤ suc n)
low_pages zero p i = let e = only 1 p i in (omega (arith, e), omega (arith, e))
low_pages (suc n) p i = ⊎_elim (λ e. (omega (arith, e), omega (arith, e)))
    (λ t. let low = low_pages n p t in (low.0, omega (arith, low))) (cons_cases (suc (suc n)) (tree_pages (tower n)) p i)

tower_distinct : (n : ℕ) → AreDistinct (tree_pages (tower n))
tower_distinct zero = distinct (1 ∷ []) refl
tower_distinct (suc n) = ((λ i. let low = low_pages n (suc (suc n)) i in omega (arith, low)), tower_distinct n)

pub height_is_asked : HeightIsAsked
height_is_asked n =
    let long = height_is n in (
      λ is. let height = is.height in omega (arith, long, height),
      λ low. record {
        levels = tower_levels n;
        distinct = tower_distinct n;
        nonzero = λ i. let some = low_pages n 0 i in omega (arith, some);
        height = omega (arith, long, low);
      },
    )
