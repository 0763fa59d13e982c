-- The chain that a statement reads, as a list: its pages, its first and its last.
use Rattle.std.proofs.Common.{◌≡◌, ℕ, zero, suc, ◌+◌, List, [], ◌∷◌, length, map, Contains, Some, None, ap, subst, ◌∙◌, arith}
use Rattle.std.specs.List.{range_with_len}
use Rattle.std.proofs.lemmas.List.FromFn.{length-map-range_with_len}
use Rattle.spec_file.specs.declared.geometry.Geometry.{Geometry}
use Rattle.spec_file.specs.Image.{Image}
use Rattle.spec_file.specs.CatalogRows.{CatalogRow}
use Rattle.spec_chain.specs.Chains.{pointer, IsInChain}
use Rattle.spec_chain.proofs.ChainLaws.{below_page, page_below}
use Rattle.spec_check.proofs.Members.{nothing_there, cons_here, map_from, map_in, range_from, range_in}
use Rattle.spec_plan.specs.Changes.{last_of}
use Rattle.spec_alloc.specs.Search.{first_in}
use Rattle.law_chains.specs.Laws.{chain_pages, IsWhole}

-- its members are the pages of the chain
module _ (g : Geometry) (image : Image) (row : CatalogRow) (n : ℕ) (whole : IsWhole g image row n) where
  pub in_chain : (q : ℕ) → Contains (chain_pages image row n) q → IsInChain g image row q
  in_chain q there =
      let at = map_from (pointer image row) (range_with_len 0 n) q there in
      (at.0, below_page g image row n at.0 whole.pages.pages (range_from n at.0 at.1), at.2)

  pub chain_in : (q : ℕ) → IsInChain g image row q → Contains (chain_pages image row n) q
  chain_in q (k, is, at) = subst (Contains (chain_pages image row n)) at (map_in (pointer image row) (range_with_len 0 n) k (range_in n k (page_below g image row n k whole.pages is)))

-- it has as many
pub chain_count : (image : Image) (row : CatalogRow) (n : ℕ) → length (chain_pages image row n) ≡ n
chain_count image row n = length-map-range_with_len (pointer image row) 0 n

-- the last of them
last_map : (f : ℕ → ℕ) (x lo j : ℕ) → last_of x (map f (range_with_len lo (suc j))) ≡ f (lo + j)
last_map f x lo zero = let same : lo ≡ lo + 0 = omega arith in ap f same
last_map f x lo (suc j) = let same : lo + 1 + j ≡ lo + suc j = omega arith in last_map f (f lo) (lo + 1) j ∙ ap f same

pub last_is : (image : Image) (row : CatalogRow) (j : ℕ) → last_of 0 (chain_pages image row (suc j)) ≡ pointer image row j
last_is image row j = last_map (pointer image row) 0 0 j ∙ (let same : 0 + j ≡ j = omega arith in ap (pointer image row) same)

-- the first of a list is in it, and a list that has one has a first
pub first_from : (xs : List ℕ) (x : ℕ) → first_in xs ≡ Some x → Contains xs x
first_from [] x is = absurd (cc)
first_from (y ∷ ys) x is = let same : y ≡ x = cc in subst (Contains (y ∷ ys)) same (cons_here y ys)

pub first_there : (xs : List ℕ) (x : ℕ) → Contains xs x → first_in xs ≡ None → ⊥
first_there [] x there none = nothing_there x there
first_there (y ∷ ys) x there none = cc
