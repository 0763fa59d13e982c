-- What follows from the definition of a chain.
use Rattle.std.specs.Prelude.{◌≡◌, ℕ, ◌-◌, ◌<◌, ◌≤◌, length}
use Rattle.std.proofs.Common.{arith, ⊎_elim, ◌⊎◌, rules}
use Rattle.spec_file.specs.declared.geometry.Geometry.{Geometry}
use Rattle.spec_file.specs.Image.{Image}
use Rattle.spec_file.specs.CatalogRows.{CatalogRow}
use Rattle.spec_chain.specs.Chains.{pointer, HasPages, HasLength, IsChainPage}
use Rattle.spec_chain.proofs.Pigeons.{pigeons}
use Rattle.spec_chain.proofs.Pointers.{goes_good, inside_below, inside_nonzero}
use Rattle.spec_chain.specs.ChainLaws.{ChainHasOneLength, ChainIsShort}

order : (m n : ℕ) → (m < n) ⊎ ((n < m) ⊎ (m ≡ n))
order m n = search (rules, arith)

pub chain_has_one_length : ChainHasOneLength
chain_has_one_length g image row m n a b =
    ⊎_elim (λ less. absurd (a.ends (b.pages m less)))
    (λ rest. ⊎_elim (λ more. absurd (b.ends (a.pages n more))) (λ same. same) rest) (order m n)

-- the k-th page of a chain stands below its length, and each number below it has a page
pub page_below : (g : Geometry) (image : Image) (row : CatalogRow) (n k : ℕ) → HasLength g image row n → IsChainPage g image row k → k < n
page_below g image row n k length is =
    ⊎_elim (λ below. below) (λ beyond. absurd (length.ends (is n (omega (arith, beyond))))) (split k n) where
      split : (k n : ℕ) → (k < n) ⊎ (n ≤ k)
      split k n = search (rules, arith)

pub below_page : (g : Geometry) (image : Image) (row : CatalogRow) (n k : ℕ) → HasPages g image row n → k < n → IsChainPage g image row k
below_page g image row n k pages below = λ j h. pages j (omega (arith, h, below))

pub chain_is_short : ChainIsShort
chain_is_short g image row n some pages =
    let few = pigeons (λ j. pointer image row j - 1) n (length image - 1)
    (λ i j less low same.
    let a = in_file i low in let b = in_file j (omega (arith, less, low)) in
    (pages i low).1 (j, less, omega (arith, same, a.0, b.0)))
    (λ i low. let a = in_file i low in omega (arith, a.0, a.1)) in
    omega (arith, few, some) where
      in_file : (i : ℕ) → i < n → (0 < pointer image row i) × (pointer image row i < length image)
      in_file i low =
          let good = goes_good g image row i (pages i low) in
          let other = inside_nonzero (length image) (pointer image row i) good.inside in
          (omega (arith, other), inside_below (length image) (pointer image row i) good.inside)
