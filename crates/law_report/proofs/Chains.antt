-- A chain of an image has a length, whatever the image: it never has more pages than the image.
use Rattle.std.proofs.Common.{◌⊎◌, ℕ, zero, suc, length, arith, sym, subst, inl, inr, ⊎_elim}
use Rattle.std.proofs.lemmas.Bool.{cases_eq}
use Rattle.spec_file.specs.declared.geometry.Geometry.{Geometry}
use Rattle.spec_file.specs.Image.{Image, page}
use Rattle.spec_file.specs.CatalogRows.{CatalogRow, rows_of}
use Rattle.spec_chain.specs.Chains.{IsObject, pointer, first_fault, IsMet, GoesOn, HasPages, IsChainPage, IsInChain, HasLength}
use Rattle.spec_chain.proofs.ChainLaws.{chain_is_short, chain_has_one_length, page_below, below_page}
use Rattle.spec_chain.proofs.Pointers.{goes_good, inside_below}
use Rattle.law_report.proofs.Decisions.{dec_like, dec_not, dec_and, dec_none, dec_eq, dec_lt}
use Rattle.law_report.proofs.Listings.{Listing, like, numbers, listed, only, dec_exists}

pub objects : (image : Image) → Listing (IsObject image)
objects image = listed (rows_of (page image 9))

dec_met : (image : Image) (row : CatalogRow) (n q : ℕ) → Dec (IsMet image row n q)
dec_met image row n q = dec_exists (numbers n) (λ j low. dec_eq (pointer image row j) q)

dec_goes_on : (g : Geometry) (image : Image) (row : CatalogRow) (n : ℕ) → Dec (GoesOn g image row n)
dec_goes_on g image row n = dec_and (dec_none (first_fault g image row n)) (dec_not (dec_met image row n (pointer image row n)))

abbrev pub ItsLength : Geometry → Image → CatalogRow → Type 0
ItsLength g image row = (n : ℕ) × HasLength g image row n

one_page_more : (g : Geometry) (image : Image) (row : CatalogRow) (m : ℕ) → HasPages g image row m → Dec (GoesOn g image row m)
    → ItsLength g image row ⊎ HasPages g image row (suc m)
one_page_more g image row m pages (no ends) = inl (m, record { pages = pages; ends = ends })
one_page_more g image row m pages (yes on) = inr (λ k low. ⊎_elim (λ same. subst (GoesOn g image row) (sym same) on)
    (λ other. pages k (omega (arith, other, low))) (cases_eq k m))

-- a chain ends within so many pages, or has them all
ends_within : (g : Geometry) (image : Image) (row : CatalogRow) (m : ℕ) → ItsLength g image row ⊎ HasPages g image row m
ends_within g image row zero = inr (λ k low. absurd (omega arith))
ends_within g image row (suc m) = ⊎_elim (λ found. inl found)
    (λ pages. one_page_more g image row m pages (dec_goes_on g image row m)) (ends_within g image row m)

never_so_long : (g : Geometry) (image : Image) (row : CatalogRow) → HasPages g image row (suc (length image)) → ⊥
never_so_long g image row pages =
    let good = goes_good g image row 0 (pages 0 (omega arith)) in
    let inside = inside_below (length image) (pointer image row 0) good.inside in
    let short = chain_is_short g image row (suc (length image)) (omega (arith, inside)) pages in
    omega (arith, short)

pub chain_length : (g : Geometry) (image : Image) (row : CatalogRow) → ItsLength g image row
chain_length g image row =
    ⊎_elim (λ found. found) (λ pages. absurd (never_so_long g image row pages)) (ends_within g image row (suc (length image)))

pub chain_lengths : (g : Geometry) (image : Image) (row : CatalogRow) → Listing (HasLength g image row)
chain_lengths g image row =
    let its = chain_length g image row in
    only its.0 its.1 (λ n is. chain_has_one_length g image row n its.0 is its.1)

pub chain_pages : (g : Geometry) (image : Image) (row : CatalogRow) → Listing (IsChainPage g image row)
chain_pages g image row =
    let its = chain_length g image row in
    like (numbers its.0) (λ k low. below_page g image row its.0 k its.1.pages low) (λ k is. page_below g image row its.0 k its.1 is)

pub dec_chain_page : (g : Geometry) (image : Image) (row : CatalogRow) (k : ℕ) → Dec (IsChainPage g image row k)
dec_chain_page g image row k =
    let its = chain_length g image row in
    dec_like (λ low. below_page g image row its.0 k its.1.pages low) (λ is. page_below g image row its.0 k its.1 is) (dec_lt k its.0)

pub dec_in_chain : (g : Geometry) (image : Image) (row : CatalogRow) (p : ℕ) → Dec (IsInChain g image row p)
dec_in_chain g image row p = dec_exists (chain_pages g image row) (λ k is. dec_eq (pointer image row k) p)
