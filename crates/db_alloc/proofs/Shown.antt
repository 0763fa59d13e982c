-- What a look tells of the image of a view.
use Rattle.std.proofs.Common.{◌≡◌, ℕ, ◌<◌, true, List, [], length, refl, sym, ◌∙◌, subst, arith, inl}
use Rattle.std.specs.Prelude.{slice_index, IsSomeAnd}
use Rattle.std.proofs.lemmas.Grind.{same_number_lists}
use Rattle.std.proofs.lemmas.Nat.Bits.{same_from_bits_below}
use Rattle.spec_file.specs.declared.data.Resource.TheVariants as resource
use Rattle.spec_file.specs.Image.{Image, AreBytes, page, page_size}
use Rattle.spec_file.specs.Roles.{is_ordinary}
use Rattle.law_cover.proofs.Pages.{catalog_guards_boot}
use Rattle.spec_words.specs.NetChanges.{FileShape}
use Rattle.law_net.specs.Files.{IsImageOf}
use Rattle.db_locks.specs.Guards.{AgreeUnder}
use Rattle.db_locks.proofs.PageLaws.{told_page}

-- how long a page of the image is
page_long : (shape : FileShape) (image : Image) → IsImageOf shape image → (p : ℕ) → p < shape.pages → length (page image p) ≡ page_size
page_long shape image is p lt = is.whole p [] (subst (λ n. p < n) (sym is.pages) lt)

pub ordinary_shown : (shape : FileShape) (image : Image) → IsImageOf shape image → (p : ℕ) → p < shape.pages → is_ordinary shape.geometry p ≡ true → (shown : List ℕ)
    → AreBytes shown → length shown ≡ page_size → AgreeUnder (resource.Page (record { 0 = p })) shape p shown (page image p) → shown ≡ page image p
ordinary_shown shape image is p lt ordinary shown a long agree = told_page shape p shown (page image p) lt ordinary a (is.bytes p) long (page_long shape image is p lt) agree

-- the catalog guards all of page 9
pub catalog_shown : (shape : FileShape) (image : Image) → IsImageOf shape image → (shown : List ℕ)
    → AreBytes shown → length shown ≡ page_size → AgreeUnder resource.Catalog shape 9 shown (page image 9) → shown ≡ page image 9
catalog_shown shape image is shown a long agree =
    let low = (is.file).low in
    let inside : 9 < shape.pages = omega (arith, low) in
    same_number_lists shown (page image 9) (long ∙ sym (page_long shape image is 9 inside)) (λ i here.
    same_from_bits_below 8 (slice_index shown i) (slice_index (page image 9) i) (a i) (is.bytes 9 i)
    (λ j small. agree i j (subst (λ n. i < n) long here) small
    (inl (subst (λ g. IsSomeAnd g (λ s. s ≡ resource.Catalog)) (sym (catalog_guards_boot shape.geometry shape.pages i inside)) refl))))
