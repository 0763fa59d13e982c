-- The bytes of a file of whole pages, and of a new file.
use Rattle.std.proofs.Common.{◌≡◌, refl, ℕ, zero, suc, ◌+◌, ◌*◌, ◌/◌, ◌<◌, List, [], ◌∷◌, ◌++◌, length, take, drop, ap, sym, ◌∙◌, arith, subst}
use Rattle.std.specs.Prelude.{All}
use Rattle.std.proofs.lemmas.List.{drop-drop, drop_at, take_at, length-append}
use Rattle.std.proofs.lemmas.List.Elements.{All-head, All-tail}
use Rattle.std.proofs.lemmas.List.FromFn.{fill_by_all, get_or-map-range_with_len}
use Rattle.spec_file.specs.declared.geometry.Geometry.{Geometry}
use Rattle.spec_file.specs.Image.{Image, page, page_size, page_at, pages_of, bytes_of}
use Rattle.spec_make.specs.NewPages.{new_page, new_file}
use Rattle.spec_make.proofs.PageLaws.{length-new_page, length-new_file}

-- each page has a page's bytes
abbrev pub AreWhole : Image → Type 0
AreWhole image = All (λ bytes. length bytes ≡ page_size) image

-- whole pages have so many bytes
pub length-bytes_of : (image : Image) → AreWhole image → length (bytes_of image) ≡ page_size * length image
length-bytes_of [] whole = refl
length-bytes_of (first ∷ rest) whole =
    length-append first (bytes_of rest)
    ∙ omega (
      arith,
      All-head (λ (bytes : List ℕ). length bytes ≡ page_size) first rest whole,
      length-bytes_of rest (All-tail (λ (bytes : List ℕ). length bytes ≡ page_size) first rest whole),
    )

-- and each of them is found in these
page_in_bytes : (image : Image) (p : ℕ) → AreWhole image → p < length image → page_at (bytes_of image) p ≡ page image p
page_in_bytes [] p whole inside = absurd (omega (arith, inside))
page_in_bytes (first ∷ rest) zero whole inside = take_at first (bytes_of rest) page_size (All-head (λ (bytes : List ℕ). length bytes ≡ page_size) first rest whole)
page_in_bytes (first ∷ rest) (suc p) whole inside =
    let size = All-head (λ (bytes : List ℕ). length bytes ≡ page_size) first rest whole in
    let next : page_size * suc p ≡ page_size + page_size * p = omega arith in
    ap (λ (n : ℕ). take page_size (drop n (first ++ bytes_of rest))) next
    ∙ ap (take page_size) (sym (drop-drop (page_size * p) page_size (first ++ bytes_of rest)) ∙ ap (drop (page_size * p)) (drop_at first (bytes_of rest) page_size size))
    ∙ page_in_bytes rest p (All-tail (λ (bytes : List ℕ). length bytes ≡ page_size) first rest whole) (omega (arith, inside))

-- so the pages of an image's bytes are the image
pub pages_of-bytes_of : (image : Image) → AreWhole image → pages_of (bytes_of image) ≡ image
unfolding pages_of
pages_of-bytes_of image whole =
    let count : length (bytes_of image) / page_size ≡ length image = omega (arith, length-bytes_of image whole) in
    sym (fill_by_all (page_at (bytes_of image)) image (length (bytes_of image) / page_size) [] (sym count)
    (λ k low. sym (page_in_bytes image k whole (subst (λ n. k < n) count low))))

-- the pages of a new file are whole
pub whole_pages : (g : Geometry) (pages : ℕ) → AreWhole (new_file g pages)
unfolding new_file
whole_pages g pages k d inside =
    ap length (get_or-map-range_with_len (new_page g pages) 0 pages k k d (subst (λ n. k < n) (length-new_file g pages) inside) (omega arith))
    ∙ length-new_page g pages k
