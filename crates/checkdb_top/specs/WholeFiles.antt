-- A file of whole pages as an image.
use Rattle.std.specs.Prelude.{◌≡◌, ℕ, ◌*◌, ◌/◌, ◌<◌, List, length, Option, Some, None, IfSome, option_map, refl}
use Rattle.std.specs.Option.{ForSome}
use Rattle.std.proofs.Common.{arith, sym, ◌∙◌, ap}
use Rattle.std.proofs.lemmas.Option.{same_Some}
use Rattle.spec_file.specs.Image.{page_at, pages_of, page}
use Rattle.spec_file.proofs.ImageLaws.{length-pages_of, page-pages_of, same_bytes}

whole_pages : (bytes : List ℕ) (pages : ℕ) → length bytes ≡ 8192 * pages → length bytes / 8192 ≡ pages
whole_pages bytes pages size = omega (arith, size)

-- the image of a told file has the file's number of pages
pub whole_image : (told : Option (List ℕ)) (pages : ℕ) → ForSome told (λ bytes. length bytes ≡ 8192 * pages)
    → ForSome (option_map pages_of told) (λ image. length image ≡ pages)
whole_image None pages whole image is = cc
whole_image (Some bytes) pages whole image is =
    ap length (sym (same_Some (pages_of bytes) image is)) ∙ length-pages_of bytes ∙ whole_pages bytes pages (whole bytes refl)

-- a page of a told file is that of its image
pub told_page : (told : Option (List ℕ)) (pages p : ℕ) (found : List ℕ) → ForSome told (λ bytes. length bytes ≡ 8192 * pages)
    → p < pages → IfSome told (λ bytes. found ≡ page_at bytes p) → IfSome (option_map pages_of told) (λ image. found ≡ page image p)
told_page None pages p found whole below is = tt
told_page (Some bytes) pages p found whole below is =
    let inside : p < length bytes / 8192 = omega (arith, whole_pages bytes pages (whole bytes refl)) in
    is ∙ sym (page-pages_of bytes p inside)

-- a told file of whole pages whose image stayed is as it was
pub same_contents : (old new : Option (List ℕ)) (m n : ℕ) → ForSome old (λ bytes. length bytes ≡ 8192 * m)
    → ForSome new (λ bytes. length bytes ≡ 8192 * n) → option_map pages_of new ≡ option_map pages_of old → new ≡ old
same_contents None None m n whole_old whole_new same = refl
same_contents None (Some b) m n whole_old whole_new same = cc
same_contents (Some a) None m n whole_old whole_new same = cc
same_contents (Some a) (Some b) m n whole_old whole_new same =
    ap (λ l. Some l) (same_bytes b a n m (whole_new b refl) (whole_old a refl) (same_Some (pages_of b) (pages_of a) same))
