-- The pages of a new file: how long they are, and what their parts are.
use Rattle.std.proofs.Common.{◌≡◌, ℕ, ◌+◌, ◌*◌, ◌<◌, [], ◌++◌, length, ap, arith, length-append}
use Rattle.std.specs.Prelude.{replicate, Option, Some, None}
use Rattle.std.proofs.lemmas.List.{length-replicate}
use Rattle.std.proofs.lemmas.List.FromFn.{length-map-range_with_len, get_or-map-range_with_len}
use Rattle.byteorder.specs.Endian.{little_bytes}
use Rattle.byteorder.specs.Numbers.{length-bytes_low_first}
use Rattle.spec_file.specs.declared.geometry.Geometry.{Geometry}
use Rattle.spec_file.specs.declared.role.Role.{Role}
use Rattle.spec_file.specs.declared.role.Role.TheVariants as role
use Rattle.spec_file.specs.Image.{page}
use Rattle.spec_file.specs.Places.{interval_of_page}
use Rattle.spec_file.specs.Roles.{role_of}
use Rattle.spec_make.specs.Rules.{byte_where}
use Rattle.spec_make.specs.NewMaps.{content_size, is_new_free, is_new_mixed, tells_of, pfs_start, pfs_byte_at}
use Rattle.spec_make.specs.NewPages.{new_type, new_header, new_content, new_page, new_file}
use Rattle.spec_make.proofs.RuleLaws.{length-bytes_by}

-- a header has 96 bytes
pub length-new_header : (type : Option ℕ) (p : ℕ) → length (new_header type p) ≡ 96
length-new_header None p = length-replicate {A = ℕ} 96 0
length-new_header (Some type) p =
    omega (arith, length-append (little_bytes 4 p) (replicate 88 0), length-bytes_low_first 0 4 p, length-replicate {A = ℕ} 88 0)

-- what stands behind it has the page's other bytes
length-new_content : (r : Role) (g : Geometry) (pages p : ℕ) → length (new_content r g pages p) ≡ 8096
length-new_content role.FileHeader g pages p =
    omega (arith, length-append (little_bytes 4 pages) (replicate 8080 0), length-bytes_low_first 0 4 pages, length-replicate {A = ℕ} 8080 0)
length-new_content role.Pfs g pages p = length-bytes_by (pfs_byte_at g pages (pfs_start g p)) content_size
length-new_content role.Gam g pages p = length-bytes_by (λ i. byte_where (λ k. tells_of g (is_new_free g pages) (interval_of_page g p) (8 * i + k))) content_size
length-new_content role.Sgam g pages p = length-bytes_by (λ i. byte_where (λ k. tells_of g is_new_mixed (interval_of_page g p) (8 * i + k))) content_size
length-new_content role.Boot g pages p = length-replicate {A = ℕ} content_size 0
length-new_content role.Reserved g pages p = length-replicate {A = ℕ} content_size 0
length-new_content role.Ordinary g pages p = length-replicate {A = ℕ} content_size 0

-- a page is whole
pub length-new_page : (g : Geometry) (pages p : ℕ) → length (new_page g pages p) ≡ 8192
unfolding new_page
length-new_page g pages p =
    omega (
      arith,
      length-append (new_header (new_type (role_of g p)) p) (new_content (role_of g p) g pages p),
      length-new_header (new_type (role_of g p)) p,
      length-new_content (role_of g p) g pages p,
    )

-- a page, by its role
pub page-by_role : (g : Geometry) (pages p : ℕ) (r : Role) → role_of g p ≡ r → new_page g pages p ≡ new_header (new_type r) p ++ new_content r g pages p
unfolding new_page
page-by_role g pages p r is = ap (λ (s : Role). new_header (new_type s) p ++ new_content s g pages p) is

-- a new file has as many pages as it was to have
pub length-new_file : (g : Geometry) (pages : ℕ) → length (new_file g pages) ≡ pages
unfolding new_file
length-new_file g pages = length-map-range_with_len (new_page g pages) 0 pages

-- its page p is this
pub page-new_file : (g : Geometry) (pages p : ℕ) → p < pages → page (new_file g pages) p ≡ new_page g pages p
unfolding new_file
page-new_file g pages p within = get_or-map-range_with_len (new_page g pages) 0 pages p p [] within (omega arith)
