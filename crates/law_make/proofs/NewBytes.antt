-- What the pages of a new file show: map bits, PFS bytes, headers.
use Rattle.std.proofs.Common.{◌≡◌, refl, ℕ, ◌+◌, ◌*◌, ◌/◌, ◌%◌, ◌^◌, ◌<◌, Bool, true, List, ◌++◌, ap, ◌∙◌, arith}
use Rattle.std.specs.Prelude.{slice_index, replicate, Some}
use Rattle.std.proofs.lemmas.Bool.{and_from, eq-eqb}
use Rattle.byteorder.specs.Numbers.{little_number-reads_back}
use Rattle.spec_file.specs.declared.geometry.Geometry.{Geometry}
use Rattle.spec_file.specs.declared.role.Role.{Role}
use Rattle.spec_file.specs.declared.role.Role.TheVariants as role
use Rattle.spec_file.specs.Image.{page, bit, number_at, maps_start}
use Rattle.spec_file.specs.Header.{page_id, says}
use Rattle.spec_file.specs.Places.{HasShape, is_free, is_mixed, interval_size, gam_page, sgam_page, interval_of_page, pfs_page, pfs_span}
use Rattle.spec_file.specs.Roles.{role_of, system_type}
use Rattle.spec_chain.specs.Uses.{pfs_byte}
use Rattle.spec_make.specs.NewMaps.{content_size, is_new_free, is_new_mixed, new_pfs_byte, tells_of, map_content, pfs_start, pfs_byte_at}
use Rattle.spec_make.specs.NewPages.{new_type, new_header, new_content, new_file}
use Rattle.spec_make.proofs.RuleLaws.{behind-bytes_by, bit-behind}
use Rattle.spec_make.proofs.MapLaws.{tells_inside, pfs_inside}
use Rattle.spec_make.proofs.PageLaws.{length-new_header, page-by_role, page-new_file}
use Rattle.law_make.proofs.MapPages.{maps_of, pfs_page_of}

-- page p of the file, by its role
pub page_is : (g : Geometry) (pages p : ℕ) (r : Role) → p < pages → role_of g p ≡ r → page (new_file g pages) p ≡ new_header (new_type r) p ++ new_content r g pages p
page_is g pages p r inside is = page-new_file g pages p inside ∙ page-by_role g pages p r is

-- bit n of a page of bits
map_bit : (g : Geometry) (test : ℕ → Bool) (p m n e : ℕ) (type : ℕ) (bytes : List ℕ) → bytes ≡ new_header (Some type) p ++ map_content g test p
    → interval_of_page g p ≡ m → n < interval_size g → n / 8 < content_size → interval_size g * m + n ≡ e → bit bytes n ≡ test e
map_bit g test p m n e type bytes is interval low small place =
    ap (λ (l : List ℕ). bit l n) is
    ∙ bit-behind (new_header (Some type) p) (tells_of g test (interval_of_page g p)) n content_size (length-new_header (Some type) p) small
    ∙ ap (λ (i : ℕ). tells_of g test i n) interval ∙ tells_inside g test m n low ∙ ap test place

-- the GAM bit of an extent of the file
pub free_is : (g : Geometry) (pages e : ℕ) → HasShape g pages → 8 * e < pages → is_free g (new_file g pages) e ≡ is_new_free g pages e
free_is g pages e shape inside =
    let of = maps_of g pages e shape inside in
    let m = e / interval_size g in
    map_bit g (is_new_free g pages) (gam_page g m) m (e % interval_size g) e 8 (page (new_file g pages) (gam_page g m))
    (page_is g pages (gam_page g m) role.Gam of.gam_inside of.maps.gam) of.maps.gam_interval of.low of.byte of.place

-- and its SGAM bit
pub mixed_is : (g : Geometry) (pages e : ℕ) → HasShape g pages → 8 * e < pages → is_mixed g (new_file g pages) e ≡ is_new_mixed e
mixed_is g pages e shape inside =
    let of = maps_of g pages e shape inside in
    let m = e / interval_size g in
    map_bit g is_new_mixed (sgam_page g m) m (e % interval_size g) e 9 (page (new_file g pages) (sgam_page g m))
    (page_is g pages (sgam_page g m) role.Sgam of.sgam_inside of.maps.sgam) of.maps.sgam_interval of.low of.byte of.place

-- the PFS byte of a page of the file
pub pfs_is : (g : Geometry) (pages p : ℕ) → HasShape g pages → p < pages → pfs_byte g (new_file g pages) p ≡ new_pfs_byte g p
pfs_is g pages p shape inside =
    let of = pfs_page_of g pages p shape.low inside in
    let q = pfs_page g p in
    let i = p % pfs_span g in
    ap (λ (l : List ℕ). slice_index l (maps_start + i)) (page_is g pages q role.Pfs of.inside of.role)
    ∙ behind-bytes_by (new_header (new_type role.Pfs) q) (pfs_byte_at g pages (pfs_start g q)) maps_start content_size i (length-new_header (new_type role.Pfs) q) of.byte
    ∙ pfs_inside g pages (pfs_start g q) i of.low (omega (arith, of.place, inside)) ∙ ap (new_pfs_byte g) of.place

own_number : (type p : ℕ) (rest : List ℕ) → p < 256 ^ 4 → page_id (new_header (Some type) p ++ rest) ≡ p
unfolding number_at
own_number type p rest fits = little_number-reads_back 4 p (replicate 88 0 ++ rest) fits

-- a page with a header says its type and its number
pub says_itself : (type p : ℕ) (rest : List ℕ) → p < 256 ^ 4 → says type p (new_header (Some type) p ++ rest) ≡ true
says_itself type p rest fits = and_from _ _ (eq-eqb type type refl) (eq-eqb (page_id (new_header (Some type) p ++ rest)) p (own_number type p rest fits))

-- a page that must have a type says it
typed : (r : Role) (type : ℕ) → system_type r ≡ Some type → new_type r ≡ Some type
typed role.Pfs type is = is
typed role.Gam type is = is
typed role.Sgam type is = is
typed role.Boot type is = is
typed role.FileHeader type is = absurd (cc)
typed role.Reserved type is = absurd (cc)
typed role.Ordinary type is = absurd (cc)

pub says_type : (g : Geometry) (pages p type : ℕ) → p < pages → p < 256 ^ 4 → system_type (role_of g p) ≡ Some type → says type p (page (new_file g pages) p) ≡ true
says_type g pages p type inside fits is =
    ap (says type p) (page_is g pages p (role_of g p) inside refl ∙ ap (λ t. new_header t p ++ new_content (role_of g p) g pages p) (typed (role_of g p) type is))
    ∙ says_itself type p (new_content (role_of g p) g pages p) fits
