-- What differs is guarded by what was taken.
use Rattle.std.proofs.Common.{◌≡◌, ℕ, ◌/◌, ◌<◌, true, false, eqb, not, List, arith}
use Rattle.std.specs.Prelude.{bytes_eq}
use Rattle.std.proofs.lemmas.Bool.{and_parts, eqb-false, not-true}
use Rattle.spec_file.specs.declared.data.Resource.{Resource}
use Rattle.spec_file.specs.declared.data.Resource.TheVariants as resource
use Rattle.spec_file.specs.Image.{Image, page}
use Rattle.spec_file.specs.Places.{gam_place, sgam_place, pfs_page, pfs_place}
use Rattle.spec_file.specs.Roles.{is_ordinary}
use Rattle.spec_chain.specs.Uses.{pfs_byte}
use Rattle.law_cover.proofs.Places.{extents_guard_bits, pages_guard_bytes}
use Rattle.law_cover.proofs.Pages.{pages_guard_themselves, catalog_guards_boot, pfs_inside}
use Rattle.spec_words.specs.NetChanges.{FileShape, is_turned, is_byte_changed, is_page_changed}
use Rattle.spec_words.specs.Takes.{is_among}
use Rattle.law_net.specs.Files.{DifferUnder}
use Rattle.law_net.proofs.Images.{AreImages, whole_page}
use Rattle.law_net.proofs.Fits.{some_byte, guard_fits, bit_fits, bit_inside, low_bit, low_byte}

pub taken_byte : (shape : FileShape) (taken : List Resource) (start now : Image) → AreImages shape start now → DifferUnder shape taken start now → (p : ℕ) → p < shape.pages →
    is_byte_changed shape.geometry start now p ≡ true → is_among taken (resource.Byte (record { 0 = p })) ≡ true
taken_byte shape taken start now images under p lt changes =
    let g = shape.geometry in
    let file = images.file in
    guard_fits (λ r. is_among taken r ≡ true) shape start now images under (pfs_page g p) (pfs_place g p).at (resource.Byte (record { 0 = p })) (pfs_inside g shape.pages p file.low lt) (low_byte g p)
    (pages_guard_bytes g shape.pages p file.low lt) (eqb-false (pfs_byte g start p) (pfs_byte g now p) (not-true (eqb (pfs_byte g start p) (pfs_byte g now p)) changes))

pub taken_page : (shape : FileShape) (taken : List Resource) (start now : Image) → AreImages shape start now → DifferUnder shape taken start now → (p : ℕ) → p < shape.pages →
    is_page_changed shape.geometry start now p ≡ true → is_among taken (resource.Page (record { 0 = p })) ≡ true
taken_page shape taken start now images under p lt differs =
    let parts = and_parts (is_ordinary shape.geometry p) (not (bytes_eq (page start p) (page now p))) differs in
    let whole = whole_page shape start now images p lt in
    let b = some_byte (page start p) (page now p) whole.old whole.new (not-true (bytes_eq (page start p) (page now p)) parts.1) in
    guard_fits (λ r. is_among taken r ≡ true) shape start now images under p b.0 (resource.Page (record { 0 = p })) lt b.1 (pages_guard_themselves shape.geometry shape.pages p b.0 lt parts.0) b.2

pub taken_catalog : (shape : FileShape) (taken : List Resource) (start now : Image) → AreImages shape start now → DifferUnder shape taken start now →
    bytes_eq (page start 9) (page now 9) ≡ false → is_among taken resource.Catalog ≡ true
taken_catalog shape taken start now images under differs =
    let low = (images.file).low in
    let whole = whole_page shape start now images 9 (omega (arith, low)) in
    let b = some_byte (page start 9) (page now 9) whole.old whole.new differs in
    guard_fits (λ r. is_among taken r ≡ true) shape start now images under 9 b.0 resource.Catalog (omega (arith, low)) b.1 (catalog_guards_boot shape.geometry shape.pages b.0 (omega (arith, low))) b.2

pub taken_gam : (shape : FileShape) (taken : List Resource) (start now : Image) → AreImages shape start now → DifferUnder shape taken start now → (e : ℕ) → e < shape.pages / 8 →
    is_turned start now (gam_place shape.geometry e) ≡ true → is_among taken (resource.Extent (record { 0 = e })) ≡ true
taken_gam shape taken start now images under e lt turned =
    let file = images.file in
    let guard = (extents_guard_bits shape.geometry shape.pages e file.low file.high lt).0 in
    bit_fits (λ r. is_among taken r ≡ true) shape start now images under (gam_place shape.geometry e) (resource.Extent (record { 0 = e }))
    (bit_inside shape (gam_place shape.geometry e) (resource.Extent (record { 0 = e })) guard) (low_bit shape.geometry e) guard turned

pub taken_sgam : (shape : FileShape) (taken : List Resource) (start now : Image) → AreImages shape start now → DifferUnder shape taken start now → (e : ℕ) → e < shape.pages / 8 →
    is_turned start now (sgam_place shape.geometry e) ≡ true → is_among taken (resource.Extent (record { 0 = e })) ≡ true
taken_sgam shape taken start now images under e lt turned =
    let file = images.file in
    let guard = (extents_guard_bits shape.geometry shape.pages e file.low file.high lt).1 in
    bit_fits (λ r. is_among taken r ≡ true) shape start now images under (sgam_place shape.geometry e) (resource.Extent (record { 0 = e }))
    (bit_inside shape (sgam_place shape.geometry e) (resource.Extent (record { 0 = e })) guard) (low_bit shape.geometry e) guard turned
