-- Page 0 of a new file passes its tests.
use Rattle.std.proofs.Common.{◌≡◌, refl, ℕ, ◌+◌, ◌^◌, ◌<◌, ◌==◌, Bool, true, false, List, ◌++◌, take, drop, not, ap, sym, ◌∙◌, arith}
use Rattle.std.specs.Prelude.{slice_index, slice_range, replicate, bytes_eq, codes, Option, Some, None, if◌then◌else◌}
use Rattle.std.proofs.lemmas.Bool.{and_from, eq-eqb, le-leb}
use Rattle.std.proofs.lemmas.List.{drop_at, drop-drop, get_or-drop}
use Rattle.byteorder.specs.Endian.{little_number}
use Rattle.byteorder.specs.Numbers.{little_number-reads_back}
use Rattle.spec_file.specs.declared.geometry.Geometry.{Geometry}
use Rattle.spec_file.specs.declared.geometry.Geometry.TheVariants.{Standard, Small}
use Rattle.spec_file.specs.declared.page_type.TheConstants.{FILE_HEADER_TYPE}
use Rattle.spec_file.specs.Image.{number_at}
use Rattle.spec_file.specs.FileForm.{header_passes, version_passes, geometry_of, count_passes}
use Rattle.spec_file.specs.Places.{HasShape, geometry_of_byte, page_limit}
use Rattle.spec_start.specs.declared.why.FileWhy.{FileWhy}
use Rattle.spec_start.specs.Files.{count_fault, opening_fault}
use Rattle.spec_make.specs.NewPages.{new_header, geometry_byte, first_content}
use Rattle.spec_make.proofs.PageLaws.{length-new_header}
use Rattle.law_make.proofs.NewBytes.{says_itself}

-- page 0
abbrev pub first : Geometry → ℕ → List ℕ
first g pages = new_header (Some FILE_HEADER_TYPE) 0 ++ first_content g pages

-- what stands behind its header
behind : (g : Geometry) (pages : ℕ) → drop 96 (first g pages) ≡ first_content g pages
behind g pages = drop_at (new_header (Some FILE_HEADER_TYPE) 0) (first_content g pages) 96 (length-new_header (Some FILE_HEADER_TYPE) 0)

-- the eight letters
letters : (g : Geometry) (pages : ℕ) → bytes_eq (slice_range (first g pages) 96 104) (codes "PGCHKDB1") ≡ true
letters g pages = ap (λ (l : List ℕ). bytes_eq (take 8 l) (codes "PGCHKDB1")) (behind g pages)

-- its header
header : (g : Geometry) (pages : ℕ) → header_passes (first g pages) ≡ true
header g pages =
    and_from _ _ (and_from _ _ refl (says_itself FILE_HEADER_TYPE 0 (first_content g pages) (omega arith))) (letters g pages)

-- a number behind it
number_behind : (n k : ℕ) (g : Geometry) (pages : ℕ) → number_at n (96 + k) (first g pages) ≡ little_number n (drop k (first_content g pages))
unfolding number_at
number_behind n k g pages =
    ap (little_number n) (sym (drop-drop k 96 (first g pages)) ∙ ap (drop k) (behind g pages))

-- its version
version : (g : Geometry) (pages : ℕ) → version_passes (first g pages) ≡ true
version g pages = ap (λ (n : ℕ). n == 1) (number_behind 2 8 g pages)

named : (g : Geometry) → geometry_of_byte (geometry_byte g) ≡ Some g
named Standard = refl
named Small = refl

-- its geometry
pub geometry_is : (g : Geometry) (pages : ℕ) → geometry_of (first g pages) ≡ Some g
geometry_is g pages =
    ap geometry_of_byte (sym (get_or-drop 96 (first g pages) 10 0) ∙ ap (λ (l : List ℕ). slice_index l 10) (behind g pages)) ∙ named g

-- and its number of pages
count : (g : Geometry) (pages : ℕ) → HasShape g pages → pages < 256 ^ 4 → count_passes g pages (first g pages) ≡ true
count g pages shape fits =
    and_from _ _ (eq-eqb (number_at 4 108 (first g pages)) pages (number_behind 4 12 g pages ∙ little_number-reads_back 4 pages (replicate 8080 0) fits)) (le-leb pages (page_limit g) shape.high)

no_fault : (a b : Bool) (o : Option FileWhy) (x y : FileWhy) → a ≡ true → b ≡ true → o ≡ None → (if not a then Some x else (if not b then Some y else o)) ≡ None
no_fault true true o x y ha hb h = h
no_fault true false o x y ha hb h = absurd (cc)
no_fault false b o x y ha hb h = absurd (cc)

-- no test of page 0 fails
pub opens : (g : Geometry) (pages : ℕ) → HasShape g pages → pages < 256 ^ 4 → opening_fault pages (first g pages) ≡ None
opens g pages shape fits =
    no_fault (header_passes (first g pages)) (version_passes (first g pages)) (count_fault (geometry_of (first g pages)) pages (first g pages)) _ _
    (header g pages) (version g pages)
    (ap (λ o. count_fault o pages (first g pages)) (geometry_is g pages) ∙ rw (count g pages shape fits) refl)
