-- The bytes of page 0, by its parts.
use Rattle.std.proofs.Common.{◌≡◌, refl, ℕ, ◌+◌, ◌-◌, ◌<◌, List, ◌++◌, length, take, drop, set, sym, ap, ◌∙◌, arith, append_assoc, get_or-set_same, get_or-set_other}
use Rattle.std.specs.Prelude.{slice_index, replicate, codes, Some}
use Rattle.std.proofs.lemmas.List.{drop-replicate, get_or-replicate, get_or-drop, take-append-drop, drop_at, take_at, drop-drop, drop-set-lt, take-set-le, length-append}
use Rattle.spec_file.specs.declared.geometry.Geometry.{Geometry}
use Rattle.spec_file.specs.declared.page_type.TheConstants.{FILE_HEADER_TYPE}
use Rattle.spec_file.specs.Image.{AreBytes, number_at}
use Rattle.pg_base.specs.Numbers.{PutsNumber}
use Rattle.pg_base.proofs.NumberLaws.{front_stays, number_stays, same_byte, same_back, same_number}
use Rattle.spec_make.specs.NewMaps.{content_size}
use Rattle.spec_make.specs.NewPages.{new_header, first_content, geometry_byte}
use Rattle.spec_make.proofs.PageLaws.{length-new_header}
use Rattle.db_make.proofs.Parts.{byte_then, number_then}

-- the pages of the making of page 0, one after another: zeros but for a header; with the eight letters; with the
-- version; with the geometry; with the number of pages
pub record Makes (g : Geometry) (pages p : ℕ) (a b c d e : List ℕ) : Type 0 where
  pub start : a ≡ new_header (Some FILE_HEADER_TYPE) p ++ replicate content_size 0
  pub marked : b ≡ take 96 a ++ (codes "PGCHKDB1" ++ drop 104 a)
  pub versioned : PutsNumber 2 104 1 b c
  pub long : 106 < length c
  pub named : d ≡ set c 106 (geometry_byte g)
  pub done : PutsNumber 4 108 pages d e

-- the header of the first of them
head_of_start : (g : Geometry) (pages p : ℕ) (a b c d e : List ℕ) → Makes g pages p a b c d e → take 96 a ≡ new_header (Some FILE_HEADER_TYPE) p
head_of_start g pages p a b c d e m =
    ap (take 96) m.start ∙ take_at (new_header (Some FILE_HEADER_TYPE) p) (replicate content_size 0) 96 (length-new_header (Some FILE_HEADER_TYPE) p)

-- the letters stand behind it
front_of_marked : (g : Geometry) (pages p : ℕ) (a b c d e : List ℕ) → Makes g pages p a b c d e
    → b ≡ (new_header (Some FILE_HEADER_TYPE) p ++ codes "PGCHKDB1") ++ drop 104 a
front_of_marked g pages p a b c d e m =
    m.marked ∙ ap (λ (l : List ℕ). l ++ (codes "PGCHKDB1" ++ drop 104 a)) (head_of_start g pages p a b c d e m)
    ∙ sym (append_assoc (new_header (Some FILE_HEADER_TYPE) p) (codes "PGCHKDB1") (drop 104 a))

front_size : (p : ℕ) → length (new_header (Some FILE_HEADER_TYPE) p ++ codes "PGCHKDB1") ≡ 104
front_size p = length-append (new_header (Some FILE_HEADER_TYPE) p) (codes "PGCHKDB1") ∙ omega (arith, length-new_header (Some FILE_HEADER_TYPE) p)

-- and zeros behind them
zeros_of_start : (g : Geometry) (pages p : ℕ) (a b c d e : List ℕ) → Makes g pages p a b c d e → drop 104 a ≡ replicate 8088 0
zeros_of_start g pages p a b c d e m =
    ap (drop 104) m.start ∙ sym (drop-drop 8 96 (new_header (Some FILE_HEADER_TYPE) p ++ replicate content_size 0))
    ∙ ap (drop 8) (drop_at (new_header (Some FILE_HEADER_TYPE) p) (replicate content_size 0) 96 (length-new_header (Some FILE_HEADER_TYPE) p))
    ∙ drop-replicate 8 content_size 0

zeros_of_marked : (g : Geometry) (pages p n : ℕ) (a b c d e : List ℕ) → Makes g pages p a b c d e → drop (104 + n) b ≡ replicate (8088 - n) 0
zeros_of_marked g pages p n a b c d e m =
    sym (drop-drop n 104 b)
    ∙ ap (drop n) (ap (drop 104) (front_of_marked g pages p a b c d e m)
    ∙ drop_at (new_header (Some FILE_HEADER_TYPE) p ++ codes "PGCHKDB1") (drop 104 a) 104 (front_size p) ∙ zeros_of_start g pages p a b c d e m)
    ∙ drop-replicate n 8088 0

-- what the page begins with stays
front_of_done : (g : Geometry) (pages p : ℕ) (a b c d e : List ℕ) → Makes g pages p a b c d e → take 104 e ≡ new_header (Some FILE_HEADER_TYPE) p ++ codes "PGCHKDB1"
front_of_done g pages p a b c d e m =
    front_stays 104 4 108 pages d e m.done (omega arith) ∙ ap (take 104) m.named ∙ take-set-le 104 c 106 (geometry_byte g) (omega arith)
    ∙ m.versioned.front ∙ ap (take 104) (front_of_marked g pages p a b c d e m)
    ∙ take_at (new_header (Some FILE_HEADER_TYPE) p ++ codes "PGCHKDB1") (drop 104 a) 104 (front_size p)

version_of_done : (g : Geometry) (pages p : ℕ) (a b c d e : List ℕ) → Makes g pages p a b c d e → number_at 2 104 e ≡ 1
version_of_done g pages p a b c d e m =
    number_stays 2 104 4 108 pages d e m.done (omega arith) ∙ ap (number_at 2 104) m.named
    ∙ same_number 2 104 106 (set c 106 (geometry_byte g)) c (take-set-le 106 c 106 (geometry_byte g) (omega arith)) (omega arith) ∙ m.versioned.number

geometry_of_done : (g : Geometry) (pages p : ℕ) (a b c d e : List ℕ) → Makes g pages p a b c d e → slice_index e 106 ≡ geometry_byte g
geometry_of_done g pages p a b c d e m =
    same_byte 106 108 e d m.done.front (omega arith) ∙ ap (λ (l : List ℕ). slice_index l 106) m.named
    ∙ get_or-set_same c 106 (geometry_byte g) 0 m.long

unused_of_done : (g : Geometry) (pages p : ℕ) (a b c d e : List ℕ) → Makes g pages p a b c d e → slice_index e 107 ≡ 0
unused_of_done g pages p a b c d e m =
    same_byte 107 108 e d m.done.front (omega arith) ∙ ap (λ (l : List ℕ). slice_index l 107) m.named
    ∙ get_or-set_other c 106 107 (geometry_byte g) 0 (λ same. absurd (omega (arith, same)))
    ∙ sym (get_or-drop 106 c 1 0) ∙ ap (λ (l : List ℕ). slice_index l 1) (m.versioned.back ∙ zeros_of_marked g pages p 2 a b c d e m)
    ∙ get_or-replicate 8086 1 0 0 (omega arith)

zeros_of_done : (g : Geometry) (pages p : ℕ) (a b c d e : List ℕ) → Makes g pages p a b c d e → drop 112 e ≡ replicate (content_size - 16) 0
zeros_of_done g pages p a b c d e m =
    m.done.back ∙ ap (drop 112) m.named ∙ drop-set-lt 112 c 106 (geometry_byte g) (omega arith)
    ∙ same_back 112 106 c b m.versioned.back (omega arith) ∙ zeros_of_marked g pages p 8 a b c d e m

-- so it is page 0 of a new file
pub first_page : (g : Geometry) (pages p : ℕ) (a b c d e : List ℕ) → Makes g pages p a b c d e → AreBytes e → length e ≡ 8192
    → e ≡ new_header (Some FILE_HEADER_TYPE) p ++ first_content g pages
first_page g pages p a b c d e m small long =
    sym (take-append-drop 104 e) ∙ ap (λ (l : List ℕ). l ++ drop 104 e) (front_of_done g pages p a b c d e m)
    ∙ ap (λ (l : List ℕ). (new_header (Some FILE_HEADER_TYPE) p ++ codes "PGCHKDB1") ++ l)
    (number_then 2 104 106 1 e _ small refl (omega (arith, long)) (version_of_done g pages p a b c d e m)
    (byte_then 106 (geometry_byte g) e _ (omega (arith, long)) (geometry_of_done g pages p a b c d e m)
    (byte_then 107 0 e _ (omega (arith, long)) (unused_of_done g pages p a b c d e m)
    (number_then 4 108 112 pages e _ small refl (omega (arith, long)) m.done.number (zeros_of_done g pages p a b c d e m)))))
    ∙ append_assoc (new_header (Some FILE_HEADER_TYPE) p) (codes "PGCHKDB1") _
