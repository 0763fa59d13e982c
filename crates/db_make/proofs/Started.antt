-- A page that is zeros but for its header.
use Rattle.std.proofs.Common.{◌≡◌, refl, ℕ, ◌+◌, List, ◌++◌, length, drop, sym, ap, ◌∙◌, arith}
use Rattle.std.specs.Prelude.{slice_index, replicate, Some}
use Rattle.std.proofs.lemmas.List.{drop-replicate, get_or-replicate, replicate-append-replicate}
use Rattle.byteorder.specs.Endian.{little_bytes}
use Rattle.spec_file.specs.declared.data.PageNo.{PageNo}
use Rattle.spec_file.specs.declared.header.Header.{Header}
use Rattle.spec_file.specs.Header.{header_of, header_version}
use Rattle.spec_file.specs.Image.{AreBytes, page_size}
use Rattle.pg_base.specs.Zeros.{zero_page}
use Rattle.spec_make.specs.NewMaps.{content_size}
use Rattle.spec_make.specs.NewPages.{new_header}
use Rattle.db_make.proofs.Parts.{byte_then, number_then}

-- what is written as the header of page p
abbrev pub header_said : ℕ → PageNo → Header
header_said type p = record {
  page_type = type;
  level = 0;
  page_id = p;
  object = record { 0 = 0 };
  prev = record { 0 = 0 };
  next = record { 0 = 0 };
  slots = 0;
  free_count = 0;
  free_from = 0;
  ghosts = 0;
}

-- zeros are 96 of them and the rest
pub zero_parts : zero_page ≡ replicate 96 0 ++ replicate content_size 0
unfolding zero_page
zero_parts = sym (replicate-append-replicate 96 content_size 0)

zeros_behind : drop 28 zero_page ≡ replicate 8164 0
unfolding zero_page
zeros_behind = drop-replicate 28 page_size 0

zero_third : slice_index zero_page 3 ≡ 0
unfolding zero_page
zero_third = get_or-replicate page_size 3 0 0 (omega arith)

-- twenty zeros before others
more_zeros : (n : ℕ) → little_bytes 4 0 ++ (little_bytes 4 0 ++ (little_bytes 4 0 ++ (little_bytes 2 0 ++ (little_bytes 2 0 ++ (little_bytes 2 0 ++ (little_bytes 2 0 ++ replicate n 0)))))) ≡ replicate (20 + n) 0
more_zeros n = replicate-append-replicate 20 n 0

-- the fields behind the page's number are 0
zero_fields : (type : ℕ) (p : PageNo) (xs : List ℕ) → AreBytes xs → length xs ≡ 8192 → header_of xs ≡ header_said type p → drop 28 xs ≡ drop 28 zero_page
    → drop 8 xs ≡ replicate 88 0 ++ replicate content_size 0
zero_fields type p xs small long header behind =
    number_then 4 8 12 0 xs _ small refl (omega (arith, long)) (ap (λ (h : Header). h.object.0) header)
    (number_then 4 12 16 0 xs _ small refl (omega (arith, long)) (ap (λ (h : Header). h.prev.0) header)
    (number_then 4 16 20 0 xs _ small refl (omega (arith, long)) (ap (λ (h : Header). h.next.0) header)
    (number_then 2 20 22 0 xs _ small refl (omega (arith, long)) (ap (λ (h : Header). h.slots) header)
    (number_then 2 22 24 0 xs _ small refl (omega (arith, long)) (ap (λ (h : Header). h.free_count) header)
    (number_then 2 24 26 0 xs _ small refl (omega (arith, long)) (ap (λ (h : Header). h.free_from) header)
    (number_then 2 26 28 0 xs _ small refl (omega (arith, long)) (ap (λ (h : Header). h.ghosts) header) (behind ∙ zeros_behind)))))))
    ∙ more_zeros 8164 ∙ sym (replicate-append-replicate 88 content_size 0)

-- a page with this header that is zeros else
pub started : (type : ℕ) (p : PageNo) (xs : List ℕ) → AreBytes xs → length xs ≡ 8192 → header_of xs ≡ header_said type p → header_version xs ≡ 1
    → slice_index xs 3 ≡ slice_index zero_page 3 → drop 28 xs ≡ drop 28 zero_page → xs ≡ new_header (Some type) p.0 ++ replicate content_size 0
started type p xs small long header version unused behind =
    byte_then 0 1 xs _ (omega (arith, long)) version
    (byte_then 1 type xs _ (omega (arith, long)) (ap (λ (h : Header). h.page_type) header)
    (byte_then 2 0 xs _ (omega (arith, long)) (ap (λ (h : Header). h.level) header)
    (byte_then 3 0 xs _ (omega (arith, long)) (unused ∙ zero_third)
    (number_then 4 4 8 p.0 xs _ small refl (omega (arith, long)) (ap (λ (h : Header). h.page_id.0) header)
    (zero_fields type p xs small long header behind)))))
