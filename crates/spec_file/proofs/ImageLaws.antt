-- What the pages of a file's bytes are.
use Rattle.std.specs.Prelude.{◌≡◌, ℕ, zero, suc, ◌+◌, ◌*◌, ◌/◌, ◌<◌, List, [], ◌++◌, length, take, map, refl}
use Rattle.std.specs.List.{range_with_len}
use Rattle.std.proofs.lemmas.List.FromFn.{length-map-range_with_len, get_or-map-range_with_len, map-range_with_len_more}
use Rattle.std.proofs.lemmas.List.{flat_map_more}
use Rattle.std.proofs.Math.Seq.{take-add, take-length}
use Rattle.std.proofs.Common.{arith, sym, ap, ◌∙◌}
use Rattle.spec_file.specs.Image.{page_size, page_at, pages_of, page}
use Rattle.spec_file.specs.Image.{bytes_of}

pub length-pages_of : (bytes : List ℕ) → length (pages_of bytes) ≡ length bytes / page_size
unfolding pages_of
length-pages_of bytes = length-map-range_with_len (page_at bytes) 0 (length bytes / page_size)

pub page-pages_of : (bytes : List ℕ) (p : ℕ) → p < length bytes / page_size → page (pages_of bytes) p ≡ page_at bytes p
unfolding pages_of
page-pages_of bytes p h = get_or-map-range_with_len (page_at bytes) 0 (length bytes / page_size) p p [] h (omega arith)

-- the first n pages hold the first bytes
front_bytes : (bytes : List ℕ) (n : ℕ) → bytes_of (map (page_at bytes) (range_with_len 0 n)) ≡ take (page_size * n) bytes
front_bytes bytes zero = refl
front_bytes bytes (suc n) =
    let more = map-range_with_len_more (page_at bytes) 0 n n (omega arith) in
    let size : page_size * n + page_size ≡ page_size * suc n = omega arith in
    let next : suc n ≡ n + 1 = omega arith in
    ap (λ k. bytes_of (map (page_at bytes) (range_with_len 0 k))) next ∙ ap bytes_of more
    ∙ sym (flat_map_more (λ page. page) [] (map (page_at bytes) (range_with_len 0 n)) (page_at bytes n))
    ∙ ap (λ l. l ++ page_at bytes n) (front_bytes bytes n)
    ∙ sym (take-add (page_size * n) page_size bytes)
    ∙ ap (λ k. take k bytes) size

-- the pages of a file of whole pages hold its bytes
pub bytes_of-pages_of : (bytes : List ℕ) (n : ℕ) → length bytes ≡ page_size * n → bytes_of (pages_of bytes) ≡ bytes
unfolding pages_of
bytes_of-pages_of bytes n size =
    let count : length bytes / page_size ≡ n = omega (arith, size) in
    ap (λ k. bytes_of (map (page_at bytes) (range_with_len 0 k))) count ∙ front_bytes bytes n ∙ ap (λ k. take k bytes) (sym size) ∙ take-length bytes

-- files of whole pages with the same pages are the same
pub same_bytes : (a b : List ℕ) (m n : ℕ) → length a ≡ page_size * m → length b ≡ page_size * n → pages_of a ≡ pages_of b → a ≡ b
same_bytes a b m n size_a size_b same = sym (bytes_of-pages_of a m size_a) ∙ ap bytes_of same ∙ bytes_of-pages_of b n size_b
