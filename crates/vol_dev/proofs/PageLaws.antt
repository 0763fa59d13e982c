-- What a file holds after one of its pages was written.
use Rattle.std.specs.Prelude.{◌≡◌, ℕ, ◌+◌, ◌*◌, ◌/◌, ◌<◌, ◌≤◌, ◌≢◌, ◌⊎◌, max, List, [], ◌∷◌, ◌++◌, length, take, drop, get_or, set}
use Rattle.std.proofs.Common.{sym, ap, subst, ◌∙◌, inl, inr, append_assoc, arith, length-append, length-drop, length-set}
use Rattle.std.proofs.lemmas.List.{length-take-le, take-append-le, drop-append-le, take-append-drop, get_or-set_other, get_or_append_left, get_or_push, same_lists}
use Rattle.std.proofs.lemmas.List.FromFn.{get_or-map-range_with_len}
use Rattle.std.proofs.lemmas.Grind.{get_or-set_at}
use Rattle.std.proofs.lemmas.Bool.{cases_order}
use Rattle.std.proofs.lemmas.Slice.{drop-append-drop}
use Rattle.std.proofs.Math.Seq.{take-append_seam, drop-append_seam}
use Rattle.spec_file.specs.Image.{page_size, page_at, pages_of}
use Rattle.spec_file.proofs.ImageLaws.{length-pages_of}
use Rattle.vol_dev.specs.Devices.{HasPage, FitsPage, with_page}

-- the bytes before a page's place
front_length : (bytes : List ℕ) (p : ℕ) → FitsPage p bytes → length (take (page_size * p) bytes) ≡ page_size * p
front_length bytes p h = length-take-le (page_size * p) bytes h

-- a page is in its place or right behind the file
pub length-with_page : (bytes page : List ℕ) (p : ℕ) → FitsPage p bytes → length page ≡ page_size
    → length (with_page bytes p page) ≡ max (length bytes) (page_size * p + page_size)
length-with_page bytes page p h size =
    let front = front_length bytes p h in
    let all = length-append (take (page_size * p) bytes ++ page) (drop (page_size * p + page_size) bytes) in
    let two = length-append (take (page_size * p) bytes) page in
    let back = length-drop (page_size * p + page_size) bytes in
    omega (arith, front, all, two, back, size)

-- the page that was written
pub page_at-with_page : (bytes page : List ℕ) (p : ℕ) → FitsPage p bytes → length page ≡ page_size
    → page_at (with_page bytes p page) p ≡ page
page_at-with_page bytes page p h size =
    let front = take (page_size * p) bytes in
    let back = drop (page_size * p + page_size) bytes in
    ap (λ l. take page_size (drop (page_size * p) l)) (append_assoc front page back)
    ∙ ap (λ n. take page_size (drop n (front ++ (page ++ back)))) (sym (front_length bytes p h))
    ∙ ap (take page_size) (drop-append_seam front (page ++ back))
    ∙ ap (λ n. take n (page ++ back)) (sym size) ∙ take-append_seam page back

-- a page of a front of the bytes
page_at-append : (front rest : List ℕ) (q : ℕ) → page_size * q + page_size ≤ length front → page_at (front ++ rest) q ≡ page_at front q
page_at-append front rest q h =
    ap (take page_size) (drop-append-le (page_size * q) front rest (omega arith))
    ∙ take-append-le page_size (drop (page_size * q) front) rest (omega (arith, length-drop (page_size * q) front))

-- the pages before it
pub page_at-with_page_before : (bytes page : List ℕ) (p q : ℕ) → FitsPage p bytes → q < p
    → page_at (with_page bytes p page) q ≡ page_at bytes q
page_at-with_page_before bytes page p q h before =
    let front = take (page_size * p) bytes in
    let back = drop (page_size * p + page_size) bytes in
    let inside : page_size * q + page_size ≤ length front = omega (arith, front_length bytes p h) in
    ap (λ l. page_at l q) (append_assoc front page back) ∙ page_at-append front (page ++ back) q inside
    ∙ sym (page_at-append front (drop (page_size * p) bytes) q inside) ∙ ap (λ l. page_at l q) (take-append-drop (page_size * p) bytes)

-- the pages after it
pub page_at-with_page_after : (bytes page : List ℕ) (p q : ℕ) → FitsPage p bytes → length page ≡ page_size → p < q
    → page_at (with_page bytes p page) q ≡ page_at bytes q
page_at-with_page_after bytes page p q h size after =
    let front = take (page_size * p) bytes in
    let long : length (front ++ page) ≡ page_size * p + page_size =
    omega (arith, length-append front page, front_length bytes p h, size) in
    ap (take page_size) (drop-append-drop (page_size * p + page_size) bytes (front ++ page) (page_size * q) (omega arith) long)

-- a page of an image, wherever it is read from
get_or-pages_of : (bytes : List ℕ) (k : ℕ) (d : List ℕ) → k < length bytes / page_size → get_or (pages_of bytes) k d ≡ page_at bytes k
unfolding pages_of
get_or-pages_of bytes k d h = get_or-map-range_with_len (page_at bytes) 0 (length bytes / page_size) k k d h (omega arith)

-- page k after page p was written, by the place of k
page_at-set : (bytes page d : List ℕ) (p k : ℕ) → HasPage p bytes → length page ≡ page_size → k < length bytes / page_size
    → (k ≡ p) ⊎ ((k < p) ⊎ (p < k)) → page_at (with_page bytes p page) k ≡ get_or (set (pages_of bytes) p page) k d
page_at-set bytes page d p k h size below (inl e) =
    let inside : k < length (pages_of bytes) = rw (length-pages_of bytes) below in
    ap (page_at (with_page bytes p page)) e ∙ page_at-with_page bytes page p (omega arith) size
    ∙ sym (get_or-set_at (pages_of bytes) p k page d e (subst (λ i. i < length (pages_of bytes)) e inside))
page_at-set bytes page d p k h size below (inr (inl before)) =
    let other : k ≢ p = omega arith in
    page_at-with_page_before bytes page p k (omega arith) before ∙ sym (get_or-pages_of bytes k d below)
    ∙ sym (get_or-set_other (pages_of bytes) p k page d other)
page_at-set bytes page d p k h size below (inr (inr after)) =
    let other : k ≢ p = omega arith in
    page_at-with_page_after bytes page p k (omega arith) size after ∙ sym (get_or-pages_of bytes k d below)
    ∙ sym (get_or-set_other (pages_of bytes) p k page d other)

-- the image after a page that the file has was written
pub pages_of-with_page : (bytes page : List ℕ) (p : ℕ) → HasPage p bytes → length page ≡ page_size
    → pages_of (with_page bytes p page) ≡ set (pages_of bytes) p page
pages_of-with_page bytes page p h size =
    let same : length (with_page bytes p page) ≡ length bytes = length-with_page bytes page p (omega arith) size ∙ omega arith in
    let count : length (pages_of (with_page bytes p page)) ≡ length bytes / page_size =
    length-pages_of (with_page bytes p page) ∙ ap (λ n. n / page_size) same in
    same_lists _ _ (count ∙ sym (length-pages_of bytes) ∙ sym (length-set (pages_of bytes) p page)) (λ k d inside.
    let below : k < length bytes / page_size = subst (λ n. k < n) count inside in
    let here : k < length (with_page bytes p page) / page_size = subst (λ n. k < n / page_size) (sym same) below in
    get_or-pages_of (with_page bytes p page) k d here ∙ page_at-set bytes page d p k h size below (cases_order k p))
