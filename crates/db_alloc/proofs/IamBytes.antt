-- The bytes of a new IAM page, by its parts.
use Rattle.std.proofs.Common.{◌≡◌, refl, ℕ, suc, ◌+◌, ◌-◌, ◌<◌, ◌≤◌, List, ◌∷◌, ◌++◌, length, take, drop, sym, ap, ◌∙◌, arith}
use Rattle.std.specs.Prelude.{slice_index, replicate}
use Rattle.std.proofs.Math.Seq.{drop-cons}
use Rattle.std.proofs.lemmas.List.{drop-replicate, take-replicate, drop-take, get_or-take}
use Rattle.byteorder.specs.Endian.{little_bytes}
use Rattle.spec_file.specs.declared.data.PageNo.{PageNo}
use Rattle.spec_file.specs.declared.data.ObjId.{ObjId}
use Rattle.spec_file.specs.declared.header.Header.{Header}
use Rattle.spec_file.specs.declared.page_type.TheConstants.{IAM_TYPE}
use Rattle.spec_file.specs.declared.sizes.TheConstants.{MAPS_START}
use Rattle.spec_file.specs.Header.{header_of, header_version}
use Rattle.spec_file.specs.Iam.{iam_interval, iam_sequence}
use Rattle.spec_file.specs.Image.{AreBytes, number_at, page_size}
use Rattle.spec_rows.proofs.RowLaws.{spelled_at, join}
use Rattle.law_rows.proofs.Parts.{number_then}
use Rattle.pg_base.specs.Zeros.{zero_page}
use Rattle.pg_iam.specs.Made.{new_header}
use Rattle.spec_alloc.specs.Chains.{new_iam_page}

byte_then : (i v : ℕ) (xs rest : List ℕ) → i < length xs → slice_index xs i ≡ v → drop (i + 1) xs ≡ rest → drop i xs ≡ v ∷ rest
byte_then i v xs rest within here behind =
    let next : suc i ≡ i + 1 = omega arith in
    drop-cons xs i 0 within ∙ ap (λ n. slice_index xs i ∷ drop n xs) next ∙ ap (λ n. n ∷ drop (i + 1) xs) here ∙ ap (λ l. v ∷ l) behind

four_then : (i j v : ℕ) (xs rest : List ℕ) → AreBytes xs → i + 4 ≡ j → j ≤ length xs → number_at 4 i xs ≡ v → drop j xs ≡ rest → drop i xs ≡ little_bytes 4 v ++ rest
four_then i j v xs rest small next within here behind =
    sym (join 4 i j xs next) ∙ ap (λ (l : List ℕ). l ++ drop j xs) (sym (spelled_at 4 i xs small (omega (arith, next, within))))
    ∙ ap (λ (n : ℕ). little_bytes 4 n ++ drop j xs) here ∙ ap (λ (l : List ℕ). little_bytes 4 v ++ l) behind

-- the part of a page of zeros between its header and its maps, and what comes behind
zeros_between : drop 28 (take MAPS_START zero_page) ≡ replicate 68 0
unfolding zero_page
zeros_between = ap (drop 28) (take-replicate 96 page_size 0 (omega arith)) ∙ drop-replicate 28 96 0

zeros_behind : drop 104 zero_page ≡ replicate (page_size - 104) 0
unfolding zero_page
zeros_behind = drop-replicate 104 page_size 0

zero_third : slice_index zero_page 3 ≡ 0
unfolding zero_page
zero_third = sym (get_or-take 4 zero_page 3 0 (omega arith)) ∙ ap (λ (l : List ℕ). slice_index l 3) (take-replicate 4 page_size 0 (omega arith))

-- 80 bytes behind the numbers of the page and its neighbours are 0
between : (xs rest : List ℕ) → AreBytes xs → length xs ≡ 8192 → number_at 4 16 xs ≡ 0 → number_at 2 20 xs ≡ 0 → number_at 2 22 xs ≡ 0 → number_at 2 24 xs ≡ 0 → number_at 2 26 xs ≡ 0
    → drop 28 (take MAPS_START xs) ≡ drop 28 (take MAPS_START zero_page) → drop 96 xs ≡ rest → drop 16 xs ≡ replicate 80 0 ++ rest
between xs rest small long next slots free_count free_from ghosts zeros behind =
    four_then 16 20 0 xs _ small refl (omega (arith, long)) next
    (number_then 20 22 0 xs _ small refl (omega (arith, long)) slots
    (number_then 22 24 0 xs _ small refl (omega (arith, long)) free_count
    (number_then 24 26 0 xs _ small refl (omega (arith, long)) free_from
    (number_then 26 28 0 xs _ small refl (omega (arith, long)) ghosts
    (sym (join 68 28 96 xs refl) ∙ ap (λ l. l ++ drop 96 xs) (sym (drop-take 28 68 xs) ∙ zeros ∙ zeros_between) ∙ ap (λ l. replicate 68 0 ++ l) behind)))))

-- a page that is made an IAM page is the new one of its object
pub new_iam_bytes : (xs : List ℕ) (p : PageNo) (object : ObjId) (prev : PageNo) (interval sequence : ℕ) → AreBytes xs → length xs ≡ 8192
    → header_of xs ≡ new_header p object prev → header_version xs ≡ 1 → iam_interval xs ≡ interval → iam_sequence xs ≡ sequence → slice_index xs 3 ≡ slice_index zero_page 3
    → drop 28 (take MAPS_START xs) ≡ drop 28 (take MAPS_START zero_page) → drop 104 xs ≡ drop 104 zero_page → xs ≡ new_iam_page object.0 p.0 prev.0 interval sequence
new_iam_bytes xs p object prev interval sequence small long header version is_interval is_sequence unused zeros behind =
    byte_then 0 1 xs _ (omega (arith, long)) version
    (byte_then 1 IAM_TYPE xs _ (omega (arith, long)) (ap (λ (h : Header). h.page_type) header)
    (byte_then 2 0 xs _ (omega (arith, long)) (ap (λ (h : Header). h.level) header)
    (byte_then 3 0 xs _ (omega (arith, long)) (unused ∙ zero_third)
    (four_then 4 8 p.0 xs _ small refl (omega (arith, long)) (ap (λ (h : Header). h.page_id.0) header)
    (four_then 8 12 object.0 xs _ small refl (omega (arith, long)) (ap (λ (h : Header). h.object.0) header)
    (four_then 12 16 prev.0 xs _ small refl (omega (arith, long)) (ap (λ (h : Header). h.prev.0) header)
    (between xs _ small long (ap (λ (h : Header). h.next.0) header) (ap (λ (h : Header). h.slots) header) (ap (λ (h : Header). h.free_count) header) (ap (λ (h : Header). h.free_from) header) (ap (λ (h : Header). h.ghosts) header) zeros
    (four_then 96 100 interval xs _ small refl (omega (arith, long)) is_interval
    (four_then 100 104 sequence xs _ small refl (omega (arith, long)) is_sequence
    (behind ∙ zeros_behind))))))))))
