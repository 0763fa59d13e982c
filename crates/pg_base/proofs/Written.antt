-- What a write of a number through a part of a slice makes of the slice.
use Rattle.std.proofs.Common.{◌≡◌, ℕ, ◌+◌, ◌^◌, ◌<◌, ◌≤◌, List, ◌++◌, length, take, drop, ap, ◌∙◌, arith, length-take, append-nil}
use Rattle.std.proofs.lemmas.List.{drop_all, drop_at, length-take-le}
use Rattle.std.proofs.lemmas.Slice.{take-put_mid_below, drop-put_mid}
use borrow.Rule.Slice.PartMut.{put_mid, mid_of, post_of}
use Rattle.byteorder.specs.Endian.{little_bytes, little_number}
use Rattle.byteorder.specs.Numbers.{length-bytes_low_first, little_number-reads_back}
use Rattle.spec_file.specs.Image.{number_at}
use Rattle.pg_base.specs.Numbers.{PutsNumber}

pub puts_number : (n k at value : ℕ) (bytes part : List ℕ) → k ≡ n → at + n ≤ length bytes → value < 256 ^ n
    → part ≡ little_bytes n value ++ drop n (mid_of at k bytes) → PutsNumber n at value bytes (put_mid at k bytes part)
unfolding number_at
puts_number n k at value bytes part same within fits written =
    let none = drop_all n (take k (drop at bytes)) (omega (arith, length-take k (drop at bytes))) in
    let whole : part ≡ little_bytes n value = written ∙ ap (λ (r : List ℕ). little_bytes n value ++ r) none ∙ append-nil (little_bytes n value) in
    let size : length part ≡ k = ap length whole ∙ (omega (arith, length-bytes_low_first 0 n value)) in
    let before = length-take-le at bytes (omega arith) in
    record {
      number = ap (little_number n) (drop_at (take at bytes) _ at before) ∙ rw whole (little_number-reads_back n value (post_of at k bytes) fits);
      front = take-put_mid_below at k bytes part at (omega arith) (omega arith);
      back = drop-put_mid at k bytes part (at + n) (omega arith) (omega arith) size;
    }
