-- Bytes as their parts, one behind another.
use Rattle.std.proofs.Common.{◌≡◌, ℕ, suc, ◌+◌, ◌<◌, ◌≤◌, List, ◌∷◌, ◌++◌, length, drop, sym, ap, ◌∙◌, arith}
use Rattle.std.specs.Prelude.{slice_index}
use Rattle.std.proofs.Math.Seq.{drop-cons}
use Rattle.byteorder.specs.Endian.{little_bytes}
use Rattle.spec_file.specs.Image.{AreBytes, number_at}
use Rattle.spec_rows.proofs.RowLaws.{spelled_at, join}

-- a byte, and what stands behind it
pub byte_then : (i v : ℕ) (xs rest : List ℕ) → i < length xs → slice_index xs i ≡ v → drop (i + 1) xs ≡ rest → drop i xs ≡ v ∷ rest
byte_then i v xs rest within here behind =
    let next : suc i ≡ i + 1 = omega arith in
    drop-cons xs i 0 within ∙ ap (λ n. slice_index xs i ∷ drop n xs) next ∙ ap (λ n. n ∷ drop (i + 1) xs) here ∙ ap (λ l. v ∷ l) behind

-- the bytes of a number, and what stands behind them
pub number_then : (n i j v : ℕ) (xs rest : List ℕ) → AreBytes xs → i + n ≡ j → j ≤ length xs → number_at n i xs ≡ v → drop j xs ≡ rest → drop i xs ≡ little_bytes n v ++ rest
number_then n i j v xs rest small next within here behind =
    sym (join n i j xs next) ∙ ap (λ (l : List ℕ). l ++ drop j xs) (sym (spelled_at n i xs small (omega (arith, next, within))))
    ∙ ap (λ (m : ℕ). little_bytes n m ++ drop j xs) here ∙ ap (λ (l : List ℕ). little_bytes n v ++ l) behind
