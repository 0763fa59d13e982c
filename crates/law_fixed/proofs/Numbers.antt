-- A number that fits its bytes can be read back from them, whatever stands behind.
use Rattle.std.proofs.Common.{◌≡◌, ℕ, ◌^◌, ◌*◌, ◌<◌, refl, arith, List, [], ◌∷◌, ◌++◌, length, drop, sym, ap, ◌∙◌, subst}
use Rattle.std.proofs.lemmas.List.{drop_at}
use Rattle.byteorder.specs.Endian.{little_from, little_bytes}
use Rattle.byteorder.specs.Numbers.{little_number-reads_back, length-bytes_low_first}
use Rattle.byteorder.proofs.Bytes.{pow256}

pub split : (n x y : ℕ) (xs ys : List ℕ) → x < 2 ^ (8 * n) → y < 2 ^ (8 * n) → little_bytes n x ++ xs ≡ little_bytes n y ++ ys → (x ≡ y) × (xs ≡ ys)
split n x y xs ys fx fy same = (
  sym (little_number-reads_back n x xs (subst (λ k. x < k) (sym (pow256 n)) fx)) ∙ ap (little_from 0 n) same
      ∙ little_number-reads_back n y ys (subst (λ k. y < k) (sym (pow256 n)) fy),
  sym (drop_at (little_bytes n x) xs n (length-bytes_low_first 0 n x)) ∙ ap (drop n) same ∙ drop_at (little_bytes n y) ys n (length-bytes_low_first 0 n y),
)

pub head_same : {X : Type 0} (x y : X) (xs ys : List X) → x ∷ xs ≡ y ∷ ys → (x ≡ y) × (xs ≡ ys)
head_same x y xs ys same = (cc, cc)

-- two lists cut at the same place
pub parts_same : (front front' xs ys : List ℕ) → length front ≡ length front' → front ++ xs ≡ front' ++ ys → (front ≡ front') × (xs ≡ ys)
parts_same [] [] xs ys many same = (refl, same)
parts_same [] (b ∷ front') xs ys many same = absurd (omega (arith, many))
parts_same (a ∷ front) [] xs ys many same = absurd (omega (arith, many))
parts_same (a ∷ front) (b ∷ front') xs ys many same =
    let heads = head_same a b (front ++ xs) (front' ++ ys) same in
    let rest = parts_same front front' xs ys (omega (arith, many)) heads.1 in
    (ap (λ c. c ∷ front) heads.0 ∙ ap (λ t. b ∷ t) rest.0, rest.1)
