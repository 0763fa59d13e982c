-- The bits and bytes of a new file's maps, one by one.
use Rattle.std.proofs.Common.{◌≡◌, ◌≢◌, ℕ, zero, suc, ◌+◌, ◌*◌, ◌<◌, ◌≤◌, ◌==◌, ◌&&◌, Bool, false, sym, ap, ◌∙◌, arith, inl, inr}
use Rattle.std.specs.Prelude.{nat_lt}
use Rattle.std.proofs.lemmas.Bool.{lt-ltb, le-ltb, and_from, and_left, and_right, cond-true, cond-false, eq-eqb, ne_eqb, cases_lt}
use Rattle.spec_file.specs.declared.geometry.Geometry.{Geometry}
use Rattle.spec_file.specs.declared.geometry.Geometry.TheVariants.{Standard, Small}
use Rattle.spec_file.specs.Places.{interval_size, pfs_span}
use Rattle.spec_make.specs.NewMaps.{tells_of, is_new_mixed, pfs_byte_at, new_pfs_byte}

-- the byte of a page of the span and of the file
pub pfs_inside : (g : Geometry) (pages first i : ℕ) → i < pfs_span g → first + i < pages → pfs_byte_at g pages first i ≡ new_pfs_byte g (first + i)
pfs_inside g pages first i span within =
    cond-true (nat_lt i (pfs_span g) && nat_lt (first + i) pages) (new_pfs_byte g (first + i)) 0
    (and_from (nat_lt i (pfs_span g)) (nat_lt (first + i) pages) (lt-ltb i (pfs_span g) span) (lt-ltb (first + i) pages within))

-- past the span, and past the file, it is 0
pub pfs_past_span : (g : Geometry) (pages first i : ℕ) → pfs_span g ≤ i → pfs_byte_at g pages first i ≡ 0
pfs_past_span g pages first i past =
    cond-false (nat_lt i (pfs_span g) && nat_lt (first + i) pages) (new_pfs_byte g (first + i)) 0
    (and_left (nat_lt i (pfs_span g)) (nat_lt (first + i) pages) (le-ltb i (pfs_span g) past))

pub pfs_past_file : (g : Geometry) (pages first i : ℕ) → pages ≤ first + i → pfs_byte_at g pages first i ≡ 0
pfs_past_file g pages first i past =
    cond-false (nat_lt i (pfs_span g) && nat_lt (first + i) pages) (new_pfs_byte g (first + i)) 0
    (and_right (nat_lt i (pfs_span g)) (nat_lt (first + i) pages) (le-ltb (first + i) pages past))

-- a bit of an extent of the interval
pub tells_inside : (g : Geometry) (test : ℕ → Bool) (m n : ℕ) → n < interval_size g → tells_of g test m n ≡ test (interval_size g * m + n)
tells_inside g test m n within = ap (λ (b : Bool). b && test (interval_size g * m + n)) (lt-ltb n (interval_size g) within)

-- and one behind them
pub tells_past : (g : Geometry) (test : ℕ → Bool) (m n : ℕ) → interval_size g ≤ n → tells_of g test m n ≡ false
tells_past g test m n past = and_left (nat_lt n (interval_size g)) (test (interval_size g * m + n)) (le-ltb n (interval_size g) past)

-- how large spans and intervals are
pub record Sizes (g : Geometry) : Type 0 where
  pub interval_low : 1 < interval_size g
  pub interval_high : interval_size g ≤ 63904
  pub span_low : 0 < pfs_span g
  pub span_high : pfs_span g ≤ 8088

pub sizes : (g : Geometry) → Sizes g
sizes Standard = record { interval_low = omega arith; interval_high = omega arith; span_low = omega arith; span_high = omega arith }
sizes Small = record { interval_low = omega arith; interval_high = omega arith; span_low = omega arith; span_high = omega arith }

first_extent : (size m : ℕ) → 1 < size → (size * m + 1 == 1) ≡ (m == 0)
first_extent size zero large = eq-eqb (size * 0 + 1) 1 (omega arith)
first_extent size (suc m) large =
    ne_eqb (size * suc m + 1) 1 (λ same. omega (arith, same, large)) ∙ sym (ne_eqb (suc m) 0 (λ same. omega (arith, same)))

-- bit 1 of an SGAM page is that of extent 1 on the page of interval 0 alone
pub mixed_first : (g : Geometry) (m : ℕ) → tells_of g is_new_mixed m 1 ≡ (m == 0)
mixed_first g m = tells_inside g is_new_mixed m 1 (sizes g).interval_low ∙ first_extent (interval_size g) m (sizes g).interval_low

other_extent : (size m n : ℕ) → 1 < size → n ≢ 1 → (size * m + n == 1) ≡ false
other_extent size zero n large other = ne_eqb (size * 0 + n) 1 (λ same. other (omega (arith, same)))
other_extent size (suc m) n large other = ne_eqb (size * suc m + n) 1 (λ same. omega (arith, same, large))

-- and every other bit is 0
pub mixed_other : (g : Geometry) (m n : ℕ) → n ≢ 1 → tells_of g is_new_mixed m n ≡ false
mixed_other g m n other = elim (cases_lt n (interval_size g)) [
  | inl within ↦ tells_inside g is_new_mixed m n within ∙ other_extent (interval_size g) m n (sizes g).interval_low other
  | inr past ↦ tells_past g is_new_mixed m n past
]
