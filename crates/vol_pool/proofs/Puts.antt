-- A page with bytes put one after another.
use Rattle.std.proofs.Common.{◌≡◌, ℕ, ◌+◌, ◌-◌, ◌<◌, ◌≤◌, get_or, get_or-take, ext_get_or, length-take, take, ◌⊎◌, inl, inr, true, false, ltb, leb, ◌&&◌, Bool, List, [], length, refl, sym, ap, ◌∙◌, subst, arith}
use Rattle.std.specs.Prelude.{if◌then◌else◌, slice_index, slice_set}
use Rattle.std.proofs.lemmas.Bool.{le-leb, lt-ltb, leb-true, ltb-true, ltb-false, cases_eq, cases_Bool, false≢true, both_ways}
use Rattle.std.proofs.lemmas.List.{get_or-set_same, get_or-set_other}
use Rattle.std.proofs.lemmas.List.FromFn.{length-map-range_with_len, get_or-map-range_with_len}
use Rattle.std.proofs.Math.ListN.{length-set}
use Rattle.spec_log.specs.Cells.{byte_with, with_bytes}

with_at : (old : List ℕ) (off : ℕ) (bytes : List ℕ) (k : ℕ) → k < length old → get_or (with_bytes old off bytes) k 0 ≡ byte_with old off bytes k
with_at old off bytes k lt = get_or-map-range_with_len (byte_with old off bytes) 0 (length old) k k 0 lt (omega arith)

with_length : (old : List ℕ) (off : ℕ) (bytes : List ℕ) → length (with_bytes old off bytes) ≡ length old
with_length old off bytes = length-map-range_with_len (byte_with old off bytes) 0 (length old)

inside : (b c : Bool) (u v : ℕ) → b ≡ true → c ≡ true → (if b && c then u else v) ≡ u
inside true true u v p q = refl
inside true false u v p q = absurd (false≢true q)
inside false c u v p q = absurd (false≢true p)

outside : (b c : Bool) (u v : ℕ) → (b ≡ true → c ≡ true → ⊥) → (if b && c then u else v) ≡ v
outside true true u v n = absurd (n refl refl)
outside true false u v n = refl
outside false c u v n = refl

byte_in : (old : List ℕ) (off : ℕ) (bytes : List ℕ) (k : ℕ) → off ≤ k → k < off + length bytes → byte_with old off bytes k ≡ get_or bytes (k - off) 0
byte_in old off bytes k low high = inside (leb off k) (ltb k (off + length bytes)) (slice_index bytes (k - off)) (slice_index old k) (le-leb off k low) (lt-ltb k (off + length bytes) high)

byte_out : (old : List ℕ) (off : ℕ) (bytes : List ℕ) (k : ℕ) → (off ≤ k → k < off + length bytes → ⊥) → byte_with old off bytes k ≡ get_or old k 0
byte_out old off bytes k n = outside (leb off k) (ltb k (off + length bytes)) (slice_index bytes (k - off)) (slice_index old k)
    (λ a b. n (leb-true off k a) (ltb-true k (off + length bytes) b))

pub with_none : (old : List ℕ) (off : ℕ) → old ≡ with_bytes old off []
with_none old off = ext_get_or 0 old (with_bytes old off []) (sym (with_length old off []))
    (λ k lt. sym (with_at old off [] k lt ∙ byte_out old off [] k (λ low high. omega (arith, low, high))))

taken : (bytes : List ℕ) (i : ℕ) → i ≤ length bytes → length (take i bytes) ≡ i
taken bytes i le = length-take i bytes ∙ omega (arith, le)

split : (off i k : ℕ) → ((off ≤ k) × (k < off + i)) ⊎ (off ≤ k → k < off + i → ⊥)
split off i k = elim (cases_Bool (leb off k)) [
  | inl a ↦ elim (cases_Bool (ltb k (off + i))) [
    | inl b ↦ inl (leb-true off k a, ltb-true k (off + i) b)
    | inr b ↦ inr (λ low high. let c = ltb-false k (off + i) b in omega (arith, c, high))
  ]
  | inr a ↦ inr (λ low high. both_ways (leb off k) a (le-leb off k low))
]

pub with_more : (old : List ℕ) (off : ℕ) (bytes : List ℕ) (i : ℕ) → off + length bytes ≤ length old → i < length bytes →
    slice_set (with_bytes old off (take i bytes)) (off + i) (slice_index bytes i) ≡ with_bytes old off (take (i + 1) bytes)
with_more old off bytes i room lt =
    let before = with_bytes old off (take i bytes) in
    let after = with_bytes old off (take (i + 1) bytes) in
    let long : length (slice_set before (off + i) (slice_index bytes i)) ≡ length old = length-set before (off + i) (slice_index bytes i) ∙ with_length old off (take i bytes) in
    let size : length (take i bytes) ≡ i = taken bytes i (omega (arith, lt)) in
    let size_more : length (take (i + 1) bytes) ≡ i + 1 = taken bytes (i + 1) (omega (arith, lt)) in
    ext_get_or 0 (slice_set before (off + i) (slice_index bytes i)) after (long ∙ sym (with_length old off (take (i + 1) bytes)))
    (λ k below.
    let within : k < length old = subst (λ n. k < n) long below in
    elim (cases_eq k (off + i)) [
      | inl e ↦
          subst (λ m. get_or (slice_set before m (slice_index bytes i)) k 0 ≡ get_or bytes i 0) e
          (get_or-set_same before k (slice_index bytes i) 0 (subst (λ n. k < n) (sym (with_length old off (take i bytes))) within))
          ∙ sym (with_at old off (take (i + 1) bytes) k within ∙ byte_in old off (take (i + 1) bytes) k (omega (arith, e)) (omega (arith, e, size_more))
          ∙ get_or-take (i + 1) bytes (k - off) 0 (omega (arith, e)) ∙ ap (λ m. get_or bytes m 0) (omega (arith, e)))
      | inr other ↦
          get_or-set_other before (off + i) k (slice_index bytes i) 0 other
          ∙ with_at old off (take i bytes) k within
          ∙ same k other
          ∙ sym (with_at old off (take (i + 1) bytes) k within)
    ])
  where
    same : (k : ℕ) → (k ≡ off + i → ⊥) → byte_with old off (take i bytes) k ≡ byte_with old off (take (i + 1) bytes) k
    same k other =
        let size : length (take i bytes) ≡ i = taken bytes i (omega (arith, lt)) in
        let size_more : length (take (i + 1) bytes) ≡ i + 1 = taken bytes (i + 1) (omega (arith, lt)) in
        elim (split off i k) [
          | inl w ↦
              let a = w.0 in
              let b = w.1 in
              byte_in old off (take i bytes) k a (omega (arith, b, size)) ∙ get_or-take i bytes (k - off) 0 (omega (arith, a, b))
              ∙ sym (byte_in old off (take (i + 1) bytes) k a (omega (arith, b, size_more)) ∙ get_or-take (i + 1) bytes (k - off) 0 (omega (arith, a, b)))
          | inr n ↦
              byte_out old off (take i bytes) k (λ a b. n a (omega (arith, b, size)))
              ∙ sym (byte_out old off (take (i + 1) bytes) k (λ a b. n a (omega (arith, a, b, size_more, other))))
        ]
