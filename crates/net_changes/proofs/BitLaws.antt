-- The bits of a map page that turn, bit by bit and byte by byte.
use Rattle.std.proofs.Common.{◌≡◌, ℕ, ◌+◌, ◌-◌, ◌*◌, ◌/◌, ◌%◌, ◌<◌, ◌≤◌, min, true, false, eqb, not, List, [], ◌∷◌, ◌++◌, append_assoc, append-nil, refl, sym, ap, ◌∙◌, arith}
use Rattle.std.specs.Prelude.{if◌then◌else◌, slice_index, map}
use Rattle.std.specs.Int.{bit_at, div_ceil}
use Rattle.std.proofs.lemmas.Bool.{eq-eqb, ne_eqb, eqb-true, not-false}
use Rattle.spec_file.specs.Image.{maps_start}
use Rattle.spec_log.specs.declared.item.Cell.TheVariants.{Bit}
use Rattle.spec_log.specs.Cells.{map_bit}
use Rattle.spec_plan.specs.declared.plan.Planned.{Planned}
use Rattle.net_changes.specs.Bytes.{is_bit_turned, bit_between, bits_between, is_differing}
use Rattle.net_changes.proofs.Ranges.{map_parts, none_pass}

pub bits_none : (q : ℕ) (old new : List ℕ) (low : ℕ) → bits_between q old new low 0 ≡ []
unfolding bits_between
bits_none q old new low = refl

bits_parts : (q : ℕ) (old new : List ℕ) (low m n : ℕ) → bits_between q old new low (m + n) ≡ bits_between q old new low m ++ bits_between q old new (low + m) n
unfolding bits_between
bits_parts q old new low m n = map_parts (is_bit_turned old new) (bit_between q old new) low m n

bit_turns : (q : ℕ) (old new : List ℕ) (n : ℕ) → is_bit_turned old new n ≡ true → bits_between q old new n 1 ≡ bit_between q old new n ∷ []
unfolding bits_between
bit_turns q old new n e = ap (λ b. map (bit_between q old new) (if b then n ∷ [] else [])) e

bit_stays : (q : ℕ) (old new : List ℕ) (n : ℕ) → is_bit_turned old new n ≡ false → bits_between q old new n 1 ≡ []
unfolding bits_between
bit_stays q old new n e = ap (λ b. map (bit_between q old new) (if b then n ∷ [] else [])) e

byte_stays : (q : ℕ) (old new : List ℕ) (b n : ℕ) → n ≤ 8 → slice_index old (maps_start + b) ≡ slice_index new (maps_start + b) → bits_between q old new (8 * b) n ≡ []
unfolding bits_between
byte_stays q old new b n few same = ap (map (bit_between q old new)) (none_pass (is_bit_turned old new) n (8 * b) (λ x low high.
    let here : x / 8 ≡ b = omega (arith, low, high, few) in
    ap not (eq-eqb (map_bit old x) (map_bit new x)
    (ap (λ k. bit_at (slice_index old (maps_start + k)) (x % 8)) here ∙ ap (λ v. bit_at v (x % 8)) same ∙ sym (ap (λ k. bit_at (slice_index new (maps_start + k)) (x % 8)) here)))))

pub bits_same : (q : ℕ) (xs ys : List ℕ) (low n : ℕ) → xs ≡ ys → bits_between q xs ys low n ≡ []
unfolding bits_between
bits_same q xs ys low n e = ap (map (bit_between q xs ys)) (none_pass (is_bit_turned xs ys) n low (λ x a b. ap not (eq-eqb (map_bit xs x) (map_bit ys x) (ap (λ zs. map_bit zs x) e))))

-- a list with one part more
pub with_part : {A : Type 0} (all before old part more : List A) → before ≡ old ++ part → all ≡ before ++ more → all ≡ old ++ (part ++ more)
with_part all before old part more e f = f ∙ ap (λ xs. xs ++ more) e ∙ append_assoc old part more

-- the bits of one byte after those of the bytes before it
pub bits_step : (q : ℕ) (old new : List ℕ) (b count : ℕ) (all before olds : List Planned) → 8 * b < count → before ≡ olds ++ bits_between q old new 0 (min (8 * b) count) →
    all ≡ before ++ bits_between q old new (8 * b) (min 8 (count - 8 * b)) → all ≡ olds ++ bits_between q old new 0 (min (8 * (b + 1)) count)
bits_step q old new b count all before olds lt e f =
    let here : min (8 * b) count ≡ 8 * b = omega (arith, lt) in
    let next : 8 * b + min 8 (count - 8 * b) ≡ min (8 * (b + 1)) count = omega (arith, lt) in
    with_part all before olds (bits_between q old new 0 (8 * b)) (bits_between q old new (8 * b) (min 8 (count - 8 * b))) (e ∙ ap (λ n. olds ++ bits_between q old new 0 n) here) f
    ∙ ap (λ xs. olds ++ xs)
    (sym (bits_parts q old new 0 (8 * b) (min 8 (count - 8 * b)) ∙ ap (λ k. bits_between q old new 0 (8 * b) ++ bits_between q old new k (min 8 (count - 8 * b))) (none (8 * b)))
    ∙ ap (bits_between q old new 0) next)
  where
    none : (n : ℕ) → 0 + n ≡ n
    none n = omega arith

-- one bit after those before it
pub bit_step : (q : ℕ) (old new : List ℕ) (low n : ℕ) (all before olds : List Planned) → before ≡ olds ++ bits_between q old new low n →
    all ≡ before ++ bits_between q old new (low + n) 1 → all ≡ olds ++ bits_between q old new low (n + 1)
bit_step q old new low n all before olds e f =
    with_part all before olds (bits_between q old new low n) (bits_between q old new (low + n) 1) e f ∙ ap (λ xs. olds ++ xs) (sym (bits_parts q old new low n 1))

-- nothing more
pub nothing : {A : Type 0} (xs ys : List A) → ys ≡ [] → xs ≡ xs ++ ys
nothing xs ys e = sym (ap (λ zs. xs ++ zs) e ∙ append-nil xs)

pub bit_added : (q n : ℕ) (old new : List ℕ) (all olds : List Planned) (b a : ℕ) (x y : List ℕ) → b ≡ map_bit old n → a ≡ map_bit new n → (b ≡ a → ⊥) → x ≡ b ∷ [] → y ≡ a ∷ [] →
    all ≡ olds ++ (record { cell = Bit (record { 0 = q }) n; before = x; after = y } ∷ []) → all ≡ olds ++ bits_between q old new n 1
bit_added q n old new all olds b a x y eb ea other ex ey added =
    added ∙ ap (λ (c : Planned). olds ++ (c ∷ [])) (same (ex ∙ ap (λ v. v ∷ []) eb) (ey ∙ ap (λ v. v ∷ []) ea))
    ∙ ap (λ zs. olds ++ zs) (sym (bit_turns q old new n (ap not (ne_eqb (map_bit old n) (map_bit new n) (λ e. other (eb ∙ e ∙ sym ea))))))
  where
    same : x ≡ map_bit old n ∷ [] → y ≡ map_bit new n ∷ [] → ◌≡◌ {A = Planned} (record { cell = Bit (record { 0 = q }) n; before = x; after = y }) (bit_between q old new n)
    same e f =
        ap (λ (xs : List ℕ). record { cell = Bit (record { 0 = q }) n; before = xs; after = y }) e
        ∙ ap (λ (ys : List ℕ). record { cell = Bit (record { 0 = q }) n; before = map_bit old n ∷ []; after = ys }) f

pub bit_kept : (q n : ℕ) (old new : List ℕ) (olds : List Planned) (b a : ℕ) → b ≡ map_bit old n → a ≡ map_bit new n → b ≡ a → olds ≡ olds ++ bits_between q old new n 1
bit_kept q n old new olds b a eb ea same =
    nothing olds (bits_between q old new n 1) (bit_stays q old new n (ap not (eq-eqb (map_bit old n) (map_bit new n) (sym eb ∙ same ∙ ea))))

pub byte_kept : (q b count : ℕ) (old new : List ℕ) (olds : List Planned) → is_differing old new (maps_start + b) ≡ false → olds ≡ olds ++ bits_between q old new (8 * b) (min 8 (count - 8 * b))
byte_kept q b count old new olds same =
    nothing olds (bits_between q old new (8 * b) (min 8 (count - 8 * b)))
    (byte_stays q old new b (min 8 (count - 8 * b)) (omega arith) (eqb-true (slice_index old (maps_start + b)) (slice_index new (maps_start + b)) (not-false (eqb (slice_index old (maps_start + b)) (slice_index new (maps_start + b))) same)))

pub bits_zero : (q : ℕ) (old new : List ℕ) (count : ℕ) (olds : List Planned) → olds ≡ olds ++ bits_between q old new 0 (min 0 count)
bits_zero q old new count olds = nothing olds (bits_between q old new 0 (min 0 count)) (ap (bits_between q old new 0) (least count) ∙ bits_none q old new 0)
  where
    least : (n : ℕ) → min 0 n ≡ 0
    least n = omega arith

pub below_ceil : (b count n : ℕ) → n ≡ div_ceil count 8 → b < n → 8 * b < count
below_ceil b count n e lt = omega (arith, e, lt)

-- what was there was nothing
pub from_none : {A : Type 0} (all none part : List A) → none ≡ [] → all ≡ none ++ part → all ≡ part
from_none all none part e f = f ∙ ap (λ xs. xs ++ part) e
