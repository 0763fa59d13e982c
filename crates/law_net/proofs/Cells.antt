-- Cuts of one cell: a bit that turns, and bytes of a page.
use Rattle.std.proofs.Common.{◌≡◌, ℕ, ◌+◌, ◌-◌, ◌/◌, ◌%◌, ◌<◌, ◌≤◌, min, length-take, length-drop, drop, true, eqb, ltb, leb, ◌&&◌, List, [], ◌∷◌, length, ◌⊎◌, inl, inr, refl, sym, ap, ◌∙◌, subst, arith}
use Rattle.std.specs.Prelude.{slice_index, slice_range, filter}
use Rattle.std.specs.List.{range_with_len}
use Rattle.std.specs.Int.{bit_at}
use Rattle.std.proofs.lemmas.Bool.{and_parts, and_from, eqb-true, eqb-false, eq-eqb, leb-true, le-leb, ltb-true, lt-ltb, not-true}
use Rattle.std.proofs.lemmas.Nat.Bits.{bit_at-lt}
use Rattle.std.proofs.lemmas.List.Concat.{flat_map_single}
use Rattle.spec_file.specs.Image.{Image, page, maps_start}
use Rattle.spec_file.specs.Places.{Place}
use Rattle.spec_log.specs.declared.item.Cell.TheVariants.{Bytes}
use Rattle.spec_log.specs.Cells.{map_bit}
use Rattle.law_undo.proofs.Atoms.{read}
use Rattle.spec_words.specs.NetChanges.{net_change, is_turned, bit_change, bit_changes, FileShape}
use Rattle.law_net.proofs.Cuts.{place, IsCut, InRange, cut_one, cut_range}

-- one bit of a map
pub record IsBit (b : Place) (p i j : ℕ) : Type 0 where
  pub page : p ≡ b.page
  pub byte : i ≡ maps_start + b.at / 8
  pub bit : j ≡ b.at % 8

one_of_two : (u v : ℕ) → u < 2 → v < 2 → (u ≡ v → ⊥) → u + v ≡ 1
one_of_two u v a b n = omega (arith, a, b, n)

pub cut_bit : (start now : Image) (b : Place) → b.at < 63904 → is_turned start now b ≡ true → IsCut start now (IsBit b) (bit_change start now b ∷ [])
cut_bit start now b low turned =
    let old = map_bit (page start b.page) b.at in
    let new = map_bit (page now b.page) b.at in
    let form : (ltb b.at 63904 && eqb 1 1 && eqb 1 1 && eqb (old + new) 1) ≡ true =
    and_from (ltb b.at 63904 && eqb 1 1 && eqb 1 1) (eqb (old + new) 1) (and_from (ltb b.at 63904 && eqb 1 1) (eqb 1 1) (and_from (ltb b.at 63904) (eqb 1 1) (lt-ltb b.at 63904 low) refl) refl)
    (eq-eqb (old + new) 1 (one_of_two old new (bit_at-lt _ _) (bit_at-lt _ _) (eqb-false old new (not-true (eqb old new) turned)))) in
    cut_one start now (IsBit b) (bit_change start now b) (record { form = form; was = refl; is = refl })
    (λ p i j h.
    let a = and_parts (eqb b.page p) (eqb (maps_start + b.at / 8) i && eqb (b.at % 8) j) h in
    let c = and_parts (eqb (maps_start + b.at / 8) i) (eqb (b.at % 8) j) a.1 in
    record { page = sym (eqb-true b.page p a.0); byte = sym (eqb-true (maps_start + b.at / 8) i c.0); bit = sym (eqb-true (b.at % 8) j c.1) })
    (λ p i j z inside. inr (and_from (eqb b.page p) (eqb (maps_start + b.at / 8) i && eqb (b.at % 8) j) (eq-eqb b.page p (sym z.page))
    (and_from (eqb (maps_start + b.at / 8) i) (eqb (b.at % 8) j) (eq-eqb (maps_start + b.at / 8) i (sym z.byte)) (eq-eqb (b.at % 8) j (sym z.bit)))))

-- the bits of the extents
pub cut_bits : (shape : FileShape) (bit_of : ℕ → Place) (start now : Image) → ((e : ℕ) → (bit_of e).at < 63904) →
    ((e f p i j : ℕ) → e < shape.pages / 8 → f < shape.pages / 8 → IsBit (bit_of e) p i j → IsBit (bit_of f) p i j → e ≡ f) →
    IsCut start now (InRange (λ e. is_turned start now (bit_of e)) (λ e. IsBit (bit_of e)) (shape.pages / 8) 0) (bit_changes shape bit_of start now)
cut_bits shape bit_of start now low one =
    let test = λ (e : ℕ). is_turned start now (bit_of e) in
    subst (IsCut start now (InRange test (λ e. IsBit (bit_of e)) (shape.pages / 8) 0))
    (flat_map_single (λ e. bit_change start now (bit_of e)) (filter test (range_with_len 0 (shape.pages / 8))))
    (cut_range start now (λ e. bit_change start now (bit_of e) ∷ []) test (λ e. IsBit (bit_of e)) (shape.pages / 8) 0
    (λ e a b turned. cut_bit start now (bit_of e) (low e) turned) (λ e f p i j a b c d s t. one e f p i j (upper e (shape.pages / 8) b) (upper f (shape.pages / 8) d)))
  where
    upper : (p n : ℕ) → p < 0 + n → p < n
    upper p n lt = omega (arith, lt)

-- some bytes of a page
pub record IsSpan (q lo hi p i j : ℕ) : Type 0 where
  pub page : p ≡ q
  pub low : lo ≤ i
  pub high : i < hi

pub slice_length : (xs : List ℕ) (i j : ℕ) → j ≤ length xs → length (slice_range xs i j) ≡ j - i
slice_length xs i j le = length-take (j - i) (drop i xs) ∙ ap (min (j - i)) (length-drop i xs) ∙ omega (arith, le)

taken_size : (xs : List ℕ) (off size : ℕ) → off + size ≤ length xs → length (slice_range xs off (off + size)) ≡ size
taken_size xs off size le = slice_length xs off (off + size) le ∙ omega arith

-- the page is whole in both images
pub record IsWhole (start now : Image) (p : ℕ) : Type 0 where
  pub old : length (page start p) ≡ 8192
  pub new : length (page now p) ≡ 8192

pub after_size : (start now : Image) (p off size : ℕ) → IsWhole start now p → off + size ≤ 8192 →
    length (slice_range (page now p) off (off + size)) ≡ size
after_size start now p off size whole fits = let w = whole.new in taken_size (page now p) off size (omega (arith, w, fits))

pub before_size : (start now : Image) (p off size : ℕ) → IsWhole start now p → off + size ≤ 8192 →
    length (slice_range (page start p) off (off + size)) ≡ size
before_size start now p off size whole fits = let w = whole.old in taken_size (page start p) off size (omega (arith, w, fits))

-- the images have the same byte there
abbrev pub SameByte : Image → Image → ℕ → ℕ → Type 0
SameByte start now p i = slice_index (page start p) i ≡ slice_index (page now p) i

pub cut_bytes : (start now : Image) (p lo hi off size : ℕ) → IsWhole start now p → 0 < size → lo ≤ off → off + size ≤ hi → hi ≤ 8192 →
    ((i : ℕ) → lo ≤ i → i < hi → (SameByte start now p i) ⊎ ((off ≤ i) × (i < off + size))) →
    IsCut start now (IsSpan p lo hi) (net_change start now (Bytes (record { 0 = p }) off) size ∷ [])
cut_bytes start now p lo hi off size whole some low high top all =
    let old = slice_range (page start p) off (off + size) in
    let new = slice_range (page now p) off (off + size) in
    let fits : off + size ≤ 8192 = omega (arith, high, top) in
    let was : length old ≡ size = before_size start now p off size whole fits in
    let is : length new ≡ size = after_size start now p off size whole fits in
    cut_one start now (IsSpan p lo hi) (net_change start now (Bytes (record { 0 = p }) off) size)
    (record {
      form = and_from (ltb 0 (length new) && leb (off + length new) 8192) (eqb (length old) (length new))
          (and_from (ltb 0 (length new)) (leb (off + length new) 8192) (lt-ltb 0 (length new) (omega (arith, is, some))) (le-leb (off + length new) 8192 (omega (arith, is, fits))))
          (eq-eqb (length old) (length new) (was ∙ sym is));
      was = ap (λ n. slice_range (page start p) off (off + n)) was;
      is = ap (λ n. slice_range (page now p) off (off + n)) is;
    })
    (λ q i j h.
    let a = and_parts (eqb p q) (leb off i && ltb i (off + length new)) h in
    let c = and_parts (leb off i) (ltb i (off + length new)) a.1 in
    let d = leb-true off i c.0 in
    let e = ltb-true i (off + length new) c.1 in
    record { page = sym (eqb-true p q a.0); low = omega (arith, d, low); high = omega (arith, e, is, high) })
    (λ q i j z inside. elim (all i z.low z.high) [
      | inl same ↦ inl (subst (λ r. read start (place r i j) ≡ read now (place r i j)) (sym z.page) (ap (λ v. bit_at v j) same))
      | inr in_cell ↦ inr (and_from (eqb p q) (leb off i && ltb i (off + length new)) (eq-eqb p q (sym z.page))
          (and_from (leb off i) (ltb i (off + length new)) (le-leb off i in_cell.0) (lt-ltb i (off + length new) (let a = in_cell.1 in omega (arith, a, is)))))
    ])
