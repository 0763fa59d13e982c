-- What an image has at an atom after items were applied or taken back.
use Rattle.std.proofs.Common.{◌≡◌, ℕ, zero, suc, ◌+◌, ◌-◌, ◌/◌, ◌%◌, ◌^◌, ◌<◌, ◌≤◌, get_or, get_or-set_same, get_or-set_other, set, Bool, true, false, eqb, ltb, leb, ◌&&◌, bit_xor, List, [], ◌∷◌, length, length-set, inl, inr, refl, sym, ap, ◌∙◌, subst, arith}
use Rattle.std.specs.Prelude.{if◌then◌else◌, slice_index}
use Rattle.std.specs.Int.{bit_at}
use Rattle.std.proofs.lemmas.Bool.{true≢false, false≢true, cases_Bool, eqb-true, eqb-false, cond_both, ltb-true, ltb-false}
use Rattle.std.proofs.lemmas.List.FromFn.{length-map-range_with_len, get_or-map-range_with_len}
use Rattle.std.proofs.lemmas.Nat.Bits.{bit_at_xor, bit_at-pow_same, bit_at-pow_other, bit_at-lt}
use Rattle.spec_file.specs.Image.{Image, page, maps_start}
use Rattle.spec_log.specs.declared.item.Cell.{Cell}
use Rattle.spec_log.specs.declared.item.Cell.TheVariants.{Bytes, Bit}
use Rattle.spec_log.specs.Cells.{byte_with, with_bytes, with_bit, with_map_bit, put}
use Rattle.law_undo.proofs.Atoms.{Atom, read, has_atom, bit_in}

-- the atom lies inside the image
pub record IsInside (k : Atom) (image : Image) : Type 0 where
  pub page_in : k.page < length image
  pub byte_in : k.byte < length (page image k.page)

-- two images with as many pages, each as long
pub record SameShape (image other : Image) : Type 0 where
  pub pages : length other ≡ length image
  pub bytes : (p : ℕ) → length (page other p) ≡ length (page image p)

pub shape_refl : (image : Image) → SameShape image image
shape_refl image = record { pages = refl; bytes = λ p. refl }

pub shape_trans : (a b c : Image) → SameShape a b → SameShape b c → SameShape a c
shape_trans a b c s t = record { pages = t.pages ∙ s.pages; bytes = λ p. t.bytes p ∙ s.bytes p }

pub inside_shape : (k : Atom) (image other : Image) → SameShape image other → IsInside k image → IsInside k other
inside_shape k image other s i = record {
  page_in = subst (λ n. k.page < n) (sym s.pages) i.page_in;
  byte_in = subst (λ n. k.byte < n) (sym (s.bytes k.page)) i.byte_in;
}

-- a page set
shape_set : (image : Image) (q : ℕ) (bytes : List ℕ) → length bytes ≡ length (page image q) → SameShape image (set image q bytes)
shape_set image q bytes e = record {
  pages = length-set image q bytes;
  bytes = λ p. elim (cases_Bool (eqb q p)) [
    | inl same ↦ at_it p (eqb-true q p same)
    | inr other ↦ ap length (get_or-set_other image q p bytes [] (λ s. eqb-false q p other (sym s)))
  ];
}
  where
    past : (xs : Image) (i : ℕ) (x : List ℕ) → length xs ≤ i → set xs i x ≡ xs
    past [] i x h = refl
    past (y ∷ ys) zero x h = absurd (omega arith)
    past (y ∷ ys) (suc i) x h = ap (λ zs. y ∷ zs) (past ys i x (omega arith))

    at_it : (p : ℕ) → q ≡ p → length (page (set image q bytes) p) ≡ length (page image p)
    at_it p same = elim (cases_Bool (ltb q (length image))) [
      | inl lt ↦ subst (λ j. length (page (set image q bytes) j) ≡ length (page image j)) same (ap length (get_or-set_same image q bytes [] (ltb-true q (length image) lt)) ∙ e)
      | inr ge ↦ ap (λ im. length (page im p)) (past image q bytes (ltb-false q (length image) ge))
    ]

pub shape_put : (image : Image) (cell : Cell) (bytes : List ℕ) → SameShape image (put image cell bytes)
shape_put image (Bytes p off) bytes = shape_set image p.0 (with_bytes (page image p.0) off bytes) (length-map-range_with_len (byte_with (page image p.0) off bytes) 0 (length (page image p.0)))
shape_put image (Bit p n) bytes = shape_set image p.0 (with_map_bit (page image p.0) n (slice_index bytes 0)) (length-set (page image p.0) (maps_start + n / 8) (with_bit (slice_index (page image p.0) (maps_start + n / 8)) (n % 8) (slice_index bytes 0)))

-- one bit of a byte with a bit turned
flipped : (x v : ℕ) → x < 2 → v < 2 → (x ≡ v → ⊥) → (x + 1) % 2 ≡ v
flipped x v hx hv n = omega arith

kept : (x : ℕ) → x < 2 → (x + 0) % 2 ≡ x
kept x h = omega arith

bit_with : (byte i v j : ℕ) → v < 2 → bit_at (with_bit byte i v) j ≡ (if eqb i j then v else bit_at byte j)
bit_with byte i v j lt =
    cond_both (eqb (bit_at byte i) v) byte (bit_xor byte (2 ^ i)) (λ w. bit_at w j ≡ (if eqb i j then v else bit_at byte j))
    (λ e. cond_both (eqb i j) v (bit_at byte j) (λ r. bit_at byte j ≡ r)
    (λ same. subst (λ m. bit_at byte m ≡ v) (eqb-true i j same) (eqb-true (bit_at byte i) v e)) (λ other. refl))
    (λ e. bit_at_xor byte (2 ^ i) j ∙ cond_both (eqb i j) v (bit_at byte j) (λ r. (bit_at byte j + bit_at (2 ^ i) j) % 2 ≡ r)
    (λ same. subst (λ m. (bit_at byte m + bit_at (2 ^ i) m) % 2 ≡ v) (eqb-true i j same)
    (ap (λ o. (bit_at byte i + o) % 2) (bit_at-pow_same i) ∙ flipped (bit_at byte i) v (bit_at-lt byte i) lt (eqb-false (bit_at byte i) v e)))
    (λ other. ap (λ o. (bit_at byte j + o) % 2) (bit_at-pow_other i j (λ s. eqb-false i j other (sym s))) ∙ kept (bit_at byte j) (bit_at-lt byte j)))

-- choices
if_left : (b c : Bool) (u v : ℕ) → b ≡ true → (if c then u else v) ≡ (if b && c then u else v)
if_left true c u v e = refl
if_left false c u v e = absurd (false≢true e)

if_right : (b c : Bool) (u v : ℕ) → b ≡ false → v ≡ (if b && c then u else v)
if_right true c u v e = absurd (true≢false e)
if_right false c u v e = refl

bit_if : (c : Bool) (u v j : ℕ) → bit_at (if c then u else v) j ≡ (if c then bit_at u j else bit_at v j)
bit_if true u v j = refl
bit_if false u v j = refl

-- the bytes of a cell are those that its form has: a bit is 0 or 1
abbrev pub MayPut : Cell → List ℕ → Type 0
MayPut (Bytes p off) bytes = Unit {0}
MayPut (Bit p n) bytes = slice_index bytes 0 < 2

read_put_bytes : (image : Image) (q off : ℕ) (bytes : List ℕ) (k : Atom) → IsInside k image →
    read (set image q (with_bytes (page image q) off bytes)) k
    ≡ (if eqb q k.page && (leb off k.byte && ltb k.byte (off + length bytes)) then bit_at (slice_index bytes (k.byte - off)) k.bit else read image k)
read_put_bytes image q off bytes k inside = elim (cases_Bool (eqb q k.page)) [
  | inl e ↦ subst (λ j. read (set image j (with_bytes (page image j) off bytes)) k ≡ (if leb off k.byte && ltb k.byte (off + length bytes) then bit_at (slice_index bytes (k.byte - off)) k.bit else read image k)) (sym (eqb-true q k.page e)) here
      ∙ if_left (eqb q k.page) (leb off k.byte && ltb k.byte (off + length bytes)) (bit_at (slice_index bytes (k.byte - off)) k.bit) (read image k) e
  | inr e ↦ ap (λ bs. bit_at (get_or bs k.byte 0) k.bit) (get_or-set_other image q k.page (with_bytes (page image q) off bytes) [] (λ s. eqb-false q k.page e (sym s)))
      ∙ if_right (eqb q k.page) (leb off k.byte && ltb k.byte (off + length bytes)) (bit_at (slice_index bytes (k.byte - off)) k.bit) (read image k) e
]
  where
    here : read (set image k.page (with_bytes (page image k.page) off bytes)) k ≡ (if leb off k.byte && ltb k.byte (off + length bytes) then bit_at (slice_index bytes (k.byte - off)) k.bit else read image k)
    here =
        let old = page image k.page in
        ap (λ bs. bit_at (get_or bs k.byte 0) k.bit) (get_or-set_same image k.page (with_bytes old off bytes) [] inside.page_in)
        ∙ ap (λ v. bit_at v k.bit) (get_or-map-range_with_len (byte_with old off bytes) 0 (length old) k.byte k.byte 0 inside.byte_in (omega arith))
        ∙ bit_if (leb off k.byte && ltb k.byte (off + length bytes)) (slice_index bytes (k.byte - off)) (slice_index old k.byte) k.bit

read_put_bit : (image : Image) (q n v : ℕ) (k : Atom) → v < 2 → IsInside k image →
    read (set image q (with_map_bit (page image q) n v)) k
    ≡ (if eqb q k.page && (eqb (maps_start + n / 8) k.byte && eqb (n % 8) k.bit) then v else read image k)
read_put_bit image q n v k small inside = elim (cases_Bool (eqb q k.page)) [
  | inl e ↦ subst (λ j. read (set image j (with_map_bit (page image j) n v)) k ≡ (if eqb (maps_start + n / 8) k.byte && eqb (n % 8) k.bit then v else read image k)) (sym (eqb-true q k.page e)) here
      ∙ if_left (eqb q k.page) (eqb (maps_start + n / 8) k.byte && eqb (n % 8) k.bit) v (read image k) e
  | inr e ↦ ap (λ bs. bit_at (get_or bs k.byte 0) k.bit) (get_or-set_other image q k.page (with_map_bit (page image q) n v) [] (λ s. eqb-false q k.page e (sym s)))
      ∙ if_right (eqb q k.page) (eqb (maps_start + n / 8) k.byte && eqb (n % 8) k.bit) v (read image k) e
]
  where
    in_byte : (old : List ℕ) (m : ℕ) → k.byte < length old →
        bit_at (get_or (set old m (with_bit (slice_index old m) (n % 8) v)) k.byte 0) k.bit ≡ (if eqb m k.byte && eqb (n % 8) k.bit then v else bit_at (get_or old k.byte 0) k.bit)
    in_byte old m lt = elim (cases_Bool (eqb m k.byte)) [
      | inl e ↦ subst (λ j. bit_at (get_or (set old j (with_bit (slice_index old j) (n % 8) v)) k.byte 0) k.bit ≡ (if eqb (n % 8) k.bit then v else bit_at (get_or old k.byte 0) k.bit)) (sym (eqb-true m k.byte e))
          (ap (λ w. bit_at w k.bit) (get_or-set_same old k.byte (with_bit (slice_index old k.byte) (n % 8) v) 0 lt) ∙ bit_with (slice_index old k.byte) (n % 8) v k.bit small)
          ∙ if_left (eqb m k.byte) (eqb (n % 8) k.bit) v (bit_at (get_or old k.byte 0) k.bit) e
      | inr e ↦ ap (λ w. bit_at w k.bit) (get_or-set_other old m k.byte (with_bit (slice_index old m) (n % 8) v) 0 (λ s. eqb-false m k.byte e (sym s)))
          ∙ if_right (eqb m k.byte) (eqb (n % 8) k.bit) v (bit_at (get_or old k.byte 0) k.bit) e
    ]

    here : read (set image k.page (with_map_bit (page image k.page) n v)) k ≡ (if eqb (maps_start + n / 8) k.byte && eqb (n % 8) k.bit then v else read image k)
    here =
        ap (λ bs. bit_at (get_or bs k.byte 0) k.bit) (get_or-set_same image k.page (with_map_bit (page image k.page) n v) [] inside.page_in)
        ∙ in_byte (page image k.page) (maps_start + n / 8) inside.byte_in

pub read_put : (image : Image) (cell : Cell) (bytes : List ℕ) (k : Atom) → MayPut cell bytes → IsInside k image →
    read (put image cell bytes) k ≡ (if has_atom cell (length bytes) k then bit_in cell bytes k else read image k)
read_put image (Bytes p off) bytes k may inside = read_put_bytes image p.0 off bytes k inside
read_put image (Bit p n) bytes k may inside = read_put_bit image p.0 n (slice_index bytes 0) k may inside
