-- What stands in a cell, atom by atom.
use Rattle.std.proofs.Common.{◌≡◌, ℕ, ◌+◌, ◌-◌, ◌/◌, ◌%◌, ◌<◌, ◌≤◌, min, get_or, get_or-take, get_or-drop, ext_get_or, length-take, length-drop, take, drop, inl, inr, true, eqb, ltb, leb, ◌&&◌, List, [], ◌∷◌, length, refl, sym, ap, ◌∙◌, subst, arith}
use Rattle.std.specs.Prelude.{slice_index}
use Rattle.std.specs.Int.{bit_at}
use Rattle.std.proofs.lemmas.Bool.{and_parts, and_from, eqb-true, eq-eqb, leb-true, le-leb, ltb-true, ltb-false, lt-ltb, cases_Bool}
use Rattle.std.proofs.lemmas.List.{get_or_past}
use Rattle.std.proofs.lemmas.Nat.Bits.{same_from_bits}
use Rattle.spec_file.specs.declared.data.Resource.{Resource}
use Rattle.spec_file.specs.Image.{Image, page, page_size, maps_start}
use Rattle.spec_log.specs.declared.item.Cell.{Cell}
use Rattle.spec_log.specs.declared.item.Cell.TheVariants.{Bytes, Bit}
use Rattle.spec_log.specs.Items.{has_cell_form}
use Rattle.spec_log.specs.Cells.{read_cell}
use Rattle.spec_log.specs.Images.{page_of_cell}
use Rattle.law_undo.proofs.Reading.{IsInside, SameShape}
use Rattle.law_undo.proofs.Atoms.{Atom, read, has_atom, bit_in}

-- byte i of the part of a list from off
part_at : (xs : List ℕ) (off n i : ℕ) → off ≤ i → i < off + n → get_or (take (off + n - off) (drop off xs)) (i - off) 0 ≡ get_or xs i 0
part_at xs off n i low high =
    let size : off + n - off ≡ n = omega arith in
    let less : i - off < n = omega arith in
    let place : off + (i - off) ≡ i = omega arith in
    ap (λ m. get_or (take m (drop off xs)) (i - off) 0) size
    ∙ get_or-take n (drop off xs) (i - off) 0 less
    ∙ get_or-drop off xs (i - off) 0
    ∙ ap (λ m. get_or xs m 0) place

-- where a cell holds these bytes, each of its atoms holds its bit of them
pub cell_atom : (image : Image) (cell : Cell) (bytes : List ℕ) (size : ℕ) (k : Atom) → length bytes ≡ size → read_cell image cell (length bytes) ≡ bytes →
    has_atom cell size k ≡ true → read image k ≡ bit_in cell bytes k
cell_atom image (Bytes q off) bytes size k long shows h =
    let a = and_parts (eqb q.0 k.page) (leb off k.byte && ltb k.byte (off + size)) h in
    let c = and_parts (leb off k.byte) (ltb k.byte (off + size)) a.1 in
    let low : off ≤ k.byte = leb-true off k.byte c.0 in
    let high : k.byte < off + length bytes = subst (λ n. k.byte < off + n) (sym long) (ltb-true k.byte (off + size) c.1) in
    ap (λ p. bit_at (slice_index (page image p) k.byte) k.bit) (sym (eqb-true q.0 k.page a.0))
    ∙ ap (λ v. bit_at v k.bit) (sym (part_at (page image q.0) off (length bytes) k.byte low high) ∙ ap (λ bs. get_or bs (k.byte - off) 0) shows)
cell_atom image (Bit q n) bytes size k long shows h =
    let a = and_parts (eqb q.0 k.page) (eqb (maps_start + n / 8) k.byte && eqb (n % 8) k.bit) h in
    let c = and_parts (eqb (maps_start + n / 8) k.byte) (eqb (n % 8) k.bit) a.1 in
    ap (λ p. bit_at (slice_index (page image p) k.byte) k.bit) (sym (eqb-true q.0 k.page a.0))
    ∙ ap (λ i. bit_at (slice_index (page image q.0) i) k.bit) (sym (eqb-true (maps_start + n / 8) k.byte c.0))
    ∙ ap (λ j. bit_at (slice_index (page image q.0) (maps_start + n / 8)) j) (sym (eqb-true (n % 8) k.bit c.1))
    ∙ ap (λ bs. get_or bs 0 0) shows

-- what stands in a cell, from its atoms
part_index : (off i : ℕ) → off + i - off ≡ i
part_index off i = omega arith

-- byte i of the part of a list from off, whatever it is
part_get : (xs : List ℕ) (off n i : ℕ) → i < n → get_or (take (off + n - off) (drop off xs)) i 0 ≡ get_or xs (off + i) 0
part_get xs off n i lt =
    let size : off + n - off ≡ n = omega arith in
    ap (λ m. get_or (take m (drop off xs)) i 0) size ∙ get_or-take n (drop off xs) i 0 lt ∙ get_or-drop off xs i 0

part_length : (xs : List ℕ) (off n : ℕ) → length (take (off + n - off) (drop off xs)) ≡ min n (length xs - off)
part_length xs off n =
    let size : off + n - off ≡ n = omega arith in
    length-take (off + n - off) (drop off xs) ∙ ap (λ m. min m (length (drop off xs))) size ∙ ap (min n) (length-drop off xs)

-- a page that has a byte is one of the image's
page_inside : (image : Image) (p at : ℕ) → at < length (page image p) → p < length image
page_inside image p at lt = elim (cases_Bool (ltb p (length image))) [
  | inl e ↦ ltb-true p (length image) e
  | inr e ↦ absurd (none at (subst (λ bytes. at < length bytes) (get_or_past image p [] (ltb-false p (length image) e)) lt))
]
  where
    none : (at : ℕ) → at < 0 → ⊥
    none at h = omega arith

in_atom : (q off size i : ℕ) → off ≤ i → i < off + size → (eqb q q && (leb off i && ltb i (off + size))) ≡ true
in_atom q off size i low high =
    and_from (eqb q q) (leb off i && ltb i (off + size)) (eq-eqb q q refl) (and_from (leb off i) (ltb i (off + size)) (le-leb off i low) (lt-ltb i (off + size) high))

-- two images of one shape that have the same at each atom of a cell have the same in the cell
pub same_cell : (x y : Image) (cell : Cell) (size : ℕ) (guard : ℕ → ℕ → ℕ → Resource) → SameShape x y →
    ((p i j : ℕ) → IsInside (record { page = p; byte = i; bit = j; guard = guard p i j }) x → has_atom cell size (record { page = p; byte = i; bit = j; guard = guard p i j }) ≡ true →
    read x (record { page = p; byte = i; bit = j; guard = guard p i j }) ≡ read y (record { page = p; byte = i; bit = j; guard = guard p i j })) →
    read_cell x cell size ≡ read_cell y cell size
same_cell x y (Bytes q off) size guard shape same =
    let xs = page x q.0 in
    let ys = page y q.0 in
    let as_long : length ys ≡ length xs = shape.bytes q.0 in
    ext_get_or 0 (take (off + size - off) (drop off xs)) (take (off + size - off) (drop off ys))
    (part_length xs off size ∙ ap (λ n. min size (n - off)) (sym as_long) ∙ sym (part_length ys off size))
    (λ i lt.
    let within : i < min size (length xs - off) = subst (λ n. i < n) (part_length xs off size) lt in
    let less : i < size = omega arith in
    let inside : off + i < length xs = omega arith in
    part_get xs off size i less
    ∙ same_from_bits (get_or xs (off + i) 0) (get_or ys (off + i) 0) (λ j.
    same q.0 (off + i) j (record { page_in = page_inside x q.0 (off + i) inside; byte_in = inside })
    (in_atom q.0 off size (off + i) (omega arith) (omega arith)))
    ∙ sym (part_get ys off size i less))
same_cell x y (Bit q n) size guard shape same = ap (λ v. v ∷ []) (elim (cases_Bool (ltb (maps_start + n / 8) (length (page x q.0)))) [
  | inl e ↦
      let inside : maps_start + n / 8 < length (page x q.0) = ltb-true (maps_start + n / 8) (length (page x q.0)) e in
      same q.0 (maps_start + n / 8) (n % 8) (record { page_in = page_inside x q.0 (maps_start + n / 8) inside; byte_in = inside })
      (and_from (eqb q.0 q.0) (eqb (maps_start + n / 8) (maps_start + n / 8) && eqb (n % 8) (n % 8)) (eq-eqb q.0 q.0 refl)
      (and_from (eqb (maps_start + n / 8) (maps_start + n / 8)) (eqb (n % 8) (n % 8)) (eq-eqb (maps_start + n / 8) (maps_start + n / 8) refl) (eq-eqb (n % 8) (n % 8) refl)))
  | inr e ↦
      let past_x : length (page x q.0) ≤ maps_start + n / 8 = ltb-false (maps_start + n / 8) (length (page x q.0)) e in
      let past_y : length (page y q.0) ≤ maps_start + n / 8 = subst (λ m. m ≤ maps_start + n / 8) (sym (shape.bytes q.0)) past_x in
      ap (λ v. bit_at v (n % 8)) (get_or_past (page x q.0) (maps_start + n / 8) 0 past_x ∙ sym (get_or_past (page y q.0) (maps_start + n / 8) 0 past_y))
])

-- a cell of a whole page holds the bytes of which each of its atoms holds its bit
pub cell_shows : (image : Image) (cell : Cell) (before after : List ℕ) (guard : ℕ → ℕ → ℕ → Resource) → has_cell_form cell before after ≡ true →
    page_of_cell cell < length image → length (page image (page_of_cell cell)) ≡ page_size →
    (bytes : List ℕ) → length bytes ≡ length after →
    ((p i j : ℕ) → IsInside (record { page = p; byte = i; bit = j; guard = guard p i j }) image → has_atom cell (length after) (record { page = p; byte = i; bit = j; guard = guard p i j }) ≡ true →
    read image (record { page = p; byte = i; bit = j; guard = guard p i j }) ≡ bit_in cell bytes (record { page = p; byte = i; bit = j; guard = guard p i j })) →
    read_cell image cell (length bytes) ≡ bytes
cell_shows image (Bytes q off) before after guard form page_in whole bytes long same =
    let xs = page image q.0 in
    let a = and_parts (ltb 0 (length after) && leb (off + length after) 8192) (eqb (length before) (length after)) form in
    let c = and_parts (ltb 0 (length after)) (leb (off + length after) 8192) a.0 in
    let fits : off + length after ≤ 8192 = leb-true (off + length after) 8192 c.1 in
    let room : off + length bytes ≤ length xs = omega arith in
    let full : length (take (off + length bytes - off) (drop off xs)) ≡ length bytes = part_length xs off (length bytes) ∙ omega arith in
    ext_get_or 0 (take (off + length bytes - off) (drop off xs)) bytes full
    (λ i lt.
    let less : i < length bytes = subst (λ n. i < n) full lt in
    let inside : off + i < length xs = omega arith in
    part_get xs off (length bytes) i less
    ∙ same_from_bits (get_or xs (off + i) 0) (get_or bytes i 0) (λ j.
    same q.0 (off + i) j (record { page_in = page_in; byte_in = inside }) (in_atom q.0 off (length after) (off + i) (omega arith) (omega arith))
    ∙ ap (λ m. bit_at (get_or bytes m 0) j) (part_index off i)))
cell_shows image (Bit q n) before after guard form page_in whole bytes long same =
    let a = and_parts (ltb n 63904 && eqb (length before) 1 && eqb (length after) 1) (eqb (slice_index before 0 + slice_index after 0) 1) form in
    let b = and_parts (ltb n 63904 && eqb (length before) 1) (eqb (length after) 1) a.0 in
    let c = and_parts (ltb n 63904) (eqb (length before) 1) b.0 in
    let low : n < 63904 = ltb-true n 63904 c.0 in
    let one : length bytes ≡ 1 = long ∙ eqb-true (length after) 1 b.1 in
    let inside : maps_start + n / 8 < length (page image q.0) = subst (λ m. maps_start + n / 8 < m) (sym whole) (bit_room n low) in
    ap (λ v. v ∷ []) (same q.0 (maps_start + n / 8) (n % 8) (record { page_in = page_in; byte_in = inside })
    (and_from (eqb q.0 q.0) (eqb (maps_start + n / 8) (maps_start + n / 8) && eqb (n % 8) (n % 8)) (eq-eqb q.0 q.0 refl)
    (and_from (eqb (maps_start + n / 8) (maps_start + n / 8)) (eqb (n % 8) (n % 8)) (eq-eqb (maps_start + n / 8) (maps_start + n / 8) refl) (eq-eqb (n % 8) (n % 8) refl))))
    ∙ lone bytes one
  where
    bit_room : (n : ℕ) → n < 63904 → maps_start + n / 8 < page_size
    bit_room n lt = omega arith

    lone : (xs : List ℕ) → length xs ≡ 1 → get_or xs 0 0 ∷ [] ≡ xs
    lone [] e = absurd (omega (arith, e))
    lone (x ∷ []) e = refl
    lone (x ∷ y ∷ ys) e = absurd (omega (arith, e))
