-- What the rules of trees know of a page is what stands on it as a node.
use Rattle.std.proofs.Common.{Bool, true, false, ◌≡◌, ℕ, zero, suc, ◌+◌, ◌-◌, ◌<◌, ◌≤◌, ◌&&◌, ◌||◌, ◌==◌, Option, Some, None, List, length, refl, sym, ap, ◌∙◌, ⊎_elim, arith}
use Rattle.std.specs.Prelude.{if◌then◌else◌, nat_lt, nat_le}
use Rattle.std.proofs.lemmas.Bool.{cases_Bool, eqb-true, eq-eqb, eqb-false, lt-ltb, ltb-true, leb-true, and_parts, and_from, or_cases, both_ways, not-true, false_from_ne_true}
use Rattle.std.proofs.lemmas.List.FromFn.{length-map-range_with_len}
use Rattle.spec_file.specs.declared.data.Kind.{Kind}
use Rattle.spec_file.specs.Kinds.{is_clustered}
use Rattle.spec_file.specs.Header.{header_of, page_type}
use Rattle.spec_rows.specs.Slots.{slot_count, has_index_rows}
use Rattle.spec_rows.specs.PageTest.{PassesTest}
use Rattle.spec_tree.specs.declared.known.PageHead.{PageHead}
use Rattle.spec_tree.specs.declared.known.IndexRow.{IndexRow}
use Rattle.spec_tables.specs.Heads.{key_at, last_key, child_at, last_child, head_of, child_before, index_row}
use Rattle.spec_levels.specs.Levels.{Row, first_key, keys_of}
use Rattle.spec_levels.specs.Pages.{Page}
use Rattle.law_trees.specs.Read.{leaf_row, child_row, node_of, page_read}
use Rattle.law_trees.proofs.Ranges.{made, last_key_made, last_value_made}
use Rattle.law_levels.specs.Known.{last_value, last_in, first_in, head_on, row_on}

pub picked : {X : Type 0} (b : Bool) (x y : X) → b ≡ true → (if b then x else y) ≡ x
picked b x y e = ap (λ c. if c then x else y) e

pub passed : {X : Type 0} (b : Bool) (x y : X) → b ≡ false → (if b then x else y) ≡ y
passed b x y e = ap (λ c. if c then x else y) e

pub key_first : {V : Type 0} (f : ℕ → Row V) (n : ℕ) → (if nat_lt 0 n then Some (f 0).key else None) ≡ first_in (keys_of (made f 0 n))
key_first f zero = refl
key_first f (suc n) = picked (nat_lt 0 (suc n)) (Some (f 0).key) None (lt-ltb 0 (suc n) (omega arith))

pub key_last : {V : Type 0} (f : ℕ → Row V) (n : ℕ) → (if n == 0 then None else (if nat_lt (n - 1) n then Some (f (n - 1)).key else None)) ≡ last_in (keys_of (made f 0 n))
key_last f zero = refl
key_last f (suc n) =
    let at : suc n - 1 ≡ 0 + n = omega arith in
    passed (suc n == 0) None (if nat_lt (suc n - 1) (suc n) then Some (f (suc n - 1)).key else None) (ne_false (suc n) (omega arith))
    ∙ (picked (nat_lt (suc n - 1) (suc n)) (Some (f (suc n - 1)).key) None (lt-ltb (suc n - 1) (suc n) (omega arith))
    ∙ (ap (λ k. Some (f k).key) at ∙ sym (last_key_made f 0 n)))
  where
    ne_false : (k : ℕ) → 0 < k → (k == 0) ≡ false
    ne_false k h = false_from_ne_true (k == 0) (λ e. let z : k ≡ 0 = eqb-true k 0 e in omega (arith, h, z))

pub value_last : (f : ℕ → Row ℕ) (n : ℕ) → 0 < n → (f (n - 1)).value ≡ last_value (made f 0 n)
value_last f zero some = absurd (omega (arith, some))
value_last f (suc n) some = let at : suc n - 1 ≡ 0 + n = omega arith in ap (λ k. (f k).value) at ∙ sym (last_value_made f 0 n)

-- the level of a page that passes its test
pub leaf_type : (p o : ℕ) (kind : Kind) (bytes : List ℕ) → PassesTest p o kind bytes → has_index_rows bytes ≡ false → page_type bytes ≡ 1
leaf_type p o kind bytes test leaf =
    let one = page_type bytes == 1 in
    let two = page_type bytes == 2 in
    ⊎_elim
    (λ clustered. ⊎_elim (λ is. eqb-true (page_type bytes) 1 is) (λ is. absurd (both_ways two leaf is))
    (or_cases one two (sym (picked (is_clustered kind) (one || two) one clustered) ∙ test.rest.holds.type)))
    (λ heap. eqb-true (page_type bytes) 1 (sym (passed (is_clustered kind) (one || two) one heap) ∙ test.rest.holds.type))
    (cases_Bool (is_clustered kind))

pub leaf_level : (p o : ℕ) (kind : Kind) (bytes : List ℕ) → PassesTest p o kind bytes → has_index_rows bytes ≡ false → (header_of bytes).level ≡ 0
leaf_level p o kind bytes test leaf =
    let one = eq-eqb (page_type bytes) 1 (leaf_type p o kind bytes test leaf) in
    let level = (header_of bytes).level in
    eqb-true level 0 (sym (picked (page_type bytes == 1) (level == 0) (nat_le 1 level && nat_le level 15) one) ∙ test.rest.holds.level)

pub index_level : (p o : ℕ) (kind : Kind) (bytes : List ℕ) → PassesTest p o kind bytes → has_index_rows bytes ≡ true → (0 < (header_of bytes).level) × ((header_of bytes).level ≤ 15)
index_level p o kind bytes test index =
    let two = eqb-true (page_type bytes) 2 index in
    let level = (header_of bytes).level in
    let other = false_from_ne_true (page_type bytes == 1) (λ e. let one : page_type bytes ≡ 1 = eqb-true (page_type bytes) 1 e in omega (arith, one, two)) in
    let parts = and_parts (nat_le 1 level) (nat_le level 15) (sym (passed (page_type bytes == 1) (level == 0) (nat_le 1 level && nat_le level 15) other) ∙ test.rest.holds.level) in
    let low = leb-true 1 level parts.0 in
    let high = leb-true level 15 parts.1 in
    (omega (arith, low), high)

pub some_row : (p o : ℕ) (kind : Kind) (bytes : List ℕ) → PassesTest p o kind bytes → has_index_rows bytes ≡ true → 0 < slot_count bytes
some_row p o kind bytes test index =
    let none = not-true ((page_type bytes == 2) && (slot_count bytes == 0)) test.rows in
    ⊎_elim (λ empty. absurd (both_ways ((page_type bytes == 2) && (slot_count bytes == 0)) none (and_from (page_type bytes == 2) (slot_count bytes == 0) index empty)))
    (λ some. let e = eqb-false (slot_count bytes) 0 some in omega (arith, e)) (cases_Bool (slot_count bytes == 0))

-- a page as it is read
pub index_read : (p : ℕ) (bytes : List ℕ) → has_index_rows bytes ≡ true → page_read p bytes ≡ Page.IndexPage (header_of bytes).level (node_of child_row p bytes)
index_read p bytes e = picked (has_index_rows bytes) (Page.IndexPage (header_of bytes).level (node_of child_row p bytes)) (Page.LeafPage (node_of leaf_row p bytes)) e

pub leaf_read : (p : ℕ) (bytes : List ℕ) → has_index_rows bytes ≡ false → page_read p bytes ≡ Page.LeafPage (node_of leaf_row p bytes)
leaf_read p bytes e = passed (has_index_rows bytes) (Page.IndexPage (header_of bytes).level (node_of child_row p bytes)) (Page.LeafPage (node_of leaf_row p bytes)) e

abbrev head_with : ℕ → ℕ → List ℕ → ℕ → Option ℕ → Option ℕ → ℕ → PageHead
head_with o p bytes level first last child = record {
  object = record { 0 = o };
  page = record { 0 = p };
  level = level;
  prev = (header_of bytes).prev;
  next = (header_of bytes).next;
  first = first;
  last = last;
  last_child = record { 0 = child };
}

head_same : (o p : ℕ) (bytes : List ℕ) (l l' : ℕ) (f f' t t' : Option ℕ) (c c' : ℕ) → l ≡ l' → f ≡ f' → t ≡ t' → c ≡ c'
    → head_with o p bytes l f t c ≡ head_with o p bytes l' f' t' c'
head_same o p bytes l l' f f' t t' c c' a b d e =
    ap (λ x. head_with o p bytes x f t c) a ∙ (ap (λ x. head_with o p bytes l' x t c) b ∙ (ap (λ x. head_with o p bytes l' f' x c) d ∙ ap (head_with o p bytes l' f' t') e))

pub head_read : (p o : ℕ) (kind : Kind) (bytes : List ℕ) → PassesTest p o kind bytes → head_of o p bytes ≡ head_on o (page_read p bytes)
head_read p o kind bytes test = ⊎_elim
    (λ index. head_same o p bytes (header_of bytes).level (header_of bytes).level (key_at bytes 0) (first_in (keys_of (made (child_row bytes) 0 (slot_count bytes))))
    (last_key bytes) (last_in (keys_of (made (child_row bytes) 0 (slot_count bytes)))) (last_child bytes) (last_value (made (child_row bytes) 0 (slot_count bytes)))
    refl (key_first (child_row bytes) (slot_count bytes)) (key_last (child_row bytes) (slot_count bytes))
    (picked (has_index_rows bytes) (child_at bytes (slot_count bytes - 1)) 0 index ∙ value_last (child_row bytes) (slot_count bytes) (some_row p o kind bytes test index))
    ∙ ap (head_on o) (sym (index_read p bytes index)))
    (λ leaf. head_same o p bytes (header_of bytes).level 0 (key_at bytes 0) (first_in (keys_of (made (leaf_row bytes) 0 (slot_count bytes))))
    (last_key bytes) (last_in (keys_of (made (leaf_row bytes) 0 (slot_count bytes)))) (last_child bytes) 0
    (leaf_level p o kind bytes test leaf) (key_first (leaf_row bytes) (slot_count bytes)) (key_last (leaf_row bytes) (slot_count bytes))
    (passed (has_index_rows bytes) (child_at bytes (slot_count bytes - 1)) 0 leaf)
    ∙ ap (head_on o) (sym (leaf_read p bytes leaf)))
    (cases_Bool (has_index_rows bytes))

-- an index row
abbrev row_with : ℕ → ℕ → List ℕ → ℕ → ℕ → Option ℕ → ℕ → IndexRow
row_with o p bytes i slot next before = record {
  object = record { 0 = o };
  parent = record { 0 = p };
  slot = slot;
  level = (header_of bytes).level;
  key = (child_row bytes i).key;
  next_key = next;
  child = record { 0 = child_at bytes i };
  before = record { 0 = before };
  parent_prev = (header_of bytes).prev;
  parent_next = (header_of bytes).next;
}

next_made : (f : ℕ → Row ℕ) (n i m : ℕ) → n ≡ i + suc m → (if nat_lt (i + 1) n then Some (f (i + 1)).key else None) ≡ first_key (made f (i + 1) m)
next_made f n i zero count =
    passed (nat_lt (i + 1) n) (Some (f (i + 1)).key) None (false_from_ne_true (nat_lt (i + 1) n) (λ e. let less : i + 1 < n = ltb-true (i + 1) n e in omega (arith, less, count)))
next_made f n i (suc m) count = picked (nat_lt (i + 1) n) (Some (f (i + 1)).key) None (lt-ltb (i + 1) n (omega (arith, count)))

before_made : (f : ℕ → Row ℕ) (i : ℕ) → (if i == 0 then 0 else (f (i - 1)).value) ≡ last_value (made f 0 i)
before_made f zero = refl
before_made f (suc i) =
    passed (suc i == 0) 0 (f (suc i - 1)).value (false_from_ne_true (suc i == 0) (λ e. let none : suc i ≡ 0 = eqb-true (suc i) 0 e in omega (arith, none)))
    ∙ value_last f (suc i) (omega arith)

pub row_read : (o p : ℕ) (bytes : List ℕ) (i m : ℕ) → slot_count bytes ≡ i + suc m
    → index_row o p bytes i ≡ row_on o (header_of bytes).level (node_of child_row p bytes) (made (child_row bytes) 0 i) (child_row bytes i) (made (child_row bytes) (i + 1) m)
row_read o p bytes i m count =
    let f = child_row bytes in
    ap (λ x. row_with o p bytes i x (key_at bytes (i + 1)) (child_before bytes i)) (sym (length-map-range_with_len f 0 i))
    ∙ (ap (λ x. row_with o p bytes i (length (made f 0 i)) x (child_before bytes i)) (next_made f (slot_count bytes) i m count)
    ∙ ap (row_with o p bytes i (length (made f 0 i)) (first_key (made f (i + 1) m))) (before_made f i))
