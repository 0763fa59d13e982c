-- A page as a list of rows that stand apart.
use Rattle.std.specs.Prelude.{◌≡◌, ℕ, zero, suc, ◌+◌, ◌-◌, ◌*◌, ◌<◌, ◌≤◌, ◌==◌, Bool, true, false, IsTrue, List, [], length, map, nat_lt, slice_index, slice_range, if◌then◌else◌, None, refl}
use Rattle.std.specs.List.{range_with_len, sum_by}
use Rattle.std.proofs.Common.{arith, ap, sym, subst, ◌∙◌, get_or}
use Rattle.std.proofs.lemmas.Bool.{and_parts, and_from, eq-eqb, eqb-true, le-leb, lt-ltb, le-ltb}
use Rattle.std.proofs.lemmas.List.FromFn.{length-map-range_with_len, get_or-map-range_with_len, fill_by_all, sum_by-map-range_with_len_more}
use Rattle.spec_file.specs.Image.{number_at}
use Rattle.spec_file.specs.Header.{header_of, header_version}
use Rattle.spec_file.specs.declared.data.Kind.{Kind}
use Rattle.spec_rows.specs.Rows.{has_data_form, is_data_status, is_leaf_row, is_index_row, row_limit}
use Rattle.spec_rows.specs.Slots.{slot_count, rows_end, has_index_rows, slot_at, begins_row, row_size, row_end, page_row, page_rows, rows_size, fits_page}
use Rattle.spec_rows.specs.PageTest as spec
use Rattle.spec_rows.proofs.SlotLaws.{RowStands, row_stands, rows_size_more, rows_room}
use Rattle.spec_rows.proofs.ApartLaws.{AreApart, apart_from_order, order_from_apart}
use Rattle.spec_rows.proofs.RowLaws.{data_form}
use Rattle.spec_rows.proofs.PartLaws.{number_in_part, byte_in_part}
use Rattle.spec_rows.proofs.WholeRows.{row_length}

-- the row of slot j
pub record HasRow (kind : Kind) (bytes : List ℕ) (j : ℕ) (row : List ℕ) : Type 0 where
  pub size : row_size bytes j ≡ length row
  pub stands : RowStands kind bytes j
  pub same : page_row bytes j ≡ row

-- a row that stands at its slot's offset
row_case : (kind : Kind) (bytes : List ℕ) (j : ℕ) (row : List ℕ) (index : Bool) → has_index_rows bytes ≡ index
    → (if index then is_index_row row else is_leaf_row kind row) ≡ true → 96 ≤ slot_at bytes j → slot_at bytes j + length row ≤ rows_end bytes
    → slice_range bytes (slot_at bytes j) (slot_at bytes j + length row) ≡ row → HasRow kind bytes j row
row_case kind bytes j row true e fits from within same =
    let at = slot_at bytes j in
    let parts = and_parts (slice_index row 0 == 6) (length row == 13) fits in
    let long : length row ≡ 13 = eqb-true (length row) 13 parts.1 in
    let here : at ≡ at + 0 = omega arith in
    let status : slice_index bytes at ≡ 6 =
    ap (slice_index bytes) here ∙ sym (byte_in_part 0 (at + length row - at) at bytes (omega (arith, long))) ∙ ap (λ (l : List ℕ). slice_index l 0) same
    ∙ eqb-true (slice_index row 0) 6 parts.0 in
    let whole : row_size bytes j ≡ 13 = rw e refl in
    let size : row_size bytes j ≡ length row = whole ∙ sym long in
    record {
      size = size;
      stands = record {
        from = from;
        below = omega (arith, long);
        header = rw e (eq-eqb (slice_index bytes at) 6 status);
        within = omega (arith, size);
        least = omega (arith, whole);
        most = omega (arith, whole);
      };
      same = ap (λ (n : ℕ). slice_range bytes at (at + n)) size ∙ same;
    }
row_case kind bytes j row false e fits from within same =
    let at = slot_at bytes j in
    let head = and_parts (is_data_status kind (slice_index row 0)) (has_data_form row) fits in
    let form = data_form row head.1 in
    let enough = form.least in
    let short = form.most in
    let here : at ≡ at + 0 = omega arith in
    let status : slice_index bytes at ≡ slice_index row 0 =
    ap (slice_index bytes) here ∙ sym (byte_in_part 0 (at + length row - at) at bytes (omega (arith, enough))) ∙ ap (λ (l : List ℕ). slice_index l 0) same in
    let said : number_at 2 (at + 1) bytes ≡ length row =
    sym (number_in_part 2 1 (at + length row - at) at bytes (omega (arith, enough))) ∙ ap (number_at 2 1) same ∙ form.said in
    let whole : row_size bytes j ≡ number_at 2 (at + 1) bytes = rw e refl in
    let size : row_size bytes j ≡ length row = whole ∙ said in
    record {
      size = size;
      stands = record {
        from = from;
        below = omega (arith, enough);
        header = rw e (and_from _ _ (and_from _ _ (and_from _ _
            (ap (is_data_status kind) status ∙ head.0)
            (le-leb (at + 3) (rows_end bytes) (omega (arith, enough))))
            (le-leb 11 (number_at 2 (at + 1) bytes) (omega (arith, said, enough))))
            (le-leb (number_at 2 (at + 1) bytes) row_limit (omega (arith, said, short))));
        within = omega (arith, size);
        least = omega (arith, size, enough);
        most = omega (arith, size, short);
      };
      same = ap (λ (n : ℕ). slice_range bytes at (at + n)) size ∙ same;
    }

pub has_row : (kind : Kind) (bytes : List ℕ) (j : ℕ) (row : List ℕ) → IsTrue (fits_page kind bytes row) → 96 ≤ slot_at bytes j
    → slot_at bytes j + length row ≤ rows_end bytes → slice_range bytes (slot_at bytes j) (slot_at bytes j + length row) ≡ row → HasRow kind bytes j row
has_row kind bytes j row fits from within same = row_case kind bytes j row (has_index_rows bytes) refl fits from within same

-- a slot whose row stands has no fault
stands_pass : (kind : Kind) (bytes : List ℕ) (i : ℕ) → RowStands kind bytes i → spec.slot_fault kind bytes i ≡ None
stands_pass kind bytes i stands =
    let begins : begins_row kind bytes i ≡ true =
    and_from _ _ (and_from _ _ (le-leb 96 (slot_at bytes i) stands.from) (lt-ltb (slot_at bytes i) (rows_end bytes) stands.below)) stands.header in
    let ends : nat_lt (rows_end bytes) (row_end bytes i) ≡ false = le-ltb (rows_end bytes) (row_end bytes i) stands.within in
    rw (begins, ends) refl

-- the page has these rows, and no two share a byte
pub record Layout (kind : Kind) (bytes : List ℕ) (rows : List (List ℕ)) : Type 0 where
  pub count : slot_count bytes ≡ length rows
  pub each : (j : ℕ) → j < length rows → HasRow kind bytes j (get_or rows j [])
  pub apart : AreApart bytes

pub layout_rows : (kind : Kind) (bytes : List ℕ) (rows : List (List ℕ)) → Layout kind bytes rows → page_rows bytes ≡ rows
layout_rows kind bytes rows layout =
    sym (fill_by_all (page_row bytes) rows (slot_count bytes) [] (sym layout.count) (λ k within. sym (layout.each k (omega (arith, layout.count))).same))

size_so_far : (kind : Kind) (bytes : List ℕ) (rows : List (List ℕ)) → Layout kind bytes rows → (n : ℕ) → n ≤ length rows
    → rows_size bytes n ≡ sum_by length (map (page_row bytes) (range_with_len 0 n))
size_so_far kind bytes rows layout zero within = refl
size_so_far kind bytes rows layout (suc n) within =
    let here = layout.each n (omega arith) in
    let next : suc n ≡ n + 1 = omega arith in
    let before = size_so_far kind bytes rows layout n (omega arith) in
    ap (rows_size bytes) next ∙ rows_size_more bytes n ∙ ap (λ (s : ℕ). s + row_size bytes n) before
    ∙ ap (λ (s : ℕ). sum_by length (map (page_row bytes) (range_with_len 0 n)) + s) (here.size ∙ sym (ap length here.same))
    ∙ sym (sum_by-map-range_with_len_more length (page_row bytes) 0 n n (omega arith))
    ∙ ap (λ (m : ℕ). sum_by length (map (page_row bytes) (range_with_len 0 m))) (sym next)

pub layout_size : (kind : Kind) (bytes : List ℕ) (rows : List (List ℕ)) → Layout kind bytes rows → rows_size bytes (slot_count bytes) ≡ sum_by length rows
layout_size kind bytes rows layout =
    size_so_far kind bytes rows layout (slot_count bytes) (omega (arith, layout.count)) ∙ ap (sum_by length) (layout_rows kind bytes rows layout)

pub layout_of : (kind : Kind) (bytes : List ℕ) → length bytes ≡ 8192 → spec.HoldsRows kind bytes → Layout kind bytes (page_rows bytes)
layout_of kind bytes long holds =
    let n = slot_count bytes in
    let count : length (page_rows bytes) ≡ n = length-map-range_with_len (page_row bytes) 0 n in
    let room = rows_room (header_of bytes) holds.room in
    record {
      count = sym count;
      each = λ j within.
          let stands = row_stands kind bytes j (holds.slots j (omega (arith, count))) in
          let size = row_length bytes j (omega (arith, long, room.within, stands.within)) in
          subst (HasRow kind bytes j) (sym (get_or-map-range_with_len (page_row bytes) 0 n j j [] (omega (arith, count)) (omega arith)))
          (record { size = sym size; stands = stands; same = refl });
      apart = apart_from_order bytes room.few holds.order;
    }

-- a page with these rows holds rows, where its header fits them
pub holds_of : (kind : Kind) (bytes : List ℕ) (rows : List (List ℕ)) → Layout kind bytes rows → IsTrue (spec.has_row_type kind (header_of bytes))
    → header_version bytes ≡ 1 → IsTrue (spec.has_level (header_of bytes)) → IsTrue (spec.has_room (header_of bytes))
    → IsTrue (spec.has_no_ghosts (header_of bytes))
    → (header_of bytes).free_count + sum_by length rows + 2 * slot_count bytes ≡ 8096 → spec.HoldsRows kind bytes
holds_of kind bytes rows layout type version level room ghosts free =
    let size = layout_size kind bytes rows layout in
    record {
      type = type;
      version = version;
      level = level;
      room = room;
      ghosts = ghosts;
      slots = λ i within. stands_pass kind bytes i (layout.each i (omega (arith, layout.count))).stands;
      order = order_from_apart bytes (λ i within. (layout.each i (omega (arith, layout.count))).stands.least) layout.apart;
      free = eq-eqb ((header_of bytes).free_count + rows_size bytes (slot_count bytes) + 2 * slot_count bytes) 8096 (omega (arith, size, free));
    }
