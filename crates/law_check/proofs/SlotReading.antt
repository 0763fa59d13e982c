-- On a page that passes its test, what the rules read in a slot is what the grammar reads there.
use Rattle.std.proofs.Common.{◌≡◌, ℕ, ◌+◌, ◌-◌, ◌<◌, ◌==◌, ◌&&◌, true, false, IsTrue, List, [], length, drop, Some, None, refl, sym, ap, ◌∙◌, subst, arith, inl, inr, ⊎_elim}
use Rattle.std.specs.Prelude.{if◌then◌else◌, not, nat_lt, option_map}
use Rattle.std.proofs.lemmas.Bool.{and_parts, and_from, cases_Bool, eqb-true, eqb-false, lt-ltb, ltb-true, or_cases, both_ways, not-true, false_from_ne_true}
use Rattle.spec_file.specs.declared.data.Kind.{Kind}
use Rattle.spec_file.specs.declared.geometry.Geometry.{Geometry}
use Rattle.spec_file.specs.CatalogRows.{CatalogRow}
use Rattle.spec_file.specs.Header.{header_of, page_type}
use Rattle.spec_file.specs.Image.{Image, page, number_at}
use Rattle.spec_log.specs.Cells.{HasWholePages}
use Rattle.spec_chain.specs.Uses.{IsAllocatedTo}
use Rattle.spec_rows.specs.Rows.{PageRow, DataRow, IndexRow, row_of, row_key, row_child, is_leaf_row, is_index_row}
use Rattle.spec_rows.specs.Slots.{slot_count, page_row, fits_page}
use Rattle.spec_rows.proofs.SlotLaws.{row_stands, rows_room}
use Rattle.spec_rows.proofs.RowLaws.{leaf_is_data}
use Rattle.spec_rows.proofs.TestLaws.{row_type_of}
use Rattle.spec_rows.proofs.WholeRows.{row_fits}
use Rattle.spec_rows.specs.PageTest.{PassesTest}
use Rattle.spec_tree.specs.declared.known.PageHead.{PageHead}
use Rattle.spec_tree.specs.declared.known.IndexRow as known
use Rattle.spec_tables.specs.Heads.{key_at, last_key, child_at, last_child, child_before, head_of, index_row, index_rows}
use Rattle.spec_tables.specs.KnownPages.{IsHeadIn, IsIndexRowIn}
use Rattle.law_check.specs.Laws.{key_of, child_of, child_in, row_at, StandsOn, SlotHasRow, SlotKeyIsRead, HeadIsRead, IndexRowIsRead, IsHeadRead, IsIndexRowRead}
use Rattle.law_check.proofs.RowReading.{picked, passed, data_read, index_read, key_is_read, child_is_read}

-- the row of a slot may stand on its page
slot_fits : (p o : ℕ) (kind : Kind) (bytes : List ℕ) (i : ℕ) → length bytes ≡ 8192 → PassesTest p o kind bytes → i < slot_count bytes → IsTrue (fits_page kind bytes (page_row bytes i))
slot_fits p o kind bytes i long test within =
    let holds = test.rest.holds in
    let room = rows_room (header_of bytes) holds.room in
    row_fits kind bytes i (omega (arith, long, room.within)) (row_stands kind bytes i (holds.slots i within))

-- a page that has no index rows has data rows
type_of_leaf : (p o : ℕ) (kind : Kind) (bytes : List ℕ) → PassesTest p o kind bytes → (page_type bytes == 2) ≡ false → page_type bytes ≡ 1
type_of_leaf p o kind bytes test leaf =
    ⊎_elim (λ one. eqb-true (page_type bytes) 1 one) (λ two. absurd (both_ways (page_type bytes == 2) leaf two))
    (or_cases (page_type bytes == 1) (page_type bytes == 2) (row_type_of kind (header_of bytes) test.rest.holds.type))

-- the grammar reads the bytes of a slot as a row of the page's type
abbrev IsRead : ℕ → List ℕ → Type 0
IsRead type row_bytes = (row : PageRow) × (row_of row_bytes ≡ Some row) × StandsOn type row

row_read : (p o : ℕ) (kind : Kind) (bytes : List ℕ) (i : ℕ) → length bytes ≡ 8192 → PassesTest p o kind bytes → i < slot_count bytes → IsRead (page_type bytes) (page_row bytes i)
row_read p o kind bytes i long test within =
    let fits = slot_fits p o kind bytes i long test within in
    let row = page_row bytes i in
    elim (cases_Bool (page_type bytes == 2)) [
      | inl index ↦ (
        IndexRow (number_at 8 1 row) (number_at 4 9 row),
        index_read row (sym (picked (page_type bytes == 2) (is_index_row row) (is_leaf_row kind row) index) ∙ fits),
        eqb-true (page_type bytes) 2 index,
      )
      | inr leaf ↦ (
        DataRow (number_at 8 3 row) (drop 11 row),
        data_read row (leaf_is_data kind row (sym (passed (page_type bytes == 2) (is_index_row row) (is_leaf_row kind row) leaf) ∙ fits)),
        type_of_leaf p o kind bytes test leaf,
      )
    ]

there : (bytes : List ℕ) (i : ℕ) → i < slot_count bytes → row_at bytes i ≡ row_of (page_row bytes i)
there bytes i within = picked (nat_lt i (slot_count bytes)) (row_of (page_row bytes i)) None (lt-ltb i (slot_count bytes) within)

pub slot_has_row : SlotHasRow
slot_has_row p o kind bytes i long test within =
    let read = row_read p o kind bytes i long test within in
    (read.0, there bytes i within ∙ read.1, read.2)

key_there : (bytes : List ℕ) (i : ℕ) (row : PageRow) → i < slot_count bytes → row_of (page_row bytes i) ≡ Some row → key_at bytes i ≡ option_map key_of (row_at bytes i)
key_there bytes i row within same =
    picked (nat_lt i (slot_count bytes)) (Some (row_key (page_row bytes i))) None (lt-ltb i (slot_count bytes) within)
    ∙ ap (λ (k : ℕ). Some k) (key_is_read (page_row bytes i) row same)
    ∙ ap (option_map key_of) (sym (there bytes i within ∙ same))

pub slot_key_is_read : SlotKeyIsRead
slot_key_is_read p o kind bytes i long test = elim (cases_Bool (nat_lt i (slot_count bytes))) [
  | inl within ↦
      let low = ltb-true i (slot_count bytes) within in
      let read = row_read p o kind bytes i long test low in
      key_there bytes i read.0 low read.1
  | inr past ↦
      passed (nat_lt i (slot_count bytes)) (Some (row_key (page_row bytes i))) None past
      ∙ ap (option_map key_of) (sym (passed (nat_lt i (slot_count bytes)) (row_of (page_row bytes i)) None past))
]

-- the row of a page of index rows, and the page that it names
index_is : (type : ℕ) (row_bytes : List ℕ) (row : PageRow) → type ≡ 2 → StandsOn type row → row_of row_bytes ≡ Some row → Some row ≡ Some (IndexRow (row_key row_bytes) (row_child row_bytes))
index_is type row_bytes (DataRow key payload) two one same = absurd (omega (arith, two, one))
index_is type row_bytes (IndexRow key child) two stands same =
    ap (λ (k : ℕ). Some (IndexRow k child)) (sym (key_is_read row_bytes (IndexRow key child) same))
    ∙ ap (λ (q : ℕ). Some (IndexRow (row_key row_bytes) q)) (sym (child_is_read row_bytes key child same))

index_there : (p o : ℕ) (kind : Kind) (bytes : List ℕ) (i : ℕ) → length bytes ≡ 8192 → PassesTest p o kind bytes → page_type bytes ≡ 2 → i < slot_count bytes →
    row_at bytes i ≡ Some (IndexRow (row_key (page_row bytes i)) (child_at bytes i))
index_there p o kind bytes i long test index within =
    let read = row_read p o kind bytes i long test within in
    there bytes i within ∙ read.1 ∙ index_is (page_type bytes) (page_row bytes i) read.0 index read.2 read.1

child_there : (p o : ℕ) (kind : Kind) (bytes : List ℕ) (i : ℕ) → length bytes ≡ 8192 → PassesTest p o kind bytes → page_type bytes ≡ 2 → i < slot_count bytes →
    child_at bytes i ≡ child_in (row_at bytes i)
child_there p o kind bytes i long test index within = sym (ap child_in (index_there p o kind bytes i long test index within))

-- a row of a page of data rows names no page
leaf_child : (type : ℕ) (row : PageRow) → type ≡ 1 → StandsOn type row → child_of row ≡ 0
leaf_child type (DataRow key payload) one stands = refl
leaf_child type (IndexRow key child) one two = absurd (omega (arith, one, two))

no_child : (p o : ℕ) (kind : Kind) (bytes : List ℕ) (i : ℕ) → length bytes ≡ 8192 → PassesTest p o kind bytes → page_type bytes ≡ 1 → child_in (row_at bytes i) ≡ 0
no_child p o kind bytes i long test leaf = elim (cases_Bool (nat_lt i (slot_count bytes))) [
  | inl within ↦
      let has = slot_has_row p o kind bytes i long test (ltb-true i (slot_count bytes) within) in
      ap child_in has.1 ∙ leaf_child (page_type bytes) has.0 leaf has.2
  | inr past ↦ ap child_in (passed (nat_lt i (slot_count bytes)) (row_of (page_row bytes i)) None past)
]

-- an index page has a row
some_row : (p o : ℕ) (kind : Kind) (bytes : List ℕ) → PassesTest p o kind bytes → (page_type bytes == 2) ≡ true → 0 < slot_count bytes
some_row p o kind bytes test index =
    let none = not-true ((page_type bytes == 2) && (slot_count bytes == 0)) test.rows in
    elim (cases_Bool (slot_count bytes == 0)) [
      | inl empty ↦ absurd (both_ways _ none (and_from (page_type bytes == 2) (slot_count bytes == 0) index empty))
      | inr some ↦ let e = eqb-false (slot_count bytes) 0 some in omega (arith, e)
    ]

last_key_is : (p o : ℕ) (kind : Kind) (bytes : List ℕ) → length bytes ≡ 8192 → PassesTest p o kind bytes → last_key bytes ≡ option_map key_of (row_at bytes (slot_count bytes - 1))
last_key_is p o kind bytes long test =
    let last = slot_count bytes - 1 in
    elim (cases_Bool (slot_count bytes == 0)) [
      | inl empty ↦
          let none : slot_count bytes ≡ 0 = eqb-true (slot_count bytes) 0 empty in
          let past : nat_lt last (slot_count bytes) ≡ false = false_from_ne_true (nat_lt last (slot_count bytes)) (λ h. let e = ltb-true last (slot_count bytes) h in omega (arith, e, none)) in
          picked (slot_count bytes == 0) None (key_at bytes last) empty ∙ ap (option_map key_of) (sym (passed (nat_lt last (slot_count bytes)) (row_of (page_row bytes last)) None past))
      | inr some ↦ passed (slot_count bytes == 0) None (key_at bytes last) some ∙ slot_key_is_read p o kind bytes last long test
    ]

last_child_is : (p o : ℕ) (kind : Kind) (bytes : List ℕ) → length bytes ≡ 8192 → PassesTest p o kind bytes → last_child bytes ≡ child_in (row_at bytes (slot_count bytes - 1))
last_child_is p o kind bytes long test =
    let last = slot_count bytes - 1 in
    elim (cases_Bool (page_type bytes == 2)) [
      | inl index ↦
          let some = some_row p o kind bytes test index in
          picked (page_type bytes == 2) (child_at bytes last) 0 index ∙ child_there p o kind bytes last long test (eqb-true (page_type bytes) 2 index) (omega (arith, some))
      | inr leaf ↦
          passed (page_type bytes == 2) (child_at bytes last) 0 leaf ∙ sym (no_child p o kind bytes last long test (type_of_leaf p o kind bytes test leaf))
    ]

head_read : (p o : ℕ) (kind : Kind) (bytes : List ℕ) → length bytes ≡ 8192 → PassesTest p o kind bytes → IsHeadRead bytes (head_of o p bytes)
head_read p o kind bytes long test = record {
  first = slot_key_is_read p o kind bytes 0 long test;
  last = last_key_is p o kind bytes long test;
  last_child = last_child_is p o kind bytes long test;
}

before_is : (p o : ℕ) (kind : Kind) (bytes : List ℕ) (i : ℕ) → length bytes ≡ 8192 → PassesTest p o kind bytes → page_type bytes ≡ 2 → i < slot_count bytes →
    child_before bytes i ≡ (if i == 0 then 0 else child_in (row_at bytes (i - 1)))
before_is p o kind bytes i long test index within = ap (λ (q : ℕ). if i == 0 then 0 else q) (child_there p o kind bytes (i - 1) long test index (omega (arith, within)))

index_page : (bytes : List ℕ) (i : ℕ) → i < index_rows bytes → (page_type bytes ≡ 2) × (i < slot_count bytes)
index_page bytes i stands = elim (cases_Bool (page_type bytes == 2)) [
  | inl index ↦ (eqb-true (page_type bytes) 2 index, subst (λ n. i < n) (picked (page_type bytes == 2) (slot_count bytes) 0 index) stands)
  | inr leaf ↦ absurd (let none = passed (page_type bytes == 2) (slot_count bytes) 0 leaf in omega (arith, stands, none))
]

index_row_read : (p o : ℕ) (kind : Kind) (bytes : List ℕ) (i : ℕ) → length bytes ≡ 8192 → PassesTest p o kind bytes → i < index_rows bytes → IsIndexRowRead bytes (index_row o p bytes i)
index_row_read p o kind bytes i long test stands =
    let on = index_page bytes i stands in
    record {
      here = index_there p o kind bytes i long test on.0 on.1;
      next = slot_key_is_read p o kind bytes (i + 1) long test;
      before = before_is p o kind bytes i long test on.0 on.1;
    }

-- the image has a page that is allocated
allocated_inside : (g : Geometry) (image : Image) (row : CatalogRow) (p : ℕ) → IsAllocatedTo g image row p → p < length image
allocated_inside g image row p h =
    ⊎_elim (λ single. ltb-true p (length image) (and_parts (not (p == 0)) (nat_lt p (length image)) single.1.1).1) (λ marked. marked.0) h

known_head : (g : Geometry) (image : Image) (s : PageHead) → HasWholePages image → (at : IsHeadIn g image s) → s ≡ head_of at.row.id at.number (page image at.number) → IsHeadRead (page image s.page.0) s
known_head g image s whole at same =
    subst (λ (x : PageHead). IsHeadRead (page image x.page.0) x) (sym same)
    (head_read at.number at.row.id at.row.kind (page image at.number) (whole at.number [] (allocated_inside g image at.row at.number at.seen.allocated)) at.seen.passes)

pub head_is_read : HeadIsRead
head_is_read g image s whole at = known_head g image s whole at at.is

known_index_row : (g : Geometry) (image : Image) (c : known.IndexRow) → HasWholePages image → (at : IsIndexRowIn g image c) → c ≡ index_row at.row.id at.number (page image at.number) at.slot →
    IsIndexRowRead (page image c.parent.0) c
known_index_row g image c whole at same =
    subst (λ (x : known.IndexRow). IsIndexRowRead (page image x.parent.0) x) (sym same)
    (index_row_read at.number at.row.id at.row.kind (page image at.number) at.slot
    (whole at.number [] (allocated_inside g image at.row at.number at.seen.allocated)) at.seen.passes at.stands)

pub index_row_is_read : IndexRowIsRead
index_row_is_read g image c whole at = known_index_row g image c whole at at.is
