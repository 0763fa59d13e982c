-- A row that is put behind the others.
use Rattle.std.specs.Prelude.{◌≡◌, ◌≢◌, ◌⊎◌, ℕ, ◌+◌, ◌-◌, ◌<◌, ◌≤◌, IsTrue, List, [], ◌∷◌, length, slice_range, refl}
use Rattle.std.specs.List.{insert, sum_by}
use Rattle.std.proofs.Common.{arith, ap, sym, subst, ◌∙◌, inl, inr, get_or}
use Rattle.std.proofs.lemmas.Bool.{cases_order, cases_eq}
use Rattle.std.proofs.lemmas.List.Sums.{sum_by-cons}
use Rattle.std.proofs.lemmas.List.Edits.{length-insert, get_or-insert_below, get_or-insert_at, get_or-insert_above}
use Rattle.std.proofs.lemmas.List.Sorted.{IsPermutation-insert, sum_by-IsPermutation}
use Rattle.spec_file.specs.Header.{header_of}
use Rattle.spec_file.specs.declared.header.Header.{Header}
use Rattle.spec_file.specs.declared.data.Kind.{Kind}
use Rattle.spec_rows.specs.Slots.{slot_count, rows_end, slot_at, page_row, page_rows, fits_page}
use Rattle.spec_rows.specs.PageTest as spec
use Rattle.spec_rows.specs.Changes.{IsPlaced, FitsBehind}
use Rattle.spec_rows.proofs.SlotLaws.{row_stands, rows_room}
use Rattle.spec_rows.proofs.PartLaws.{byte_stays_in}
use Rattle.pg_slots.proofs.Arranged.{HasRow, has_row, Layout, layout_of, layout_rows, holds_of}
use Rattle.pg_slots.proofs.Moved.{same_rows, fits_still, moved, came, apart_still, room_from, row_count, row_of_slot, parts}

record Placing (kind : Kind) (i : ℕ) (row before now : List ℕ) : Type 0 where
  long : length before ≡ 8192
  holds : spec.HoldsRows kind before
  fits : IsTrue (fits_page kind before row)
  within : i ≤ slot_count before
  behind : FitsBehind row before
  placed : IsPlaced i row before now

placed_count : (kind : Kind) (i : ℕ) (row before now : List ℕ) → Placing kind i row before now → slot_count now ≡ slot_count before + 1
placed_count kind i row before now g = ap (λ (h : Header). h.slots) g.placed.header

placed_end : (kind : Kind) (i : ℕ) (row before now : List ℕ) → Placing kind i row before now → rows_end now ≡ rows_end before + length row
placed_end kind i row before now g = ap (λ (h : Header). h.free_from) g.placed.header

placed_new : (kind : Kind) (i : ℕ) (row before now : List ℕ) → Placing kind i row before now → HasRow kind now i row
placed_new kind i row before now g =
    let room = rows_room (header_of before) g.holds.room in
    let same = same_rows before now _ _ _ g.placed.header in
    has_row kind now i row (fits_still kind before now row same g.fits) (omega (arith, g.placed.here, room.from))
    (omega (arith, g.placed.here, placed_end kind i row before now g))
    (ap (λ (n : ℕ). slice_range now n (n + length row)) g.placed.here ∙ g.placed.placed)

placed_old : (kind : Kind) (i : ℕ) (row before now : List ℕ) → Placing kind i row before now → (j from : ℕ) → from < slot_count before
    → slot_at now j ≡ slot_at before from → HasRow kind now j (page_row before from)
placed_old kind i row before now g j from within start =
    moved kind before now j from g.long g.holds within (same_rows before now _ _ _ g.placed.header) start
    (omega (arith, placed_end kind i row before now g)) g.placed.others

-- slot j had another number, or the same
record Shifted (i : ℕ) (row before now : List ℕ) (j : ℕ) : Type 0 where
  from : ℕ
  within : from < slot_count before
  start : slot_at now j ≡ slot_at before from
  place : ((j < i) × (from ≡ j)) ⊎ ((i < j) × (from + 1 ≡ j))
  row_is : get_or (insert (page_rows before) i row) j [] ≡ page_row before from

shifted : (kind : Kind) (i : ℕ) (row before now : List ℕ) → Placing kind i row before now → (j : ℕ) → j < slot_count now → j ≢ i → Shifted i row before now j
shifted kind i row before now g j within other =
    let count = placed_count kind i row before now g in
    let rows = row_count before in
    elim (cases_order j i) [
      | inl same ↦ absurd (other same)
      | inr (inl below) ↦ record {
        from = j;
        within = omega (arith, below, g.within);
        start = g.placed.earlier j below;
        place = inl (below, refl);
        row_is = get_or-insert_below (page_rows before) i row [] j below (omega (arith, rows, g.within)) ∙ row_of_slot before j (omega (arith, below, g.within));
      }
      | inr (inr above) ↦
          let next : j ≡ (j - 1) + 1 = omega (arith, above) in
          record {
            from = j - 1;
            within = omega (arith, above, within, count);
            start = ap (slot_at now) next ∙ g.placed.later (j - 1) (omega (arith, above)) (omega (arith, above, within, count));
            place = inr (above, sym next);
            row_is = ap (λ (k : ℕ). get_or (insert (page_rows before) i row) k []) next
                ∙ get_or-insert_above (page_rows before) i row [] (j - 1) (omega (arith, above)) (omega (arith, rows, g.within))
                ∙ row_of_slot before (j - 1) (omega (arith, above, within, count));
          }
    ]

places_differ : (i j k f g : ℕ) → ((j < i) × (f ≡ j)) ⊎ ((i < j) × (f + 1 ≡ j)) → ((k < i) × (g ≡ k)) ⊎ ((i < k) × (g + 1 ≡ k)) → j ≢ k → f ≢ g
places_differ i j k f g one two other same = grind arith

placed_layout : (kind : Kind) (i : ℕ) (row before now : List ℕ) → Placing kind i row before now → Layout kind now (insert (page_rows before) i row)
unfolding came shifted
placed_layout kind i row before now g =
    let count = placed_count kind i row before now g in
    let rows = row_count before in
    let fresh = placed_new kind i row before now g in
    let size = length-insert (page_rows before) i row (omega (arith, rows, g.within)) in
    let old = λ (j : ℕ) (j_in : j < slot_count now) (other : j ≢ i).
    let s = shifted kind i row before now g j j_in other in
    came kind before now j s.from g.long g.holds s.within s.start (placed_old kind i row before now g j s.from s.within s.start) in
    record {
      count = omega (arith, count, size, rows);
      each = λ j within. elim (cases_eq j i) [
        | inl same ↦
            subst (λ (k : ℕ). HasRow kind now k (get_or (insert (page_rows before) i row) k [])) (sym same)
            (subst (HasRow kind now i) (sym (get_or-insert_at (page_rows before) i row [] (omega (arith, rows, g.within)))) fresh)
        | inr other ↦
            let s = shifted kind i row before now g j (omega (arith, within, count, size, rows)) other in
            subst (HasRow kind now j) (sym s.row_is) (placed_old kind i row before now g j s.from s.within s.start)
      ];
      apart = λ j k j_in k_in other. elim (cases_eq j i) [
        | inl first ↦
            let k_old = old k k_in (λ same. other (first ∙ sym same)) in
            let stands = row_stands kind before k_old.from (g.holds.slots k_old.from k_old.within) in
            inr (omega (arith, ap (slot_at now) first, g.placed.here, k_old.stop, stands.within))
        | inr j_old ↦ elim (cases_eq k i) [
          | inl second ↦
              let j_came = old j j_in j_old in
              let stands = row_stands kind before j_came.from (g.holds.slots j_came.from j_came.within) in
              inl (omega (arith, ap (slot_at now) second, g.placed.here, j_came.stop, stands.within))
          | inr k_old ↦
              let s = shifted kind i row before now g j j_in j_old in
              let t = shifted kind i row before now g k k_in k_old in
              apart_still before now j k (layout_of kind before g.long g.holds).apart (old j j_in j_old) (old k k_in k_old)
              (places_differ i j k s.from t.from s.place t.place other)
        ]
      ];
    }

placed_all : (kind : Kind) (i : ℕ) (row before now : List ℕ) → Placing kind i row before now → length row + 2 ≤ (header_of before).free_count
    → spec.HoldsRows kind now × (page_rows now ≡ insert (page_rows before) i row)
placed_all kind i row before now g enough =
    let header = g.placed.header in
    let count = placed_count kind i row before now g in
    let ends = placed_end kind i row before now g in
    let room = rows_room (header_of before) g.holds.room in
    let layout = placed_layout kind i row before now g in
    let whole = parts kind before g.long g.holds in
    let sum : sum_by length (insert (page_rows before) i row) ≡ length row + sum_by length (page_rows before) =
    sum_by-IsPermutation length (row ∷ page_rows before) (insert (page_rows before) i row) (IsPermutation-insert (page_rows before) i row)
    ∙ sum_by-cons length row (page_rows before) in
    let free : (header_of now).free_count ≡ (header_of before).free_count - (length row + 2) = ap (λ (h : Header). h.free_count) header in (
      holds_of kind now (insert (page_rows before) i row) layout
          (subst (λ (h : Header). IsTrue (spec.has_row_type kind h)) (sym header) g.holds.type)
          (byte_stays_in 0 20 0 before now g.placed.front (omega arith) (omega arith) ∙ g.holds.version)
          (subst (λ (h : Header). IsTrue (spec.has_level h)) (sym header) g.holds.level)
          (room_from (header_of now) (record { few = omega (arith, count, g.behind, room.from); from = omega (arith, ends, room.from); within = omega (arith, count, ends, g.behind) }))
          (subst (λ (h : Header). IsTrue (spec.has_no_ghosts h)) (sym header) g.holds.ghosts)
          (omega (arith, free, sum, whole, count, enough)),
      layout_rows kind now (insert (page_rows before) i row) layout,
    )

pub placed_holds : (kind : Kind) (i : ℕ) (row before now : List ℕ) → length before ≡ 8192 → spec.HoldsRows kind before → IsTrue (fits_page kind before row)
    → i ≤ slot_count before → FitsBehind row before → length row + 2 ≤ (header_of before).free_count → IsPlaced i row before now
    → spec.HoldsRows kind now × (page_rows now ≡ insert (page_rows before) i row)
placed_holds kind i row before now long holds fits within behind enough placed =
    placed_all kind i row before now (record { long = long; holds = holds; fits = fits; within = within; behind = behind; placed = placed }) enough
