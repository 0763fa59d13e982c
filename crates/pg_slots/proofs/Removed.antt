-- A row that is removed.
use Rattle.std.specs.Prelude.{◌≡◌, ◌≢◌, ◌⊎◌, ℕ, ◌+◌, ◌-◌, ◌*◌, ◌<◌, ◌≤◌, ◌==◌, false, IsTrue, List, [], ◌∷◌, length, refl}
use Rattle.std.specs.List.{remove, sum_by}
use Rattle.std.proofs.Common.{arith, ap, sym, subst, ◌∙◌, inl, inr, get_or}
use Rattle.std.proofs.lemmas.Bool.{cases_eq, cases_lt, eq-eqb, ne_eqb}
use Rattle.std.proofs.lemmas.List.{get_or_default}
use Rattle.std.proofs.lemmas.List.Sums.{sum_by-cons}
use Rattle.std.proofs.lemmas.List.Edits.{length-remove, get_or-remove_below, get_or-remove_above}
use Rattle.std.proofs.lemmas.List.Sorted.{IsPermutation-remove, sum_by-IsPermutation}
use Rattle.spec_file.specs.Header.{header_of}
use Rattle.spec_file.specs.declared.header.Header.{Header}
use Rattle.spec_file.specs.declared.data.Kind.{Kind}
use Rattle.spec_rows.specs.Slots.{slot_count, rows_end, slot_at, row_size, page_row, page_rows}
use Rattle.spec_rows.specs.PageTest as spec
use Rattle.spec_rows.specs.Changes.{IsRemoved}
use Rattle.spec_rows.proofs.SlotLaws.{rows_room}
use Rattle.spec_rows.proofs.PartLaws.{byte_stays_in, part_stays_in}
use Rattle.pg_slots.proofs.Arranged.{HasRow, Layout, layout_of, layout_rows, holds_of}
use Rattle.pg_slots.proofs.Moved.{same_rows, moved, came, apart_still, room_from, row_count, row_of_slot, parts}

record Removing (kind : Kind) (i : ℕ) (before now : List ℕ) : Type 0 where
  long : length before ≡ 8192
  holds : spec.HoldsRows kind before
  within : i < slot_count before
  removed : IsRemoved i before now

removed_count : (kind : Kind) (i : ℕ) (before now : List ℕ) → Removing kind i before now → slot_count now + 1 ≡ slot_count before
removed_count kind i before now g =
    let count : slot_count now ≡ slot_count before - 1 = ap (λ (h : Header). h.slots) g.removed.header in
    omega (arith, count, g.within)

-- where a row is left, the rows end where they ended
removed_end : (kind : Kind) (i : ℕ) (before now : List ℕ) → Removing kind i before now → 0 < slot_count now → rows_end now ≡ rows_end before
removed_end kind i before now g left =
    let several : (slot_count before == 1) ≡ false = ne_eqb (slot_count before) 1 (λ one. omega (arith, one, removed_count kind i before now g)) in
    ap (λ (h : Header). h.free_from) g.removed.header ∙ rw several refl

removed_old : (kind : Kind) (i : ℕ) (before now : List ℕ) → Removing kind i before now → (j from : ℕ) → j < slot_count now → from < slot_count before
    → slot_at now j ≡ slot_at before from → HasRow kind now j (page_row before from)
removed_old kind i before now g j from left within start =
    let room = rows_room (header_of before) g.holds.room in
    let ends = removed_end kind i before now g (omega (arith, left)) in
    moved kind before now j from g.long g.holds within (same_rows before now _ _ _ g.removed.header) start (omega (arith, ends))
    (part_stays_in 26 (8192 - 2 * slot_count before) 26 (rows_end before) before now g.removed.others (omega arith) (omega (arith, room.from)) (omega (arith, room.within)))

record Closed (i : ℕ) (before now : List ℕ) (j : ℕ) : Type 0 where
  from : ℕ
  within : from < slot_count before
  start : slot_at now j ≡ slot_at before from
  place : ((j < i) × (from ≡ j)) ⊎ ((i ≤ j) × (from ≡ j + 1))
  row_is : get_or (remove (page_rows before) i) j [] ≡ page_row before from

closed : (kind : Kind) (i : ℕ) (before now : List ℕ) → Removing kind i before now → (j : ℕ) → j < slot_count now → Closed i before now j
closed kind i before now g j within =
    let count = removed_count kind i before now g in
    let rows = row_count before in
    elim (cases_lt j i) [
      | inl below ↦ record {
        from = j;
        within = omega (arith, below, g.within);
        start = g.removed.earlier j below;
        place = inl (below, refl);
        row_is = get_or-remove_below (page_rows before) i [] j below (omega (arith, rows, g.within)) ∙ row_of_slot before j (omega (arith, below, g.within));
      }
      | inr above ↦ record {
        from = j + 1;
        within = omega (arith, count);
        start = g.removed.later j above (omega (arith, count));
        place = inr (above, refl);
        row_is = get_or-remove_above (page_rows before) i [] j above (omega (arith, rows, g.within)) ∙ row_of_slot before (j + 1) (omega (arith, count));
      }
    ]

closed_differ : (i j k f g : ℕ) → ((j < i) × (f ≡ j)) ⊎ ((i ≤ j) × (f ≡ j + 1)) → ((k < i) × (g ≡ k)) ⊎ ((i ≤ k) × (g ≡ k + 1)) → j ≢ k → f ≢ g
closed_differ i j k f g one two other same = grind arith

removed_layout : (kind : Kind) (i : ℕ) (before now : List ℕ) → Removing kind i before now → Layout kind now (remove (page_rows before) i)
unfolding came closed
removed_layout kind i before now g =
    let count = removed_count kind i before now g in
    let rows = row_count before in
    let size = length-remove (page_rows before) i (omega (arith, rows, g.within)) in
    let old = λ (j : ℕ) (j_in : j < slot_count now).
    let s = closed kind i before now g j j_in in
    came kind before now j s.from g.long g.holds s.within s.start (removed_old kind i before now g j s.from j_in s.within s.start) in
    record {
      count = omega (arith, count, size, rows);
      each = λ j within.
          let j_in : j < slot_count now = omega (arith, within, count, size, rows) in
          let s = closed kind i before now g j j_in in
          subst (HasRow kind now j) (sym s.row_is) (removed_old kind i before now g j s.from j_in s.within s.start);
      apart = λ j k j_in k_in other.
          let s = closed kind i before now g j j_in in
          let t = closed kind i before now g k k_in in
          apart_still before now j k (layout_of kind before g.long g.holds).apart (old j j_in) (old k k_in) (closed_differ i j k s.from t.from s.place t.place other);
    }

removed_all : (kind : Kind) (i : ℕ) (before now : List ℕ) → Removing kind i before now → spec.HoldsRows kind now × (page_rows now ≡ remove (page_rows before) i)
removed_all kind i before now g =
    let header = g.removed.header in
    let count = removed_count kind i before now g in
    let room = rows_room (header_of before) g.holds.room in
    let layout = removed_layout kind i before now g in
    let whole = parts kind before g.long g.holds in
    let gone = layout_of kind before g.long g.holds in
    let size = (gone.each i (omega (arith, row_count before, g.within))).size in
    let sum : sum_by length (get_or (page_rows before) i [] ∷ remove (page_rows before) i) ≡ sum_by length (page_rows before) =
    sum_by-IsPermutation length (page_rows before) (get_or (page_rows before) i [] ∷ remove (page_rows before) i)
    (IsPermutation-remove (page_rows before) i (get_or (page_rows before) i []) (omega (arith, row_count before, g.within)) (get_or_default (page_rows before) i [] (get_or (page_rows before) i []) (omega (arith, row_count before, g.within)))) in
    let split : length (get_or (page_rows before) i []) + sum_by length (remove (page_rows before) i) ≡ sum_by length (page_rows before) =
    sym (sum_by-cons length (get_or (page_rows before) i []) (remove (page_rows before) i)) ∙ sum in
    let free : (header_of now).free_count ≡ (header_of before).free_count + row_size before i + 2 = ap (λ (h : Header). h.free_count) header in
    let ends : (96 ≤ rows_end now) × (rows_end now + 2 * slot_count now ≤ 8192) = elim (cases_eq (slot_count before) 1) [
      | inl one ↦
          let start : rows_end now ≡ 96 = ap (λ (h : Header). h.free_from) header ∙ rw (eq-eqb (slot_count before) 1 one) refl in
          (omega (arith, start), omega (arith, start, count, one))
      | inr several ↦
          let start = removed_end kind i before now g (omega (arith, several, count, g.within)) in
          (omega (arith, start, room.from), omega (arith, start, room.within, count))
    ] in (
      holds_of kind now (remove (page_rows before) i) layout
          (subst (λ (h : Header). IsTrue (spec.has_row_type kind h)) (sym header) g.holds.type)
          (byte_stays_in 0 20 0 before now g.removed.front (omega arith) (omega arith) ∙ g.holds.version)
          (subst (λ (h : Header). IsTrue (spec.has_level h)) (sym header) g.holds.level)
          (room_from (header_of now) (record { few = omega (arith, count, room.few); from = ends.0; within = ends.1 }))
          (subst (λ (h : Header). IsTrue (spec.has_no_ghosts h)) (sym header) g.holds.ghosts)
          (omega (arith, free, split, size, whole, count)),
      layout_rows kind now (remove (page_rows before) i) layout,
    )

pub removed_holds : (kind : Kind) (i : ℕ) (before now : List ℕ) → length before ≡ 8192 → spec.HoldsRows kind before → i < slot_count before → IsRemoved i before now
    → spec.HoldsRows kind now × (page_rows now ≡ remove (page_rows before) i)
removed_holds kind i before now long holds within removed =
    removed_all kind i before now (record { long = long; holds = holds; within = within; removed = removed })
