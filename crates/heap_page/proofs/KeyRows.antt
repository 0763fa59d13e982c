-- The rows of a heap page stand on it, and are gone over in the order of their slots.
use Rattle.std.proofs.Common.{◌≡◌, ℕ, ◌+◌, ◌-◌, ◌<◌, ◌≤◌, false, List, [], ◌∷◌, ◌++◌, Option, Some, None, take, drop, refl, ap, sym, ◌∙◌, append_assoc, arith}
use Rattle.std.specs.Prelude.{◌==◌, map, option_to_list}
use Rattle.std.specs.List.{filter_map, range_with_len}
use Rattle.std.proofs.lemmas.Bool.{eqb-true}
use Rattle.std.proofs.lemmas.List.Elements.{filter_map-append}
use Rattle.std.proofs.lemmas.List.FromFn.{map-range_with_len_more}
use Rattle.spec_file.specs.declared.data.Kind.TheVariants.{Heap}
use Rattle.spec_file.specs.Image.{number_at}
use Rattle.spec_file.specs.Header.{header_of, page_type}
use Rattle.spec_rows.specs.Rows.{row_of}
use Rattle.spec_rows.specs.Slots.{has_index_rows, slot_count, slot_at, row_size, row_end, page_row}
use Rattle.spec_rows.proofs.SlotLaws.{row_stands, rows_room, says_size}
use Rattle.spec_plan.specs.Rows.{payload_with, payloads_of}
use Rattle.law_rows.proofs.Passes.{test_from}
use Rattle.heap_page.specs.Pages.{IsHeapPage}

-- the row of a slot says its length on the page, and ends there
pub record Stands (bytes : List ℕ) (i : ℕ) : Type 0 where
  pub slot : i ≤ 4047
  pub says : slot_at bytes i + 3 ≤ 8192
  pub size : row_size bytes i ≡ number_at 2 (slot_at bytes i + 1) bytes
  pub ends : row_end bytes i ≤ 8192

pub row_stands_there : (bytes : List ℕ) (i : ℕ) → IsHeapPage bytes → i < slot_count bytes → Stands bytes i
row_stands_there bytes i heap within =
    let holds = (test_from heap.0 heap.1 bytes heap.2).rest.holds in
    let room = rows_room (header_of bytes) holds.room in
    let row = row_stands Heap bytes i (holds.slots i within) in
    let leaf : has_index_rows bytes ≡ false = ap (λ (t : ℕ). t == 2) (eqb-true (page_type bytes) 1 holds.type) in
    record {
      slot = omega (arith, room.few, within);
      says = omega (arith, says_size Heap bytes (slot_at bytes i) row.header leaf, room.within);
      size = rw leaf refl;
      ends = omega (arith, row.within, room.within);
    }

-- bytes that are read so are those of the row
pub part_is_row : (bytes : List ℕ) (i at size : ℕ) → Stands bytes i → at ≡ slot_at bytes i → size ≡ number_at 2 (at + 1) bytes → take (at + size - at) (drop at bytes) ≡ page_row bytes i
part_is_row bytes i at size stands start said =
    let long : size ≡ row_size bytes i = said ∙ ap (λ k. number_at 2 (k + 1) bytes) start ∙ sym stands.size in
    ap (λ k. take (at + k - at) (drop at bytes)) long ∙ ap (λ k. take (k + row_size bytes i - k) (drop k bytes)) start

-- the payloads of the first n rows
abbrev pub first_payloads : ℕ → List ℕ → ℕ → List (List ℕ)
first_payloads key bytes n = filter_map (λ row. payload_with key (row_of row)) (map (page_row bytes) (range_with_len 0 n))

payloads_more : (key : ℕ) (bytes : List ℕ) (n : ℕ) →
    first_payloads key bytes (n + 1) ≡ first_payloads key bytes n ++ option_to_list (payload_with key (row_of (page_row bytes n)))
payloads_more key bytes n =
    ap (filter_map (λ row. payload_with key (row_of row))) (map-range_with_len_more (page_row bytes) 0 n n (omega arith))
    ∙ filter_map-append (λ row. payload_with key (row_of row)) (map (page_row bytes) (range_with_len 0 n)) _
    ∙ ap (λ l. first_payloads key bytes n ++ l) (one (payload_with key (row_of (page_row bytes n))))
  where
    one : (found : Option (List ℕ)) → filter_map (λ (o : Option (List ℕ)). o) (found ∷ []) ≡ option_to_list found
    one None = refl
    one (Some payload) = refl

-- one row more was gone over
pub payloads_step : (key : ℕ) (bytes row : List ℕ) (n : ℕ) (old before now : List (List ℕ)) → now ≡ before ++ option_to_list (payload_with key (row_of row)) → row ≡ page_row bytes n →
    before ≡ old ++ first_payloads key bytes n → now ≡ old ++ first_payloads key bytes (n + 1)
payloads_step key bytes row n old before now added is so_far =
    let found : List (List ℕ) = option_to_list (payload_with key (row_of (page_row bytes n))) in
    added ∙ ap (λ r. before ++ option_to_list (payload_with key (row_of r))) is
    ∙ ap (λ l. l ++ found) so_far ∙ append_assoc old (first_payloads key bytes n) found
    ∙ ap (λ l. old ++ l) (sym (payloads_more key bytes n))

pub payloads_end : (key : ℕ) (bytes : List ℕ) (n : ℕ) (old now : List (List ℕ)) → n ≡ slot_count bytes → now ≡ old ++ first_payloads key bytes n → now ≡ old ++ payloads_of key bytes
unfolding payloads_of
payloads_end key bytes n old now all so_far = so_far ∙ ap (λ k. old ++ first_payloads key bytes k) all
