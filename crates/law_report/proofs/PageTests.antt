-- Whether a page passes its test can be decided, and its first fault can be listed.
use Rattle.std.proofs.Common.{ℕ, ◌≤◌, List, inl, inr}
use Rattle.spec_file.specs.declared.data.Kind.{Kind}
use Rattle.spec_file.specs.Header.{header_of, header_version}
use Rattle.spec_rows.specs.Slots.{slot_count, slot_at, row_end}
use Rattle.spec_rows.specs.PageTest as spec
use Rattle.spec_rows.proofs.TestLaws.{header_passes, passes_from}
use Rattle.law_report.proofs.Decisions.{dec_like, dec_not, dec_and, dec_and3, dec_or, dec_if, dec_true, dec_false, dec_none, dec_eq, dec_lt, dec_le}
use Rattle.law_report.proofs.Listings.{Listing, like, one, either, when, among, numbers, there_may_be, dec_every}

dec_before : (bytes : List ℕ) (i j : ℕ) → Dec (spec.ComesBefore bytes i j)
dec_before bytes i j = dec_or (dec_lt (slot_at bytes i) (slot_at bytes j)) (dec_and (dec_eq (slot_at bytes i) (slot_at bytes j)) (dec_lt i j))

dec_one_before : (bytes : List ℕ) (i j : ℕ) → Dec (spec.IsOneBefore bytes i j)
dec_one_before bytes i j = dec_like
    (λ h. record { first = h.0.0; second = h.0.1; before = h.0.2; none_between = h.1 })
    (λ h. ((h.first, h.second, h.before), h.none_between))
    (dec_and (dec_and3 (dec_lt i (slot_count bytes)) (dec_lt j (slot_count bytes)) (dec_before bytes i j))
    (dec_every (numbers (slot_count bytes)) (λ k low. dec_if (dec_before bytes i k) (λ after. dec_not (dec_before bytes k j)))))

-- what is asked of each two slots of which one stands before the other
dec_rows_in_order : (bytes : List ℕ) (Q : ℕ → ℕ → Type 0) → ((i j : ℕ) → Dec (Q i j)) → Dec ((i j : ℕ) → spec.IsOneBefore bytes i j → Q i j)
dec_rows_in_order bytes Q each = dec_like (λ h i j next. h i next.first j next.second next) (λ h i low j low' next. h i j next)
    (dec_every (numbers (slot_count bytes)) (λ i low. dec_every (numbers (slot_count bytes)) (λ j low'. dec_if (dec_one_before bytes i j) (λ next. each i j))))

dec_order : (bytes : List ℕ) → Dec (spec.OrderPasses bytes)
dec_order bytes = dec_rows_in_order bytes (λ i j. row_end bytes i ≤ slot_at bytes j) (λ i j. dec_le (row_end bytes i) (slot_at bytes j))

dec_slots : (kind : Kind) (bytes : List ℕ) → Dec (spec.SlotsPass kind bytes)
dec_slots kind bytes = dec_every (numbers (slot_count bytes)) (λ i low. dec_none (spec.slot_fault kind bytes i))

dec_header : (p o : ℕ) (kind : Kind) (bytes : List ℕ) → Dec (spec.HeaderPasses p o kind bytes)
dec_header p o kind bytes = dec_like (λ h. record { owner = h.0; form = h.1 }) (λ h. (h.owner, h.form))
    (dec_and (dec_none (spec.owner_fault p o kind (header_of bytes))) (dec_none (spec.form_fault kind (header_version bytes) (header_of bytes))))

pub dec_passes : (p o : ℕ) (kind : Kind) (bytes : List ℕ) → Dec (spec.PassesTest p o kind bytes)
dec_passes p o kind bytes = dec_like
    (λ h. passes_from p o kind bytes h.0.0 h.0.1 h.0.2 h.1)
    (λ h. ((header_passes p o kind bytes h, h.rest.holds.slots, h.rest.holds.order), h.rest.holds.free))
    (dec_and (dec_and3 (dec_header p o kind bytes) (dec_slots kind bytes) (dec_order bytes)) (dec_true (spec.has_free_count bytes)))

slot_faults : (kind : Kind) (bytes : List ℕ) → Listing (spec.IsFirstSlotFault kind bytes)
slot_faults kind bytes = like
    (among (numbers (slot_count bytes)) (λ i low. when (dec_every (numbers i) (λ j less. dec_none (spec.slot_fault kind bytes j))) (there_may_be (spec.slot_fault kind bytes i))))
    (λ x h. record { slot = h.0; within = h.1; here = h.2.1; earlier = h.2.0 }) (λ x h. (h.slot, h.within, (h.earlier, h.here)))

overlaps : (bytes : List ℕ) → Listing (spec.IsFirstOverlap bytes)
overlaps bytes = like
    (among (numbers (slot_count bytes)) (λ i low. among (numbers (slot_count bytes)) (λ j low'. when
    (dec_and3 (dec_one_before bytes i j) (dec_lt (slot_at bytes j) (row_end bytes i))
    (dec_rows_in_order bytes (λ k l. spec.ComesBefore bytes l j → row_end bytes k ≤ slot_at bytes l)
    (λ k l. dec_if (dec_before bytes l j) (λ before. dec_le (row_end bytes k) (slot_at bytes l)))))
    (one (spec.fault 8942 j (slot_at bytes j))))))
    (λ x h. record { one_before = h.0; slot = h.2.0; next = h.2.2.0.0; overlaps = h.2.2.0.1; earlier = h.2.2.0.2; is = h.2.2.1 })
    (λ x h. (h.one_before, h.next.first, (h.slot, h.next.second, ((h.next, h.overlaps, h.earlier), h.is))))

pub first_faults : (p o : ℕ) (kind : Kind) (bytes : List ℕ) → Listing (spec.IsFirstFault p o kind bytes)
first_faults p o kind bytes = like
    (either (there_may_be (spec.owner_fault p o kind (header_of bytes)))
    (either (when (dec_none (spec.owner_fault p o kind (header_of bytes))) (there_may_be (spec.form_fault kind (header_version bytes) (header_of bytes))))
    (either (when (dec_header p o kind bytes) (slot_faults kind bytes))
    (either (when (dec_and (dec_header p o kind bytes) (dec_slots kind bytes)) (overlaps bytes))
    (when (dec_and (dec_and3 (dec_header p o kind bytes) (dec_slots kind bytes) (dec_order bytes)) (dec_false (spec.has_free_count bytes)))
    (one (spec.fault 8939 0 7)))))))
    (λ x h. elim h [
      | inl owner ↦ spec.Owner owner
      | inr (inl form) ↦ spec.Form form.0 form.1
      | inr (inr (inl slot)) ↦ spec.Slot slot.0 slot.1
      | inr (inr (inr (inl order))) ↦ spec.Order order.0.0 order.0.1 order.1
      | inr (inr (inr (inr free))) ↦ spec.Free free.0.0.0 free.0.0.1 free.0.0.2 free.0.1 free.1
    ])
    (λ x h. elim h [
      | spec.Owner owner ↦ inl owner
      | spec.Form none form ↦ inr (inl (none, form))
      | spec.Slot header slot ↦ inr (inr (inl (header, slot)))
      | spec.Order header slots order ↦ inr (inr (inr (inl ((header, slots), order))))
      | spec.Free header slots order free is ↦ inr (inr (inr (inr (((header, slots, order), free), is))))
    ])
