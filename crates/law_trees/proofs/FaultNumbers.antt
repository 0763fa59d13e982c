-- No test of a page gives the number of keys out of order.
use Rattle.std.proofs.Common.{◌≡◌, ◌≢◌, ◌==◌, ℕ, Bool, true, false, List, Option, Some, None, ap, subst, arith}
use Rattle.std.specs.Prelude.{if◌then◌else◌, not, nat_lt}
use Rattle.spec_file.specs.declared.data.Kind.{Kind}
use Rattle.spec_file.specs.declared.header.Header.{Header}
use Rattle.spec_file.specs.Header.{header_of, header_version}
use Rattle.spec_rows.specs.declared.fault.SlotFault.{SlotFault}
use Rattle.spec_rows.specs.Slots.{slot_at, row_end, rows_end, begins_row}
use Rattle.spec_rows.specs.PageTest.{fault, is_own_page, has_row_type, belongs_to, has_level, has_rows, has_links, has_room, has_no_ghosts, owner_fault, form_fault, slot_fault, IsFirstFault}

-- a fault, if there is one, has another number
abbrev IsOther : Option SlotFault → Type 0
IsOther None = Unit {0}
IsOther (Some found) = found.number ≢ 2511

test : (b : Bool) (found : SlotFault) (rest : Option SlotFault) → found.number ≢ 2511 → IsOther rest → IsOther (if b then Some found else rest)
test true found rest here later = here
test false found rest here later = later

other : (found : Option SlotFault) (x : SlotFault) → found ≡ Some x → IsOther found → x.number ≢ 2511
other found x e is = subst IsOther e is

owner_other : (p o : ℕ) (kind : Kind) (h : Header) → IsOther (owner_fault p o kind h)
owner_other p o kind h =
    test (not (is_own_page p h)) (fault 8909 0 h.page_id.0) _ (λ e. omega (arith, e))
    (test (not (has_row_type kind h)) (fault 8938 0 h.page_type) _ (λ e. omega (arith, e))
    (test (not (belongs_to o h)) (record { number = 2534; other = h.object.0; slot = 0; value = 0 }) None (λ e. omega (arith, e)) tt))

form_other : (kind : Kind) (version : ℕ) (h : Header) → IsOther (form_fault kind version h)
form_other kind version h =
    test (not (version == 1)) (fault 8939 0 1) _ (λ e. omega (arith, e))
    (test (not (has_level h)) (fault 8939 0 2) _ (λ e. omega (arith, e))
    (test (not (has_rows h)) (fault 8939 0 3) _ (λ e. omega (arith, e))
    (test (not (has_links kind h)) (fault 8939 0 4) _ (λ e. omega (arith, e))
    (test (not (has_room h)) (fault 8939 0 5) _ (λ e. omega (arith, e))
    (test (not (has_no_ghosts h)) (fault 8939 0 6) None (λ e. omega (arith, e)) tt)))))

slot_other : (kind : Kind) (bytes : List ℕ) (i : ℕ) → IsOther (slot_fault kind bytes i)
slot_other kind bytes i =
    test (not (begins_row kind bytes i)) (fault 8941 i (slot_at bytes i)) _ (λ e. omega (arith, e))
    (test (nat_lt (rows_end bytes) (row_end bytes i)) (fault 8943 i (row_end bytes i)) None (λ e. omega (arith, e)) tt)

pub fault_other : (p o : ℕ) (kind : Kind) (bytes : List ℕ) (x : SlotFault) → IsFirstFault p o kind bytes x → x.number ≢ 2511
fault_other p o kind bytes x (IsFirstFault.Owner e) = other (owner_fault p o kind (header_of bytes)) x e (owner_other p o kind (header_of bytes))
fault_other p o kind bytes x (IsFirstFault.Form h e) =
    other (form_fault kind (header_version bytes) (header_of bytes)) x e (form_other kind (header_version bytes) (header_of bytes))
fault_other p o kind bytes x (IsFirstFault.Slot h first) = other (slot_fault kind bytes first.slot) x first.here (slot_other kind bytes first.slot)
fault_other p o kind bytes x (IsFirstFault.Order h s first) = λ e. let is = ap (λ (f : SlotFault). f.number) first.is in omega (arith, e, is)
fault_other p o kind bytes x (IsFirstFault.Free h s q n is) = λ e. let at = ap (λ (f : SlotFault). f.number) is in omega (arith, e, at)
