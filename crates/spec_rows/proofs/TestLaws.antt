-- The page test has one answer: a page either passes, or has one first fault.
use Rattle.std.specs.Prelude.{◌≡◌, ℕ, ◌<◌, ◌≤◌, ◌==◌, ◌||◌, Bool, true, false, not, IsTrue, List, if◌then◌else◌, Option, Some, None, refl}
use Rattle.std.proofs.Common.{arith, ap, sym, ◌∙◌, inl, inr}
use Rattle.std.proofs.lemmas.Bool.{cases_order, or_left, eq-eqb, eqb-true, both_ways}
use Rattle.spec_file.specs.declared.data.Kind.{Kind}
use Rattle.spec_file.specs.Kinds.{is_clustered}
use Rattle.spec_file.specs.declared.header.Header.{Header}
use Rattle.spec_file.specs.Header.{header_of, header_version}
use Rattle.spec_rows.specs.declared.fault.SlotFault.{SlotFault}
use Rattle.spec_rows.specs.Slots.{slot_count, slot_at}
use Rattle.spec_rows.specs.PageTest as spec
use Rattle.spec_rows.specs.Order.{order_key}
use Rattle.spec_rows.proofs.OrderLaws.{order_from_key}
use Rattle.spec_rows.proofs.SlotLaws.{rows_room}

-- none of three tests fails exactly where all pass
owner_none : (a b c : Bool) (x y z : SlotFault)
    → (if not a then Some x else (if not b then Some y else (if not c then Some z else None))) ≡ None
    → (a ≡ true) × (b ≡ true) × (c ≡ true)
owner_none true true true x y z same = (refl, refl, refl)
owner_none false b c x y z same = absurd (cc)
owner_none true false c x y z same = absurd (cc)
owner_none true true false x y z same = absurd (cc)

owner_passes : (a b c : Bool) (x y z : SlotFault) → a ≡ true → b ≡ true → c ≡ true
    → (if not a then Some x else (if not b then Some y else (if not c then Some z else None))) ≡ None
owner_passes a b c x y z first second third = rw (first, second, third) refl

form_none : (a b c d e f : Bool) (u v w x y z : SlotFault)
    → (if not a then Some u else (if not b then Some v else (if not c then Some w else (if not d then Some x else (if not e then Some y else (if not f then Some z else None)))))) ≡ None
    → (a ≡ true) × (b ≡ true) × (c ≡ true) × (d ≡ true) × (e ≡ true) × (f ≡ true)
form_none true true true true true true u v w x y z same = (refl, refl, refl, refl, refl, refl)
form_none false b c d e f u v w x y z same = absurd (cc)
form_none true false c d e f u v w x y z same = absurd (cc)
form_none true true false d e f u v w x y z same = absurd (cc)
form_none true true true false e f u v w x y z same = absurd (cc)
form_none true true true true false f u v w x y z same = absurd (cc)
form_none true true true true true false u v w x y z same = absurd (cc)

form_passes : (a b c d e f : Bool) (u v w x y z : SlotFault)
    → a ≡ true → b ≡ true → c ≡ true → d ≡ true → e ≡ true → f ≡ true
    → (if not a then Some u else (if not b then Some v else (if not c then Some w else (if not d then Some x else (if not e then Some y else (if not f then Some z else None)))))) ≡ None
form_passes a b c d e f u v w x y z one two three four five six = rw (one, two, three, four, five, six) refl

pub header_passes : (p o : ℕ) (kind : Kind) (bytes : List ℕ) → spec.PassesTest p o kind bytes → spec.HeaderPasses p o kind bytes
header_passes p o kind bytes test =
    let h = header_of bytes in
    record {
      owner = owner_passes (spec.is_own_page p h) (spec.has_row_type kind h) (spec.belongs_to o h) _ _ _ test.rest.own test.rest.holds.type test.rest.object;
      form = form_passes (header_version bytes == 1) (spec.has_level h) (spec.has_rows h) (spec.has_links kind h) (spec.has_room h) (spec.has_no_ghosts h) _ _ _ _ _ _
          (eq-eqb (header_version bytes) 1 test.rest.holds.version) test.rest.holds.level test.rows test.rest.links test.rest.holds.room test.rest.holds.ghosts;
    }

either_type : (tree one two : Bool) → (if tree then one || two else one) ≡ true → (one || two) ≡ true
either_type true one two test = test
either_type false one two test = or_left one two test

-- rows stand on data pages and index pages
pub row_type_of : (kind : Kind) (h : Header) → IsTrue (spec.has_row_type kind h) → IsTrue ((h.page_type == 1) || (h.page_type == 2))
row_type_of kind h test = either_type (is_clustered kind) (h.page_type == 1) (h.page_type == 2) test

-- a page of which no test fails passes
pub passes_from : (p o : ℕ) (kind : Kind) (bytes : List ℕ) → spec.HeaderPasses p o kind bytes → spec.SlotsPass kind bytes
    → spec.OrderPasses bytes → IsTrue (spec.has_free_count bytes) → spec.PassesTest p o kind bytes
passes_from p o kind bytes header slots order free =
    let h = header_of bytes in
    let owner = owner_none (spec.is_own_page p h) (spec.has_row_type kind h) (spec.belongs_to o h) _ _ _ header.owner in
    let form = form_none (header_version bytes == 1) (spec.has_level h) (spec.has_rows h) (spec.has_links kind h) (spec.has_room h) (spec.has_no_ghosts h) _ _ _ _ _ _ header.form in
    record {
      rest = record {
        own = owner.0;
        object = owner.2;
        links = form.3;
        holds = record {
          type = owner.1;
          version = eqb-true (header_version bytes) 1 form.0;
          level = form.1;
          room = form.4;
          ghosts = form.5;
          slots = slots;
          order = order;
          free = free;
        };
      };
      rows = form.2;
    }

some_none : (f : Option SlotFault) (x : SlotFault) → f ≡ Some x → f ≡ None → ⊥
some_none f x some none = cc

same_some : (f : Option SlotFault) (x y : SlotFault) → f ≡ Some x → f ≡ Some y → x ≡ y
same_some f x y one two = cc

-- a page that passes has no fault
pub no_fault : (p o : ℕ) (kind : Kind) (bytes : List ℕ) (x : SlotFault) → spec.PassesTest p o kind bytes → spec.IsFirstFault p o kind bytes x → ⊥
no_fault p o kind bytes x test fault =
    let header = header_passes p o kind bytes test in
    let holds = test.rest.holds in
    elim fault [
      | spec.Owner here ↦ some_none (spec.owner_fault p o kind (header_of bytes)) x here header.owner
      | spec.Form owner here ↦ some_none (spec.form_fault kind (header_version bytes) (header_of bytes)) x here header.form
      | spec.Slot passes first ↦ some_none (spec.slot_fault kind bytes first.slot) x first.here (holds.slots first.slot first.within)
      | spec.Order passes slots first ↦ omega (arith, first.overlaps, holds.order first.one_before first.slot first.next)
      | spec.Free passes slots order wrong is ↦ both_ways (spec.has_free_count bytes) wrong holds.free
    ]

-- the first slot that has a fault is one
one_slot : (kind : Kind) (bytes : List ℕ) (x y : SlotFault) → spec.IsFirstSlotFault kind bytes x → spec.IsFirstSlotFault kind bytes y → x ≡ y
one_slot kind bytes x y one two = elim (cases_order one.slot two.slot) [
  | inl same ↦ same_some (spec.slot_fault kind bytes one.slot) x y one.here (ap (spec.slot_fault kind bytes) same ∙ two.here)
  | inr (inl below) ↦ absurd (some_none (spec.slot_fault kind bytes one.slot) x one.here (two.earlier one.slot below))
  | inr (inr above) ↦ absurd (some_none (spec.slot_fault kind bytes two.slot) y two.here (one.earlier two.slot above))
]

-- so is the first row that overlaps
one_overlap : (bytes : List ℕ) (x y : SlotFault) → slot_count bytes ≤ 4048 → spec.IsFirstOverlap bytes x → spec.IsFirstOverlap bytes y → x ≡ y
one_overlap bytes x y few one two =
    let first : one.slot < 4096 = omega (arith, one.next.second) in
    let second : two.slot < 4096 = omega (arith, two.next.second) in
    elim (cases_order (order_key bytes one.slot) (order_key bytes two.slot)) [
      | inl same ↦
          let slot : one.slot ≡ two.slot = omega (arith, same) in
          one.is ∙ ap (λ (s : ℕ). spec.fault 8942 s (slot_at bytes s)) slot ∙ sym two.is
      | inr (inl below) ↦
          absurd (omega (arith, one.overlaps, two.earlier one.one_before one.slot one.next (order_from_key bytes one.slot two.slot first second below)))
      | inr (inr above) ↦
          absurd (omega (arith, two.overlaps, one.earlier two.one_before two.slot two.next (order_from_key bytes two.slot one.slot second first above)))
    ]

-- a header that passes leaves room between it and the slots
pub room_passes : (p o : ℕ) (kind : Kind) (bytes : List ℕ) → spec.HeaderPasses p o kind bytes → IsTrue (spec.has_room (header_of bytes))
room_passes p o kind bytes header =
    let h = header_of bytes in
    (form_none (header_version bytes == 1) (spec.has_level h) (spec.has_rows h) (spec.has_links kind h) (spec.has_room h) (spec.has_no_ghosts h) _ _ _ _ _ _ header.form).4

few_slots : (p o : ℕ) (kind : Kind) (bytes : List ℕ) → spec.HeaderPasses p o kind bytes → slot_count bytes ≤ 4048
few_slots p o kind bytes header = (rows_room (header_of bytes) (room_passes p o kind bytes header)).few

-- whether a slot has a fault where none may
slots_clash : (kind : Kind) (bytes : List ℕ) (x : SlotFault) → spec.SlotsPass kind bytes → spec.IsFirstSlotFault kind bytes x → ⊥
slots_clash kind bytes x pass first = some_none (spec.slot_fault kind bytes first.slot) x first.here (pass first.slot first.within)

order_clash : (bytes : List ℕ) (x : SlotFault) → spec.OrderPasses bytes → spec.IsFirstOverlap bytes x → ⊥
order_clash bytes x pass first = omega (arith, first.overlaps, pass first.one_before first.slot first.next)

-- a page has one first fault
pub one_fault : (p o : ℕ) (kind : Kind) (bytes : List ℕ) (x y : SlotFault) → spec.IsFirstFault p o kind bytes x → spec.IsFirstFault p o kind bytes y → x ≡ y
one_fault p o kind bytes x y (spec.Owner a) (spec.Owner b) = same_some _ x y a b
one_fault p o kind bytes x y (spec.Owner a) (spec.Form b c) = absurd (some_none _ x a b)
one_fault p o kind bytes x y (spec.Owner a) (spec.Slot h s) = absurd (some_none _ x a h.owner)
one_fault p o kind bytes x y (spec.Owner a) (spec.Order h s r) = absurd (some_none _ x a h.owner)
one_fault p o kind bytes x y (spec.Owner a) (spec.Free h s r w e) = absurd (some_none _ x a h.owner)
one_fault p o kind bytes x y (spec.Form n a) (spec.Owner b) = absurd (some_none _ y b n)
one_fault p o kind bytes x y (spec.Form n a) (spec.Form m b) = same_some _ x y a b
one_fault p o kind bytes x y (spec.Form n a) (spec.Slot h s) = absurd (some_none _ x a h.form)
one_fault p o kind bytes x y (spec.Form n a) (spec.Order h s r) = absurd (some_none _ x a h.form)
one_fault p o kind bytes x y (spec.Form n a) (spec.Free h s r w e) = absurd (some_none _ x a h.form)
one_fault p o kind bytes x y (spec.Slot g t) (spec.Owner b) = absurd (some_none _ y b g.owner)
one_fault p o kind bytes x y (spec.Slot g t) (spec.Form m b) = absurd (some_none _ y b g.form)
one_fault p o kind bytes x y (spec.Slot g t) (spec.Slot h s) = one_slot kind bytes x y t s
one_fault p o kind bytes x y (spec.Slot g t) (spec.Order h s r) = absurd (slots_clash kind bytes x s t)
one_fault p o kind bytes x y (spec.Slot g t) (spec.Free h s r w e) = absurd (slots_clash kind bytes x s t)
one_fault p o kind bytes x y (spec.Order g t u) (spec.Owner b) = absurd (some_none _ y b g.owner)
one_fault p o kind bytes x y (spec.Order g t u) (spec.Form m b) = absurd (some_none _ y b g.form)
one_fault p o kind bytes x y (spec.Order g t u) (spec.Slot h s) = absurd (slots_clash kind bytes y t s)
one_fault p o kind bytes x y (spec.Order g t u) (spec.Order h s r) = one_overlap bytes x y (few_slots p o kind bytes g) u r
one_fault p o kind bytes x y (spec.Order g t u) (spec.Free h s r w e) = absurd (order_clash bytes x r u)
one_fault p o kind bytes x y (spec.Free g t u v d) (spec.Owner b) = absurd (some_none _ y b g.owner)
one_fault p o kind bytes x y (spec.Free g t u v d) (spec.Form m b) = absurd (some_none _ y b g.form)
one_fault p o kind bytes x y (spec.Free g t u v d) (spec.Slot h s) = absurd (slots_clash kind bytes y t s)
one_fault p o kind bytes x y (spec.Free g t u v d) (spec.Order h s r) = absurd (order_clash bytes y u r)
one_fault p o kind bytes x y (spec.Free g t u v d) (spec.Free h s r w e) = d ∙ sym e
