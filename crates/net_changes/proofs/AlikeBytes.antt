-- The bits and the PFS bytes that differ are the same as seen and as shown.
use Rattle.std.proofs.Common.{◌≡◌, ℕ, zero, suc, ◌+◌, ◌-◌, ◌/◌, ◌%◌, ◌<◌, ◌≤◌, eqb, not, ◌&&◌, ◌||◌, List, [], ◌∷◌, length, sym, ap, ◌∙◌, refl, arith}
use Rattle.std.specs.Prelude.{if◌then◌else◌, slice_index, slice_range}
use Rattle.spec_file.specs.declared.data.Resource.{Resource}
use Rattle.spec_file.specs.declared.data.Resource.TheVariants as resource
use Rattle.spec_file.specs.Image.{Image, page}
use Rattle.spec_file.specs.Places.{Place, gam_place, sgam_place, pfs_page, pfs_place}
use Rattle.spec_chain.specs.Uses.{pfs_byte}
use Rattle.spec_log.specs.declared.item.Cell.TheVariants.{Bytes, Bit}
use Rattle.spec_log.specs.Cells.{map_bit}
use Rattle.spec_plan.specs.declared.plan.Planned.{Planned}
use Rattle.law_cover.proofs.Places.{extents_guard_bits, pages_guard_bytes}
use Rattle.law_cover.proofs.Pages.{pfs_inside}
use Rattle.law_net.proofs.PageChanges.{slice_same}
use Rattle.spec_words.specs.NetChanges.{FileShape, is_turned, bit_change, bit_changes, is_byte_changed, run_length, begins_run, run_change, run_changes}
use Rattle.law_net.proofs.Fits.{bit_inside, low_bit, low_byte}
use Rattle.law_net.proofs.Images.{whole_page}
use Rattle.law_net.proofs.Runs.{beside, low_place, run_few, run_changed}
use Rattle.net_changes.proofs.Alike.{Alike, AreBoth, byte_alike, bit_alike, DifferAlike, differ_alike}
use Rattle.net_changes.proofs.Ranges.{SameAt, map_range}

-- ---- bits

abbrev pub BitAlike : Image → Image → Image → Image → Place → Type 0
BitAlike start now first shown b = Alike (map_bit (page start b.page) b.at) (map_bit (page now b.page) b.at) (map_bit (page first b.page) b.at) (map_bit (page shown b.page) b.at)

pub gam_alike : (shape : FileShape) (taken : List Resource) (start now first shown : Image) → AreBoth shape taken start now first shown → (e : ℕ) → e < shape.pages / 8 →
    BitAlike start now first shown (gam_place shape.geometry e)
gam_alike shape taken start now first shown both e lt =
    let file = (both.seen).file in
    let guard = (extents_guard_bits shape.geometry shape.pages e file.low file.high lt).0 in
    bit_alike shape taken start now first shown both (gam_place shape.geometry e) (resource.Extent (record { 0 = e }))
    (bit_inside shape (gam_place shape.geometry e) (resource.Extent (record { 0 = e })) guard) (low_bit shape.geometry e) guard

pub sgam_alike : (shape : FileShape) (taken : List Resource) (start now first shown : Image) → AreBoth shape taken start now first shown → (e : ℕ) → e < shape.pages / 8 →
    BitAlike start now first shown (sgam_place shape.geometry e)
sgam_alike shape taken start now first shown both e lt =
    let file = (both.seen).file in
    let guard = (extents_guard_bits shape.geometry shape.pages e file.low file.high lt).1 in
    bit_alike shape taken start now first shown both (sgam_place shape.geometry e) (resource.Extent (record { 0 = e }))
    (bit_inside shape (sgam_place shape.geometry e) (resource.Extent (record { 0 = e })) guard) (low_bit shape.geometry e) guard

two_bits : (c : Place) (u u' v v' : ℕ) → u ≡ u' → v ≡ v' →
    ◌≡◌ {A = Planned} (record { cell = Bit (record { 0 = c.page }) c.at; before = u ∷ []; after = v ∷ [] }) (record { cell = Bit (record { 0 = c.page }) c.at; before = u' ∷ []; after = v' ∷ [] })
two_bits c u u' v v' e f =
    ap (λ (x : ℕ). record { cell = Bit (record { 0 = c.page }) c.at; before = x ∷ []; after = v ∷ [] }) e
    ∙ ap (λ (x : ℕ). record { cell = Bit (record { 0 = c.page }) c.at; before = u' ∷ []; after = x ∷ [] }) f

bit_same : (start now first shown : Image) (place : ℕ → Place) (e : ℕ) → BitAlike start now first shown (place e) →
    SameAt (λ k. is_turned start now (place k)) (λ k. is_turned first shown (place k)) (λ k. bit_change start now (place k)) (λ k. bit_change first shown (place k)) e e
bit_same start now first shown place e alike =
    let d = differ_alike _ _ _ _ alike in
    record { test = d.test; made = λ turned. two_bits (place e) _ _ _ _ (d.was turned) (d.is turned) }

pub bits_same : (shape : FileShape) (start now first shown : Image) (place : ℕ → Place) → ((e : ℕ) → e < shape.pages / 8 → BitAlike start now first shown (place e)) →
    bit_changes shape place start now ≡ bit_changes shape place first shown
bits_same shape start now first shown place alike =
    map_range (λ k. is_turned start now (place k)) (λ k. is_turned first shown (place k)) (λ k. bit_change start now (place k)) (λ k. bit_change first shown (place k)) (shape.pages / 8)
    (λ e lt. bit_same start now first shown place e (alike e lt))

-- ---- PFS bytes

pub pfs_alike : (shape : FileShape) (taken : List Resource) (start now first shown : Image) → AreBoth shape taken start now first shown → (p : ℕ) → p < shape.pages →
    Alike (pfs_byte shape.geometry start p) (pfs_byte shape.geometry now p) (pfs_byte shape.geometry first p) (pfs_byte shape.geometry shown p)
pfs_alike shape taken start now first shown both p lt =
    let g = shape.geometry in
    let file = (both.seen).file in
    byte_alike shape taken start now first shown both (pfs_page g p) (pfs_place g p).at (resource.Byte (record { 0 = p })) (pfs_inside g shape.pages p file.low lt) (low_byte g p)
    (pages_guard_bytes g shape.pages p file.low lt)

pub changed_alike : (shape : FileShape) (taken : List Resource) (start now first shown : Image) → AreBoth shape taken start now first shown → (p : ℕ) → p < shape.pages →
    DifferAlike (pfs_byte shape.geometry start p) (pfs_byte shape.geometry now p) (pfs_byte shape.geometry first p) (pfs_byte shape.geometry shown p)
changed_alike shape taken start now first shown both p lt = differ_alike _ _ _ _ (pfs_alike shape taken start now first shown both p lt)

length_same : (shape : FileShape) (taken : List Resource) (start now first shown : Image) → AreBoth shape taken start now first shown → (n p : ℕ) → p + n ≤ shape.pages →
    run_length shape.geometry start now n p ≡ run_length shape.geometry first shown n p
length_same shape taken start now first shown both zero p le = refl
length_same shape taken start now first shown both (suc n) p le =
    let g = shape.geometry in
    ap (λ b. if b then 1 + run_length g start now n (p + 1) else 0) (changed_alike shape taken start now first shown both p (omega (arith, le))).test
    ∙ ap (λ r. if is_byte_changed g first shown p then 1 + r else 0) (length_same shape taken start now first shown both n (p + 1) (omega (arith, le)))

begins_same : (shape : FileShape) (taken : List Resource) (start now first shown : Image) → AreBoth shape taken start now first shown → (p : ℕ) → p < shape.pages →
    begins_run shape.geometry start now p ≡ begins_run shape.geometry first shown p
begins_same shape taken start now first shown both p lt =
    let g = shape.geometry in
    ap (λ b. b && (eqb (p % 8) 0 || not (is_byte_changed g start now (p - 1)))) (changed_alike shape taken start now first shown both p lt).test
    ∙ ap (λ b. is_byte_changed g first shown p && (eqb (p % 8) 0 || not b)) (changed_alike shape taken start now first shown both (p - 1) (omega (arith, lt))).test

-- the bytes of a run are the same, as seen and as shown
run_bytes : (shape : FileShape) (start first : Image) (p n : ℕ) → p % 8 + n ≤ 8 → (pfs_place shape.geometry p).at + n ≤ 8192 →
    ((k : ℕ) → k < n → pfs_byte shape.geometry start (p + k) ≡ pfs_byte shape.geometry first (p + k)) →
    8192 ≤ length (page start (pfs_page shape.geometry p)) → 8192 ≤ length (page first (pfs_page shape.geometry p)) →
    slice_range (page start (pfs_page shape.geometry p)) (pfs_place shape.geometry p).at ((pfs_place shape.geometry p).at + n)
    ≡ slice_range (page first (pfs_page shape.geometry p)) (pfs_place shape.geometry p).at ((pfs_place shape.geometry p).at + n)
run_bytes shape start first p n few low same long long' =
    let g = shape.geometry in
    let q = pfs_page g p in
    let at = (pfs_place g p).at in
    slice_same (page start q) (page first q) at (at + n) (omega (arith, low, long)) (omega (arith, low, long'))
    (λ i from upto.
    let k = i - at in
    let lt : k < n = omega (arith, from, upto) in
    let near = beside g p k (omega (arith, lt, few)) in
    let there : i ≡ (pfs_place g (p + k)).at = back i at from ∙ sym near.at in
    ap (λ j. slice_index (page start q) j) there ∙ ap (λ r. slice_index (page start r) (pfs_place g (p + k)).at) (sym near.page)
    ∙ same k lt
    ∙ ap (λ r. slice_index (page first r) (pfs_place g (p + k)).at) near.page ∙ sym (ap (λ j. slice_index (page first q) j) there))
  where
    back : (i a : ℕ) → a ≤ i → i ≡ a + (i - a)
    back i a le = omega (arith, le)

run_same : (shape : FileShape) (taken : List Resource) (start now first shown : Image) → AreBoth shape taken start now first shown → (p : ℕ) → p < shape.pages →
    run_change shape.geometry start now p ≡ run_change shape.geometry first shown p
run_same shape taken start now first shown both p lt =
    let g = shape.geometry in
    let q = pfs_page g p in
    let at = (pfs_place g p).at in
    let m = 8 - p % 8 in
    let seen = both.seen in
    let file = seen.file in
    let whole = file.whole in
    let inside = pfs_inside g shape.pages p file.low lt in
    let a = whole_page shape start now seen q inside in
    let b = whole_page shape first shown both.told q inside in
    let old = a.old in
    let new = a.new in
    let old' = b.old in
    let new' = b.new in
    let n = run_length g start now m p in
    let some = run_few g start now m p in
    let few : p % 8 + n ≤ 8 = omega (arith, some) in
    let room = low_place g p in
    let low : at + n ≤ 8192 = omega (arith, some, room) in
    let alike = λ (k : ℕ) (h : k < n). changed_alike shape taken start now first shown both (p + k) (omega (arith, h, some, whole, lt)) in
    three q at n (run_length g first shown m p) (length_same shape taken start now first shown both m p (omega (arith, whole, lt)))
    (run_bytes shape start first p n few low (λ k h. (alike k h).was (run_changed g start now m p k h)) (omega (arith, old)) (omega (arith, old')))
    (run_bytes shape now shown p n few low (λ k h. (alike k h).is (run_changed g start now m p k h)) (omega (arith, new)) (omega (arith, new')))
  where
    three : (q at n n' : ℕ) → n ≡ n' → slice_range (page start q) at (at + n) ≡ slice_range (page first q) at (at + n) → slice_range (page now q) at (at + n) ≡ slice_range (page shown q) at (at + n) →
        ◌≡◌ {A = Planned} (record { cell = Bytes (record { 0 = q }) at; before = slice_range (page start q) at (at + n); after = slice_range (page now q) at (at + n) })
        (record { cell = Bytes (record { 0 = q }) at; before = slice_range (page first q) at (at + n'); after = slice_range (page shown q) at (at + n') })
    three q at n n' e u v =
        ap (λ (x : List ℕ). record { cell = Bytes (record { 0 = q }) at; before = x; after = slice_range (page now q) at (at + n) }) u
        ∙ ap (λ (x : List ℕ). record { cell = Bytes (record { 0 = q }) at; before = slice_range (page first q) at (at + n); after = x }) v
        ∙ ap (λ (k : ℕ). record { cell = Bytes (record { 0 = q }) at; before = slice_range (page first q) at (at + k); after = slice_range (page shown q) at (at + k) }) e

pub runs_same : (shape : FileShape) (taken : List Resource) (start now first shown : Image) → AreBoth shape taken start now first shown → run_changes shape start now ≡ run_changes shape first shown
runs_same shape taken start now first shown both =
    let g = shape.geometry in
    map_range (begins_run g start now) (begins_run g first shown) (run_change g start now) (run_change g first shown) shape.pages
    (λ p lt. record { test = begins_same shape taken start now first shown both p lt; made = λ begins. run_same shape taken start now first shown both p lt })
