-- The pages that differ are the same as seen and as shown, and so are all net changes.
use Rattle.std.proofs.Common.{◌≡◌, ℕ, ◌+◌, ◌-◌, ◌*◌, ◌/◌, ◌%◌, ◌<◌, ◌≤◌, max, Bool, true, false, eqb, not, ◌&&◌, ◌||◌, List, [], ◌∷◌, ◌++◌, inl, inr, refl, sym, ap, ◌∙◌, arith}
use Rattle.std.specs.Prelude.{if◌then◌else◌, slice_range, bytes_eq, filter, flat_map}
use Rattle.std.specs.List.{range_with_len}
use Rattle.std.proofs.lemmas.Bool.{and_parts, and_right, false≢true}
use Rattle.spec_file.specs.declared.data.Resource.{Resource}
use Rattle.spec_file.specs.declared.data.Resource.TheVariants as resource
use Rattle.spec_file.specs.Header.{page_type}
use Rattle.spec_file.specs.Image.{Image, page}
use Rattle.spec_file.specs.Pfs.{is_allocated_byte}
use Rattle.spec_file.specs.Places.{gam_place, sgam_place, is_free}
use Rattle.spec_file.specs.Roles.{is_ordinary}
use Rattle.spec_chain.specs.Uses.{is_allocated}
use Rattle.spec_rows.specs.Slots.{slot_count}
use Rattle.spec_log.specs.declared.item.Cell.TheVariants.{Bytes}
use Rattle.spec_plan.specs.declared.plan.Planned.{Planned}
use Rattle.spec_plan.specs.Changes as plan
use Rattle.law_cover.proofs.Pages.{pages_guard_themselves, catalog_guards_boot}
use Rattle.law_net.proofs.PageChanges.{Within, differing_within}
use Rattle.spec_words.specs.NetChanges.{FileShape, differing, cell_over, part_changes, is_iam, becomes_allocated, slots_start, page_changes, is_page_changed, bit_changes, run_changes, changes_of}
use Rattle.law_net.proofs.Covered.{part_none}
use Rattle.net_changes.proofs.Alike.{Alike, AreBoth, page_alike, rises_alike, falls_alike}
use Rattle.net_changes.proofs.AlikeBytes.{gam_alike, sgam_alike, bits_same, pfs_alike, runs_same}
use Rattle.net_changes.proofs.Ranges.{flat_range}
use lib.Pointwise.{bytes_decides}

-- ---- one part of a page, by its bytes

part_over : (start now : Image) (p low high : ℕ) (ds : List ℕ) → Within low high ds → cell_over start now p ds ≡ plan.change_over p (page start p) (page now p) ds
part_over start now p low high [] w = refl
part_over start now p low high (i ∷ is) w =
    ap (λ n. record { cell = Bytes (record { 0 = p }) i; before = slice_range (page start p) i n; after = slice_range (page now p) i n } ∷ []) (ends i (plan.last_of i is) w.1)
  where
    ends : (i j : ℕ) → i ≤ j → i + (j + 1 - i) ≡ j + 1
    ends i j le = omega (arith, le)

pub part_between : (start now : Image) (p low high : ℕ) → low ≤ high → part_changes start now p low high ≡ plan.change_between p (page start p) (page now p) low high
unfolding differing plan.differing
part_between start now p low high le = part_over start now p low high (differing start now p low high) (differing_within (page start p) (page now p) low high le)

part_same : (start now first shown : Image) (p low high : ℕ) → low ≤ high → page start p ≡ page first p → page now p ≡ page shown p → part_changes start now p low high ≡ part_changes first shown p low high
part_same start now first shown p low high le e f =
    part_between start now p low high le ∙ ap (λ xs. plan.change_between p xs (page now p) low high) e ∙ ap (λ xs. plan.change_between p (page first p) xs low high) f
    ∙ sym (part_between first shown p low high le)

-- ---- pages that objects may own

-- such a page differs alike
pub record PageAlike (shape : FileShape) (start now first shown : Image) (p : ℕ) : Type 0 where
  pub test : is_page_changed shape.geometry start now p ≡ is_page_changed shape.geometry first shown p
  pub was : is_page_changed shape.geometry start now p ≡ true → page start p ≡ page first p
  pub is : is_page_changed shape.geometry start now p ≡ true → page now p ≡ page shown p

pub stays_same : (b : Bool) (xs ys : List ℕ) → xs ≡ ys → (b && not (bytes_eq xs ys)) ≡ false
stays_same b xs ys e = and_right b (not (bytes_eq xs ys)) (ap not ((bytes_decides xs ys).1 e))

pub changed_page : (shape : FileShape) (taken : List Resource) (start now first shown : Image) → AreBoth shape taken start now first shown → (p : ℕ) → p < shape.pages →
    PageAlike shape start now first shown p
changed_page shape taken start now first shown both p lt = by_role (is_ordinary shape.geometry p) refl
  where
    test_of : Bool → Image → Image → Bool
    test_of b u v = b && not (bytes_eq (page u p) (page v p))

    by_alike : (b : Bool) → Alike (page start p) (page now p) (page first p) (page shown p) →
        ((b && not (bytes_eq (page start p) (page now p))) ≡ (b && not (bytes_eq (page first p) (page shown p))))
        × ((b && not (bytes_eq (page start p) (page now p))) ≡ true → page start p ≡ page first p)
        × ((b && not (bytes_eq (page start p) (page now p))) ≡ true → page now p ≡ page shown p)
    by_alike b (inl h) = (ap (λ xs. b && not (bytes_eq xs (page now p))) h.0 ∙ ap (λ xs. b && not (bytes_eq (page first p) xs)) h.1, λ d. h.0, λ d. h.1)
    by_alike b (inr h) =
        let stays = stays_same b (page start p) (page now p) h.0 in (
          stays ∙ sym (stays_same b (page first p) (page shown p) h.1),
          λ d. absurd (false≢true (sym stays ∙ d)),
          λ d. absurd (false≢true (sym stays ∙ d)),
        )

    by_role : (b : Bool) → is_ordinary shape.geometry p ≡ b → PageAlike shape start now first shown p
    by_role true e =
        let r = by_alike (is_ordinary shape.geometry p)
        (page_alike shape taken start now first shown both p (resource.Page (record { 0 = p })) lt (λ i. pages_guard_themselves shape.geometry shape.pages p i lt e)) in
        record { test = r.0; was = r.1; is = r.2 }
    by_role false e =
        let none = λ (u v : Image). ap (λ b. b && not (bytes_eq (page u p) (page v p))) e in
        record {
          test = none start now ∙ sym (none first shown);
          was = λ d. absurd (false≢true (sym (none start now) ∙ d));
          is = λ d. absurd (false≢true (sym (none start now) ∙ d));
        }

becomes_same : (shape : FileShape) (taken : List Resource) (start now first shown : Image) → AreBoth shape taken start now first shown → (p : ℕ) → p < shape.pages →
    becomes_allocated shape.geometry start now p ≡ becomes_allocated shape.geometry first shown p
becomes_same shape taken start now first shown both p lt =
    let g = shape.geometry in
    let file = (both.seen).file in
    let whole = file.whole in
    ap (λ b. b || (eqb (p % 8) 0 && (is_free g start (p / 8) && not (is_free g now (p / 8))))) (rises_alike is_allocated_byte _ _ _ _ (pfs_alike shape taken start now first shown both p lt))
    ∙ ap (λ b. (not (is_allocated g first p) && is_allocated g shown p) || (eqb (p % 8) 0 && b))
    (falls_alike (λ v. eqb v 1) _ _ _ _ (gam_alike shape taken start now first shown both (p / 8) (omega (arith, lt, whole))))

pub three : {A : Type 0} (x x' y y' z z' : List A) → x ≡ x' → y ≡ y' → z ≡ z' → (x ++ (y ++ z)) ≡ (x' ++ (y' ++ z'))
three x x' y y' z z' e f h = ap (λ w. w ++ (y ++ z)) e ∙ ap (λ w. x' ++ (w ++ z)) f ∙ ap (λ w. x' ++ (y' ++ w)) h

page_same : (shape : FileShape) (taken : List Resource) (start now first shown : Image) → AreBoth shape taken start now first shown → (p : ℕ) → p < shape.pages →
    page start p ≡ page first p → page now p ≡ page shown p → page_changes shape.geometry start now p ≡ page_changes shape.geometry first shown p
page_same shape taken start now first shown both p lt e f =
    let g = shape.geometry in
    let s = slots_start start now p in
    let start_is : s ≡ slots_start first shown p =
    ap (λ xs. max 96 (8192 - 2 * max (slot_count xs) (slot_count (page now p)))) e ∙ ap (λ xs. max 96 (8192 - 2 * max (slot_count (page first p)) (slot_count xs))) f in
    let test : (is_iam now p || becomes_allocated g start now p) ≡ (is_iam shown p || becomes_allocated g first shown p) =
    ap (λ xs. eqb (page_type xs) 10 || becomes_allocated g start now p) f ∙ ap (λ b. is_iam shown p || b) (becomes_same shape taken start now first shown both p lt) in
    ap (λ b. if b then part_changes start now p 0 8192 else (part_changes start now p 96 s ++ (part_changes start now p s 8192 ++ part_changes start now p 0 96))) test
    ∙ by_test (is_iam shown p || becomes_allocated g first shown p) s (omega arith) (omega arith)
    ∙ ap (λ k. if is_iam shown p || becomes_allocated g first shown p then part_changes first shown p 0 8192
    else (part_changes first shown p 96 k ++ (part_changes first shown p k 8192 ++ part_changes first shown p 0 96))) start_is
  where
    by_test : (b : Bool) (s : ℕ) → 96 ≤ s → s ≤ 8192 →
        (if b then part_changes start now p 0 8192 else (part_changes start now p 96 s ++ (part_changes start now p s 8192 ++ part_changes start now p 0 96)))
        ≡ (if b then part_changes first shown p 0 8192 else (part_changes first shown p 96 s ++ (part_changes first shown p s 8192 ++ part_changes first shown p 0 96)))
    by_test true s low high = part_same start now first shown p 0 8192 (omega arith) e f
    by_test false s low high =
        three (part_changes start now p 96 s) _ (part_changes start now p s 8192) _ (part_changes start now p 0 96) _ (part_same start now first shown p 96 s low e f)
        (part_same start now first shown p s 8192 high e f) (part_same start now first shown p 0 96 (omega arith) e f)

-- the pages of one kind, told by their bytes
pages_same : (shape : FileShape) (taken : List Resource) (start now first shown : Image) → AreBoth shape taken start now first shown → (kind : List ℕ → Bool) →
    flat_map (page_changes shape.geometry start now) (filter (λ p. is_page_changed shape.geometry start now p && kind (page now p)) (range_with_len 0 shape.pages))
    ≡ flat_map (page_changes shape.geometry first shown) (filter (λ p. is_page_changed shape.geometry first shown p && kind (page shown p)) (range_with_len 0 shape.pages))
pages_same shape taken start now first shown both kind =
    let g = shape.geometry in
    flat_range (λ p. is_page_changed g start now p && kind (page now p)) (λ p. is_page_changed g first shown p && kind (page shown p)) (page_changes g start now) (page_changes g first shown) shape.pages
    (λ p lt.
    let a = changed_page shape taken start now first shown both p lt in
    record {
      test = by_test p a (is_page_changed g start now p) refl;
      made = λ d.
          let changed = (and_parts (is_page_changed g start now p) (kind (page now p)) d).0 in page_same shape taken start now first shown both p lt (a.was changed) (a.is changed);
    })
  where
    by_test : (p : ℕ) (a : PageAlike shape start now first shown p) (b : Bool) → is_page_changed shape.geometry start now p ≡ b →
        (is_page_changed shape.geometry start now p && kind (page now p)) ≡ (is_page_changed shape.geometry first shown p && kind (page shown p))
    by_test p a true h = ap (λ b. b && kind (page now p)) a.test ∙ ap (λ xs. is_page_changed shape.geometry first shown p && kind xs) (a.is h)
    by_test p a false h = ap (λ b. b && kind (page now p)) h ∙ sym (ap (λ b. b && kind (page shown p)) (sym a.test ∙ h))

boot_same : (shape : FileShape) (taken : List Resource) (start now first shown : Image) → AreBoth shape taken start now first shown → part_changes start now 9 0 8192 ≡ part_changes first shown 9 0 8192
boot_same shape taken start now first shown both =
    let file = (both.seen).file in
    let many = file.low in
    let inside : 9 < shape.pages = omega (arith, many) in
    by_alike (page_alike shape taken start now first shown both 9 resource.Catalog inside (λ i. catalog_guards_boot shape.geometry shape.pages i inside))
  where
    by_alike : Alike (page start 9) (page now 9) (page first 9) (page shown 9) → part_changes start now 9 0 8192 ≡ part_changes first shown 9 0 8192
    by_alike (inl h) = part_same start now first shown 9 0 8192 (omega arith) h.0 h.1
    by_alike (inr h) = part_none start now 9 0 8192 h.0 ∙ sym (part_none first shown 9 0 8192 h.1)

pub changes_same : (shape : FileShape) (taken : List Resource) (start now first shown : Image) → AreBoth shape taken start now first shown → changes_of shape start now ≡ changes_of shape first shown
changes_same shape taken start now first shown both =
    let g = shape.geometry in
    three (bit_changes shape (gam_place g) start now) _ (bit_changes shape (sgam_place g) start now) _ _ _
    (bits_same shape start now first shown (gam_place g) (gam_alike shape taken start now first shown both))
    (bits_same shape start now first shown (sgam_place g) (sgam_alike shape taken start now first shown both))
    (three (run_changes shape start now) _ _ _ _ _ (runs_same shape taken start now first shown both)
    (pages_same shape taken start now first shown both (λ xs. eqb (page_type xs) 10))
    (two _ _ _ _ (boot_same shape taken start now first shown both) (pages_same shape taken start now first shown both (λ xs. not (eqb (page_type xs) 10)))))
  where
    two : (x x' y y' : List Planned) → x ≡ x' → y ≡ y' → (x ++ y) ≡ (x' ++ y')
    two x x' y y' e f = ap (λ w. w ++ y) e ∙ ap (λ w. x' ++ w) f
