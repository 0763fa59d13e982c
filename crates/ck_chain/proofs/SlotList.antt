-- The slots of an IAM page as its view lists them.
use Rattle.std.proofs.Common.{◌≡◌, ℕ, ◌<◌, true, false, IsTrue, List, [], ◌∷◌, ◌++◌, length, map, get_or, arith, ap, sym, subst, ◌∙◌}
use Rattle.std.proofs.lemmas.List.{get_or-map, length-map}
use Rattle.std.proofs.lemmas.List.FromFn.{get_or-map-range_with_len, length-map-range_with_len}
use Rattle.spec_file.specs.declared.data.PageNo.{PageNo}
use Rattle.spec_file.specs.Iam.{iam_slot, iam_slots}
use Rattle.spec_file.specs.Places.{is_inside}
use Rattle.ck_error.specs.Gathered.{Adds}
use Rattle.ck_error.proofs.GatheringLaws.{adds_push, adds_none, adds_given}
use Rattle.ck_facts.specs.declared.map.PageUse.{PageUse}
use Rattle.ck_chain.specs.Pages.{SlotHolds}

pub slot_is : (items : List PageNo) (bytes : List ℕ) (i : ℕ) → map (λ (p : PageNo). p.0) items ≡ iam_slots bytes → i < 8
    → (get_or items i (record { 0 = 0 })).0 ≡ iam_slot bytes i
slot_is items bytes i are inside =
    let size : length items ≡ 8 = sym (length-map items (λ (p : PageNo). p.0)) ∙ ap length are ∙ length-map-range_with_len (iam_slot bytes) 0 8 in
    sym (get_or-map (λ (p : PageNo). p.0) items i (record { 0 = 0 }) 0 (omega (arith, size)))
    ∙ ap (λ l. get_or l i 0) are ∙ get_or-map-range_with_len (iam_slot bytes) 0 8 i i 0 inside (omega arith)

-- a slot that holds a page of the file gives a use, any other none
pub slot_empty : (pages id i page : ℕ) (bytes : List ℕ) (xs : List PageUse) → page ≡ iam_slot bytes i → is_inside pages page ≡ false
    → Adds xs xs (SlotHolds pages id bytes i)
slot_empty pages id i page bytes xs is outside = adds_none xs (SlotHolds pages id bytes i)
    (λ u h. let no : false ≡ true = sym outside ∙ (ap (is_inside pages) is ∙ h.0) in cc)

pub slot_taken : (pages id i page : ℕ) (bytes : List ℕ) (xs ys : List PageUse) → page ≡ iam_slot bytes i → is_inside pages page ≡ true
    → ys ≡ xs ++ record { page = page; object = id; place = i } ∷ [] → Adds xs ys (SlotHolds pages id bytes i)
slot_taken pages id i page bytes xs ys is inside grown =
    subst (λ p. Adds xs ys (λ u. IsTrue (is_inside pages p) × (u ≡ record { page = p; object = id; place = i }))) is
    (subst (λ l. Adds xs l (λ u. IsTrue (is_inside pages page) × (u ≡ record { page = page; object = id; place = i }))) (sym grown)
    (adds_given _ _ _ _ inside (adds_push xs (record { page = page; object = id; place = i }))))
