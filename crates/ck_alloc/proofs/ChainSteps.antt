-- One object more whose chain was read.
use Rattle.std.proofs.Common.{◌≡◌, ◌⊎◌, ◌↔◌, ℕ, ◌+◌, ◌/◌, ◌%◌, ◌<◌, Bool, false, IsTrue, List, [], ◌∷◌, ◌++◌, length, get_or, Some, option_map, arith, rules, sym, subst, ap, inl, inr, ⊎_elim, refl, ◌∙◌}
use Rattle.std.proofs.lemmas.List.{get_or-replicate}
use Rattle.std.proofs.Math.ListN.{get_or-append, replicate}
use Rattle.std.proofs.Math.Seq.{get_or-append_seam}
use Rattle.std.proofs.lemmas.Nat.Bits.{bit_at-zero}
use Rattle.std.proofs.lemmas.Option.{get_or_from_slice_get, slice_get_read, slice_get_within, slice_get-get_or, slice_get-map, slice_get_cases, same_Some}
use Rattle.std.specs.List.{slice_get}
use Rattle.spec_file.specs.declared.geometry.Geometry.{Geometry}
use Rattle.spec_file.specs.Image.{Image}
use Rattle.spec_file.specs.CatalogRows.{CatalogRow}
use Rattle.spec_chain.specs.Marks.{IsMarked}
use Rattle.spec_check.specs.Chains.{IsErrorOfChain}
use Rattle.ck_error.proofs.GatheringLaws.{adds_as, adds_both}
use Rattle.ck_facts.specs.declared.map.ExtentMap.{ExtentMap}
use Rattle.ck_facts.specs.Maps.{has_mark, rows_of_objects}
use Rattle.db_cat.specs.declared.rows.CatRow.{CatRow}
use Rattle.db_cat.specs.Rows.{row_of}
use Rattle.ck_chain.specs.declared.found.Found.{Found}
use Rattle.ck_chain.specs.Walks.{IsUseOf, IsChainRead}
use Rattle.ck_alloc.specs.ChainsRead.{IsBare, AreBare, ChainError, ChainUse, AreChainsRead}

upto : (i n : ℕ) → i < n + 1 → (i < n) ⊎ (i ≡ n)
upto i n h = search (rules, arith)

-- an element of a longer list
pub pushed : {X : Type 0} (xs : List X) (y z : X) (i : ℕ) → slice_get (xs ++ y ∷ []) i ≡ Some z
    → (slice_get xs i ≡ Some z) ⊎ ((i ≡ length xs) × (z ≡ y))
pushed {X} xs y z i h = ⊎_elim
    (λ less. inl (slice_get_read xs (length xs) i z refl less (sym (get_or_from_slice_get (xs ++ y ∷ []) i z z h) ∙ get_or-append xs (y ∷ []) z i less)))
    (λ here. inr (here, sym (get_or_from_slice_get (xs ++ y ∷ []) i z z h) ∙ ap (λ n. get_or (xs ++ y ∷ []) n z) here ∙ get_or-append_seam xs y [] z))
    (upto i (length xs) (subst (λ n. i < n) (grown xs) (slice_get_within (xs ++ y ∷ []) i z h))) where
      grown : (xs : List X) → length (xs ++ y ∷ []) ≡ length xs + 1
      grown [] = refl
      grown (x ∷ xs) = let less = grown xs in omega (arith, less)

pub zero_marks : (free mixed : Bool) (i : ℕ) → i < 128 → has_mark (record { free = free; mixed = mixed; marks = replicate 16 0 }) i ≡ false
zero_marks free mixed i low =
    let byte : get_or (replicate 16 0) (i / 8) 0 ≡ 0 = get_or-replicate {A = ℕ} 16 (i / 8) 0 0 (omega (arith, low)) in
    rw (byte, bit_at-zero (i % 8)) refl

pub bare_more : (free mixed : List Bool) (xs : List ExtentMap) (y : ExtentMap) → AreBare free mixed xs
    → IsBare (slice_get free (length xs)) (slice_get mixed (length xs)) y → AreBare free mixed (xs ++ y ∷ [])
bare_more free mixed xs y h is = record {
  each = λ e z at. ⊎_elim (λ old. h.each e z old)
      (λ here. subst (λ n. IsBare (slice_get free n) (slice_get mixed n) z) (sym here.0) (subst (IsBare (slice_get free (length xs)) (slice_get mixed (length xs))) (sym here.1) is))
      (pushed xs y z e at);
}

pub read_more : (g : Geometry) (image : Image) (rows : List CatalogRow) (n : ℕ) (row : CatalogRow) (old mid new : Found)
    → slice_get rows n ≡ Some row → AreChainsRead g image rows n old mid → IsChainRead g image row n mid new → AreChainsRead g image rows (n + 1) old new
read_more g image rows n row old mid new at h c = record {
  errors = adds_as _ _ (λ x. ChainError g image rows n x ⊎ IsErrorOfChain g image row x) (ChainError g image rows (n + 1))
      (λ x s. ⊎_elim (λ (i, r, (low, is), e). (i, r, (omega (arith, low), is), e)) (λ e. (n, row, (omega arith, at), e)) s)
      (λ x (i, r, (low, is), e). ⊎_elim (λ less. inl (i, r, (less, is), e))
      (λ here. inr (subst (λ k. IsErrorOfChain g image k x) (row_is i r is here) e)) (upto i n low))
      (adds_both _ _ _ (ChainError g image rows n) (IsErrorOfChain g image row) h.errors c.errors);
  uses = adds_as _ _ (λ u. ChainUse g image rows n u ⊎ IsUseOf g image row u) (ChainUse g image rows (n + 1))
      (λ u s. ⊎_elim (λ (i, r, (low, is), e). (i, r, (omega (arith, low), is), e)) (λ e. (n, row, (omega arith, at), e)) s)
      (λ u (i, r, (low, is), e). ⊎_elim (λ less. inl (i, r, (less, is), e))
      (λ here. inr (subst (λ k. IsUseOf g image k u) (row_is i r is here) e)) (upto i n low))
      (adds_both _ _ _ (ChainUse g image rows n) (IsUseOf g image row) h.uses c.uses);
  count = c.extents.count ∙ h.count;
  extents = λ e x z was now.
      let below : e < length mid.extents.items = subst (λ k. e < k) c.extents.count (slice_get_within new.extents.items e z now) in
      let y = get_or mid.extents.items e x in
      let between = slice_get-get_or mid.extents.items e x below in
      let first = h.extents e x y was between in
      let second = c.extents.each e y z between now in
      record {
        free = second.free ∙ first.free;
        mixed = second.mixed ∙ first.mixed;
        done = λ i r (low, is). ⊎_elim
            (λ less. let same = second.others i (λ k. omega (arith, k, less)) in
            (λ m. (first.done i r (less, is)).0 (sym same ∙ m), λ s. same ∙ (first.done i r (less, is)).1 s))
            (λ here. subst (λ k. IsTrue (has_mark z k) ↔ (IsTrue (has_mark x k) ⊎ IsMarked g image r e)) (sym here)
            (subst (λ k. IsTrue (has_mark z n) ↔ (IsTrue (has_mark x n) ⊎ IsMarked g image k e)) (sym (row_is i r is here)) (
              λ m. ⊎_elim (λ old_. inl (sym (first.left n (omega arith)) ∙ old_)) (λ marked. inr marked) (second.mark.0 m),
              λ s. second.mark.1 (⊎_elim (λ old_. inl (first.left n (omega arith) ∙ old_)) (λ marked. inr marked) s),
            )))
            (upto i n low);
        left = λ i low. second.others i (λ k. omega (arith, k, low)) ∙ first.left i (omega (arith, low));
      };
} where
  row_is : (i : ℕ) (r : CatalogRow) → slice_get rows i ≡ Some r → i ≡ n → r ≡ row
  row_is i r is here = same_Some r row (sym is ∙ ap (slice_get rows) here ∙ at)

-- the object at a place
pub row_at : (objects : List CatRow) (i : ℕ) → i < length objects → (row : CatalogRow) × (slice_get (rows_of_objects objects) i ≡ Some row)
row_at objects i inside = ⊎_elim
    (λ (x, low, at, same). (row_of x, slice_get-map row_of objects i ∙ ap (option_map row_of) at))
    (λ (high, none). absurd (omega (arith, inside, high))) (slice_get_cases objects i).1

-- the bits of an extent without marks
pub bare_of : (free mixed : List Bool) (e n : ℕ) → e < length free → e < length mixed → n ≡ e
    → IsBare (slice_get free n) (slice_get mixed n) (record { free = get_or free e false; mixed = get_or mixed e false; marks = replicate 16 0 })
bare_of free mixed e n in_free in_mixed here = record {
  free_is = ap (slice_get free) here ∙ slice_get-get_or free e false in_free;
  mixed_is = ap (slice_get mixed) here ∙ slice_get-get_or mixed e false in_mixed;
  marks = λ i low. zero_marks (get_or free e false) (get_or mixed e false) i low;
}
