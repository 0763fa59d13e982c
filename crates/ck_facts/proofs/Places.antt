-- Where the object of an id stands in a map.
use Rattle.std.proofs.Common.{◌≡◌, ◌↔◌, ◌⊎◌, ℕ, ◌<◌, ◌≤◌, List, [], ◌∷◌, length, map, slice_index, get_or, Option, Some, None, Result, Ok, Err, arith, rules, sym, subst, ap, ◌∙◌, ⊎_elim}
use Rattle.std.specs.Result.{result_ok}
use Rattle.std.specs.List.Sorted.{IsBinarySearchResult, IsNonDecreasingBy, IsSearchInRange}
use Rattle.std.specs.Ordering.{nat_cmp, ordering_index}
use Rattle.std.specs.declared.cmp.Ordering.TheVariants.{Less, Equal, Greater}
use Rattle.std.proofs.lemmas.Bool.{cases_lt}
use Rattle.std.proofs.lemmas.Bool.Decides.{nat_tests}
use Rattle.std.proofs.lemmas.Cmp.{ranked}
use Rattle.std.proofs.lemmas.List.{get_or-map, length-map}
use Rattle.std.proofs.lemmas.List.Sorted.{IsNonDecreasingBy-from_default}
use Rattle.std.proofs.lemmas.Option.{same_Some}
use Rattle.std.proofs.lemmas.Map.Keys.{Less-from_sorted}
use Rattle.db_cat.specs.declared.rows.CatRow.{CatRow}
use Rattle.ck_facts.specs.declared.map.AllocMap.{AllocMap}
use Rattle.ck_facts.specs.MapOf.{ids_of}
use Rattle.ck_facts.specs.Owners.{StandById, IsPlaceOf}

id_at : (objects : List CatRow) (i : ℕ) (d : CatRow) → i < length objects → slice_index (ids_of objects) i ≡ (get_or objects i d).id.0
id_at objects i d within = get_or-map (λ (r : CatRow). r.id.0) objects i d 0 within

split : (i j : ℕ) → ((i < j) ⊎ (i ≡ j)) ⊎ (j < i)
split i j = search (rules, arith)

-- ids rise from place to place
below : (m : AllocMap) (i j : ℕ) → StandById m → i < j → j < length m.objects.items → slice_index (ids_of m.objects.items) i < slice_index (ids_of m.objects.items) j
below m i j by less within =
    let long : length (ids_of m.objects.items) ≡ length m.objects.items = length-map m.objects.items (λ row. row.id.0) in
    ranked _ _ Less (sym (Less-from_sorted nat_cmp (ids_of m.objects.items) i j 0 by less (omega arith)))

pub one_place : (m : AllocMap) (i j id : ℕ) → StandById m → IsPlaceOf m i id → IsPlaceOf m j id → i ≡ j
one_place m i j id by a b = ⊎_elim
    (λ up. ⊎_elim (λ less. let lower = below m i j by less b.inside in absurd (omega (arith, lower, a.is, b.is))) (λ same. same) up)
    (λ more. let lower = below m j i by more a.inside in absurd (omega (arith, lower, a.is, b.is))) (split i j)

index_rises : (a b k : ℕ) → a ≤ b → ordering_index (nat_cmp a k) ≤ ordering_index (nat_cmp b k)
index_rises a b k h = grind (arith, nat_tests)

rises : (m : AllocMap) (id : ℕ) → StandById m → IsNonDecreasingBy (λ (r : CatRow). ordering_index (nat_cmp r.id.0 id)) m.objects.items
rises m id by = λ i j d low within. index_rises (get_or m.objects.items i d).id.0 (get_or m.objects.items j d).id.0 id
    (⊎_elim (λ up. ⊎_elim (λ less. let lower = below m i j by less within in
    omega (arith, lower, id_at m.objects.items i d (omega arith), id_at m.objects.items j d within))
    (λ same. subst (λ k. (get_or m.objects.items i d).id.0 ≤ (get_or m.objects.items k d).id.0) same (omega arith)) up)
    (λ more. absurd (omega arith)) (split i j))

-- where a binary search by id ends
pub found : (m : AllocMap) (id : ℕ) (r : Result ℕ ℕ) → StandById m → IsSearchInRange r (length m.objects.items)
    → IsBinarySearchResult (λ (row : CatRow). nat_cmp row.id.0 id) m.objects.items r → (i : ℕ) → (result_ok r ≡ Some i) ↔ IsPlaceOf m i id
found m id (Ok at) by range equal i = (λ e. subst (λ k. IsPlaceOf m k id) (same_Some at i e) here, λ h. ap Some (one_place m at i id by here h)) where
  some_object : (objects : List CatRow) (k : ℕ) → k < length objects → CatRow
  some_object [] k h = absurd (omega (arith, h))
  some_object (x ∷ xs) k h = x

  here : IsPlaceOf m at id
  here = let d = some_object m.objects.items at range in record {
    inside = range;
    is = id_at m.objects.items at d range ∙ ranked (get_or m.objects.items at d).id.0 id Equal (sym (equal d));
  }
found m id (Err at) by range parted i = (λ e. absurd (cc), λ h. absurd (nowhere h)) where
  some_object : (objects : List CatRow) (k : ℕ) → k < length objects → CatRow
  some_object [] k h = absurd (omega (arith, h))
  some_object (x ∷ xs) k h = x

  nowhere : IsPlaceOf m i id → ⊥
  nowhere h =
      let d = some_object m.objects.items i h.inside in
      let key : (get_or m.objects.items i d).id.0 ≡ id = sym (id_at m.objects.items i d h.inside) ∙ h.is in
      let point = parted (rises m id by) in
      ⊎_elim
      (λ low. let less : (get_or m.objects.items i d).id.0 < id = ranked _ id Less (sym (point.0 i d (omega arith) low)) in omega (arith, less, key))
      (λ high. let more : id < (get_or m.objects.items i d).id.0 = ranked _ id Greater (sym (point.1 i d high h.inside)) in omega (arith, more, key))
      (cases_lt i at)
