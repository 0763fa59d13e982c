-- A catalog with an entry written has one object more, with one emptied one less.
use Rattle.std.proofs.Common.{◌≡◌, ◌≢◌, ◌↔◌, ℕ, ◌<◌, Bool, true, false, not, List, map, filter, Contains, refl, sym, ap, subst, ◌∙◌, inl, inr, ⊎_elim, arith}
use Rattle.std.specs.List.{range_with_len}
use Rattle.std.proofs.lemmas.Bool.{cases_eq, cases_order, both_ways, not_from_false}
use Rattle.spec_file.specs.Catalog.{PassesCatalog, IsUsed, entry_count, entry_at, entry_id, entry_name, is_zeros, is_row}
use Rattle.spec_file.specs.CatalogRows.{CatalogRow, row_of_entry, is_used, rows_before, rows_of}
use Rattle.spec_check.proofs.Members.{map_from, map_in, filter_from, filter_in, range_from, range_in}
use Rattle.spec_steps.specs.Entries.{IsEntrySet, AddsEntry, EmptiesEntry}

-- the catalog has one object more
pub record GainsRow (row : CatalogRow) (old new : List ℕ) : Type 0 where
  pub passes : PassesCatalog old → PassesCatalog new
  pub rows : (r : CatalogRow) → r.id ≢ row.id → Contains (rows_of new) r ↔ Contains (rows_of old) r
  pub fresh : (r : CatalogRow) → Contains (rows_of old) r → r.id ≢ row.id
  pub there : Contains (rows_of new) row
  pub only : (r : CatalogRow) → Contains (rows_of new) r → r.id ≡ row.id → r ≡ row

-- the catalog has one object less
pub record LosesRow (row : CatalogRow) (old new : List ℕ) : Type 0 where
  pub passes : PassesCatalog old → PassesCatalog new
  pub rows : (r : CatalogRow) → r.id ≢ row.id → Contains (rows_of new) r ↔ Contains (rows_of old) r
  pub was : Contains (rows_of old) row
  pub gone : (r : CatalogRow) → Contains (rows_of new) r → r.id ≢ row.id

-- an object of the catalog stands in an entry that isn't empty
pub record StandsIn (boot : List ℕ) (r : CatalogRow) : Type 0 where
  pub entry : ℕ
  pub inside : entry < entry_count
  pub used : IsUsed boot entry
  pub is : row_of_entry (entry_at boot entry) ≡ r

used_of : (b : Bool) → not b ≡ true → b ≡ false
used_of true h = cc
used_of false h = refl

from_before : (boot : List ℕ) (n : ℕ) (r : CatalogRow) → Contains (rows_before boot n) r → (i : ℕ) × (i < n) × IsUsed boot i × (row_of_entry (entry_at boot i) ≡ r)
from_before boot n r h =
    let made = map_from row_of_entry (filter is_used (map (entry_at boot) (range_with_len 0 n))) r h in
    let kept = filter_from is_used (map (entry_at boot) (range_with_len 0 n)) made.0 made.1 in
    let at = map_from (entry_at boot) (range_with_len 0 n) made.0 kept.0 in
    (at.0, range_from n at.0 at.1, subst (λ e. is_zeros e ≡ false) (sym at.2) (used_of (is_zeros made.0) kept.1), ap row_of_entry at.2 ∙ made.2)

in_before : (boot : List ℕ) (n i : ℕ) → i < n → IsUsed boot i → Contains (rows_before boot n) (row_of_entry (entry_at boot i))
in_before boot n i low used =
    map_in row_of_entry (filter is_used (map (entry_at boot) (range_with_len 0 n))) (entry_at boot i)
    (filter_in is_used (map (entry_at boot) (range_with_len 0 n)) (entry_at boot i) (map_in (entry_at boot) (range_with_len 0 n) i (range_in n i low))
    (not_from_false (is_zeros (entry_at boot i)) used))

pub stands_from : (boot : List ℕ) (r : CatalogRow) → Contains (rows_of boot) r → StandsIn boot r
unfolding rows_of
stands_from boot r h = let at = from_before boot entry_count r h in record { entry = at.0; inside = at.1; used = at.2; is = at.3 }

pub stands_in : (boot : List ℕ) (r : CatalogRow) → StandsIn boot r → Contains (rows_of boot) r
unfolding rows_of
stands_in boot r h = subst (Contains (rows_before boot entry_count)) h.is (in_before boot entry_count h.entry h.inside h.used)

-- an entry that stays
module _ (j : ℕ) (entry old new : List ℕ) (set : IsEntrySet j entry old new) where
  used_on : (i : ℕ) → i ≢ j → IsUsed old i → IsUsed new i
  used_on i other used = ap is_zeros (set.others i other) ∙ used

  used_back : (i : ℕ) → i ≢ j → IsUsed new i → IsUsed old i
  used_back i other used = ap is_zeros (sym (set.others i other)) ∙ used

  other_back : (r : CatalogRow) (h : StandsIn new r) → h.entry ≢ j → StandsIn old r
  other_back r h other = record { entry = h.entry; inside = h.inside; used = used_back h.entry other h.used; is = ap row_of_entry (sym (set.others h.entry other)) ∙ h.is }

  other_on : (r : CatalogRow) (h : StandsIn old r) → h.entry ≢ j → StandsIn new r
  other_on r h other = record { entry = h.entry; inside = h.inside; used = used_on h.entry other h.used; is = ap row_of_entry (set.others h.entry other) ∙ h.is }

-- what two entries have apart, before and after
module _ (j : ℕ) (entry old new : List ℕ) (adds : AddsEntry j entry old new) where
  not_empty : (i : ℕ) → IsUsed old i → i ≢ j
  not_empty i used same = both_ways (is_zeros (entry_at old j)) (subst (IsUsed old) same used) adds.was_empty

  field_apart : {X : Type 0} (field : List ℕ → X) → ((i k : ℕ) → k < i → i < entry_count → IsUsed old i → IsUsed old k → field (entry_at old i) ≢ field (entry_at old k))
      → ((i : ℕ) → i < entry_count → IsUsed old i → field (entry_at old i) ≢ field entry)
      → (i k : ℕ) → k < i → i < entry_count → IsUsed new i → IsUsed new k → field (entry_at new i) ≢ field (entry_at new k)
  field_apart field before fresh i k less inside used_i used_k same = ⊎_elim
      (λ here. let other : k ≢ j = λ k_. omega (arith, here, k_, less) in
      fresh k (omega (arith, less, inside)) (used_back j entry old new adds.set k other used_k)
      (ap field (sym (adds.set.others k other)) ∙ sym same ∙ ap (λ n. field (entry_at new n)) here ∙ ap field adds.set.here))
      (λ other_i. ⊎_elim
      (λ here. fresh i inside (used_back j entry old new adds.set i other_i used_i)
      (ap field (sym (adds.set.others i other_i)) ∙ same ∙ ap (λ n. field (entry_at new n)) here ∙ ap field adds.set.here))
      (λ other_k. before i k less inside (used_back j entry old new adds.set i other_i used_i) (used_back j entry old new adds.set k other_k used_k)
      (ap field (sym (adds.set.others i other_i)) ∙ same ∙ ap field (adds.set.others k other_k)))
      (cases_eq k j))
      (cases_eq i j)

  passes : PassesCatalog old → PassesCatalog new
  passes before = record {
    rows = λ i inside used. ⊎_elim (λ here. subst (λ e. is_row e ≡ true) (sym (ap (entry_at new) here ∙ adds.set.here)) adds.form)
        (λ other. subst (λ e. is_row e ≡ true) (sym (adds.set.others i other)) (before.rows i inside (used_back j entry old new adds.set i other used))) (cases_eq i j);
    ids = field_apart entry_id before.ids adds.id;
    names = field_apart entry_name before.names adds.name;
  }

  new_row : (r : CatalogRow) (h : StandsIn new r) → h.entry ≡ j → r ≡ row_of_entry entry
  new_row r h here = sym h.is ∙ ap (λ i. row_of_entry (entry_at new i)) here ∙ ap row_of_entry adds.set.here

  pub gains : GainsRow (row_of_entry entry) old new
  gains = record {
    passes = passes;
    rows = λ r other. (
      λ h. let at = stands_from new r h in ⊎_elim (λ here. absurd (other (ap (λ (s : CatalogRow). s.id) (new_row r at here)))) (λ apart. stands_in old r
          (other_back j entry old new adds.set r at apart)) (cases_eq at.entry j),
      λ h. let at = stands_from old r h in stands_in new r (other_on j entry old new adds.set r at (not_empty at.entry at.used)),
    );
    fresh = λ r h same. let at = stands_from old r h in adds.id at.entry at.inside at.used (ap (λ (s : CatalogRow). s.id) at.is ∙ same);
    there = stands_in new (row_of_entry entry) (record { entry = j; inside = adds.set.within; used = ap is_zeros adds.set.here ∙ adds.used; is = ap row_of_entry adds.set.here });
    only = λ r h same. let at = stands_from new r h in ⊎_elim (new_row r at)
        (λ other. let old_ = other_back j entry old new adds.set r at other in absurd (adds.id old_.entry old_.inside old_.used (ap (λ (s : CatalogRow). s.id) old_.is ∙ same))) (cases_eq at.entry j);
  }

module _ (j : ℕ) (old new : List ℕ) (sound : (PassesCatalog old → ⊥) → ⊥) (empties : EmptiesEntry j old new) where
  gone_entry : (i : ℕ) → IsUsed new i → i ≢ j
  gone_entry i used same = both_ways (is_zeros empties.zeros) (ap is_zeros (sym (ap (entry_at new) same ∙ empties.set.here)) ∙ used) empties.empty

  back_of : (i : ℕ) → IsUsed new i → IsUsed old i
  back_of i used = used_back j empties.zeros old new empties.set i (gone_entry i used) used

  at_old : (i : ℕ) → IsUsed new i → entry_at new i ≡ entry_at old i
  at_old i used = empties.set.others i (gone_entry i used)

  passes_less : PassesCatalog old → PassesCatalog new
  passes_less before = record {
    rows = λ i inside used. subst (λ e. is_row e ≡ true) (sym (at_old i used)) (before.rows i inside (back_of i used));
    ids = λ i k less inside used_i used_k same. before.ids i k less inside (back_of i used_i) (back_of k used_k) (ap entry_id (sym (at_old i used_i)) ∙ same ∙ ap entry_id (at_old k used_k));
    names = λ i k less inside used_i used_k same. before.names i k less inside (back_of i used_i) (back_of k used_k) (ap entry_name (sym (at_old i used_i)) ∙ same ∙ ap entry_name (at_old k used_k));
  }

  apart_by : PassesCatalog old → (i : ℕ) → i < entry_count → IsUsed old i → entry_id (entry_at old i) ≡ entry_id (entry_at old j) → i ≢ j → ⊥
  apart_by before i inside used same other = elim (cases_order i j) [
    | inl here ↦ other here
    | inr (inl less) ↦ before.ids j i less empties.set.within empties.was_used used (sym same)
    | inr (inr more) ↦ before.ids i j more inside used empties.was_used same
  ]

  apart_ids : (i : ℕ) → i < entry_count → IsUsed old i → entry_id (entry_at old i) ≡ entry_id (entry_at old j) → i ≢ j → ⊥
  apart_ids i inside used same other = sound (λ before. apart_by before i inside used same other)

  pub loses : LosesRow (row_of_entry (entry_at old j)) old new
  loses = record {
    passes = passes_less;
    rows = λ r other. (
      λ h. let at = stands_from new r h in stands_in old r (other_back j empties.zeros old new empties.set r at (gone_entry at.entry at.used)),
      λ h. let at = stands_from old r h in stands_in new r (other_on j empties.zeros old new empties.set r at
          (λ here. other (ap (λ (s : CatalogRow). s.id) (sym at.is ∙ ap (λ i. row_of_entry (entry_at old i)) here)))),
    );
    was = stands_in old (row_of_entry (entry_at old j)) (record { entry = j; inside = empties.set.within; used = empties.was_used; is = refl });
    gone = λ r h same. let at = stands_from new r h in
        apart_ids at.entry at.inside (back_of at.entry at.used)
        (ap (λ (s : CatalogRow). s.id) (ap row_of_entry (sym (at_old at.entry at.used)) ∙ at.is) ∙ same) (gone_entry at.entry at.used);
  }
