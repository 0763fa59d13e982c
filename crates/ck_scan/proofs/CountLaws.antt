-- Lines that count each object's pages, when one page more is met, and when others are met besides.
use Rattle.std.proofs.Common.{◌≡◌, ◌⊎◌, ℕ, zero, suc, ◌<◌, ◌≤◌, ◌==◌, Bool, true, false, cond, List, [], ◌∷◌, length, map, set, slice_index, get_or, arith, rules, sym, subst, ap, ◌∙◌, refl, inl, inr, ⊎_elim, Some}
use Rattle.std.specs.Prelude.{slice_get}
use Rattle.std.proofs.lemmas.List.{get_or-set_same}
use Rattle.std.proofs.lemmas.Option.{slice_get-get_or, slice_get_within, same_Some}
use Rattle.std.proofs.Math.ListN.{length-set}
use Rattle.spec_file.specs.Image.{Image, page}
use Rattle.spec_file.specs.CatalogRows.{CatalogRow}
use Rattle.spec_file.specs.Header.{header_of, page_type}
use Rattle.spec_rows.specs.PageTest.{PassesTest}
use Rattle.spec_rows.specs.Slots.{slot_count}
use Rattle.spec_rows.proofs.SlotLaws.{rows_room}
use Rattle.spec_check.specs.declared.report.TableLine.{TableLine}
use Rattle.spec_tables.specs.Seen.{IsSeen, rows_on}
use Rattle.spec_file.specs.declared.data.Kind.{Kind}
use Rattle.ck_facts.specs.declared.map.AllocMap.{AllocMap}
use Rattle.ck_facts.specs.Maps.{HasNoSystemErrors}
use Rattle.ck_facts.specs.MapOf.{IsMapOf, ids_of}
use Rattle.ck_facts.specs.Owners.{Owned, owned, IsPlaceOf}
use Rattle.ck_facts.proofs.OwnerLaws.{place_there, stand_by_id}
use Rattle.ck_facts.proofs.Places.{one_place}
use Rattle.ck_scan.specs.Shown.{IsRowOf, WithPage}
use Rattle.ck_scan.specs.Counted.{IsCountOf, IsOneMore, IsSumOf, AreSums, IsMetOf, AreCounts}
use Rattle.ck_scan.specs.Found.{CountsIt, CountsSeen}
use Rattle.ck_scan.proofs.Counting.{count_as, count_put, count_both, IsCountable, TakesMore}
use Rattle.ck_scan.proofs.OwnerLaws.{seen_low, file_end, one_row, object_of_place}

-- a list with one member set
set_here : {X : Type 0} (xs : List X) (i : ℕ) (old v : X) → slice_get xs i ≡ Some old → slice_get (set xs i v) i ≡ Some v
set_here xs i old v at =
    let within : i < length xs = slice_get_within xs i old at in
    slice_get-get_or (set xs i v) i v (omega (arith, within, length-set xs i v)) ∙ ap Some (get_or-set_same xs i v v within)

set_other : {X : Type 0} (xs : List X) (i j : ℕ) (v : X) → (j ≡ i → ⊥) → slice_get (set xs i v) j ≡ slice_get xs j
set_other [] i j v other = refl
set_other (x ∷ xs) zero zero v other = absurd (other refl)
set_other (x ∷ xs) zero (suc j) v other = refl
set_other (x ∷ xs) (suc i) zero v other = refl
set_other (x ∷ xs) (suc i) (suc j) v other = set_other xs i j v (λ e. other (ap suc e))

set_same : {X Y : Type 0} (f : X → Y) (xs : List X) (i : ℕ) (old v : X) → slice_get xs i ≡ Some old → f v ≡ f old → map f (set xs i v) ≡ map f xs
set_same f [] i old v at same = refl
set_same f (x ∷ xs) zero old v at same = ap (λ y. y ∷ map f xs) (same ∙ ap f (sym (same_Some x old at)))
set_same f (x ∷ xs) (suc i) old v at same = ap (λ ys. f x ∷ ys) (set_same f xs i old v at same)

-- a page that passes its test has few rows
at_most : (b : Bool) (n k : ℕ) → n ≤ k → cond b n 0 ≤ k
at_most true n k h = h
at_most false n k h = omega arith

pub few_rows_on : (p o : ℕ) (kind : Kind) (bytes : List ℕ) → PassesTest p o kind bytes → rows_on bytes ≤ 4048
few_rows_on p o kind bytes h = at_most (page_type bytes == 1) (slot_count bytes) 4048 (rows_room (header_of bytes) h.rest.holds.room).few

same_or_other : (i j : ℕ) → (i ≡ j) ⊎ (i ≡ j → ⊥)
same_or_other i j = search (rules, arith)

-- pages of the file that are seen can be counted
countable : (image : Image) (m : AllocMap) (Met : Owned → Type 0) (row : CatalogRow) → length image ≡ m.pages
    → IsCountable (IsMetOf m.geometry image Met row) (λ p. rows_on (page image p))
countable image m Met row pages = record {
  each = λ p taken. (file_end m p (seen_low image m row p pages taken.1), few_rows_on p row.id row.kind (page image p) taken.1.passes);
}

seen_more : (image : Image) (m : AllocMap) (Met : Owned → Type 0) (u : Owned) (row : CatalogRow) (line now : TableLine)
    → length image ≡ m.pages → row.id ≡ u.1.0 → IsSeen m.geometry image row u.0.0 → (Met u → ⊥)
    → IsCountOf (IsMetOf m.geometry image Met row) (λ p. rows_on (page image p)) line → IsOneMore line now (rows_on (page image u.0.0))
    → IsCountOf (IsMetOf m.geometry image (WithPage Met u) row) (λ p. rows_on (page image p)) now
seen_more image m Met u row line now pages id seen new count more =
    let takes : TakesMore (IsMetOf m.geometry image Met row) (IsMetOf m.geometry image (WithPage Met u) row) u.0.0 = record {
      sound = λ p taken. ⊎_elim (λ was. inl (was, taken.1)) (λ e. inr (ap (λ (w : Owned). w.0.0) e)) taken.0;
      kept = λ p taken. (inl taken.0, taken.1);
      here = (inr (ap (owned u.0.0) (sym id)), seen);
      new = λ taken. new (subst Met (ap (owned u.0.0) id) taken.0);
    } in
    count_put _ _ _ u.0.0 line now count (countable image m (WithPage Met u) row pages) takes more

-- the same lines, where the page isn't one of the object's that are seen
not_more : (image : Image) (m : AllocMap) (Met : Owned → Type 0) (u : Owned) (row : CatalogRow) (line : TableLine)
    → (row.id ≡ u.1.0 → IsSeen m.geometry image row u.0.0 → ⊥)
    → IsCountOf (IsMetOf m.geometry image Met row) (λ p. rows_on (page image p)) line
    → IsCountOf (IsMetOf m.geometry image (WithPage Met u) row) (λ p. rows_on (page image p)) line
not_more image m Met u row line never count = count_as _ _ _ line (λ p taken. (inl taken.0, taken.1))
    (λ p taken. ⊎_elim (λ was. (was, taken.1)) (λ e. absurd (never (sym (ap (λ (w : Owned). w.1.0) e))
    (subst (IsSeen m.geometry image row) (sym (ap (λ (w : Owned). w.0.0) e)) taken.1))) taken.0) count

counts_it : (image : Image) (m : AllocMap) (Met : Owned → Type 0) (u : Owned) (old new : List TableLine) → IsMapOf image m → HasNoSystemErrors m
    → (Met u → ⊥) → AreCounts image m Met old → CountsIt image m u old new → AreCounts image m (WithPage Met u) new
counts_it image m Met u old new of sound fresh h it = let c = it.counts in record {
  ids = ap (map (λ (line : TableLine). line.object)) c.is ∙ set_same (λ (line : TableLine). line.object) old it.place c.before c.after c.at c.more.object ∙ h.ids;
  each = λ i row line at here. let place = place_there m i row at in ⊎_elim
      (λ same. let is : line ≡ c.after = same_Some line c.after (sym here ∙ (ap (slice_get new) same ∙ (ap (λ l. slice_get l it.place) c.is ∙ set_here old it.place c.before c.after c.at))) in
      let id : row.id ≡ u.1.0 = sym place.is ∙ (ap (slice_index (ids_of m.objects.items)) same ∙ it.at.is) in
      let of_row : IsRowOf image u row = record { object = object_of_place image m i row of sound at; id = id } in
      subst (IsCountOf (IsMetOf m.geometry image (WithPage Met u) row) (λ p. rows_on (page image p))) (sym is)
      (seen_more image m Met u row c.before c.after of.pages id
      (subst (λ r. IsSeen m.geometry image r u.0.0) (one_row image m u it.seen.row row of sound it.seen.of of_row) it.seen.seen)
      fresh (h.each i row c.before at (ap (slice_get old) same ∙ c.at)) c.more))
      (λ other. not_more image m Met u row line
      (λ id s. other (one_place m i it.place u.1.0 (stand_by_id image m of sound) (subst (IsPlaceOf m i) id place) it.at))
      (h.each i row line at (sym (set_other old it.place i c.after other) ∙ (ap (λ l. slice_get l i) (sym c.is) ∙ here))))
      (same_or_other i it.place);
}

pub counts_more : (image : Image) (m : AllocMap) (Met : Owned → Type 0) (u : Owned) (old new : List TableLine) → IsMapOf image m → HasNoSystemErrors m
    → (Met u → ⊥) → AreCounts image m Met old → CountsSeen image m u old new → AreCounts image m (WithPage Met u) new
counts_more image m Met u old new of sound fresh h c = ⊎_elim (λ it. counts_it image m Met u old new of sound fresh h it)
    (λ stays. record {
      ids = ap (map (λ (line : TableLine). line.object)) stays.1 ∙ h.ids;
      each = λ i row line at here. not_more image m Met u row line
          (λ id s. stays.0 (record { row = row; of = record { object = object_of_place image m i row of sound at; id = id }; seen = s }))
          (h.each i row line at (ap (λ l. slice_get l i) (sym stays.1) ∙ here));
    }) c

pub counts_as : (image : Image) (m : AllocMap) (Met Other : Owned → Type 0) (lines : List TableLine) → ((v : Owned) → Met v → Other v)
    → ((v : Owned) → Other v → Met v) → AreCounts image m Met lines → AreCounts image m Other lines
counts_as image m Met Other lines there back h = record {
  ids = h.ids;
  each = λ i row line at here. count_as _ _ _ line (λ p taken. (there (owned p row.id) taken.0, taken.1))
      (λ p taken. (back (owned p row.id) taken.0, taken.1)) (h.each i row line at here);
}

-- lines that name the same objects
same_objects : (one two now : List TableLine) → AreSums one two now → map (λ (line : TableLine). line.object) now ≡ map (λ (line : TableLine). line.object) one
same_objects one two now sums = same_map (λ (line : TableLine). line.object) now one sums.long
    (λ i d low. (sums.each i d (let long = sums.long in omega (arith, low, long))).object) where
      same_map : {X Y : Type 0} (f : X → Y) (xs ys : List X) → length xs ≡ length ys
          → ((i : ℕ) (d : X) → i < length xs → f (get_or xs i d) ≡ f (get_or ys i d)) → map f xs ≡ map f ys
      same_map f [] [] long h = refl
      same_map f [] (y ∷ ys) long h = absurd (omega (arith, long))
      same_map f (x ∷ xs) [] long h = absurd (omega (arith, long))
      same_map f (x ∷ xs) (y ∷ ys) long h =
          ap (λ z. z ∷ map f xs) (h 0 x (omega arith)) ∙ ap (λ l. f y ∷ l) (same_map f xs ys (omega (arith, long)) (λ i d low. h (suc i) d (omega (arith, low))))

-- pages of two kinds that share none
pub counts_both : (image : Image) (m : AllocMap) (First Second : Owned → Type 0) (one two now : List TableLine) → length image ≡ m.pages
    → ((u : Owned) → First u → Second u → ⊥) → AreCounts image m First one → AreCounts image m Second two → AreSums one two now
    → AreCounts image m (λ u. First u ⊎ Second u) now
counts_both image m First Second one two now pages never h k sums = record {
  ids = same_objects one two now sums ∙ h.ids;
  each = λ i row line at here.
      let within : i < length now = slice_get_within now i line here in
      let long = sums.long in
      let same = sums.same in
      let inside : i < length one = omega (arith, within, long) in
      let is : get_or now i line ≡ line = same_Some (get_or now i line) line (sym (slice_get-get_or now i line within) ∙ here) in
      let sum : IsSumOf (get_or one i line) (get_or two i line) line = subst (IsSumOf (get_or one i line) (get_or two i line)) is (sums.each i line inside) in
      count_both (IsMetOf m.geometry image First row) (IsMetOf m.geometry image Second row) (IsMetOf m.geometry image (λ u. First u ⊎ Second u) row) (λ p. rows_on (page image p))
      (get_or one i line) (get_or two i line) line (h.each i row (get_or one i line) at (slice_get-get_or one i line inside))
      (k.each i row (get_or two i line) at (slice_get-get_or two i line (omega (arith, inside, same)))) (countable image m (λ u. First u ⊎ Second u) row pages)
      (record {
        sound = λ p taken. ⊎_elim (λ a. inl (a, taken.1)) (λ b. inr (b, taken.1)) taken.0;
        first = λ p taken. (inl taken.0, taken.1);
        second = λ p taken. (inr taken.0, taken.1);
        never = λ p a b. never (owned p row.id) a.0 b.0;
      }) sum;
}
