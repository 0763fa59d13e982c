-- The pages that the maps give an object are those that are allocated to it.
use Rattle.std.proofs.Common.{◌≡◌, ◌↔◌, ◌⊎◌, ℕ, ◌+◌, ◌*◌, ◌/◌, ◌%◌, ◌<◌, ◌≤◌, ◌==◌, ◌&&◌, Bool, true, false, not, nat_lt, IsTrue, List, [], ◌∷◌, Contains, Some, None, Ordering, filter, length, replicate, slice_index, get_or, arith, rules, sym, subst, ap, ◌∙◌, refl, inl, inr, ⊎_elim}
use Rattle.std.specs.Prelude.{slice_get, map, Option}
use Rattle.std.specs.Option.{option_map}
use Rattle.std.specs.List.{All, range_with_len}
use Rattle.std.proofs.lemmas.List.{length-map}
use Rattle.std.proofs.lemmas.List.Elements.{All-filter, All-map, All-from_get_or}
use Rattle.std.specs.Int.{bit_at}
use Rattle.std.specs.List.Sorted.{IsStrictlySortedBy}
use Rattle.std.specs.Ordering.{nat_cmp, on}
use Rattle.std.specs.declared.cmp.Ordering.TheVariants.{Less, Equal}
use Rattle.std.proofs.lemmas.Bool.{ltb-true, ltb-false, lt-ltb, le-ltb, not-true, eqb-true, eq-eqb, or_cases, or_left, or_right, and_from}
use Rattle.std.proofs.lemmas.Cmp.{nat_cmp_total, tied_itself}
use Rattle.std.proofs.lemmas.List.FromFn.{get_or-map-range_with_len, get_or-range_with_len, length-range_with_len}
use Rattle.std.proofs.lemmas.Map.Keys.{sorted_tail}
use Rattle.std.proofs.lemmas.Option.{slice_get-get_or, slice_get-map, slice_get_cases, slice_get_within, get_or_from_slice_get, same_Some}
use Rattle.std.proofs.lemmas.List.{get_or-map, get_or_default, get_or-replicate, get_or_past, length-replicate}
use Rattle.std.proofs.lemmas.Nat.Bits.{bit_at-zero}
use Rattle.spec_file.specs.declared.geometry.Geometry.{Geometry}
use Rattle.spec_file.specs.Image.{Image}
use Rattle.spec_file.specs.Pfs.{is_allocated_byte}
use Rattle.spec_file.specs.CatalogRows.{CatalogRow}
use Rattle.spec_chain.specs.Chains.{IsObject}
use Rattle.spec_chain.specs.Marks.{IsMarked}
use Rattle.spec_chain.specs.Uses.{IsUse, HoldsPage, IsAllocatedTo, pfs_byte, is_allocated}
use Rattle.db_cat.specs.declared.rows.CatRow.{CatRow}
use Rattle.db_cat.specs.Rows.{row_of}
use Rattle.ck_facts.specs.declared.map.AllocMap.{AllocMap}
use Rattle.ck_facts.specs.declared.map.ExtentMap.{ExtentMap}
use Rattle.ck_facts.specs.declared.map.PageUse.{PageUse}
use Rattle.ck_facts.specs.MapOf.{IsMapOf, no_extent, extent_at, ids_of}
use Rattle.ck_facts.proofs.MapLaws.{extent_of}
use Rattle.ck_facts.specs.Maps.{HasNoSystemErrors, has_mark, AreObjects, AreAllUses, use_of, rows_of_objects}
use Rattle.ck_facts.specs.Owners.{Owned, owned, IsObjectAt, IsPlaceOf, StandById, AreOwnersIn}
use Rattle.ck_facts.specs.OwnedBy.{is_marked, is_single, is_held, is_owned_by, owned_at, owners_of, IsUnowned}
use Rattle.ck_facts.specs.PageUses.{IsByPage, uses_between}
use Rattle.spec_check.proofs.Members.{nothing_there, cons_cases, cons_here, cons_there, filter_from, filter_in, below, sorted_map}
use Rattle.ck_facts.proofs.Between.{between_by_page, page_in_extent}
use Rattle.ck_facts.proofs.OwnerLists.{owns, AreOwned}

pub empty_list : {X : Type 0} (xs : List X) → length xs ≡ 0 → xs ≡ []
empty_list [] h = refl
empty_list (x ∷ xs) h = absurd (omega (arith, h))

-- a byte of marks that are all 0
zero_byte : (n i : ℕ) → slice_index (replicate n 0) i ≡ 0
zero_byte n i = ⊎_elim (λ (b : i < n). get_or-replicate n i 0 0 b)
    (λ (b : n ≤ i). get_or_past (replicate n 0) i 0 (omega (arith, b, length-replicate {A = ℕ} n 0))) (split i n) where
      split : (i n : ℕ) → (i < n) ⊎ (n ≤ i)
      split i n = search (rules, arith)

no_mark : (byte i : ℕ) → byte ≡ 0 → (bit_at byte i == 1) ≡ false
no_mark byte i h = ap (λ b. bit_at b i == 1) h ∙ ap (λ b. b == 1) (bit_at-zero i)

pub unmarked_where_zero : (m : AllocMap) (e : ℕ) (x : ExtentMap) → e < length m.extents.items → x ≡ get_or m.extents.items e x
    → x.marks ≡ replicate 16 0 → (i : ℕ) → has_mark (extent_at m e) i ≡ false
unmarked_where_zero m e x within is zeros i =
    let same : extent_at m e ≡ x = get_or_default m.extents.items e no_extent x within ∙ sym is in
    ap (λ (y : ExtentMap). has_mark y i) same
    ∙ no_mark (slice_index x.marks (i / 8)) (i % 8) (ap (λ (l : List ℕ). slice_index l (i / 8)) zeros ∙ zero_byte 16 (i / 8))

-- an id names one object
apart : (a b : ℕ) → nat_cmp a b ≡ Less → a ≡ b → ⊥
apart a b less same =
    let tied : nat_cmp a b ≡ Equal = subst (λ n. nat_cmp a n ≡ Equal) same (tied_itself nat_cmp_total a) in
    let no_ : Less ≡ Equal = sym less ∙ tied in cc

abbrev by_id : CatalogRow → CatalogRow → Ordering
by_id = on (λ r. r.id) nat_cmp

pub same_row : (rows : List CatalogRow) (r s : CatalogRow) → IsStrictlySortedBy by_id rows → Contains rows r → Contains rows s → r.id ≡ s.id → r ≡ s
same_row [] r s sorted a b same = absurd (nothing_there r a)
same_row (x ∷ xs) r s sorted a b same = ⊎_elim
    (λ e. ⊎_elim (λ f. sym e ∙ f)
    (λ later. absurd (apart x.id s.id (below by_id x xs s sorted later) (ap (λ (w : CatalogRow). w.id) e ∙ same)))
    (cons_cases x xs s b))
    (λ there. ⊎_elim (λ f. absurd (apart x.id r.id (below by_id x xs r sorted there) (ap (λ (w : CatalogRow). w.id) f ∙ sym same)))
    (λ later. same_row xs r s (sorted_tail by_id x xs sorted) there later same)
    (cons_cases x xs s b))
    (cons_cases x xs r a)

-- whether one of a page's uses is that of a single-page slot of an object
both : (x y : Bool) → IsTrue (x && y) → IsTrue x × IsTrue y
both true y h = (refl, h)
both false y h = absurd (cc)

held_from : (id : ℕ) (uses : List PageUse) → IsTrue (is_held id uses) → (u : PageUse) × Contains uses u × IsTrue (is_single id u)
held_from id [] h = absurd (cc)
held_from id (u ∷ us) h = ⊎_elim (λ here. (u, cons_here u us, here))
    (λ later. let r = held_from id us later in (r.0, cons_there u us r.0 r.1, r.2)) (or_cases (is_single id u) (is_held id us) h)

held_in : (id : ℕ) (uses : List PageUse) (u : PageUse) → Contains uses u → IsTrue (is_single id u) → IsTrue (is_held id uses)
held_in id [] u h is = absurd (nothing_there u h)
held_in id (x ∷ xs) u h is = ⊎_elim
    (λ e. or_left (is_single id x) (is_held id xs) (subst (λ (w : PageUse). IsTrue (is_single id w)) (sym e) is))
    (λ t. or_right (is_single id x) (is_held id xs) (held_in id xs u t is)) (cons_cases x xs u h)

holds_from : (g : Geometry) (image : Image) (rows : List CatalogRow) (uses : List PageUse) (row : CatalogRow) (p : ℕ)
    → AreObjects image rows → AreAllUses g image uses → Contains rows row → IsTrue (is_held row.id (uses_between p (p + 1) uses))
    → (i : ℕ) × HoldsPage g image row i p
holds_from g image rows uses row p objects all here h =
    let m = held_from row.id (uses_between p (p + 1) uses) h in
    let u = m.0 in
    let high = filter_from (λ w. nat_lt w.page (p + 1)) (filter (λ w. not (nat_lt w.page p)) uses) u m.1 in
    let low = filter_from (λ w. not (nat_lt w.page p)) uses u high.0 in
    let at_least = ltb-false u.page p (not-true (nat_lt u.page p) low.1) in
    let at_most = ltb-true u.page (p + 1) high.1 in
    let page_is : u.page ≡ p = omega (arith, at_least, at_most) in
    let parts = both (u.object == row.id) (nat_lt u.place 8) m.2 in
    let use_ : IsUse g image u.page (use_of u) = all.sound u low.0 in
    let same : use_.0 ≡ row = same_row rows use_.0 row objects.sorted ((objects.same use_.0).1 use_.1) here (use_.2 ∙ eqb-true u.object row.id parts.0) in
    let small : u.place < 8 = ltb-true u.place 8 parts.1 in (
      u.place,
      subst (λ q. HoldsPage g image row u.place q) page_is (⊎_elim (λ held. subst (λ r. HoldsPage g image r u.place u.page) same held)
          (λ chain. let last = chain.0 in absurd (omega (arith, small, last))) use_.3),
    )

holds_in : (g : Geometry) (image : Image) (uses : List PageUse) (row : CatalogRow) (p i : ℕ)
    → AreAllUses g image uses → IsObject image row → HoldsPage g image row i p → IsTrue (is_held row.id (uses_between p (p + 1) uses))
holds_in g image uses row p i all object held =
    let u : PageUse = record { page = p; object = row.id; place = i } in
    held_in row.id (uses_between p (p + 1) uses) u
    (filter_in (λ w. nat_lt w.page (p + 1)) (filter (λ w. not (nat_lt w.page p)) uses) u
    (filter_in (λ w. not (nat_lt w.page p)) uses u (all.complete p (record { object = row.id; place = i }) (row, object, refl, inl held)) (ap not (le-ltb p p (omega arith))))
    (lt-ltb p (p + 1) (omega arith)))
    (and_from (row.id == row.id) (nat_lt i 8) (eq-eqb row.id row.id refl) (lt-ltb i 8 held.0.0))

extent_inside : (n p : ℕ) → n % 8 ≡ 0 → p < n → p / 8 < n / 8
extent_inside n p whole h = omega arith

-- the extents that an object marks
marked_same : (image : Image) (m : AllocMap) (i p : ℕ) (row : CatalogRow) → IsMapOf image m → HasNoSystemErrors m
    → IsObjectAt m i row → p < m.pages
    → IsTrue (is_marked m i p) ↔ (IsMarked m.geometry image row (p / 8) × IsTrue (is_allocated m.geometry image p))
marked_same image m i p row of sound at low =
    let x : ExtentMap = extent_at m (p / 8) in
    let is = extent_of image m of sound (p / 8) (extent_inside m.pages p m.shape.whole low) in
    let byte : slice_index m.pfs.items p ≡ pfs_byte m.geometry image p = ap (λ (l : List ℕ). slice_index l p) (of.whole sound).pfs
    ∙ get_or-map-range_with_len (pfs_byte m.geometry image) 0 m.pages p p 0 low (omega arith) in
    let bit : is_allocated_byte (slice_index m.pfs.items p) ≡ is_allocated m.geometry image p = ap is_allocated_byte byte in (
      λ h. let parts = both (has_mark x i) (is_allocated_byte (slice_index m.pfs.items p)) h in
          ((is.marks i row at).0 parts.0, subst (λ b. IsTrue b) bit parts.1),
      λ h. and_from (has_mark x i) (is_allocated_byte (slice_index m.pfs.items p)) ((is.marks i row at).1 h.0) (subst (λ b. IsTrue b) (sym bit) h.1),
    )

pub row_there : (rows : List CatalogRow) (i : ℕ) (row : CatalogRow) → slice_get rows i ≡ Some row → Contains rows row
row_there rows i row at = ⊎_elim (λ r. let same : r.0 ≡ row = same_Some r.0 row (sym r.2 ∙ at) in subst (Contains rows) same (i, r.1, r.3))
    (λ past. let no_ : Some row ≡ None = sym at ∙ past.1 in absurd (cc)) (slice_get_cases rows i).1

id_told : (o : Option CatRow) (row : CatalogRow) → option_map row_of o ≡ Some row → option_map (λ (r : CatRow). r.id.0) o ≡ Some row.id
id_told (Some r) row is = ap (λ (w : CatalogRow). Some w.id) (same_Some (row_of r) row is)
id_told None row is = absurd (cc)

id_at : (objects : List CatRow) (i : ℕ) (row : CatalogRow) → slice_get (rows_of_objects objects) i ≡ Some row → slice_index (ids_of objects) i ≡ row.id
id_at objects i row at = get_or_from_slice_get (ids_of objects) i row.id 0
    (slice_get-map (λ (r : CatRow). r.id.0) objects i ∙ id_told (slice_get objects i) row (sym (slice_get-map row_of objects i) ∙ at))

owned_from : (image : Image) (m : AllocMap) (i p : ℕ) (row : CatalogRow) → IsMapOf image m → HasNoSystemErrors m → IsObjectAt m i row → p < m.pages
    → IsTrue (owns m p i) → IsAllocatedTo m.geometry image row p
owned_from image m i p row of sound at low h =
    let whole = of.whole sound in
    let pages : length image ≡ m.pages = of.pages in
    let id = slice_index (ids_of m.objects.items) i in
    let uses = uses_between p (p + 1) m.uses.items in
    ⊎_elim (λ marked. let r = (marked_same image m i p row of sound at low).0 marked in inr (omega (arith, low, pages), r.0, r.1))
    (λ held. inl (holds_from m.geometry image (rows_of_objects m.objects.items) m.uses.items row p whole.objects whole.uses
    (row_there (rows_of_objects m.objects.items) i row at) (subst (λ n. IsTrue (is_held n uses)) (id_at m.objects.items i row at) held)))
    (or_cases (is_marked m i p) (is_held id uses) h)

owned_in : (image : Image) (m : AllocMap) (i p : ℕ) (row : CatalogRow) → IsMapOf image m → HasNoSystemErrors m → IsObjectAt m i row → p < m.pages
    → IsAllocatedTo m.geometry image row p → IsTrue (owns m p i)
owned_in image m i p row of sound at low h =
    let whole = of.whole sound in
    let object : IsObject image row = (whole.objects.same row).0 (row_there (rows_of_objects m.objects.items) i row at) in
    let id = slice_index (ids_of m.objects.items) i in
    let uses = uses_between p (p + 1) m.uses.items in
    ⊎_elim (λ held. or_right (is_marked m i p) (is_held id uses)
    (subst (λ n. IsTrue (is_held n uses)) (sym (id_at m.objects.items i row at)) (holds_in m.geometry image m.uses.items row p held.0 whole.uses object held.1)))
    (λ marked. or_left (is_marked m i p) (is_held id uses) ((marked_same image m i p row of sound at low).1 (marked.1, marked.2))) h

-- where the objects stand in a map
object_there : (objects : List CatRow) (i : ℕ) → i < length objects → (row : CatalogRow) × (slice_get (rows_of_objects objects) i ≡ Some row)
object_there objects i below_end = ⊎_elim (λ r. (row_of r.0, slice_get-map row_of objects i ∙ ap (option_map row_of) r.2))
    (λ past. let end = past.0 in absurd (omega (arith, end, below_end))) (slice_get_cases objects i).1

object_within : (objects : List CatRow) (i : ℕ) (row : CatalogRow) → slice_get (rows_of_objects objects) i ≡ Some row → i < length objects
object_within objects i row at =
    let inside = slice_get_within (rows_of_objects objects) i row at in
    omega (arith, inside, length-map objects row_of)

row_place : (rows : List CatalogRow) (row : CatalogRow) → Contains rows row → (i : ℕ) × (slice_get rows i ≡ Some row)
row_place rows row h = (h.0, slice_get-get_or rows h.0 row h.1 ∙ ap Some h.2)

pub ids_same : (objects : List CatRow) → map (λ (r : CatalogRow). r.id) (rows_of_objects objects) ≡ ids_of objects
ids_same [] = refl
ids_same (x ∷ xs) = ap (λ l. x.id.0 ∷ l) (ids_same xs)

pub stand_by_id : (image : Image) (m : AllocMap) → IsMapOf image m → HasNoSystemErrors m → StandById m
stand_by_id image m of sound = subst (IsStrictlySortedBy nat_cmp) (ids_same m.objects.items)
    (sorted_map (λ (r : CatalogRow). r.id) nat_cmp (rows_of_objects m.objects.items) (of.whole sound).objects.sorted)

pub place_there : (m : AllocMap) (i : ℕ) (row : CatalogRow) → IsObjectAt m i row → IsPlaceOf m i row.id
place_there m i row at = record { inside = object_within m.objects.items i row at; is = id_at m.objects.items i row at }

-- an object of the image stands at one place of the map
pub place_of : (image : Image) (m : AllocMap) (row : CatalogRow) → IsMapOf image m → HasNoSystemErrors m → IsObject image row → (i : ℕ) × IsObjectAt m i row
place_of image m row of sound object = row_place (rows_of_objects m.objects.items) row (((of.whole sound).objects.same row).1 object)

eighth : (e p : ℕ) → 8 * e ≤ p → p < 8 * e + 8 → p / 8 ≡ e
eighth e p low high = omega arith

within_eighth : (e p : ℕ) → p / 8 ≡ e → (8 * e ≤ p) × (p < 8 * e + 8)
within_eighth e p h = (omega arith, omega arith)

inside_file : (e p pages : ℕ) → e < pages / 8 → p < 8 * e + 8 → p < pages
inside_file e p pages h low = omega arith

-- the owners of an extent's pages, by the maps, are those of the image
pub owners_are : (image : Image) (m : AllocMap) (e n : ℕ) (owners : List Owned) → IsMapOf image m → HasNoSystemErrors m → n ≡ length m.objects.items
    → e < m.pages / 8 → AreOwned m n (8 * e) (8 * e + 8) owners → AreOwnersIn m.geometry image e owners
owners_are image m e n owners of sound count inside h = record {
  sorted = h.sorted (stand_by_id image m of sound);
  sound = λ u c.
      let s = h.sound u c in
      let object = s.object in
      let page : s.page ≡ u.0.0 = ap (λ (v : Owned). v.0.0) s.is in
      let r = object_there m.objects.items s.place (omega (arith, object, count)) in
      record {
        row = r.0;
        object = ((of.whole sound).objects.same r.0).0 (row_there (rows_of_objects m.objects.items) s.place r.0 r.1);
        id = sym (id_at m.objects.items s.place r.0 r.1) ∙ ap (λ (v : Owned). v.1.0) s.is;
        allocated = subst (IsAllocatedTo m.geometry image r.0) page
            (owned_from image m s.place s.page r.0 of sound r.1 (inside_file e s.page m.pages inside s.before) s.owns);
        extent = ap (λ q. q / 8) (sym page) ∙ eighth e s.page s.from s.before;
      };
  complete = λ u is.
      let range = within_eighth e u.0.0 is.extent in
      let at = place_of image m is.row of sound is.object in
      let place = place_there m at.0 is.row at.1 in
      let there = place.inside in
      h.complete u (record {
        page = u.0.0;
        place = at.0;
        from = range.0;
        before = range.1;
        object = omega (arith, there, count);
        owns = owned_in image m at.0 u.0.0 is.row of sound at.1 (inside_file e u.0.0 m.pages inside range.1) is.allocated;
        is = ap (owned u.0.0) (place.is ∙ is.id);
      });
}

-- nobody owns a page of an extent that nobody marks and whose pages have no use
unmarked_here : (m : AllocMap) (p i : ℕ) → has_mark (extent_at m (p / 8)) i ≡ false → IsTrue (is_marked m i p) → ⊥
unmarked_here m p i none h =
    let marked = (both (has_mark (extent_at m (p / 8)) i) (is_allocated_byte (slice_index m.pfs.items p)) h).0 in
    let no_ : false ≡ true = sym none ∙ marked in cc

pub never_owned : (m : AllocMap) (e : ℕ) (uses : List PageUse) → IsUnowned m e uses → uses ≡ uses_between (8 * e) (8 * e + 8) m.uses.items
    → (q i : ℕ) → 8 * e ≤ q → q < 8 * e + 8 → IsTrue (owns m q i) → ⊥
never_owned m e uses none is q i from below_end h =
    let id = slice_index (ids_of m.objects.items) i in
    let here = uses_between q (q + 1) m.uses.items in
    let empty : here ≡ [] = sym (page_in_extent q (8 * e) (8 * e + 8) m.uses.items from below_end) ∙ ap (uses_between q (q + 1)) (sym is ∙ none.unused) in
    ⊎_elim (λ marked. unmarked_here m q i (subst (λ x. has_mark (extent_at m x) i ≡ false) (sym (eighth e q from below_end)) (none.unmarked i)) marked)
    (λ held. let no_ : false ≡ true = subst (λ (l : List PageUse). is_held id l ≡ true) empty held in cc)
    (or_cases (is_marked m i q) (is_held id here) h)

-- the uses of a page, found among those of its extent
pub uses_found : (m : AllocMap) (low p : ℕ) (found here : List PageUse) → IsByPage m.uses.items
    → (IsByPage m.uses.items → found ≡ uses_between low (low + 8) m.uses.items)
    → (IsByPage found → here ≡ uses_between p (p + 1) found) → low ≤ p → p < low + 8 → here ≡ uses_between p (p + 1) m.uses.items
uses_found m low p found here sorted first second from below_end =
    let is = first sorted in
    second (subst IsByPage (sym is) (between_by_page low (low + 8) m.uses.items sorted))
    ∙ (ap (uses_between p (p + 1)) is ∙ page_in_extent p low (low + 8) m.uses.items from below_end)

-- each owner of a page is named with that page
pub all_owners : (m : AllocMap) (uses : List PageUse) (p n : ℕ) → p < m.pages → All (λ (u : Owned). u.0.0 < m.pages) (owners_of m uses p n)
all_owners m uses p n below_end =
    All-map (λ (u : Owned). u.0.0 < m.pages) (owned_at m p) (filter (is_owned_by m uses p) (range_with_len 0 n)) (λ k d h. below_end)

-- a page with the id of the i-th object
pub named_at : (m : AllocMap) (p i : ℕ) (object : CatRow) → i < length m.objects.items → object ≡ get_or m.objects.items i object
    → (record { 0 = p }, object.id) ≡ owned_at m p i
named_at m p i object within is =
    ap (owned p) (ap (λ (r : CatRow). r.id.0) is ∙ sym (get_or-map (λ (r : CatRow). r.id.0) m.objects.items i object 0 within))
