-- What each step of allocation does to the pages that are allocated to its object.
use Rattle.std.proofs.Common.{◌≡◌, ◌≢◌, ◌⊎◌, ◌↔◌, ℕ, zero, ◌/◌, ◌%◌, ◌<◌, true, false, IsTrue, length, refl, sym, ap, subst, ◌∙◌, inl, inr, ⊎_elim, arith}
use Rattle.std.proofs.lemmas.Bool.{cases_eq, both_ways, eq-eqb}
use Rattle.spec_file.specs.declared.geometry.Geometry.{Geometry}
use Rattle.spec_file.specs.declared.pfs.PfsKind.TheVariants.{Uniform}
use Rattle.spec_file.specs.Image.{Image}
use Rattle.spec_file.specs.Pfs.{is_allocated_byte}
use Rattle.spec_file.specs.Places.{is_free}
use Rattle.spec_file.specs.Roles.{is_ordinary}
use Rattle.spec_file.specs.CatalogRows.{CatalogRow}
use Rattle.spec_file.specs.Iam.{single_slot_count}
use Rattle.spec_chain.specs.Chains.{IsObject, pointer, IsChainPage, IsInChain}
use Rattle.spec_chain.specs.Marks.{IsMarker, IsMarked}
use Rattle.spec_chain.specs.Uses.{Use, HoldsPage, IsUse, IsUseBy, IsAllocatedTo, pfs_byte, is_allocated}
use Rattle.spec_chain.proofs.Pointers.{inside_below}
use Rattle.spec_extents.specs.Extents.{extent_of, Fits}
use Rattle.spec_steps.specs.AtMost.{Changed, AtMost, free_bit, byte_of, page_of, either, maps_of}
use Rattle.spec_steps.specs.Acts.{Owns}
use Rattle.spec_steps.specs.AllocatedPages.{IsSamePage, KeepsPages, GetsPage, GivesPage}
use Rattle.spec_steps.specs.Taking.{PutsIntoSlot, ChangesMarkedPage, MarksExtent, GrowsChain}
use Rattle.spec_steps.specs.Freeing.{FreesSingle, FreesLast, chain_pages}
use Rattle.law_extents.proofs.GoodKinds.{used_allocated, zero_not, free_kind, all_ordinary}
use Rattle.law_frames.proofs.Held.{IsStart, goods, extent_below, the_row}
use Rattle.law_frames.proofs.WholeFiles.{after}
use Rattle.law_steps.proofs.Owners.{takeable_is_nobodys, free_is_nobodys}
use Rattle.law_steps.proofs.OneObject.{below}
use Rattle.law_steps.proofs.OwnPages.{slot_apart, marked_apart, own_of_marked, uses, marks, same_bytes, own_object, marked_page_clean}
use Rattle.law_steps.proofs.FilledSlots.{slot_uses, slot_markers, slot_object, slot_clean}
use Rattle.law_steps.proofs.FreedSlots.{uses_left, freed_markers, freed_object, freed_single_clean}
use Rattle.law_steps.proofs.MarkedExtents.{mark_uses, mark_uses_in, markers, mark_object, mark_clean}
use Rattle.law_steps.proofs.FreedExtents.{freed_last_uses, freed_last_uses_in, marker_other, freed_last_object, freed_last_clean}
use Rattle.law_steps.proofs.GrownChains.{growth_uses, use_in, adds, onto, growth_clean}

abbrev slot_use : CatalogRow → ℕ → Use
slot_use row i = record { object = row.id; place = i }

-- ---- the pages of one object

module _ (g : Geometry) (image : Image) (row : CatalogRow) (start : IsStart g image) (object : IsObject image row) where
  allocated_owned : (q : ℕ) → IsAllocatedTo g image row q → Owns g image row q
  allocated_owned q (inl slot) = inl (slot.0, inl slot.1)
  allocated_owned q (inr marked) = inr marked.1

  allocated_inside : (q : ℕ) → IsAllocatedTo g image row q → q < length image
  allocated_inside q (inl slot) = inside_below (length image) q slot.1.1
  allocated_inside q (inr marked) = marked.0

  -- none is a page of its chain
  pub own_apart : (q k : ℕ) → IsAllocatedTo g image row q → IsChainPage g image row k → pointer image row k ≢ q
  own_apart q k (inl slot) is = slot_apart g image row slot.0 q k start object slot.1 is
  own_apart q k (inr marked) is = marked_apart g image row q k start object marked.0 marked.1 is

  -- one that objects may own has the bit of an allocated page
  pub own_allocated : (q : ℕ) → IsTrue (is_ordinary g q) → IsAllocatedTo g image row q → is_allocated g image q ≡ true
  own_allocated q ordinary (inl slot) =
      let inside = inside_below (length image) q slot.1.1 in
      used_allocated (pfs_byte g image q) slot.0 (((goods g image start (q / 8) (extent_below g image q start inside)).pages q refl).used ordinary (slot_use row slot.0)
      (row, object, refl, inl slot.1))
  own_allocated q ordinary (inr marked) = marked.2

  -- uses of slots, and marks, tell which they are
  from_slot : (q i : ℕ) → i < single_slot_count → IsUse g image q (slot_use row i) → HoldsPage g image row i q
  from_slot q i low (r, there, same, by) = by_place (subst (λ s. IsUseBy g image q s i) (the_row g image row r start object there same) by)
    where
      by_place : IsUseBy g image q row i → HoldsPage g image row i q
      by_place (inl holds) = holds
      by_place (inr chain) = let eight = chain.0 in absurd (omega (arith, eight, low))

  from_marker : (e : ℕ) → IsMarker g image e row.id → IsMarked g image row e
  from_marker e (r, there, same, marked) = subst (λ s. IsMarked g image s e) (the_row g image row r start object there same) marked

-- what is allocated to the object is so in another image, where uses of slots and marks of allocated pages are
allocated_on : (g : Geometry) (image image' : Image) (row : CatalogRow) (q : ℕ) → IsStart g image' → IsObject image row → IsObject image' row → length image' ≡ length image
    → ((i : ℕ) → i < single_slot_count → IsUse g image q (slot_use row i) → IsUse g image' q (slot_use row i))
    → (q < length image → IsMarker g image (q / 8) row.id → is_allocated g image q ≡ true → IsMarker g image' (q / 8) row.id × (is_allocated g image' q ≡ true))
    → IsAllocatedTo g image row q → IsAllocatedTo g image' row q
allocated_on g image image' row q later object object' size used marked (inl slot) =
    inl (slot.0, from_slot g image' row later object' q slot.0 slot.1.0.0 (used slot.0 slot.1.0.0 (row, object, refl, inl slot.1)))
allocated_on g image image' row q later object object' size used marked (inr mark) =
    let new = marked mark.0 (row, object, refl, mark.1) mark.2 in
    inr (subst (λ n. q < n) (sym size) mark.0, from_marker g image' row later object' (q / 8) new.0, new.1)

-- a page whose PFS byte is the same is allocated as before
same_bit : (g : Geometry) (image image' : Image) (q : ℕ) → pfs_byte g image' q ≡ pfs_byte g image q → is_allocated g image' q ≡ is_allocated g image q
same_bit g image image' q same = ap is_allocated_byte same

-- where a step changes page p, pages of the chain and the PFS byte of p at most, the object's other pages are as they were
same_page : (g : Geometry) (image image' : Image) (row : CatalogRow) (p : ℕ) (changed : Changed) → IsStart g image → IsObject image row → AtMost g changed image image'
    → ((q : ℕ) → changed.pages q → (q ≡ p) ⊎ IsInChain g image row q) → ((q : ℕ) → changed.bytes q → q ≡ p)
    → (q : ℕ) → IsAllocatedTo g image row q → q ≢ p → IsTrue (is_ordinary g q) → IsSamePage g image image' q
same_page g image image' row p changed start object most pages bytes q allocated other ordinary = record {
  bytes = most.pages q (inr ordinary) (λ c. ⊎_elim other (λ h. own_apart g image row start object q h.0 allocated h.1 h.2) (pages q c));
  pfs = most.bytes q (allocated_inside g image row start object q allocated) (λ c. other (bytes q c));
}

-- a step on a single page
pub single_pages : (p a q : ℕ) → (either (maps_of p) (either (page_of p) (page_of a))).pages q → (q ≡ p) ⊎ (q ≡ a)
single_pages p a q c = ⊎_elim (λ b. absurd (⊎_elim (λ x. x) (λ d. ⊎_elim (λ x. x) (λ x. x) d) b)) (λ b. b) c

single_byte : (p a q : ℕ) → (either (maps_of p) (either (page_of p) (page_of a))).bytes q → q ≡ p
single_byte p a q c = ⊎_elim (λ b. ⊎_elim (λ x. absurd x) (λ d. ⊎_elim (λ x. absurd x) (λ x. x) d) b) (λ b. absurd (⊎_elim (λ x. x) (λ x. x) b)) c

single_same : (g : Geometry) (image image' : Image) (row : CatalogRow) (p k q : ℕ) → IsStart g image → IsObject image row
    → AtMost g (either (maps_of p) (either (page_of p) (page_of (pointer image row k)))) image image' → IsChainPage g image row k
    → IsAllocatedTo g image row q → q ≢ p → IsTrue (is_ordinary g q) → IsSamePage g image image' q
single_same g image image' row p k q start object most is =
    same_page g image image' row p (either (maps_of p) (either (page_of p) (page_of (pointer image row k)))) start object most
    (λ r c. ⊎_elim (λ here. inl here) (λ there. inr (k, is, sym there)) (single_pages p (pointer image row k) r c)) (single_byte p (pointer image row k)) q

-- ---- a single page in a slot

pub slot_gets : (g : Geometry) (image image' : Image) (row : CatalogRow) (slot p : ℕ) → IsStart g image → PutsIntoSlot g image image' row slot p → GetsPage g image image' row p
slot_gets g image image' row slot p start puts = record { object = object'; new = new; allocated = λ q. (from q, into q); same = λ q old ordinary. same q old (not_new q old) ordinary }
  where
    object' : IsObject image' row
    object' = slot_object g image image' row slot p start puts

    later : IsStart g image'
    later = after g image image' start puts.most.size (slot_clean g image image' row slot p start puts).maps

    new : IsAllocatedTo g image row p → ⊥
    new old = takeable_is_nobodys g image start p puts.takeable row puts.object (allocated_owned g image row start puts.object p old)

    not_new : (q : ℕ) → IsAllocatedTo g image row q → q ≢ p
    not_new q old here = new (subst (IsAllocatedTo g image row) here old)

    same : (q : ℕ) → IsAllocatedTo g image row q → q ≢ p → IsTrue (is_ordinary g q) → IsSamePage g image image' q
    same q = single_same g image image' row p zero q start puts.object puts.most puts.first

    bit : (q : ℕ) → q < length image → q ≢ p → is_allocated g image' q ≡ is_allocated g image q
    bit q inside other = same_bit g image image' q (puts.most.bytes q inside (λ c. other (single_byte p row.first_iam q c)))

    from : (q : ℕ) → IsAllocatedTo g image' row q → IsAllocatedTo g image row q ⊎ (q ≡ p)
    from q h = ⊎_elim (λ here. inr here)
        (λ other. inl (allocated_on g image' image row q start object' puts.object (sym puts.most.size)
        (λ i low u. ⊎_elim (λ old. old) (λ added. absurd (other added.0)) ((slot_uses g image image' row slot p start puts q (slot_use row i)).0 u))
        (λ inside m a. ((slot_markers g image image' row slot p start puts (q / 8) row.id).0 m, sym (bit q (subst (λ n. q < n) puts.most.size inside) other) ∙ a)) h)) (cases_eq q p)

    holds_new : IsAllocatedTo g image' row p
    holds_new = inl (slot, from_slot g image' row later object' p slot puts.within ((slot_uses g image image' row slot p start puts p (slot_use row slot)).1 (inr (refl, refl))))

    into : (q : ℕ) → IsAllocatedTo g image row q ⊎ (q ≡ p) → IsAllocatedTo g image' row q
    into q (inl old) = allocated_on g image image' row q later puts.object object' puts.most.size
        (λ i low u. (slot_uses g image image' row slot p start puts q (slot_use row i)).1 (inl u))
        (λ inside m a. ((slot_markers g image image' row slot p start puts (q / 8) row.id).1 m, bit q inside (not_new q old) ∙ a)) old
    into q (inr here) = subst (IsAllocatedTo g image' row) (sym here) holds_new

-- ---- a page of a marked extent

module _ (g : Geometry) (image image' : Image) (row : CatalogRow) (p : ℕ) (start : IsStart g image) (sets : ChangesMarkedPage g image image' row p) where
  marked_object : IsObject image' row
  marked_object = own_object g image image' row p start (own_of_marked g image image' row p start sets)

  marked_later : IsStart g image'
  marked_later = after g image image' start sets.most.size (marked_page_clean g image image' row p start sets).maps

  marked_uses : (q : ℕ) (u : Use) → IsUse g image' q u ↔ IsUse g image q u
  marked_uses = uses g image image' row p start (own_of_marked g image image' row p start sets)

  marked_marks : (e m : ℕ) → IsMarker g image' e m ↔ IsMarker g image e m
  marked_marks = marks g image image' row p start (own_of_marked g image image' row p start sets)

  marked_bit : (q : ℕ) → q < length image → q ≢ p → is_allocated g image' q ≡ is_allocated g image q
  marked_bit q inside other = same_bit g image image' q (same_bytes g image image' row p start (own_of_marked g image image' row p start sets) q inside other)

  marked_same : (q : ℕ) → IsAllocatedTo g image row q → q ≢ p → IsTrue (is_ordinary g q) → IsSamePage g image image' q
  marked_same q old other ordinary = record {
    bytes = sets.most.pages q (inr ordinary) (λ c. ⊎_elim (λ x. x) other c);
    pfs = sets.most.bytes q (allocated_inside g image row start sets.object q old) (λ c. ⊎_elim other (λ x. x) c);
  }

  -- other pages are allocated as before
  marked_from : (q : ℕ) → q ≢ p → IsAllocatedTo g image' row q → IsAllocatedTo g image row q
  marked_from q other = allocated_on g image' image row q start marked_object sets.object (sym sets.most.size) (λ i low u. (marked_uses q (slot_use row i)).0 u)
      (λ inside m a. ((marked_marks (q / 8) row.id).0 m, sym (marked_bit q (subst (λ n. q < n) sets.most.size inside) other) ∙ a))

  marked_into : (q : ℕ) → q ≢ p → IsAllocatedTo g image row q → IsAllocatedTo g image' row q
  marked_into q other = allocated_on g image image' row q marked_later sets.object marked_object sets.most.size (λ i low u. (marked_uses q (slot_use row i)).1 u)
      (λ inside m a. ((marked_marks (q / 8) row.id).1 m, marked_bit q inside other ∙ a))

  pub marked_gets : is_allocated g image p ≡ false → is_allocated g image' p ≡ true → GetsPage g image image' row p
  marked_gets was is =
      let new = λ (old : IsAllocatedTo g image row p). both_ways (is_allocated g image p) was (own_allocated g image row start sets.object p sets.ordinary old) in
      let not_new = λ (q : ℕ) (old : IsAllocatedTo g image row q) (here : q ≡ p). new (subst (IsAllocatedTo g image row) here old) in
      let marked = from_marker g image' row marked_later marked_object (p / 8) ((marked_marks (p / 8) row.id).1 (row, sets.object, refl, sets.marked)) in record {
        object = marked_object;
        new = new;
        allocated = λ q. (
          λ h. ⊎_elim (λ here. inr here) (λ other. inl (marked_from q other h)) (cases_eq q p),
          λ h. ⊎_elim (λ old. marked_into q (not_new q old) old)
              (λ here. subst (IsAllocatedTo g image' row) (sym here) (inr (subst (λ n. p < n) (sym sets.most.size) sets.inside, marked, is))) h,
        );
        same = λ q old ordinary. marked_same q old (not_new q old) ordinary;
      }

  pub marked_gives : is_allocated g image p ≡ true → is_allocated g image' p ≡ false → GivesPage g image image' row p
  marked_gives was is =
      let gone = λ (h : IsAllocatedTo g image' row p). both_ways (is_allocated g image' p) is (own_allocated g image' row marked_later marked_object p sets.ordinary h) in record {
        object = marked_object;
        old = inr (sets.inside, sets.marked, was);
        allocated = λ q. (
          λ h. let other = λ (here : q ≡ p). gone (subst (IsAllocatedTo g image' row) here h) in (marked_from q other h, other),
          λ h. marked_into q h.1 h.0,
        );
        same = marked_same;
      }

-- ---- an extent that is marked

abbrev mark_changes : ℕ → ℕ → ℕ → Changed
mark_changes e p q = either (free_bit e) (either (byte_of p) (either (page_of p) (page_of q)))

uniform_allocated : (byte : ℕ) → Fits byte Uniform → is_allocated_byte byte ≡ true
uniform_allocated byte fits = let high = fits.flags in eq-eqb (byte / 64 % 2) 1 (omega (arith, high))

pub mark_gets : (g : Geometry) (image image' : Image) (row : CatalogRow) (k e p : ℕ) → IsStart g image → MarksExtent g image image' row k e p → GetsPage g image image' row p
mark_gets g image image' row k e p start marks = record { object = object'; new = new; allocated = λ q. (from q, into q); same = λ q old ordinary. same q old (not_new q old) ordinary }
  where
    object' : IsObject image' row
    object' = mark_object g image image' row k e p start marks

    later : IsStart g image'
    later = after g image image' start marks.most.size (mark_clean g image image' row k e p start marks).maps

    inside_p : p < length image
    inside_p = below image e p marks.inside marks.at

    new : IsAllocatedTo g image row p → ⊥
    new old = free_is_nobodys g image start p inside_p (subst (λ f. is_free g image f ≡ true) (sym marks.at) marks.was_free) row marks.object (allocated_owned g image row start marks.object p old)

    not_new : (q : ℕ) → IsAllocatedTo g image row q → q ≢ p
    not_new q old here = new (subst (IsAllocatedTo g image row) here old)

    byte_is : (q : ℕ) → (mark_changes e p (pointer image row k)).bytes q → q ≡ p
    byte_is q c = ⊎_elim (λ x. absurd x) (λ a. ⊎_elim (λ here. here) (λ b. absurd (⊎_elim (λ x. x) (λ x. x) b)) a) c

    same : (q : ℕ) → IsAllocatedTo g image row q → q ≢ p → IsTrue (is_ordinary g q) → IsSamePage g image image' q
    same = same_page g image image' row p (mark_changes e p (pointer image row k)) start marks.object marks.most
        (λ q c. ⊎_elim (λ x. absurd x) (λ a. ⊎_elim (λ x. absurd x) (λ b. ⊎_elim (λ here. inl here) (λ there. inr (k, marks.chain, sym there)) b) a) c) byte_is

    bit : (q : ℕ) → q < length image → q ≢ p → is_allocated g image' q ≡ is_allocated g image q
    bit q inside other = same_bit g image image' q (marks.most.bytes q inside (λ c. other (byte_is q c)))

    -- no page of a free extent is allocated
    was_zero : (q : ℕ) → q / 8 ≡ e → is_allocated g image q ≡ true → ⊥
    was_zero q at a =
        let kind = free_kind g e (extent_of g image e) (goods g image start e marks.inside) marks.was_free in
        zero_not (pfs_byte g image q) (kind.bytes q at (all_ordinary g e q at kind.system kind.boot)) a

    from : (q : ℕ) → IsAllocatedTo g image' row q → IsAllocatedTo g image row q ⊎ (q ≡ p)
    from q h = ⊎_elim (λ here. inr here)
        (λ other. inl (allocated_on g image' image row q start object' marks.object (sym marks.most.size) (λ i low u. mark_uses g image image' row k e p start marks q (slot_use row i) u)
        (λ inside m a. let old = sym (bit q (subst (λ n. q < n) marks.most.size inside) other) ∙ a in
        (⊎_elim (λ m. m) (λ added. absurd (was_zero q added.0 old)) ((markers g image image' row k e p start marks (q / 8) row.id).0 m), old)) h)) (cases_eq q p)

    into : (q : ℕ) → IsAllocatedTo g image row q ⊎ (q ≡ p) → IsAllocatedTo g image' row q
    into q (inl old) = allocated_on g image image' row q later marks.object object' marks.most.size (λ i low u. mark_uses_in g image image' row k e p start marks q (slot_use row i) u)
        (λ inside m a. ((markers g image image' row k e p start marks (q / 8) row.id).1 (inl m), bit q inside (not_new q old) ∙ a)) old
    into q (inr here) =
        let marked = from_marker g image' row later object' (p / 8) ((markers g image image' row k e p start marks (p / 8) row.id).1 (inr (marks.at, refl))) in
        subst (IsAllocatedTo g image' row) (sym here) (inr (subst (λ n. p < n) (sym marks.most.size) inside_p, marked, uniform_allocated (pfs_byte g image' p) marks.byte))

-- ---- a chain that grows

pub growth_keeps : (g : Geometry) (image image' : Image) (row : CatalogRow) (last p : ℕ) → IsStart g image → GrowsChain g image image' row last p → KeepsPages g image image' row
growth_keeps g image image' row last p start grows = record { object = object'; allocated = λ q. (from q, into q); same = λ q old ordinary. same q old (not_new q old) ordinary }
  where
    is_last : IsChainPage g image row last
    is_last = grows.pages.pages

    object' : IsObject image' row
    object' = onto g image image' row last p start grows row grows.object

    later : IsStart g image'
    later = after g image image' start grows.most.size (growth_clean g image image' row last p start grows).maps

    not_new : (q : ℕ) → IsAllocatedTo g image row q → q ≢ p
    not_new q old here = takeable_is_nobodys g image start p grows.takeable row grows.object (subst (Owns g image row) here (allocated_owned g image row start grows.object q old))

    same : (q : ℕ) → IsAllocatedTo g image row q → q ≢ p → IsTrue (is_ordinary g q) → IsSamePage g image image' q
    same q = single_same g image image' row p last q start grows.object grows.most is_last

    bit : (q : ℕ) → q < length image → q ≢ p → is_allocated g image' q ≡ is_allocated g image q
    bit q inside other = same_bit g image image' q (grows.most.bytes q inside (λ c. other (single_byte p (pointer image row last) q c)))

    old_marks : (e m : ℕ) → IsMarker g image' e m ↔ IsMarker g image e m
    old_marks = (adds g image image' row last p start grows).marks

    -- the new page is of an extent that nobody marks
    not_marked : (q : ℕ) → IsMarker g image (q / 8) row.id → q ≢ p
    not_marked q m here = takeable_is_nobodys g image start p grows.takeable row grows.object
        (inr (from_marker g image row start grows.object (p / 8) (subst (λ n. IsMarker g image (n / 8) row.id) here m)))

    from : (q : ℕ) → IsAllocatedTo g image' row q → IsAllocatedTo g image row q
    from q = allocated_on g image' image row q start object' grows.object (sym grows.most.size)
        (λ i low u. ⊎_elim (λ old. old) (λ added. let place = ap (λ (w : Use). w.place) added.1 in absurd (omega (arith, place, low)))
        (growth_uses g image image' row last p start grows q (slot_use row i) u))
        (λ inside m a. let old = (old_marks (q / 8) row.id).0 m in (old, sym (bit q (subst (λ n. q < n) grows.most.size inside) (not_marked q old)) ∙ a))

    into : (q : ℕ) → IsAllocatedTo g image row q → IsAllocatedTo g image' row q
    into q = allocated_on g image image' row q later grows.object object' grows.most.size
        (λ i low u. use_in g image image' row last p start grows q (slot_use row i) (inl u))
        (λ inside m a. ((old_marks (q / 8) row.id).1 m, bit q inside (not_marked q m) ∙ a))

-- ---- a single page that is freed

pub single_gives : (g : Geometry) (image image' : Image) (row : CatalogRow) (p : ℕ) → IsStart g image → FreesSingle g image image' row p → GivesPage g image image' row p
single_gives g image image' row p start frees =
    record { object = object'; old = inl (frees.slot, frees.holds); allocated = λ q. (λ h. (from q (gone q h) h, gone q h), λ h. into q h.1 h.0); same = same }
  where
    object' : IsObject image' row
    object' = freed_object g image image' row p start frees

    later : IsStart g image'
    later = after g image image' start frees.most.size (freed_single_clean g image image' row p start frees).maps

    same : (q : ℕ) → IsAllocatedTo g image row q → q ≢ p → IsTrue (is_ordinary g q) → IsSamePage g image image' q
    same q = single_same g image image' row p zero q start frees.object frees.most frees.holds.0.1

    bit : (q : ℕ) → q < length image → q ≢ p → is_allocated g image' q ≡ is_allocated g image q
    bit q inside other = same_bit g image image' q (frees.most.bytes q inside (λ c. other (single_byte p row.first_iam q c)))

    gone : (q : ℕ) → IsAllocatedTo g image' row q → q ≢ p
    gone q h here = zero_not (pfs_byte g image' p) frees.byte (own_allocated g image' row later object' p frees.ordinary (subst (IsAllocatedTo g image' row) here h))

    from : (q : ℕ) → q ≢ p → IsAllocatedTo g image' row q → IsAllocatedTo g image row q
    from q other = allocated_on g image' image row q start object' frees.object (sym frees.most.size)
        (λ i low u. ((uses_left g image image' row p start frees q (slot_use row i)).0 u).0)
        (λ inside m a. ((freed_markers g image image' row p start frees (q / 8) row.id).0 m, sym (bit q (subst (λ n. q < n) frees.most.size inside) other) ∙ a))

    into : (q : ℕ) → q ≢ p → IsAllocatedTo g image row q → IsAllocatedTo g image' row q
    into q other = allocated_on g image image' row q later frees.object object' frees.most.size
        (λ i low u. (uses_left g image image' row p start frees q (slot_use row i)).1 (u, other))
        (λ inside m a. ((freed_markers g image image' row p start frees (q / 8) row.id).1 m, bit q inside other ∙ a))

-- ---- the last page of a marked extent

abbrev last_changes : Geometry → Image → CatalogRow → ℕ → Changed
last_changes g image row p = either (free_bit (p / 8)) (either (byte_of p) (either (page_of p) (chain_pages g image row)))

pub last_gives : (g : Geometry) (image image' : Image) (row : CatalogRow) (p : ℕ) → IsStart g image → FreesLast g image image' row p → is_allocated g image p ≡ true → GivesPage g image image' row p
last_gives g image image' row p start frees was =
    record { object = object'; old = inr (frees.inside, frees.marked, was); allocated = λ q. (λ h. (from q (gone q h) h, gone q h), λ h. into q h.1 h.0); same = same }
  where
    object' : IsObject image' row
    object' = freed_last_object g image image' row p start frees

    later : IsStart g image'
    later = after g image image' start frees.most.size (freed_last_clean g image image' row p start frees).maps

    byte_is : (q : ℕ) → (last_changes g image row p).bytes q → q ≡ p
    byte_is q c = ⊎_elim (λ x. absurd x) (λ a. ⊎_elim (λ here. here) (λ b. absurd (⊎_elim (λ x. x) (λ x. x) b)) a) c

    same : (q : ℕ) → IsAllocatedTo g image row q → q ≢ p → IsTrue (is_ordinary g q) → IsSamePage g image image' q
    same = same_page g image image' row p (last_changes g image row p) start frees.object frees.most (λ q c. ⊎_elim (λ x. absurd x) (λ a. ⊎_elim (λ x. absurd x) (λ b. b) a) c) byte_is

    bit : (q : ℕ) → q < length image → q ≢ p → is_allocated g image' q ≡ is_allocated g image q
    bit q inside other = same_bit g image image' q (frees.most.bytes q inside (λ c. other (byte_is q c)))

    gone : (q : ℕ) → IsAllocatedTo g image' row q → q ≢ p
    gone q h here = zero_not (pfs_byte g image' p) frees.byte (own_allocated g image' row later object' p frees.ordinary (subst (IsAllocatedTo g image' row) here h))

    from : (q : ℕ) → q ≢ p → IsAllocatedTo g image' row q → IsAllocatedTo g image row q
    from q other = allocated_on g image' image row q start object' frees.object (sym frees.most.size) (λ i low u. freed_last_uses g image image' row p start frees q (slot_use row i) u)
        (λ inside m a. (
          ⊎_elim (λ here. absurd (frees.last (q, here, a))) (λ elsewhere. (marker_other g image image' row p start frees (q / 8) row.id elsewhere).0 m) (cases_eq (q / 8) (p / 8)),
          sym (bit q (subst (λ n. q < n) frees.most.size inside) other) ∙ a,
        ))

    into : (q : ℕ) → q ≢ p → IsAllocatedTo g image row q → IsAllocatedTo g image' row q
    into q other = allocated_on g image image' row q later frees.object object' frees.most.size (λ i low u. freed_last_uses_in g image image' row p start frees q (slot_use row i) u)
        (λ inside m a. let now = bit q inside other ∙ a in (
          ⊎_elim (λ here. absurd (frees.last (q, here, now))) (λ elsewhere. (marker_other g image image' row p start frees (q / 8) row.id elsewhere).1 m) (cases_eq (q / 8) (p / 8)),
          now,
        ))
