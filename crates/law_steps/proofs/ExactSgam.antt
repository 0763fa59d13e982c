-- Each step of allocation leaves SGAM exact.
use Rattle.std.proofs.Common.{◌≡◌, ◌≢◌, ◌⊎◌, ℕ, zero, suc, ◌+◌, ◌*◌, ◌/◌, ◌%◌, ◌<◌, Bool, true, false, length, refl, sym, ap, subst, ◌∙◌, inl, inr, ⊎_elim, arith}
use Rattle.std.proofs.lemmas.Bool.{cases_eq, cases_Bool, both_ways}
use Rattle.spec_file.specs.declared.geometry.Geometry.{Geometry}
use Rattle.spec_file.specs.declared.pfs.PfsKind.{PfsKind}
use Rattle.spec_file.specs.Image.{Image}
use Rattle.spec_file.specs.CatalogRows.{CatalogRow}
use Rattle.spec_file.specs.Pfs.{is_allocated_byte}
use Rattle.spec_file.specs.Places.{extent_count, is_free, is_mixed}
use Rattle.spec_file.specs.Roles.{is_ordinary}
use Rattle.spec_chain.specs.Chains.{pointer}
use Rattle.spec_chain.specs.Marks.{IsMarker}
use Rattle.spec_chain.specs.Uses.{Use, IsUse, pfs_byte, is_allocated}
use Rattle.spec_extents.specs.Extents.{extent_of, IsGoodExtent}
use Rattle.spec_steps.specs.Taking.{HasOpenPage, IsTakenAs, PutsIntoSlot, ChangesSinglePage, ChangesMarkedPage, MarksExtent, GrowsChain}
use Rattle.law_extents.proofs.GoodKinds.{used_allocated, owned_kind}
use Rattle.law_frames.proofs.Held.{IsStart, goods, extent_below}
use Rattle.spec_file.specs.declared.pfs.PfsKind.TheVariants.{Iam, Single}
use Rattle.spec_chain.proofs.Pointers.{inside_below}
use Rattle.spec_steps.specs.AtMost.{Changed, AtMost, free_bit, byte_of, page_of, either, maps_of}
use Rattle.spec_steps.specs.Freeing.{IsLeftShared, FreesSingle, FreesLast, chain_pages}
use Rattle.spec_steps.specs.Sgam.{IsSgamExact, HasExactSgam, IsAllocationStep}
use Rattle.law_frames.proofs.WholeFiles.{after}
use Rattle.law_steps.proofs.OneObject.{ChangesExtent, HasNoMaps, single_maps, below}
use Rattle.law_steps.proofs.OwnPages.{own_of_marked, own_of_single, uses, marks, in_file, same_bytes, same_mixed, marked_page_clean}
use Rattle.law_steps.proofs.FilledSlots.{slot_uses}
use Rattle.law_steps.proofs.FreedSlots.{uses_left, freed_single_clean}
use Rattle.law_steps.proofs.MarkedExtents.{mark_uses, markers, mark_clean}
use Rattle.law_steps.proofs.FreedExtents.{freed_last_uses, freed_last_clean}
use Rattle.law_steps.proofs.GrownChains.{growth_uses}

-- of the maps only those of extent e may change
pub changes_from : (g : Geometry) (image image' : Image) (e : ℕ) (changed : Changed) → AtMost g changed image image' → ((f : ℕ) → changed.free f → f ≡ e)
    → ((f : ℕ) → changed.mixed f → f ≡ e) → ((q : ℕ) → changed.bytes q → q / 8 ≡ e) → ChangesExtent g image image' e
changes_from g image image' e changed most free mixed bytes = record {
  free = λ f inside other. most.free f inside (λ c. other (free f c));
  mixed = λ f inside other. most.mixed f inside (λ c. other (mixed f c));
  bytes = λ q inside other. most.bytes q inside (λ c. other (bytes q c));
}

-- the other extents stay exact
other_exact : (g : Geometry) (image image' : Image) (e f : ℕ) → ChangesExtent g image image' e → ((q : ℕ) (u : Use) → q / 8 ≢ e → IsUse g image' q u → IsUse g image q u)
    → f < extent_count image → f ≢ e → IsSgamExact g image f → IsSgamExact g image' f
other_exact g image image' e f changes uses inside other exact =
    let byte = λ (q : ℕ) (at : q / 8 ≡ f). let w : is_allocated g image' q ≡ is_allocated g image q =
    ap is_allocated_byte (changes.bytes q (below image f q inside at) (λ same. other (sym at ∙ same))) in w in record {
      open_page = λ mixed. let old = exact.open_page (sym (changes.mixed f inside other) ∙ mixed) in (old.0, old.1, old.2, byte old.0 old.1 ∙ old.3);
      mixed = λ holds open_page. changes.mixed f inside other ∙ exact.mixed
          (⊎_elim (λ h. inl (h.0, h.1, (h.2.0, uses h.0 h.2.0 (λ same. other (sym h.1 ∙ same)) h.2.1))) (λ boot. inr boot) holds)
          (open_page.0, open_page.1, open_page.2, sym (byte open_page.0 open_page.1) ∙ open_page.3);
    }

pub exact_from : (g : Geometry) (image image' : Image) (e : ℕ) → length image' ≡ length image → ChangesExtent g image image' e
    → ((q : ℕ) (u : Use) → q / 8 ≢ e → IsUse g image' q u → IsUse g image q u) → IsSgamExact g image' e → HasExactSgam g image → HasExactSgam g image'
exact_from g image image' e size changes uses here exact f inside_ =
    let inside : f < extent_count image = subst (λ n. f < n / 8) size inside_ in
    ⊎_elim (λ same. subst (IsSgamExact g image') (sym same) here) (λ other. other_exact g image image' e f changes uses inside other (exact f inside)) (cases_eq f e)

-- the extent itself: where a page was taken, where it is marked, where it is free, and where pages were freed
pub taken_here : (g : Geometry) (image : Image) (p : ℕ) (kind : PfsKind) → IsTakenAs g image p kind → IsSgamExact g image (p / 8)
taken_here g image p kind taken = record { open_page = taken.mixed.0; mixed = λ holds open_page. taken.mixed.1 open_page }

pub owned_here : (g : Geometry) (image : Image) (e o : ℕ) → IsGoodExtent g e (extent_of g image e) → IsMarker g image e o → IsSgamExact g image e
owned_here g image e o good marks = record {
  open_page = λ mixed. absurd (both_ways (is_mixed g image e) (owned_kind g e (extent_of g image e) o good marks).mixed mixed);
  mixed = λ holds open_page. absurd (good.mixed_marked (inl holds) (o, marks));
}

pub free_here : (g : Geometry) (image : Image) (e : ℕ) → IsGoodExtent g e (extent_of g image e) → is_free g image e ≡ true → IsSgamExact g image e
free_here g image e good free = record {
  open_page = λ mixed. absurd (good.one_map free mixed);
  mixed = λ holds open_page. absurd (good.free_mixed free (inl holds));
}

pub left_here : (g : Geometry) (image : Image) (e : ℕ) → IsGoodExtent g e (extent_of g image e) → IsLeftShared g image e → HasOpenPage g image e → IsSgamExact g image e
left_here g image e good (inl shared) open_page = record { open_page = λ mixed. open_page; mixed = λ holds o. shared.mixed }
left_here g image e good (inr emptied) open_page = free_here g image e good emptied.free

pub zero_open : (g : Geometry) (image : Image) (q : ℕ) → pfs_byte g image q ≡ 0 → is_allocated g image q ≡ false
zero_open g image q none = ap is_allocated_byte none

-- where the steps change the maps
page_maps : (a b : ℕ) → HasNoMaps (either (page_of a) (page_of b))
page_maps a b = record { free = λ e c. ⊎_elim (λ x. x) (λ x. x) c; mixed = λ e c. ⊎_elim (λ x. x) (λ x. x) c; bytes = λ q c. ⊎_elim (λ x. x) (λ x. x) c }

pub single_changes : (g : Geometry) (image image' : Image) (p a b : ℕ) → AtMost g (either (maps_of p) (either (page_of a) (page_of b))) image image' → ChangesExtent g image image' (p / 8)
single_changes g image image' p a b most = single_maps g image image' p (either (page_of a) (page_of b)) (page_maps a b) most

-- the steps, one by one
pub slot_exact : (g : Geometry) (image image' : Image) (row : CatalogRow) (slot p : ℕ) → IsStart g image → PutsIntoSlot g image image' row slot p → IsTakenAs g image' p Single → HasExactSgam g image
    → HasExactSgam g image'
slot_exact g image image' row slot p start puts taken =
    exact_from g image image' (p / 8) puts.most.size (single_changes g image image' p p row.first_iam puts.most)
    (λ q u other h. ⊎_elim (λ old. old) (λ new. absurd (other (ap (λ n. n / 8) new.0))) ((slot_uses g image image' row slot p start puts q u).0 h))
    (taken_here g image' p Single taken)

pub growth_exact : (g : Geometry) (image image' : Image) (row : CatalogRow) (last p : ℕ) → IsStart g image → GrowsChain g image image' row last p → IsTakenAs g image' p Iam → HasExactSgam g image
    → HasExactSgam g image'
growth_exact g image image' row last p start grows taken =
    exact_from g image image' (p / 8) grows.most.size (single_changes g image image' p p (pointer image row last) grows.most)
    (λ q u other h. ⊎_elim (λ old. old) (λ new. absurd (other (ap (λ n. n / 8) new.0))) (growth_uses g image image' row last p start grows q u h))
    (taken_here g image' p Iam taken)

pub freed_single_exact : (g : Geometry) (image image' : Image) (row : CatalogRow) (p : ℕ) → IsStart g image → FreesSingle g image image' row p → HasExactSgam g image → HasExactSgam g image'
freed_single_exact g image image' row p start frees =
    let later = after g image image' start frees.most.size (freed_single_clean g image image' row p start frees).maps in
    let low = inside_below (length image) p frees.holds.1 in
    let good = goods g image' later (p / 8) (extent_below g image' p later (subst (λ n. p < n) (sym frees.most.size) low)) in
    exact_from g image image' (p / 8) frees.most.size (single_changes g image image' p p row.first_iam frees.most)
    (λ q u other h. ((uses_left g image image' row p start frees q u).0 h).0)
    (left_here g image' (p / 8) good frees.left (p, refl, frees.ordinary, zero_open g image' p frees.byte))

pub freed_last_exact : (g : Geometry) (image image' : Image) (row : CatalogRow) (p : ℕ) → IsStart g image → FreesLast g image image' row p → HasExactSgam g image → HasExactSgam g image'
freed_last_exact g image image' row p start frees =
    let later = after g image image' start frees.most.size (freed_last_clean g image image' row p start frees).maps in
    let good = goods g image' later (p / 8) (extent_below g image' p later (subst (λ n. p < n) (sym frees.most.size) frees.inside)) in
    exact_from g image image' (p / 8) frees.most.size
    (changes_from g image image' (p / 8) (either (free_bit (p / 8)) (either (byte_of p) (either (page_of p) (chain_pages g image row)))) frees.most
    (λ f c. ⊎_elim (λ here. here) (λ a. absurd (⊎_elim (λ x. x) (λ b. ⊎_elim (λ x. x) (λ x. x) b) a)) c)
    (λ f c. absurd (⊎_elim (λ x. x) (λ a. ⊎_elim (λ x. x) (λ b. ⊎_elim (λ x. x) (λ x. x) b) a) c))
    (λ q c. ap (λ n. n / 8) (⊎_elim (λ x. absurd x) (λ a. ⊎_elim (λ here. here) (λ b. absurd (⊎_elim (λ x. x) (λ x. x) b)) a) c)))
    (λ q u other h. freed_last_uses g image image' row p start frees q u h)
    (free_here g image' (p / 8) good frees.free)

pub mark_exact : (g : Geometry) (image image' : Image) (row : CatalogRow) (k e p : ℕ) → IsStart g image → MarksExtent g image image' row k e p → HasExactSgam g image → HasExactSgam g image'
mark_exact g image image' row k e p start marks =
    let later = after g image image' start marks.most.size (mark_clean g image image' row k e p start marks).maps in
    let good = goods g image' later e (subst (λ n. e < n / 8) (sym marks.most.size) marks.inside) in
    exact_from g image image' e marks.most.size
    (changes_from g image image' e (either (free_bit e) (either (byte_of p) (either (page_of p) (page_of (pointer image row k))))) marks.most
    (λ f c. ⊎_elim (λ here. here) (λ a. absurd (⊎_elim (λ x. x) (λ b. ⊎_elim (λ x. x) (λ x. x) b) a)) c)
    (λ f c. absurd (⊎_elim (λ x. x) (λ a. ⊎_elim (λ x. x) (λ b. ⊎_elim (λ x. x) (λ x. x) b) a) c))
    (λ q c. ap (λ n. n / 8) (⊎_elim (λ x. absurd x) (λ a. ⊎_elim (λ here. here) (λ b. absurd (⊎_elim (λ x. x) (λ x. x) b)) a) c) ∙ marks.at))
    (λ q u other h. mark_uses g image image' row k e p start marks q u h)
    (owned_here g image' e row.id good ((markers g image image' row k e p start marks e row.id).1 (inr (refl, refl))))

pub own_changes : (g : Geometry) (image image' : Image) (p : ℕ) → AtMost g (either (byte_of p) (page_of p)) image image' → ChangesExtent g image image' (p / 8)
own_changes g image image' p most = changes_from g image image' (p / 8) (either (byte_of p) (page_of p)) most
    (λ f c. absurd (⊎_elim (λ x. x) (λ x. x) c)) (λ f c. absurd (⊎_elim (λ x. x) (λ x. x) c)) (λ q c. ap (λ n. n / 8) (⊎_elim (λ here. here) (λ x. absurd x) c))

pub marked_exact : (g : Geometry) (image image' : Image) (row : CatalogRow) (p : ℕ) → IsStart g image → ChangesMarkedPage g image image' row p → HasExactSgam g image → HasExactSgam g image'
marked_exact g image image' row p start sets =
    let own = own_of_marked g image image' row p start sets in
    let later = after g image image' start sets.most.size (marked_page_clean g image image' row p start sets).maps in
    let good = goods g image' later (p / 8) (extent_below g image' p later (subst (λ n. p < n) (sym sets.most.size) sets.inside)) in
    exact_from g image image' (p / 8) sets.most.size (own_changes g image image' p sets.most)
    (λ q u other. (uses g image image' row p start own q u).0)
    (owned_here g image' (p / 8) row.id good ((marks g image image' row p start own (p / 8) row.id).1 (row, sets.object, refl, sets.marked)))

pub filled_exact : (g : Geometry) (image image' : Image) (row : CatalogRow) (p : ℕ) → IsStart g image → ChangesSinglePage g image image' row p → HasExactSgam g image → HasExactSgam g image'
filled_exact g image image' row p start sets exact =
    let own = own_of_single g image image' row p start sets in
    let e = p / 8 in
    let inside = in_file g image image' row p start own in
    let was = used_allocated (pfs_byte g image p) sets.slot (((goods g image start e inside).pages p refl).used sets.ordinary (record { object = row.id; place = sets.slot })
    (row, sets.object, refl, inl sets.holds)) in
    let is = used_allocated (pfs_byte g image' p) sets.slot (record { kind = Single; is = inl (sets.holds.0.0, refl); fits = sets.byte }) in
    let byte = λ (q : ℕ) (at : q / 8 ≡ e) (other : q ≢ p). let w : is_allocated g image' q ≡ is_allocated g image q =
    ap is_allocated_byte (same_bytes g image image' row p start own q (below image e q inside at) other) in w in
    let mixed = same_mixed g image image' row p start own e inside in
    let old = exact e inside in
    exact_from g image image' e sets.most.size (own_changes g image image' p sets.most) (λ q u other. (uses g image image' row p start own q u).0)
    (record {
      open_page = λ m. let open_page = old.open_page (sym mixed ∙ m) in (
        open_page.0,
        open_page.1,
        open_page.2,
        byte open_page.0 open_page.1 (λ same. both_ways (is_allocated g image p)
            (subst (λ r. is_allocated g image r ≡ false) same open_page.3) was) ∙ open_page.3,
      );
      mixed = λ holds open_page. mixed ∙ old.mixed
          (⊎_elim (λ h. inl (h.0, h.1, (h.2.0, (uses g image image' row p start own h.0 h.2.0).0 h.2.1))) (λ boot. inr boot) holds) (
            open_page.0,
            open_page.1,
            open_page.2,
            sym (byte open_page.0 open_page.1 (λ same. both_ways (is_allocated g image' p)
                (subst (λ r. is_allocated g image' r ≡ false) same open_page.3) is)) ∙ open_page.3,
          );
    }) exact

pub step_exact : (g : Geometry) (image image' : Image) (row : CatalogRow) → IsStart g image → IsAllocationStep g image image' row → HasExactSgam g image → HasExactSgam g image'
step_exact g image image' row start (IsAllocationStep.Slot slot p is taken) exact = slot_exact g image image' row slot p start is taken exact
step_exact g image image' row start (IsAllocationStep.Filled p is) exact = filled_exact g image image' row p start is exact
step_exact g image image' row start (IsAllocationStep.Changed p is) exact = marked_exact g image image' row p start is exact
step_exact g image image' row start (IsAllocationStep.Marked k e p is) exact = mark_exact g image image' row k e p start is exact
step_exact g image image' row start (IsAllocationStep.Grown last p is taken) exact = growth_exact g image image' row last p start is taken exact
step_exact g image image' row start (IsAllocationStep.FreedSingle p is) exact = freed_single_exact g image image' row p start is exact
step_exact g image image' row start (IsAllocationStep.FreedLast p is) exact = freed_last_exact g image image' row p start is exact

-- what can't but be exact is so: of eight pages one is open, or none
open_among : (g : Geometry) (image : Image) (e n : ℕ) → HasOpenPage g image e ⊎ ((p : ℕ) → p / 8 ≡ e → p % 8 < n → is_ordinary g p ≡ true → is_allocated g image p ≡ false → ⊥)
open_among g image e zero = inr (λ p at low ordinary free. omega (arith, low))
open_among g image e (suc n) = ⊎_elim (λ found. inl found)
    (λ none. ⊎_elim
    (λ here. let at : (8 * e + n % 8) / 8 ≡ e = omega arith in
    ⊎_elim (λ allocated. inr (λ p at_p low ordinary free. ⊎_elim
    (λ last. both_ways (is_allocated g image p) free (subst (λ q. is_allocated g image q ≡ true) (let same : 8 * e + n % 8 ≡ p = omega (arith, at_p, last) in same) allocated))
    (λ before. none p at_p (omega (arith, low, before)) ordinary free) (cases_eq (p % 8) n)))
    (λ free. inl (8 * e + n % 8, at, here, free)) (cases_Bool (is_allocated g image (8 * e + n % 8))))
    (λ strange. inr (λ p at_p low ordinary free. ⊎_elim
    (λ last. both_ways (is_ordinary g (8 * e + n % 8)) strange (subst (λ q. is_ordinary g q ≡ true) (let same : p ≡ 8 * e + n % 8 = omega (arith, at_p, last) in same) ordinary))
    (λ before. none p at_p (omega (arith, low, before)) ordinary free) (cases_eq (p % 8) n)))
    (cases_Bool (is_ordinary g (8 * e + n % 8)))) (open_among g image e n)

open_unless : (g : Geometry) (image : Image) (e : ℕ) → ((HasOpenPage g image e → ⊥) → ⊥) → HasOpenPage g image e
open_unless g image e h = ⊎_elim (λ found. found) (λ none. absurd (h (λ o. none o.0 o.1 (omega arith) o.2 o.3))) (open_among g image e 8)

true_unless : (b : Bool) → ((b ≡ true → ⊥) → ⊥) → b ≡ true
true_unless true h = refl
true_unless false h = absurd (h (λ is. cc))

pub exact_unless : (g : Geometry) (image : Image) (e : ℕ) → ((IsSgamExact g image e → ⊥) → ⊥) → IsSgamExact g image e
exact_unless g image e h = record {
  open_page = λ m. open_unless g image e (λ none. h (λ exact. none (exact.open_page m)));
  mixed = λ holds open_page. true_unless (is_mixed g image e) (λ none. h (λ exact. none (exact.mixed holds open_page)));
}
