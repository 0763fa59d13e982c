-- A page is given back: of a mixed extent, or of a marked one.
use Rattle.std.proofs.Common.{◌≡◌, ℕ, ◌/◌, ◌<◌, Bool, true, false, refl, sym, ap, subst, ◌∙◌, inl, inr, ⊎_elim}
use Rattle.std.specs.Prelude.{is_some}
use Rattle.std.proofs.lemmas.Bool.{cases_eq, both_ways, or_cases, or_left, or_right, false_from_ne_true}
use Rattle.spec_file.specs.declared.data.Resource.TheVariants as resource
use Rattle.spec_file.specs.declared.geometry.Geometry.{Geometry}
use Rattle.spec_file.specs.Image.{Image}
use Rattle.spec_file.specs.Pfs.{is_allocated_byte}
use Rattle.spec_file.specs.Places.{is_free, is_mixed}
use Rattle.spec_chain.specs.Uses.{pfs_byte, is_allocated}
use Rattle.spec_words.specs.NetChanges.{FileShape}
use Rattle.spec_words.specs.Views.{View}
use Rattle.spec_words.specs.Words.{give, sees, take, put_gam, put_sgam, put_pfs}
use Rattle.spec_alloc.specs.Search.{gam_read, sgam_read, pfs_read, is_held, counts_as_allocated}
use Rattle.spec_alloc.specs.Freeing.{is_in_use, put_bits, shared_freed, extent_freed, marked_freed}
use Rattle.spec_alloc.specs.Objects.{left_freed}
use Rattle.spec_steps.specs.AtMost.{free_bit, mixed_bit, byte_of, either, maps_of}
use Rattle.spec_steps.specs.Freeing.{IsLeftShared}
use Rattle.law_extents.proofs.GoodKinds.{zero_not}
use Rattle.law_net.specs.GoodViews.{Leads}
use Rattle.law_net.proofs.WordLaws.{leads_then, leads_give, leads_weaker}
use Rattle.law_alloc.proofs.Searches.{Any, sees_reads, leads_from, map_reads}
use Rattle.law_kept.proofs.Steps.{IsFile, page_in, extent_in, Took, Goes, goes_both, goes_within, nothing, nothing_within, goes_nowhere}
use Rattle.law_kept.proofs.Words.{take_goes, gam_goes, sgam_goes, pfs_goes}
use Rattle.law_kept.proofs.Singles.{any_from, any_in, page_extent, in_extent, neither}

-- what counts as in use counted so before, where bytes fall and others hold the same
pub use_back : (shape : FileShape) (v w : View) (e : ℕ) → w.other ≡ v.other → ((q : ℕ) → q / 8 ≡ e → is_allocated shape.geometry w.now q ≡ true → is_allocated shape.geometry v.now q ≡ true) →
    is_in_use shape e w ≡ true → is_in_use shape e v ≡ true
use_back shape v w e same back in_use =
    let found = any_from (counts_as_allocated shape w) e in_use in
    let q = found.0 in
    any_in (counts_as_allocated shape v) e q found.1 (⊎_elim
    (λ allocated. or_left (is_allocated shape.geometry v.now q) (is_held v (resource.Byte (record { 0 = q }))) (back q found.1 allocated))
    (λ held. or_right (is_allocated shape.geometry v.now q) (is_held v (resource.Byte (record { 0 = q }))) (subst (λ o. is_some (o (resource.Byte (record { 0 = q }))) ≡ true) same held))
    (or_cases (is_allocated shape.geometry w.now q) (is_held w (resource.Byte (record { 0 = q }))) found.2))

none_allocated : (shape : FileShape) (v : View) (e q : ℕ) → is_in_use shape e v ≡ false → q / 8 ≡ e → is_allocated shape.geometry v.now q ≡ false
none_allocated shape v e q none at = false_from_ne_true (is_allocated shape.geometry v.now q) (λ allocated.
    both_ways (is_in_use shape e v) none (any_in (counts_as_allocated shape v) e q at (or_left (is_allocated shape.geometry v.now q) (is_held v (resource.Byte (record { 0 = q }))) allocated)))

-- a page of a mixed extent is given back; an extent that counts as in use then isn't free
pub record FreesShared (shape : FileShape) (p : ℕ) (v w : View) : Type 0 where
  pub goes : Goes shape (maps_of p) v w
  pub byte : pfs_byte shape.geometry w.now p ≡ 0
  pub left : IsLeftShared shape.geometry w.now (p / 8)
  pub busy : is_in_use shape (p / 8) w ≡ true → is_free shape.geometry w.now (p / 8) ≡ false
  pub held : Took w (resource.Extent (record { 0 = p / 8 }))

-- what is said of an extent of single pages stays where its bits and bytes stay
pub left_same : (g : Geometry) (image image' : Image) (e : ℕ) → is_free g image' e ≡ is_free g image e → is_mixed g image' e ≡ is_mixed g image e →
    ((q : ℕ) → q / 8 ≡ e → pfs_byte g image' q ≡ pfs_byte g image q) → IsLeftShared g image e → IsLeftShared g image' e
left_same g image image' e free mixed bytes (inl shared) = inl (record { free = free ∙ shared.free; mixed = mixed ∙ shared.mixed })
left_same g image image' e free mixed bytes (inr emptied) =
    inr (record { free = free ∙ emptied.free; mixed = mixed ∙ emptied.mixed; unallocated = λ q at. ap is_allocated_byte (bytes q at) ∙ emptied.unallocated q at })

-- the bits of its extent
record SetsBits (shape : FileShape) (e : ℕ) (v w : View) : Type 0 where
  goes : Goes shape (either (mixed_bit e) (free_bit e)) v w
  left : IsLeftShared shape.geometry w.now e
  busy : is_in_use shape e w ≡ true → is_free shape.geometry w.now e ≡ false

bits_go : (shape : FileShape) (e : ℕ) (in_use : Bool) (v : View) → e < shape.pages / 8 → IsFile shape v.now → is_in_use shape e v ≡ in_use →
    (is_in_use shape e v ≡ true → is_free shape.geometry v.now e ≡ false) → Leads (put_bits shape e in_use) v (λ u w. SetsBits shape e v w)
bits_go shape e true v low f is busy =
    leads_weaker (put_sgam shape e 1) v _ _ (λ u w k.
    let put = k.0 in
    let free = put.most.free e (extent_in shape v.now e f low) (λ c. c) ∙ busy is in record {
      goes = goes_within shape (mixed_bit e) (either (mixed_bit e) (free_bit e)) v w (record { free = λ f c. absurd c; mixed = λ f c. inl c; bytes = λ f c. absurd c; pages = λ f c. absurd c }) put;
      left = inl (record { free = free; mixed = k.1 });
      busy = λ in_use. free;
    }) (sgam_goes shape e true v low f)
bits_go shape e false v low f is busy =
    let K : Unit {0} → View → Type 0 = λ u w. SetsBits shape e v w in
    leads_then (put_sgam shape e 0) _ v K (leads_weaker (put_sgam shape e 0) v _ _ (λ u w k.
    let first = k.0 in
    leads_weaker (put_gam shape e 1) w _ K (λ s x l.
    let both = goes_both shape (mixed_bit e) (free_bit e) v w x first l.0 in
    let same = λ (q : ℕ) (at : q / 8 ≡ e). let is : is_allocated shape.geometry x.now q ≡ is_allocated shape.geometry v.now q =
    ap is_allocated_byte (both.most.bytes q (in_extent shape v e q f low at) neither) in is in record {
      goes = both;
      left = inr (record {
        free = l.1;
        mixed = (l.0).most.mixed e (extent_in shape w.now e first.file low) (λ c. c) ∙ k.1;
        unallocated = λ q at. same q at ∙ none_allocated shape v e q is at;
      });
      busy = λ in_use. absurd (both_ways (is_in_use shape e v) is (use_back shape v x e both.other (λ q at allocated. sym (same q at) ∙ allocated) in_use));
    }) (gam_goes shape e true w low first.file)) (sgam_goes shape e false v low f))

pub shared_goes : (shape : FileShape) (p : ℕ) (v : View) → p < shape.pages → IsFile shape v.now → (is_in_use shape (p / 8) v ≡ true → is_free shape.geometry v.now (p / 8) ≡ false) →
    Leads (shared_freed shape p) v (λ u w. FreesShared shape p v w)
shared_goes shape p v inside f busy =
    let g = shape.geometry in
    let e = p / 8 in
    let extent = resource.Extent (record { 0 = e }) in
    let low = page_extent shape v p f inside in
    let K : Unit {0} → View → Type 0 = λ u w. FreesShared shape p v w in
    leads_from (pfs_read shape p) _ v Any K (map_reads _ _ v) (λ a b.
    leads_then (take extent) _ v K (leads_weaker (take extent) v _ _ (λ u w h.
    let taken = h.0 in
    leads_from (gam_read shape e) _ w Any K (map_reads _ _ w) (λ c d.
    leads_from (sgam_read shape e) _ w Any K (map_reads _ _ w) (λ c d.
    leads_then (put_pfs shape p 0) _ w K (leads_weaker (put_pfs shape p 0) w _ _ (λ s x k.
    let put = k.0 in
    let both = goes_both shape nothing (byte_of p) v w x taken put in
    let was = λ (q : ℕ) (at : q / 8 ≡ e) (allocated : is_allocated g x.now q ≡ true). let is : is_allocated g v.now q ≡ true = ⊎_elim
    (λ here. absurd (zero_not (pfs_byte g x.now q) (ap (pfs_byte g x.now) here ∙ k.1) allocated))
    (λ other. sym (ap is_allocated_byte (both.most.bytes q (in_extent shape v e q f low at) (λ c. ⊎_elim (λ c. c) (λ here. other here) c))) ∙ allocated) (cases_eq q p) in is in
    leads_from (sees (is_in_use shape e)) (put_bits shape e) x (λ b. is_in_use shape e x ≡ b) K (sees_reads (is_in_use shape e) x (λ b. is_in_use shape e x ≡ b) refl) (λ in_use is.
    leads_weaker (put_bits shape e in_use) x _ K (λ t y l.
    let bits = l.goes in record {
      goes = goes_within shape (either (either nothing (byte_of p)) (either (mixed_bit e) (free_bit e))) (maps_of p) v y (record {
        free = λ f c. ⊎_elim (λ c. absurd (neither c)) (λ c. ⊎_elim (λ c. absurd c) (λ c. inl c) c) c;
        mixed = λ f c. ⊎_elim (λ c. absurd (neither c)) (λ c. ⊎_elim (λ c. inr (inl c)) (λ c. absurd c) c) c;
        bytes = λ q c. ⊎_elim (λ c. ⊎_elim (λ c. absurd c) (λ c. inr (inr c)) c) (λ c. absurd (neither c)) c;
        pages = λ q c. absurd (⊎_elim neither neither c);
      }) (goes_both shape (either nothing (byte_of p)) (either (mixed_bit e) (free_bit e)) v x y both bits);
      byte = bits.most.bytes p (page_in shape x.now p put.file inside) neither ∙ k.1;
      left = l.left;
      busy = l.busy;
      held = bits.taken extent (put.taken extent h.3);
    })
    (bits_go shape e in_use x low put.file is (λ used. both.most.free e (extent_in shape v.now e f low) neither ∙ busy (use_back shape v x e both.other was used)))))
    (pfs_goes shape p 0 w inside taken.file)))))
    (take_goes shape extent v f)))

-- a page of a marked extent is given back: while the extent counts as in use its bits stay, and then it is free, and none
-- of its pages is allocated
pub record FreesMarked (shape : FileShape) (p : ℕ) (in_use : Bool) (v w : View) : Type 0 where
  pub goes : Goes shape (either (byte_of p) (free_bit (p / 8))) v w
  pub byte : pfs_byte shape.geometry w.now p ≡ 0
  pub stays : in_use ≡ true → Goes shape (byte_of p) v w
  pub free : in_use ≡ false → is_free shape.geometry w.now (p / 8) ≡ true
  pub none : in_use ≡ false → (q : ℕ) → q / 8 ≡ p / 8 → is_allocated shape.geometry w.now q ≡ false
  pub held : in_use ≡ false → Took w (resource.Extent (record { 0 = p / 8 }))

behind_nothing : (shape : FileShape) (e : ℕ) (v w x : View) → Goes shape nothing v w → Goes shape (free_bit e) w x → Goes shape (free_bit e) v x
behind_nothing shape e v w x first second =
    goes_within shape (either nothing (free_bit e)) (free_bit e) v x (record {
      free = λ f c. ⊎_elim (λ c. absurd c) (λ c. c) c;
      mixed = λ f c. absurd (neither c);
      bytes = λ q c. absurd (neither c);
      pages = λ q c. absurd (neither c);
    }) (goes_both shape nothing (free_bit e) v w x first second)

-- the extent becomes free where it isn't in use any more
record FreesExtent (shape : FileShape) (e : ℕ) (in_use : Bool) (v w : View) : Type 0 where
  goes : Goes shape (free_bit e) v w
  stays : in_use ≡ true → w ≡ v
  free : in_use ≡ false → is_free shape.geometry w.now e ≡ true
  held : in_use ≡ false → Took w (resource.Extent (record { 0 = e }))

extent_goes : (shape : FileShape) (e : ℕ) (in_use : Bool) (v : View) → e < shape.pages / 8 → IsFile shape v.now → Leads (extent_freed shape e in_use) v (λ u w. FreesExtent shape e in_use v w)
extent_goes shape e true v low f =
    let K : Unit {0} → View → Type 0 = λ u w. FreesExtent shape e true v w in
    leads_from (gam_read shape e) _ v Any K (map_reads _ _ v) (λ a b.
    leads_weaker (sgam_read shape e) v (λ x w. (w ≡ v) × Unit {0}) K (λ x w h. record {
      goes = subst (Goes shape (free_bit e) v) (sym h.0) (goes_within shape nothing (free_bit e) v v (nothing_within (free_bit e)) (goes_nowhere shape v f));
      stays = λ used. h.0;
      free = λ unused. absurd (cc);
      held = λ unused. absurd (cc);
    }) (map_reads _ _ v))
extent_goes shape e false v low f =
    let extent = resource.Extent (record { 0 = e }) in
    let K : Unit {0} → View → Type 0 = λ u w. FreesExtent shape e false v w in
    leads_then (take extent) _ v K (leads_weaker (take extent) v _ _ (λ u w h.
    let taken = h.0 in
    leads_from (gam_read shape e) _ w Any K (map_reads _ _ w) (λ c d.
    leads_from (sgam_read shape e) _ w Any K (map_reads _ _ w) (λ c d.
    leads_weaker (put_gam shape e 1) w _ K (λ s x k. record { goes = behind_nothing shape e v w x taken k.0; stays = λ used. absurd (cc); free = λ unused. k.1; held = λ unused. k.3 }) (gam_goes shape e true w low taken.file))))
    (take_goes shape extent v f))

pub marked_goes : (shape : FileShape) (p : ℕ) (v : View) → p < shape.pages → IsFile shape v.now → Leads (marked_freed shape p) v (λ in_use w. FreesMarked shape p in_use v w)
marked_goes shape p v inside f =
    let g = shape.geometry in
    let e = p / 8 in
    let low = page_extent shape v p f inside in
    let K : Bool → View → Type 0 = λ in_use w. FreesMarked shape p in_use v w in
    leads_from (pfs_read shape p) _ v Any K (map_reads _ _ v) (λ a b.
    leads_then (put_pfs shape p 0) _ v K (leads_weaker (put_pfs shape p 0) v _ _ (λ s x k.
    let put = k.0 in
    leads_from (sees (is_in_use shape e)) _ x (λ b. is_in_use shape e x ≡ b) K (sees_reads (is_in_use shape e) x (λ b. is_in_use shape e x ≡ b) refl) (λ in_use is.
    leads_then (extent_freed shape e in_use) (λ _. give in_use) x K (leads_weaker (extent_freed shape e in_use) x _ _ (λ u y l.
    let freed = l.goes in
    leads_give in_use y K (record {
      goes = goes_both shape (byte_of p) (free_bit e) v x y put freed;
      byte = freed.most.bytes p (page_in shape x.now p put.file inside) (λ c. c) ∙ k.1;
      stays = λ used. subst (Goes shape (byte_of p) v) (sym (l.stays used)) put;
      free = l.free;
      none = λ unused q at. ap is_allocated_byte (freed.most.bytes q (in_extent shape x e q put.file low at) (λ c. c)) ∙ none_allocated shape x e q (is ∙ unused) at;
      held = l.held;
    }))
    (extent_goes shape e in_use x low put.file))))
    (pfs_goes shape p 0 v inside f)))

-- an extent that nobody uses any more is free
pub left_goes : (shape : FileShape) (e : ℕ) (v : View) → e < shape.pages / 8 → IsFile shape v.now → Leads (left_freed shape e) v (λ u w. Goes shape (free_bit e) v w × (is_free shape.geometry w.now e ≡ true) × Took w (resource.Extent (record { 0 = e })))
left_goes shape e v low f =
    let extent = resource.Extent (record { 0 = e }) in
    let K : Unit {0} → View → Type 0 = λ u w. Goes shape (free_bit e) v w × (is_free shape.geometry w.now e ≡ true) × Took w extent in
    leads_then (take extent) _ v K (leads_weaker (take extent) v _ _ (λ u w h.
    let taken = h.0 in
    leads_from (gam_read shape e) _ w Any K (map_reads _ _ w) (λ c d.
    leads_weaker (put_gam shape e 1) w _ K (λ s x k. (behind_nothing shape e v w x taken k.0, k.1, k.3)) (gam_goes shape e true w low taken.file)))
    (take_goes shape extent v f))
