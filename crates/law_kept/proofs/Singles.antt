-- A single page that is found is taken.
use Rattle.std.proofs.Common.{◌≡◌, ◌↔◌, ◌⊎◌, ℕ, ◌+◌, ◌*◌, ◌/◌, ◌%◌, ◌<◌, ◌||◌, not, Bool, true, false, length, Option, Some, None, refl, sym, ap, subst, ◌∙◌, inl, inr, ⊎_elim, arith}
use Rattle.std.specs.Prelude.{if◌then◌else◌, IsTrue}
use Rattle.std.specs.List.{list_any, range_with_len}
use Rattle.std.proofs.lemmas.Bool.{and_parts, cond_both, both_ways, not-true}
use Rattle.std.proofs.lemmas.List.Folds.{Any-from_list_any, list_any_at}
use Rattle.std.proofs.lemmas.List.FromFn.{length-range_with_len, get_or-range_with_len}
use Rattle.spec_file.specs.declared.data.Resource.TheVariants as resource
use Rattle.spec_file.specs.Pfs.{is_allocated_byte}
use Rattle.spec_file.specs.Places.{is_free, is_mixed}
use Rattle.spec_file.specs.Roles.{is_ordinary, is_system_extent}
use Rattle.spec_chain.specs.Marks.{HasMarker}
use Rattle.spec_chain.specs.Uses.{pfs_byte, is_allocated}
use Rattle.spec_words.specs.NetChanges.{FileShape}
use Rattle.spec_words.specs.Views.{View, Plan}
use Rattle.spec_words.specs.Words.{◌then◌, give, sees, take, put_gam, put_sgam, put_pfs, or_later}
use Rattle.spec_alloc.specs.Search.{where_found, either as either_of, is_held, is_spare, pages_in, search}
use Rattle.spec_alloc.specs.SinglePages.{is_shared, is_unused, spare_page, first_page_of, lower_sgam, of_mixed, of_free, single_page}
use Rattle.spec_steps.specs.AtMost.{free_bit, mixed_bit, byte_of, either, maps_of}
use Rattle.spec_steps.specs.Taking.{HasOpenPage, IsTakeable}
use Rattle.law_frames.proofs.Held.{IsStart}
use Rattle.law_steps.proofs.Owners.{takeable_is_nobodys, free_is_takeable}
use Rattle.law_net.specs.GoodViews.{Leads}
use Rattle.law_net.proofs.WordLaws.{leads_then, leads_give, leads_weaker}
use Rattle.law_net.proofs.ReadingLeaves.{Reads}
use Rattle.law_alloc.specs.Keeps.{IfFound}
use Rattle.law_alloc.proofs.Searches.{sees_reads, leads_from, search_reads}
use Rattle.law_alloc.proofs.Singles.{first_kept}
use Rattle.law_kept.specs.Views.{OthersHoldExtents, IsCleanView}
use Rattle.law_kept.specs.Singles.{TakesPage, SingleIsTaken, SingleSetsSgam}
use Rattle.law_kept.proofs.Steps.{IsFile, file_shape, page_in, extent_in, Took, Goes, goes_both, goes_within, nothing, nothing_within, goes_nowhere}
use Rattle.law_kept.proofs.Words.{take_goes, gam_goes, sgam_goes, pfs_goes}

-- the pages of an extent
pub any_from : (test : ℕ → Bool) (e : ℕ) → list_any test (pages_in e) ≡ true → (q : ℕ) × (q / 8 ≡ e) × (test q ≡ true)
any_from test e any =
    let found = Any-from_list_any test (pages_in e) any in
    let low : found.0 < 8 = omega (arith, found.2, length-range_with_len (8 * e) 8) in
    let is : 8 * e + found.0 ≡ found.1 = sym (get_or-range_with_len (8 * e) 8 found.0 found.1 low) ∙ found.3 in
    (found.1, omega (arith, low, is), found.4)

pub any_in : (test : ℕ → Bool) (e q : ℕ) → q / 8 ≡ e → test q ≡ true → list_any test (pages_in e) ≡ true
any_in test e q at passes =
    let low : q % 8 < length (range_with_len (8 * e) 8) = omega (arith, length-range_with_len (8 * e) 8) in
    let is = get_or-range_with_len (8 * e) 8 (q % 8) 0 (omega arith) in
    let place : 8 * e + q % 8 ≡ q = omega (arith, at) in
    list_any_at test (pages_in e) (q % 8) 0 low (ap test (is ∙ place) ∙ passes)

-- a page that can be had
pub spare_parts : (shape : FileShape) (v : View) (q : ℕ) → is_spare shape v q ≡ true → IsTrue (is_ordinary shape.geometry q) × (is_allocated shape.geometry v.now q ≡ false)
spare_parts shape v q spare =
    let parts = and_parts (is_ordinary shape.geometry q) _ spare in
    (parts.0, neither (is_allocated shape.geometry v.now q) (is_held v (resource.Byte (record { 0 = q }))) parts.1)
  where
    neither : (a b : Bool) → not (a || b) ≡ true → a ≡ false
    neither true b h = absurd (cc)
    neither false b h = refl

spare_from : (shape : FileShape) (v : View) (q : ℕ) → IsTrue (is_ordinary shape.geometry q) → is_allocated shape.geometry v.now q ≡ false → v.other (resource.Byte (record { 0 = q })) ≡ None →
    is_spare shape v q ≡ true
spare_from shape v q ordinary un free = rw (ordinary, un, free) refl

-- no open page of extent e is held by another who doesn't hold the extent
abbrev pub IsBare : FileShape → View → ℕ → Type 0
IsBare shape v e =
    (q : ℕ) → q / 8 ≡ e → IsTrue (is_ordinary shape.geometry q) → is_allocated shape.geometry v.now q ≡ false → v.other (resource.Extent (record { 0 = e })) ≡ None
    → v.other (resource.Byte (record { 0 = q })) ≡ None

pub bare_on : (shape : FileShape) (v w : View) (e : ℕ) → w.other ≡ v.other → ((q : ℕ) → q / 8 ≡ e → is_allocated shape.geometry w.now q ≡ false → is_allocated shape.geometry v.now q ≡ false) →
    IsBare shape v e → IsBare shape w e
bare_on shape v w e same opens bare q at ordinary un =
    subst (λ o. o (resource.Extent (record { 0 = e })) ≡ None → o (resource.Byte (record { 0 = q })) ≡ None) (sym same) (bare q at ordinary (opens q at un))

pub in_extent : (shape : FileShape) (v : View) (e q : ℕ) → IsFile shape v.now → e < shape.pages / 8 → q / 8 ≡ e → q < length v.now
in_extent shape v e q f inside at = page_in shape v.now q f (omega (arith, inside, at))

-- SGAM is exact of extent e
abbrev pub IsExact : FileShape → ℕ → View → Type 0
IsExact shape e w = IsTrue (is_mixed shape.geometry w.now e) ↔ HasOpenPage shape.geometry w.now e

abbrev Lowers : FileShape → ℕ → View → Unit {0} → View → Type 0
Lowers shape e v u w = Goes shape (mixed_bit e) v w × (IsBare shape v e → IsExact shape e w)

-- SGAM falls where no page of the extent is left
lower_goes : (shape : FileShape) (e : ℕ) (v : View) → e < shape.pages / 8 → IsFile shape v.now → is_mixed shape.geometry v.now e ≡ true → v.other (resource.Extent (record { 0 = e })) ≡ None →
    Leads (lower_sgam shape e) v (Lowers shape e v)
lower_goes shape e v inside f mixed unheld =
    leads_from (sees left) (λ (b : Bool). if b then give tt else put_sgam shape e 0) v (λ b. b ≡ left v) (Lowers shape e v) (sees_reads left v (λ b. b ≡ left v) refl)
    (λ b same. cond_both b (give tt) (put_sgam shape e 0) (λ plan. Leads plan v (Lowers shape e v))
    (λ h. leads_give tt v (Lowers shape e v) (stays (sym same ∙ h)))
    (λ h. leads_weaker (put_sgam shape e 0) v _ (Lowers shape e v)
    (λ u w k. (k.0, (λ bare. ((λ m. absurd (both_ways (is_mixed shape.geometry w.now e) k.1 m)), (λ o. absurd (none w k.0 o (sym same ∙ h) bare)))))) (sgam_goes shape e false v inside f)))
  where
    left : View → Bool
    left view = list_any (is_spare shape view) (pages_in e)

    stays : left v ≡ true → Lowers shape e v tt v
    stays any = (
      goes_within shape nothing (mixed_bit e) v v (nothing_within (mixed_bit e)) (goes_nowhere shape v f),
      (λ bare. ((λ m. let found = any_from (is_spare shape v) e any in let parts = spare_parts shape v found.0 found.2 in (found.0, found.1, parts.0, parts.1)), (λ o. mixed))),
    )

    none : (w : View) → Goes shape (mixed_bit e) v w → HasOpenPage shape.geometry w.now e → left v ≡ false → IsBare shape v e → ⊥
    none w goes (q, at, ordinary, un) left_none bare =
        let same = ap is_allocated_byte (goes.most.bytes q (in_extent shape v e q f inside at) (λ c. c)) in
        both_ways (left v) left_none (any_in (is_spare shape v) e q at (spare_from shape v q ordinary (sym same ∙ un) (bare q at ordinary (sym same ∙ un) unheld)))

pub page_extent : (shape : FileShape) (v : View) (p : ℕ) → IsFile shape v.now → p < shape.pages → p / 8 < shape.pages / 8
page_extent shape v p f inside = let file = f.file in let whole = file.whole in omega (arith, inside, whole)

-- page p of a mixed extent is taken
pub record IsTaken (shape : FileShape) (value p : ℕ) (v w : View) : Type 0 where
  pub goes : Goes shape (maps_of p) v w
  pub free : is_free shape.geometry w.now (p / 8) ≡ false
  pub mixed : IsBare shape v (p / 8) → IsExact shape (p / 8) w
  pub byte : pfs_byte shape.geometry w.now p ≡ value
  pub held : Took w (resource.Extent (record { 0 = p / 8 }))

pub neither : ⊥ ⊎ ⊥ → ⊥
neither h = ⊎_elim (λ x. x) (λ x. x) h

mixed_goes : (shape : FileShape) (value p : ℕ) (v : View) → p < shape.pages → is_allocated_byte value ≡ true → IsFile shape v.now → is_mixed shape.geometry v.now (p / 8) ≡ true →
    is_free shape.geometry v.now (p / 8) ≡ false → Leads (of_mixed shape value p) v (λ q w. (q ≡ p) × IsTaken shape value p v w)
mixed_goes shape value p v inside allocated f mixed free =
    let g = shape.geometry in
    let e = p / 8 in
    let extent = resource.Extent (record { 0 = e }) in
    let low = page_extent shape v p f inside in
    let K : ℕ → View → Type 0 = λ q w. (q ≡ p) × IsTaken shape value p v w in
    leads_then (take extent) _ v K (leads_weaker (take extent) v _ _ (λ u w h.
    let a = h.0 in
    leads_then (put_pfs shape p value) _ w K (leads_weaker (put_pfs shape p value) w _ _ (λ s x k.
    let b = k.0 in
    let both = goes_both shape nothing (byte_of p) v w x a b in
    let low_w = extent_in shape w.now e a.file low in
    let mixed_x = b.most.mixed e low_w (λ c. c) ∙ ap (λ i. is_mixed g i e) h.1 ∙ mixed in
    let free_x = b.most.free e low_w (λ c. c) ∙ ap (λ i. is_free g i e) h.1 ∙ free in
    let opens = λ (q : ℕ) (at : q / 8 ≡ e) (un : is_allocated g x.now q ≡ false). let is : is_allocated g v.now q ≡ false =
    sym (ap is_allocated_byte (both.most.bytes q (in_extent shape v e q f low at) (λ c. ⊎_elim (λ none. none)
    (λ here. both_ways (is_allocated g x.now q) un (ap (λ n. is_allocated g x.now n) here ∙ ap is_allocated_byte k.1 ∙ allocated)) c))) ∙ un in is in
    leads_then (lower_sgam shape e) (λ _. give p) x K (leads_weaker (lower_sgam shape e) x _ (λ t y. Leads (give p) y K) (λ t y l.
    leads_give p y K (
      refl,
      record {
        goes = goes_within shape (either (either nothing (byte_of p)) (mixed_bit e)) (maps_of p) v y (record {
          free = λ f c. absurd (neither (⊎_elim (λ c. inl (neither c)) (λ c. inr c) c));
          mixed = λ f c. inr (inl (⊎_elim (λ c. absurd (neither c)) (λ c. c) c));
          bytes = λ q c. inr (inr (⊎_elim (λ c. ⊎_elim (λ c. absurd c) (λ c. c) c) (λ c. absurd c) c));
          pages = λ q c. absurd (neither (⊎_elim (λ c. inl (neither c)) (λ c. inr c) c));
        }) (goes_both shape (either nothing (byte_of p)) (mixed_bit e) v x y both l.0);
        free = (l.0).most.free e (extent_in shape x.now e b.file low) (λ c. c) ∙ free_x;
        mixed = λ bare. l.1 (bare_on shape v x e both.other opens bare);
        byte = (l.0).most.bytes p (page_in shape x.now p b.file inside) (λ c. c) ∙ k.1;
        held = (l.0).taken extent (b.taken extent h.3);
      },
    ))
    (lower_goes shape e x low b.file mixed_x (ap (λ o. o extent) both.other ∙ h.2))))
    (pfs_goes shape p value w inside a.file)))
    (take_goes shape extent v f))

-- page p is the first of a free extent, which is mixed from here on
free_goes : (shape : FileShape) (value p : ℕ) (v : View) → p < shape.pages → is_allocated_byte value ≡ true → IsFile shape v.now →
    Leads (of_free shape value p) v (λ q w. (q ≡ p) × IsTaken shape value p v w)
free_goes shape value p v inside allocated f =
    let g = shape.geometry in
    let e = p / 8 in
    let low = page_extent shape v p f inside in
    let K : ℕ → View → Type 0 = λ q w. (q ≡ p) × IsTaken shape value p v w in
    leads_then (put_gam shape e 0) _ v K (leads_weaker (put_gam shape e 0) v _ _ (λ u w h.
    let a = h.0 in
    leads_then (put_sgam shape e 1) _ w K (leads_weaker (put_sgam shape e 1) w _ _ (λ s x k.
    let b = k.0 in
    let both = goes_both shape (free_bit e) (mixed_bit e) v w x a b in
    let free_x = b.most.free e (extent_in shape w.now e a.file low) (λ c. c) ∙ h.1 in
    let opens = λ (q : ℕ) (at : q / 8 ≡ e) (un : is_allocated g x.now q ≡ false). let is : is_allocated g v.now q ≡ false =
    sym (ap is_allocated_byte (both.most.bytes q (in_extent shape v e q f low at) neither)) ∙ un in is in
    leads_weaker (of_mixed shape value p) x _ K (λ q y l.
    let t = l.1 in (
      l.0,
      record {
        goes = goes_within shape (either (either (free_bit e) (mixed_bit e)) (maps_of p)) (maps_of p) v y (record {
          free = λ f c. ⊎_elim (λ c. ⊎_elim (λ c. inl c) (λ c. absurd c) c) (λ c. c) c;
          mixed = λ f c. ⊎_elim (λ c. ⊎_elim (λ c. absurd c) (λ c. inr (inl c)) c) (λ c. c) c;
          bytes = λ q c. ⊎_elim (λ c. absurd (neither c)) (λ c. c) c;
          pages = λ q c. ⊎_elim (λ c. absurd (neither c)) (λ c. c) c;
        }) (goes_both shape (either (free_bit e) (mixed_bit e)) (maps_of p) v x y both t.goes);
        free = t.free;
        mixed = λ bare. t.mixed (bare_on shape v x e both.other opens bare);
        byte = t.byte;
        held = t.held;
      },
    ))
    (mixed_goes shape value p x inside allocated b.file k.1 free_x))
    (sgam_goes shape e true w low a.file)))
    (gam_goes shape e false v low f))

-- what a search finds is taken, and where it finds nothing the view is as it was
abbrev pub Finds : View → (ℕ → View → Type 0) → Option ℕ → View → Type 0
Finds v K None w = w ≡ v
Finds v K (Some p) w = K p w

pub found_leads : (plan : Plan (Option ℕ)) (next : ℕ → Plan ℕ) (v : View) (Q : ℕ → Type 0) (K : ℕ → View → Type 0) → Reads plan v (IfFound Q) → ((p : ℕ) → Q p → Leads (next p) v K) →
    Leads (plan then (λ found. where_found found next)) v (Finds v K)
found_leads plan next v Q K reads gives = leads_from plan (λ found. where_found found next) v (IfFound Q) (Finds v K) reads by_found
  where
    by_found : (found : Option ℕ) → IfFound Q found → Leads (where_found found next) v (Finds v K)
    by_found None f = leads_give None v (Finds v K) refl
    by_found (Some p) f =
        leads_then (next p) (λ q. give (Some q)) v (Finds v K) (leads_weaker (next p) v K (λ q w. Leads (give (Some q)) w (Finds v K)) (λ q w h. leads_give (Some q) w (Finds v K) h) (gives p f))

pub either_leads : (first second : Plan (Option ℕ)) (v : View) (K : ℕ → View → Type 0) → Leads first v (Finds v K) → Leads second v (Finds v K) → Leads (either_of first second) v (Finds v K)
either_leads first second v K a b =
    leads_then first (λ found. or_later found second) v (Finds v K) (leads_weaker first v (Finds v K) (λ found w. Leads (or_later found second) w (Finds v K)) by_found a)
  where
    by_found : (found : Option ℕ) (w : View) → Finds v K found w → Leads (or_later found second) w (Finds v K)
    by_found None w same = subst (λ u. Leads second u (Finds v K)) (sym same) b
    by_found (Some p) w h = leads_give (Some p) w (Finds v K) h

-- no open page of an extent that nobody marks is held by another who doesn't hold the extent
abbrev pub AreBare : FileShape → View → Type 0
AreBare shape v = (e : ℕ) → e < shape.pages / 8 → (HasMarker shape.geometry v.now e → ⊥) → IsBare shape v e

pub bare_from : (v : View) → OthersHoldExtents v → AreBare v.shape v
bare_from v others e inside unmarked q at ordinary un =
    subst (λ f. v.other (resource.Extent (record { 0 = f })) ≡ None → v.other (resource.Byte (record { 0 = q })) ≡ None) at
    (others q (omega (arith, inside, at)) ordinary un (λ marked. unmarked (subst (HasMarker v.shape.geometry v.now) at marked)))

-- nor is one of the extent of a page that can be taken
pub bare_at : (shape : FileShape) (v : View) (p : ℕ) → IsFile shape v.now → IsStart shape.geometry v.now → AreBare shape v → IsTakeable shape.geometry v.now p → IsBare shape v (p / 8)
bare_at shape v p f start bare takeable =
    bare (p / 8) (page_extent shape v p f (subst (λ n. p < n) f.pages takeable.inside))
    (λ m. takeable_is_nobodys shape.geometry v.now start p takeable m.1.0 m.1.1 (inr m.1.3))

-- a page of a mixed extent that can be taken
record IsOfMixed (shape : FileShape) (v : View) (p : ℕ) : Type 0 where
  takeable : IsTakeable shape.geometry v.now p
  mixed : is_mixed shape.geometry v.now (p / 8) ≡ true
  free : is_free shape.geometry v.now (p / 8) ≡ false

-- the first page of a free extent can be taken
abbrev pub Opens : FileShape → View → Type 0
Opens shape v = (e : ℕ) → e < shape.pages / 8 → is_free shape.geometry v.now e ≡ true → IsTakeable shape.geometry v.now (8 * e)

pub starts_open : (shape : FileShape) (v : View) → IsFile shape v.now → IsStart shape.geometry v.now → Opens shape v
starts_open shape v f start e inside free = free_is_takeable shape.geometry v.now start e (extent_in shape v.now e f inside) free

-- a page that can be taken is
abbrev pub Takes : FileShape → View → ℕ → ℕ → View → Type 0
Takes shape v value p w = IsTakeable shape.geometry v.now p × IsTaken shape value p v w

module _ (shape : FileShape) (v : View) (f : IsFile shape v.now) (opens : Opens shape v) where
  mixed_found : (e : ℕ) → e < shape.pages / 8 → is_shared shape v e ≡ true → IfFound (IsOfMixed shape v) (spare_page shape v e)
  mixed_found e inside shared =
      let g = shape.geometry in
      let bits = and_parts (not (is_free g v.now e)) (is_mixed g v.now e) shared in
      first_kept (IsOfMixed shape v) (is_spare shape v) 8 (8 * e) (λ p low high spare.
      let at : e ≡ p / 8 = omega (arith, low, high) in
      let parts = spare_parts shape v p spare in
      let mixed = subst (λ n. is_mixed g v.now n ≡ true) at bits.1 in record {
        takeable = record { inside = page_in shape v.now p f (omega (arith, inside, high)); ordinary = parts.0; unallocated = parts.1; extent = inl mixed };
        mixed = mixed;
        free = subst (λ n. is_free g v.now n ≡ false) at (not-true (is_free g v.now e) bits.0);
      })

  pub free_found : (e : ℕ) → e < shape.pages / 8 → is_unused shape v e ≡ true → IfFound (IsTakeable shape.geometry v.now) (first_page_of shape v e)
  free_found e inside unused =
      let g = shape.geometry in
      let bits = and_parts (is_free g v.now e) (not (is_mixed g v.now e)) unused in
      cond_both (is_system_extent g e) None (Some (8 * e)) (IfFound (IsTakeable g v.now)) (λ h. tt) (λ h. opens e inside bits.0)

  pub single_goes : (value : ℕ) → is_allocated_byte value ≡ true → Leads (single_page shape value) v (Finds v (Takes shape v value))
  single_goes value allocated =
      let low = λ (p : ℕ) (takeable : IsTakeable shape.geometry v.now p). let inside : p < shape.pages = subst (λ n. p < n) f.pages takeable.inside in inside in
      either_leads _ _ v (Takes shape v value)
      (found_leads (search shape (is_shared shape) (spare_page shape)) (of_mixed shape value) v (IsOfMixed shape v) (Takes shape v value)
      (search_reads shape (is_shared shape) (spare_page shape) (IsOfMixed shape v) v mixed_found) (λ p is.
      leads_weaker (of_mixed shape value p) v _ (Takes shape v value) (λ q w h. subst (λ r. Takes shape v value r w) (sym h.0) (is.takeable, h.1))
      (mixed_goes shape value p v (low p is.takeable) allocated f is.mixed is.free)))
      (found_leads (search shape (is_unused shape) (first_page_of shape)) (of_free shape value) v (IsTakeable shape.geometry v.now) (Takes shape v value)
      (search_reads shape (is_unused shape) (first_page_of shape) (IsTakeable shape.geometry v.now) v free_found) (λ p takeable.
      leads_weaker (of_free shape value p) v _ (Takes shape v value) (λ q w h. subst (λ r. Takes shape v value r w) (sym h.0) (takeable, h.1))
      (free_goes shape value p v (low p takeable) allocated f)))

pub file_of : (v : View) → IsCleanView v → IsFile v.shape v.now
file_of v clean = let image = clean.image in record { file = image.file; pages = image.pages; whole = image.whole }

pub start_of : (v : View) → IsCleanView v → IsStart v.shape.geometry v.now
start_of v clean = record { shape = file_shape v.shape v.now (file_of v clean); clean = clean.maps }

-- what holds of each page that is taken holds of what is found
found_holds : (Holds : ℕ → View → Type 0) (v : View) (clean : IsCleanView v) (value : ℕ) → is_allocated_byte value ≡ true →
    ((p : ℕ) (w : View) → Takes v.shape v value p w → Holds p w) → Leads (single_page v.shape value) v (λ found w. IfFound (λ p. Holds p w) found)
found_holds Holds v clean value allocated holds =
    leads_weaker (single_page v.shape value) v _ (λ found w. IfFound (λ p. Holds p w) found) by_found
    (single_goes v.shape v (file_of v clean) (starts_open v.shape v (file_of v clean) (start_of v clean)) value allocated)
  where
    by_found : (found : Option ℕ) (w : View) → Finds v (Takes v.shape v value) found w → IfFound (λ p. Holds p w) found
    by_found None w h = tt
    by_found (Some p) w h = holds p w h

pub single_is_taken : SingleIsTaken
single_is_taken v value allocated clean =
    found_holds (λ p w. TakesPage v.shape.geometry value p v.now w.now) v clean value allocated
    (λ p w h. let t = h.1 in let goes = t.goes in record { takeable = h.0; most = goes.most; free = t.free; byte = t.byte })

pub single_sets_sgam : SingleSetsSgam
single_sets_sgam v value allocated clean others =
    found_holds (λ p w. IsExact v.shape (p / 8) w) v clean value allocated
    (λ p w h. let t = h.1 in t.mixed (bare_at v.shape v p (file_of v clean) (start_of v clean) (bare_from v others) h.0))
