-- The page of a new chain is taken, and is the one IAM page of its object.
use Rattle.std.proofs.Common.{◌≡◌, ℕ, ◌/◌, ◌^◌, ◌<◌, ◌≤◌, ◌==◌, not, List, [], Option, Some, None, refl, sym, ap, subst, ◌∙◌, inr, arith}
use Rattle.std.specs.List.{list_any}
use Rattle.spec_file.specs.declared.data.Resource.TheVariants as resource
use Rattle.spec_file.specs.declared.geometry.Geometry.{Geometry}
use Rattle.spec_file.specs.declared.geometry.Geometry.TheVariants.{Standard, Small}
use Rattle.spec_file.specs.declared.pfs.PfsKind.{PfsKind}
use Rattle.spec_file.specs.declared.pfs.PfsKind.TheVariants.{Iam}
use Rattle.spec_file.specs.Image.{page}
use Rattle.spec_file.specs.Pfs.{expected, is_allocated_byte}
use Rattle.spec_file.specs.Places.{page_limit}
use Rattle.spec_chain.specs.Uses.{pfs_byte, is_allocated}
use Rattle.spec_words.specs.NetChanges.{FileShape}
use Rattle.spec_words.specs.Views.{View, Plan}
use Rattle.spec_words.specs.Words.{◌then◌, give, where_good, look, put_page, found_or}
use Rattle.spec_alloc.specs.SinglePages.{single_page, no_page}
use Rattle.spec_alloc.specs.Chains.{page_taken, new_iam_page}
use Rattle.spec_alloc.specs.Objects.{new_chain}
use Rattle.spec_extents.specs.Extents.{Fits}
use Rattle.spec_steps.specs.AtMost.{page_of, either, maps_of}
use Rattle.spec_steps.specs.IamPages.{IsOnlyIam}
use Rattle.spec_steps.specs.Taking.{IsHeldAs}
use Rattle.law_frames.proofs.Held.{IsStart}
use Rattle.law_net.specs.GoodViews.{Leads}
use Rattle.law_net.proofs.WordLaws.{leads_then, leads_give, leads_good, leads_look, leads_weaker}
use Rattle.law_alloc.proofs.Objects.{none_leads}
use Rattle.law_kept.specs.Singles.{TakesIam, ChainIsTaken}
use Rattle.law_kept.proofs.Steps.{IsFile, page_in, Took, Goes, goes_both}
use Rattle.law_kept.proofs.Words.{page_goes}
use Rattle.law_kept.proofs.Singles.{IsBare, IsExact, Finds, Takes, single_goes, starts_open, page_extent, in_extent, file_of, start_of}
use Rattle.law_kept.proofs.Steps.{extent_in}
use Rattle.law_kept.proofs.NewPages.{page_long, only_iam, whole_put}

-- a page that is taken is read, and stays as it is
pub taken_reads : (standing : List ℕ) (p : ℕ) (v : View) → Leads (page_taken standing p) v (λ q w. (q ≡ p) × (w ≡ v))
taken_reads standing p v =
    let K : ℕ → View → Type 0 = λ q w. (q ≡ p) × (w ≡ v) in
    leads_then (look (resource.Page (record { 0 = p })) p) _ v K (leads_look (resource.Page (record { 0 = p })) p v _ (λ free.
    leads_then (where_good (not (list_any (λ q. q == p) standing)) p) _ v K (leads_good (not (list_any (λ q. q == p) standing)) p v _ (λ good. leads_give p v K (refl, refl)))))

-- what is taken as such a page is so still where a page is written, and so is SGAM exact
pub held_on : (shape : FileShape) (r p : ℕ) (kind : PfsKind) (w x : View) → p < shape.pages → IsFile shape w.now → Goes shape (page_of r) w x → IsHeldAs shape.geometry w.now p kind →
    IsHeldAs shape.geometry x.now p kind
held_on shape r p kind w x inside f put held = record {
  free = put.most.free (p / 8) (extent_in shape w.now (p / 8) f (page_extent shape w p f inside)) (λ c. c) ∙ held.free;
  byte = subst (λ b. Fits b kind) (sym (put.most.bytes p (page_in shape w.now p f inside) (λ c. c))) held.byte;
}

pub exact_on : (shape : FileShape) (r e : ℕ) (w x : View) → e < shape.pages / 8 → IsFile shape w.now → Goes shape (page_of r) w x → IsExact shape e w → IsExact shape e x
exact_on shape r e w x low f put exact =
    let mixed = put.most.mixed e (extent_in shape w.now e f low) (λ c. c) in
    let same = λ (q : ℕ) (at : q / 8 ≡ e). let is : is_allocated shape.geometry x.now q ≡ is_allocated shape.geometry w.now q =
    ap is_allocated_byte (put.most.bytes q (in_extent shape w e q f low at) (λ c. c)) in is in (
      (λ m. let o = exact.0 (sym mixed ∙ m) in (o.0, o.1, o.2, same o.0 o.1 ∙ o.3)),
      (λ o. mixed ∙ exact.1 (o.0, o.1, o.2, sym (same o.0 o.1) ∙ o.3)),
    )

iam_fits : (byte : ℕ) → byte ≡ expected Iam 0 → Fits byte Iam
iam_fits byte same = subst (λ b. Fits b Iam) (sym same) (record { flags = refl; fullness = λ holds. refl })

pub number_low : (g : Geometry) (p n : ℕ) → p < n → n ≤ page_limit g → p < 256 ^ 4
number_low Standard p n low few = omega (arith, low, few)
number_low Small p n low few = omega (arith, low, few)

module _ (shape : FileShape) (id : ℕ) (v : View) (f : IsFile shape v.now) (start : IsStart shape.geometry v.now) (low_id : id < 256 ^ 4) where
  abbrev pub Chains : ℕ → View → Type 0
  Chains q w = Goes shape (either (maps_of q) (page_of q)) v w × TakesIam shape.geometry id q v.now w.now × (IsBare shape v (q / 8) → IsExact shape (q / 8) w) × Took w (resource.Extent (record { 0 = q / 8 }))

  page_put : (q : ℕ) (w : View) → Takes shape v (expected Iam 0) q w → Leads (put_page q (new_iam_page id q 0 0 0)) w (λ u x. Chains q x)
  page_put q w h =
      let takeable = h.0 in
      let t = h.1 in
      let goes = t.goes in
      let after = goes.file in
      let inside : q < shape.pages = subst (λ n. q < n) f.pages takeable.inside in
      let file = f.file in
      let low = number_low shape.geometry q shape.pages inside file.high in
      leads_weaker (put_page q (new_iam_page id q 0 0 0)) w _ (λ u x. Chains q x) (λ u x k.
      let is : page x.now q ≡ new_iam_page id q 0 0 0 =
      k.1 ∙ whole_put (page w.now q) (new_iam_page id q 0 0 0) (page_long id q 0 0 0 ∙ sym (after.whole q [] (page_in shape w.now q after inside))) in
      let both = goes_both shape (maps_of q) (page_of q) v w x goes k.0 in (
        both,
        record {
          takeable = takeable;
          most = both.most;
          taken = held_on shape q q Iam w x inside after k.0 (record { free = t.free; byte = iam_fits (pfs_byte shape.geometry w.now q) t.byte });
          new = subst (IsOnlyIam id q) (sym is) (only_iam id q low_id low);
        },
        (λ bare. exact_on shape q (q / 8) w x (page_extent shape v q f inside) after k.0 (t.mixed bare)),
        (k.0).taken (resource.Extent (record { 0 = q / 8 })) t.held,
      ))
      (page_goes shape (resource.Page (record { 0 = q })) q 0 (new_iam_page id q 0 0 0) w inside (inr takeable.ordinary) after)

  pub chain_goes : Leads (new_chain shape id) v Chains
  chain_goes =
      let put : ℕ → Plan ℕ = λ q. page_taken [] q then (λ _. put_page q (new_iam_page id q 0 0 0) then (λ _. give q)) in
      leads_then (single_page shape (expected Iam 0)) _ v Chains
      (leads_weaker (single_page shape (expected Iam 0)) v (Finds v (Takes shape v (expected Iam 0))) (λ found w. Leads (found_or found (no_page shape) then put) w Chains)
      by_found (single_goes shape v f (starts_open shape v f start) (expected Iam 0) refl))
    where
      by_found : (found : Option ℕ) (w : View) → Finds v (Takes shape v (expected Iam 0)) found w →
          Leads (found_or found (no_page shape) then (λ q. page_taken [] q then (λ _. put_page q (new_iam_page id q 0 0 0) then (λ _. give q)))) w Chains
      by_found None w h = leads_then (no_page shape) _ w Chains (none_leads shape w _)
      by_found (Some q) w h =
          leads_then (give q) _ w Chains (leads_give q w _
          (leads_then (page_taken [] q) _ w Chains (leads_weaker (page_taken [] q) w _ _ (λ r x k.
          leads_then (put_page q (new_iam_page id q 0 0 0)) _ x Chains (leads_weaker (put_page q (new_iam_page id q 0 0 0)) x (λ u y. Chains q y) _ (λ u y l. leads_give q y Chains l)
          (subst (λ y. Leads (put_page q (new_iam_page id q 0 0 0)) y (λ u z. Chains q z)) (sym k.1) (page_put q w h))))
          (taken_reads [] q w))))

pub chain_is_taken : ChainIsTaken
chain_is_taken v id low clean =
    leads_weaker (new_chain v.shape id) v _ _ (λ q w h. h.1) (chain_goes v.shape id v (file_of v clean) (start_of v clean) low)
