-- A single page becomes the last of a chain.
use Rattle.std.proofs.Common.{◌≡◌, ◌≢◌, ℕ, ◌/◌, ◌<◌, false, List, [], ◌++◌, length, Option, Some, None, refl, sym, subst, ◌∙◌, inl, inr, ⊎_elim}
use Rattle.spec_file.specs.declared.data.Resource.TheVariants as resource
use Rattle.spec_file.specs.declared.pfs.PfsKind.TheVariants.{Iam}
use Rattle.spec_file.specs.CatalogRows.{CatalogRow}
use Rattle.spec_file.specs.Image.{page}
use Rattle.spec_file.specs.Pfs.{expected}
use Rattle.spec_file.specs.Places.{is_free, interval_of_page}
use Rattle.spec_chain.specs.Uses.{pfs_byte}
use Rattle.spec_plan.specs.Changes.{last_of}
use Rattle.spec_words.specs.NetChanges.{FileShape}
use Rattle.spec_words.specs.Views.{View}
use Rattle.spec_words.specs.Words.{◌then◌, give, put_page, found_or}
use Rattle.spec_alloc.specs.SinglePages.{single_page, no_page}
use Rattle.spec_alloc.specs.Chains.{page_taken, put_next, new_iam_page}
use Rattle.spec_alloc.specs.ObjectPages.{new_iam}
use Rattle.spec_log.specs.Cells.{with_bytes}
use Rattle.spec_steps.specs.AtMost.{page_of, either, maps_of}
use Rattle.spec_steps.specs.IamPages.{IsNextSet}
use Rattle.spec_steps.specs.Taking.{IsTakeable}
use Rattle.law_net.specs.GoodViews.{Leads}
use Rattle.law_net.proofs.WordLaws.{leads_then, leads_give, leads_weaker}
use Rattle.law_alloc.proofs.Objects.{none_leads}
use Rattle.law_kept.proofs.Steps.{IsFile, page_in, extent_in, Took, Goes, goes_both, goes_within}
use Rattle.law_kept.proofs.Singles.{Opens, Takes, Finds, IsBare, IsExact, single_goes, page_extent}
use Rattle.law_kept.proofs.NewPages.{page_long, whole_put}
use Rattle.law_kept.proofs.NewChains.{exact_on}
use Rattle.law_kept.proofs.IamWords.{IsOwnPage, page_low, iam_goes, next_goes}
use Rattle.law_kept.proofs.Grows.{after_taken}

-- page q, a single page, is behind the last page, and says so
pub record TakesNext (shape : FileShape) (last : ℕ) (bytes : List ℕ) (x : View) (q : ℕ) (z : View) : Type 0 where
  pub takeable : IsTakeable shape.geometry x.now q
  pub goes : Goes shape (either (maps_of q) (either (page_of q) (page_of last))) x z
  pub free : is_free shape.geometry z.now (q / 8) ≡ false
  pub byte : pfs_byte shape.geometry z.now q ≡ expected Iam 0
  pub exact : IsBare shape x (q / 8) → IsExact shape (q / 8) z
  pub own : page z.now q ≡ bytes
  pub linked : IsNextSet q (page x.now last) (page z.now last)
  pub held : Took z (resource.Extent (record { 0 = q / 8 }))

module _ (shape : FileShape) (row : CatalogRow) (chain path : List ℕ) (p last : ℕ) (x : View) (f : IsFile shape x.now) (opens : Opens shape x) (own : IsOwnPage shape last)
    (is_last : last_of 0 chain ≡ last) (other : (q : ℕ) → IsTakeable shape.geometry x.now q → q ≢ last) where
  abbrev bytes : ℕ → List ℕ
  bytes q = new_iam_page row.id q (last_of 0 chain) (interval_of_page shape.geometry p) (length chain)

  abbrev Next : ℕ → View → Type 0
  Next q = TakesNext shape last (new_iam_page row.id q (last_of 0 chain) (interval_of_page shape.geometry p) (length chain)) x q

  next_made : (q : ℕ) (w y z : View) → Takes shape x (expected Iam 0) q w → Goes shape (page_of q) w y
      → page y.now q ≡ with_bytes (page w.now q) 0 (new_iam_page row.id q (last_of 0 chain) (interval_of_page shape.geometry p) (length chain))
      → Goes shape (page_of last) y z → IsNextSet q (page y.now last) (page z.now last) → Next q z
  next_made q w y z h put is link set =
      let takeable = h.0 in
      let t = h.1 in
      let goes = t.goes in
      let apart = other q takeable in
      let inside : q < shape.pages = subst (λ n. q < n) f.pages takeable.inside in
      let low = page_extent shape x q f inside in
      let first = goes_both shape (maps_of q) (page_of q) x w y goes put in
      let both = goes_within shape (either (either (maps_of q) (page_of q)) (page_of last)) (either (maps_of q) (either (page_of q) (page_of last))) x z (record {
        free = λ e c. ⊎_elim (λ c. ⊎_elim (λ c. inl c) (λ c. absurd c) c) (λ c. absurd c) c;
        mixed = λ e c. ⊎_elim (λ c. ⊎_elim (λ c. inl c) (λ c. absurd c) c) (λ c. absurd c) c;
        bytes = λ r c. ⊎_elim (λ c. ⊎_elim (λ c. inl c) (λ c. absurd c) c) (λ c. absurd c) c;
        pages = λ r c. ⊎_elim (λ c. ⊎_elim (λ c. inl c) (λ c. inr (inl c)) c) (λ c. inr (inr c)) c;
      }) (goes_both shape (either (maps_of q) (page_of q)) (page_of last) x y z first link) in
      let long = page_long row.id q (last_of 0 chain) (interval_of_page shape.geometry p) (length chain) in
      let file = goes.file in
      let old : page y.now last ≡ page x.now last = first.most.pages last (inr own.ordinary)
      (λ c. ⊎_elim (λ b. ⊎_elim (λ x. x) (λ b. ⊎_elim (λ x. x) (λ x. x) b) b) (λ here. apart (sym here)) c) in record {
        takeable = takeable;
        goes = both;
        free = link.most.free (q / 8) (extent_in shape y.now (q / 8) put.file low) (λ c. c) ∙ put.most.free (q / 8) (extent_in shape w.now (q / 8) goes.file low) (λ c. c) ∙ t.free;
        byte = link.most.bytes q (page_in shape y.now q put.file inside) (λ c. c) ∙ put.most.bytes q (page_in shape w.now q goes.file inside) (λ c. c) ∙ t.byte;
        exact = λ bare. exact_on shape last (q / 8) y z low put.file link (exact_on shape q (q / 8) w y low goes.file put (t.mixed bare));
        own = link.most.pages q (inr takeable.ordinary) apart ∙ is
            ∙ whole_put (page w.now q) (new_iam_page row.id q (last_of 0 chain) (interval_of_page shape.geometry p) (length chain))
            (long ∙ sym (file.whole q [] (page_in shape w.now q goes.file inside)));
        linked = subst (λ b. IsNextSet q b (page z.now last)) old set;
        held = link.taken (resource.Extent (record { 0 = q / 8 })) (put.taken (resource.Extent (record { 0 = q / 8 })) t.held);
      }

  pub next_taken : Leads (new_iam shape row chain path p) x Next
  next_taken =
      leads_then (single_page shape (expected Iam 0)) _ x Next
      (leads_weaker (single_page shape (expected Iam 0)) x (Finds x (Takes shape x (expected Iam 0))) _ by_found (single_goes shape x f opens (expected Iam 0) refl))
    where
      written : (q : ℕ) (w : View) → Takes shape x (expected Iam 0) q w →
          Leads (put_page q (new_iam_page row.id q (last_of 0 chain) (interval_of_page shape.geometry p) (length chain)) then (λ _. put_next (last_of 0 chain) q then (λ _. give q))) w Next
      written q w h =
          let t = h.1 in
          let goes = t.goes in
          let takeable = h.0 in
          let inside : q < shape.pages = subst (λ n. q < n) f.pages takeable.inside in
          leads_then (put_page q (bytes q)) _ w Next (leads_weaker (put_page q (bytes q)) w _ _ (λ u y k.
          let put = k.0 in
          subst (λ l. Leads (put_next l q then (λ _. give q)) y Next) (sym is_last)
          (leads_then (put_next last q) (λ _. give q) y Next (leads_weaker (put_next last q) y _ _ (λ s z m. leads_give q z Next (next_made q w y z h k.0 k.1 m.0 m.1))
          (next_goes shape last own y put.file q (page_low shape x q f inside)))))
          (iam_goes shape q (record { inside = inside; ordinary = takeable.ordinary }) w goes.file 0 (bytes q)))

      by_found : (found : Option ℕ) (w : View) → Finds x (Takes shape x (expected Iam 0)) found w →
          Leads (found_or found (no_page shape) then (λ q. page_taken (chain ++ path) q then (λ _. put_page q (new_iam_page row.id q (last_of 0 chain) (interval_of_page shape.geometry p) (length chain)) then
          (λ _. put_next (last_of 0 chain) q then (λ _. give q))))) w Next
      by_found None w h = leads_then (no_page shape) _ w Next (none_leads shape w _)
      by_found (Some q) w h =
          leads_then (give q) _ w Next (leads_give q w _ (after_taken (chain ++ path) q
          (put_page q (bytes q) then (λ _. put_next (last_of 0 chain) q then (λ _. give q))) w Next (written q w h)))
