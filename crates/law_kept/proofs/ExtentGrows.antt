-- An object marks the lowest free extent, and gets its first page.
use Rattle.std.proofs.Common.{◌≡◌, ◌≢◌, ◌⊎◌, ℕ, suc, ◌*◌, ◌/◌, ◌%◌, ◌^◌, ◌<◌, ◌==◌, not, true, false, List, ◌++◌, length, Option, Some, None, refl, sym, ap, subst, ◌∙◌, inl, inr, ⊎_elim, arith}
use Rattle.std.proofs.lemmas.Bool.{and_parts, both_ways, cond_both, eqb-true, eq-eqb, not-true}
use Rattle.spec_file.specs.declared.data.Resource.TheVariants as resource
use Rattle.spec_file.specs.declared.pfs.PfsKind.TheVariants.{Uniform}
use Rattle.spec_file.specs.CatalogRows.{CatalogRow}
use Rattle.spec_file.specs.Iam.{iam_interval}
use Rattle.spec_file.specs.Image.{page}
use Rattle.spec_file.specs.Pfs.{expected, is_allocated_byte}
use Rattle.spec_file.specs.Places.{is_free, is_mixed, interval_size, interval_of_page}
use Rattle.spec_file.specs.Roles.{is_system_extent}
use Rattle.spec_chain.specs.Chains.{IsChainPage, pointer}
use Rattle.spec_chain.specs.Uses.{pfs_byte, is_allocated}
use Rattle.spec_check.proofs.Members.{filter_from, filter_in}
use Rattle.spec_words.specs.Views.{View, Plan}
use Rattle.spec_words.specs.Words.{◌then◌, give, sees, put_gam, found_or}
use Rattle.spec_extents.specs.Extents.{extent_of}
use Rattle.spec_alloc.specs.Search.{search}
use Rattle.spec_alloc.specs.SinglePages.{is_unused, first_page_of}
use Rattle.spec_alloc.specs.Chains.{put_mark, new_iam_page}
use Rattle.spec_alloc.specs.ObjectPages.{marked_page_taken, new_iam, iam_of, extent_marked, extent_page}
use Rattle.spec_steps.specs.AtMost.{free_bit, byte_of, page_of, either, maps_of}
use Rattle.spec_steps.specs.IamPages.{IsNextSet}
use Rattle.spec_steps.specs.Taking.{IsTakeable, MarksExtent}
use Rattle.law_chains.specs.Laws.{chain_pages, IsWhole}
use Rattle.law_chains.proofs.Allocated.{intervals}
use Rattle.law_extents.proofs.GoodKinds.{free_kind}
use Rattle.law_frames.proofs.Held.{IsHeld, held, goods}
use Rattle.law_steps.proofs.MarkedExtents.{mark_clean}
use Rattle.law_steps.proofs.AllocatedPages.{mark_gets}
use Rattle.law_steps.proofs.ExactSgam.{mark_exact}
use Rattle.law_steps.proofs.LeftParts.{mark_parts}
use Rattle.law_net.specs.GoodViews.{Leads}
use Rattle.law_net.proofs.WordLaws.{leads_then, leads_give, leads_weaker}
use Rattle.law_alloc.specs.Keeps.{IfFound}
use Rattle.law_alloc.proofs.Searches.{sees_reads, leads_from, search_reads}
use Rattle.law_kept.proofs.PartsTaken.{taken_extents, all_wider}
use Rattle.law_kept.proofs.Steps.{IsFile, page_in, extent_in, Goes, goes_both, goes_within, Took}
use Rattle.law_kept.proofs.Words.{gam_goes}
use Rattle.law_kept.proofs.Singles.{Opens, Finds, found_leads, starts_open, bare_on, bare_at, page_extent, in_extent, neither}
use Rattle.law_kept.proofs.NewChains.{exact_on}
use Rattle.law_kept.proofs.Dropping.{IsTable}
use Rattle.law_kept.proofs.ChainLists.{in_chain, chain_in, chain_count, last_is, first_from, first_there}
use Rattle.law_kept.proofs.IamWrites.{PutsMark}
use Rattle.law_kept.proofs.IamWords.{IsOwnPage, mark_goes}
use Rattle.law_kept.proofs.Grows.{Grows, kind_fits, marked_taken}
use Rattle.law_kept.proofs.GrownAndMarked.{grown_and_marked, GrowsAndMarks, both_clean, both_gets, both_exact, both_left}
use Rattle.law_kept.proofs.NewIams.{TakesNext, next_taken}

module _ (v : View) (row : CatalogRow) (table : IsTable v.shape v row) (j : ℕ) (whole : IsWhole v.shape.geometry v.now row (suc j)) (low_id : row.id < 256 ^ 4) where
  abbrev f : IsFile v.shape v.now
  f = table.file

  -- a page of the chain
  chain_held : (k : ℕ) → IsChainPage v.shape.geometry v.now row k → IsHeld v.shape.geometry v.now row (pointer v.now row k)
  chain_held k is = held v.shape.geometry v.now row k table.start table.object is

  chain_own : (k : ℕ) → IsChainPage v.shape.geometry v.now row k → IsOwnPage v.shape (pointer v.now row k)
  chain_own k is = let h = chain_held k is in record { inside = subst (λ m. pointer v.now row k < m) f.pages h.inside; ordinary = h.ordinary }

  -- the first page of a free extent
  record IsFirstFree (p : ℕ) : Type 0 where
    takeable : IsTakeable v.shape.geometry v.now p
    free : is_free v.shape.geometry v.now (p / 8) ≡ true
    mixed : is_mixed v.shape.geometry v.now (p / 8) ≡ false

  -- its extent is taken, and the page
  record IsOpened (p : ℕ) (x : View) : Type 0 where
    goes : Goes v.shape (either (free_bit (p / 8)) (byte_of p)) v x
    free : is_free v.shape.geometry x.now (p / 8) ≡ false
    byte : pfs_byte v.shape.geometry x.now p ≡ expected Uniform 0
    held : Took x (resource.Extent (record { 0 = p / 8 }))

  module _ (p : ℕ) (is : IsFirstFree p) where
    inside : p < v.shape.pages
    inside = let t = is.takeable in subst (λ m. p < m) f.pages t.inside

    low : p / 8 < v.shape.pages / 8
    low = page_extent v.shape v p f inside

    was_zero : pfs_byte v.shape.geometry v.now p ≡ 0
    was_zero =
        let t = is.takeable in
        (free_kind v.shape.geometry (p / 8) (extent_of v.shape.geometry v.now (p / 8)) (goods v.shape.geometry v.now table.start (p / 8) (extent_in v.shape v.now (p / 8) f low)) is.free).bytes
        p refl t.ordinary

    -- ---- where the chain has a page of its interval

    known_made : (k : ℕ) (x y : View) → IsOpened p x → IsChainPage v.shape.geometry v.now row k → iam_interval (page v.now (pointer v.now row k)) ≡ interval_of_page v.shape.geometry p
        → Goes v.shape (page_of (pointer v.now row k)) x y
        → PutsMark (p / 8 % interval_size v.shape.geometry) true (page x.now (pointer v.now row k)) (page y.now (pointer v.now row k)) → Grows v.shape row v p y
    known_made k x y opened chain interval put set =
        let g = v.shape.geometry in
        let e = p / 8 in
        let q = pointer v.now row k in
        let n = e % interval_size g in
        let t = is.takeable in
        let goes = opened.goes in
        let h = chain_held k chain in
        let both = goes_within v.shape (either (either (free_bit e) (byte_of p)) (page_of q)) (either (free_bit e) (either (byte_of p) (either (page_of p) (page_of q)))) v y (record {
          free = λ d c. ⊎_elim (λ c. ⊎_elim (λ c. inl c) (λ c. absurd c) c) (λ c. absurd c) c;
          mixed = λ d c. absurd (⊎_elim neither (λ c. c) c);
          bytes = λ r c. ⊎_elim (λ c. ⊎_elim (λ c. absurd c) (λ c. inr (inl c)) c) (λ c. absurd c) c;
          pages = λ r c. ⊎_elim (λ c. absurd (neither c)) (λ c. inr (inr (inr c))) c;
        }) (goes_both v.shape (either (free_bit e) (byte_of p)) (page_of q) v x y goes put) in
        let old : page x.now q ≡ page v.now q = goes.most.pages q (inr h.ordinary) neither in
        let new = subst (λ b. PutsMark n true b (page y.now q)) old set in
        let marks : MarksExtent g v.now y.now row k e p = record {
          object = table.object;
          chain = chain;
          interval = interval ∙ intervals g p;
          inside = extent_in v.shape v.now e f low;
          was_free = is.free;
          at = refl;
          ordinary = t.ordinary;
          most = both.most;
          free = put.most.free e (extent_in v.shape x.now e goes.file low) (λ c. c) ∙ opened.free;
          byte = kind_fits Uniform (pfs_byte g y.now p) (put.most.bytes p (page_in v.shape x.now p goes.file inside) (λ c. c) ∙ opened.byte);
          mark = record { here = new.here; others = new.others; links = new.links; slots = new.slots };
        } in record {
          stays = mark_clean g v.now y.now row k e p table.start marks;
          gets = mark_gets g v.now y.now row k e p table.start marks;
          exact = λ bare exact. mark_exact g v.now y.now row k e p table.start marks exact;
          left = all_wider g v.now y.now row.id (λ d. d ≡ e) (taken_extents y)
              (λ d here. subst (taken_extents y) (sym here) (put.taken (resource.Extent (record { 0 = e })) opened.held)) (mark_parts g v.now y.now row k e p table.start marks);
          taken = both.taken;
        }

    -- ---- where it has none

    -- another extent than that of page p, and its pages, are as they were
    other_takeable : (x : View) → IsOpened p x → (r : ℕ) → r / 8 ≢ p / 8 → IsTakeable v.shape.geometry x.now r → IsTakeable v.shape.geometry v.now r
    other_takeable x opened r other t =
        let g = v.shape.geometry in
        let goes = opened.goes in
        let old : r < length v.now = subst (λ m. r < m) goes.most.size t.inside in
        let low_r = extent_in v.shape v.now (r / 8) f (page_extent v.shape v r f (subst (λ m. r < m) f.pages old)) in record {
          inside = old;
          ordinary = t.ordinary;
          unallocated = sym (ap is_allocated_byte (goes.most.bytes r old (λ c. ⊎_elim (λ c. c) (λ here. other (ap (λ m. m / 8) here)) c))) ∙ t.unallocated;
          extent = ⊎_elim (λ mixed. inl (sym (goes.most.mixed (r / 8) low_r neither) ∙ mixed))
              (λ free. inr (sym (goes.most.free (r / 8) low_r (λ c. ⊎_elim other (λ c. c) c)) ∙ free)) t.extent;
        }

    -- a page that can be taken then is of another extent
    of_other : (x : View) → IsOpened p x → (r : ℕ) → IsTakeable v.shape.geometry x.now r → r / 8 ≢ p / 8
    of_other x opened r t here =
        let g = v.shape.geometry in
        let goes = opened.goes in
        ⊎_elim
        (λ mixed. both_ways (is_mixed g v.now (p / 8)) is.mixed (sym (goes.most.mixed (p / 8) (extent_in v.shape v.now (p / 8) f low) neither) ∙ subst (λ e. is_mixed g x.now e ≡ true) here mixed))
        (λ free. both_ways (is_free g x.now (p / 8)) opened.free (subst (λ e. is_free g x.now e ≡ true) here free)) t.extent

    still_opens : (x : View) → IsOpened p x → Opens v.shape x
    still_opens x opened e low_e free =
        let g = v.shape.geometry in
        let goes = opened.goes in
        let other = λ (here : e ≡ p / 8). both_ways (is_free g x.now (p / 8)) opened.free (subst (λ d. is_free g x.now d ≡ true) here free) in
        let same : is_free g x.now e ≡ is_free g v.now e = goes.most.free e (extent_in v.shape v.now e f low_e) (λ c. ⊎_elim other (λ c. c) c) in
        let t = starts_open v.shape v f table.start e low_e (sym same ∙ free) in
        let at : 8 * e / 8 ≡ e = omega arith in record {
          inside = subst (λ m. 8 * e < m) (sym goes.most.size) t.inside;
          ordinary = t.ordinary;
          unallocated = ap is_allocated_byte (goes.most.bytes (8 * e) t.inside (λ c. ⊎_elim (λ c. c) (λ here. other (sym at ∙ ap (λ m. m / 8) here)) c)) ∙ t.unallocated;
          extent = inr (subst (λ d. is_free g x.now d ≡ true) (sym at) free);
        }

    last_chain : IsChainPage v.shape.geometry v.now row j
    last_chain = whole.pages.pages

    not_last : (x : View) → IsOpened p x → (r : ℕ) → IsTakeable v.shape.geometry x.now r → r ≢ pointer v.now row j
    not_last x opened r t here =
        let h = chain_held j last_chain in
        let old = other_takeable x opened r (of_other x opened r t) t in
        both_ways (is_allocated v.shape.geometry v.now r) old.unallocated (subst (λ q. is_allocated v.shape.geometry v.now q ≡ true) (sym here) h.allocated)

    abbrev new_bytes : ℕ → List ℕ
    new_bytes q = new_iam_page row.id q (pointer v.now row j) (interval_of_page v.shape.geometry p) (suc j)

    grown_most : (q : ℕ) (x z y : View) → IsOpened p x → Goes v.shape (either (maps_of q) (either (page_of q) (page_of (pointer v.now row j)))) x z → Goes v.shape (page_of q) z y
        → Goes v.shape (grown_and_marked p q (pointer v.now row j)) v y
    grown_most q x z y opened grown put =
        let last = pointer v.now row j in
        let first = either (free_bit (p / 8)) (byte_of p) in
        let second = either (maps_of q) (either (page_of q) (page_of last)) in
        goes_within v.shape (either (either first second) (page_of q)) (grown_and_marked p q last) v y (record {
          free = λ e c. ⊎_elim
              (λ c. ⊎_elim (λ c. ⊎_elim (λ c. inl c) (λ c. absurd c) c) (λ c. ⊎_elim (λ c. ⊎_elim (λ c. inr c) (λ c. absurd (neither c)) c) (λ c. absurd (neither c)) c) c) (λ c. absurd c) c;
          mixed = λ e c. ⊎_elim
              (λ c. ⊎_elim (λ c. absurd (neither c)) (λ c. ⊎_elim (λ c. ⊎_elim (λ c. absurd c) (λ c. ⊎_elim (λ c. c) (λ c. absurd c) c) c) (λ c. absurd (neither c)) c) c) (λ c. absurd c) c;
          bytes = λ r c. ⊎_elim
              (λ c. ⊎_elim (λ c. ⊎_elim (λ c. absurd c) (λ c. inl c) c) (λ c. ⊎_elim (λ c. ⊎_elim (λ c. absurd c) (λ c. ⊎_elim (λ c. absurd c) (λ c. inr c) c) c) (λ c. absurd (neither c)) c) c)
              (λ c. absurd c) c;
          pages = λ r c. ⊎_elim
              (λ c. ⊎_elim (λ c. absurd (neither c)) (λ c. ⊎_elim (λ c. absurd (⊎_elim (λ x. x) neither c)) (λ c. c) c) c) (λ c. inl c) c;
        }) (goes_both v.shape (either first second) (page_of q) v z y (goes_both v.shape first second v x z opened.goes grown) put)

    grown_made : (q : ℕ) (x z y : View) → IsOpened p x
        → ((k : ℕ) → IsChainPage v.shape.geometry v.now row k → iam_interval (page v.now (pointer v.now row k)) ≢ interval_of_page v.shape.geometry p)
        → TakesNext v.shape (pointer v.now row j) (new_iam_page row.id q (pointer v.now row j) (interval_of_page v.shape.geometry p) (suc j)) x q z → Goes v.shape (page_of q) z y
        → PutsMark (p / 8 % interval_size v.shape.geometry) true (page z.now q) (page y.now q) → Grows v.shape row v p y
    grown_made q x z y opened none next put set =
        let g = v.shape.geometry in
        let n = p / 8 % interval_size g in
        let last = pointer v.now row j in
        let t = is.takeable in
        let goes = opened.goes in
        let grown = next.goes in
        let taken = next.takeable in
        let apart = of_other x opened q taken in
        let apart_last = not_last x opened q taken in
        let old = other_takeable x opened q apart taken in
        let h = chain_held j last_chain in
        let inside_q : q < v.shape.pages = subst (λ m. q < m) f.pages old.inside in
        let low_q = page_extent v.shape v q f inside_q in
        let all = grown_most q x z y opened grown put in
        let same_last : page x.now last ≡ page v.now last = goes.most.pages last (inr h.ordinary) neither in
        let new_last : page y.now last ≡ page z.now last = put.most.pages last (inr h.ordinary) (λ here. apart_last (sym here)) in
        let does : GrowsAndMarks v.shape row v.now y.now j p q = record {
          pages = whole.pages;
          other = none;
          id = low_id;
          inside = inside;
          ordinary = t.ordinary;
          was_free = is.free;
          takeable = old;
          apart = apart;
          most = all.most;
          free = put.most.free (p / 8) (extent_in v.shape z.now (p / 8) grown.file low) (λ c. c)
              ∙ grown.most.free (p / 8) (extent_in v.shape x.now (p / 8) goes.file low) (λ c. ⊎_elim (λ c. ⊎_elim (λ here. apart (sym here)) neither c) neither c) ∙ opened.free;
          byte = put.most.bytes p (page_in v.shape z.now p grown.file inside) (λ c. c)
              ∙ grown.most.bytes p (page_in v.shape x.now p goes.file inside)
              (λ c. ⊎_elim (λ c. ⊎_elim (λ c. c) (λ c. ⊎_elim (λ c. c) (λ here. apart (ap (λ m. m / 8) (sym here))) c) c) neither c) ∙ opened.byte;
          free_iam = put.most.free (q / 8) (extent_in v.shape z.now (q / 8) grown.file low_q) (λ c. c) ∙ next.free;
          byte_iam = put.most.bytes q (page_in v.shape z.now q grown.file inside_q) (λ c. c) ∙ next.byte;
          linked = subst (λ b. IsNextSet q (page v.now last) b) (sym new_last) (subst (λ b. IsNextSet q b (page z.now last)) same_last next.linked);
          marked = subst (λ b. PutsMark n true b (page y.now q)) next.own set;
        } in record {
          stays = both_clean v.shape row v.now y.now j p q f table.start table.object does;
          gets = both_gets v.shape row v.now y.now j p q f table.start table.object does;
          exact = λ bare exact.
              let opens = λ (r : ℕ) (at : r / 8 ≡ q / 8) (un : is_allocated g x.now r ≡ false). let w : is_allocated g v.now r ≡ false =
              sym (ap is_allocated_byte (goes.most.bytes r (in_extent v.shape v (q / 8) r f low_q at) (λ c. ⊎_elim (λ c. c) (λ here. apart (sym at ∙ ap (λ m. m / 8) here)) c))) ∙ un in w in
              both_exact v.shape row v.now y.now j p q f table.start table.object does
              (exact_on v.shape q (q / 8) z y low_q grown.file put (next.exact (bare_on v.shape v x (q / 8) goes.other opens (bare_at v.shape v q f table.start bare old)))) exact;
          left = all_wider g v.now y.now row.id (λ d. (d ≡ q / 8) ⊎ (d ≡ p / 8)) (taken_extents y) (λ d touched. ⊎_elim
              (λ here. subst (taken_extents y) (sym here) (put.taken (resource.Extent (record { 0 = q / 8 })) next.held))
              (λ here. subst (taken_extents y) (sym here) (put.taken (resource.Extent (record { 0 = p / 8 })) (grown.taken (resource.Extent (record { 0 = p / 8 })) opened.held))) touched)
              (both_left v.shape row v.now y.now j p q f table.start table.object does);
          taken = all.taken;
        }

    -- ---- the words

    abbrev marking : ℕ → Plan ℕ
    marking q = put_mark v.shape (p / 8) 1 q then (λ _. give p)

    -- no page of the chain speaks of the interval, where none is found
    none_of : (x : View) → IsOpened p x → iam_of v.shape (chain_pages v.now row (suc j)) p x ≡ None → (k : ℕ) → IsChainPage v.shape.geometry v.now row k
        → iam_interval (page v.now (pointer v.now row k)) ≢ interval_of_page v.shape.geometry p
    none_of x opened none k chain same =
        let g = v.shape.geometry in
        let q = pointer v.now row k in
        let goes = opened.goes in
        let h = chain_held k chain in
        first_there _ q (filter_in (λ q. iam_interval (page x.now q) == interval_of_page g p) (chain_pages v.now row (suc j)) q
        (chain_in g v.now row (suc j) whole q (k, chain, refl)) (eq-eqb (iam_interval (page x.now q)) (interval_of_page g p)
        (ap iam_interval (goes.most.pages q (inr h.ordinary) neither) ∙ same))) none

    by_iam : (path : List ℕ) (x : View) → IsOpened p x → (iam : Option ℕ) → iam ≡ iam_of v.shape (chain_pages v.now row (suc j)) p x
        → Leads (found_or iam (new_iam v.shape row (chain_pages v.now row (suc j)) path p)) x (λ q y. Leads (put_mark v.shape (p / 8) 1 q then (λ _. give p)) y (Grows v.shape row v))
    by_iam path x opened None same =
        let chain = chain_pages v.now row (suc j) in
        let goes = opened.goes in
        let K = Grows v.shape row v in
        leads_weaker (new_iam v.shape row chain path p) x _ _ (λ q z next.
        let taken = next.takeable in
        let grown = next.goes in
        let own : IsOwnPage v.shape q = record { inside = let file = goes.file in subst (λ m. q < m) file.pages taken.inside; ordinary = taken.ordinary } in
        let said = subst (λ b. TakesNext v.shape (pointer v.now row j) b x q z)
        (ap (λ l. new_iam_page row.id q l (interval_of_page v.shape.geometry p) (length chain)) (last_is v.now row j)
        ∙ ap (λ c. new_iam_page row.id q (pointer v.now row j) (interval_of_page v.shape.geometry p) c) (chain_count v.now row (suc j))) next in
        leads_then (put_mark v.shape (p / 8) 1 q) (λ _. give p) z K (leads_weaker (put_mark v.shape (p / 8) 1 q) z _ _ (λ u y m.
        leads_give p y K (grown_made q x z y opened (none_of x opened (sym same)) said m.0 m.1))
        (mark_goes v.shape q own z grown.file (p / 8) true)))
        (next_taken v.shape row chain path p (pointer v.now row j) x goes.file (still_opens x opened) (chain_own j last_chain) (last_is v.now row j) (not_last x opened))
    by_iam path x opened (Some q) same =
        let g = v.shape.geometry in
        let chain = chain_pages v.now row (suc j) in
        let goes = opened.goes in
        let K = Grows v.shape row v in
        let found = filter_from (λ q. iam_interval (page x.now q) == interval_of_page g p) chain q (first_from _ q (sym same)) in
        let at = in_chain g v.now row (suc j) whole q found.0 in
        let k = at.0 in
        let h = chain_held k at.1 in
        let interval : iam_interval (page v.now (pointer v.now row k)) ≡ interval_of_page g p = sym (ap iam_interval (goes.most.pages (pointer v.now row k) (inr h.ordinary) neither))
        ∙ ap (λ r. iam_interval (page x.now r)) at.2 ∙ eqb-true (iam_interval (page x.now q)) (interval_of_page g p) found.1 in
        leads_give q x _ (subst (λ r. Leads (put_mark v.shape (p / 8) 1 r then (λ _. give p)) x K) at.2
        (leads_then (put_mark v.shape (p / 8) 1 (pointer v.now row k)) (λ _. give p) x K (leads_weaker (put_mark v.shape (p / 8) 1 (pointer v.now row k)) x _ _ (λ u y m.
        leads_give p y K (known_made k x y opened at.1 interval m.0 m.1))
        (mark_goes v.shape (pointer v.now row k) (chain_own k at.1) x goes.file (p / 8) true))))

    extent_goes : (path : List ℕ) → Leads (extent_marked v.shape row (chain_pages v.now row (suc j)) path p) v (Grows v.shape row v)
    extent_goes path =
        let g = v.shape.geometry in
        let e = p / 8 in
        let chain = chain_pages v.now row (suc j) in
        let K = Grows v.shape row v in
        leads_then (put_gam v.shape e 0) _ v K (leads_weaker (put_gam v.shape e 0) v _ _ (λ u w h.
        let a = h.0 in
        leads_then (marked_page_taken v.shape (chain ++ path) p) _ w K (leads_weaker (marked_page_taken v.shape (chain ++ path) p) w _ _ (λ r x k.
        let b = k.1 in
        let opened : IsOpened p x = record {
          goes = goes_both v.shape (free_bit e) (byte_of p) v w x a b;
          free = b.most.free e (extent_in v.shape w.now e a.file low) (λ c. c) ∙ h.1;
          byte = k.2;
          held = b.taken (resource.Extent (record { 0 = e })) h.3;
        } in
        leads_from (sees (iam_of v.shape chain p)) _ x (λ iam. iam ≡ iam_of v.shape chain p x) K (sees_reads (iam_of v.shape chain p) x (λ iam. iam ≡ iam_of v.shape chain p x) refl) (λ iam same.
        leads_then (found_or iam (new_iam v.shape row chain path p)) _ x K (by_iam path x opened iam same)))
        (marked_taken v.shape (chain ++ path) p w inside a.file (a.most.bytes p (page_in v.shape v.now p f inside) (λ c. c) ∙ was_zero))))
        (gam_goes v.shape e false v low f))

  pub extent_grows : (path : List ℕ) → Leads (extent_page v.shape row (chain_pages v.now row (suc j)) path) v (Finds v (Grows v.shape row v))
  extent_grows path =
      let g = v.shape.geometry in
      found_leads (search v.shape (is_unused v.shape) (first_page_of v.shape)) (extent_marked v.shape row (chain_pages v.now row (suc j)) path) v IsFirstFree (Grows v.shape row v)
      (search_reads v.shape (is_unused v.shape) (first_page_of v.shape) IsFirstFree v (λ e low_e unused.
      let bits = and_parts (is_free g v.now e) (not (is_mixed g v.now e)) unused in
      let at : 8 * e / 8 ≡ e = omega arith in
      cond_both (is_system_extent g e) None (Some (8 * e)) (IfFound IsFirstFree) (λ h. tt) (λ h. record {
        takeable = starts_open v.shape v f table.start e low_e bits.0;
        free = subst (λ d. is_free g v.now d ≡ true) (sym at) bits.0;
        mixed = subst (λ d. is_mixed g v.now d ≡ false) (sym at) (not-true (is_mixed g v.now e) bits.1);
      }))) (λ p is. extent_goes p is path)
