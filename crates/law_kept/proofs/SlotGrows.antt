-- An object gets a single page in a slot, or the lowest page of an extent that it marks.
use Rattle.std.proofs.Common.{◌≡◌, ℕ, zero, ◌/◌, ◌<◌, ◌==◌, ◌&&◌, false, List, ◌++◌, Option, Some, None, refl, sym, subst, inl, inr, ⊎_elim, arith}
use Rattle.std.specs.Prelude.{IsTrue}
use Rattle.std.proofs.lemmas.Bool.{and_parts, eqb-true}
use Rattle.spec_file.specs.declared.data.Resource.TheVariants as resource
use Rattle.spec_file.specs.declared.pfs.PfsKind.TheVariants.{Single, Uniform}
use Rattle.spec_file.specs.CatalogRows.{CatalogRow}
use Rattle.spec_file.specs.Iam.{single_slot_count, iam_slot}
use Rattle.spec_file.specs.Image.{page}
use Rattle.spec_file.specs.Pfs.{expected}
use Rattle.spec_file.specs.Roles.{is_ordinary}
use Rattle.spec_chain.specs.Chains.{IsChainPage}
use Rattle.spec_chain.specs.Marks.{IsMarked}
use Rattle.spec_chain.specs.Uses.{pfs_byte, is_allocated}
use Rattle.spec_chain.proofs.ChainLaws.{below_page}
use Rattle.spec_plan.specs.Reading.{first_page, is_marked}
use Rattle.spec_words.specs.Views.{View}
use Rattle.spec_words.specs.Words.{◌then◌, give, sees}
use Rattle.spec_alloc.specs.Search.{search_from, first_in, is_spare}
use Rattle.spec_alloc.specs.SinglePages.{single_page}
use Rattle.spec_alloc.specs.Chains.{page_taken, put_slot, slots_with}
use Rattle.spec_alloc.specs.ObjectPages.{page_in_slot, slot_page, marked_page_taken, lowest_marked, marked_page}
use Rattle.spec_steps.specs.AtMost.{byte_of, page_of, either, maps_of}
use Rattle.spec_steps.specs.IamPages.{IsSlotSet}
use Rattle.spec_steps.specs.Taking.{PutsIntoSlot, ChangesMarkedPage}
use Rattle.law_chains.specs.Laws.{chain_pages, IsWhole}
use Rattle.law_chains.proofs.Allocated.{some_page, first_is, mark_from}
use Rattle.law_extents.proofs.Locality.{unused_zero}
use Rattle.law_frames.proofs.Held.{IsHeld, held, goods, extent_below}
use Rattle.law_steps.proofs.OwnPages.{marked_page_clean}
use Rattle.law_steps.proofs.FilledSlots.{slot_clean}
use Rattle.law_steps.proofs.AllocatedPages.{slot_gets, marked_gets}
use Rattle.law_steps.proofs.ExactSgam.{slot_exact, marked_exact}
use Rattle.law_steps.proofs.LeftParts.{slot_parts, marked_page_parts}
use Rattle.law_net.specs.GoodViews.{Leads}
use Rattle.law_net.proofs.WordLaws.{leads_then, leads_give, leads_weaker}
use Rattle.law_alloc.specs.Keeps.{IfFound}
use Rattle.law_alloc.proofs.Searches.{sees_reads, leads_from}
use Rattle.law_alloc.proofs.Singles.{first_kept}
use Rattle.law_kept.proofs.Steps.{page_in, Goes, goes_both, goes_within, IsWithin}
use Rattle.law_kept.proofs.Singles.{Takes, Finds, found_leads, single_goes, starts_open, spare_parts, bare_at, page_extent}
use Rattle.law_kept.proofs.NewChains.{held_on, exact_on}
use Rattle.law_kept.proofs.Dropping.{IsTable}
use Rattle.law_kept.proofs.PartsTaken.{taken_extents, all_wider}
use Rattle.law_kept.proofs.IamWords.{IsOwnPage, page_low, slot_goes}
use Rattle.law_kept.proofs.Grows.{Grows, where_leads, after_taken, kind_fits, uniform_marks, uniform_allocated, marked_taken}

module _ (v : View) (row : CatalogRow) (table : IsTable v.shape v row) (n : ℕ) (whole : IsWhole v.shape.geometry v.now row n) where
  -- the first page of the chain
  first_chain : IsChainPage v.shape.geometry v.now row zero
  first_chain = below_page v.shape.geometry v.now row n zero whole.pages.pages (some_page v.shape.geometry v.now row n whole)

  first_held : IsHeld v.shape.geometry v.now row row.first_iam
  first_held = held v.shape.geometry v.now row zero table.start table.object first_chain

  first_own : IsOwnPage v.shape row.first_iam
  first_own = let file = table.file in record { inside = subst (λ m. row.first_iam < m) file.pages first_held.inside; ordinary = first_held.ordinary }

  first_same : first_page (chain_pages v.now row n) ≡ row.first_iam
  first_same = first_is v.now row n (some_page v.shape.geometry v.now row n whole)

  -- ---- a slot

  record IsEmptySlot (i : ℕ) : Type 0 where
    within : i < single_slot_count
    empty : iam_slot (page v.now row.first_iam) i ≡ 0

  -- the writes of such a step
  slot_within : (p : ℕ) → IsWithin (either (maps_of p) (page_of row.first_iam)) (either (maps_of p) (either (page_of p) (page_of row.first_iam)))
  slot_within p = record {
    free = λ e c. ⊎_elim (λ c. inl c) (λ c. absurd c) c;
    mixed = λ e c. ⊎_elim (λ c. inl c) (λ c. absurd c) c;
    bytes = λ q c. ⊎_elim (λ c. inl c) (λ c. absurd c) c;
    pages = λ q c. ⊎_elim (λ c. inl c) (λ c. inr (inr c)) c;
  }

  slot_made : (i p : ℕ) (w y : View) → IsEmptySlot i → Takes v.shape v (expected Single 0) p w → Goes v.shape (page_of row.first_iam) w y
      → IsSlotSet i p (page w.now row.first_iam) (page y.now row.first_iam) → Grows v.shape row v p y
  slot_made i p w y slot h put set =
      let shape = v.shape in
      let takeable = h.0 in
      let t = h.1 in
      let goes = t.goes in
      let file = table.file in
      let inside : p < v.shape.pages = subst (λ m. p < m) file.pages takeable.inside in
      let both = goes_within shape (either (maps_of p) (page_of row.first_iam)) (either (maps_of p) (either (page_of p) (page_of row.first_iam))) v y (slot_within p)
      (goes_both shape (maps_of p) (page_of row.first_iam) v w y goes put) in
      let same : page w.now row.first_iam ≡ page v.now row.first_iam =
      goes.most.pages row.first_iam (inr first_held.ordinary) (λ c. ⊎_elim (λ x. x) (λ b. ⊎_elim (λ x. x) (λ x. x) b) c) in
      let kept = held_on shape row.first_iam p Single w y inside goes.file put (record { free = t.free; byte = kind_fits Single (pfs_byte shape.geometry w.now p) t.byte }) in
      let puts : PutsIntoSlot shape.geometry v.now y.now row i p = record {
        object = table.object;
        first = first_chain;
        within = slot.within;
        empty = slot.empty;
        takeable = takeable;
        most = both.most;
        taken = kept;
        put = subst (λ old. IsSlotSet i p old (page y.now row.first_iam)) same set;
      } in record {
        stays = slot_clean shape.geometry v.now y.now row i p table.start puts;
        gets = slot_gets shape.geometry v.now y.now row i p table.start puts;
        exact = λ bare exact. slot_exact shape.geometry v.now y.now row i p table.start puts (record {
          free = kept.free;
          mixed = exact_on shape row.first_iam (p / 8) w y (page_extent shape v p file inside) goes.file put (t.mixed (bare_at shape v p file table.start bare takeable));
          byte = kept.byte;
        }) exact;
        left = all_wider shape.geometry v.now y.now row.id (λ e. e ≡ p / 8) (taken_extents y)
            (λ e here. subst (taken_extents y) (sym here) (put.taken (resource.Extent (record { 0 = p / 8 })) t.held)) (slot_parts shape.geometry v.now y.now row i p table.start puts);
        taken = both.taken;
      }

  pub slot_grows : (path : List ℕ) → Leads (slot_page v.shape (chain_pages v.now row n) path) v (Finds v (Grows v.shape row v))
  slot_grows path =
      let chain = chain_pages v.now row n in
      let free : View → Option ℕ = λ view. first_in (slots_with chain 0 view) in
      leads_from (sees free) (λ slot. search_from slot (page_in_slot v.shape chain path)) v (IfFound IsEmptySlot) (Finds v (Grows v.shape row v))
      (sees_reads free v (IfFound IsEmptySlot) (first_kept IsEmptySlot (λ i. iam_slot (page v.now (first_page chain)) i == 0) single_slot_count 0
      (λ i low high test. record {
        within = omega (arith, high);
        empty = subst (λ q. iam_slot (page v.now q) i ≡ 0) first_same (eqb-true (iam_slot (page v.now (first_page chain)) i) 0 test);
      }))) by_slot
    where
      by_slot : (slot : Option ℕ) → IfFound IsEmptySlot slot → Leads (search_from slot (page_in_slot v.shape (chain_pages v.now row n) path)) v (Finds v (Grows v.shape row v))
      by_slot None none = leads_give None v (Finds v (Grows v.shape row v)) refl
      by_slot (Some i) slot =
          let chain = chain_pages v.now row n in
          let file = table.file in
          let K = Grows v.shape row v in
          where_leads (single_page v.shape (expected Single 0)) (λ p. page_taken (chain ++ path) p then (λ _. put_slot chain p i then (λ _. give p))) v (Takes v.shape v (expected Single 0)) K
          (single_goes v.shape v file (starts_open v.shape v file table.start) (expected Single 0) refl) (λ p w h.
          let t = h.1 in
          let goes = t.goes in
          let takeable = h.0 in
          after_taken (chain ++ path) p (put_slot chain p i then (λ _. give p)) w K
          (leads_then (put_slot chain p i) (λ _. give p) w K (leads_weaker (put_slot chain p i) w _ _ (λ u y m. leads_give p y K (slot_made i p w y slot h m.0 m.1))
          (slot_goes v.shape row.first_iam first_own w goes.file chain p i first_same slot.within (page_low v.shape v p file (subst (λ m. p < m) file.pages takeable.inside))))))

  -- ---- a page of a marked extent

  record IsOpenMarked (p : ℕ) : Type 0 where
    inside : p < v.shape.pages
    marked : IsMarked v.shape.geometry v.now row (p / 8)
    ordinary : IsTrue (is_ordinary v.shape.geometry p)
    open_page : is_allocated v.shape.geometry v.now p ≡ false

  -- its byte is 0
  open_zero : (p : ℕ) → IsOpenMarked p → pfs_byte v.shape.geometry v.now p ≡ 0
  open_zero p is =
      let file = table.file in
      let good = (goods v.shape.geometry v.now table.start (p / 8) (extent_below v.shape.geometry v.now p table.start (page_in v.shape v.now p file is.inside))).pages p refl in
      unused_zero (pfs_byte v.shape.geometry v.now p) ((good.marked is.ordinary (row.id, (row, table.object, refl, is.marked))).unallocated is.open_page)

  marked_made : (p : ℕ) (w : View) → IsOpenMarked p → Goes v.shape (byte_of p) v w → pfs_byte v.shape.geometry w.now p ≡ expected Uniform 0 → Grows v.shape row v p w
  marked_made p w is put byte =
      let g = v.shape.geometry in
      let file = table.file in
      let both = goes_within v.shape (byte_of p) (either (byte_of p) (page_of p)) v w (record { free = λ e c. absurd c; mixed = λ e c. absurd c; bytes = λ q c. inl c; pages = λ q c. absurd c }) put in
      let sets : ChangesMarkedPage g v.now w.now row p = record {
        object = table.object;
        inside = page_in v.shape v.now p file is.inside;
        ordinary = is.ordinary;
        marked = is.marked;
        most = both.most;
        byte = uniform_marks (pfs_byte g w.now p) byte;
      } in record {
        stays = marked_page_clean g v.now w.now row p table.start sets;
        gets = marked_gets g v.now w.now row p table.start sets is.open_page (uniform_allocated (pfs_byte g w.now p) byte);
        exact = λ bare exact. marked_exact g v.now w.now row p table.start sets exact;
        left = all_wider g v.now w.now row.id (λ e. ⊥) (taken_extents w) (λ e c. absurd c) (marked_page_parts g v.now w.now row p table.start sets);
        taken = put.taken;
      }

  pub marked_grows : (path : List ℕ) → Leads (marked_page v.shape (chain_pages v.now row n) path) v (Finds v (Grows v.shape row v))
  marked_grows path =
      let chain = chain_pages v.now row n in
      let file = table.file in
      let K = Grows v.shape row v in
      found_leads (sees (lowest_marked v.shape chain)) (marked_page_taken v.shape (chain ++ path)) v IsOpenMarked K
      (sees_reads (lowest_marked v.shape chain) v (IfFound IsOpenMarked)
      (first_kept IsOpenMarked (λ p. is_marked v.shape.geometry v.now chain p && is_spare v.shape v p) v.shape.pages 0 (λ p low high test.
      let parts = and_parts (is_marked v.shape.geometry v.now chain p) (is_spare v.shape v p) test in
      let spare = spare_parts v.shape v p parts.1 in
      record { inside = omega (arith, high); marked = mark_from v.shape.geometry v.now row n p whole parts.0; ordinary = spare.0; open_page = spare.1 }))) (λ p is.
      leads_weaker (marked_page_taken v.shape (chain ++ path) p) v _ K (λ q w h. subst (λ r. Grows v.shape row v r w) (sym h.0) (marked_made p w is h.1 h.2))
      (marked_taken v.shape (chain ++ path) p v is.inside file (open_zero p is)))
