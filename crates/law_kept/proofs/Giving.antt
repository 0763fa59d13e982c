-- An object gives a page back.
use Rattle.std.proofs.Common.{◌≡◌, ℕ, zero, ◌/◌, ◌%◌, ◌<◌, ◌==◌, Bool, true, false, List, length, Contains, refl, sym, ap, subst, ◌∙◌, inl, inr, ⊎_elim, arith}
use Rattle.std.specs.Prelude.{IsTrue, if◌then◌else◌}
use Rattle.std.specs.List.{list_any}
use Rattle.std.proofs.lemmas.Bool.{both_ways, or_cases, or_left, false_from_ne_true}
use Rattle.spec_file.specs.declared.data.Resource.{Resource}
use Rattle.spec_file.specs.declared.data.Resource.TheVariants as resource
use Rattle.spec_file.specs.declared.pfs.PfsKind.TheVariants.{Unused}
use Rattle.spec_file.specs.CatalogRows.{CatalogRow}
use Rattle.spec_file.specs.Image.{page}
use Rattle.spec_file.specs.Pfs.{is_allocated_byte}
use Rattle.spec_file.specs.Places.{is_free, interval_size}
use Rattle.spec_file.specs.Roles.{is_ordinary}
use Rattle.spec_chain.specs.Chains.{IsObject, pointer, IsChainPage}
use Rattle.spec_chain.specs.Marks.{IsMarked}
use Rattle.spec_chain.specs.Uses.{HoldsPage, IsAllocatedTo, pfs_byte, is_allocated}
use Rattle.spec_chain.proofs.ChainLaws.{below_page}
use Rattle.spec_chain.proofs.Pointers.{inside_below}
use Rattle.spec_plan.specs.Reading.{is_single}
use Rattle.spec_words.specs.Views.{View}
use Rattle.spec_words.specs.Words.{◌then◌, give, sees, where_good}
use Rattle.spec_words.specs.Tables.{object_pages}
use Rattle.spec_extents.specs.Extents.{FitsMark}
use Rattle.spec_alloc.specs.Chains.{chain_now}
use Rattle.spec_alloc.specs.Freeing.{is_in_use, shared_freed, marked_freed, slots_emptied, marks_emptied, is_shared_page, page_freed, object_page_freed}
use Rattle.spec_steps.specs.Acts.{StaysClean}
use Rattle.spec_steps.specs.AllocatedPages.{GivesPage}
use Rattle.spec_steps.specs.AtMost.{Changed, free_bit, byte_of, page_of, either, maps_of}
use Rattle.spec_steps.specs.Freeing.{FreesSingle, FreesLast, chain_pages as pages_of_chain}
use Rattle.spec_steps.specs.IamPages.{IsOutOfSlots, IsMarkCleared}
use Rattle.spec_steps.specs.PartsRead.{LeavesAllParts}
use Rattle.spec_steps.specs.Sgam.{HasExactSgam}
use Rattle.spec_steps.specs.Taking.{ChangesMarkedPage}
use Rattle.law_chains.specs.Laws.{chain_pages, IsWhole}
use Rattle.law_chains.proofs.Allocated.{some_page, first_is, slot_from, slot_in, pages_are_allocated}
use Rattle.law_frames.proofs.Held.{IsHeld, held, goods}
use Rattle.law_steps.proofs.OwnPages.{marked_page_clean}
use Rattle.law_steps.proofs.FreedSlots.{freed_single_clean}
use Rattle.law_steps.proofs.FreedExtents.{freed_last_clean}
use Rattle.law_steps.proofs.AllocatedPages.{own_apart, own_allocated, single_gives, marked_gives, last_gives}
use Rattle.law_steps.proofs.LeftParts.{freed_single_parts, marked_page_parts, freed_last_parts}
use Rattle.law_steps.proofs.ExactSgam.{freed_single_exact, freed_last_exact, marked_exact, zero_open}
use Rattle.law_net.specs.GoodViews.{Leads}
use Rattle.law_net.proofs.WordLaws.{leads_then, leads_give, leads_good, leads_weaker}
use Rattle.law_alloc.proofs.Searches.{sees_reads, leads_from}
use Rattle.law_kept.specs.Views.{IsCleanView}
use Rattle.law_kept.specs.Giving.{PageIsGivenBack, GivingLeavesMapsClean, GivingLeavesOthers, GivingLeavesSgamExact, GivingChangesTaken}
use Rattle.law_kept.proofs.PartsTaken.{taken_extents, all_wider, all_untaken}
use Rattle.law_kept.proofs.Steps.{IsFile, page_in, extent_in, Goes, goes_both, goes_within, Took}
use Rattle.law_kept.proofs.Singles.{page_extent, in_extent, neither, file_of, start_of}
use Rattle.law_kept.proofs.ChainLists.{in_chain, chain_in}
use Rattle.law_kept.proofs.Freed.{FreesShared, FreesMarked, left_same, shared_goes, marked_goes}
use Rattle.law_kept.proofs.ReadTables.{IsReadChain, chain_now_reads}
use Rattle.law_kept.proofs.Dropping.{IsTable}
use Rattle.law_kept.proofs.PagesDropped.{among_from}
use Rattle.law_kept.proofs.IamWords.{IsOwnPage}
use Rattle.law_kept.proofs.IamEmptied.{slots_gone, Clears, marks_gone}
use Rattle.law_kept.proofs.Grows.{kind_fits}
use Rattle.law_kept.proofs.Growing.{leaves_others}

-- the object has page p no more, the step is on it alone, and leaves maps clean, and SGAM exact; of the parts it touches but
-- those of its table and of extents that are taken then
record Gives (v : View) (row : CatalogRow) (p : ℕ) (w : View) : Type 0 where
  stays : StaysClean v.shape.geometry v.now w.now row.id
  gives : GivesPage v.shape.geometry v.now w.now row p
  exact : HasExactSgam v.shape.geometry v.now → HasExactSgam v.shape.geometry w.now
  left : LeavesAllParts v.shape.geometry v.now w.now row.id (taken_extents w)
  taken : (r : Resource) → Took v r → Took w r

zero_marks : (byte : ℕ) → byte ≡ 0 → FitsMark byte
zero_marks byte none = subst FitsMark (sym none) (record { allocated = λ is. absurd (cc); unallocated = λ not. kind_fits Unused 0 refl })

module _ (v : View) (row : CatalogRow) (table : IsTable v.shape v row) (n : ℕ) (whole : IsWhole v.shape.geometry v.now row n) (p : ℕ) (ordinary : IsTrue (is_ordinary v.shape.geometry p))
    (allocated : IsAllocatedTo v.shape.geometry v.now row p) where
  abbrev f : IsFile v.shape v.now
  f = table.file

  first_chain : IsChainPage v.shape.geometry v.now row zero
  first_chain = below_page v.shape.geometry v.now row n zero whole.pages.pages (some_page v.shape.geometry v.now row n whole)

  first_held : IsHeld v.shape.geometry v.now row row.first_iam
  first_held = held v.shape.geometry v.now row zero table.start table.object first_chain

  first_own : IsOwnPage v.shape row.first_iam
  first_own = record { inside = subst (λ m. row.first_iam < m) f.pages first_held.inside; ordinary = first_held.ordinary }

  in_file : p < length v.now
  in_file = by_allocated allocated
    where
      by_allocated : IsAllocatedTo v.shape.geometry v.now row p → p < length v.now
      by_allocated (inl slot) = inside_below (length v.now) p slot.1.1
      by_allocated (inr marked) = marked.0

  inside : p < v.shape.pages
  inside = subst (λ m. p < m) f.pages in_file

  low : p / 8 < v.shape.pages / 8
  low = page_extent v.shape v p f inside

  was : is_allocated v.shape.geometry v.now p ≡ true
  was = own_allocated v.shape.geometry v.now row table.start table.object p ordinary allocated

  -- ---- a page in a slot

  single_made : (i : ℕ) (w y : View) → HoldsPage v.shape.geometry v.now row i p → FreesShared v.shape p v w → Goes v.shape (page_of row.first_iam) w y
      → IsOutOfSlots p (page w.now row.first_iam) (page y.now row.first_iam) → Gives v row p y
  single_made i w y holds freed put out =
      let g = v.shape.geometry in
      let goes = freed.goes in
      let both = goes_within v.shape (either (maps_of p) (page_of row.first_iam)) (either (maps_of p) (either (page_of p) (page_of row.first_iam))) v y (record {
        free = λ e c. ⊎_elim (λ c. inl c) (λ c. absurd c) c;
        mixed = λ e c. ⊎_elim (λ c. inl c) (λ c. absurd c) c;
        bytes = λ q c. ⊎_elim (λ c. inl c) (λ c. absurd c) c;
        pages = λ q c. ⊎_elim (λ c. inl c) (λ c. inr (inr c)) c;
      }) (goes_both v.shape (maps_of p) (page_of row.first_iam) v w y goes put) in
      let same : page w.now row.first_iam ≡ page v.now row.first_iam =
      goes.most.pages row.first_iam (inr first_held.ordinary) (λ c. ⊎_elim (λ c. c) neither c) in
      let frees : FreesSingle g v.now y.now row p = record {
        object = table.object;
        slot = i;
        holds = holds;
        ordinary = ordinary;
        most = both.most;
        byte = put.most.bytes p (page_in v.shape w.now p goes.file inside) (λ c. c) ∙ freed.byte;
        left = left_same g w.now y.now (p / 8) (put.most.free (p / 8) (extent_in v.shape w.now (p / 8) goes.file low) (λ c. c))
            (put.most.mixed (p / 8) (extent_in v.shape w.now (p / 8) goes.file low) (λ c. c))
            (λ q at. put.most.bytes q (in_extent v.shape w (p / 8) q goes.file low at) (λ c. c)) freed.left;
        out = subst (λ old. IsOutOfSlots p old (page y.now row.first_iam)) same out;
      } in record {
        stays = freed_single_clean g v.now y.now row p table.start frees;
        gives = single_gives g v.now y.now row p table.start frees;
        exact = λ exact. freed_single_exact g v.now y.now row p table.start frees exact;
        left = all_wider g v.now y.now row.id (λ e. e ≡ p / 8) (taken_extents y)
            (λ e here. subst (taken_extents y) (sym here) (put.taken (resource.Extent (record { 0 = p / 8 })) freed.held)) (freed_single_parts g v.now y.now row p table.start frees);
        taken = both.taken;
      }

  single_given : (i : ℕ) → HoldsPage v.shape.geometry v.now row i p
      → Leads (shared_freed v.shape p then (λ _. slots_emptied (chain_pages v.now row n) p)) v (λ u y. Gives v row p y)
  single_given i holds =
      let g = v.shape.geometry in
      let chain = chain_pages v.now row n in
      let K : Unit {0} → View → Type 0 = λ u y. Gives v row p y in
      let good = goods g v.now table.start (p / 8) (extent_in v.shape v.now (p / 8) f low) in
      let busy = λ (used : is_in_use v.shape (p / 8) v ≡ true). let is : is_free g v.now (p / 8) ≡ false = false_from_ne_true (is_free g v.now (p / 8))
      (λ free. good.free_mixed free (inl (inl (p, refl, (record { object = row.id; place = i }, (row, table.object, refl, inl holds)))))) in is in
      leads_then (shared_freed v.shape p) _ v K (leads_weaker (shared_freed v.shape p) v _ _ (λ u w freed.
      let goes = freed.goes in
      leads_weaker (slots_emptied chain p) w _ K (λ s y h. single_made i w y holds freed h.0 h.1)
      (slots_gone v.shape row.first_iam first_own chain (first_is v.now row n (some_page v.shape.geometry v.now row n whole)) p w goes.file))
      (shared_goes v.shape p v inside f busy))

  -- ---- a page of a marked extent

  still_made : (w : View) → IsMarked v.shape.geometry v.now row (p / 8) → FreesMarked v.shape p true v w → Gives v row p w
  still_made w marked freed =
      let g = v.shape.geometry in
      let both = goes_within v.shape (byte_of p) (either (byte_of p) (page_of p)) v w (record { free = λ e c. absurd c; mixed = λ e c. absurd c; bytes = λ q c. inl c; pages = λ q c. absurd c })
      (freed.stays refl) in
      let sets : ChangesMarkedPage g v.now w.now row p = record {
        object = table.object;
        inside = in_file;
        ordinary = ordinary;
        marked = marked;
        most = both.most;
        byte = zero_marks (pfs_byte g w.now p) freed.byte;
      } in record {
        stays = marked_page_clean g v.now w.now row p table.start sets;
        gives = marked_gives g v.now w.now row p table.start sets was (zero_open g w.now p freed.byte);
        exact = λ exact. marked_exact g v.now w.now row p table.start sets exact;
        left = all_wider g v.now w.now row.id (λ e. ⊥) (taken_extents w) (λ e c. absurd c) (marked_page_parts g v.now w.now row p table.start sets);
        taken = both.taken;
      }

  -- a page of the chain is as it was
  chain_same : (w : View) (in_use : Bool) → FreesMarked v.shape p in_use v w → (q : ℕ) → Contains (chain_pages v.now row n) q → page w.now q ≡ page v.now q
  chain_same w in_use freed q there =
      let at = in_chain v.shape.geometry v.now row n whole q there in
      let h = held v.shape.geometry v.now row at.0 table.start table.object at.1 in
      let goes = freed.goes in
      goes.most.pages q (inr (subst (λ r. IsTrue (is_ordinary v.shape.geometry r)) at.2 h.ordinary)) neither

  chain_own : (q : ℕ) → Contains (chain_pages v.now row n) q → IsOwnPage v.shape q
  chain_own q there =
      let at = in_chain v.shape.geometry v.now row n whole q there in
      let h = held v.shape.geometry v.now row at.0 table.start table.object at.1 in
      subst (IsOwnPage v.shape) at.2 (record { inside = subst (λ m. pointer v.now row at.0 < m) f.pages h.inside; ordinary = h.ordinary })

  last_made : (w y : View) (fw : IsFile v.shape w.now) → IsMarked v.shape.geometry v.now row (p / 8) → FreesMarked v.shape p false v w
      → Clears v.shape (chain_pages v.now row n) chain_own p w fw y → Gives v row p y
  last_made w y fw marked freed cleared =
      let g = v.shape.geometry in
      let e = p / 8 in
      let goes = freed.goes in
      let put = cleared.goes in
      let first = either (byte_of p) (free_bit e) in
      let second : Changed = record { free = λ d. ⊥; mixed = λ d. ⊥; bytes = λ q. ⊥; pages = Contains (chain_pages v.now row n) } in
      let both = goes_within v.shape (either first second) (either (free_bit e) (either (byte_of p) (either (page_of p) (pages_of_chain g v.now row)))) v y (record {
        free = λ d c. ⊎_elim (λ c. ⊎_elim (λ c. absurd c) (λ c. inl c) c) (λ c. absurd c) c;
        mixed = λ d c. absurd (⊎_elim neither (λ c. c) c);
        bytes = λ q c. ⊎_elim (λ c. ⊎_elim (λ c. inr (inl c)) (λ c. absurd c) c) (λ c. absurd c) c;
        pages = λ q c. ⊎_elim (λ c. absurd (neither c)) (λ c. inr (inr (inr (in_chain g v.now row n whole q c)))) c;
      }) (goes_both v.shape first second v w y goes put) in
      let bytes = λ (q : ℕ) (at : q / 8 ≡ e). let same : pfs_byte g y.now q ≡ pfs_byte g w.now q = put.most.bytes q (in_extent v.shape w e q fw low at) (λ c. c) in same in
      let frees : FreesLast g v.now y.now row p = record {
        object = table.object;
        inside = in_file;
        ordinary = ordinary;
        marked = marked;
        most = both.most;
        byte = bytes p refl ∙ freed.byte;
        last = λ has. both_ways (is_allocated g w.now has.0) (freed.none refl has.0 has.1) (sym (ap is_allocated_byte (bytes has.0 has.1)) ∙ has.2);
        free = put.most.free e (extent_in v.shape w.now e fw low) (λ c. c) ∙ freed.free refl;
        cleared = λ k is. let q = pointer v.now row k in let there = chain_in g v.now row n whole q (k, is, refl) in
            subst (λ old. IsMarkCleared (e / interval_size g) (e % interval_size g) old (page y.now q)) (chain_same w false freed q there) (cleared.cleared q there);
      } in record {
        stays = freed_last_clean g v.now y.now row p table.start frees;
        gives = last_gives g v.now y.now row p table.start frees was;
        exact = λ exact. freed_last_exact g v.now y.now row p table.start frees exact;
        left = all_wider g v.now y.now row.id (λ d. d ≡ e) (taken_extents y)
            (λ d here. subst (taken_extents y) (sym here) (put.taken (resource.Extent (record { 0 = e })) (freed.held refl))) (freed_last_parts g v.now y.now row p table.start frees);
        taken = both.taken;
      }

  marked_given : IsMarked v.shape.geometry v.now row (p / 8)
      → Leads (marked_freed v.shape p then (λ in_use. if in_use then give tt else marks_emptied v.shape (chain_pages v.now row n) p)) v (λ u y. Gives v row p y)
  marked_given marked =
      leads_then (marked_freed v.shape p) (λ in_use. if in_use then give tt else marks_emptied v.shape (chain_pages v.now row n) p) v _
      (leads_weaker (marked_freed v.shape p) v _ _ by_use (marked_goes v.shape p v inside f))
    where
      by_use : (in_use : Bool) (w : View) → FreesMarked v.shape p in_use v w
          → Leads (if in_use then give tt else marks_emptied v.shape (chain_pages v.now row n) p) w (λ u y. Gives v row p y)
      by_use true w freed = leads_give tt w (λ u y. Gives v row p y) (still_made w marked freed)
      by_use false w freed =
          let goes = freed.goes in
          leads_weaker (marks_emptied v.shape (chain_pages v.now row n) p) w _ (λ u y. Gives v row p y) (λ u y cleared. last_made w y goes.file marked freed cleared)
          (marks_gone v.shape (chain_pages v.now row n) chain_own p w goes.file)

  -- ---- which of these it is

  by_shared : (shared : Bool) → is_shared_page (chain_pages v.now row n) p v ≡ shared → Leads (page_freed v.shape (chain_pages v.now row n) p shared) v (λ u y. Gives v row p y)
  by_shared true is = let held_at = in_slot allocated in single_given held_at.0 held_at.1
    where
      in_slot : IsAllocatedTo v.shape.geometry v.now row p → (i : ℕ) × HoldsPage v.shape.geometry v.now row i p
      in_slot (inl slot) = slot
      in_slot (inr marked) = ⊎_elim (λ single. slot_from v.shape.geometry v.now row n p whole in_file single)
          (λ there. let at = in_chain v.shape.geometry v.now row n whole p (among_from p (chain_pages v.now row n) there) in
          absurd (own_apart v.shape.geometry v.now row table.start table.object p at.0 (inr marked) at.1 at.2))
          (or_cases (is_single v.now (chain_pages v.now row n) p) (list_any (λ q. q == p) (chain_pages v.now row n)) is)
  by_shared false is = marked_given (not_in_slot allocated)
    where
      not_in_slot : IsAllocatedTo v.shape.geometry v.now row p → IsMarked v.shape.geometry v.now row (p / 8)
      not_in_slot (inl slot) = absurd (both_ways (is_shared_page (chain_pages v.now row n) p v) is
          (or_left (is_single v.now (chain_pages v.now row n) p) (list_any (λ q. q == p) (chain_pages v.now row n)) (slot_in v.shape.geometry v.now row n p slot.0 whole slot.1)))
      not_in_slot (inr marked) = marked.1

  page_given : Leads (sees (is_shared_page (chain_pages v.now row n) p) then page_freed v.shape (chain_pages v.now row n) p) v (λ u y. Gives v row p y)
  page_given =
      leads_from (sees (is_shared_page (chain_pages v.now row n) p)) (page_freed v.shape (chain_pages v.now row n) p) v (λ b. is_shared_page (chain_pages v.now row n) p v ≡ b) (λ u y. Gives v row p y)
      (sees_reads (is_shared_page (chain_pages v.now row n) p) v (λ b. is_shared_page (chain_pages v.now row n) p v ≡ b) refl) by_shared

object_gives : (v : View) (row : CatalogRow) (p : ℕ) → IsCleanView v → IsObject v.now row → IsTrue (is_ordinary v.shape.geometry p) → Leads (object_page_freed v.shape row p) v (λ u y. Gives v row p y)
object_gives v row p clean object ordinary =
    let K : Unit {0} → View → Type 0 = λ u y. Gives v row p y in
    let file = file_of v clean in
    let form = file.file in
    let low_ = form.low in
    let table : IsTable v.shape v row = record { file = file; start = start_of v clean; object = object } in
    let own : List ℕ → View → Bool = λ chain view. list_any (λ q. q == p) (object_pages v.shape chain view) in
    leads_from (chain_now v.shape row) _ v (IsReadChain v row) K (chain_now_reads row v (omega (arith, low_)) file.pages) (λ chain read.
    leads_from (sees (own chain)) _ v (λ b. b ≡ own chain v) K (sees_reads (own chain) v (λ b. b ≡ own chain v) refl) (λ b same.
    leads_then (where_good b p) _ v K (leads_good b p v _ (λ good.
    let there = among_from p (object_pages v.shape chain v) (sym same ∙ good) in
    let allocated = (pages_are_allocated v row read.count p file.pages read.whole).0 (subst (λ c. Contains (object_pages v.shape c v) p) read.is there) in
    subst (λ c. Leads (sees (is_shared_page c p) then page_freed v.shape c p) v K) (sym read.is) (page_given v row table read.count read.whole p ordinary allocated)))))

pub page_is_given_back : PageIsGivenBack
page_is_given_back v row p clean object ordinary = leads_weaker (object_page_freed v.shape row p) v _ _ (λ u w h. h.gives) (object_gives v row p clean object ordinary)

pub giving_leaves_maps : GivingLeavesMapsClean
giving_leaves_maps v row p clean object ordinary = leads_weaker (object_page_freed v.shape row p) v _ _ (λ u w h. let stays = h.stays in stays.maps) (object_gives v row p clean object ordinary)

pub giving_leaves_others : GivingLeavesOthers
giving_leaves_others v row p clean object ordinary =
    leads_weaker (object_page_freed v.shape row p) v _ _ (λ u w h. leaves_others v w row clean h.stays) (object_gives v row p clean object ordinary)

pub giving_changes_taken : GivingChangesTaken
giving_changes_taken v row p clean object ordinary table =
    leads_weaker (object_page_freed v.shape row p) v _ _ (λ u w h. all_untaken v.shape.geometry v.now w row.id h.left (h.taken (resource.Table (record { 0 = row.id })) table))
    (object_gives v row p clean object ordinary)

pub giving_leaves_sgam : GivingLeavesSgamExact
giving_leaves_sgam v row p clean object ordinary exact = leads_weaker (object_page_freed v.shape row p) v _ _ (λ u w h. h.exact exact) (object_gives v row p clean object ordinary)
