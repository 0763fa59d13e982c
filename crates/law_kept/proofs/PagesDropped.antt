-- All that an object has is given back.
use Rattle.std.proofs.Common.{◌≡◌, ◌≢◌, ◌⊎◌, ℕ, zero, ◌*◌, ◌/◌, ◌%◌, ◌<◌, ◌==◌, ◌&&◌, ◌||◌, not, Bool, true, false, List, [], ◌∷◌, length, Contains, Option, Some, None, refl, sym, ap, subst, ◌∙◌, inl, inr, ⊎_elim, arith}
use Rattle.std.specs.Prelude.{IsTrue, is_some, if◌then◌else◌}
use Rattle.std.specs.List.{list_any}
use Rattle.std.proofs.lemmas.Bool.{and_parts, and_from, both_ways, cases_eq, or_cases, or_left, or_right, false_from_ne_true, not_from_false, eqb-true}
use Rattle.spec_file.specs.declared.data.Resource.TheVariants as resource
use Rattle.spec_file.specs.declared.geometry.Geometry.{Geometry}
use Rattle.spec_file.specs.CatalogRows.{CatalogRow}
use Rattle.spec_file.specs.Iam.{single_slot_count, iam_interval, iam_mark, iam_slots}
use Rattle.spec_file.specs.Image.{page}
use Rattle.spec_file.specs.Places.{is_free, extent_count, interval_size, interval_of_page}
use Rattle.spec_file.specs.Roles.{is_ordinary}
use Rattle.spec_chain.specs.Chains.{IsInChain, pointer}
use Rattle.spec_chain.specs.Marks.{IsMarked}
use Rattle.spec_chain.specs.Uses.{IsUseBy, IsAllocatedTo, pfs_byte, is_allocated}
use Rattle.spec_chain.proofs.ChainLaws.{below_page}
use Rattle.spec_check.proofs.Members.{cons_here, cons_there, filter_from, filter_in, range_from, range_in}
use Rattle.spec_plan.specs.Reading.{is_single, is_marked}
use Rattle.spec_words.specs.NetChanges.{FileShape, extents_of, pages_of}
use Rattle.spec_words.specs.Views.{View}
use Rattle.spec_words.specs.Words.{◌then◌, give, sees, where_good, for_each}
use Rattle.spec_words.specs.Tables.{byte_pages, object_pages}
use Rattle.spec_alloc.specs.Search.{is_held, counts_as_allocated}
use Rattle.spec_alloc.specs.Chains.{chain_now}
use Rattle.spec_alloc.specs.Freeing.{is_in_use, shared_freed, marked_freed, is_shared_page}
use Rattle.spec_alloc.specs.Objects.{page_dropped, left_extents, left_freed, pages_dropped}
use Rattle.spec_steps.specs.AtMost.{free_bit, byte_of, either, maps_of}
use Rattle.spec_steps.specs.Freeing.{IsLeftShared}
use Rattle.spec_steps.specs.Tables.{Has, UsesOf}
use Rattle.law_chains.specs.Laws.{chain_pages, IsWhole}
use Rattle.law_chains.proofs.Allocated.{some_page, first_is, slot_from, slot_in, mark_from, mark_in, pages_are_allocated}
use Rattle.law_extents.proofs.GoodKinds.{zero_not}
use Rattle.law_frames.proofs.Held.{held}
use Rattle.law_net.specs.GoodViews.{Leads}
use Rattle.law_net.proofs.WordLaws.{leads_then, leads_give, leads_weaker}
use Rattle.law_alloc.proofs.Searches.{sees_reads, leads_from}
use Rattle.law_kept.specs.Drops.{maps_dropped, GivesBack, PagesAreGivenBack}
use Rattle.law_kept.proofs.Steps.{IsFile, page_in, extent_in, Took, Goes, IsWithin}
use Rattle.law_kept.proofs.Singles.{any_from, page_extent, neither, file_of, start_of}
use Rattle.law_kept.proofs.ChainLists.{in_chain, chain_in}
use Rattle.law_kept.proofs.Freed.{shared_goes, marked_goes, left_goes}
use Rattle.law_kept.proofs.ReadTables.{each_does, each_tested, IsReadChain, chain_now_reads}
use Rattle.law_kept.proofs.Dropping.{IsTable, Drops, IsDone, IsAt, BytesFall, Settles, drops_none, drops_on, done_on, not_both, use_owns, own_inside}

-- where a test says the same of each of a list, it does so of any
any_same : (a b : ℕ → Bool) (xs : List ℕ) → ((x : ℕ) → Contains xs x → a x ≡ b x) → list_any a xs ≡ list_any b xs
any_same a b [] same = refl
any_same a b (x ∷ xs) same = ap (λ c. c || list_any a xs) (same x (cons_here x xs)) ∙ ap (λ c. b x || c) (any_same a b xs (λ z there. same z (cons_there x xs z there)))

pub among_from : (p : ℕ) (xs : List ℕ) → list_any (λ q. q == p) xs ≡ true → Contains xs p
among_from p [] h = absurd (cc)
among_from p (x ∷ xs) h = ⊎_elim (λ here. subst (Contains (x ∷ xs)) (eqb-true x p here) (cons_here x xs)) (λ there. cons_there x xs p (among_from p xs there)) (or_cases (x == p) (list_any (λ q. q == p) xs) h)

module _ (shape : FileShape) (v : View) (row : CatalogRow) (table : IsTable shape v row) where
  abbrev Dropped : View → Type 0
  Dropped = Drops shape v row table

  abbrev Done : ℕ → View → Type 0
  Done = IsDone shape v row table

  f : IsFile shape v.now
  f = table.file

  -- ---- one page, or one extent

  -- where a page is given back, the view goes on so
  abbrev Step : ℕ → View → View → Type 0
  Step p w x = Dropped x × Done p x × ((q : ℕ) → Done q w → Done q x)

  shared_step : (p place : ℕ) (w : View) → IsUseBy shape.geometry v.now p row place → Dropped w → Leads (shared_freed shape p) w (λ u x. Step p w x)
  shared_step p place w by drops =
      let g = shape.geometry in
      let goes = drops.goes in
      let own = use_owns shape v row table p place by in
      let inside = own_inside shape v row table p own in
      let low = page_extent shape v p f inside in
      let uses : UsesOf g v.now row (p / 8) = (p, refl, place, by) in
      leads_weaker (shared_freed shape p) w _ (λ u x. Step p w x) (λ u x step.
      let moved = step.goes in
      let at : IsAt p (maps_of p) = record {
        free = λ e c. ⊎_elim (λ c. c) (λ c. absurd (neither c)) c;
        mixed = λ e c. ⊎_elim (λ c. absurd c) (λ c. ⊎_elim (λ c. c) (λ c. absurd c) c) c;
        bytes = λ q c. ⊎_elim (λ c. absurd c) (λ c. ⊎_elim (λ c. absurd c) (λ c. c) c) c;
      } in
      let same = λ (q : ℕ) (inside_ : q < shape.pages) (other : q ≢ p). let is : pfs_byte g x.now q ≡ pfs_byte g w.now q =
      moved.most.bytes q (page_in shape w.now q goes.file inside_) (λ c. other (at.bytes q c)) in is in
      let settles : Settles shape v row table p x = record { left = step.left; busy = step.busy } in
      let within : IsWithin (maps_of p) (maps_dropped g v.now row) = record {
        free = λ e c. inr (subst (UsesOf g v.now row) (sym (at.free e c)) uses);
        mixed = λ e c. subst (UsesOf g v.now row) (sym (at.mixed e c)) uses;
        bytes = λ q c. subst (Has g v.now row) (sym (at.bytes q c)) own;
        pages = λ q c. neither (⊎_elim (λ c. inl c) (λ c. inr (neither c)) c);
      } in
      let fall : BytesFall shape v row table w x = λ q inside_. ⊎_elim (λ here. inr (ap (pfs_byte g x.now) here ∙ step.byte)) (λ other. inl (same q inside_ other)) (cases_eq q p) in (
        drops_on shape v row table p (maps_of p) w x inside drops moved within at fall (λ h. settles),
        record { inside = inside; byte = step.byte; shared = λ place_ by_. step.left; held = λ place_ by_. step.held },
        done_on shape v row table p (maps_of p) w x inside drops moved within at fall (λ h. settles),
      ))
      (shared_goes shape p w inside goes.file (drops.busy (p / 8) low uses))

  marked_step : (p : ℕ) (w : View) → IsMarked shape.geometry v.now row (p / 8) → Has shape.geometry v.now row p → Dropped w → Leads (marked_freed shape p) w (λ in_use x. Step p w x)
  marked_step p w marked own drops =
      let g = shape.geometry in
      let goes = drops.goes in
      let inside = own_inside shape v row table p own in
      let low = page_extent shape v p f inside in
      let c = either (byte_of p) (free_bit (p / 8)) in
      leads_weaker (marked_freed shape p) w _ (λ in_use x. Step p w x) (λ in_use x step.
      let moved = step.goes in
      let at : IsAt p c = record { free = λ e c. ⊎_elim (λ c. absurd c) (λ c. c) c; mixed = λ e c. absurd (neither c); bytes = λ q c. ⊎_elim (λ c. c) (λ c. absurd c) c } in
      let within : IsWithin c (maps_dropped g v.now row) = record {
        free = λ e c. inl (subst (IsMarked g v.now row) (sym (at.free e c)) marked);
        mixed = λ e c. absurd (neither c);
        bytes = λ q c. subst (Has g v.now row) (sym (at.bytes q c)) own;
        pages = λ q c. neither c;
      } in
      let fall : BytesFall shape v row table w x = λ q inside_. ⊎_elim (λ here. inr (ap (pfs_byte g x.now) here ∙ step.byte))
      (λ other. inl (moved.most.bytes q (page_in shape w.now q goes.file inside_) (λ c. other (at.bytes q c)))) (cases_eq q p) in
      let settles = λ (uses : UsesOf g v.now row (p / 8)). absurd {A = Settles shape v row table p x} (not_both shape v row table (p / 8) low uses marked) in (
        drops_on shape v row table p c w x inside drops moved within at fall settles,
        record {
          inside = inside;
          byte = step.byte;
          shared = λ place by. absurd (not_both shape v row table (p / 8) low (p, refl, place, by) marked);
          held = λ place by. absurd (not_both shape v row table (p / 8) low (p, refl, place, by) marked);
        },
        done_on shape v row table p c w x inside drops moved within at fall settles,
      ))
      (marked_goes shape p w inside goes.file)

  -- extent e is free, and what is given back stays so
  abbrev Freed : ℕ → View → Type 0
  Freed e w = (e < shape.pages / 8) × (is_free shape.geometry w.now e ≡ true) × Took w (resource.Extent (record { 0 = e }))

  left_step : (e : ℕ) (w : View) → e < shape.pages / 8 → IsMarked shape.geometry v.now row e → Dropped w →
      Leads (left_freed shape e) w (λ u x. (Dropped x × ((q : ℕ) → Done q w → Done q x)) × Freed e x × ((d : ℕ) → Freed d w → Freed d x))
  left_step e w low marked drops =
      let g = shape.geometry in
      let goes = drops.goes in
      let p = 8 * e in
      let here : e ≡ p / 8 = omega arith in
      let inside : p < shape.pages = omega (arith, low) in
      leads_weaker (left_freed shape e) w _ _ (λ u x step.
      let moved = step.0 in
      let at : IsAt p (free_bit e) = record { free = λ d c. c ∙ here; mixed = λ d c. absurd c; bytes = λ q c. absurd c } in
      let within : IsWithin (free_bit e) (maps_dropped g v.now row) = record {
        free = λ d c. inl (subst (IsMarked g v.now row) (sym c) marked);
        mixed = λ d c. absurd c;
        bytes = λ q c. absurd c;
        pages = λ q c. c;
      } in
      let fall : BytesFall shape v row table w x = λ q inside_. inl (moved.most.bytes q (page_in shape w.now q goes.file inside_) (λ c. c)) in
      let settles = λ (uses : UsesOf g v.now row (p / 8)). absurd {A = Settles shape v row table p x} (not_both shape v row table e low (subst (UsesOf g v.now row) (sym here) uses) marked) in (
        (drops_on shape v row table p (free_bit e) w x inside drops moved within at fall settles, done_on shape v row table p (free_bit e) w x inside drops moved within at fall settles),
        (low, step.1, step.2),
        λ d old. (old.0, ⊎_elim (λ same. ap (is_free g x.now) same ∙ step.1) (λ other. moved.most.free d (extent_in shape w.now d goes.file old.0) other ∙ old.1) (cases_eq d e), moved.taken (resource.Extent (record { 0 = d })) old.2),
      ))
      (left_goes shape e w low goes.file)

-- ---- all of them

-- the extents that the object marks or uses pages of are taken
abbrev pub TakesBack : View → CatalogRow → View → Type 0
TakesBack v row y = (e : ℕ) → e < extent_count v.now → IsMarked v.shape.geometry v.now row e ⊎ UsesOf v.shape.geometry v.now row e → Took y (resource.Extent (record { 0 = e }))

module _ (v : View) (row : CatalogRow) (table : IsTable v.shape v row) (n : ℕ) (whole : IsWhole v.shape.geometry v.now row n) where
  abbrev g : Geometry
  g = v.shape.geometry

  abbrev chain : List ℕ
  chain = chain_pages v.now row n

  abbrev Falls : View → Type 0
  Falls = Drops v.shape v row table

  abbrev Given : ℕ → View → Type 0
  Given = IsDone v.shape v row table

  -- the bytes of its pages are as they were
  chain_page : (q : ℕ) (w : View) → IsInChain v.shape.geometry v.now row q → Falls w → page w.now q ≡ page v.now q
  chain_page q w (k, is, at) drops =
      let goes = drops.goes in
      goes.most.pages q (inr (subst (λ r. IsTrue (is_ordinary v.shape.geometry r)) at (held v.shape.geometry v.now row k table.start table.object is).ordinary)) (λ c. c)

  single_now : (p : ℕ) (w : View) → Falls w → is_single w.now (chain_pages v.now row n) p ≡ is_single v.now (chain_pages v.now row n) p
  single_now p w drops =
      let some = some_page v.shape.geometry v.now row n whole in
      let first = first_is v.now row n some in
      ap (λ bytes. not (p == 0) && list_any (λ q. q == p) (iam_slots bytes))
      (ap (page w.now) first ∙ chain_page (pointer v.now row zero) w (zero, below_page v.shape.geometry v.now row n zero whole.pages.pages some, refl) drops ∙ ap (page v.now) (sym first))

  marked_now : (p : ℕ) (w : View) → Falls w → is_marked v.shape.geometry w.now (chain_pages v.now row n) p ≡ is_marked v.shape.geometry v.now (chain_pages v.now row n) p
  marked_now p w drops =
      any_same _ _ (chain_pages v.now row n) (λ q there.
      ap (λ bytes. (iam_interval bytes == interval_of_page v.shape.geometry p) && iam_mark bytes (p / 8 % interval_size v.shape.geometry)) (chain_page q w (in_chain v.shape.geometry v.now row n whole q there) drops))

  -- a page that is allocated to the object
  page_step : (p : ℕ) (w : View) → IsAllocatedTo v.shape.geometry v.now row p → Falls w → Leads (page_dropped v.shape (chain_pages v.now row n) p) w (λ u x. Step v.shape v row table p w x)
  page_step p w allocated drops =
      leads_from (sees (is_shared_page (chain_pages v.now row n) p)) _ w (λ b. is_shared_page (chain_pages v.now row n) p w ≡ b) (λ u x. Step v.shape v row table p w x)
      (sees_reads (is_shared_page (chain_pages v.now row n) p) w (λ b. is_shared_page (chain_pages v.now row n) p w ≡ b) refl) by_shared
    where
      below : IsAllocatedTo v.shape.geometry v.now row p → p < length v.now
      below allocated = page_in v.shape v.now p table.file (own_inside v.shape v row table p (inl allocated))

      by_use : (b : Bool) → is_single w.now (chain_pages v.now row n) p ≡ b → list_any (λ q. q == p) (chain_pages v.now row n) ≡ true ⊎ (b ≡ true) → (place : ℕ) × IsUseBy v.shape.geometry v.now p row place
      by_use b single (inl there) = (single_slot_count, inr (refl, in_chain v.shape.geometry v.now row n whole p (among_from p (chain_pages v.now row n) there)))
      by_use b single (inr is) =
          let slot = slot_from v.shape.geometry v.now row n p whole (below allocated) (sym (single_now p w drops) ∙ single ∙ is) in (slot.0, inl slot.1)

      not_single : IsAllocatedTo v.shape.geometry v.now row p → is_shared_page (chain_pages v.now row n) p w ≡ false → IsMarked v.shape.geometry v.now row (p / 8)
      not_single (inl slot) is =
          absurd (both_ways (is_shared_page (chain_pages v.now row n) p w) is
          (or_left (is_single w.now (chain_pages v.now row n) p) (list_any (λ q. q == p) (chain_pages v.now row n)) (single_now p w drops ∙ slot_in v.shape.geometry v.now row n p slot.0 whole slot.1)))
      not_single (inr marked) is = marked.1

      by_shared : (b : Bool) → is_shared_page (chain_pages v.now row n) p w ≡ b →
          Leads (if b then shared_freed v.shape p else (marked_freed v.shape p then (λ _. give tt))) w (λ u x. Step v.shape v row table p w x)
      by_shared true is =
          let single = is_single w.now (chain_pages v.now row n) p in
          let use_ = ⊎_elim (λ s. by_use single refl (inr s)) (λ there. by_use single refl (inl there)) (or_cases single (list_any (λ q. q == p) (chain_pages v.now row n)) is) in
          shared_step v.shape v row table p use_.0 w use_.1 drops
      by_shared false is =
          leads_then (marked_freed v.shape p) (λ _. give tt) w _
          (leads_weaker (marked_freed v.shape p) w _ _ (λ b x h. leads_give tt x (λ u y. Step v.shape v row table p w y) h) (marked_step v.shape v row table p w (not_single allocated is) (inl allocated) drops))

  chain_step : (q : ℕ) (w : View) → Contains (chain_pages v.now row n) q → Falls w → Leads (shared_freed v.shape q) w (λ u x. Step v.shape v row table q w x)
  chain_step q w there drops = shared_step v.shape v row table q single_slot_count w (inr (refl, in_chain v.shape.geometry v.now row n whole q there)) drops

  -- all that the object has is given back
  abbrev pub Back : Unit {0} → View → Type 0
  Back u y = Goes v.shape (maps_dropped v.shape.geometry v.now row) v y × GivesBack v.shape.geometry v.now y.now row × TakesBack v row y

  abbrev AllGiven : View → Type 0
  AllGiven w = (p : ℕ) → Has v.shape.geometry v.now row p → Given p w

  module _ (unheld : (p : ℕ) → Contains (byte_pages v.shape (chain_pages v.now row n) v) p → v.other (resource.Byte (record { 0 = p })) ≡ None) where
    -- an extent that it marks isn't in use then
    not_in_use : (e : ℕ) (z : View) → e < v.shape.pages / 8 → IsMarked v.shape.geometry v.now row e → Falls z → AllGiven z → is_in_use v.shape e z ≡ false
    not_in_use e z low marked drops given = false_from_ne_true (is_in_use v.shape e z) (λ in_use.
        let found = any_from (counts_as_allocated v.shape z) e in_use in
        let q = found.0 in
        let inside : q < v.shape.pages = omega (arith, found.1, low) in
        let marks = subst (IsMarked v.shape.geometry v.now row) (sym found.1) marked in
        let goes = drops.goes in
        ⊎_elim
        (λ allocated.
        let old = drops.less q (page_in v.shape v.now q table.file inside) allocated in
        let gone = given q (inl (inr (page_in v.shape v.now q table.file inside, marks, old))) in
        zero_not (pfs_byte v.shape.geometry z.now q) gone.byte allocated)
        (λ held_by.
        let free = unheld q (filter_in _ (pages_of v.shape) q (range_in v.shape.pages q inside)
        (or_right (is_single v.now (chain_pages v.now row n) q) (is_marked v.shape.geometry v.now (chain_pages v.now row n) q) (mark_in v.shape.geometry v.now row n q whole marks))) in
        not_some (z.other (resource.Byte (record { 0 = q }))) (ap (λ o. o (resource.Byte (record { 0 = q }))) goes.other ∙ free) held_by)
        (or_cases (is_allocated v.shape.geometry z.now q) (is_held z (resource.Byte (record { 0 = q }))) found.2))
      where
        not_some : (o : Option ℕ) → o ≡ None → is_some o ≡ true → ⊥
        not_some None free h = cc
        not_some (Some t) free h = cc

    left_from : (e : ℕ) (z : View) → Falls z → Contains (left_extents v.shape (chain_pages v.now row n) z) e → (e < v.shape.pages / 8) × IsMarked v.shape.geometry v.now row e
    left_from e z drops there =
        let kept = filter_from _ (extents_of v.shape) e there in
        let parts = and_parts (is_marked v.shape.geometry z.now (chain_pages v.now row n) (8 * e)) (not (is_in_use v.shape e z)) kept.1 in
        let here : 8 * e / 8 ≡ e = omega arith in
        (range_from (v.shape.pages / 8) e kept.0, subst (IsMarked v.shape.geometry v.now row) here (mark_from v.shape.geometry v.now row n (8 * e) whole (sym (marked_now (8 * e) z drops) ∙ parts.0)))

    left_in : (e : ℕ) (z : View) → e < v.shape.pages / 8 → IsMarked v.shape.geometry v.now row e → Falls z → AllGiven z → Contains (left_extents v.shape (chain_pages v.now row n) z) e
    left_in e z low marked drops given =
        let here : e ≡ 8 * e / 8 = omega arith in
        filter_in _ (extents_of v.shape) e (range_in (v.shape.pages / 8) e low)
        (and_from (is_marked v.shape.geometry z.now (chain_pages v.now row n) (8 * e)) (not (is_in_use v.shape e z))
        (marked_now (8 * e) z drops ∙ mark_in v.shape.geometry v.now row n (8 * e) whole (subst (IsMarked v.shape.geometry v.now row) here marked))
        (not_from_false (is_in_use v.shape e z) (not_in_use e z low marked drops given)))

    -- the extents that are left
    left_goes_all : (z : View) → Falls z → AllGiven z → ((p : ℕ) → IsAllocatedTo v.shape.geometry v.now row p → IsTrue (is_ordinary v.shape.geometry p)) →
        Leads (sees (left_extents v.shape (chain_pages v.now row n)) then for_each (left_freed v.shape)) z Back
    left_goes_all z drops given ordinary =
        let K : Unit {0} → View → Type 0 = Back in
        let left = left_extents v.shape (chain_pages v.now row n) in
        leads_from (sees left) (for_each (left_freed v.shape)) z (λ es. es ≡ left z) K (sees_reads left z (λ es. es ≡ left z) refl) (λ es same.
        leads_weaker (for_each (left_freed v.shape) es) z _ K (λ u y l.
        let file = table.file in
        let end = l.0.0 in
        let goes = end.goes in (
          goes,
          record {
            ordinary = ordinary;
            most = goes.most;
            bytes = λ p inside own. let gone = l.0.1 p own in gone.byte;
            marked = λ e low marked. (l.1 e (subst (λ list. Contains list e) (sym same) (left_in e z (subst (λ m. e < m / 8) file.pages low) marked drops given))).1;
            shared = λ e low uses. let gone = l.0.1 uses.0 (use_owns v.shape v row table uses.0 uses.2 uses.3) in
                subst (IsLeftShared v.shape.geometry y.now) uses.1 (gone.shared uses.2 uses.3);
          },
          λ e low touched. ⊎_elim
              (λ marked. (l.1 e (subst (λ list. Contains list e) (sym same) (left_in e z (subst (λ m. e < m / 8) file.pages low) marked drops given))).2)
              (λ uses. let gone = l.0.1 uses.0 (use_owns v.shape v row table uses.0 uses.2 uses.3) in
              subst (λ d. Took y (resource.Extent (record { 0 = d }))) uses.1 (gone.held uses.2 uses.3)) touched,
        ))
        (each_does (left_freed v.shape) es (λ y. Falls y × AllGiven y) (Freed v.shape v row table) z (λ e y there keeps.
        let at = left_from e z drops (subst (λ list. Contains list e) same there) in
        leads_weaker (left_freed v.shape e) y _ _ (λ u x h. ((h.0.0, (λ p own. h.0.1 p (keeps.1 p own))), h.1, h.2)) (left_step v.shape v row table e y at.0 at.1 keeps.0))
        (drops, given)))

    pages_go : Leads (sees (object_pages v.shape (chain_pages v.now row n)) then (λ pages.
        for_each (λ p. where_good (is_ordinary v.shape.geometry p) p) pages then (λ _.
        for_each (page_dropped v.shape (chain_pages v.now row n)) pages then (λ _.
        for_each (shared_freed v.shape) (chain_pages v.now row n) then (λ _.
        sees (left_extents v.shape (chain_pages v.now row n)) then for_each (left_freed v.shape)))))) v Back
    pages_go =
        let K : Unit {0} → View → Type 0 = Back in
        let mine = object_pages v.shape (chain_pages v.now row n) in
        let file = table.file in
        leads_from (sees mine) _ v (λ pages. pages ≡ mine v) K (sees_reads mine v (λ pages. pages ≡ mine v) refl) (λ pages same.
        let from = λ (p : ℕ) (there : Contains pages p). let is : IsAllocatedTo v.shape.geometry v.now row p =
        (pages_are_allocated v row n p file.pages whole).0 (subst (λ list. Contains list p) same there) in is in
        let into = λ (p : ℕ) (allocated : IsAllocatedTo v.shape.geometry v.now row p). let there : Contains pages p =
        subst (λ list. Contains list p) (sym same) ((pages_are_allocated v row n p file.pages whole).1 allocated) in there in
        leads_from (for_each (λ p. where_good (is_ordinary v.shape.geometry p) p) pages) _ v (λ u. (p : ℕ) → Contains pages p → is_ordinary v.shape.geometry p ≡ true) K
        (each_tested (is_ordinary v.shape.geometry) (λ p. p) pages v) (λ u tested.
        leads_then (for_each (page_dropped v.shape (chain_pages v.now row n)) pages) _ v K
        (leads_weaker (for_each (page_dropped v.shape (chain_pages v.now row n)) pages) v _ _ (λ s w h.
        leads_then (for_each (shared_freed v.shape) (chain_pages v.now row n)) _ w K
        (leads_weaker (for_each (shared_freed v.shape) (chain_pages v.now row n)) w _ _ (λ t z k.
        left_goes_all z k.0 (λ p own. ⊎_elim (λ allocated. k.2 p (h.1 p (into p allocated))) (λ chained. k.1 p (chain_in v.shape.geometry v.now row n whole p chained)) own) (λ p allocated. tested p (into p allocated)))
        (each_does (shared_freed v.shape) (chain_pages v.now row n) Falls Given w (λ q y there keeps. chain_step q y there keeps) h.0)))
        (each_does (page_dropped v.shape (chain_pages v.now row n)) pages Falls Given v (λ p y there keeps. page_step p y (from p there) keeps) (drops_none v.shape v row table)))))

pub pages_give_back : (v : View) (row : CatalogRow) → IsTable v.shape v row →
    Leads (pages_dropped v.shape row) v (λ u y. Goes v.shape (maps_dropped v.shape.geometry v.now row) v y × GivesBack v.shape.geometry v.now y.now row × TakesBack v row y)
pages_give_back v row table =
    let K : Unit {0} → View → Type 0 = λ u y. Goes v.shape (maps_dropped v.shape.geometry v.now row) v y × GivesBack v.shape.geometry v.now y.now row × TakesBack v row y in
    let file = table.file in
    let form = file.file in
    let low = form.low in
    leads_from (chain_now v.shape row) _ v (IsReadChain v row) K (chain_now_reads row v (omega (arith, low)) file.pages) (λ chain read.
    subst (λ c. ((p : ℕ) → Contains (byte_pages v.shape c v) p → v.other (resource.Byte (record { 0 = p })) ≡ None) → Leads (sees (object_pages v.shape c) then (λ pages.
    for_each (λ p. where_good (is_ordinary v.shape.geometry p) p) pages then (λ _.
    for_each (page_dropped v.shape c) pages then (λ _.
    for_each (shared_freed v.shape) c then (λ _.
    sees (left_extents v.shape c) then for_each (left_freed v.shape)))))) v K) (sym read.is) (pages_go v row table read.count read.whole) read.unheld)

pub pages_are_given_back : PagesAreGivenBack
pages_are_given_back v row clean object =
    leads_weaker (pages_dropped v.shape row) v _ _ (λ u y h. h.1)
    (pages_give_back v row (record { file = file_of v clean; start = start_of v clean; object = object }))
