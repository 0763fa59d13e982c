-- CREATE HEAP creates an object.
use Rattle.std.proofs.Common.{◌≡◌, ◌≢◌, ℕ, ◌+◌, ◌*◌, ◌/◌, ◌<◌, true, false, List, [], refl, sym, ap, subst, ◌∙◌, inl, inr, ⊎_elim}
use Rattle.std.specs.Prelude.{is_some, if◌then◌else◌}
use Rattle.std.proofs.lemmas.Bool.{cond_both}
use Rattle.spec_file.specs.declared.data.Resource.TheVariants as resource
use Rattle.spec_file.specs.declared.pfs.PfsKind.TheVariants.{Iam}
use Rattle.spec_file.specs.Catalog.{entry_count, entry_at, is_name, is_zeros}
use Rattle.spec_file.specs.CatalogBytes.{entry_bytes}
use Rattle.spec_file.specs.CatalogRows.{rows_of}
use Rattle.spec_file.specs.Image.{page}
use Rattle.spec_script.specs.declared.reply.Reply.{Reply}
use Rattle.spec_script.specs.declared.reply.Reply.TheVariants.{Done}
use Rattle.spec_plan.specs.Refusals.{same_name, too_many_tables}
use Rattle.spec_plan.specs.Reading.{is_catalog, named_among}
use Rattle.spec_log.specs.Cells.{with_bytes}
use Rattle.spec_words.specs.NetChanges.{FileShape}
use Rattle.spec_words.specs.Views.{View}
use Rattle.spec_words.specs.Words.{◌then◌, give, refuse, where_good, look, take, found_or}
use Rattle.spec_alloc.specs.Objects.{free_id, free_entry, new_chain}
use Rattle.spec_statements.specs.Objects.{unless_named, new_heap, entry_put, create_plan}
use Rattle.spec_steps.specs.AtMost.{page_of, either, maps_of}
use Rattle.spec_chain.specs.Uses.{is_allocated}
use Rattle.spec_steps.specs.Taking.{IsTakenAs}
use Rattle.spec_steps.specs.Tables.{CreatesObject}
use Rattle.spec_steps.specs.Entries.{AddsEntry}
use Rattle.spec_steps.specs.IamPages.{IsOnlyIam}
use Rattle.law_writes.proofs.MapPages.{boot_not, differs}
use Rattle.law_frames.proofs.Held.{IsStart}
use Rattle.law_tables.proofs.CreatedObjects.{create_maps, create_clean, create_exact, create_parts}
use Rattle.law_net.specs.GoodViews.{Leads}
use Rattle.law_net.proofs.WordLaws.{leads_then, leads_give, leads_refuse, leads_good, leads_look, leads_found, leads_weaker}
use Rattle.law_net.proofs.ReadingLeaves.{Reads}
use Rattle.law_alloc.proofs.Searches.{give_reads, leads_from}
use Rattle.law_kept.specs.Views.{IsCleanView}
use Rattle.law_kept.specs.Parts.{ChangesTaken}
use Rattle.law_kept.specs.Singles.{TakesIam}
use Rattle.law_kept.specs.Creates.{CreatesHeap, CreateCreates, CreateLeavesMapsClean, CreateLeavesFileClean, CreateLeavesSgamExact}
use Rattle.law_kept.proofs.Steps.{IsFile, page_in, nine_inside, Took, Goes, goes_both, goes_within, nothing}
use Rattle.law_kept.proofs.Words.{take_goes, page_goes}
use Rattle.law_kept.proofs.Singles.{IsBare, bare_on, bare_from, bare_at, page_extent, file_of, start_of}
use Rattle.law_kept.proofs.NewChains.{chain_goes, held_on, exact_on, number_low}
use Rattle.law_kept.proofs.PartsTaken.{taken_extents, parts_wider, ReadsSameUntaken, untaken_reads}
use Rattle.law_kept.proofs.NewEntries.{IsFreeId, heap_back, heap_added, id_is_free, entry_is_free, name_is_free}

named_reads : (boot name : List ℕ) (v : View) → Reads (unless_named boot name) v (λ u. is_some (named_among (rows_of boot) name) ≡ false)
named_reads boot name v =
    let K : Unit {0} → Type 0 = λ u. is_some (named_among (rows_of boot) name) ≡ false in
    cond_both (is_some (named_among (rows_of boot) name)) (refuse (same_name name)) (give tt) (λ plan. Reads plan v K) (λ e. leads_refuse (same_name name) v _) (λ e. give_reads tt v K e)

-- what CREATE finds free
record IsReady (boot name : List ℕ) (id i : ℕ) : Type 0 where
  id_free : IsFreeId boot id
  within : i < entry_count
  empty : is_zeros (entry_at boot i) ≡ true
  unnamed : is_some (named_among (rows_of boot) name) ≡ false

-- the heap is created; of the extent of its page SGAM is exact, unless another holds a byte of it alone; and parts whose
-- resource isn't taken read the same
record Creates (shape : FileShape) (name : List ℕ) (v w : View) : Type 0 where
  heap : CreatesHeap shape.geometry name v.now w.now
  taken : IsBare shape v (heap.page / 8) → IsTakenAs shape.geometry w.now heap.page Iam
  parts : ReadsSameUntaken shape.geometry v.now w

module _ (shape : FileShape) (name : List ℕ) (named : is_name name ≡ true) where
  -- the page of the chain is taken, and then the entry is put
  heap_made : (id i q : ℕ) (w y z : View) (f : IsFile shape w.now) → IsReady (page w.now 9) name id i
      → Goes shape (either (maps_of q) (page_of q)) w y → TakesIam shape.geometry id q w.now y.now
      → Goes shape (page_of 9) y z → page z.now 9 ≡ with_bytes (page y.now 9) (96 + 40 * i) (entry_bytes (new_heap id name q))
      → CreatesObject shape.geometry w.now z.now (new_heap id name q) q
  heap_made id i q w y z f ready chained takes put is =
      let g = shape.geometry in
      let boot = page w.now 9 in
      let entry = entry_bytes (new_heap id name q) in
      let free = ready.id_free in
      let takeable = takes.takeable in
      let inside : q < shape.pages = subst (λ n. q < n) f.pages takeable.inside in
      let file = f.file in
      let low = number_low g q shape.pages inside file.high in
      let other : q ≢ 9 = differs g q 9 takeable.ordinary (boot_not g) in
      let same : page y.now 9 ≡ boot = chained.most.pages 9 (inl refl) (λ c. ⊎_elim (λ c. ⊎_elim (λ c. c) (λ c. ⊎_elim (λ c. c) (λ c. c) c) c) (λ here. other (sym here)) c) in
      let both = goes_within shape (either (either (maps_of q) (page_of q)) (page_of 9)) (either (maps_of q) (either (page_of q) (page_of 9))) w z (record {
        free = λ e c. ⊎_elim (λ c. ⊎_elim (λ c. inl c) (λ c. absurd c) c) (λ c. absurd c) c;
        mixed = λ e c. ⊎_elim (λ c. ⊎_elim (λ c. inl c) (λ c. absurd c) c) (λ c. absurd c) c;
        bytes = λ p c. ⊎_elim (λ c. ⊎_elim (λ c. inl c) (λ c. absurd c) c) (λ c. absurd c) c;
        pages = λ p c. ⊎_elim (λ c. ⊎_elim (λ c. inl c) (λ c. inr (inl c)) c) (λ c. inr (inr c)) c;
      }) (goes_both shape (either (maps_of q) (page_of q)) (page_of 9) w y z chained put) in record {
        takeable = takeable;
        most = both.most;
        taken = held_on shape 9 q Iam y z inside chained.file put takes.taken;
        new = subst (IsOnlyIam id q) (sym (put.most.pages q (inr takeable.ordinary) other)) takes.new;
        place = i;
        entry = entry;
        adds = subst (AddsEntry i entry boot) (sym (is ∙ ap (λ b. with_bytes b (96 + 40 * i) entry) same))
            (heap_added id name q free.some free.low named low boot i (f.whole 9 [] (page_in shape w.now 9 f (nine_inside shape w.now f))) ready.within ready.empty free.new
            (name_is_free (rows_of boot) name ready.unnamed));
        is = sym (heap_back id name q free.some free.low named low);
        first = refl;
      }

  create_goes : (v : View) → IsFile shape v.now → IsStart shape.geometry v.now → Leads (create_plan shape name) v (λ reply w. Creates shape name v w)
  create_goes v f start =
      let g = shape.geometry in
      let boot = page v.now 9 in
      let K : Reply → View → Type 0 = λ reply w. Creates shape name v w in
      leads_then (look resource.Catalog 9) _ v K (leads_look resource.Catalog 9 v _ (λ free.
      leads_then (where_good (is_catalog boot) 9) _ v K (leads_good (is_catalog boot) 9 v _ (λ good.
      leads_from (unless_named boot name) _ v (λ u. is_some (named_among (rows_of boot) name) ≡ false) K (named_reads boot name v) (λ u unnamed.
      leads_then (found_or (free_id boot) (refuse too_many_tables)) _ v K (leads_found (free_id boot) (refuse too_many_tables) v _ (λ id is.
      leads_then (found_or (free_entry boot) (refuse too_many_tables)) _ v K (leads_found (free_entry boot) (refuse too_many_tables) v _ (λ i at.
      let empty = entry_is_free boot i at in
      let ready : IsReady boot name id i = record { id_free = id_is_free boot id is; within = empty.0; empty = empty.1; unnamed = unnamed } in
      leads_then (take (resource.Table (record { 0 = id }))) _ v K (leads_weaker (take (resource.Table (record { 0 = id }))) v _ _ (λ x w h. behind v w start h.0 h.1 id i h.3 ready) (take_goes shape (resource.Table (record { 0 = id })) v f)))
      (λ e. leads_refuse too_many_tables v _)))
      (λ e. leads_refuse too_many_tables v _)))))))
    where
      behind : (v w : View) → IsStart shape.geometry v.now → Goes shape nothing v w → w.now ≡ v.now → (id i : ℕ) → Took w (resource.Table (record { 0 = id })) → IsReady (page v.now 9) name id i →
          Leads (new_chain shape id then (λ q. entry_put i (new_heap id name q) then (λ _. give Done))) w (λ reply z. Creates shape name v z)
      behind v w start first now id i table ready =
          let g = shape.geometry in
          let file = first.file in
          let ready_w : IsReady (page w.now 9) name id i = subst (λ image. IsReady (page image 9) name id i) (sym now) ready in
          let free = ready_w.id_free in
          let K : Reply → View → Type 0 = λ reply z. Creates shape name v z in
          leads_then (new_chain shape id) _ w K (leads_weaker (new_chain shape id) w _ _ (λ q y k.
          let chained = k.0 in
          let takes = k.1 in
          let takeable = takes.takeable in
          let inside : q < shape.pages = subst (λ n. q < n) file.pages takeable.inside in
          leads_then (entry_put i (new_heap id name q)) (λ _. give Done) y K
          (leads_weaker (entry_put i (new_heap id name q)) y _ _ (λ s z m. leads_give Done z K
          (let held = held_on shape 9 q Iam y z inside chained.file m.0 takes.taken in
          let put = m.0 in
          let creates : CreatesObject g v.now z.now (new_heap id name q) q =
          subst (λ image. CreatesObject g image z.now (new_heap id name q) q) now (heap_made id i q w y z file ready_w chained takes put m.1) in
          let id_taken = put.taken (resource.Table (record { 0 = id })) (chained.taken (resource.Table (record { 0 = id })) table) in record {
            heap = record {
              row = new_heap id name q;
              page = q;
              kind = refl;
              named = refl;
              creates = creates;
            };
            taken = λ bare. record {
              free = held.free;
              byte = held.byte;
              mixed = exact_on shape 9 (q / 8) y z (page_extent shape w q file inside) chained.file m.0
                  (k.2 (bare_on shape v w (q / 8) first.other (λ r at un. subst (λ image. is_allocated g image r ≡ false) now un) bare));
            };
            parts = untaken_reads g v.now z id (parts_wider g v.now z.now id (λ e. e ≡ q / 8) (taken_extents z)
                (λ e low here. subst (taken_extents z) (sym here) (put.taken (resource.Extent (record { 0 = q / 8 })) k.3))
                (create_parts g v.now z.now (new_heap id name q) q start creates)) id_taken m.2;
          }))
          (page_goes shape resource.Catalog 9 (96 + 40 * i) (entry_bytes (new_heap id name q)) y (nine_inside shape y.now chained.file) (inl refl) chained.file)))
          (chain_goes shape id w file (subst (IsStart g) (sym now) start) free.low))

creates_of : (v : View) (name : List ℕ) → is_name name ≡ true → IsCleanView v → Leads (create_plan v.shape name) v (λ reply w. Creates v.shape name v w)
creates_of v name named clean = create_goes v.shape name named v (file_of v clean) (start_of v clean)

pub create_creates : CreateCreates
create_creates v name named clean = leads_weaker (create_plan v.shape name) v _ _ (λ reply w h. h.heap) (creates_of v name named clean)

pub create_changes_taken : (v : View) (name : List ℕ) → is_name name ≡ true → IsCleanView v → Leads (create_plan v.shape name) v (λ reply w. ChangesTaken v w)
create_changes_taken v name named clean = leads_weaker (create_plan v.shape name) v _ _ (λ reply w h. h.parts) (creates_of v name named clean)

pub create_leaves_maps : CreateLeavesMapsClean
create_leaves_maps v name named clean =
    leads_weaker (create_plan v.shape name) v _ _ (λ reply w h.
    let stays = create_maps v.shape.geometry v.now w.now h.row h.page (start_of v clean) h.creates in stays.maps) (create_creates v name named clean)

pub create_leaves_file : CreateLeavesFileClean
create_leaves_file v name named clean whole =
    leads_weaker (create_plan v.shape name) v _ _ (λ reply w h. create_clean v.shape.geometry v.now w.now h.row h.page (start_of v clean) h.creates whole h.kind) (create_creates v name named clean)

pub create_leaves_sgam : CreateLeavesSgamExact
create_leaves_sgam v name named clean others exact =
    leads_weaker (create_plan v.shape name) v _ _ (λ reply w h.
    let heap = h.heap in
    let creates = heap.creates in
    let bare = bare_at v.shape v heap.page (file_of v clean) (start_of v clean) (bare_from v others) creates.takeable in
    create_exact v.shape.geometry v.now w.now heap.row heap.page (start_of v clean) creates (h.taken bare) exact) (creates_of v name named clean)
