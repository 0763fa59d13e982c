-- INSERT changes a page that is allocated to its table, and the PFS byte of that page.
use Rattle.std.proofs.Common.{◌≡◌, ℕ, ◌+◌, ◌-◌, ◌*◌, ◌/◌, ◌%◌, ◌<◌, ◌==◌, ◌&&◌, Bool, true, List, [], ◌∷◌, length, Contains, Option, Some, None, refl, sym, ap, subst, ◌∙◌, inl, inr, ⊎_elim, arith, eqb-true, eq-eqb}
use Rattle.std.specs.Prelude.{IsTrue, if◌then◌else◌, nat_le}
use Rattle.std.proofs.lemmas.Bool.{both_ways, cond_both}
use Rattle.spec_file.specs.declared.data.Resource.TheVariants as resource
use Rattle.spec_file.specs.declared.pfs.PfsKind.TheVariants.{Single}
use Rattle.spec_file.specs.CatalogRows.{CatalogRow}
use Rattle.spec_file.specs.Iam.{single_slot_count}
use Rattle.spec_file.specs.Image.{page}
use Rattle.spec_file.specs.Pfs.{room, fullness_of, is_allocated_byte}
use Rattle.spec_file.specs.Roles.{is_ordinary}
use Rattle.spec_chain.specs.Chains.{IsObject}
use Rattle.spec_chain.specs.Uses.{IsAllocatedTo, pfs_byte}
use Rattle.spec_chain.proofs.Pointers.{inside_below}
use Rattle.spec_check.proofs.Members.{cons_here, cons_there}
use Rattle.spec_script.specs.declared.reply.Reply.{Reply}
use Rattle.spec_script.specs.declared.reply.Reply.TheVariants.{Rows}
use Rattle.spec_plan.specs.Refusals.{no_room}
use Rattle.spec_plan.specs.Rows.{has_room_for, heap_row, with_row, free_count, with_fullness}
use Rattle.spec_words.specs.NetChanges.{FileShape}
use Rattle.spec_words.specs.Views.{View, Plan}
use Rattle.spec_words.specs.Words.{◌then◌, give, refuse, sees, take, put_pfs, put_page, found_or, or_later, first_of}
use Rattle.spec_words.specs.Tables.{table_of, chain_of, bytes_read, byte_pages, object_pages, table_pages}
use Rattle.spec_words.specs.Heaps.{heap_page, room_on, row_put, insert_plan}
use Rattle.spec_extents.specs.Extents.{Fits, FitsUse, FitsMark}
use Rattle.spec_clean.specs.CleanFiles.{HasCleanMaps}
use Rattle.spec_steps.specs.Acts.{StaysClean}
use Rattle.spec_steps.specs.AtMost.{byte_of, page_of, either}
use Rattle.spec_steps.specs.PartsRead.{LeavesAllParts}
use Rattle.spec_steps.specs.Sgam.{HasExactSgam}
use Rattle.spec_steps.specs.Taking.{ChangesSinglePage, ChangesMarkedPage}
use Rattle.law_chains.proofs.Allocated.{pages_are_allocated}
use Rattle.law_frames.proofs.Held.{IsStart, goods, extent_below}
use Rattle.law_steps.proofs.OwnPages.{marked_page_clean, single_page_clean}
use Rattle.law_steps.proofs.ExactSgam.{filled_exact, marked_exact}
use Rattle.law_steps.proofs.LeftParts.{single_page_parts, marked_page_parts}
use Rattle.law_net.specs.GoodViews.{Leads}
use Rattle.law_net.proofs.WordLaws.{leads_then, leads_give, leads_refuse, leads_found, leads_weaker}
use Rattle.law_net.proofs.ReadingLeaves.{Reads, page_reads}
use Rattle.law_alloc.specs.Keeps.{IfFound}
use Rattle.law_alloc.proofs.Searches.{Any, sees_reads, give_reads, reads_then, leads_from}
use Rattle.law_kept.specs.Views.{IsCleanView}
use Rattle.law_kept.proofs.Steps.{IsFile, page_in, Took, Goes, goes_both}
use Rattle.law_kept.proofs.Words.{take_goes, pfs_goes, page_goes}
use Rattle.law_kept.proofs.Singles.{file_of, start_of}
use Rattle.law_kept.proofs.ReadTables.{IsChain, chain_reads, bytes_unheld, table_found}
use Rattle.law_kept.proofs.Dropping.{IsTable}
use Rattle.law_kept.proofs.PartsTaken.{taken_extents, all_wider, ReadsSameUntaken, all_untaken}

-- ---- a byte with another fullness

-- it is below 8
low_fullness : (free : ℕ) → fullness_of free < 8
low_fullness free =
    cond_both (room - free == 0) 0 _ (λ n. n < 8) (λ e. omega arith)
    (λ e. cond_both (nat_le (100 * (room - free)) (50 * room)) 1 _ (λ n. n < 8) (λ e. omega arith)
    (λ e. cond_both (nat_le (100 * (room - free)) (80 * room)) 2 _ (λ n. n < 8) (λ e. omega arith)
    (λ e. cond_both (nat_le (100 * (room - free)) (95 * room)) 3 4 (λ n. n < 8) (λ e. omega arith) (λ e. omega arith))))

same_flags : (byte fullness : ℕ) → fullness < 8 → with_fullness byte fullness / 8 ≡ byte / 8
same_flags byte fullness low = omega (arith, low)

single_fits : (byte slot fullness : ℕ) → slot < single_slot_count → fullness < 8 → FitsUse byte slot → Fits (with_fullness byte fullness) Single
single_fits byte slot fullness within low fits = ⊎_elim
    (λ single. record { flags = same_flags byte fullness low ∙ (subst (Fits byte) single.1 fits.fits).flags; fullness = λ none. absurd (none (inl refl)) })
    (λ chain. let eight = chain.0 in absurd (omega (arith, eight, within))) fits.is

-- a byte with the flags of an allocated page is one
still_allocated : (byte fullness : ℕ) → fullness < 8 → is_allocated_byte byte ≡ true → is_allocated_byte (with_fullness byte fullness) ≡ true
still_allocated byte fullness low is =
    let flags = same_flags byte fullness low in
    let bit : byte / 64 % 2 ≡ 1 = eqb-true (byte / 64 % 2) 1 is in
    eq-eqb (with_fullness byte fullness / 64 % 2) 1 (high_bit (with_fullness byte fullness) byte flags bit)
  where
    high_bit : (a b : ℕ) → a / 8 ≡ b / 8 → b / 64 % 2 ≡ 1 → a / 64 % 2 ≡ 1
    high_bit a b same bit = omega (arith, same, bit)

mark_fits : (byte fullness : ℕ) → fullness < 8 → is_allocated_byte byte ≡ true → FitsMark byte → FitsMark (with_fullness byte fullness)
mark_fits byte fullness low is fits = record {
  allocated = λ now. record { flags = same_flags byte fullness low ∙ (fits.allocated is).flags; fullness = λ none. absurd (none (inr refl)) };
  unallocated = λ not. absurd (both_ways (is_allocated_byte (with_fullness byte fullness)) not (still_allocated byte fullness low is));
}

-- ---- what the row does

-- the page and its byte change, and nothing else
record Fills (shape : FileShape) (p : ℕ) (v w : View) : Type 0 where
  goes : Goes shape (either (byte_of p) (page_of p)) v w
  fullness : ℕ
  low : fullness < 8
  byte : pfs_byte shape.geometry w.now p ≡ with_fullness (pfs_byte shape.geometry v.now p) fullness

row_goes : (shape : FileShape) (p : ℕ) (row : List ℕ) (v : View) → p < shape.pages → IsTrue (is_ordinary shape.geometry p) → IsFile shape v.now → Leads (row_put shape p row) v (λ u w. Fills shape p v w)
row_goes shape p row v inside ordinary f =
    let g = shape.geometry in
    let K : Unit {0} → View → Type 0 = λ u w. Fills shape p v w in
    let old : View → ℕ = λ view. pfs_byte g view.now p in
    let bytes_of : View → List ℕ = λ view. page view.now p in
    leads_from (sees old) _ v (λ b. b ≡ old v) K (sees_reads old v (λ b. b ≡ old v) refl) (λ b same.
    leads_from (sees bytes_of) _ v Any K (sees_reads bytes_of v Any tt) (λ bytes t.
    let fullness = fullness_of (free_count bytes - (length row + 2)) in
    leads_then (put_pfs shape p (with_fullness b fullness)) _ v K (leads_weaker (put_pfs shape p (with_fullness b fullness)) v _ _ (λ u w h.
    let first = h.0 in
    leads_weaker (put_page p (with_row bytes row)) w _ K (λ s x k. record {
      goes = goes_both shape (byte_of p) (page_of p) v w x first k.0;
      fullness = fullness;
      low = low_fullness (free_count bytes - (length row + 2));
      byte = (k.0).most.bytes p (page_in shape w.now p first.file inside) (λ c. c) ∙ h.1 ∙ ap (λ n. with_fullness n fullness) same;
    }) (page_goes shape (resource.Page (record { 0 = p })) p 0 (with_row bytes row) w inside (inr ordinary) first.file))
    (pfs_goes shape p (with_fullness b fullness) v inside f))))

-- the step is on the table alone, leaves maps clean and SGAM exact, and touches no extent's part
record Inserts (shape : FileShape) (row : CatalogRow) (v w : View) : Type 0 where
  stays : StaysClean shape.geometry v.now w.now row.id
  exact : HasExactSgam shape.geometry v.now → HasExactSgam shape.geometry w.now
  left : LeavesAllParts shape.geometry v.now w.now row.id (taken_extents w)

filled_inserts : (v : View) (row : CatalogRow) (p : ℕ) (w : View) → IsTable v.shape v row → IsTrue (is_ordinary v.shape.geometry p) → IsAllocatedTo v.shape.geometry v.now row p → Fills v.shape p v w
    → Inserts v.shape row v w
filled_inserts v row p w table ordinary (inl slot) fills =
    let g = v.shape.geometry in
    let goes = fills.goes in
    let inside = inside_below (length v.now) p slot.1.1 in
    let good = (goods g v.now table.start (p / 8) (extent_below g v.now p table.start inside)).pages p refl in
    let old = good.used ordinary (record { object = row.id; place = slot.0 }) (row, table.object, refl, inl slot.1) in
    let sets : ChangesSinglePage g v.now w.now row p = record {
      object = table.object;
      slot = slot.0;
      holds = slot.1;
      ordinary = ordinary;
      most = goes.most;
      byte = subst (λ b. Fits b Single) (sym fills.byte) (single_fits (pfs_byte g v.now p) slot.0 fills.fullness slot.1.0.0 fills.low old);
    } in record {
      stays = single_page_clean g v.now w.now row p table.start sets;
      exact = λ exact. filled_exact g v.now w.now row p table.start sets exact;
      left = all_wider g v.now w.now row.id (λ e. ⊥) (taken_extents w) (λ e c. absurd c) (single_page_parts g v.now w.now row p table.start sets);
    }
filled_inserts v row p w table ordinary (inr marked) fills =
    let g = v.shape.geometry in
    let goes = fills.goes in
    let good = (goods g v.now table.start (p / 8) (extent_below g v.now p table.start marked.0)).pages p refl in
    let old = good.marked ordinary (row.id, (row, table.object, refl, marked.1)) in
    let sets : ChangesMarkedPage g v.now w.now row p = record {
      object = table.object;
      inside = marked.0;
      ordinary = ordinary;
      marked = marked.1;
      most = goes.most;
      byte = subst FitsMark (sym fills.byte) (mark_fits (pfs_byte g v.now p) fills.fullness fills.low marked.2 old);
    } in record {
      stays = marked_page_clean g v.now w.now row p table.start sets;
      exact = λ exact. marked_exact g v.now w.now row p table.start sets exact;
      left = all_wider g v.now w.now row.id (λ e. ⊥) (taken_extents w) (λ e c. absurd c) (marked_page_parts g v.now w.now row p table.start sets);
    }

-- ---- which page it is

-- the first of a list that is found is what each finds
first_each : (Q : ℕ → Type 0) (try : ℕ → Plan (Option ℕ)) (xs : List ℕ) (v : View) → ((x : ℕ) → Contains xs x → Reads (try x) v (IfFound Q)) → Reads (first_of try xs) v (IfFound Q)
unfolding first_of
first_each Q try [] v each = leads_give None v _ (refl, tt)
first_each Q try (x ∷ xs) v each =
    leads_then (try x) (λ found. or_later found (first_of try xs)) v _
    (leads_weaker (try x) v (λ y w. (w ≡ v) × IfFound Q y) _
    (λ found w e. by_found found w e.0 e.1 (first_each Q try xs v (λ y there. each y (cons_there x xs y there)))) (each x (cons_here x xs)))
  where
    by_found : (found : Option ℕ) (w : View) → w ≡ v → IfFound Q found → Reads (first_of try xs) v (IfFound Q) → Leads (or_later found (first_of try xs)) w (λ y u. (u ≡ v) × IfFound Q y)
    by_found None w e f rest = subst (λ u. Leads (first_of try xs) u (λ y z. (z ≡ v) × IfFound Q y)) (sym e) rest
    by_found (Some q) w e f rest = leads_give (Some q) w (λ y u. (u ≡ v) × IfFound Q y) (e, f)

-- a page with room is one that objects may own
room_found : (shape : FileShape) (row : CatalogRow) (size p : ℕ) (v : View) → Reads (room_on shape row size p) v (IfFound (λ q. (q ≡ p) × (is_ordinary shape.geometry q ≡ true)))
room_found shape row size p v =
    let Q : ℕ → Type 0 = λ q. (q ≡ p) × (is_ordinary shape.geometry q ≡ true) in
    let full : View → Bool = λ view. is_ordinary shape.geometry p && (pfs_byte shape.geometry view.now p % 8 == 4) in
    let read : Plan (Option ℕ) = heap_page shape row p then (λ bytes. give (if has_room_for bytes size then Some p else None)) in
    reads_then (sees full) (λ (b : Bool). if b then give None else read) v Any (IfFound Q) (sees_reads full v Any tt) (λ b t.
    cond_both b (give None) read (λ plan. Reads plan v (IfFound Q)) (λ e. give_reads None v (IfFound Q) tt) (λ e.
    reads_then (heap_page shape row p) (λ bytes. give (if has_room_for bytes size then Some p else None)) v (λ bytes. is_ordinary shape.geometry p ≡ true) (IfFound Q) (page_reads shape row p v)
    (λ bytes ordinary. give_reads (if has_room_for bytes size then Some p else None) v (IfFound Q)
    (cond_both (has_room_for bytes size) (Some p) None (IfFound Q) (λ fits. (refl, ordinary)) (λ none. tt)))))

-- the pages that INSERT reads are allocated to the table
pages_read : (row : CatalogRow) (v : View) → 0 < v.shape.pages → length v.now ≡ v.shape.pages
    → Reads (table_pages v.shape row) v (λ pages. (p : ℕ) → Contains pages p → IsAllocatedTo v.shape.geometry v.now row p)
pages_read row v some long =
    let K : List ℕ → Type 0 = λ pages. (p : ℕ) → Contains pages p → IsAllocatedTo v.shape.geometry v.now row p in
    reads_then (chain_of v.shape row) _ v (IsChain v row) K (chain_reads row v some long) (λ chain is.
    reads_then (sees (byte_pages v.shape chain)) _ v Any K (sees_reads (byte_pages v.shape chain) v Any tt) (λ ps t.
    reads_then (bytes_read v.shape ps) _ v (λ u. (p : ℕ) → Contains ps p → v.other (resource.Byte (record { 0 = p })) ≡ None) K (bytes_unheld v.shape ps v) (λ u unheld.
    sees_reads (object_pages v.shape chain) v K (λ p there. (pages_are_allocated v row is.0 p long is.1).0 (subst (λ c. Contains (object_pages v.shape c v) p) is.2 there)))))

-- ---- the statement

-- what INSERT leaves
pub record InsertsInto (shape : FileShape) (v w : View) : Type 0 where
  pub maps : HasCleanMaps shape.geometry w.now
  pub exact : HasExactSgam shape.geometry v.now → HasExactSgam shape.geometry w.now
  pub parts : ReadsSameUntaken shape.geometry v.now w

-- the page with room gets the row
found_goes : (v : View) (row : CatalogRow) (p : ℕ) (bytes : List ℕ) → IsTable v.shape v row → Took v (resource.Table (record { 0 = row.id })) → IsTrue (is_ordinary v.shape.geometry p)
    → IsAllocatedTo v.shape.geometry v.now row p → p < v.shape.pages → Leads (row_put v.shape p bytes) v (λ u w. InsertsInto v.shape v w)
found_goes v row p bytes table taken ordinary allocated inside =
    leads_weaker (row_put v.shape p bytes) v _ _ (λ u w fills.
    let does = filled_inserts v row p w table ordinary allocated fills in
    let stays = does.stays in
    let goes = fills.goes in
    record { maps = stays.maps; exact = does.exact; parts = all_untaken v.shape.geometry v.now w row.id does.left (goes.taken (resource.Table (record { 0 = row.id })) taken) })
    (row_goes v.shape p bytes v inside ordinary table.file)

-- behind the taking of the table
behind : (row : CatalogRow) (key : ℕ) (payload pages : List ℕ) (w : View) → IsTable w.shape w row → Took w (resource.Table (record { 0 = row.id }))
    → ((p : ℕ) → Contains pages p → IsAllocatedTo w.shape.geometry w.now row p)
    → Leads (first_of (room_on w.shape row (length (heap_row key payload))) pages then (λ found.
    found_or found (refuse no_room) then (λ p.
    row_put w.shape p (heap_row key payload) then (λ _.
    give (Rows 1 []))))) w (λ reply x. InsertsInto w.shape w x)
behind row key payload pages w table taken allocated =
    let bytes = heap_row key payload in
    let K : Reply → View → Type 0 = λ reply x. InsertsInto w.shape w x in
    let Q : ℕ → Type 0 = λ p. Contains pages p × (is_ordinary w.shape.geometry p ≡ true) in
    leads_from (first_of (room_on w.shape row (length bytes)) pages) _ w (IfFound Q) K
    (first_each Q (room_on w.shape row (length bytes)) pages w (λ p there. leads_weaker (room_on w.shape row (length bytes) p) w _ _ (λ found x h. (h.0, by_found p there found h.1))
    (room_found w.shape row (length bytes) p w))) (λ found is.
    leads_then (found_or found (refuse no_room)) _ w K (leads_found found (refuse no_room) w _ (λ p same.
    let at : Q p = subst (IfFound Q) same is in
    leads_then (row_put w.shape p bytes) (λ _. give (Rows 1 [])) w K (leads_weaker (row_put w.shape p bytes) w _ _ (λ u x does. leads_give (Rows 1 []) x K does)
    (found_goes w row p bytes table taken at.1 (allocated p at.0) (in_file p (allocated p at.0)))))
    (λ none. leads_refuse no_room w _)))
  where
    by_found : (p : ℕ) → Contains pages p → (found : Option ℕ) → IfFound (λ q. (q ≡ p) × (is_ordinary w.shape.geometry q ≡ true)) found
        → IfFound (λ q. Contains pages q × (is_ordinary w.shape.geometry q ≡ true)) found
    by_found p there None h = tt
    by_found p there (Some q) h = (subst (Contains pages) (sym h.0) there, h.1)

    in_file : (p : ℕ) → IsAllocatedTo w.shape.geometry w.now row p → p < w.shape.pages
    in_file p (inl slot) = let file = table.file in subst (λ n. p < n) file.pages (inside_below (length w.now) p slot.1.1)
    in_file p (inr marked) = let file = table.file in subst (λ n. p < n) file.pages marked.0

pub insert_goes : (v : View) (name : List ℕ) (key : ℕ) (payload : List ℕ) → IsCleanView v → Leads (insert_plan v.shape name key payload) v (λ reply x. InsertsInto v.shape v x)
insert_goes v name key payload clean =
    let file = file_of v clean in
    let form = file.file in
    let low = form.low in
    let K : Reply → View → Type 0 = λ reply x. InsertsInto v.shape v x in
    leads_from (table_of name) _ v (λ row. IsObject v.now row × (row.name ≡ name)) K (table_found name v) (λ row found.
    leads_from (table_pages v.shape row) _ v (λ pages. (p : ℕ) → Contains pages p → IsAllocatedTo v.shape.geometry v.now row p) K (pages_read row v (omega (arith, low)) file.pages) (λ pages allocated.
    leads_then (take (resource.Table (record { 0 = row.id }))) _ v K (leads_weaker (take (resource.Table (record { 0 = row.id }))) v _ _ (λ u w h.
    let taken = h.0 in
    let here : IsTable v.shape w row = record {
      file = taken.file;
      start = subst (IsStart v.shape.geometry) (sym h.1) (start_of v clean);
      object = subst (λ image. IsObject image row) (sym h.1) found.0;
    } in
    taken_on v w row key payload pages h.1 taken.same
    (behind row key payload pages w (subst (λ s. IsTable s w row) (sym taken.same) here) h.3
    (λ p there. subst (λ s. IsAllocatedTo s.geometry w.now row p) (sym taken.same) (subst (λ image. IsAllocatedTo v.shape.geometry image row p) (sym h.1) (allocated p there)))))
    (take_goes v.shape (resource.Table (record { 0 = row.id })) v file))))
  where
    -- the view whose table is taken has the same image and shape
    taken_on : (v w : View) (row : CatalogRow) (key : ℕ) (payload pages : List ℕ) → w.now ≡ v.now → w.shape ≡ v.shape
        → Leads (first_of (room_on w.shape row (length (heap_row key payload))) pages then (λ found.
        found_or found (refuse no_room) then (λ p.
        row_put w.shape p (heap_row key payload) then (λ _.
        give (Rows 1 []))))) w (λ reply x. InsertsInto w.shape w x)
        → Leads (first_of (room_on v.shape row (length (heap_row key payload))) pages then (λ found.
        found_or found (refuse no_room) then (λ p.
        row_put v.shape p (heap_row key payload) then (λ _.
        give (Rows 1 []))))) w (λ reply x. InsertsInto v.shape v x)
    taken_on v w row key payload pages now shape leads =
        let plan : FileShape → Plan Reply = λ s. first_of (room_on s row (length (heap_row key payload))) pages then (λ found.
        found_or found (refuse no_room) then (λ p.
        row_put s p (heap_row key payload) then (λ _.
        give (Rows 1 [])))) in
        leads_weaker (plan v.shape) w _ _ (λ reply x does. record {
          maps = does.maps;
          exact = λ exact. does.exact (subst (HasExactSgam v.shape.geometry) (sym now) exact);
          parts = subst (λ image. ReadsSameUntaken v.shape.geometry image x) now does.parts;
        }) (subst (λ s. Leads (plan s) w (λ reply x. InsertsInto s w x)) shape leads)
