-- DROP drops the object of its name.
use Rattle.std.proofs.Common.{◌≡◌, ◌⊎◌, ℕ, ◌+◌, ◌*◌, ◌/◌, ◌<◌, ◌==◌, ◌&&◌, not, Bool, List, [], length, Contains, replicate, Option, Some, None, refl, sym, ap, subst, ◌∙◌, inl, ⊎_elim, arith}
use Rattle.std.specs.List.{range_with_len}
use Rattle.std.proofs.lemmas.Bool.{and_parts, and_from, eqb-true, eq-eqb, not-true, not_from_false}
use Rattle.spec_file.specs.declared.data.Resource.{Resource}
use Rattle.spec_file.specs.declared.data.Resource.TheVariants as resource
use Rattle.spec_file.specs.declared.geometry.Geometry.{Geometry}
use Rattle.spec_file.specs.Catalog.{entry_count, entry_at, entry_id, is_zeros, IsUsed}
use Rattle.spec_file.specs.CatalogRows.{CatalogRow, row_of_entry, rows_of}
use Rattle.spec_file.specs.Image.{Image, page}
use Rattle.spec_file.specs.Places.{extent_count}
use Rattle.spec_script.specs.declared.reply.Reply.{Reply}
use Rattle.spec_script.specs.declared.reply.Reply.TheVariants.{Done}
use Rattle.spec_chain.specs.Chains.{IsObject}
use Rattle.spec_chain.specs.Marks.{IsMarked}
use Rattle.spec_check.proofs.Members.{filter_in, range_in}
use Rattle.spec_words.specs.NetChanges.{FileShape}
use Rattle.spec_words.specs.Views.{View, Plan}
use Rattle.spec_words.specs.Words.{◌then◌, give, sees, take}
use Rattle.spec_words.specs.Tables.{table_of}
use Rattle.spec_alloc.specs.Search.{where_found}
use Rattle.spec_alloc.specs.Objects.{entry_of, entry_emptied, pages_dropped}
use Rattle.spec_statements.specs.Objects.{drop_plan}
use Rattle.spec_steps.specs.AtMost.{page_of, either}
use Rattle.spec_steps.specs.Entries.{IsEntrySet}
use Rattle.spec_steps.specs.Tables.{UsesOf, dropped, DropsObject}
use Rattle.spec_log.specs.Cells.{with_bytes}
use Rattle.law_frames.proofs.Held.{IsStart, the_row}
use Rattle.law_tables.proofs.Entries.{stands_from, stands_in}
use Rattle.law_tables.proofs.DroppedObjects.{drop_maps, drop_clean, drop_exact, drop_parts}
use Rattle.law_net.specs.GoodViews.{Leads}
use Rattle.law_net.proofs.WordLaws.{leads_then, leads_give, leads_weaker}
use Rattle.law_alloc.specs.Keeps.{IfFound}
use Rattle.law_alloc.proofs.Searches.{sees_reads, leads_from}
use Rattle.law_alloc.proofs.Singles.{first_kept}
use Rattle.law_kept.specs.Drops.{maps_dropped, GivesBack, DropsTable, DropDrops, DropLeavesMapsClean, DropLeavesFileClean, DropLeavesSgamExact}
use Rattle.law_kept.specs.Parts.{ChangesTaken}
use Rattle.law_kept.specs.Views.{IsCleanView}
use Rattle.law_kept.proofs.Steps.{IsFile, page_in, nine_inside, Took, Goes, goes_both, goes_within, nothing}
use Rattle.law_kept.proofs.Words.{take_goes, page_goes}
use Rattle.law_kept.proofs.Singles.{neither, file_of, start_of}
use Rattle.law_kept.proofs.EntryPages.{entry_set}
use Rattle.law_kept.proofs.ChainLists.{first_there}
use Rattle.law_kept.proofs.ReadTables.{table_found}
use Rattle.law_kept.proofs.Freed.{left_same}
use Rattle.law_kept.proofs.Dropping.{IsTable}
use Rattle.law_kept.proofs.PagesDropped.{TakesBack, pages_give_back}
use Rattle.law_kept.proofs.PartsTaken.{taken_extents, parts_wider, ReadsSameUntaken, untaken_reads}

-- ---- the entry of an object

-- an entry in use has this id
record IsEntryOf (boot : List ℕ) (id i : ℕ) : Type 0 where
  within : i < entry_count
  used : IsUsed boot i
  same : entry_id (entry_at boot i) ≡ id

abbrev has_id : List ℕ → ℕ → ℕ → Bool
has_id boot id i = not (is_zeros (entry_at boot i)) && (entry_id (entry_at boot i) == id)

entry_found : (boot : List ℕ) (id : ℕ) → IfFound (IsEntryOf boot id) (entry_of boot id)
entry_found boot id = first_kept (IsEntryOf boot id) (has_id boot id) entry_count 0 (λ i low high passes.
    let parts = and_parts (not (is_zeros (entry_at boot i))) (entry_id (entry_at boot i) == id) passes in
    record { within = omega (arith, high); used = not-true (is_zeros (entry_at boot i)) parts.0; same = eqb-true (entry_id (entry_at boot i)) id parts.1 })

-- an object of the catalog has one
entry_there : (boot : List ℕ) (row : CatalogRow) → Contains (rows_of boot) row → entry_of boot row.id ≡ None → ⊥
entry_there boot row there none =
    let at = stands_from boot row there in
    let i = at.entry in
    first_there _ i (filter_in (has_id boot row.id) (range_with_len 0 entry_count) i (range_in entry_count i at.inside)
    (and_from (not (is_zeros (entry_at boot i))) (entry_id (entry_at boot i) == row.id) (not_from_false (is_zeros (entry_at boot i)) at.used)
    (eq-eqb (entry_id (entry_at boot i)) row.id (ap (λ (r : CatalogRow). r.id) at.is)))) none

-- ---- the statement

-- what is given back of an object, and then its entry is emptied
drop_made : (shape : FileShape) (row : CatalogRow) (i : ℕ) (v y z b : View) → IsFile shape v.now → IsStart shape.geometry v.now → IsObject v.now row → IsEntryOf (page v.now 9) row.id i
    → Goes shape (maps_dropped shape.geometry v.now row) v y → GivesBack shape.geometry v.now y.now row → Goes shape nothing y z → Goes shape (page_of 9) z b
    → page b.now 9 ≡ with_bytes (page v.now 9) (96 + 40 * i) (replicate 40 0) → DropsObject shape.geometry v.now b.now row
drop_made shape row i v y z b f start object entry gone given taken put is =
    let g = shape.geometry in
    let boot = page v.now 9 in
    let last = goes_both shape nothing (page_of 9) y z b taken put in
    let file = gone.file in
    let inside = λ (p : ℕ) (low : p < length v.now). let there : p < length y.now = subst (λ n. p < n) (sym gone.most.size) low in there in
    let extent = λ (e : ℕ) (low : e < extent_count v.now). let there : e < extent_count y.now = subst (λ n. e < n / 8) (sym gone.most.size) low in there in
    let both = goes_within shape (either (maps_dropped g v.now row) (either nothing (page_of 9))) (dropped g v.now row) v b (record {
      free = λ e c. ⊎_elim (λ c. c) (λ c. absurd (neither c)) c;
      mixed = λ e c. ⊎_elim (λ c. c) (λ c. absurd (neither c)) c;
      bytes = λ p c. ⊎_elim (λ c. c) (λ c. absurd (neither c)) c;
      pages = λ q c. ⊎_elim (λ c. absurd c) (λ c. ⊎_elim (λ c. absurd c) (λ c. c) c) c;
    }) (goes_both shape (maps_dropped g v.now row) (either nothing (page_of 9)) v y b gone last) in record {
      ordinary = given.ordinary;
      most = both.most;
      bytes = λ p low own. last.most.bytes p (inside p low) neither ∙ given.bytes p low own;
      marked = λ e low marked. last.most.free e (extent e low) neither ∙ given.marked e low marked;
      shared = λ e low uses.
          left_same g y.now b.now e (last.most.free e (extent e low) neither) (last.most.mixed e (extent e low) neither)
          (λ q at. last.most.bytes q (inside q (omega (arith, at, low))) neither) (given.shared e low uses);
      place = i;
      empties = record {
        zeros = replicate 40 0;
        set = subst (IsEntrySet i (replicate 40 0) boot) (sym is) (entry_set i (replicate 40 0) boot entry.within refl (f.whole 9 [] (page_in shape v.now 9 f (nine_inside shape v.now f))));
        was_used = entry.used;
        empty = refl;
      };
      is = sym (the_row g v.now row (row_of_entry (entry_at boot i)) start object
          (stands_in boot (row_of_entry (entry_at boot i)) (record { entry = i; inside = entry.within; used = entry.used; is = refl })) entry.same);
    }

-- the object of this name is dropped, and the parts of resources that aren't taken read the same
record DropsSo (g : Geometry) (name : List ℕ) (image : Image) (w : View) : Type 0 where
  drops : DropsTable g name image w.now
  parts : ReadsSameUntaken g image w

-- what DROP does once the table is taken
abbrev dropping : FileShape → CatalogRow → Plan Reply
dropping shape row =
    pages_dropped shape row then (λ _.
    take resource.Catalog then (λ _.
    sees (λ view. entry_of (page view.now 9) row.id) then (λ entry.
    where_found entry entry_emptied then (λ _.
    give Done))))

module _ (name : List ℕ) (row : CatalogRow) (v : View) (table : IsTable v.shape v row) (named : row.name ≡ name) (id_taken : Took v (resource.Table (record { 0 = row.id }))) where
  abbrev DropsIt : Reply → View → Type 0
  DropsIt reply w = DropsSo v.shape.geometry name v.now w

  -- the entry is emptied behind all that
  emptied : (i : ℕ) (y z b : View) → IsEntryOf (page v.now 9) row.id i → Goes v.shape (maps_dropped v.shape.geometry v.now row) v y → GivesBack v.shape.geometry v.now y.now row
      → TakesBack v row y → Goes v.shape nothing y z → Took z resource.Catalog → Goes v.shape (page_of 9) z b
      → page b.now 9 ≡ with_bytes (page v.now 9) (96 + 40 * i) (replicate 40 0) → DropsSo v.shape.geometry name v.now b
  emptied i y z b entry gone given extents taken catalog put is =
      let g = v.shape.geometry in
      let later = λ (r : Resource) (took : Took y r). let still : Took b r = put.taken r (taken.taken r took) in still in
      let drops = drop_made v.shape row i v y z b table.file table.start table.object entry gone given taken put is in record {
        drops = record { row = row; named = named; object = table.object; drops = drops };
        parts = untaken_reads g v.now b row.id
            (parts_wider g v.now b.now row.id (λ e. IsMarked g v.now row e ⊎ UsesOf g v.now row e) (taken_extents b) (λ e low touched. later (resource.Extent (record { 0 = e })) (extents e low touched))
            (drop_parts g v.now b.now row table.start drops)) (later (resource.Table (record { 0 = row.id })) (gone.taken (resource.Table (record { 0 = row.id })) id_taken))
            (put.taken resource.Catalog catalog);
      }

  by_entry : (y z : View) → Goes v.shape (maps_dropped v.shape.geometry v.now row) v y → GivesBack v.shape.geometry v.now y.now row → TakesBack v row y → Goes v.shape nothing y z
      → Took z resource.Catalog → page z.now 9 ≡ page v.now 9
      → (entry : Option ℕ) → entry ≡ entry_of (page v.now 9) row.id → IfFound (IsEntryOf (page v.now 9) row.id) entry
      → Leads (where_found entry entry_emptied) z (λ e b. Leads (give Done) b DropsIt)
  by_entry y z gone given extents taken catalog same None is found = absurd (entry_there (page v.now 9) row table.object (sym is))
  by_entry y z gone given extents taken catalog same (Some i) is found =
      let file = table.file in
      leads_then (entry_emptied i) (λ e. give (Some e)) z _
      (leads_weaker (entry_emptied i) z _ _ (λ u b m. leads_give (Some u) b _ (leads_give Done b DropsIt
      (emptied i y z b found gone given extents taken catalog m.0 (m.1 ∙ ap (λ bytes. with_bytes bytes (96 + 40 * i) (replicate 40 0)) same))))
      (page_goes v.shape resource.Catalog 9 (96 + 40 * i) (replicate 40 0) z (nine_inside v.shape v.now file) (inl refl) taken.file))

  -- the object's pages are given back, and its entry is emptied
  row_goes : Leads (dropping v.shape row) v DropsIt
  row_goes =
      let boot = page v.now 9 in
      leads_then (pages_dropped v.shape row) _ v DropsIt (leads_weaker (pages_dropped v.shape row) v _ _ (λ u y k.
      let gone = k.0 in
      leads_then (take resource.Catalog) _ y DropsIt (leads_weaker (take resource.Catalog) y _ _ (λ s z l.
      let taken = l.0 in
      let same : page z.now 9 ≡ boot = taken.most.pages 9 (inl refl) (λ c. c) ∙ gone.most.pages 9 (inl refl) (λ c. c) in
      leads_from (sees (λ view. entry_of (page view.now 9) row.id)) _ z (λ entry. entry ≡ entry_of boot row.id) DropsIt
      (sees_reads (λ view. entry_of (page view.now 9) row.id) z (λ entry. entry ≡ entry_of boot row.id) (ap (λ bytes. entry_of bytes row.id) same)) (λ entry is.
      leads_then (where_found entry entry_emptied) (λ _. give Done) z DropsIt
      (by_entry y z gone k.1 k.2 taken l.3 same entry is (subst (IfFound (IsEntryOf boot row.id)) (sym is) (entry_found boot row.id)))))
      (take_goes v.shape resource.Catalog y gone.file)))
      (pages_give_back v row table))

drop_goes : (v : View) (name : List ℕ) → IsCleanView v → Leads (drop_plan v.shape name) v (λ reply w. DropsSo v.shape.geometry name v.now w)
drop_goes v name clean =
    let g = v.shape.geometry in
    let K : Reply → View → Type 0 = λ reply w. DropsSo g name v.now w in
    leads_from (table_of name) _ v (λ row. IsObject v.now row × (row.name ≡ name)) K (table_found name v) (λ row found.
    leads_then (take (resource.Table (record { 0 = row.id }))) _ v K (leads_weaker (take (resource.Table (record { 0 = row.id }))) v _ _ (λ u w h.
    let taken = h.0 in
    let here : IsTable v.shape w row = record {
      file = taken.file;
      start = subst (IsStart g) (sym h.1) (start_of v clean);
      object = subst (λ image. IsObject image row) (sym h.1) found.0;
    } in
    subst (λ image. Leads (dropping v.shape row) w (λ reply z. DropsSo g name image z)) h.1
    (subst (λ s. Leads (dropping s row) w (λ reply z. DropsSo s.geometry name w.now z)) taken.same
    (row_goes name row w (subst (λ s. IsTable s w row) (sym taken.same) here) found.1 h.3)))
    (take_goes v.shape (resource.Table (record { 0 = row.id })) v (file_of v clean))))

pub drop_drops : DropDrops
drop_drops v name clean = leads_weaker (drop_plan v.shape name) v _ _ (λ reply w h. h.drops) (drop_goes v name clean)

pub drop_changes_taken : (v : View) (name : List ℕ) → IsCleanView v → Leads (drop_plan v.shape name) v (λ reply w. ChangesTaken v w)
drop_changes_taken v name clean = leads_weaker (drop_plan v.shape name) v _ _ (λ reply w h. h.parts) (drop_goes v name clean)

pub drop_leaves_maps : DropLeavesMapsClean
drop_leaves_maps v name clean =
    leads_weaker (drop_plan v.shape name) v _ _ (λ reply w h.
    let stays = drop_maps v.shape.geometry v.now w.now h.row (start_of v clean) h.drops in stays.maps) (drop_drops v name clean)

pub drop_leaves_file : DropLeavesFileClean
drop_leaves_file v name clean whole =
    leads_weaker (drop_plan v.shape name) v _ _ (λ reply w h. drop_clean v.shape.geometry v.now w.now h.row (start_of v clean) h.drops whole) (drop_drops v name clean)

pub drop_leaves_sgam : DropLeavesSgamExact
drop_leaves_sgam v name clean exact =
    leads_weaker (drop_plan v.shape name) v _ _ (λ reply w h. drop_exact v.shape.geometry v.now w.now h.row (start_of v clean) h.drops exact) (drop_drops v name clean)
