-- What only reads leaves the view as it was: the words of reading, the pages of a table, COUNT and SELECT.
use Rattle.std.proofs.Common.{◌≡◌, ℕ, zero, suc, ◌+◌, ◌%◌, ◌<◌, ◌≤◌, Bool, true, eqb, not, ◌||◌, ◌&&◌, List, [], ◌∷◌, ◌++◌, length, Option, Some, None, refl, sym, ◌∙◌, subst, arith}
use Rattle.std.specs.Prelude.{All, if◌then◌else◌, filter}
use Rattle.std.specs.List.{range_with_len}
use Rattle.std.proofs.lemmas.Bool.{and_parts, cond_both}
use Rattle.spec_file.specs.declared.data.Resource.TheVariants as resource
use Rattle.spec_file.specs.Image.{page}
use Rattle.spec_file.specs.Header.{says}
use Rattle.spec_file.specs.Places.{pfs_page, is_inside}
use Rattle.spec_file.specs.CatalogRows.{CatalogRow, rows_of}
use Rattle.spec_file.specs.Roles.{is_ordinary}
use Rattle.spec_rows.specs.Slots.{slot_count}
use Rattle.std.specs.Prelude.{sum_by, flat_map}
use Rattle.law_net.specs.Reading.{TablePagesLeaveView, CountLeavesView, SelectLeavesView}
use Rattle.spec_chain.specs.Chains.{is_last, next_of}
use Rattle.spec_chain.specs.Uses.{pfs_byte, is_allocated}
use Rattle.spec_plan.specs.Refusals.{bad_page, no_table}
use Rattle.spec_plan.specs.Reading.{is_catalog, named_among, are_slots_inside, is_single, is_marked}
use Rattle.spec_plan.specs.Rows.{passes_page, has_room_for, payloads_of}
use Rattle.spec_words.specs.NetChanges.{FileShape}
use Rattle.spec_words.specs.Views.{View, Plan}
use Rattle.spec_script.specs.declared.reply.Reply.{Reply}
use Rattle.spec_script.specs.declared.reply.Reply.TheVariants.{Rows}
use Rattle.spec_words.specs.Words.{all_of, ◌then◌, give, refuse, sees, or_later, first_of}
use Rattle.spec_words.specs.Tables.{table_of, is_chain_page, chain_from, chain_of, bytes_read, byte_pages, object_pages, table_pages}
use Rattle.spec_words.specs.Orders.{in_rising_order}
use Rattle.spec_words.specs.Heaps.{heap_page, room_on, rows_found}
use Rattle.law_net.specs.GoodViews.{LookLeavesView, ReachLeavesView, HeldLeavesView, GoodLeavesView, Leads}
use Rattle.law_net.proofs.WordLaws.{leads_reach, leads_all, leads_then, leads_give, leads_refuse, leads_sees, leads_held, leads_good, leads_look, leads_found, leads_weaker, leads_each}

-- what only reads leaves the view
abbrev pub Reads : {A : Type 0} → Plan A → View → (A → Type 0) → Type 0
Reads plan v K = Leads plan v (λ x w. (w ≡ v) × K x)

pub look_leaves_view : LookLeavesView
look_leaves_view v r p = leads_look r p v _ (λ free. (refl, refl, free))

pub reach_leaves_view : ReachLeavesView
reach_leaves_view v p = leads_reach p v _ (refl, refl)

pub held_leaves_view : HeldLeavesView
held_leaves_view v r = leads_held r v _ (λ free. (refl, free))

pub good_leaves_view : GoodLeavesView
good_leaves_view v good p = leads_good good p v _ (λ e. (refl, e))

pub table_reads : (name : List ℕ) (v : View) → Reads (table_of name) v (λ row. Unit {0})
table_reads name v =
    leads_then _ _ v _ (leads_look resource.Catalog 9 v _ (λ free.
    leads_then _ _ v _ (leads_good (is_catalog (page v.now 9)) 9 v _ (λ good.
    leads_then _ _ v _ (leads_found (named_among (rows_of (page v.now 9)) name) (refuse (no_table name)) v _
    (λ row e. leads_then _ _ v _ (leads_held (resource.Table (record { 0 = row.id })) v _ (λ unheld. leads_give row v _ (refl, tt))))
    (λ e. leads_refuse (no_table name) v _))))))

chain_reads : (n : ℕ) (shape : FileShape) (row : CatalogRow) (met : List ℕ) (from p : ℕ) (v : View) → Reads (chain_from n shape row met from p) v (λ chain. Unit {0})
chain_reads zero shape row met from p v = leads_refuse (bad_page p) v _
chain_reads (suc n) shape row met from p v =
    cond_both (is_last (length met) p) (give met) _ (λ plan. Reads plan v (λ chain. Unit {0}))
    (λ e. leads_give met v _ (refl, tt))
    (λ e.
    leads_then _ _ v _ (leads_good (is_inside shape.pages p) from v _ (λ inside.
    leads_then _ _ v _ (leads_look (resource.Page (record { 0 = p })) p v _ (λ free.
    leads_then _ _ v _ (leads_good (is_chain_page shape row met p (page v.now p)) p v _ (λ good.
    leads_then _ _ v _ (leads_sees (λ view. not (eqb (length met) 0) || are_slots_inside view.now p) v _
    (leads_then _ _ v _ (leads_good (not (eqb (length met) 0) || are_slots_inside v.now p) p v _ (λ slots.
    chain_reads n shape row (met ++ p ∷ []) p (next_of (page v.now p)) v)))))))))))

bytes_reads : (shape : FileShape) (ps : List ℕ) (v : View) → Reads (bytes_read shape ps) v (λ u. Unit {0})
bytes_reads shape ps v =
    leads_weaker (bytes_read shape ps) v (λ u w. w ≡ v) _ (λ u w e. (e, tt))
    (leads_each _ ps (λ w. w ≡ v) v (λ p w e.
    leads_then _ _ w _ (leads_look (resource.Byte (record { 0 = p })) (pfs_page shape.geometry p) w _ (λ free.
    leads_good (says 11 (pfs_page shape.geometry p) (page w.now (pfs_page shape.geometry p))) (pfs_page shape.geometry p) w _ (λ good. e)))) refl)

-- pages of the file
abbrev pub Inside : FileShape → List ℕ → Type 0
Inside shape [] = Unit {0}
Inside shape (p ∷ ps) = (p < shape.pages) × Inside shape ps

inside_filter : (shape : FileShape) (test : ℕ → Bool) (n lo : ℕ) → lo + n ≤ shape.pages → Inside shape (filter test (range_with_len lo n))
inside_filter shape test zero lo le = tt
inside_filter shape test (suc n) lo le =
    let rest = filter test (range_with_len (lo + 1) n) in
    let ih = inside_filter shape test n (lo + 1) (omega (arith, le)) in
    cond_both (test lo) (lo ∷ rest) rest (Inside shape) (λ e. (omega (arith, le), ih)) (λ e. ih)

pub table_pages_reads : (shape : FileShape) (row : CatalogRow) (v : View) → Reads (table_pages shape row) v (Inside shape)
table_pages_reads shape row v =
    leads_then (chain_of shape row) _ v _ (leads_weaker (chain_of shape row) v (λ x w. (w ≡ v) × Unit {0}) _ (λ chain w e.
    subst (λ u. Leads (sees (byte_pages shape chain) then (λ ps. bytes_read shape ps then (λ z. sees (object_pages shape chain)))) u (λ x y. (y ≡ v) × Inside shape x)) (sym e.0)
    (leads_then _ _ v _ (leads_sees (byte_pages shape chain) v _
    (leads_then _ _ v _ (leads_weaker (bytes_read shape (byte_pages shape chain v)) v (λ x y. (y ≡ v) × Unit {0}) _ (λ u y f.
    subst (λ u. Leads (sees (object_pages shape chain)) u (λ x y. (y ≡ v) × Inside shape x)) (sym f.0)
    (leads_sees (object_pages shape chain) v _ (
      refl,
      inside_filter shape (λ p. is_single v.now chain p || (is_marked shape.geometry v.now chain p && is_allocated shape.geometry v.now p)) shape.pages 0 (omega arith),
    )))
    (bytes_reads shape (byte_pages shape chain v) v))))))
    (chain_reads (suc (suc shape.pages)) shape row [] 9 row.first_iam v))

all_inside : (shape : FileShape) (ps : List ℕ) → Inside shape ps → All (λ p. p < shape.pages) ps
all_inside shape [] h k d lt = absurd (omega (arith, lt))
all_inside shape (p ∷ ps) h zero d lt = h.0
all_inside shape (p ∷ ps) h (suc k) d lt = all_inside shape ps h.1 k d (omega (arith, lt))

pub table_pages_leave_view : TablePagesLeaveView
table_pages_leave_view shape row v =
    leads_weaker (table_pages shape row) v (λ pages w. (w ≡ v) × Inside shape pages) (λ pages w. (w ≡ v) × All (λ p. p < shape.pages) pages)
    (λ pages w h. (h.0, all_inside shape pages h.1)) (table_pages_reads shape row v)

-- a page that is found is one of the file that objects may own
abbrev pub IsFoundPage : FileShape → Option ℕ → Type 0
IsFoundPage shape None = Unit {0}
IsFoundPage shape (Some p) = (p < shape.pages) × (is_ordinary shape.geometry p ≡ true)

pub page_reads : (shape : FileShape) (row : CatalogRow) (p : ℕ) (v : View) → Reads (heap_page shape row p) v (λ bytes. is_ordinary shape.geometry p ≡ true)
page_reads shape row p v =
    leads_then _ _ v _ (leads_look (resource.Page (record { 0 = p })) p v _ (λ free.
    leads_then _ _ v _ (leads_good (is_ordinary shape.geometry p && passes_page p row.id (page v.now p)) p v _ (λ good.
    leads_give (page v.now p) v _ (refl, (and_parts (is_ordinary shape.geometry p) _ good).0)))))

pub room_reads : (shape : FileShape) (row : CatalogRow) (size p : ℕ) (v : View) → p < shape.pages → Reads (room_on shape row size p) v (IsFoundPage shape)
room_reads shape row size p v lt =
    leads_then _ _ v _ (leads_sees _ v _
    (cond_both (is_ordinary shape.geometry p && eqb (pfs_byte shape.geometry v.now p % 8) 4) (give None) _ (λ plan. Reads plan v (IsFoundPage shape))
    (λ full. leads_give None v _ (refl, tt))
    (λ e.
    leads_then (heap_page shape row p) _ v _ (leads_weaker (heap_page shape row p) v (λ x w. (w ≡ v) × (is_ordinary shape.geometry p ≡ true)) _
    (λ bytes w h. leads_give (if has_room_for bytes size then Some p else None) w _ (
      h.0,
      cond_both (has_room_for bytes size) (Some p) None (IsFoundPage shape) (λ room. (lt, h.1)) (λ none. tt),
    ))
    (page_reads shape row p v)))))

pub first_reads : (shape : FileShape) (try : ℕ → Plan (Option ℕ)) (ps : List ℕ) (v : View) → Inside shape ps →
    ((p : ℕ) → p < shape.pages → Reads (try p) v (IsFoundPage shape)) → Reads (first_of try ps) v (IsFoundPage shape)
unfolding first_of
first_reads shape try [] v inside each = leads_give None v _ (refl, tt)
first_reads shape try (p ∷ ps) v inside each =
    leads_then (try p) _ v _ (leads_weaker (try p) v (λ x w. (w ≡ v) × IsFoundPage shape x) _ (λ found w e. by_found found w e.0 e.1 (first_reads shape try ps v inside.1 each)) (each p inside.0))
  where
    by_found : (found : Option ℕ) (w : View) → w ≡ v → IsFoundPage shape found → Reads (first_of try ps) v (IsFoundPage shape) →
        Leads (or_later found (first_of try ps)) w (λ x u. (u ≡ v) × IsFoundPage shape x)
    by_found None w e f ih = subst (λ u. Leads (first_of try ps) u (λ x y. (y ≡ v) × IsFoundPage shape x)) (sym e) ih
    by_found (Some q) w e f ih = leads_give (Some q) w _ (e, f)

-- what is answered of all pages of a table leaves the view
answer_leaves_view : (answer : List (List ℕ) → Reply) (shape : FileShape) (name : List ℕ) (v : View) →
    Leads (table_of name then (λ row. table_pages shape row then (λ pages. all_of (heap_page shape row) pages then (λ found. give (answer found))))) v (λ reply w. w ≡ v)
answer_leaves_view answer shape name v =
    let K : Reply → View → Type 0 = λ reply w. w ≡ v in
    leads_then (table_of name) _ v K (leads_weaker (table_of name) v (λ x w. (w ≡ v) × Unit {0}) _ (λ row w e.
    leads_then (table_pages shape row) _ w K (leads_weaker (table_pages shape row) w (λ x u. (u ≡ w) × Inside shape x) _ (λ pages u f.
    leads_then (all_of (heap_page shape row) pages) _ u K (leads_weaker (all_of (heap_page shape row) pages) u (λ all y. y ≡ v) _ (λ found y h. leads_give (answer found) y K h)
    (leads_all (heap_page shape row) pages (λ y. y ≡ v) u
    (λ p y h. leads_weaker (heap_page shape row p) y (λ bytes z. (z ≡ y) × (is_ordinary shape.geometry p ≡ true)) (λ bytes z. z ≡ v) (λ bytes z k. k.0 ∙ h) (page_reads shape row p y)) (f.0 ∙ e.0))))
    (table_pages_reads shape row w)))
    (table_reads name v))

pub count_leaves_view : CountLeavesView
count_leaves_view shape name v = answer_leaves_view (λ found. Rows (sum_by slot_count found) []) shape name v

pub select_leaves_view : SelectLeavesView
select_leaves_view shape name key v = answer_leaves_view (λ found. rows_found (in_rising_order (flat_map (payloads_of key) found))) shape name v
