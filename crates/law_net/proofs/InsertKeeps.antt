-- INSERT leaves a view that differs only where what guards it is held or taken.
use Rattle.std.proofs.Common.{◌≡◌, ℕ, ◌+◌, ◌-◌, ◌/◌, ◌<◌, ◌≤◌, true, List, [], ◌∷◌, length, None, sym, ◌∙◌, subst}
use Rattle.std.proofs.lemmas.Bool.{cond_both}
use Rattle.spec_file.specs.declared.data.ObjId.{ObjId}
use Rattle.spec_file.specs.declared.data.Resource.{Resource}
use Rattle.spec_file.specs.declared.data.Resource.TheVariants as resource
use Rattle.spec_log.specs.declared.item.Cell.{Cell}
use Rattle.spec_file.specs.Image.{page}
use Rattle.spec_file.specs.Places.{pfs_page, pfs_place}
use Rattle.spec_file.specs.Pfs.{fullness_of}
use Rattle.spec_file.specs.Roles.{is_ordinary}
use Rattle.spec_chain.specs.Uses.{pfs_byte}
use Rattle.spec_plan.specs.Refusals.{no_room}
use Rattle.spec_plan.specs.Rows.{heap_row, with_row, free_count, with_fullness}
use Rattle.spec_words.specs.NetChanges.{FileShape}
use Rattle.spec_words.specs.Views.{View}
use Rattle.spec_words.specs.Takes.{is_among}
use Rattle.spec_script.specs.declared.reply.Reply.{Reply}
use Rattle.spec_script.specs.declared.reply.Reply.TheVariants.{Rows}
use Rattle.spec_words.specs.Words.{refuse, take, write, put_pfs, found_or, first_of, with_taken}
use Rattle.spec_words.specs.Tables.{table_of, table_pages}
use Rattle.spec_words.specs.Heaps.{room_on, row_put, insert_plan}
use Rattle.law_net.proofs.ReadingLeaves.{table_reads, table_pages_reads, Inside, IsFoundPage, room_reads, first_reads}
use Rattle.law_net.proofs.GoodViews.{IsGuardedCell, IsPlace, place_may, good_taken, good_written, taken_mine, page_cell, pfs_cell}
use Rattle.law_net.specs.GoodViews.{MayTake, IsGoodView, Leads}
use Rattle.law_net.proofs.WordLaws.{leads_then, leads_give, leads_refuse, leads_sees, leads_take, leads_write, leads_found, leads_weaker}
use Rattle.law_net.proofs.RowBytes.{Low, low_bytes, bytes_low, low_with_row, low_row, low_fullness}

-- a view, of this shape, that is good
pub record IsGoodOf (shape : FileShape) (v : View) : Type 0 where
  pub same : v.shape ≡ shape
  pub good : IsGoodView v

good_of_taken : (shape : FileShape) (r : Resource) (v : View) → v.other r ≡ None → MayTake v r → IsGoodOf shape v → IsGoodOf shape (with_taken r v)
good_of_taken shape r v free may g = record {
  same = cond_both (is_among v.taken r) v (record v { taken = r ∷ v.taken }) (λ w. w.shape ≡ shape) (λ e. g.same) (λ e. g.same);
  good = good_taken r v free may g.good;
}

-- a write that its resource guards keeps what is good
pub write_keeps : (shape : FileShape) (r : Resource) (cell : Cell) (bytes : List ℕ) (v : View) → IsGuardedCell shape r cell bytes → IsGoodOf shape v →
    Leads (write r cell bytes) v (λ u w. IsGoodOf shape w)
write_keeps shape r cell bytes v fits g =
    leads_write r cell bytes v (λ u w. IsGoodOf shape w) (λ free.
    let t = good_of_taken shape r v free (place_may r v (subst (λ s. IsPlace s r) (sym g.same) fits.fits)) g in record {
      same = t.same;
      good = good_written r cell bytes (with_taken r v) (subst (λ s. IsGuardedCell s r cell bytes) (sym t.same) fits) (taken_mine r v) t.good;
    })

pub take_keeps : (shape : FileShape) (r : Resource) (v : View) → MayTake v r → IsGoodOf shape v → Leads (take r) v (λ u w. IsGoodOf shape w)
take_keeps shape r v may g = leads_take r v (λ u w. IsGoodOf shape w) (λ free. good_of_taken shape r v free may g)

-- an extent of the file is taken
pub extent_taken : (shape : FileShape) (e : ℕ) (v : View) → e < shape.pages / 8 → IsGoodOf shape v →
    Leads (take (resource.Extent (record { 0 = e }))) v (λ u w. IsGoodOf shape w)
extent_taken shape e v lt g = take_keeps shape (resource.Extent (record { 0 = e })) v (subst (λ (s : FileShape). e < s.pages / 8) (sym g.same) lt) g

row_keeps : (shape : FileShape) (p : ℕ) (row : List ℕ) (v : View) → p < shape.pages → is_ordinary shape.geometry p ≡ true → Low row → IsGoodOf shape v →
    Leads (row_put shape p row) v (λ u w. IsGoodOf shape w)
row_keeps shape p row v lt ordinary low g =
    let good = g.good in
    let old = good.after in
    let file = old.file in
    let many = subst (λ (s : FileShape). 16 ≤ s.pages) g.same file.low in
    let byte = pfs_byte shape.geometry v.now p in
    let bytes = page v.now p in
    leads_then _ _ v _ (leads_sees (λ view. pfs_byte shape.geometry view.now p) v _
    (leads_then _ _ v _ (leads_sees (λ view. page view.now p) v _
    (leads_then _ _ v _
    (leads_weaker (put_pfs shape p (with_fullness byte (fullness_of (free_count bytes - (length row + 2))))) v (λ u w. IsGoodOf shape w) _
    (λ u w h. write_keeps shape (resource.Page (record { 0 = p })) _ (with_row bytes row) w
    (page_cell shape p (with_row bytes row) lt ordinary (low_bytes (with_row bytes row) (low_with_row bytes row (bytes_low bytes (old.bytes p)) low))) h)
    (write_keeps shape (resource.Byte (record { 0 = p })) _ (with_fullness byte (fullness_of (free_count bytes - (length row + 2))) ∷ []) v
    (pfs_cell shape p (with_fullness byte (fullness_of (free_count bytes - (length row + 2)))) many lt
    (low_fullness byte (free_count bytes - (length row + 2)) (old.bytes (pfs_page shape.geometry p) (pfs_place shape.geometry p).at))) g))))))

-- no table was taken
abbrev pub HasNoTable : View → Type 0
HasNoTable v = (o : ObjId) → is_among v.taken (resource.Table o) ≡ true → ⊥

-- the first table is taken
pub table_keeps : (shape : FileShape) (id : ℕ) (v : View) → HasNoTable v → IsGoodOf shape v → Leads (take (resource.Table (record { 0 = id }))) v (λ u w. IsGoodOf shape w)
table_keeps shape id v none g = take_keeps shape (resource.Table (record { 0 = id })) v (λ other h. absurd (none other h)) g

-- INSERT keeps what is good
pub insert_keeps : (shape : FileShape) (name : List ℕ) (key : ℕ) (payload : List ℕ) (v : View) → Low payload → HasNoTable v → IsGoodOf shape v →
    Leads (insert_plan shape name key payload) v (λ reply w. IsGoodOf shape w)
insert_keeps shape name key payload v low none g =
    let bytes = heap_row key payload in
    let K : Reply → View → Type 0 = λ reply w. IsGoodOf shape w in
    leads_then (table_of name) _ v K (leads_weaker (table_of name) v (λ x w. (w ≡ v) × Unit {0}) _ (λ row w e.
    leads_then (table_pages shape row) _ w K (leads_weaker (table_pages shape row) w (λ x u. (u ≡ w) × Inside shape x) _ (λ pages u f.
    leads_then (take (resource.Table (record { 0 = row.id }))) _ u K (leads_weaker (take (resource.Table (record { 0 = row.id }))) u (λ x y. IsGoodOf shape y) _ (λ x y h.
    leads_then (first_of (room_on shape row (length bytes)) pages) _ y K (leads_weaker (first_of (room_on shape row (length bytes)) pages) y (λ x z. (z ≡ y) × IsFoundPage shape x) _ (λ found z k.
    leads_then (found_or found (refuse no_room)) _ z K (leads_found found (refuse no_room) z _
    (λ p is.
    let at : (p < shape.pages) × (is_ordinary shape.geometry p ≡ true) = subst (IsFoundPage shape) is k.1 in
    leads_then (row_put shape p bytes) _ z K (leads_weaker (row_put shape p bytes) z (λ x q. IsGoodOf shape q) _ (λ x q good. leads_give (Rows 1 []) q K good)
    (row_keeps shape p bytes z at.0 at.1 (low_row key payload low) (subst (IsGoodOf shape) (sym k.0) h))))
    (λ none. leads_refuse no_room z _)))
    (first_reads shape (room_on shape row (length bytes)) pages y f.1 (λ p lt. room_reads shape row (length bytes) p y lt))))
    (table_keeps shape row.id u (subst HasNoTable (sym (f.0 ∙ e.0)) none) (subst (IsGoodOf shape) (sym (f.0 ∙ e.0)) g))))
    (table_pages_reads shape row w)))
    (table_reads name v))
