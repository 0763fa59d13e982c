-- An id names one object, and an error of a tree is that of a clustered table of the catalog.
use Rattle.std.proofs.Common.{◌≡◌, ℕ, ◌<◌, List, map, filter, Contains, sym, ap, ◌∙◌, subst, ⊎_elim}
use Rattle.std.specs.List.{range_with_len}
use Rattle.std.proofs.lemmas.Bool.{cases_order, not-true}
use Rattle.spec_check.proofs.Members.{map_from, filter_from, range_from}
use Rattle.spec_check.specs.declared.report.CheckError.{CheckError}
use Rattle.spec_file.specs.Catalog.{entry_at, entry_id, is_zeros, entry_count, PassesCatalog, IsUsed}
use Rattle.spec_file.specs.CatalogRows.{CatalogRow, row_of_entry, is_used, rows_before, rows_of}
use Rattle.spec_tree.specs.Known.{Known, IsTable}
use Rattle.spec_tree.specs.ParentRules.{tree_error, row_error, HasWrongFirstKey, HasWrongPrev}
use Rattle.spec_tree.specs.NeighbourRules.{HasNoPlace, IsChildNowhere}
use Rattle.spec_tree.specs.Trees.{StandsAt}

-- the entry of an object
record Entry (boot : List ℕ) (n : ℕ) (r : CatalogRow) : Type 0 where
  at : ℕ
  within : at < n
  used : IsUsed boot at
  is : row_of_entry (entry_at boot at) ≡ r

entry_from : (boot : List ℕ) (n : ℕ) (r : CatalogRow) → Contains (rows_before boot n) r → Entry boot n r
entry_from boot n r h =
    let e = map_from row_of_entry (filter is_used (map (entry_at boot) (range_with_len 0 n))) r h in
    let f = filter_from is_used (map (entry_at boot) (range_with_len 0 n)) e.0 e.1 in
    let i = map_from (entry_at boot) (range_with_len 0 n) e.0 f.0 in
    record {
      at = i.0;
      within = range_from n i.0 i.1;
      used = not-true (is_zeros (entry_at boot i.0)) (ap (λ b. is_used b) i.2 ∙ f.1);
      is = ap row_of_entry i.2 ∙ e.2;
    }

object_entry : (boot : List ℕ) (r : CatalogRow) → Contains (rows_of boot) r → Entry boot entry_count r
unfolding rows_of
object_entry boot r h = entry_from boot entry_count r h

pub object_once : (boot : List ℕ) → ((PassesCatalog boot → ⊥) → ⊥) → (r s : CatalogRow) → Contains (rows_of boot) r → Contains (rows_of boot) s → r.id ≡ s.id → r ≡ s
object_once boot sound r s i j same =
    let a = object_entry boot r i in
    let b = object_entry boot s j in
    let ids : entry_id (entry_at boot a.at) ≡ entry_id (entry_at boot b.at) = ap (λ (x : CatalogRow). x.id) a.is ∙ (same ∙ ap (λ (x : CatalogRow). x.id) (sym b.is)) in
    ⊎_elim (λ e. sym a.is ∙ (ap (λ n. row_of_entry (entry_at boot n)) e ∙ b.is))
    (λ differ. absurd (sound (λ passes. ⊎_elim (λ less. passes.ids b.at a.at less b.within b.used a.used (sym ids))
    (λ more. passes.ids a.at b.at more a.within a.used b.used ids) differ)))
    (cases_order a.at b.at)

-- the object of an error has a tree
abbrev HasTable : Known → CheckError → Type 0
HasTable K x = (r : ℕ) × IsTable K x.object r

table_of : (K : Known) (x y : CheckError) (r : ℕ) → x ≡ y → IsTable K y.object r → HasTable K x
table_of K x y r e t = (r, subst (λ (z : CheckError). IsTable K z.object r) (sym e) t)

first_table : (K : Known) (k : ℕ) (x : CheckError) → HasWrongFirstKey K k x → HasTable K x
first_table K k x (HasWrongFirstKey.ByRow c s w p wrong e) = table_of K x (row_error 8933 c k w) p.root e p.table
first_table K k x (HasWrongFirstKey.ByCatalog o s w p wrong e) = table_of K x (tree_error 8933 o k 0 0 w) k e p.table

prev_table : (K : Known) (k : ℕ) (x : CheckError) → HasWrongPrev K k x → HasTable K x
prev_table K k x (HasWrongPrev.ByRow c s w p b d e) = table_of K x (row_error 8935 c k s.prev.0) p.root e p.table
prev_table K k x (HasWrongPrev.ByCatalog o s p d e) = table_of K x (tree_error 8935 o k 0 0 s.prev.0) k e p.table

place_table : (K : Known) (k : ℕ) (x : CheckError) → HasNoPlace K k x → HasTable K x
place_table K k x (HasNoPlace.NoParentNoPrev o r s t p n v e) = table_of K x (tree_error 8979 o k s.prev.0 0 0) r e t
place_table K k x (HasNoPlace.NoParent o r s t p n v e) = table_of K x (tree_error 8977 o k 0 0 0) r e t
place_table K k x (HasNoPlace.NoPrev o r s t p n v e) = table_of K x (tree_error 8978 o k s.prev.0 0 0) r e t

nowhere_table : (K : Known) (k : ℕ) (x : CheckError) → IsChildNowhere K k x → HasTable K x
nowhere_table K k x (IsChildNowhere.Linked c l n u p e) = table_of K x (row_error 8976 c k 0) n.root e n.table
nowhere_table K k x (IsChildNowhere.Alone c n u p e) = table_of K x (row_error 8980 c k 0) n.root e n.table

pub error_table : (K : Known) (k : ℕ) (x : CheckError) → StandsAt K k x → (r : ℕ) × IsTable K x.object r
error_table K k x (StandsAt.RootUnseen h) = table_of K x (tree_error 8928 h.object k 0 0 1) k h.is h.table
error_table K k x (StandsAt.TwoParents h) = (h.root, subst (λ (z : CheckError). IsTable K z.object h.root) (sym h.is) h.table)
error_table K k x (StandsAt.WrongLevel h) = table_of K x (row_error 8931 h.row k h.head.level) h.parent.root h.is h.parent.table
error_table K k x (StandsAt.WrongFirstKey h) = first_table K k x h
error_table K k x (StandsAt.HighKey h) = table_of K x (row_error 8934 h.row k h.last) h.parent.root h.is h.parent.table
error_table K k x (StandsAt.WrongPrev h) = prev_table K k x h
error_table K k x (StandsAt.NoPlace h) = place_table K k x h
error_table K k x (StandsAt.Crossed h) = table_of K x (tree_error 8936 h.link.object.0 h.link.page.0 k 0 h.head.prev.0) h.leads.root h.is h.leads.table
error_table K k x (StandsAt.NextElsewhere h) = table_of K x (tree_error 8982 h.link.object.0 h.link.page.0 k 0 h.owner) h.leads.root h.is h.leads.table
error_table K k x (StandsAt.NextNowhere h) = table_of K x (tree_error 8981 h.link.object.0 h.link.page.0 k 0 0) h.leads.root h.is h.leads.table
error_table K k x (StandsAt.ChildElsewhere h) = table_of K x (row_error 8925 h.row k h.owner) h.names.root h.is h.names.table
error_table K k x (StandsAt.ChildNowhere h) = nowhere_table K k x h
