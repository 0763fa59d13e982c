-- CREATE and DROP leave a good view good.
use Rattle.std.proofs.Common.{◌≡◌, ℕ, ◌+◌, ◌-◌, ◌*◌, ◌<◌, ◌≤◌, true, List, [], ◌∷◌, ◌++◌, length, Option, Some, None, replicate, ◌∙◌, arith}
use Rattle.std.specs.Prelude.{is_some, nat_le, ◌&&◌}
use Rattle.std.specs.List.{list_all}
use Rattle.std.proofs.lemmas.Bool.{cond_both, and_parts, leb-true}
use Rattle.std.proofs.lemmas.Bool.Decides.{nat_tests}
use Rattle.byteorder.specs.Endian.{little_bytes}
use Rattle.spec_file.specs.declared.data.Kind.{Kind}
use Rattle.spec_file.specs.declared.data.Kind.TheVariants.{Heap, Clustered}
use Rattle.spec_file.specs.declared.data.Resource.TheVariants as resource
use Rattle.spec_file.specs.Catalog.{is_name, is_letter, is_name_byte}
use Rattle.spec_file.specs.CatalogBytes.{kind_byte, entry_bytes}
use Rattle.spec_file.specs.CatalogRows.{CatalogRow, rows_of}
use Rattle.spec_file.specs.Image.{AreBytes, page}
use Rattle.spec_file.proofs.NameLaws.{name_bytes}
use Rattle.spec_script.specs.declared.reply.Reply.TheVariants.{Done}
use Rattle.spec_plan.specs.Refusals.{same_name, too_many_tables}
use Rattle.spec_plan.specs.Reading.{is_catalog, named_among}
use Rattle.spec_words.specs.NetChanges.{FileShape}
use Rattle.spec_words.specs.Views.{View}
use Rattle.spec_words.specs.Words.{give, refuse, sees, where_good, look, take, put_catalog, found_or}
use Rattle.spec_words.specs.Tables.{table_of}
use Rattle.spec_alloc.specs.Search.{where_found}
use Rattle.spec_alloc.specs.Objects.{free_id, free_entry, entry_of, entry_emptied, new_chain, pages_dropped}
use Rattle.spec_statements.specs.Objects.{unless_named, new_heap, entry_put, create_plan, drop_plan}
use Rattle.law_net.specs.GoodViews.{IsGoodView, Leads}
use Rattle.law_net.proofs.WordLaws.{leads_then, leads_give, leads_refuse, leads_good, leads_look, leads_found, leads_weaker}
use Rattle.law_net.proofs.ReadingLeaves.{Reads, table_reads}
use Rattle.law_net.proofs.RowBytes.{Low, low_bytes, low_append, low_number}
use Rattle.law_net.proofs.WordsKeep.{catalog_keeps_good}
use Rattle.law_net.proofs.InsertKeeps.{IsGoodOf, HasNoTable, take_keeps, table_keeps}
use Rattle.law_alloc.proofs.Searches.{Any, sees_reads, give_reads, leads_from}
use Rattle.law_alloc.proofs.Singles.{Given, good_then}
use Rattle.law_alloc.proofs.Freed.{Good}
use Rattle.law_alloc.proofs.Chains.{low_zeros}
use Rattle.law_alloc.proofs.GivenBack.{chain_gives, dropped_all}

-- ---- the bytes of an entry

name_byte_low : (b : ℕ) → is_name_byte b ≡ true → b < 256
name_byte_low b h = grind (arith, nat_tests)

all_low : (name : List ℕ) → list_all is_name_byte name ≡ true → Low name
all_low [] h = tt
all_low (b ∷ name) h = let parts = and_parts (is_name_byte b) (list_all is_name_byte name) h in (name_byte_low b parts.0, all_low name parts.1)

kind_low : (kind : Kind) → kind_byte kind < 256
kind_low Heap = omega arith
kind_low Clustered = omega arith

name_short : (name : List ℕ) → is_name name ≡ true → length name ≤ 16
name_short [] h = omega arith
name_short (b ∷ rest) h =
    let le = leb-true (length rest) 15 (and_parts (is_letter b && list_all is_name_byte rest) (nat_le (length rest) 15) h).1 in omega (arith, le)

entry_low : (row : CatalogRow) → is_name row.name ≡ true → AreBytes (entry_bytes row)
unfolding entry_bytes
entry_low row named =
    let short = name_short row.name named in
    let root : List ℕ = little_bytes 4 row.root ++ replicate 8 0 in
    let iam : List ℕ = little_bytes 4 row.first_iam ++ root in
    let pad : List ℕ = replicate (18 - length row.name) 0 ++ iam in
    let low_root : Low root = low_append (little_bytes 4 row.root) (replicate 8 0) (low_number 0 4 row.root) (low_zeros 8) in
    let low_iam : Low iam = low_append (little_bytes 4 row.first_iam) root (low_number 0 4 row.first_iam) low_root in
    let low_pad : Low pad = low_append (replicate (18 - length row.name) 0) iam (low_zeros (18 - length row.name)) low_iam in
    let low_name : Low (row.name ++ pad) = low_append row.name pad (all_low row.name (name_bytes row.name named)) low_pad in
    low_bytes (entry_bytes row) (low_append (little_bytes 4 row.id) (kind_byte row.kind ∷ length row.name ∷ row.name ++ pad) (low_number 0 4 row.id) (kind_low row.kind, (omega (arith, short), low_name)))

-- ---- the words

catalog_keeps : (shape : FileShape) (at : ℕ) (bytes : List ℕ) (v : View) → AreBytes bytes → IsGoodOf shape v → Leads (put_catalog at bytes) v (Good shape)
catalog_keeps shape at bytes v low g =
    leads_weaker (put_catalog at bytes) v (λ u w. IsGoodView w × (w.shape ≡ v.shape)) (Good shape) (λ u w h. record { same = h.1 ∙ g.same; good = h.0 }) (catalog_keeps_good v at bytes low g.good)

named_reads : (boot name : List ℕ) (v : View) → Reads (unless_named boot name) v Any
named_reads boot name v =
    cond_both (is_some (named_among (rows_of boot) name)) (refuse (same_name name)) (give tt) (λ plan. Reads plan v Any) (λ e. leads_refuse (same_name name) v _) (λ e. give_reads tt v Any tt)

pub create_keeps : (shape : FileShape) (name : List ℕ) (v : View) → is_name name ≡ true → HasNoTable v → IsGoodOf shape v → Leads (create_plan shape name) v (Good shape)
create_keeps shape name v named none g =
    let boot = page v.now 9 in
    leads_then (look resource.Catalog 9) _ v (Good shape) (leads_look resource.Catalog 9 v _ (λ free.
    leads_then (where_good (is_catalog boot) 9) _ v (Good shape) (leads_good (is_catalog boot) 9 v _ (λ good.
    leads_from (unless_named boot name) _ v Any (Good shape) (named_reads boot name v) (λ u t.
    leads_then (found_or (free_id boot) (refuse too_many_tables)) _ v (Good shape) (leads_found (free_id boot) (refuse too_many_tables) v _ (λ id is.
    leads_then (found_or (free_entry boot) (refuse too_many_tables)) _ v (Good shape) (leads_found (free_entry boot) (refuse too_many_tables) v _ (λ i at.
    good_then shape (take (resource.Table (record { 0 = id }))) _ v (Good shape) (table_keeps shape id v none g) (λ x w h.
    leads_then (new_chain shape id) _ w (Good shape) (leads_weaker (new_chain shape id) w (Given shape) _ (λ q y k.
    good_then shape (entry_put i (new_heap id name q)) (λ _. give Done) y (Good shape) (catalog_keeps shape (96 + 40 * i) (entry_bytes (new_heap id name q)) y (entry_low (new_heap id name q) named) k.0)
    (λ s z m. leads_give Done z (Good shape) m))
    (chain_gives shape id w h))))
    (λ e. leads_refuse too_many_tables v _)))
    (λ e. leads_refuse too_many_tables v _)))))))

emptied_keeps : (shape : FileShape) (entry : Option ℕ) (v : View) → IsGoodOf shape v → Leads (where_found entry entry_emptied) v (Good shape)
emptied_keeps shape None v g = leads_give None v (Good shape) g
emptied_keeps shape (Some i) v g =
    good_then shape (entry_emptied i) (λ y. give (Some y)) v (Good shape) (catalog_keeps shape (96 + 40 * i) (replicate 40 0) v (low_bytes (replicate 40 0) (low_zeros 40)) g) (λ y w h. leads_give (Some y) w (Good shape) h)

pub drop_keeps : (shape : FileShape) (name : List ℕ) (v : View) → HasNoTable v → IsGoodOf shape v → Leads (drop_plan shape name) v (Good shape)
drop_keeps shape name v none g =
    leads_from (table_of name) _ v Any (Good shape) (table_reads name v) (λ row t.
    good_then shape (take (resource.Table (record { 0 = row.id }))) _ v (Good shape) (table_keeps shape row.id v none g) (λ x w h.
    good_then shape (pages_dropped shape row) _ w (Good shape) (dropped_all shape row w h) (λ y a k.
    good_then shape (take resource.Catalog) _ a (Good shape) (take_keeps shape resource.Catalog a tt k) (λ z b l.
    leads_from (sees (λ view. entry_of (page view.now 9) row.id)) _ b Any (Good shape) (sees_reads (λ view. entry_of (page view.now 9) row.id) b Any tt) (λ entry t.
    good_then shape (where_found entry entry_emptied) (λ _. give Done) b (Good shape) (emptied_keeps shape entry b l) (λ s c m. leads_give Done c (Good shape) m))))))
