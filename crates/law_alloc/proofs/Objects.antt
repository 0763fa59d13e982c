-- One more page for an object, and the pages that it gives back, leave a good view good.
use Rattle.std.proofs.Common.{ℕ, ◌/◌, ◌<◌, Bool, ◌&&◌, List, [], ◌∷◌, ◌++◌, length, Option, Some, None, refl, arith}
use Rattle.std.specs.Prelude.{filter, if◌then◌else◌}
use Rattle.std.proofs.lemmas.Bool.{and_parts, cond_both}
use Rattle.spec_file.specs.declared.pfs.PfsKind.TheVariants as kinds
use Rattle.spec_file.specs.declared.data.Resource.TheVariants as resource
use Rattle.spec_file.specs.Pfs.{expected}
use Rattle.spec_file.specs.Places.{interval_of_page}
use Rattle.spec_file.specs.CatalogRows.{CatalogRow}
use Rattle.spec_file.specs.Roles.{is_ordinary}
use Rattle.spec_chain.specs.Uses.{pfs_byte}
use Rattle.spec_plan.specs.Changes.{last_of}
use Rattle.spec_plan.specs.Reading.{is_marked}
use Rattle.spec_plan.specs.Refusals.{no_room}
use Rattle.spec_words.specs.NetChanges.{FileShape, extents_of}
use Rattle.spec_words.specs.Views.{View, Plan}
use Rattle.spec_words.specs.Words.{◌then◌, give, sees, put_gam, put_pfs, put_page, found_or, unless_held, refuse, for_each}
use Rattle.spec_alloc.specs.Search.{search_from, where_found, either, first_in, is_spare, search}
use Rattle.spec_alloc.specs.SinglePages.{is_unused, first_page_of, single_page, no_page}
use Rattle.spec_alloc.specs.Chains.{chain_now, page_taken, put_slot, slots_with, put_mark, put_next, new_iam_page}
use Rattle.spec_alloc.specs.ObjectPages.{page_in_slot, slot_page, as_allocated, marked_page_taken, lowest_marked, marked_page, new_iam, iam_of, extent_marked, extent_page, object_page}
use Rattle.law_net.specs.GoodViews.{Leads}
use Rattle.law_net.proofs.WordLaws.{leads_then, leads_give, leads_refuse, leads_held, leads_each, leads_weaker}
use Rattle.law_net.proofs.Bytes.{bit_low}
use Rattle.law_net.proofs.RowBytes.{low_bytes}
use Rattle.law_net.proofs.InsertKeeps.{IsGoodOf}
use Rattle.law_alloc.specs.Keeps.{IfFound, IsOwn, ObjectPageKeepsGood}
use Rattle.law_alloc.proofs.Searches.{Any, sees_reads, leads_from, search_reads}
use Rattle.law_alloc.proofs.Singles.{Found, Given, FindsPage, GivesPage, either_finds, found_finds, single_finds, first_kept, free_own, gam_keeps, pfs_keeps, page_keeps, good_then, extent_in}
use Rattle.law_alloc.proofs.Chains.{AllOwn, IsChainOf, chain_reads_now, taken_gives, slot_keeps, next_keeps, mark_keeps, low_iam}

-- what is found, and what is given of it
where_finds : (shape : FileShape) (plan : Plan (Option ℕ)) (next : ℕ → Plan ℕ) → FindsPage shape plan → ((p : ℕ) → IsOwn shape p → GivesPage shape (next p)) →
    FindsPage shape (plan then (λ found. where_found found next))
where_finds shape plan next finds gives v g =
    leads_then plan (λ found. where_found found next) v (Found shape) (leads_weaker plan v (Found shape) (λ found w. Leads (where_found found next) w (Found shape)) by_found (finds v g))
  where
    by_found : (found : Option ℕ) (w : View) → Found shape found w → Leads (where_found found next) w (Found shape)
    by_found None w h = leads_give None w (Found shape) h
    by_found (Some p) w h =
        leads_then (next p) (λ q. give (Some q)) w (Found shape)
        (leads_weaker (next p) w (Given shape) (λ q u. Leads (give (Some q)) u (Found shape)) (λ q u k. leads_give (Some q) u (Found shape) k) (gives p h.1 w h.0))

slot_gives : (shape : FileShape) (chain path : List ℕ) (i p : ℕ) → IsChainOf shape chain → IsOwn shape p → GivesPage shape (page_taken (chain ++ path) p then (λ _. put_slot chain p i then (λ _. give p)))
slot_gives shape chain path i p own is v g =
    leads_then (page_taken (chain ++ path) p) (λ _. put_slot chain p i then (λ _. give p)) v (Given shape)
    (leads_weaker (page_taken (chain ++ path) p) v (Given shape) (λ q w. Leads (put_slot chain p i then (λ _. give p)) w (Given shape))
    (λ q w h. good_then shape (put_slot chain p i) (λ _. give p) w (Given shape) (slot_keeps shape chain p i w own h.0) (λ u x k. leads_give p x (Given shape) (k, is)))
    (taken_gives shape (chain ++ path) p v is g))

slot_finds : (shape : FileShape) (chain path : List ℕ) → IsChainOf shape chain → FindsPage shape (slot_page shape chain path)
slot_finds shape chain path own v g =
    let free : View → Option ℕ = λ view. first_in (slots_with chain 0 view) in
    leads_from (sees free) (λ slot. search_from slot (page_in_slot shape chain path)) v Any (Found shape) (sees_reads free v Any tt) (λ slot t. by_slot slot)
  where
    by_slot : (slot : Option ℕ) → Leads (search_from slot (page_in_slot shape chain path)) v (Found shape)
    by_slot None = leads_give None v (Found shape) (g, tt)
    by_slot (Some i) = where_finds shape (single_page shape (expected kinds.Single 0)) _ (single_finds shape (expected kinds.Single 0) (omega arith)) (λ p is. slot_gives shape chain path i p own is) v g

marked_gives : (shape : FileShape) (standing : List ℕ) (p : ℕ) → IsOwn shape p → GivesPage shape (marked_page_taken shape standing p)
marked_gives shape standing p own v g =
    let good = g.good in
    let old = good.after in
    let byte : View → ℕ = λ view. pfs_byte shape.geometry view.now p in
    leads_from (sees byte) (λ b. put_pfs shape p (as_allocated b) then (λ _. page_taken standing p)) v (λ b. b < 256) (Given shape) (sees_reads byte v (λ b. b < 256) (old.bytes _ _)) (λ b low.
    good_then shape (put_pfs shape p (as_allocated b)) (λ _. page_taken standing p) v (Given shape) (pfs_keeps shape p (as_allocated b) v own.0 (bit_low b 6 1 low (omega arith)) g) (λ u w h.
    taken_gives shape standing p w own h))

marked_finds : (shape : FileShape) (chain path : List ℕ) → FindsPage shape (marked_page shape chain path)
marked_finds shape chain path =
    found_finds shape (sees (lowest_marked shape chain)) (marked_page_taken shape (chain ++ path))
    (λ v. sees_reads (lowest_marked shape chain) v (IfFound (IsOwn shape))
    (first_kept (IsOwn shape) (λ p. is_marked shape.geometry v.now chain p && is_spare shape v p) shape.pages 0
    (λ p low high test. (omega (arith, high), (and_parts (is_ordinary shape.geometry p) _ (and_parts (is_marked shape.geometry v.now chain p) (is_spare shape v p) test).1).0))))
    (λ p own. marked_gives shape (chain ++ path) p own)

-- where no page is to be had nothing is given
pub none_leads : (shape : FileShape) (v : View) (K : ℕ → View → Type 0) → Leads (no_page shape) v K
none_leads shape v K =
    let ask : ℕ → Plan (Unit {0}) = λ e. unless_held (resource.Extent (record { 0 = e })) in
    leads_then (for_each ask (extents_of shape)) (λ _. refuse no_room) v K
    (leads_weaker (for_each ask (extents_of shape)) v (λ u w. Unit {0}) (λ u w. Leads (refuse no_room) w K) (λ u w t. leads_refuse no_room w K)
    (leads_each ask (extents_of shape) (λ w. Unit {0}) v (λ e w t. leads_held (resource.Extent (record { 0 = e })) w (λ u x. Unit {0}) (λ free. tt)) tt))

pub or_none : (shape : FileShape) (found : Option ℕ) (w : View) → Found shape found w → Leads (found_or found (no_page shape)) w (Given shape)
or_none shape None w h = none_leads shape w (Given shape)
or_none shape (Some p) w h = leads_give p w (Given shape) h

last_from : (shape : FileShape) (i : ℕ) (xs : List ℕ) → IsOwn shape i → AllOwn shape xs → IsOwn shape (last_of i xs)
last_from shape i [] own all = own
last_from shape i (x ∷ xs) own all = last_from shape x xs all.0 all.1

last_own : (shape : FileShape) (chain : List ℕ) → IsChainOf shape chain → IsOwn shape (last_of 0 chain)
last_own shape [] own = own.0
last_own shape (q ∷ rest) own = let all = own.1 in last_from shape q rest all.0 all.1

iam_gives : (shape : FileShape) (row : CatalogRow) (chain path : List ℕ) (p : ℕ) → IsChainOf shape chain → GivesPage shape (new_iam shape row chain path p)
iam_gives shape row chain path p own v g =
    let bytes : ℕ → List ℕ = λ q. new_iam_page row.id q (last_of 0 chain) (interval_of_page shape.geometry p) (length chain) in
    let linked : ℕ → Plan ℕ = λ q. put_next (last_of 0 chain) q then (λ _. give q) in
    let written : ℕ → Plan ℕ = λ q. put_page q (bytes q) then (λ _. linked q) in
    let taken : ℕ → Plan ℕ = λ q. page_taken (chain ++ path) q then (λ _. written q) in
    leads_then (single_page shape (expected kinds.Iam 0)) (λ found. found_or found (no_page shape) then taken) v (Given shape)
    (leads_weaker (single_page shape (expected kinds.Iam 0)) v (Found shape) (λ found w. Leads (found_or found (no_page shape) then taken) w (Given shape)) (λ found w h.
    leads_then (found_or found (no_page shape)) taken w (Given shape)
    (leads_weaker (found_or found (no_page shape)) w (Given shape) (λ q x. Leads (taken q) x (Given shape)) (λ q x k.
    leads_then (page_taken (chain ++ path) q) (λ _. written q) x (Given shape)
    (leads_weaker (page_taken (chain ++ path) q) x (Given shape) (λ r y. Leads (written q) y (Given shape)) (λ r y l.
    good_then shape (put_page q (bytes q)) (λ _. linked q) y (Given shape)
    (page_keeps shape q (bytes q) y k.1 (low_bytes (bytes q) (low_iam row.id q (last_of 0 chain) (interval_of_page shape.geometry p) (length chain))) l.0) (λ u z m.
    good_then shape (put_next (last_of 0 chain) q) (λ _. give q) z (Given shape) (next_keeps shape (last_of 0 chain) q z (last_own shape chain own) m) (λ s a n.
    leads_give q a (Given shape) (n, k.1))))
    (taken_gives shape (chain ++ path) q x k.1 k.0)))
    (or_none shape found w h)))
    (single_finds shape (expected kinds.Iam 0) (omega arith) v g))

filtered_own : (shape : FileShape) (test : ℕ → Bool) (chain : List ℕ) → AllOwn shape chain → IfFound (IsOwn shape) (first_in (filter test chain))
filtered_own shape test [] all = tt
filtered_own shape test (q ∷ chain) all =
    cond_both (test q) (q ∷ filter test chain) (filter test chain) (λ xs. IfFound (IsOwn shape) (first_in xs)) (λ e. all.0) (λ e. filtered_own shape test chain all.1)

extent_gives : (shape : FileShape) (row : CatalogRow) (chain path : List ℕ) (p : ℕ) → IsChainOf shape chain → IsOwn shape p → GivesPage shape (extent_marked shape row chain path p)
extent_gives shape row chain path p own is v g =
    let marked : ℕ → Plan ℕ = λ q. put_mark shape (p / 8) 1 q then (λ _. give p) in
    let with_iam : Option ℕ → Plan ℕ = λ iam. found_or iam (new_iam shape row chain path p) then marked in
    let seen : Plan ℕ = sees (iam_of shape chain p) then with_iam in
    good_then shape (put_gam shape (p / 8) 0) (λ _. marked_page_taken shape (chain ++ path) p then (λ _. seen)) v (Given shape)
    (gam_keeps shape (p / 8) 0 v (extent_in shape p v is.0 g) (omega arith) g) (λ u w h.
    leads_then (marked_page_taken shape (chain ++ path) p) (λ _. seen) w (Given shape)
    (leads_weaker (marked_page_taken shape (chain ++ path) p) w (Given shape) (λ r x. Leads seen x (Given shape)) (λ r x k.
    leads_from (sees (iam_of shape chain p)) with_iam x (IfFound (IsOwn shape)) (Given shape)
    (sees_reads (iam_of shape chain p) x (IfFound (IsOwn shape)) (filtered_own shape _ chain own.1)) (λ iam f.
    leads_then (found_or iam (new_iam shape row chain path p)) marked x (Given shape)
    (leads_weaker (found_or iam (new_iam shape row chain path p)) x (Given shape) (λ q y. Leads (marked q) y (Given shape)) (λ q y l.
    good_then shape (put_mark shape (p / 8) 1 q) (λ _. give p) y (Given shape) (mark_keeps shape (p / 8) 1 q y l.1 l.0) (λ s z m. leads_give p z (Given shape) (m, is)))
    (by_iam iam x f k.0))))
    (marked_gives shape (chain ++ path) p is w h)))
  where
    by_iam : (iam : Option ℕ) (x : View) → IfFound (IsOwn shape) iam → IsGoodOf shape x → Leads (found_or iam (new_iam shape row chain path p)) x (Given shape)
    by_iam None x f k = iam_gives shape row chain path p own x k
    by_iam (Some q) x f k = leads_give q x (Given shape) (k, f)

extent_finds : (shape : FileShape) (row : CatalogRow) (chain path : List ℕ) → IsChainOf shape chain → FindsPage shape (extent_page shape row chain path)
extent_finds shape row chain path own =
    found_finds shape (search shape (is_unused shape) (first_page_of shape)) (extent_marked shape row chain path)
    (λ v. search_reads shape (is_unused shape) (first_page_of shape) (IsOwn shape) v (λ e lt fit. free_own shape v e lt)) (λ p is. extent_gives shape row chain path p own is)

object_gives : (shape : FileShape) (row : CatalogRow) (path : List ℕ) → GivesPage shape (object_page shape row path)
object_gives shape row path v g =
    leads_from (chain_now shape row) _ v (IsChainOf shape) (Given shape) (chain_reads_now shape row v) (λ chain own.
    let all : Plan (Option ℕ) = either (slot_page shape chain path) (either (marked_page shape chain path) (extent_page shape row chain path)) in
    leads_then all (λ found. found_or found (no_page shape)) v (Given shape)
    (leads_weaker all v (Found shape) (λ found w. Leads (found_or found (no_page shape)) w (Given shape)) (λ found w h. or_none shape found w h)
    (either_finds shape (slot_page shape chain path) _ (slot_finds shape chain path own)
    (either_finds shape (marked_page shape chain path) (extent_page shape row chain path) (marked_finds shape chain path) (extent_finds shape row chain path own)) v g)))

pub object_page_keeps_good : ObjectPageKeepsGood
object_page_keeps_good v row path good =
    leads_weaker (object_page v.shape row path) v (Given v.shape) _ (λ p w h. let g = h.0 in (g.good, g.same, h.1))
    (object_gives v.shape row path v (record { same = refl; good = good }))
