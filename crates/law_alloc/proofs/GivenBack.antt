-- What an object gives back, and what CREATE and DROP need of allocation, leave a good view good.
use Rattle.std.proofs.Common.{◌≡◌, ℕ, zero, suc, ◌+◌, ◌*◌, ◌/◌, ◌<◌, ◌≤◌, Bool, true, eqb, eqb-true, List, [], ◌∷◌, replicate, inl, inr, refl, subst, arith}
use Rattle.std.specs.Prelude.{filter, if◌then◌else◌}
use Rattle.std.specs.List.{range_with_len, list_any}
use Rattle.std.proofs.lemmas.Bool.{cond_both, or_cases}
use Rattle.spec_file.specs.declared.data.Resource.TheVariants as resource
use Rattle.spec_file.specs.declared.pfs.PfsKind.TheVariants as kinds
use Rattle.spec_file.specs.CatalogRows.{CatalogRow}
use Rattle.spec_file.specs.Pfs.{expected}
use Rattle.spec_file.specs.Roles.{is_ordinary}
use Rattle.spec_plan.specs.Reading.{is_marked}
use Rattle.spec_words.specs.NetChanges.{FileShape, extents_of}
use Rattle.spec_words.specs.Views.{View, Plan}
use Rattle.spec_words.specs.Words.{◌then◌, give, sees, where_good, take, put_gam, put_page, found_or, for_each}
use Rattle.spec_words.specs.Tables.{object_pages}
use Rattle.spec_alloc.specs.Search.{gam_read}
use Rattle.spec_alloc.specs.SinglePages.{single_page, no_page}
use Rattle.spec_alloc.specs.Chains.{chain_now, page_taken, put_slot, slots_with, put_mark, new_iam_page}
use Rattle.spec_alloc.specs.Freeing.{shared_freed, marked_freed, slots_emptied, marks_emptied, is_shared_page, page_freed, object_page_freed}
use Rattle.spec_alloc.specs.Objects.{new_chain, page_dropped, left_extents, left_freed, pages_dropped}
use Rattle.law_net.specs.GoodViews.{Leads}
use Rattle.law_net.proofs.WordLaws.{leads_then, leads_give, leads_good, leads_each, leads_weaker}
use Rattle.law_net.proofs.RowBytes.{low_bytes}
use Rattle.law_net.proofs.WordsKeep.{catalog_keeps_good}
use Rattle.law_net.proofs.InsertKeeps.{IsGoodOf, extent_taken}
use Rattle.law_alloc.specs.Keeps.{ObjectPageFreedKeepsGood, NewChainKeepsGood, DropKeepsGood, EntryKeepsGood}
use Rattle.law_alloc.proofs.Searches.{Any, sees_reads, leads_from, map_reads}
use Rattle.law_alloc.proofs.Singles.{Found, Given, single_finds, gam_keeps, page_keeps, good_then}
use Rattle.law_alloc.proofs.Freed.{Good, shared_keeps, marked_keeps}
use Rattle.law_alloc.proofs.Chains.{AllIn, AllOwn, IsChainOf, chain_reads_now, taken_gives, slot_keeps, mark_keeps, low_zeros, low_iam}
use Rattle.law_alloc.proofs.Objects.{or_none}

-- one after another of these: what each keeps, all keep
each_in : (Holds : ℕ → Type 0) (each : ℕ → Plan (Unit {0})) (xs : List ℕ) (I : View → Type 0) (v : View) → AllIn Holds xs → ((x : ℕ) (w : View) → Holds x → I w → Leads (each x) w (λ u. I)) → I v →
    Leads (for_each each xs) v (λ u. I)
unfolding for_each
each_in Holds each [] I v all keeps h = leads_give tt v (λ u. I) h
each_in Holds each (x ∷ xs) I v all keeps h =
    leads_then (each x) (λ u. for_each each xs) v (λ u. I)
    (leads_weaker (each x) v (λ u. I) (λ u w. Leads (for_each each xs) w (λ s. I)) (λ u w i. each_in Holds each xs I w all.1 keeps i) (keeps x v all.0 h))

filtered : (Holds : ℕ → Type 0) (test : ℕ → Bool) (xs : List ℕ) → AllIn Holds xs → AllIn Holds (filter test xs)
filtered Holds test [] all = tt
filtered Holds test (x ∷ xs) all =
    cond_both (test x) (x ∷ filter test xs) (filter test xs) (AllIn Holds) (λ e. (all.0, filtered Holds test xs all.1)) (λ e. filtered Holds test xs all.1)

below : (n lo most : ℕ) → lo + n ≤ most → AllIn (λ x. x < most) (range_with_len lo n)
below zero lo most le = tt
below (suc n) lo most le = (omega (arith, le), below n (lo + 1) most (omega (arith, le)))

among : (Holds : ℕ → Type 0) (p : ℕ) (xs : List ℕ) → AllIn Holds xs → list_any (λ q. eqb q p) xs ≡ true → Holds p
among Holds p [] all h = absurd (cc)
among Holds p (x ∷ xs) all h = elim (or_cases (eqb x p) (list_any (λ q. eqb q p) xs) h) [
  | inl e ↦ subst Holds (eqb-true x p e) all.0
  | inr e ↦ among Holds p xs all.1 e
]

slots_keep : (shape : FileShape) (chain : List ℕ) (p : ℕ) (v : View) → IsChainOf shape chain → IsGoodOf shape v → Leads (slots_emptied chain p) v (Good shape)
slots_keep shape chain p v own g =
    leads_from (sees (slots_with chain p)) (for_each (put_slot chain 0)) v Any (Good shape) (sees_reads (slots_with chain p) v Any tt) (λ slots t.
    leads_each (put_slot chain 0) slots (IsGoodOf shape) v (λ i w h. slot_keeps shape chain 0 i w own h) g)

marks_keep : (shape : FileShape) (chain : List ℕ) (p : ℕ) (v : View) → IsChainOf shape chain → IsGoodOf shape v → Leads (marks_emptied shape chain p) v (Good shape)
marks_keep shape chain p v own g =
    let marking : View → List ℕ = λ view. filter (λ q. is_marked shape.geometry view.now (q ∷ []) p) chain in
    leads_from (sees marking) (for_each (put_mark shape (p / 8) 0)) v (AllOwn shape) (Good shape) (sees_reads marking v (AllOwn shape) (filtered _ _ chain own.1)) (λ qs all.
    each_in _ (put_mark shape (p / 8) 0) qs (IsGoodOf shape) v all (λ q w is h. mark_keeps shape (p / 8) 0 q w is h) g)

freed_keeps : (shape : FileShape) (chain : List ℕ) (p : ℕ) (shared : Bool) (v : View) → IsChainOf shape chain → p < shape.pages → IsGoodOf shape v → Leads (page_freed shape chain p shared) v (Good shape)
freed_keeps shape chain p shared v own lt g =
    let emptied : Bool → Plan (Unit {0}) = λ in_use. if in_use then give tt else marks_emptied shape chain p in
    cond_both shared (shared_freed shape p then (λ _. slots_emptied chain p)) (marked_freed shape p then emptied) (λ plan. Leads plan v (Good shape))
    (λ e. good_then shape (shared_freed shape p) (λ _. slots_emptied chain p) v (Good shape) (shared_keeps shape p v lt g) (λ u w h. slots_keep shape chain p w own h))
    (λ e. good_then shape (marked_freed shape p) emptied v (Good shape) (marked_keeps shape p v lt g) (λ in_use w h.
    cond_both in_use (give tt) (marks_emptied shape chain p) (λ plan. Leads plan w (Good shape)) (λ e. leads_give tt w (Good shape) h) (λ e. marks_keep shape chain p w own h)))

pages_inside : (shape : FileShape) (chain : List ℕ) (v : View) → AllIn (λ p. p < shape.pages) (object_pages shape chain v)
pages_inside shape chain v = filtered _ _ (range_with_len 0 shape.pages) (below shape.pages 0 shape.pages (omega arith))

object_freed : (shape : FileShape) (row : CatalogRow) (p : ℕ) (v : View) → IsGoodOf shape v → Leads (object_page_freed shape row p) v (Good shape)
object_freed shape row p v g =
    leads_from (chain_now shape row) _ v (IsChainOf shape) (Good shape) (chain_reads_now shape row v) (λ chain own.
    let mine : View → Bool = λ view. list_any (λ q. eqb q p) (object_pages shape chain view) in
    let freed : Plan (Unit {0}) = sees (is_shared_page chain p) then page_freed shape chain p in
    leads_from (sees mine) (λ b. where_good b p then (λ _. freed)) v (λ b. b ≡ mine v) (Good shape) (sees_reads mine v (λ b. b ≡ mine v) refl) (λ b is.
    leads_then (where_good b p) (λ _. freed) v (Good shape) (leads_good b p v (λ u w. Leads freed w (Good shape)) (λ e.
    leads_from (sees (is_shared_page chain p)) (page_freed shape chain p) v Any (Good shape) (sees_reads (is_shared_page chain p) v Any tt) (λ shared t.
    freed_keeps shape chain p shared v own (among (λ q. q < shape.pages) p (object_pages shape chain v) (pages_inside shape chain v) (subst (λ c. c ≡ true) is e)) g)))))

pub chain_gives : (shape : FileShape) (id : ℕ) (v : View) → IsGoodOf shape v → Leads (new_chain shape id) v (Given shape)
chain_gives shape id v g =
    let written : ℕ → Plan ℕ = λ q. put_page q (new_iam_page id q 0 0 0) then (λ _. give q) in
    let taken : ℕ → Plan ℕ = λ q. page_taken [] q then (λ _. written q) in
    leads_then (single_page shape (expected kinds.Iam 0)) (λ found. found_or found (no_page shape) then taken) v (Given shape)
    (leads_weaker (single_page shape (expected kinds.Iam 0)) v (Found shape) (λ found w. Leads (found_or found (no_page shape) then taken) w (Given shape)) (λ found w h.
    leads_then (found_or found (no_page shape)) taken w (Given shape)
    (leads_weaker (found_or found (no_page shape)) w (Given shape) (λ q x. Leads (taken q) x (Given shape)) (λ q x k.
    leads_then (page_taken [] q) (λ _. written q) x (Given shape)
    (leads_weaker (page_taken [] q) x (Given shape) (λ r y. Leads (written q) y (Given shape)) (λ r y l.
    good_then shape (put_page q (new_iam_page id q 0 0 0)) (λ _. give q) y (Given shape) (page_keeps shape q (new_iam_page id q 0 0 0) y k.1 (low_bytes (new_iam_page id q 0 0 0) (low_iam id q 0 0 0)) l.0)
    (λ u z m. leads_give q z (Given shape) (m, k.1)))
    (taken_gives shape [] q x k.1 k.0)))
    (or_none shape found w h)))
    (single_finds shape (expected kinds.Iam 0) (omega arith) v g))

dropped_keeps : (shape : FileShape) (chain : List ℕ) (p : ℕ) (v : View) → p < shape.pages → IsGoodOf shape v → Leads (page_dropped shape chain p) v (Good shape)
dropped_keeps shape chain p v lt g =
    let marked : Plan (Unit {0}) = marked_freed shape p then (λ _. give tt) in
    leads_from (sees (is_shared_page chain p)) (λ (shared : Bool). if shared then shared_freed shape p else marked) v Any (Good shape) (sees_reads (is_shared_page chain p) v Any tt) (λ shared t.
    cond_both shared (shared_freed shape p) marked (λ plan. Leads plan v (Good shape)) (λ e. shared_keeps shape p v lt g)
    (λ e. good_then shape (marked_freed shape p) (λ _. give tt) v (Good shape) (marked_keeps shape p v lt g) (λ u w h. leads_give tt w (Good shape) h)))

left_keeps : (shape : FileShape) (e : ℕ) (v : View) → e < shape.pages / 8 → IsGoodOf shape v → Leads (left_freed shape e) v (Good shape)
left_keeps shape e v lt g =
    good_then shape (take (resource.Extent (record { 0 = e }))) (λ _. gam_read shape e then (λ _. put_gam shape e 1)) v (Good shape) (extent_taken shape e v lt g) (λ u w h.
    leads_from (gam_read shape e) (λ _. put_gam shape e 1) w Any (Good shape) (map_reads _ _ w) (λ a b. gam_keeps shape e 1 w lt (omega arith) h))

pub dropped_all : (shape : FileShape) (row : CatalogRow) (v : View) → IsGoodOf shape v → Leads (pages_dropped shape row) v (Good shape)
dropped_all shape row v g =
    let Inside : List ℕ → Type 0 = AllIn (λ p. p < shape.pages) in
    leads_from (chain_now shape row) _ v (IsChainOf shape) (Good shape) (chain_reads_now shape row v) (λ chain own.
    let left : Plan (Unit {0}) = sees (left_extents shape chain) then for_each (left_freed shape) in
    let chained : Plan (Unit {0}) = for_each (shared_freed shape) chain then (λ _. left) in
    let tested : ℕ → Plan (Unit {0}) = λ p. where_good (is_ordinary shape.geometry p) p in
    leads_from (sees (object_pages shape chain)) (λ pages. for_each tested pages then (λ _. for_each (page_dropped shape chain) pages then (λ _. chained))) v Inside (Good shape)
    (sees_reads (object_pages shape chain) v Inside (pages_inside shape chain v)) (λ pages inside.
    good_then shape (for_each tested pages) (λ _. for_each (page_dropped shape chain) pages then (λ _. chained)) v (Good shape)
    (leads_each tested pages (IsGoodOf shape) v (λ p w h. leads_good (is_ordinary shape.geometry p) p w (λ u. IsGoodOf shape) (λ e. h)) g) (λ u w h.
    good_then shape (for_each (page_dropped shape chain) pages) (λ _. chained) w (Good shape)
    (each_in _ (page_dropped shape chain) pages (IsGoodOf shape) w inside (λ p x lt k. dropped_keeps shape chain p x lt k) h) (λ s x k.
    good_then shape (for_each (shared_freed shape) chain) (λ _. left) x (Good shape)
    (each_in _ (shared_freed shape) chain (IsGoodOf shape) x own.1 (λ q y is l. shared_keeps shape q y is.0 l) k) (λ s y l.
    leads_from (sees (left_extents shape chain)) (for_each (left_freed shape)) y (AllIn (λ e. e < shape.pages / 8)) (Good shape)
    (sees_reads (left_extents shape chain) y (AllIn (λ e. e < shape.pages / 8)) (filtered _ _ (extents_of shape) (below (shape.pages / 8) 0 (shape.pages / 8) (omega arith)))) (λ es all.
    each_in _ (left_freed shape) es (IsGoodOf shape) y all (λ e z lt m. left_keeps shape e z lt m) l))))))

pub object_page_freed_keeps_good : ObjectPageFreedKeepsGood
object_page_freed_keeps_good v row p good =
    leads_weaker (object_page_freed v.shape row p) v (Good v.shape) _ (λ u w g. (g.good, g.same)) (object_freed v.shape row p v (record { same = refl; good = good }))

pub new_chain_keeps_good : NewChainKeepsGood
new_chain_keeps_good v id good =
    leads_weaker (new_chain v.shape id) v (Given v.shape) _ (λ q w h. let g = h.0 in (g.good, g.same, h.1)) (chain_gives v.shape id v (record { same = refl; good = good }))

pub drop_keeps_good : DropKeepsGood
drop_keeps_good v row good =
    leads_weaker (pages_dropped v.shape row) v (Good v.shape) _ (λ u w g. (g.good, g.same)) (dropped_all v.shape row v (record { same = refl; good = good }))

pub entry_keeps_good : EntryKeepsGood
entry_keeps_good v i = catalog_keeps_good v (96 + 40 * i) (replicate 40 0) (low_bytes (replicate 40 0) (low_zeros 40))
