-- The chain of an object is read without the view's being moved, and its pages are ones that objects may own. What is put
-- on them leaves a good view good.
use Rattle.std.proofs.Common.{◌≡◌, ℕ, zero, suc, ◌+◌, ◌-◌, ◌*◌, ◌%◌, ◌<◌, Bool, true, false, eqb, ltb, not, ◌||◌, ◌&&◌, List, [], ◌∷◌, ◌++◌, length, replicate, refl, arith}
use Rattle.std.specs.Prelude.{slice_index, if◌then◌else◌, is_none}
use Rattle.std.specs.List.{list_any}
use Rattle.std.proofs.lemmas.Bool.{and_parts, cond_both, false≢true, ltb-true}
use Rattle.byteorder.specs.Endian.{little_bytes}
use Rattle.spec_file.specs.declared.data.Resource.TheVariants as resource
use Rattle.spec_file.specs.declared.page_type.TheConstants.{PFS_TYPE}
use Rattle.spec_file.specs.Header.{says}
use Rattle.spec_file.specs.Image.{page, page_size}
use Rattle.spec_file.specs.Places.{interval_size, pfs_page, is_inside}
use Rattle.spec_file.specs.CatalogRows.{CatalogRow}
use Rattle.spec_file.specs.Roles.{is_ordinary}
use Rattle.spec_chain.specs.Chains.{is_last, fault_of_bytes, next_of}
use Rattle.spec_log.specs.Cells.{with_bit}
use Rattle.spec_plan.specs.Reading.{are_slots_inside, first_page}
use Rattle.spec_plan.specs.Refusals.{bad_page}
use Rattle.spec_words.specs.NetChanges.{FileShape}
use Rattle.spec_words.specs.Views.{View, Plan}
use Rattle.spec_words.specs.Words.{◌then◌, give, sees, where_good, look}
use Rattle.spec_words.specs.Tables.{is_chain_page, chain_from, chain_of, bytes_read, byte_pages}
use Rattle.spec_alloc.specs.Chains.{chain_now, page_taken, put_iam, put_slot, mark_at, put_mark, put_next, new_iam_page}
use Rattle.law_net.specs.GoodViews.{Leads}
use Rattle.law_net.proofs.Bytes.{bit_low}
use Rattle.law_net.proofs.GoodViews.{page_guards}
use Rattle.law_net.proofs.WordLaws.{leads_then, leads_give, leads_refuse, leads_good, leads_look, leads_each, leads_weaker}
use Rattle.law_net.proofs.RowBytes.{Low, low_append, low_bytes, low_number}
use Rattle.law_net.proofs.ReadingLeaves.{Reads}
use Rattle.law_net.proofs.InsertKeeps.{IsGoodOf, write_keeps}
use Rattle.law_alloc.specs.Keeps.{IsOwn}
use Rattle.law_alloc.proofs.Searches.{Any, reads_then, leads_from, sees_reads, give_reads}
use Rattle.law_alloc.proofs.Singles.{Given}

abbrev pub AllIn : (ℕ → Type 0) → List ℕ → Type 0
AllIn Holds [] = Unit {0}
AllIn Holds (x ∷ xs) = Holds x × AllIn Holds xs

abbrev pub AllOwn : FileShape → List ℕ → Type 0
AllOwn shape = AllIn (IsOwn shape)

-- a chain has a first page, and all its pages are such
abbrev pub IsChainOf : FileShape → List ℕ → Type 0
IsChainOf shape chain = IsOwn shape (first_page chain) × AllOwn shape chain

all_push : (shape : FileShape) (xs : List ℕ) (x : ℕ) → AllOwn shape xs → IsOwn shape x → AllOwn shape (xs ++ x ∷ [])
all_push shape [] x all h = (h, tt)
all_push shape (y ∷ ys) x all h = (all.0, all_push shape ys x all.1 h)

chain_met : (shape : FileShape) (met : List ℕ) (p : ℕ) → AllOwn shape met → is_last (length met) p ≡ true → IsChainOf shape met
chain_met shape [] p all h = absurd (false≢true (and_parts (eqb p 0) false h).1)
chain_met shape (q ∷ met) p all h = (all.0, all)

chain_owns : (n : ℕ) (shape : FileShape) (row : CatalogRow) (met : List ℕ) (from p : ℕ) (v : View) → AllOwn shape met → Reads (chain_from n shape row met from p) v (IsChainOf shape)
chain_owns zero shape row met from p v all = leads_refuse (bad_page p) v (λ x w. (w ≡ v) × IsChainOf shape x)
chain_owns (suc n) shape row met from p v all =
    let Q = IsChainOf shape in
    let slots : View → Bool = λ view. not (eqb (length met) 0) || are_slots_inside view.now p in
    let last : List ℕ → Plan (List ℕ) = λ bytes. chain_from n shape row (met ++ p ∷ []) p (next_of bytes) in
    let tested : List ℕ → Plan (List ℕ) = λ bytes. sees slots then (λ b. where_good b p then (λ _. last bytes)) in
    let read : Plan (List ℕ) = look (resource.Page (record { 0 = p })) p then (λ bytes. where_good (is_chain_page shape row met p bytes) p then (λ _. tested bytes)) in
    cond_both (is_last (length met) p) (give met) (where_good (is_inside shape.pages p) from then (λ _. read)) (λ plan. Reads plan v Q)
    (λ e. give_reads met v Q (chain_met shape met p all e))
    (λ e.
    reads_then (where_good (is_inside shape.pages p) from) (λ _. read) v (λ u. is_inside shape.pages p ≡ true) Q
    (leads_good (is_inside shape.pages p) from v (λ x w. (w ≡ v) × (is_inside shape.pages p ≡ true)) (λ h. (refl, h)))
    (λ u inside.
    reads_then (look (resource.Page (record { 0 = p })) p) (λ bytes. where_good (is_chain_page shape row met p bytes) p then (λ _. tested bytes)) v Any Q
    (leads_look (resource.Page (record { 0 = p })) p v (λ x w. (w ≡ v) × Unit {0}) (λ free. (refl, tt)))
    (λ bytes t.
    reads_then (where_good (is_chain_page shape row met p bytes) p) (λ _. tested bytes) v (λ u. is_chain_page shape row met p bytes ≡ true) Q
    (leads_good (is_chain_page shape row met p bytes) p v (λ x w. (w ≡ v) × (is_chain_page shape row met p bytes ≡ true)) (λ h. (refl, h)))
    (λ u good.
    reads_then (sees slots) (λ b. where_good b p then (λ _. last bytes)) v Any Q (sees_reads slots v Any tt)
    (λ b s.
    reads_then (where_good b p) (λ _. last bytes) v Any Q (leads_good b p v (λ x w. (w ≡ v) × Unit {0}) (λ h. (refl, tt)))
    (λ x y. chain_owns n shape row (met ++ p ∷ []) p (next_of bytes) v
    (all_push shape met p all (
      ltb-true p shape.pages (and_parts (not (eqb p 0)) (ltb p shape.pages) inside).1,
      (and_parts (is_ordinary shape.geometry p) _ (and_parts (is_ordinary shape.geometry p && is_none (fault_of_bytes shape.geometry shape.pages row.id p bytes)) _ good).0).0,
    ))))))))

bytes_reads : (shape : FileShape) (ps : List ℕ) (v : View) → Reads (bytes_read shape ps) v Any
bytes_reads shape ps v =
    leads_weaker (bytes_read shape ps) v (λ u w. w ≡ v) _ (λ u w e. (e, tt))
    (leads_each _ ps (λ w. w ≡ v) v (λ p w e.
    leads_then _ _ w _ (leads_look (resource.Byte (record { 0 = p })) (pfs_page shape.geometry p) w _ (λ free.
    leads_good (says PFS_TYPE (pfs_page shape.geometry p) (page w.now (pfs_page shape.geometry p))) (pfs_page shape.geometry p) w _ (λ good. e)))) refl)

pub chain_reads_now : (shape : FileShape) (row : CatalogRow) (v : View) → Reads (chain_now shape row) v (IsChainOf shape)
chain_reads_now shape row v =
    reads_then (chain_of shape row) _ v (IsChainOf shape) (IsChainOf shape) (chain_owns (suc (suc shape.pages)) shape row [] 9 row.first_iam v tt) (λ chain own.
    reads_then (sees (byte_pages shape chain)) (λ ps. bytes_read shape ps then (λ _. give chain)) v Any (IsChainOf shape) (sees_reads (byte_pages shape chain) v Any tt) (λ ps t.
    reads_then (bytes_read shape ps) (λ _. give chain) v Any (IsChainOf shape) (bytes_reads shape ps v) (λ u t. give_reads chain v (IsChainOf shape) own)))

-- a page that is taken is that page
pub taken_gives : (shape : FileShape) (standing : List ℕ) (p : ℕ) (v : View) → IsOwn shape p → IsGoodOf shape v → Leads (page_taken standing p) v (Given shape)
taken_gives shape standing p v own g =
    let good : Bool = not (list_any (λ q. eqb q p) standing) in
    leads_then (look (resource.Page (record { 0 = p })) p) (λ bytes. where_good good p then (λ _. give p)) v (Given shape)
    (leads_look (resource.Page (record { 0 = p })) p v (λ bytes w. Leads (where_good good p then (λ _. give p)) w (Given shape)) (λ free.
    leads_then (where_good good p) (λ _. give p) v (Given shape) (leads_good good p v (λ u w. Leads (give p) w (Given shape)) (λ h. leads_give p v (Given shape) (g, own)))))

-- bytes are put on an IAM page
iam_keeps : (shape : FileShape) (q at : ℕ) (bytes : List ℕ) (v : View) → IsOwn shape q → Low bytes → IsGoodOf shape v → Leads (put_iam q at bytes) v (λ u w. IsGoodOf shape w)
iam_keeps shape q at bytes v own low g = write_keeps shape (resource.Page (record { 0 = q })) _ bytes v (record {
  may = tt;
  fits = own.0;
  are_bytes = low_bytes bytes low;
  guarded = page_guards shape q at bytes own.0 own.1;
}) g

pub slot_keeps : (shape : FileShape) (chain : List ℕ) (p i : ℕ) (v : View) → IsChainOf shape chain → IsGoodOf shape v → Leads (put_slot chain p i) v (λ u w. IsGoodOf shape w)
slot_keeps shape chain p i v own g = iam_keeps shape (first_page chain) (104 + 4 * i) (little_bytes 4 p) v own.0 (low_number 0 4 p) g

pub next_keeps : (shape : FileShape) (q next : ℕ) (v : View) → IsOwn shape q → IsGoodOf shape v → Leads (put_next q next) v (λ u w. IsGoodOf shape w)
next_keeps shape q next v own g = iam_keeps shape q 16 (little_bytes 4 next) v own (low_number 0 4 next) g

pub mark_keeps : (shape : FileShape) (e value q : ℕ) (v : View) → IsOwn shape q → IsGoodOf shape v → Leads (put_mark shape e value q) v (λ u w. IsGoodOf shape w)
mark_keeps shape e value q v own g =
    let good = g.good in
    let old = good.after in
    let at = mark_at shape e in
    let byte : View → ℕ = λ view. slice_index (page view.now q) at in
    leads_from (sees byte) (λ b. put_iam q at (with_bit b (e % interval_size shape.geometry % 8) value ∷ [])) v (λ b. b < 256) (λ u w. IsGoodOf shape w)
    (sees_reads byte v (λ b. b < 256) (old.bytes q at))
    (λ b low. iam_keeps shape q at (with_bit b (e % interval_size shape.geometry % 8) value ∷ []) v own (bit_low b (e % interval_size shape.geometry % 8) value low (small (e % interval_size shape.geometry)), tt) g)
  where
    small : (n : ℕ) → n % 8 < 8
    small n = omega arith

pub low_zeros : (n : ℕ) → Low (replicate n 0)
low_zeros zero = tt
low_zeros (suc n) = (omega arith, low_zeros n)

pub low_iam : (id q prev interval sequence : ℕ) → Low (new_iam_page id q prev interval sequence)
low_iam id q prev interval sequence =
    let a : List ℕ = little_bytes 4 sequence ++ replicate (page_size - 104) 0 in
    let b : List ℕ = little_bytes 4 interval ++ a in
    let c : List ℕ = replicate 80 0 ++ b in
    let d : List ℕ = little_bytes 4 prev ++ c in
    let e : List ℕ = little_bytes 4 id ++ d in
    let low_a : Low a = low_append (little_bytes 4 sequence) (replicate (page_size - 104) 0) (low_number 0 4 sequence) (low_zeros (page_size - 104)) in
    let low_b : Low b = low_append (little_bytes 4 interval) a (low_number 0 4 interval) low_a in
    let low_c : Low c = low_append (replicate 80 0) b (low_zeros 80) low_b in
    let low_d : Low d = low_append (little_bytes 4 prev) c (low_number 0 4 prev) low_c in
    let low_e : Low e = low_append (little_bytes 4 id) d (low_number 0 4 id) low_d in
    (omega arith, (omega arith, (omega arith, (omega arith, low_append (little_bytes 4 q) e (low_number 0 4 q) low_e))))
