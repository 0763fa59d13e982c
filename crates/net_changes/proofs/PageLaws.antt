-- The changes of one page, and of the pages that were put.
use Rattle.std.proofs.Common.{◌≡◌, ℕ, ◌+◌, ◌-◌, ◌*◌, ◌<◌, ◌≤◌, min, max, get_or, ext_get_or, take, Bool, true, false, eqb, not, ◌||◌, List, [], ◌∷◌, ◌++◌, append-nil, length, refl, sym, ap, ◌∙◌, subst, arith, Contains}
use Rattle.std.specs.Prelude.{if◌then◌else◌, slice_index, bytes_eq, filter, flat_map}
use Rattle.std.specs.List.{range_with_len}
use Rattle.std.proofs.lemmas.Bool.{and_parts, and_left, or_left, eqb-true, eqb-false, not-true, not-false}
use Rattle.std.proofs.lemmas.List.{take_more, take_all, map-append}
use Rattle.std.proofs.lemmas.List.Concat.{flat_map-append}
use Rattle.std.proofs.lemmas.List.Elements.{filter-append}
use Rattle.spec_file.specs.declared.data.PageNo.{PageNo}
use Rattle.spec_file.specs.declared.geometry.Geometry.{Geometry}
use Rattle.spec_file.specs.Image.{Image, page}
use Rattle.spec_file.specs.Roles.{is_ordinary}
use Rattle.spec_rows.specs.Slots.{slot_count}
use Rattle.spec_plan.specs.declared.plan.Planned.{Planned}
use Rattle.spec_plan.specs.Changes as plan
use Rattle.spec_words.specs.NetChanges.{part_changes, is_iam, becomes_allocated, slots_start, page_changes, is_page_changed}
use Rattle.law_net.proofs.Touched.{filter_touched}
use Rattle.db_locks.specs.States.{PlanState, are_rising}
use Rattle.net_changes.specs.declared.pair.Pair.{Pair}
use Rattle.net_changes.specs.Bytes.{is_differing, is_kind, page_between}
use Rattle.net_changes.specs.Shown.{IsPair, numbers, is_due, pages_shown}
use Rattle.net_changes.proofs.AlikePages.{part_between, three, stays_same}
use Rattle.net_changes.proofs.BitLaws.{with_part}
use Rattle.net_changes.proofs.PutLaws.{put_rise, put_has}
use lib.Pointwise.{bytes_decides}

-- ---- whether two pages differ

pub other_bytes : (xs ys : List ℕ) (at : ℕ) → is_differing xs ys at ≡ true → true ≡ not (bytes_eq xs ys)
other_bytes xs ys at e = sym (not_same (bytes_eq xs ys) (λ h. eqb-false (slice_index xs at) (slice_index ys at) (not-true (eqb (slice_index xs at) (slice_index ys at)) e) (ap (λ zs. slice_index zs at) ((bytes_decides xs ys).0 h))))
  where
    not_same : (b : Bool) → (b ≡ true → ⊥) → not b ≡ true
    not_same true no_way = absurd (no_way refl)
    not_same false no_way = refl

pub same_bytes : (xs ys : List ℕ) → length xs ≡ 8192 → length ys ≡ 8192 → ((i : ℕ) → i < 8192 → is_differing xs ys i ≡ false) → false ≡ not (bytes_eq xs ys)
same_bytes xs ys lx ly same =
    sym (ap not ((bytes_decides xs ys).1 (ext_get_or 0 xs ys (lx ∙ sym ly)
    (λ i lt. eqb-true (slice_index xs i) (slice_index ys i) (not-false (eqb (slice_index xs i) (slice_index ys i)) (same i (subst (λ n. i < n) lx lt)))))))

-- ---- the changes of one page

page_is : (g : Geometry) (a b : Image) (p : ℕ) (one : Bool) → one ≡ (is_iam b p || becomes_allocated g a b p) → page_between one p (page a p) (page b p) ≡ page_changes g a b p
page_is g a b p one e =
    by_test one ∙ ap (λ c. if c then part_changes a b p 0 8192 else (part_changes a b p 96 s ++ (part_changes a b p s 8192 ++ part_changes a b p 0 96))) e
  where
    s : ℕ
    s = slots_start a b p

    start_is : (m n : ℕ) → max 96 (8192 - 2 * max m n) ≡ 8192 - 2 * min (max m n) 4048
    start_is m n = omega arith

    by_test : (c : Bool) → page_between c p (page a p) (page b p) ≡ (if c then part_changes a b p 0 8192 else (part_changes a b p 96 s ++ (part_changes a b p s 8192 ++ part_changes a b p 0 96)))
    by_test true = sym (part_between a b p 0 8192 (omega arith))
    by_test false =
        let at = start_is (slot_count (page a p)) (slot_count (page b p)) in
        sym (three (part_changes a b p 96 s) _ (part_changes a b p s 8192) _ (part_changes a b p 0 96) _
        (part_between a b p 96 s (omega arith) ∙ ap (plan.change_between p (page a p) (page b p) 96) at)
        (part_between a b p s 8192 (omega arith) ∙ ap (λ k. plan.change_between p (page a p) (page b p) k 8192) at)
        (part_between a b p 0 96 (omega arith)))

-- ---- the pages that were put

pub pages_none : (s : PlanState) (iams : Bool) → pages_shown s iams [] ≡ []
unfolding pages_shown
pages_none s iams = refl

pages_more : (s : PlanState) (iams : Bool) (xs ys : List ℕ) → pages_shown s iams (xs ++ ys) ≡ pages_shown s iams xs ++ pages_shown s iams ys
unfolding pages_shown
pages_more s iams xs ys =
    ap (flat_map (page_changes s.view.shape.geometry s.first s.shown)) (filter-append (is_due s iams) xs ys)
    ∙ flat_map-append (page_changes s.view.shape.geometry s.first s.shown) (filter (is_due s iams) xs) (filter (is_due s iams) ys)

page_due : (s : PlanState) (iams : Bool) (p : ℕ) → is_due s iams p ≡ true → pages_shown s iams (p ∷ []) ≡ page_changes s.view.shape.geometry s.first s.shown p
unfolding pages_shown
page_due s iams p e =
    ap (λ b. flat_map (page_changes s.view.shape.geometry s.first s.shown) (if b then p ∷ [] else [])) e ∙ append-nil (page_changes s.view.shape.geometry s.first s.shown p)

pub page_not_due : (s : PlanState) (iams : Bool) (p : ℕ) → is_due s iams p ≡ false → pages_shown s iams (p ∷ []) ≡ []
unfolding pages_shown
page_not_due s iams p e = ap (λ b. flat_map (page_changes s.view.shape.geometry s.first s.shown) (if b then p ∷ [] else [])) e

-- one page that was put behind those before it
pub put_step : (s : PlanState) (iams : Bool) (ps : List PageNo) (i : ℕ) (d : PageNo) (all before olds : List Planned) → i < length ps →
    before ≡ olds ++ pages_shown s iams (numbers (take i ps)) → all ≡ before ++ pages_shown s iams ((get_or ps i d).0 ∷ []) → all ≡ olds ++ pages_shown s iams (numbers (take (i + 1) ps))
put_step s iams ps i d all before olds lt e f =
    with_part all before olds (pages_shown s iams (numbers (take i ps))) (pages_shown s iams ((get_or ps i d).0 ∷ [])) e f
    ∙ ap (λ xs. olds ++ xs)
    (sym (pages_more s iams (numbers (take i ps)) ((get_or ps i d).0 ∷ []))
    ∙ ap (pages_shown s iams) (sym (ap numbers (take_more ps i d lt) ∙ map-append (λ (p : PageNo). p.0) (take i ps) (get_or ps i d ∷ []))))

pub put_all : (s : PlanState) (iams : Bool) (ps qs : List PageNo) (i : ℕ) (all olds : List Planned) → length ps ≤ i → ps ≡ qs → all ≡ olds ++ pages_shown s iams (numbers (take i ps)) →
    all ≡ olds ++ pages_shown s iams (numbers qs)
put_all s iams ps qs i all olds le e inv = inv ∙ ap (λ xs. olds ++ pages_shown s iams (numbers xs)) (take_all i ps le ∙ e)

-- a page that is shown as before is not due
pub stays_out : (s : PlanState) (iams : Bool) (p : ℕ) → page s.first p ≡ page s.shown p → is_due s iams p ≡ false
stays_out s iams p e = and_left (is_page_changed s.view.shape.geometry s.first s.shown p) (is_kind iams (page s.shown p)) (stays_same (is_ordinary s.view.shape.geometry p) (page s.first p) (page s.shown p) e)

-- what is known of the pages that were put
pub record ArePut (s : PlanState) : Type 0 where
  pub rising : are_rising s.put ≡ true
  pub inside : (p : PageNo) → Contains s.put p → p.0 < s.view.shape.pages
  pub others : (p : PageNo) → (Contains s.put p → ⊥) → page s.first p.0 ≡ page s.shown p.0

pub put_is_whole : (s : PlanState) (iams : Bool) → ArePut s → pages_shown s iams (numbers s.put) ≡ pages_shown s iams (range_with_len 0 s.view.shape.pages)
unfolding pages_shown
put_is_whole s iams put =
    ap (flat_map (page_changes s.view.shape.geometry s.first s.shown))
    (sym (filter_touched (is_due s iams) s.view.shape.pages 0 s.view.shape.pages (numbers s.put) (omega arith) (put_rise s.put s.view.shape.pages put.rising put.inside)
    (put_has (is_due s iams) s.put s.view.shape.pages (λ p out. stays_out s iams p.0 (put.others p out)))))

-- ---- by the pair that was read

pub boot_shown : (s : PlanState) (p : ℕ) (pair : Pair) → IsPair s p pair → plan.change_between p pair.before.bytes pair.after.bytes 0 8192 ≡ part_changes s.first s.shown p 0 8192
boot_shown s p pair is =
    ap (λ xs. plan.change_between p xs pair.after.bytes 0 8192) is.before ∙ ap (λ xs. plan.change_between p (page s.first p) xs 0 8192) is.after
    ∙ sym (part_between s.first s.shown p 0 8192 (omega arith))

pub one_cell_iam : (s : PlanState) (g : Geometry) (iams : Bool) (p : ℕ) → iams ≡ true → is_kind iams (page s.shown p) ≡ true → true ≡ (is_iam s.shown p || becomes_allocated g s.first s.shown p)
one_cell_iam s g iams p e kind = sym (or_left (is_iam s.shown p) (becomes_allocated g s.first s.shown p) (subst (λ b. is_kind b (page s.shown p) ≡ true) e kind))

pub one_cell_other : (s : PlanState) (g : Geometry) (iams : Bool) (p : ℕ) (b : Bool) → iams ≡ false → is_kind iams (page s.shown p) ≡ true → b ≡ becomes_allocated g s.first s.shown p →
    b ≡ (is_iam s.shown p || becomes_allocated g s.first s.shown p)
one_cell_other s g iams p b e kind is =
    is ∙ sym (ap (λ x. x || becomes_allocated g s.first s.shown p) (not-true (is_iam s.shown p) (subst (λ b. is_kind b (page s.shown p) ≡ true) e kind)))

pub put_page_is : (s : PlanState) (g : Geometry) (iams : Bool) (p : ℕ) (pair : Pair) (one due : Bool) (all olds : List Planned) → g ≡ s.view.shape.geometry → IsPair s p pair →
    due ≡ is_due s iams p → due ≡ true → (is_kind iams (page s.shown p) ≡ true → one ≡ (is_iam s.shown p || becomes_allocated g s.first s.shown p)) →
    all ≡ olds ++ page_between one p pair.before.bytes pair.after.bytes → all ≡ olds ++ pages_shown s iams (p ∷ [])
put_page_is s g iams p pair one due all olds same is said passes cell added =
    let is_one = sym said ∙ passes in
    let parts = and_parts (is_page_changed s.view.shape.geometry s.first s.shown p) (is_kind iams (page s.shown p)) is_one in
    added ∙ ap (λ xs. olds ++ page_between one p xs pair.after.bytes) is.before ∙ ap (λ xs. olds ++ page_between one p (page s.first p) xs) is.after
    ∙ ap (λ zs. olds ++ zs)
    (page_is g s.first s.shown p one (cell parts.1) ∙ ap (λ h. page_changes h s.first s.shown p) same ∙ sym (page_due s iams p is_one))
