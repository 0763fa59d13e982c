-- An object gets one more page.
use Rattle.std.proofs.Common.{◌≡◌, ℕ, zero, suc, ◌+◌, ◌^◌, ◌<◌, ◌==◌, not, Bool, true, false, List, length, drop, Option, Some, None, refl, sym, subst, arith}
use Rattle.std.specs.Prelude.{if◌then◌else◌}
use Rattle.std.proofs.lemmas.Bool.{eqb-true}
use Rattle.std.proofs.lemmas.List.{get_or-drop}
use Rattle.byteorder.specs.Numbers.{little_from-lt}
use Rattle.spec_file.specs.declared.data.Resource.TheVariants as resource
use Rattle.spec_file.specs.declared.geometry.Geometry.{Geometry}
use Rattle.spec_file.specs.CatalogRows.{CatalogRow}
use Rattle.spec_file.specs.Header.{says}
use Rattle.spec_file.specs.Iam.{iam_interval, has_interval}
use Rattle.spec_file.specs.Image.{Image, AreBytes, page, number_at}
use Rattle.spec_chain.specs.declared.end.ChainEnd.TheVariants as end
use Rattle.spec_chain.specs.Chains.{IsObject, object_of}
use Rattle.spec_chain.proofs.Pointers.{goes_good}
use Rattle.spec_words.specs.Views.{View, Plan}
use Rattle.spec_words.specs.Words.{◌then◌, found_or}
use Rattle.spec_alloc.specs.Search.{either}
use Rattle.spec_alloc.specs.SinglePages.{no_page}
use Rattle.spec_alloc.specs.Chains.{chain_now}
use Rattle.spec_alloc.specs.ObjectPages.{slot_page, marked_page, extent_page, object_page}
use Rattle.spec_steps.specs.Acts.{StaysClean, LeavesOthers}
use Rattle.law_chains.specs.Laws.{chain_pages, IsWhole}
use Rattle.law_chains.proofs.Allocated.{some_page}
use Rattle.law_frames.proofs.Held.{chain_of}
use Rattle.law_frames.proofs.OtherObjects.{others_are_kept}
use Rattle.law_net.specs.GoodViews.{Leads}
use Rattle.law_net.proofs.WordLaws.{leads_then, leads_give, leads_weaker}
use Rattle.law_alloc.proofs.Searches.{leads_from}
use Rattle.law_alloc.proofs.Objects.{none_leads}
use Rattle.law_kept.specs.Views.{IsCleanView}
use Rattle.law_kept.specs.Growing.{PageIsGot, GrowingLeavesMapsClean, GrowingLeavesOthers, GrowingLeavesSgamExact, GrowingChangesTaken}
use Rattle.law_kept.proofs.PartsTaken.{all_untaken}
use Rattle.law_kept.proofs.Singles.{Finds, either_leads, bare_from, file_of, start_of}
use Rattle.law_kept.proofs.ReadTables.{IsReadChain, chain_now_reads}
use Rattle.law_kept.proofs.Dropping.{IsTable}
use Rattle.law_kept.proofs.Grows.{Grows}
use Rattle.law_kept.proofs.SlotGrows.{slot_grows, marked_grows}
use Rattle.law_kept.proofs.ExtentGrows.{extent_grows}

-- ---- the id of an object has four bytes

number_low : (at : ℕ) (bytes : List ℕ) → AreBytes bytes → number_at 4 at bytes < 256 ^ 4
unfolding number_at
number_low at bytes low = little_from-lt 0 4 (drop at bytes) (λ k. subst (λ b. b < 256) (sym (get_or-drop at bytes k 0)) (low (at + k)))

own_test : (says_ own has : Bool) → (if not says_ then Some end.NotIam else (if not own then Some end.OtherObject else (if not has then Some end.WrongInterval else None))) ≡ None → own ≡ true
own_test true true has h = refl
own_test true false has h = absurd (cc)
own_test false own has h = absurd (cc)

row_low : (g : Geometry) (image : Image) (row : CatalogRow) (n : ℕ) → ((p : ℕ) → AreBytes (page image p)) → IsWhole g image row n → row.id < 256 ^ 4
row_low g image row n bytes whole =
    let q = row.first_iam in
    let good = goes_good g image row zero (whole.pages.pages zero (some_page g image row n whole)) in
    let own = own_test (says 10 q (page image q)) (object_of (page image q) == row.id) (has_interval g (length image) (iam_interval (page image q))) good.bytes in
    subst (λ m. m < 256 ^ 4) (eqb-true (object_of (page image q)) row.id own) (number_low 8 (page image q) (bytes q))

-- ---- the three ways

ways_grow : (v : View) (row : CatalogRow) (path : List ℕ) (n : ℕ) → IsTable v.shape v row → IsWhole v.shape.geometry v.now row n → row.id < 256 ^ 4
    → Leads (either (slot_page v.shape (chain_pages v.now row n) path) (either (marked_page v.shape (chain_pages v.now row n) path) (extent_page v.shape row (chain_pages v.now row n) path))) v
    (Finds v (Grows v.shape row v))
ways_grow v row path zero table whole low = absurd (let some = some_page v.shape.geometry v.now row zero whole in omega (arith, some))
ways_grow v row path (suc j) table whole low =
    let K = Grows v.shape row v in
    either_leads _ _ v K (slot_grows v row table (suc j) whole path) (either_leads _ _ v K (marked_grows v row table (suc j) whole path) (extent_grows v row table j whole low path))

object_grows : (v : View) (row : CatalogRow) (path : List ℕ) → IsCleanView v → IsObject v.now row → Leads (object_page v.shape row path) v (Grows v.shape row v)
object_grows v row path clean object =
    let K = Grows v.shape row v in
    let file = file_of v clean in
    let form = file.file in
    let low = form.low in
    let image = clean.image in
    let table : IsTable v.shape v row = record { file = file; start = start_of v clean; object = object } in
    leads_from (chain_now v.shape row) _ v (IsReadChain v row) K (chain_now_reads row v (omega (arith, low)) file.pages) (λ chain read.
    let ways : List ℕ → Plan (Option ℕ) = λ c. either (slot_page v.shape c path) (either (marked_page v.shape c path) (extent_page v.shape row c path)) in
    leads_then (ways chain) (λ found. found_or found (no_page v.shape)) v K (leads_weaker (ways chain) v (Finds v K) _ by_found
    (subst (λ c. Leads (ways c) v (Finds v K)) (sym read.is)
    (ways_grow v row path read.count table read.whole (row_low v.shape.geometry v.now row read.count image.bytes read.whole)))))
  where
    by_found : (found : Option ℕ) (w : View) → Finds v (Grows v.shape row v) found w → Leads (found_or found (no_page v.shape)) w (Grows v.shape row v)
    by_found None w same = none_leads v.shape w (Grows v.shape row v)
    by_found (Some p) w h = leads_give p w (Grows v.shape row v) h

-- a step on one object leaves all others theirs
pub leaves_others : (v w : View) (row : CatalogRow) → IsCleanView v → StaysClean v.shape.geometry v.now w.now row.id → LeavesOthers v.shape.geometry v.now w.now row
leaves_others v w row clean stays other object apart =
    others_are_kept v.shape.geometry v.now w.now row.id other stays.acts object apart (chain_of v.shape.geometry v.now other (start_of v clean) object)

pub page_is_got : PageIsGot
page_is_got v row path clean object = leads_weaker (object_page v.shape row path) v _ _ (λ p w h. h.gets) (object_grows v row path clean object)

pub growing_leaves_maps : GrowingLeavesMapsClean
growing_leaves_maps v row path clean object = leads_weaker (object_page v.shape row path) v _ _ (λ p w h. let stays = h.stays in stays.maps) (object_grows v row path clean object)

pub growing_leaves_others : GrowingLeavesOthers
growing_leaves_others v row path clean object = leads_weaker (object_page v.shape row path) v _ _ (λ p w h. leaves_others v w row clean h.stays) (object_grows v row path clean object)

pub growing_changes_taken : GrowingChangesTaken
growing_changes_taken v row path clean object table =
    leads_weaker (object_page v.shape row path) v _ _ (λ p w h. all_untaken v.shape.geometry v.now w row.id h.left (h.taken (resource.Table (record { 0 = row.id })) table)) (object_grows v row path clean object)

pub growing_leaves_sgam : GrowingLeavesSgamExact
growing_leaves_sgam v row path clean object others exact =
    leads_weaker (object_page v.shape row path) v _ _ (λ p w h. h.exact (bare_from v others) exact) (object_grows v row path clean object)
