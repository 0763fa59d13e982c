-- Where a statement leaves a good view, its net changes and its takes are good, and nobody else holds what it takes.
use Rattle.std.proofs.Common.{◌≡◌, ℕ, zero, suc, ◌+◌, ◌/◌, ◌≤◌, get_or, Bool, true, false, List, [], ◌∷◌, length, Option, refl, sym, subst, arith}
use Rattle.std.specs.Prelude.{filter}
use Rattle.std.specs.List.{range_with_len}
use Rattle.std.proofs.lemmas.Bool.{both_ways, cond_both}
use Rattle.spec_file.specs.declared.data.Resource.{Resource}
use Rattle.spec_file.specs.declared.data.Resource.TheVariants as resource
use Rattle.spec_file.specs.Image.{Image, AreBytes}
use Rattle.spec_file.specs.Places.{HasShape, gam_place, sgam_place}
use Rattle.spec_words.specs.NetChanges.{FileShape, is_turned, is_byte_changed, is_page_changed}
use Rattle.spec_words.specs.Takes.{is_among, takes_at}
use Rattle.spec_script.specs.declared.reply.Reply.{Reply}
use Rattle.spec_words.specs.Views.{View, beginning, Plan}
use Rattle.spec_words.specs.Heaps.{insert_plan, count_plan, select_plan}
use Rattle.law_net.specs.Files.{IsImageOf}
use Rattle.spec_script.specs.declared.statement.Statement.TheVariants as statement
use Rattle.law_net.specs.GoodViews.{IsGoodView, Leads}
use Rattle.law_statements.specs.Statements.{IsGoodEnd, StatementsAreGood}
use Rattle.law_net.proofs.FewTakes.{takes_few}
use Rattle.law_net.proofs.ReadingLeaves.{count_leaves_view, select_leaves_view}
use Rattle.law_net.proofs.NetLaw.{net_changes_are_good}
use Rattle.law_net.proofs.WordLaws.{leads_weaker}
use Rattle.law_net.proofs.RowBytes.{bytes_low}
use Rattle.law_net.proofs.InsertKeeps.{IsGoodOf, insert_keeps}
use Rattle.spec_file.specs.Catalog.{is_name}
use Rattle.spec_statements.specs.Objects.{create_plan, drop_plan}
use Rattle.law_statements.proofs.ObjectKeeps.{create_keeps, drop_keeps}

filter_short : (test : ℕ → Bool) (n lo : ℕ) → length (filter test (range_with_len lo n)) ≤ n
filter_short test zero lo = omega arith
filter_short test (suc n) lo =
    let ih = filter_short test n (lo + 1) in
    cond_both (test lo) (lo ∷ filter test (range_with_len (lo + 1) n)) (filter test (range_with_len (lo + 1) n)) (λ xs. length xs ≤ suc n) (λ e. omega (arith, ih)) (λ e. omega (arith, ih))

pub good_end : (view : View) → IsGoodView view → IsGoodEnd view
good_end view good =
    let net = net_changes_are_good view.shape view.own view.taken view.start view.now good.before good.after good.differ in
    let n = view.shape.pages in
    let g = view.shape.geometry in
    let few = net.few in
    let low = file_low view.shape view.start good.before in
    let a = filter_short (λ e. is_turned view.start view.now (gam_place g e)) (n / 8) 0 in
    let b = filter_short (λ e. is_turned view.start view.now (sgam_place g e)) (n / 8) 0 in
    let c = filter_short (is_byte_changed g view.start view.now) n 0 in
    let d = filter_short (is_page_changed g view.start view.now) n 0 in record {
      net = net;
      free = λ k r lt. good.free (get_or (takes_at view) k r) (net.among k r lt);
      few = omega (arith, few, low, a, b, c, d);
      few_takes = takes_few view good (good_file view.shape view.start good.before);
    }
  where
    good_file : (shape : FileShape) (image : Image) → IsImageOf shape image → HasShape shape.geometry shape.pages
    good_file shape image is = is.file

    file_low : (shape : FileShape) (image : Image) → IsImageOf shape image → 16 ≤ shape.pages
    file_low shape image is = let file = is.file in file.low

none_among : (r : Resource) → is_among [] r ≡ true → ⊥
none_among r h = both_ways false refl h

pub begins_good : (shape : FileShape) (image : Image) (other : Resource → Option ℕ) (own : Resource → Bool) → IsImageOf shape image → IsGoodView (beginning shape image other own)
begins_good shape image other own is = record {
  before = is;
  after = is;
  differ = λ p i j here there low differ. absurd (differ refl);
  free = λ r h. absurd (none_among r h);
  known = λ r h. absurd (none_among r h);
}

insert_is_good : (shape : FileShape) (image : Image) (other : Resource → Option ℕ) (own : Resource → Bool) (name : List ℕ) (key : ℕ) (payload : List ℕ) →
    IsImageOf shape image → AreBytes payload → Leads (insert_plan shape name key payload) (beginning shape image other own) (λ reply view. IsGoodEnd view)
insert_is_good shape image other own name key payload is low =
    leads_weaker (insert_plan shape name key payload) (beginning shape image other own) (λ u w. IsGoodOf shape w) (λ u w. IsGoodEnd w) (λ u w g. good_end w g.good)
    (insert_keeps shape name key payload (beginning shape image other own) (bytes_low payload low) (λ o h. none_among (resource.Table o) h) (record { same = refl; good = begins_good shape image other own is }))

create_is_good : (shape : FileShape) (image : Image) (other : Resource → Option ℕ) (own : Resource → Bool) (name : List ℕ) → IsImageOf shape image → is_name name ≡ true →
    Leads (create_plan shape name) (beginning shape image other own) (λ reply view. IsGoodEnd view)
create_is_good shape image other own name is named =
    leads_weaker (create_plan shape name) (beginning shape image other own) (λ u w. IsGoodOf shape w) (λ u w. IsGoodEnd w) (λ u w g. good_end w g.good)
    (create_keeps shape name (beginning shape image other own) named (λ o h. none_among (resource.Table o) h) (record { same = refl; good = begins_good shape image other own is }))

drop_is_good : (shape : FileShape) (image : Image) (other : Resource → Option ℕ) (own : Resource → Bool) (name : List ℕ) → IsImageOf shape image →
    Leads (drop_plan shape name) (beginning shape image other own) (λ reply view. IsGoodEnd view)
drop_is_good shape image other own name is =
    leads_weaker (drop_plan shape name) (beginning shape image other own) (λ u w. IsGoodOf shape w) (λ u w. IsGoodEnd w) (λ u w g. good_end w g.good)
    (drop_keeps shape name (beginning shape image other own) (λ o h. none_among (resource.Table o) h) (record { same = refl; good = begins_good shape image other own is }))

-- where a view was left, its end is good as its beginning is
left_is_good : (shape : FileShape) (image : Image) (other : Resource → Option ℕ) (own : Resource → Bool) (plan : Plan Reply) → IsImageOf shape image →
    Leads plan (beginning shape image other own) (λ reply after. after ≡ beginning shape image other own) → Leads plan (beginning shape image other own) (λ reply after. IsGoodEnd after)
left_is_good shape image other own plan is left =
    let first = beginning shape image other own in
    leads_weaker plan first (λ reply w. w ≡ first) (λ reply w. IsGoodEnd w) (λ reply w e. subst IsGoodEnd (sym e) (good_end first (begins_good shape image other own is))) left

pub statements_are_good : StatementsAreGood
statements_are_good shape image other own statement.Begin is puts = tt
statements_are_good shape image other own statement.Commit is puts = tt
statements_are_good shape image other own statement.Rollback is puts = tt
statements_are_good shape image other own (statement.CreateHeap name) is named = create_is_good shape image other own name is named
statements_are_good shape image other own (statement.Drop name) is puts = drop_is_good shape image other own name is
statements_are_good shape image other own (statement.Insert table key payload) is puts = insert_is_good shape image other own table key payload is puts
statements_are_good shape image other own (statement.Count table) is puts =
    left_is_good shape image other own (count_plan shape table) is (count_leaves_view shape table (beginning shape image other own))
statements_are_good shape image other own (statement.Select table key) is puts =
    left_is_good shape image other own (select_plan shape table key) is (select_leaves_view shape table key (beginning shape image other own))
statements_are_good shape image other own (statement.Check workers) is puts = tt
