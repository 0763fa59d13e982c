-- Every planned statement leaves clean maps clean, and changes what a part reads only where its resource is taken.
use Rattle.std.proofs.Common.{◌≡◌, refl, sym, subst}
use Rattle.spec_file.specs.declared.data.Resource.{Resource}
use Rattle.spec_file.specs.declared.data.Resource.TheVariants as resource
use Rattle.spec_file.specs.declared.geometry.Geometry.{Geometry}
use Rattle.spec_file.specs.Image.{Image}
use Rattle.spec_script.specs.declared.statement.Statement.TheVariants as statement
use Rattle.spec_words.specs.Views.{View}
use Rattle.spec_words.specs.Heaps.{count_plan, insert_plan, select_plan}
use Rattle.spec_clean.specs.CleanFiles.{HasCleanMaps}
use Rattle.spec_steps.specs.PartsRead.{ReadsSame}
use Rattle.spec_steps.specs.Sgam.{HasExactSgam}
use Rattle.law_net.proofs.WordLaws.{leads_weaker}
use Rattle.law_net.proofs.ReadingLeaves.{count_leaves_view, select_leaves_view}
use Rattle.law_kept.specs.Parts.{ChangesTaken}
use Rattle.law_kept.specs.Statements.{StatementsLeaveMapsClean, StatementsChangeTaken, StatementsLeaveSgamExact}
use Rattle.law_kept.proofs.Created.{create_leaves_maps, create_leaves_sgam, create_changes_taken}
use Rattle.law_kept.proofs.Dropped.{drop_leaves_maps, drop_leaves_sgam, drop_changes_taken}
use Rattle.law_kept.proofs.Inserts.{insert_goes}

-- of an image the same is read as of itself
reads_itself : (g : Geometry) (image : Image) (r : Resource) → ReadsSame g image image r
reads_itself g image resource.Catalog = record { boot = refl; system = λ q type inside is. refl }
reads_itself g image (resource.Extent e) = λ low. record { free = refl; mixed = refl; uses = λ p at u. (λ h. h, λ h. h); marks = λ o. (λ h. h, λ h. h); bytes = λ p at of. refl }
reads_itself g image (resource.Table o) = record {
  rows = λ row same. (λ h. h, λ h. h);
  owned = λ row object same. record { pages = λ p has inside ordinary. refl; bytes = λ p owns inside. refl };
}
reads_itself g image (resource.Byte p) = tt
reads_itself g image (resource.Page p) = tt

-- a view that stays changes nothing
stays_same : (v w : View) → w ≡ v → ChangesTaken v w
stays_same v w same r none = subst (λ x. ReadsSame v.shape.geometry v.now x.now r) (sym same) (reads_itself v.shape.geometry v.now r)

pub statements_leave_maps : StatementsLeaveMapsClean
statements_leave_maps v statement.Begin bytes clean = tt
statements_leave_maps v statement.Commit bytes clean = tt
statements_leave_maps v statement.Rollback bytes clean = tt
statements_leave_maps v (statement.CreateHeap name) bytes clean = create_leaves_maps v name bytes clean
statements_leave_maps v (statement.Drop name) bytes clean = drop_leaves_maps v name clean
statements_leave_maps v (statement.Insert name key payload) bytes clean = leads_weaker (insert_plan v.shape name key payload) v _ _ (λ reply w h. h.maps) (insert_goes v name key payload clean)
statements_leave_maps v (statement.Count name) bytes clean =
    leads_weaker (count_plan v.shape name) v _ _ (λ reply w same. subst (λ (x : View). HasCleanMaps v.shape.geometry x.now) (sym same) clean.maps) (count_leaves_view v.shape name v)
statements_leave_maps v (statement.Select name key) bytes clean =
    leads_weaker (select_plan v.shape name key) v _ _ (λ reply w same. subst (λ (x : View). HasCleanMaps v.shape.geometry x.now) (sym same) clean.maps) (select_leaves_view v.shape name key v)
statements_leave_maps v (statement.Check workers) bytes clean = tt

pub statements_change_taken : StatementsChangeTaken
statements_change_taken v statement.Begin bytes clean = tt
statements_change_taken v statement.Commit bytes clean = tt
statements_change_taken v statement.Rollback bytes clean = tt
statements_change_taken v (statement.CreateHeap name) bytes clean = create_changes_taken v name bytes clean
statements_change_taken v (statement.Drop name) bytes clean = drop_changes_taken v name clean
statements_change_taken v (statement.Insert name key payload) bytes clean = leads_weaker (insert_plan v.shape name key payload) v _ _ (λ reply w h. h.parts) (insert_goes v name key payload clean)
statements_change_taken v (statement.Count name) bytes clean = leads_weaker (count_plan v.shape name) v _ _ (λ reply w same. stays_same v w same) (count_leaves_view v.shape name v)
statements_change_taken v (statement.Select name key) bytes clean = leads_weaker (select_plan v.shape name key) v _ _ (λ reply w same. stays_same v w same) (select_leaves_view v.shape name key v)
statements_change_taken v (statement.Check workers) bytes clean = tt

pub statements_leave_sgam : StatementsLeaveSgamExact
statements_leave_sgam v statement.Begin bytes clean others exact = tt
statements_leave_sgam v statement.Commit bytes clean others exact = tt
statements_leave_sgam v statement.Rollback bytes clean others exact = tt
statements_leave_sgam v (statement.CreateHeap name) bytes clean others exact = create_leaves_sgam v name bytes clean others exact
statements_leave_sgam v (statement.Drop name) bytes clean others exact = drop_leaves_sgam v name clean exact
statements_leave_sgam v (statement.Insert name key payload) bytes clean others exact =
    leads_weaker (insert_plan v.shape name key payload) v _ _ (λ reply w h. h.exact exact) (insert_goes v name key payload clean)
statements_leave_sgam v (statement.Count name) bytes clean others exact =
    leads_weaker (count_plan v.shape name) v _ _ (λ reply w same. subst (λ (x : View). HasExactSgam v.shape.geometry x.now) (sym same) exact) (count_leaves_view v.shape name v)
statements_leave_sgam v (statement.Select name key) bytes clean others exact =
    leads_weaker (select_plan v.shape name key) v _ _ (λ reply w same. subst (λ (x : View). HasExactSgam v.shape.geometry x.now) (sym same) exact) (select_leaves_view v.shape name key v)
statements_leave_sgam v (statement.Check workers) bytes clean others exact = tt
