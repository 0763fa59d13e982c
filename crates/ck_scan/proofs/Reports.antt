-- The reports of a file are its written check.
use Rattle.std.proofs.Common.{◌≡◌, ◌↔◌, ◌⊎◌, ◌<◌, List, [], ◌∷◌, Contains, length, arith, sym, subst, refl, inl, inr, ⊎_elim, Result, Ok, Err, IfOk}
use Rattle.ck_facts.specs.declared.map.AllocMap.{AllocMap}
use Rattle.ck_facts.specs.MapOf.{IsMapOf}
use Rattle.spec_file.specs.declared.geometry.Geometry.{Geometry}
use Rattle.spec_file.specs.Image.{Image, page}
use Rattle.spec_file.specs.Header.{page_type}
use Rattle.spec_check.specs.declared.report.CheckError.{CheckError}
use Rattle.spec_check.specs.declared.report.CheckReport.{CheckReport}
use Rattle.spec_check.specs.Errors.{Lists}
use Rattle.spec_check.specs.System.{IsSystemError, IsSystemSound, wrong_page}
use Rattle.spec_tables.specs.Written.{Stands, IsCheckOf}
use Rattle.spec_check.specs.Allocation.{IsAllocationError}
use Rattle.spec_chain.specs.Uses.{IsAllocatedTo}
use Rattle.spec_tree.specs.Trees.{IsTreeError}
use Rattle.spec_tables.specs.KnownPages.{known_of_image}
use Rattle.spec_tables.specs.PageRules.{IsPageError}
use Rattle.spec_tables.specs.Written.{IsRuleError}
use Rattle.ck_error.specs.Gathered.{Gathers}
use Rattle.ck_facts.specs.Maps.{HasNoSystemErrors}
use Rattle.ck_facts.specs.Owners.{owned}
use Rattle.ck_merge.specs.Held.{ListsTrees, roots_in, roots_of}
use Rattle.ck_scan.specs.declared.findings.Findings.{Findings}
use Rattle.ck_scan.specs.Shown.{IsErrorAt, Among}
use Rattle.ck_scan.specs.Found.{AreFound, IsAllShown}
use Rattle.ck_scan.specs.Lines.{IsReportOfRules}
use Rattle.spec_check.proofs.Members.{nothing_there, cons_here}
use Rattle.ck_scan.proofs.OwnerLaws.{OwnedAll, owned_there, one_row}
use Rattle.ck_scan.proofs.KnownLaws.{parts_show_trees, facts_of_all}

unsound_from : (g : Geometry) (image : Image) (x : CheckError) → IsSystemError g image x → IsSystemSound g image → ⊥
unsound_from g image x h sound = sound h.0 h.1 h.2

pub check_of_system : (g : Geometry) (image : Image) (system : List CheckError) (report : CheckReport) → 0 < length system
    → Lists system (IsSystemError g image) → report.errors ≡ system → report.tables ≡ [] → IsCheckOf g image report
check_of_system g image [] report some lists errors tables = absurd (omega (arith, some))
check_of_system g image (x ∷ xs) report some lists errors tables =
    let wrong : IsSystemError g image x = lists.sound x (cons_here x xs) in
    record {
      errors = subst (λ l. Lists l (Stands g image)) (sym errors) (record {
        sorted = lists.sorted;
        sound = λ y c. inl (lists.sound y c);
        complete = λ y s. ⊎_elim (λ is. lists.complete y is) (λ rest. absurd (unsound_from g image x wrong rest.0)) s;
      });
      tables = λ sound. absurd (unsound_from g image x wrong sound);
      unsound = λ h. tables;
    }

none_wrong : (g : Geometry) (image : Image) (system : List CheckError) → system ≡ [] → Lists system (IsSystemError g image)
    → (x : CheckError) → IsSystemError g image x → ⊥
none_wrong g image system none lists x h = nothing_there x (subst (λ l. Contains l x) none (lists.complete x h))

pub check_of_rules : (g : Geometry) (image : Image) (system : List CheckError) (report : CheckReport) → system ≡ []
    → Lists system (IsSystemError g image) → IsReportOfRules g image report → IsCheckOf g image report
check_of_rules g image system report none lists is =
    let never = none_wrong g image system none lists in
    let sound : IsSystemSound g image = λ p below wrong. never (wrong_page p (page_type (page image p))) (p, below, wrong, inl refl) in
    record {
      errors = record {
        sorted = is.errors.sorted;
        sound = λ y c. inr (sound, is.errors.sound y c);
        complete = λ y s. ⊎_elim (λ wrong. absurd (never y wrong)) (λ rest. is.errors.complete y rest.1) s;
      };
      tables = λ s. is.tables;
      unsound = λ h. absurd (never h.0 h.1);
    }

-- the reports of readers that tell an image
pub checked_together : {E : Type 0} (m : AllocMap) (r : Result CheckReport E) (Tells : Image → Type 0) → HasNoSystemErrors m
    → IfOk r (λ report. (image : Image) → IsMapOf image m → Tells image → IsReportOfRules m.geometry image report)
    → IfOk r (λ report. (image : Image) → IsMapOf image m → Tells image → IsCheckOf m.geometry image report)
checked_together {E} m (Ok report) Tells sound h = λ image of tells. check_of_rules m.geometry image m.system.items report sound of.system (h image of tells)
checked_together {E} m (Err e) Tells sound h = tt

pub empty_list : (xs : List CheckError) → length xs ≡ 0 → xs ≡ []
empty_list [] none = refl
empty_list (x ∷ xs) none = absurd (omega (arith, none))

-- what both lists have
pub record Joins (both first second : List CheckError) : Type 0 where
  pub joins : (x : CheckError) → Contains both x ↔ (Contains first x ⊎ Contains second x)

page_error_from : (image : Image) (m : AllocMap) (x : CheckError) → IsMapOf image m → HasNoSystemErrors m
    → Among (OwnedAll image m) (IsErrorAt m.geometry image) x → IsPageError m.geometry image x
page_error_from image m x of sound a =
    let owner = a.1.2 in
    let h = a.2 in
    let same : owner.row ≡ h.row = one_row image m a.0 owner.row h.row of sound (record { object = owner.object; id = owner.id }) h.of in
    record {
      row = h.row;
      number = a.0.0.0;
      object = h.of.object;
      allocated = subst (λ r. IsAllocatedTo m.geometry image r a.0.0.0) same owner.allocated;
      is = h.is;
    }

page_error_in : (image : Image) (m : AllocMap) (x : CheckError) → IsMapOf image m → IsPageError m.geometry image x
    → Among (OwnedAll image m) (IsErrorAt m.geometry image) x
page_error_in image m x of h = (
  owned h.number h.row.id,
  owned_there image m h.number h.row of.pages h.object h.allocated,
  record { row = h.row; of = record { object = h.object; id = refl }; is = h.is },
)

-- the errors of maps, pages and trees together
pub rule_errors : (image : Image) (m : AllocMap) (maps pages trees first all : List CheckError) → IsMapOf image m → HasNoSystemErrors m
    → Lists maps (IsAllocationError m.geometry image) → Gathers pages (Among (OwnedAll image m) (IsErrorAt m.geometry image))
    → Lists trees (IsTreeError (known_of_image m.geometry image)) → Joins first maps pages → Joins all first trees → Gathers all (IsRuleError m.geometry image)
rule_errors image m maps pages trees first all of sound of_maps of_pages of_trees one two = record {
  sound = λ x c. ⊎_elim
      (λ early. ⊎_elim (λ a. inl (of_maps.sound x a)) (λ b. inr (inl (page_error_from image m x of sound (of_pages.sound x b)))) ((one.joins x).0 early))
      (λ late. inr (inr (of_trees.sound x late))) ((two.joins x).0 c);
  complete = λ x s. (two.joins x).1 (⊎_elim (λ a. inl ((one.joins x).1 (inl (of_maps.complete x a))))
      (λ rest. ⊎_elim (λ b. inl ((one.joins x).1 (inr (of_pages.complete x (page_error_in image m x of b)))))
      (λ t. inr (of_trees.complete x t)) rest) s);
}

-- all that is shown, where all is found and the parts list what they hold
all_shown : (image : Image) (m : AllocMap) (found : Findings) (trees : List CheckError) → IsMapOf image m → HasNoSystemErrors m
    → roots_in found.parts ≡ roots_of m.objects.items → ListsTrees found.parts trees → AreFound image m (OwnedAll image m) found
    → IsAllShown image m found.errors.items trees found.lines.items
all_shown image m found trees of sound roots lists is = record {
  pages = is.errors;
  trees = parts_show_trees image m found.parts is.facts trees of sound (facts_of_all image m is.facts of is.each) is.held roots lists;
  lines = is.lines;
}

pub report_found : {E : Type 0} (m : AllocMap) (found : Findings) (trees : List CheckError) (r : Result CheckReport E) → HasNoSystemErrors m
    → roots_in found.parts ≡ roots_of m.objects.items → ListsTrees found.parts trees
    → IfOk r (λ report. (image : Image) → IsMapOf image m → IsAllShown image m found.errors.items trees found.lines.items → IsReportOfRules m.geometry image report)
    → IfOk r (λ report. (image : Image) → IsMapOf image m → AreFound image m (OwnedAll image m) found → IsReportOfRules m.geometry image report)
report_found {E} m found trees (Ok report) sound roots lists right = λ image of is. right image of (all_shown image m found trees of sound roots lists is)
report_found {E} m found trees (Err e) sound roots lists right = tt
