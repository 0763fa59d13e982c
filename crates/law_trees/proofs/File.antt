-- The trees of a whole file.
use Rattle.std.proofs.Common.{◌≡◌, ◌≢◌, List, [], ◌∷◌, Contains, refl, sym, ap, ◌∙◌, subst, inl, inr, ⊎_elim, arith}
use Rattle.spec_check.proofs.Members.{nothing_there, cons_here}
use Rattle.spec_check.specs.declared.report.CheckError.{CheckError}
use Rattle.spec_file.specs.declared.geometry.Geometry.{Geometry}
use Rattle.spec_file.specs.Image.{Image, page}
use Rattle.spec_tree.specs.declared.known.Root.{Root}
use Rattle.spec_tables.specs.KnownPages.{known_of_image}
use Rattle.spec_tables.specs.PageRules.{IsPageError}
use Rattle.spec_tables.specs.Written.{Stands}
use Rattle.law_trees.specs.Laws.{HasSoundSystem, HasSoundTables, IsSoundBesideTrees, HasTrees, SoundFileHasTrees, CleanReportHasTrees}
use Rattle.law_trees.proofs.Objects.{error_table}
use Rattle.law_trees.proofs.FaultNumbers.{fault_other}
use Rattle.law_trees.proofs.Tables.{lists}
use Rattle.law_trees.proofs.Proved.{sound_table_is_tree}

trees : (g : Geometry) (image : Image) → HasSoundSystem g image → HasSoundTables g image → HasTrees g image
trees g image system sound row ps object clustered seen =
    (sound_table_is_tree g image row ps system object clustered seen).0 ((λ x at stands. sound.0 x stands), sound.1 row object)

sound : (g : Geometry) (image : Image) → HasSoundSystem g image → HasTrees g image → HasSoundTables g image
sound g image system has = (
  (λ x stands.
      let t = (error_table (known_of_image g image) stands.0 x stands.1).1 in
      let row = t.known.row in
      let id : x.object ≡ row.id = sym t.object ∙ ap (λ (r : Root). r.object.0) t.known.is in
      let ps = lists g image system row t.known.object in
      ((sound_table_is_tree g image row ps.0 system t.known.object t.known.clustered ps.1).1 (has row ps.0 t.known.object t.known.clustered ps.1)).0 x id stands),
  (λ row object p x seen h.
      let ps = lists g image system row object in
      ((sound_table_is_tree g image row ps.0 system object h.clustered ps.1).1 (has row ps.0 object h.clustered ps.1)).1 p x seen h),
)

pub sound_file_has_trees : SoundFileHasTrees
sound_file_has_trees g image system = (trees g image system, sound g image system)

no_errors : (xs : List CheckError) → ((x : CheckError) → Contains xs x → ⊥) → xs ≡ []
no_errors [] never = refl
no_errors (x ∷ xs) never = absurd (never x (cons_here x xs))

-- an error is another one than that of keys out of order, where its number is
number_other : (x y : CheckError) → x ≡ y → y.number ≢ 2511 → x.number ≢ 2511
number_other x y e differs = λ at. differs (sym (ap (λ (z : CheckError). z.number) e) ∙ at)

no_page_error : (g : Geometry) (image : Image) → IsSoundBesideTrees g image → HasSoundTables g image → (x : CheckError) → IsPageError g image x → ⊥
no_page_error g image beside file x h =
    let other : x.number ≢ 2511 → ⊥ = λ differs. beside x (inr (h, differs)) in ⊎_elim
    (λ system. other (number_other x _ system.1 (λ e. omega (arith, e))))
    (λ own. ⊎_elim
    (λ fault. other (number_other x _ fault.is (fault_other h.number h.row.id h.row.kind (page image h.number) fault.fault fault.first)))
    (λ rest. ⊎_elim
    (λ order. file.1 h.row h.object h.number x (record { allocated = h.allocated; ordinary = own.0; passes = order.passes }) order)
    (λ full. other (number_other x _ full.is (λ e. omega (arith, e)))) rest)
    own.1) h.is

none_stands : (g : Geometry) (image : Image) → HasSoundSystem g image → IsSoundBesideTrees g image → HasSoundTables g image → (x : CheckError) → Stands g image x → ⊥
none_stands g image system beside file x stands = ⊎_elim
    (λ wrong. system.0 wrong.0 wrong.1 wrong.2)
    (λ rule. ⊎_elim (λ allocation. beside x (inl allocation)) (λ rest. ⊎_elim (no_page_error g image beside file x) (file.0 x) rest) rule.1) stands

pub clean_report_has_trees : CleanReportHasTrees
clean_report_has_trees g image report system check = (
  λ free.
      let none : (x : CheckError) → Stands g image x → ⊥ = λ x stands. nothing_there x (subst (λ xs. Contains xs x) free (check.errors.complete x stands)) in (
        λ x h. none x (inr (system.0, ⊎_elim (λ allocation. inl allocation) (λ own. inr (inl own.0)) h)),
        trees g image system (
          λ x tree. none x (inr (system.0, inr (inr tree))),
          λ row object p x seen wrong. none x (inr (
            system.0,
            inr (inl (record {
              row = row;
              number = p;
              object = object;
              allocated = seen.allocated;
              is = inr (seen.ordinary, inr (inl wrong));
            })),
          )),
        ),
      ),
  λ both.
      let file = sound g image system both.1 in
      no_errors report.errors (λ x i. none_stands g image system both.0 file x (check.errors.sound x i)),
)
