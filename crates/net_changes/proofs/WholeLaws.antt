-- All parts of the net changes, one behind another.
use Rattle.std.proofs.Common.{◌≡◌, ℕ, ◌/◌, true, false, List, ◌++◌, append_assoc, refl, ap, ◌∙◌}
use Rattle.std.specs.List.{range_with_len}
use Rattle.spec_file.specs.declared.geometry.Geometry.{Geometry}
use Rattle.spec_file.specs.Places.{gam_place, sgam_place}
use Rattle.spec_plan.specs.declared.plan.Planned.{Planned}
use Rattle.spec_words.specs.NetChanges.{part_changes, bit_changes, run_changes, iam_changes, other_changes, changes_of}
use Rattle.db_locks.specs.States.{PlanState}
use Rattle.net_changes.specs.declared.maps.Map.TheVariants.{Gam, Sgam}
use Rattle.net_changes.specs.Shown.{map_place, bits_shown, runs_shown, pages_shown}

gams_are : (s : PlanState) (g : Geometry) (pages : ℕ) → g ≡ s.view.shape.geometry → pages ≡ s.view.shape.pages →
    bits_shown s (map_place Gam g) 0 (pages / 8) ≡ bit_changes s.view.shape (gam_place s.view.shape.geometry) s.first s.shown
unfolding bits_shown
gams_are s g pages e f = ap (λ h. bits_shown s (gam_place h) 0 (pages / 8)) e ∙ ap (λ n. bits_shown s (gam_place s.view.shape.geometry) 0 (n / 8)) f

sgams_are : (s : PlanState) (g : Geometry) (pages : ℕ) → g ≡ s.view.shape.geometry → pages ≡ s.view.shape.pages →
    bits_shown s (map_place Sgam g) 0 (pages / 8) ≡ bit_changes s.view.shape (sgam_place s.view.shape.geometry) s.first s.shown
unfolding bits_shown
sgams_are s g pages e f = ap (λ h. bits_shown s (sgam_place h) 0 (pages / 8)) e ∙ ap (λ n. bits_shown s (sgam_place s.view.shape.geometry) 0 (n / 8)) f

runs_are : (s : PlanState) (pages : ℕ) → pages ≡ s.view.shape.pages → runs_shown s 0 pages ≡ run_changes s.view.shape s.first s.shown
unfolding runs_shown
runs_are s pages f = ap (runs_shown s 0) f

iams_are : (s : PlanState) → pages_shown s true (range_with_len 0 s.view.shape.pages) ≡ iam_changes s.view.shape s.first s.shown
unfolding pages_shown
iams_are s = refl

others_are : (s : PlanState) → pages_shown s false (range_with_len 0 s.view.shape.pages) ≡ other_changes s.view.shape s.first s.shown
unfolding pages_shown
others_are s = refl

-- six parts behind what was there
six : {A : Type 0} (x a b c d e f : List A) → (((((x ++ a) ++ b) ++ c) ++ d) ++ e) ++ f ≡ x ++ (a ++ (b ++ (c ++ (d ++ (e ++ f)))))
six x a b c d e f = simp append_assoc

pub six_parts : (s : PlanState) (g : Geometry) (pages : ℕ) (x x1 x2 x3 x4 x5 x6 : List Planned) → g ≡ s.view.shape.geometry → pages ≡ s.view.shape.pages →
    x1 ≡ x ++ bits_shown s (map_place Gam g) 0 (pages / 8) → x2 ≡ x1 ++ bits_shown s (map_place Sgam g) 0 (pages / 8) → x3 ≡ x2 ++ runs_shown s 0 pages →
    x4 ≡ x3 ++ pages_shown s true (range_with_len 0 s.view.shape.pages) → x5 ≡ x4 ++ part_changes s.first s.shown 9 0 8192 →
    x6 ≡ x5 ++ pages_shown s false (range_with_len 0 s.view.shape.pages) → x6 ≡ x ++ changes_of s.view.shape s.first s.shown
six_parts s g pages x x1 x2 x3 x4 x5 x6 same count e1 e2 e3 e4 e5 e6 =
    let boot = part_changes s.first s.shown 9 0 8192 in
    let f1 = e1 ∙ ap (λ zs. x ++ zs) (gams_are s g pages same count) in
    let f2 = e2 ∙ ap (λ zs. x1 ++ zs) (sgams_are s g pages same count) ∙ ap (λ zs. zs ++ bit_changes s.view.shape (sgam_place s.view.shape.geometry) s.first s.shown) f1 in
    let f3 = e3 ∙ ap (λ zs. x2 ++ zs) (runs_are s pages count) ∙ ap (λ zs. zs ++ run_changes s.view.shape s.first s.shown) f2 in
    let f4 = e4 ∙ ap (λ zs. x3 ++ zs) (iams_are s) ∙ ap (λ zs. zs ++ iam_changes s.view.shape s.first s.shown) f3 in
    let f5 = e5 ∙ ap (λ zs. zs ++ boot) f4 in
    e6 ∙ ap (λ zs. x5 ++ zs) (others_are s) ∙ ap (λ zs. zs ++ other_changes s.view.shape s.first s.shown) f5
    ∙ six x (bit_changes s.view.shape (gam_place s.view.shape.geometry) s.first s.shown) (bit_changes s.view.shape (sgam_place s.view.shape.geometry) s.first s.shown)
    (run_changes s.view.shape s.first s.shown) (iam_changes s.view.shape s.first s.shown) boot (other_changes s.view.shape s.first s.shown)
