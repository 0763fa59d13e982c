-- A run begins, and its history.
use Rattle.std.proofs.Common.{◌≡◌, ℕ, ◌-◌, ◌≤◌, List, length, Option, IfSome, sym, ap, ◌∙◌, subst, arith}
use Rattle.std.specs.List.{list_all}
use Rattle.std.proofs.lemmas.List.{length-map}
use Rattle.std.proofs.lemmas.List.Sums.{list_all-from_AllPass}
use Rattle.spec_file.specs.Image.{Image}
use Rattle.spec_file.specs.Places.{HasShape}
use Rattle.spec_script.specs.Lines.{is_statement}
use Rattle.spec_run.specs.Begun.{Setting}
use Rattle.spec_run.specs.Openings.{or_small, geometry_said, setting_of}
use Rattle.db_core.specs.States.{Db}
use Rattle.spec_start.specs.Files.{AreAllPages, IsRunImage, PassesTests}
use Rattle.run_file.proofs.Shapes.{tested_shape}
use Rattle.spec_start.specs.Sources.{AreTexts, AreTurnsOf}
use Rattle.checkdb_top.specs.declared.start.Start.{Start}
use Rattle.checkdb_top.specs.Start.{Begins}
use Rattle.checkdb_top.specs.Runs.{IsRunOf}
use Rattle.checkdb_top.specs.Readiness.{scripts_of, MayBegin, IsOver}

-- the pages of a file that passes its tests are as many as the geometry allows that page 0 says
said_shape : (image : Image) → PassesTests image → HasShape (geometry_said image) (length image)
said_shape image tested =
    let said = tested_shape image tested in
    subst (λ g. HasShape (or_small g) (length image)) (sym said.1) said.2

-- a run of so many sources begins with this
abbrev pub StartsWith : ℕ → List (Option (List ℕ)) → Option (List ℕ) → Option (List ℕ) → Start → Type 0
StartsWith n lefts file log start = Begins (n - 1) lefts file log start.texts.schedule.items (scripts_of start) start.frames

pub may_begin : (lefts : List (Option (List ℕ))) (file log : Option (List ℕ)) (start : Start) (n : ℕ) → StartsWith n lefts file log start → n ≤ 17 → MayBegin start
may_begin lefts file log start n begins few =
    let same = length-map start.texts.scripts.items (λ script. script.items) in
    let count : length start.texts.scripts.items ≡ n - 1 = sym same ∙ begins.count in
    record {
      whole = begins.passes.0.whole;
      shape = said_shape start.frames begins.passes.0;
      few = omega (arith, count, few);
      short = begins.short;
      proper = list_all-from_AllPass (list_all is_statement) (scripts_of start) begins.proper;
      inside = subst (λ m. AreTurnsOf m start.texts.schedule.items) (sym count) begins.inside;
    }

pub is_run : (lefts : List (Option (List ℕ))) (file log : Option (List ℕ)) (start : Start) (core : Db)
    → IsOver start.frames start.texts.schedule.items (scripts_of start) core → (n : ℕ) → StartsWith n lefts file log start
    → IsRunOf lefts file log core.run core.entries
is_run lefts file log start core over n begins = record {
  turns = start.texts.schedule.items;
  counts = over.counts;
  begins = over.run ∙ sym (ap (λ (r : Setting). setting_of r.image r.scripts) over.run);
  texts = subst (λ (r : Setting). AreTexts lefts start.texts.schedule.items r.scripts) (sym over.run) begins.texts;
  passes = subst (λ (r : Setting). IsRunImage r.image) (sym over.run) begins.passes;
  pages = subst (λ (r : Setting). IfSome file (AreAllPages r.image)) (sym over.run) begins.pages;
  empty = begins.empty;
  rest = over.rest ∙ sym (ap (λ (r : Setting). length r.scripts) over.run);
  left = over.left;
  after = over.after;
  taken = over.taken;
  whole = over.whole;
}
