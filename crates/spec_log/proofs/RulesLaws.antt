-- The older part of a log keeps what the whole keeps.
use Rattle.std.specs.Prelude.{ℕ, List, [], ◌∷◌, ◌++◌}
use Rattle.spec_file.specs.declared.geometry.Geometry.{Geometry}
use Rattle.spec_log.specs.declared.item.Record.{Record}
use Rattle.spec_log.specs.Rules.{KeepsRules, HaveForm}

pub older_rules : (g : Geometry) (pages : ℕ) (newer older : List Record) → KeepsRules g pages (newer ++ older) → KeepsRules g pages older
older_rules g pages [] older rules = rules
older_rules g pages (x ∷ newer) older rules = older_rules g pages newer older rules.1

pub older_forms : (newer older : List Record) → HaveForm (newer ++ older) → HaveForm older
older_forms [] older forms = forms
older_forms (x ∷ newer) older forms = older_forms newer older forms.1
