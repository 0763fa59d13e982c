-- The statements of a text are of the language.
use Rattle.std.proofs.Common.{ℕ, List, [], ◌∷◌, refl}
use Rattle.std.specs.Prelude.{IsTrue}
use Rattle.std.specs.List.{list_all}
use Rattle.std.proofs.lemmas.Bool.{and_from}
use Rattle.spec_script.specs.declared.statement.Statement.{Statement}
use Rattle.spec_script.specs.Lines.{is_statement, IsStatementLine}
use Rattle.spec_script.specs.Texts.{AreLines}

pub all_allowed : (lines : List (List ℕ)) (statements : List Statement) → AreLines IsStatementLine lines statements → IsTrue (list_all is_statement statements)
all_allowed [] [] said = refl
all_allowed [] (s ∷ statements) said = absurd said
all_allowed (line ∷ lines) [] said = absurd said
all_allowed (line ∷ lines) (s ∷ statements) said = and_from (is_statement s) (list_all is_statement statements) said.0.allowed (all_allowed lines statements said.1)
