-- What holds of texts of lines, whatever the lines are of.
use Rattle.std.specs.Prelude.{◌≡◌, ℕ, ◌≤◌, IsTrue, List, ◌++◌, length, codes, flat_map}
use Rattle.std.specs.List.{list_all}
use Rattle.spec_script.specs.declared.statement.Statement.{Statement}
use Rattle.spec_script.specs.declared.stop.ScriptWhy.{ScriptWhy}
use Rattle.spec_script.specs.Lines.{is_statement, statement_line}
use Rattle.spec_script.specs.Texts.{IsScript, IsText, IsWrongAt, longest_text, most_lines}

-- a text says one list
abbrev pub SaysOne : {X : Type 0} → (List ℕ → X → Type 0) → Type 0
SaysOne {X = X} IsLine = (text : List ℕ) (one other : List X) → IsText IsLine text one → IsText IsLine text other → one ≡ other

-- a text that says something has no wrong line
abbrev pub IsNeverBoth : {X : Type 0} → (List ℕ → X → Type 0) → Type 0
IsNeverBoth {X = X} IsLine =
    (text : List ℕ) (values : List X) (line : ℕ) (why : ScriptWhy) → IsText IsLine text values → IsWrongAt IsLine text line why → ⊥

-- a text has one first wrong line, for one reason
abbrev pub HasOneFault : {X : Type 0} → (List ℕ → X → Type 0) → Type 0
HasOneFault IsLine =
    (text : List ℕ) (line other : ℕ) (why because : ScriptWhy) → IsWrongAt IsLine text line why → IsWrongAt IsLine text other because
    → (line ≡ other) × (why ≡ because)

-- the line that is printed for a statement, with its end
abbrev pub printed : Statement → List ℕ
printed statement = statement_line statement ++ codes "\n"

-- statements that are printed one behind another are a script, and are read again
abbrev pub IsReadAgain : List Statement → Type 0
IsReadAgain statements =
    IsTrue (list_all is_statement statements) → length statements ≤ most_lines → length (flat_map printed statements) ≤ longest_text
    → IsScript (flat_map printed statements) statements
