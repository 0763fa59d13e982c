-- Texts of lines: scripts and schedules (this project's own). Lines end in LF, of which the last may lack it; a CR
-- before LF is dropped, as `str::lines` does. Empty lines and lines that begin with `--` are skipped.
use Rattle.std.specs.Prelude.{◌≡◌, ℕ, ◌+◌, ◌<◌, ◌≤◌, ◌==◌, ◌||◌, Bool, IsTrue, not, List, [], ◌∷◌, ◌++◌, length, filter, codes, nat_eq}
use Rattle.std.specs.List.{starts_with}
use Rattle.std.specs.Str.Lines.{lines}
use Rattle.spec_script.specs.declared.limits.TheConstants.{LONGEST_TEXT, MOST_LINES}
use Rattle.spec_script.specs.declared.statement.Statement.{Statement}
use Rattle.spec_script.specs.declared.stop.ScriptWhy.{ScriptWhy}
use Rattle.spec_script.specs.declared.stop.ScriptWhy.TheVariants as why
use Rattle.spec_script.specs.Lines.{IsStatementLine, IsTurnsLine}

-- the most bytes of a text, and the most lines of it that aren't skipped
abbrev pub longest_text : ℕ
longest_text = LONGEST_TEXT

abbrev pub most_lines : ℕ
most_lines = MOST_LINES

abbrev pub is_skipped : List ℕ → Bool
is_skipped line = (length line == 0) || starts_with nat_eq line (codes "--")

-- the lines that aren't skipped
abbrev pub kept : List (List ℕ) → List (List ℕ)
kept lines = filter (λ line. not (is_skipped line)) lines

module _ {X : Type 0} (IsLine : List ℕ → X → Type 0) where
  -- each line is that of the value in its place
  abbrev pub AreLines : List (List ℕ) → List X → Type 0
  AreLines [] [] = Unit {0}
  AreLines [] (value ∷ values) = ⊥
  AreLines (line ∷ lines) [] = ⊥
  AreLines (line ∷ lines) (value ∷ values) = IsLine line value × AreLines lines values

  -- a text of the language, and what its lines say
  pub record IsText (text : List ℕ) (values : List X) : Type 0 where
    pub size : length text ≤ longest_text
    pub said : AreLines (kept (lines text)) values
    pub count : length values ≤ most_lines

  -- line n of a text, counted from 1, isn't skipped, and all before it are lines of the language
  pub record Reaches (text : List ℕ) (n : ℕ) (line : List ℕ) (values : List X) : Type 0 where
    pub before : List (List ℕ)
    pub after : List (List ℕ)
    pub parts : lines text ≡ before ++ line ∷ after
    pub number : n ≡ length before + 1
    pub said : AreLines (kept before) values
    pub shown : IsTrue (not (is_skipped line))

  -- the first line of a text that is wrong, and why; line 0 where the text is too long
  abbrev pub IsWrongAt : List ℕ → ℕ → ScriptWhy → Type 0
  IsWrongAt text n why.Size = (n ≡ 0) × (longest_text < length text)
  IsWrongAt text n why.Statement =
      (length text ≤ longest_text) × (line : List ℕ) × (values : List X) × Reaches text n line values
      × (length values ≤ most_lines) × ((value : X) → ¬ (IsLine line value))
  IsWrongAt text n why.Many =
      (length text ≤ longest_text) × (line : List ℕ) × (values : List X) × Reaches text n line values
      × (length values ≡ most_lines) × (value : X) × IsLine line value

-- a script and its statements
abbrev pub IsScript : List ℕ → List Statement → Type 0
IsScript text statements = IsText IsStatementLine text statements

-- a schedule for so many sessions, and its turns
abbrev pub IsSchedule : ℕ → List ℕ → List (ℕ × ℕ) → Type 0
IsSchedule sessions text turns = IsText (IsTurnsLine sessions) text turns
