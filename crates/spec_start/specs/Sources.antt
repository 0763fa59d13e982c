-- The sources of a run: a schedule and scripts, and the first of them that is wrong.
use Rattle.std.specs.List.{list_all}
use Rattle.std.specs.Prelude.{All, IsTrue, ℕ, zero, suc, ◌-◌, ◌≤◌, ◌<◌, List, [], ◌∷◌, length, take, drop, slice_index, slice_index_or, Option, Some, None, IfSome, ⊤}
use Rattle.pg_base.specs.Faults.{Rose}
use Rattle.spec_script.specs.declared.statement.Statement.{Statement}
use Rattle.spec_script.specs.declared.stop.ScriptWhy.{ScriptWhy}
use Rattle.spec_script.specs.Lines.{is_statement, IsStatementLine, IsTurnsLine}
use Rattle.spec_script.specs.Texts.{IsScript, IsSchedule, IsWrongAt}
use Rattle.spec_script.specs.declared.limits.TheConstants.{MOST_LINES}

-- each of these sources has the script in its place, where it is told
abbrev pub AreScripts : List (Option (List ℕ)) → List (List Statement) → Type 0
AreScripts [] [] = Unit {0}
AreScripts [] (script ∷ scripts) = ⊥
AreScripts (left ∷ lefts) [] = ⊥
AreScripts (left ∷ lefts) (script ∷ scripts) = IfSome left (λ bytes. IsScript bytes script) × AreScripts lefts scripts

-- no count fell
abbrev pub NoneFell : List ℕ → List ℕ → Type 0
NoneFell before now = (k : ℕ) → slice_index before k ≤ slice_index now k

-- one of these counts rose
abbrev pub OneRose : List ℕ → List ℕ → Type 0
OneRose before now = (k : ℕ) × (k < length before) × Rose (slice_index before k) (slice_index now k)

-- source k, counted from 0, is left with these bytes
abbrev pub left_at : List (Option (List ℕ)) → ℕ → Option (List ℕ)
left_at lefts k = slice_index_or lefts k None

-- each of these sources tells what it is left with
abbrev pub AreKnown : List (Option (List ℕ)) → Type 0
AreKnown [] = Unit {0}
AreKnown (None ∷ lefts) = ⊥
AreKnown (Some bytes ∷ lefts) = AreKnown lefts

-- script k, counted from 1, is the first of these sources that is wrong
pub record IsFirstWrong (lefts : List (Option (List ℕ))) (k line : ℕ) (why : ScriptWhy) : Type 0 where
  pub above : 0 < k
  pub within : k ≤ length lefts
  pub scripts : List (List Statement)
  pub before : AreScripts (take (k - 1) lefts) scripts
  pub wrong : IfSome (left_at lefts (k - 1)) (λ bytes. IsWrongAt IsStatementLine bytes line why)

-- one of these sources failed, and those before it are scripts
pub record HasFailedScript (lefts : List (Option (List ℕ))) (before now : List ℕ) : Type 0 where
  pub place : ℕ
  pub within : place < length before
  pub scripts : List (List Statement)
  pub texts : AreScripts (take place lefts) scripts
  pub rose : Rose (slice_index before place) (slice_index now place)

-- source 0 holds the schedule of as many sessions as there are others: it is wrong, or the first of these is
abbrev pub IsFirstOf : List (Option (List ℕ)) → ℕ → ℕ → ScriptWhy → Type 0
IsFirstOf lefts zero line why = IfSome (left_at lefts 0) (λ bytes. IsWrongAt (IsTurnsLine (length lefts - 1)) bytes line why)
IsFirstOf lefts (suc k) line why =
    (turns : List (ℕ × ℕ)) × IfSome (left_at lefts 0) (λ bytes. IsSchedule (length lefts - 1) bytes turns)
    × IsFirstWrong (drop 1 lefts) (suc k) line why

-- the sources before source k are right: source 0 is the schedule of as many sessions as there are others, and
-- these are scripts
abbrev pub AreTextsBefore : List (Option (List ℕ)) → ℕ → Type 0
AreTextsBefore lefts zero = ⊤
AreTextsBefore lefts (suc k) =
    (turns : List (ℕ × ℕ)) × IfSome (left_at lefts 0) (λ bytes. IsSchedule (length lefts - 1) bytes turns)
    × ((scripts : List (List Statement)) × AreScripts (take k (drop 1 lefts)) scripts)

-- a source failed, and those before it are right
pub record HasFailedSource (lefts : List (Option (List ℕ))) (before now : List ℕ) : Type 0 where
  pub place : ℕ
  pub within : place < length before
  pub texts : AreTextsBefore lefts place
  pub rose : Rose (slice_index before place) (slice_index now place)

-- the schedule and the scripts are those of the sources
pub record AreTexts (lefts : List (Option (List ℕ))) (turns : List (ℕ × ℕ)) (scripts : List (List Statement)) : Type 0 where
  pub schedule : IfSome (left_at lefts 0) (λ bytes. IsSchedule (length lefts - 1) bytes turns)
  pub others : AreScripts (drop 1 lefts) scripts

-- a turn line of a session of so many
abbrev pub IsTurnOf : ℕ → ℕ × ℕ → Type 0
IsTurnOf sessions turns = (0 < turns.0) × (turns.0 ≤ sessions)

abbrev pub AreTurnsOf : ℕ → List (ℕ × ℕ) → Type 0
AreTurnsOf sessions turns = All (IsTurnOf sessions) turns

-- all statements are of the language
abbrev pub AreProper : List (List Statement) → Type 0
AreProper scripts = All (λ script. IsTrue (list_all is_statement script)) scripts

-- no script has more statements than a script may have
abbrev pub AreShort : List (List Statement) → Type 0
AreShort scripts = All (λ script. length script ≤ MOST_LINES) scripts
