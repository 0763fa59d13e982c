-- Where reading a text stops.
use Rattle.std.specs.Prelude.{◌≡◌, ℕ, ◌≤◌, ◌<◌, IsTrue, not, List, [], ◌∷◌, ◌++◌, length, Result, Ok, Err, Option, Some, None, ⊤}
use Rattle.spec_script.specs.declared.stop.ScriptWhy.{ScriptWhy}
use Rattle.spec_script.specs.declared.stop.ScriptWhy.TheVariants as why
use Rattle.spec_script.specs.Texts.{AreLines, IsWrongAt, kept, is_skipped, most_lines}
use Rattle.sql_script.specs.declared.stop.ScriptStop.{ScriptStop}
use Rattle.sql_script.specs.declared.stop.ScriptStop.TheVariants.{Fault, NoMemory}

-- one value more, where there is room for it
abbrev pub Grows : {X : Type 0} → Option X → List X → List X → Type 0
Grows None before now = ⊥
Grows (Some x) before now = (now ≡ before ++ x ∷ []) × (length before < most_lines)

-- no value, or one too many
abbrev pub IsWrong : {X : Type 0} → Option X → List X → ScriptWhy → Type 0
IsWrong None before why.Statement = ⊤
IsWrong None before why.Many = ⊥
IsWrong None before why.Size = ⊥
IsWrong (Some x) before why.Statement = ⊥
IsWrong (Some x) before why.Many = length before ≡ most_lines
IsWrong (Some x) before why.Size = ⊥

-- a fault at this line, with this value
abbrev pub StopsValue : {X T : Type 0} → ℕ → Option X → List X → Result T ScriptStop → Type 0
StopsValue number o before (Err (Fault at why)) = (at ≡ number) × IsWrong o before why
StopsValue number o before (Err NoMemory) = ⊤
StopsValue number o before (Ok value) = ⊤

module _ {X : Type 0} (IsLine : List ℕ → X → Type 0) where
  -- a fault names the first wrong line and why; want of memory is free
  abbrev pub StopsAt : {T : Type 0} → List ℕ → Result T ScriptStop → Type 0
  StopsAt text (Err (Fault line why)) = IsWrongAt IsLine text line why
  StopsAt text (Err NoMemory) = ⊤
  StopsAt text (Ok value) = ⊤

  -- the value of the line, where it has one
  abbrev pub Tells : List ℕ → Option X → Type 0
  Tells line None = (value : X) → ¬ (IsLine line value)
  Tells line (Some value) = IsLine line value

  -- the values with what one more line says, which is nothing where it is skipped
  pub record Takes (line : List ℕ) (before now : List X) : Type 0 where
    pub added : List X
    pub grown : now ≡ before ++ added
    pub said : AreLines IsLine (kept (line ∷ [])) added
    pub few : length now ≤ most_lines

  -- a line that isn't skipped is wrong behind so many values
  abbrev pub IsWrongLine : List ℕ → List X → ScriptWhy → Type 0
  IsWrongLine line values why.Size = ⊥
  IsWrongLine line values why.Statement = IsTrue (not (is_skipped line)) × ((value : X) → ¬ (IsLine line value))
  IsWrongLine line values why.Many =
      IsTrue (not (is_skipped line)) × (length values ≡ most_lines) × (value : X) × IsLine line value

  -- a fault at this line
  abbrev pub StopsLine : {T : Type 0} → ℕ → List ℕ → List X → Result T ScriptStop → Type 0
  StopsLine number line values (Err (Fault at why)) = (at ≡ number) × IsWrongLine line values why
  StopsLine number line values (Err NoMemory) = ⊤
  StopsLine number line values (Ok value) = ⊤
