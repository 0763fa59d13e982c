-- How many turns of a run a check takes between its Snap and its CheckEnd (this project's own).
use Rattle.std.specs.Prelude.{◌≡◌, ℕ, ◌+◌, ◌==◌, ◌&&◌, Bool, false, if◌then◌else◌, List, [], ◌∷◌}
use Rattle.spec_run.specs.Entries.{Entry}
use Rattle.spec_run.specs.Begun.{Setting}
use Rattle.spec_run.specs.Turns.{Turn, Rests, Appends, EndsAtOnce, Goes, Marks, Run}

-- in this turn the check of statement i of session s goes on: it takes an item back, reads pages, or finds that no item
-- is left to take back
abbrev pub goes_on : ℕ → ℕ → {run : Setting} {at : ℕ} {old new : List Entry} → Turn run at old new → Bool
goes_on s i (Rests is_done same) = false
goes_on s i (Appends x may_come more) = false
goes_on s i (EndsAtOnce index may_come more) = false
goes_on s i {at = at} (Goes index is_checking same) = (at == s) && (index == i)
goes_on s i {at = at} (Marks index is_checking is_first more) = (at == s) && (index == i)

-- in how many of these turns it goes on
abbrev pub check_turns : (s i : ℕ) (run : Setting) (old : List Entry) (turns : List ℕ) (new : List Entry) → Run run old turns new → ℕ
check_turns s i run old [] new made = 0
check_turns s i run old (at ∷ turns) new made = (if goes_on s i made.1 then 1 else 0) + check_turns s i run made.0 turns new made.2

-- each check goes on in as many turns of the one run as of the other
abbrev pub HaveAsManyTurns : (run : Setting) (turns : List ℕ) (old new old' new' : List Entry) → Run run old turns new → Run run old' turns new' → Type 0
HaveAsManyTurns run turns old new old' new' one other = (s i : ℕ) → check_turns s i run old turns new one ≡ check_turns s i run old' turns new' other
