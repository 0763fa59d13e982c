-- The bytes of a log fix its items, and its turns fix a run's history.
use Rattle.std.specs.Prelude.{◌≡◌, ℕ, false, List, ◌++◌}
use Rattle.std.specs.List.{list_any}
use Rattle.spec_log.specs.declared.item.Record.{Record}
use Rattle.spec_log.specs.Bytes.{log_bytes}
use Rattle.spec_log.specs.Rules.{HaveForm}
use Rattle.spec_script.specs.declared.reply.Reply.{Reply}
use Rattle.spec_run.specs.Entries.{Entry, items_of}
use Rattle.spec_run.specs.Begun.{Setting}
use Rattle.spec_run.specs.Progress.{is_short}
use Rattle.spec_run.specs.Turns.{AreTold, told_to, Run}
use Rattle.law_fixed.specs.Widths.{ItemsFit}
use Rattle.law_fixed.specs.CheckTurns.{HaveAsManyTurns}

-- two logs in their form that have the same bytes are the same
abbrev pub BytesFixItems : Type 0
BytesFixItems = (log log' : List Record) → HaveForm log → ItemsFit log → HaveForm log' → ItemsFit log' → log_bytes log ≡ log_bytes log' → log ≡ log'

-- so are two lists of items behind the same opened log, whatever that is
abbrev pub BytesFixAppended : Type 0
BytesFixAppended = (opened log log' : List Record) → HaveForm log → ItemsFit log → HaveForm log' → ItemsFit log' →
    log_bytes (log ++ opened) ≡ log_bytes (log' ++ opened) → log ≡ log'

-- no item stands for want of memory
abbrev pub IsNeverShort : List Entry → Type 0
IsNeverShort entries = list_any is_short (items_of entries) ≡ false

-- two histories have the same items, and tell each session the same, so that it has the same replies
pub record IsSameButForMarks (run : Setting) (entries entries' : List Entry) : Type 0 where
  pub items : items_of entries ≡ items_of entries'
  pub told : (s : ℕ) → told_to run s (items_of entries) ≡ told_to run s (items_of entries')
  pub replies : (s : ℕ) (given given' : List Reply) → AreTold run.geometry (told_to run s (items_of entries)) given →
      AreTold run.geometry (told_to run s (items_of entries')) given' → given ≡ given'

-- what the same turns make of the same entries is the same but for marks, where each check goes on in as many turns
-- and memory never runs out
abbrev pub TurnsFixHistory : Type 0
TurnsFixHistory = (run : Setting) (turns : List ℕ) (old new new' : List Entry) (one : Run run old turns new) (other : Run run old turns new') →
    IsNeverShort new → IsNeverShort new' → HaveAsManyTurns run turns old new old new' one other → IsSameButForMarks run new new'
