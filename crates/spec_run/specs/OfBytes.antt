-- What a run's file, log and scripts are made of: bytes, and statements that a script can have (this project's own).
use Rattle.std.specs.Prelude.{◌≡◌, ℕ, true, List, [], ◌∷◌, slice_get, Some}
use Rattle.spec_file.specs.Image.{Image, AreBytes, page}
use Rattle.spec_log.specs.declared.item.Record.{Record}
use Rattle.spec_log.specs.declared.item.Record.TheVariants.{Change}
use Rattle.spec_script.specs.declared.statement.Statement.{Statement}
use Rattle.spec_script.specs.Lines.{is_statement}
use Rattle.spec_run.specs.Begun.{Setting}
use Rattle.spec_run.specs.Progress.{script_of}

-- what a change found and what it puts are bytes
abbrev pub PutsBytes : Record → Type 0
PutsBytes (Change tran cell before after) = AreBytes before × AreBytes after
PutsBytes other = Unit {0}

abbrev pub AllPutBytes : List Record → Type 0
AllPutBytes [] = Unit {0}
AllPutBytes (x ∷ log) = PutsBytes x × AllPutBytes log

-- every page is of bytes
abbrev pub HasPagesOfBytes : Image → Type 0
HasPagesOfBytes image = (p : ℕ) → AreBytes (page image p)

-- each statement is one that a line of a script can have
abbrev pub AreProper : Setting → Type 0
AreProper run = (s n : ℕ) (st : Statement) → slice_get (script_of run.scripts s) n ≡ Some st → is_statement st ≡ true
