-- One step of the committed image, and what a search through a log answers.
use Rattle.std.specs.Prelude.{◌≡◌, ℕ, if◌then◌else◌, List, [], Option, Some, None}
use Rattle.spec_file.specs.declared.data.Lsn.{Lsn}
use Rattle.spec_file.specs.Image.{Image}
use Rattle.spec_log.specs.declared.item.Record.{Record}
use Rattle.spec_log.specs.declared.item.Record.TheVariants.{Change}
use Rattle.spec_log.specs.Log.{has_committed, left_of}
use Rattle.spec_log.specs.Rules.{IsLastLeft}
use Rattle.spec_log.specs.Cells.{put}

-- the image with what a Change left, where its transaction has committed in the log; any other item puts
-- nothing
abbrev pub with_committed : List Record → Record → Image → Image
with_committed log (Change tran cell before after) image = if has_committed log tran.0 then put image cell after else image
with_committed log other image = image

-- the change with this LSN is the newest of its transaction that isn't undone; none where all are
abbrev pub IsNewestLeft : List Record → ℕ → Option Lsn → Type 0
IsNewestLeft log t None = left_of t log ≡ []
IsNewestLeft log t (Some lsn) = IsLastLeft log t lsn.0
