-- A legal history makes files of bytes.
use Rattle.std.specs.Prelude.{ℕ, List}
use Rattle.spec_log.specs.declared.item.Record.{Record}
use Rattle.spec_log.specs.Images.{view_of, final_image}
use Rattle.spec_run.specs.Begun.{Setting}
use Rattle.spec_run.specs.OfBytes.{HasPagesOfBytes}
use Rattle.spec_run.specs.Turns.{IsLegal}
use Rattle.law_run.specs.Laws.{IsStart}

-- the pages of the file as it stands are of bytes, and those of every view
abbrev pub ImagesAreOfBytes : Type 0
ImagesAreOfBytes = (run : Setting) (log : List Record) (t : ℕ) → IsStart run → IsLegal run log →
    HasPagesOfBytes (final_image run.opened log run.image) × HasPagesOfBytes (view_of t run.opened log run.image)
