-- What a log of bytes makes of a file of bytes is of bytes.
use Rattle.std.proofs.Common.{ℕ, List, [], ◌∷◌, ◌++◌}
use Rattle.spec_file.specs.Image.{Image, AreBytes}
use Rattle.spec_log.specs.declared.item.Cell.{Cell}
use Rattle.spec_log.specs.declared.item.Record.{Record}
use Rattle.spec_log.specs.declared.item.Record.TheVariants.{Start, Change, Undo, Commit, Abort, Snap, Failed, CheckEnd}
use Rattle.spec_log.specs.Cells.{put}
use Rattle.spec_log.specs.Images.{view_of, final_image}
use Rattle.spec_run.specs.OfBytes.{PutsBytes, AllPutBytes, HasPagesOfBytes}
use Rattle.law_net.proofs.Bytes.{put_bytes}
use Rattle.law_run.proofs.KeptByPuts.{Puts, AllPuts, final_keeps, view_keeps}

abbrev IsBytes : Cell → List ℕ → Type 0
IsBytes cell bytes = AreBytes bytes

one : (x : Record) → PutsBytes x → Puts IsBytes x
one (Change tran cell before after) h = h
one (Start session index tran number changes size takes) h = tt
one (Undo tran change) h = tt
one (Commit tran) h = tt
one (Abort tran) h = tt
one (Snap session index) h = tt
one (Failed session index page) h = tt
one (CheckEnd session index outcome) h = tt

all : (log : List Record) → AllPutBytes log → AllPuts IsBytes log
all [] h = tt
all (x ∷ log) h = (one x h.0, all log h.1)

keep : (image : Image) (cell : Cell) (bytes : List ℕ) → HasPagesOfBytes image → IsBytes cell bytes → HasPagesOfBytes (put image cell bytes)
keep image cell bytes low is = put_bytes image cell bytes low is

-- the file as it stands
pub final_bytes : (opened log : List Record) (b : Image) → AllPutBytes (log ++ opened) → HasPagesOfBytes b → HasPagesOfBytes (final_image opened log b)
final_bytes opened log b items pages = final_keeps HasPagesOfBytes IsBytes keep opened log b (all (log ++ opened) items) pages

-- what a transaction sees
pub view_bytes : (opened log : List Record) (b : Image) (t : ℕ) → AllPutBytes (log ++ opened) → HasPagesOfBytes b → HasPagesOfBytes (view_of t opened log b)
view_bytes opened log b t items pages = view_keeps HasPagesOfBytes IsBytes keep opened log b t (all (log ++ opened) items) pages
