-- What the status of a command over a still file says of the file and of the output.
use Rattle.std.specs.Prelude.{◌≡◌, ℕ, Bool, true, false, IsTrue, List, length, Option, Some, IfSome}
use Rattle.std.specs.Io.KnownBytes.{append_known}
use Rattle.spec_file.specs.Image.{Image, pages_of}
use Rattle.spec_file.specs.FileForm.{size_passes}
use Rattle.vol_dev.specs.Devices.{WroteFront}
use Rattle.spec_start.specs.declared.why.FileWhy.{FileWhy}
use Rattle.pg_base.specs.declared.reader.ReadStop.{ReadStop}
use Rattle.pg_base.specs.declared.reader.ReadStop.TheVariants.{Fault, Ended, NoMemory}
use Rattle.checkdb_top.specs.declared.status.Device.{Device}
use Rattle.checkdb_top.specs.declared.status.Device.TheVariants as device
use Rattle.checkdb_top.specs.declared.status.Status.{Status}
use Rattle.checkdb_top.specs.declared.status.Status.TheVariants as status
use Rattle.checkdb_top.specs.Form.{IsRefusedFor, Passes}

-- the status names this device
abbrev pub IsDevice : Device → Status → Type 0
IsDevice d (status.Device which) = which ≡ d
IsDevice d _ = ⊥

-- the status says that the word at this place is wrong
abbrev pub IsWordsAt : ℕ → Status → Type 0
IsWordsAt at (status.Words place) = place ≡ at
IsWordsAt at _ = ⊥

-- the status of what is written whole: whether it tells of an error
abbrev pub ended : Bool → Status
ended true = status.Errors
ended false = status.Clean

-- what a command prints: a value that an image has, its text, and whether it tells of an error; and, where an image may have
-- none, the word of the command line that is wrong then
pub record Printing : Type 1 where
  pub Value : Type 0
  pub Has : Value → Image → Type 0
  pub text : Value → List ℕ
  pub tells_error : Value → Bool
  pub word : Option ℕ

-- the file passes its tests and has this value
pub record HasValue (c : Printing) (x : c.Value) (file : List ℕ) : Type 0 where
  pub passes : Passes file
  pub has : c.Has x (pages_of file)

-- the file passes its tests and has none
pub record HasNone (c : Printing) (file : List ℕ) : Type 0 where
  pub passes : Passes file
  pub none : (x : c.Value) → c.Has x (pages_of file) → ⊥

-- a text was written, and the status is this one; or the output failed, and has a front of the text
pub data Prints (text : List ℕ) (whole : Status) (before after : Option (List ℕ)) (s : Status) : Type 0 where
  AllPrinted : s ≡ whole → after ≡ append_known before text → Prints text whole before after s
  FrontPrinted : s ≡ status.Device device.Sink → WroteFront before after text → Prints text whole before after s

-- a command ends before it has what it prints: a test of the file fails, or the file, or memory, which isn't wanted before
-- the size has passed
pub data Stops (told : Option (List ℕ)) (s : Status) : Type 0 where
  Refused : (why : FileWhy) → s ≡ status.File why → IfSome told (IsRefusedFor why) → Stops told s
  Unread : s ≡ status.Device device.Volume → Stops told s
  OutOfMemory : s ≡ status.Memory → IfSome told (λ file. IsTrue (size_passes (length file))) → Stops told s

-- what the status of a command says of the file, and of the output before and after
pub data Answers (c : Printing) (told before after : Option (List ℕ)) (s : Status) : Type 0 where
  Printed : (x : c.Value) → IfSome told (HasValue c x) → Prints (c.text x) (ended (c.tells_error x)) before after s → Answers c told before after s
  Lacking : (at : ℕ) → c.word ≡ Some at → IfSome told (HasNone c) → s ≡ status.Words at → after ≡ before → Answers c told before after s
  Stopped : Stops told s → after ≡ before → Answers c told before after s

-- the status of a command that met a stop in reading
abbrev pub stopped : ReadStop → Status
stopped (Fault p) = status.Device device.Volume
stopped Ended = status.Memory
stopped NoMemory = status.Memory
