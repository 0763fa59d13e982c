-- What holds of every log that a run may make. `opened` is the log as it was found, `log` what the run
-- has appended, and b the file as it was found.
use Rattle.std.specs.Prelude.{◌≡◌, ◌≢◌, MatchOption, ℕ, ◌+◌, ◌/◌, ◌==◌, ◌&&◌, Bool, true, false, nat_le, nat_lt, List, [], ◌∷◌, ◌++◌, length, slice_index, Some, None}
use Rattle.std.specs.List.{list_any}
use Rattle.spec_file.specs.declared.data.Resource.{Resource}
use Rattle.spec_file.specs.declared.data.Tran.{Tran}
use Rattle.spec_file.specs.declared.geometry.Geometry.{Geometry}
use Rattle.spec_file.specs.Image.{Image, page, bit, maps_start}
use Rattle.spec_log.specs.declared.item.Cell.{Cell}
use Rattle.spec_log.specs.declared.item.Cell.TheVariants.{Bytes, Bit}
use Rattle.spec_log.specs.declared.item.Record.{Record}
use Rattle.spec_log.specs.declared.item.Record.TheVariants.{Change, Undo, Commit}
use Rattle.spec_log.specs.Log.{has_ended, is_unfinished, holds, holder_of, IsFreeFor, left_of}
use Rattle.spec_log.specs.Rules.{KeepsRules}
use Rattle.spec_log.specs.Cover.{byte_guard, bit_guard}
use Rattle.spec_log.specs.Cells.{HasWholePages}
use Rattle.spec_log.specs.Images.{final_image, committed_image, undone_image, view_of, damage_of, damaged_page}
use Rattle.spec_log.specs.Sound.{IsSound, is_old}

-- the one whom the log names as another holder of a resource holds it, and isn't t; where it names none,
-- nobody but t holds it
abbrev pub HolderIsOther : Type 0
HolderIsOther = (log : List Record) (r : Resource) (t : ℕ) →
    MatchOption (holder_of log r t) (IsFreeFor log t r) (λ u. (holds log u r ≡ true) × (u ≢ t))

-- a resource has at most one holder
abbrev pub HoldersAreOne : Type 0
HoldersAreOne = (g : Geometry) (pages : ℕ) (log : List Record) (r : Resource) (t u : ℕ) → KeepsRules g pages log →
    holds log t r ≡ true → holds log u r ≡ true → t ≡ u

-- taking back what is unfinished, from the file as it stands, gives what was committed
abbrev pub UndoGivesCommitted : Type 0
UndoGivesCommitted = (g : Geometry) (opened log : List Record) (b : Image) → IsSound g (length b) opened b log →
    undone_image opened log b ≡ committed_image opened log b

-- a transaction that hasn't ended, of this run or none
abbrev pub IsOngoing : List Record → List Record → ℕ → Type 0
IsOngoing opened log t = (is_old opened t ≡ false) × (has_ended (log ++ opened) t ≡ false)

-- a byte whose guard no other transaction holds stands in the file as the transaction sees it
abbrev pub FileShowsBytes : Type 0
FileShowsBytes = (g : Geometry) (opened log : List Record) (b : Image) (t p at : ℕ) (r : Resource) → IsSound g (length b) opened b log →
    IsOngoing opened log t → byte_guard g (length b) p at ≡ Some r → IsFreeFor (log ++ opened) t r →
    slice_index (page (view_of t opened log b) p) at ≡ slice_index (page (final_image opened log b) p) at

-- and so does a bit of a map page
abbrev pub FileShowsBits : Type 0
FileShowsBits = (g : Geometry) (opened log : List Record) (b : Image) (t p n : ℕ) (r : Resource) → IsSound g (length b) opened b log →
    IsOngoing opened log t → bit_guard g (length b) p n ≡ Some r → IsFreeFor (log ++ opened) t r →
    bit (page (view_of t opened log b) p) n ≡ bit (page (final_image opened log b) p) n

-- a byte that has no guard, nor a bit with one, as those of a map page's header, is as it was opened, in
-- the file and in every view
abbrev pub UnguardedStay : Type 0
UnguardedStay = (g : Geometry) (opened log : List Record) (b : Image) (t p at : ℕ) → IsSound g (length b) opened b log →
    byte_guard g (length b) p at ≡ None → ((n : ℕ) → maps_start + n / 8 ≡ at → bit_guard g (length b) p n ≡ None) →
    (slice_index (page (view_of t opened log b) p) at ≡ slice_index (page b p) at)
    × (slice_index (page (final_image opened log b) p) at ≡ slice_index (page b p) at)

-- a transaction whose Changes are all undone sees the committed image
abbrev pub UndosBringBack : Type 0
UndosBringBack = (g : Geometry) (opened log : List Record) (b : Image) (t : ℕ) → IsSound g (length b) opened b log →
    is_old opened t ≡ false → is_unfinished (log ++ opened) t ≡ true → left_of t (log ++ opened) ≡ [] →
    view_of t opened log b ≡ committed_image opened log b

-- transaction 0, which stands for none, sees the committed image
abbrev pub NobodySeesCommitted : Type 0
NobodySeesCommitted = (g : Geometry) (opened log : List Record) (b : Image) → IsSound g (length b) opened b log →
    view_of 0 opened log b ≡ committed_image opened log b

-- taking back what is unfinished meets a damaged cell exactly where the opened log's own items do: no item
-- of this run does
abbrev pub DamageIsOld : Type 0
DamageIsOld = (g : Geometry) (opened log : List Record) (b : Image) → HasWholePages b → IsSound g (length b) opened b log →
    damage_of (is_unfinished (log ++ opened)) (log ++ opened) (final_image opened log b) ≡ damaged_page opened b

-- a Commit makes committed what its transaction saw
abbrev pub CommitShowsView : Type 0
CommitShowsView = (g : Geometry) (opened log : List Record) (b : Image) (tran : Tran) → IsSound g (length b) opened b (Commit tran ∷ log) →
    committed_image opened (Commit tran ∷ log) b ≡ view_of tran.0 opened log b

-- the cell, of so many bytes, has this byte or a bit of it
abbrev pub has_byte : Cell → ℕ → ℕ → ℕ → Bool
has_byte (Bytes q off) size p at = (q.0 == p) && (nat_le off at && nat_lt at (off + size))
has_byte (Bit q n) size p at = (q.0 == p) && (maps_start + n / 8 == at)

-- the item is a Change of the transaction that puts this byte or a bit of it
abbrev pub puts_byte : ℕ → ℕ → ℕ → Record → Bool
puts_byte t p at (Change tran cell before after) = (tran.0 == t) && has_byte cell (length after) p at
puts_byte t p at other = false

-- a Commit changes the committed image in nothing but the bytes that its transaction's Changes put
abbrev pub CommitChangesOwn : Type 0
CommitChangesOwn = (g : Geometry) (opened log : List Record) (b : Image) (tran : Tran) (p at : ℕ) → IsSound g (length b) opened b (Commit tran ∷ log) →
    list_any (puts_byte tran.0 p at) log ≡ false →
    slice_index (page (committed_image opened (Commit tran ∷ log) b) p) at ≡ slice_index (page (committed_image opened log b) p) at

-- an item that neither changes, undoes nor commits
abbrev pub is_silent : Record → Bool
is_silent (Change tran cell before after) = false
is_silent (Undo tran change) = false
is_silent (Commit tran) = false
is_silent other = true

-- the images of a longer log are those of the shorter
pub record SameImages (opened longer log : List Record) (b : Image) : Type 0 where
  pub final : final_image opened longer b ≡ final_image opened log b
  pub committed : committed_image opened longer b ≡ committed_image opened log b
  pub views : (t : ℕ) → view_of t opened longer b ≡ view_of t opened log b

-- Start, Abort, Snap, Failed and CheckEnd change no image
abbrev pub SilentItemsChangeNothing : Type 0
SilentItemsChangeNothing = (opened log : List Record) (b : Image) (x : Record) → is_silent x ≡ true → SameImages opened (x ∷ log) log b
