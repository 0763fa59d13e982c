-- The images of a file under a log. `opened` is the log as the call finds it, beside the file b; `log` is
-- what the call has appended since. Both have the newest item first. (The committed image is what DBCC
-- CHECKDB sees: the internal snapshot of its manual.)
use Rattle.std.specs.Prelude.{ℕ, ◌==◌, Bool, true, if◌then◌else◌, bytes_eq, List, [], ◌∷◌, ◌++◌, length, Option, Some, None}
use Rattle.spec_file.specs.Image.{Image}
use Rattle.spec_log.specs.declared.item.Cell.{Cell}
use Rattle.spec_log.specs.declared.item.Cell.TheVariants.{Bytes, Bit}
use Rattle.spec_log.specs.declared.item.Record.{Record}
use Rattle.spec_log.specs.declared.item.Record.TheVariants.{Change, Undo}
use Rattle.spec_log.specs.Items.{tran_of}
use Rattle.spec_log.specs.Log.{has_committed, is_unfinished, item_at}
use Rattle.spec_log.specs.Cells.{read_cell, put}

-- what a change found, or left, is put into its cell; any other item puts nothing
abbrev pub put_before : Option Record → Image → Image
put_before (Some (Change tran cell before after)) image = put image cell before
put_before other image = image

abbrev pub put_after : Option Record → Image → Image
put_after (Some (Change tran cell before after)) image = put image cell after
put_after other image = image

-- an item is applied after the items older than it: a Change puts what it left, an Undo what the Change
-- that it names had found
abbrev pub apply : List Record → Record → Image → Image
apply older (Change tran cell before after) image = put image cell after
apply older (Undo tran change) image = put_before (item_at older change.0) image
apply older other image = image

-- an item is taken back: a Change puts what it found, an Undo what its Change had left
abbrev pub take_back : List Record → Record → Image → Image
take_back older (Change tran cell before after) image = put image cell before
take_back older (Undo tran change) image = put_after (item_at older change.0) image
take_back older other image = image

-- the Changes and Undos of the chosen transactions are applied, the oldest first
abbrev pub applied : (ℕ → Bool) → List Record → List Record → Image → Image
applied chosen opened [] image = image
applied chosen opened (x ∷ older) image =
    if chosen (tran_of x) then apply (older ++ opened) x (applied chosen opened older image) else applied chosen opened older image

-- the Changes alone of the chosen transactions are applied, the oldest first
abbrev pub changed : (ℕ → Bool) → List Record → Image → Image
changed chosen [] image = image
changed chosen (Change tran cell before after ∷ older) image =
    if chosen tran.0 then put (changed chosen older image) cell after else changed chosen older image
changed chosen (other ∷ older) image = changed chosen older image

-- the items of the chosen transactions are taken back, the newest first
abbrev pub taken_back : (ℕ → Bool) → List Record → Image → Image
taken_back chosen [] image = image
taken_back chosen (x ∷ older) image = taken_back chosen older (if chosen (tran_of x) then take_back older x image else image)

-- the file as it stands: every item is applied
abbrev pub final_image : List Record → List Record → Image → Image
final_image opened log b = applied (λ t. true) opened log b

-- the file as it was opened, with what was unfinished then taken back
abbrev pub start_image : List Record → Image → Image
start_image opened b = taken_back (is_unfinished opened) opened b

-- the committed image: the start image with the Changes of the transactions that have committed since
abbrev pub committed_image : List Record → List Record → Image → Image
committed_image opened log b = changed (has_committed log) log (start_image opened b)

-- what a transaction sees: the committed image with its own Changes and Undos. No Change is of
-- transaction 0, which stands for none: it sees the committed image
abbrev pub view_of : ℕ → List Record → List Record → Image → Image
view_of t opened log b = applied (λ u. u == t) opened log (committed_image opened log b)

-- the file without what is unfinished
abbrev pub undone_image : List Record → List Record → Image → Image
undone_image opened log b = taken_back (is_unfinished (log ++ opened)) (log ++ opened) (final_image opened log b)

abbrev pub shows_before : Option Record → Image → Bool
shows_before (Some (Change tran cell before after)) image = bytes_eq (read_cell image cell (length before)) before
shows_before other image = true

-- the cell of an item holds what the item had written
abbrev pub shows : List Record → Record → Image → Bool
shows older (Change tran cell before after) image = bytes_eq (read_cell image cell (length after)) after
shows older (Undo tran change) image = shows_before (item_at older change.0) image
shows older other image = true

abbrev pub page_of_cell : Cell → ℕ
page_of_cell (Bytes p off) = p.0
page_of_cell (Bit p n) = p.0

abbrev pub page_of_change : Option Record → ℕ
page_of_change (Some (Change tran cell before after)) = page_of_cell cell
page_of_change other = 0

-- the page that an item writes
abbrev pub page_of_item : List Record → Record → ℕ
page_of_item older (Change tran cell before after) = page_of_cell cell
page_of_item older (Undo tran change) = page_of_change (item_at older change.0)
page_of_item older other = 0

-- the page of the first cell that taking back meets and that doesn't hold what the item had written
abbrev pub damage_of : (ℕ → Bool) → List Record → Image → Option ℕ
damage_of chosen [] image = None
damage_of chosen (x ∷ older) image =
    if chosen (tran_of x)
    then (if shows older x image then damage_of chosen older (take_back older x image) else Some (page_of_item older x))
    else damage_of chosen older image

-- the damaged page of a file beside its log, as they are found; none where there is none
abbrev pub damaged_page : List Record → Image → Option ℕ
damaged_page opened b = damage_of (is_unfinished opened) opened b
