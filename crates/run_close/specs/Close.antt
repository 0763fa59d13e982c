-- What the close of a run writes.
use Rattle.std.specs.Prelude.{◌≡◌, ℕ, ◌*◌, ◌^◌, ◌<◌, ◌≤◌, List, [], length, reverse, Option, IfSome, Result, Ok, Err}
use Rattle.std.specs.List.{list_any}
use Rattle.std.specs.Option.{ForSome}
use Rattle.std.specs.Io.KnownBytes.{append_known}
use Rattle.spec_file.specs.Image.{Image, page_size, pages_of}
use Rattle.spec_log.specs.declared.item.Record.{Record}
use Rattle.spec_log.specs.Bytes.{log_bytes}
use Rattle.spec_log.specs.Images.{final_image}
use Rattle.vol_dev.specs.Devices.{WroteFront}
use Rattle.spec_run.specs.ChangedPages.{changes_page}
use Rattle.vol_pool.specs.Writing.{Leaves, SameUnmarked, StopsWriting, is_marked}
use Rattle.run_close.specs.declared.close.Close.{Close}
use Rattle.run_close.specs.declared.close.CloseStop.{CloseStop}
use Rattle.run_close.specs.declared.close.CloseStop.TheVariants.{Log, Volume}

-- the close of a run with these items, the oldest first: the bytes of its log, and a mark for each page, where an
-- item changes it; without one a page is as the run found it
pub record IsCloseOf (items : List Record) (pages : ℕ) (close : Close) : Type 0 where
  pub bytes : (log : List Record) → reverse log ≡ items → close.bytes.items ≡ log_bytes log
  pub count : length close.changed.items ≡ pages
  pub marks : (p : ℕ) → p < pages → is_marked close.changed.items p ≡ list_any (changes_page p) items
  pub stay : (image : Image) (log : List Record) → reverse log ≡ items → length (final_image [] log image) ≡ pages
      → SameUnmarked close.changed.items (final_image [] log image) image

-- the pages in memory may be written back: those that aren't marked stand in the file
pub record MayClose (close : Close) (image : Image) (told : Option (List ℕ)) : Type 0 where
  pub count : length close.changed.items ≡ length image
  pub few : length image ≤ 2 ^ 32
  pub size : ForSome told (λ bytes. length bytes ≡ page_size * length image)
  pub same : IfSome told (λ bytes. SameUnmarked close.changed.items image (pages_of bytes))

-- what is left of the file and of the log: both are whole; or the log has a front of the new bytes, and the file is
-- as it was; or the log is whole, and the file has the changed pages before one that may hold any bytes
abbrev pub ClosesBy : {T : Type 0} → Close → Image → Option (List ℕ) → Option (List ℕ) → Option (List ℕ) → Option (List ℕ) → Result T CloseStop → Type 0
ClosesBy close image file file_now log log_now (Ok value) =
    (log_now ≡ append_known log close.bytes.items) × Leaves (λ before. image) file file_now
ClosesBy close image file file_now log log_now (Err Log) = WroteFront log log_now close.bytes.items × (file_now ≡ file)
ClosesBy close image file file_now log log_now (Err Volume) =
    (log_now ≡ append_known log close.bytes.items) × StopsWriting close.changed.items image file file_now
