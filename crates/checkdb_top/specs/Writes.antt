-- What the close of a run writes, and what stands after a device failed.
use Rattle.std.specs.Prelude.{◌≡◌, ℕ, ◌+◌, ◌<◌, Bool, true, List, ◌∷◌, ◌++◌, length, take, drop, Option, option_map}
use Rattle.std.specs.Io.KnownBytes.{append_known}
use Rattle.spec_file.specs.Image.{Image, page_size, pages_of, bytes_of}
use Rattle.vol_dev.specs.Devices.{WroteFront}
use Rattle.checkdb_top.specs.declared.status.Device.TheVariants as device
use Rattle.checkdb_top.specs.declared.status.Status.{Status}
use Rattle.checkdb_top.specs.declared.status.Status.TheVariants as status

-- the write of a changed page failed: the changed pages before it are written, it may hold any bytes, and all others are as before
pub record StopsAtPage (changed : ℕ → Bool) (image : Image) (old new : Option (List ℕ)) : Type 0 where
  pub at : ℕ
  pub held : List ℕ
  pub below : at < length image
  pub is_one : changed at ≡ true
  pub size : length held ≡ page_size
  pub pages : option_map pages_of new ≡ option_map (λ bytes. take at image ++ held ∷ drop (at + 1) (pages_of bytes)) old
  pub whole : option_map length new ≡ option_map length old

-- these bytes are added to the log, then an image's changed pages are written to the file, and then a text to the output: all, and
-- the status is this one, or up to where a device failed, which the status names
pub data Writes (added : List ℕ) (changed : ℕ → Bool) (image : Image) (text : List ℕ) (whole : Status)
    (file file_now log log_now out out_now : Option (List ℕ)) (s : Status) : Type 0 where
  AllWritten : s ≡ whole → log_now ≡ append_known log added → file_now ≡ option_map (λ _. bytes_of image) file
      → out_now ≡ append_known out text → Writes added changed image text whole file file_now log log_now out out_now s
  -- the output has a front of the text
  AtSink : s ≡ status.Device device.Sink → log_now ≡ append_known log added → file_now ≡ option_map (λ _. bytes_of image) file
      → WroteFront out out_now text → Writes added changed image text whole file file_now log log_now out out_now s
  -- the changed pages before one that may hold any bytes are written
  AtVolume : s ≡ status.Device device.Volume → log_now ≡ append_known log added → StopsAtPage changed image file file_now
      → out_now ≡ out → Writes added changed image text whole file file_now log log_now out out_now s
  -- the log has a front of the bytes
  AtLog : s ≡ status.Device device.Log → WroteFront log log_now added → file_now ≡ file
      → out_now ≡ out → Writes added changed image text whole file file_now log log_now out out_now s
