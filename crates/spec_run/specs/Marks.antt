-- A mark changes no image.
use Rattle.std.specs.Prelude.{◌≡◌, ℕ, List, ◌∷◌}
use Rattle.spec_file.specs.Image.{Image}
use Rattle.spec_log.specs.declared.item.Record.{Record}
use Rattle.spec_log.specs.Images.{final_image, committed_image, view_of}
use Rattle.spec_run.specs.Entries.{Entry, Undone, items_of}

-- the images of a history are those of its items
pub record SameImages (opened : List Record) (longer entries : List Entry) (b : Image) : Type 0 where
  pub final : final_image opened (items_of longer) b ≡ final_image opened (items_of entries) b
  pub committed : committed_image opened (items_of longer) b ≡ committed_image opened (items_of entries) b
  pub views : (t : ℕ) → view_of t opened (items_of longer) b ≡ view_of t opened (items_of entries) b

abbrev pub MarksChangeNothing : Type 0
MarksChangeNothing = (opened : List Record) (entries : List Entry) (b : Image) (s i : ℕ) → SameImages opened (Undone s i ∷ entries) entries b
