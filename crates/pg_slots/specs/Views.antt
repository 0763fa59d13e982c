-- A page as its view shows it.
use Rattle.std.specs.Prelude.{ℕ, List}
use Rattle.spec_file.specs.declared.data.Kind.{Kind}
use Rattle.pg_slots.specs.declared.view.SlotView.{SlotView}

-- the bytes of the page that is shown
abbrev pub bytes_of : SlotView → List ℕ
bytes_of view = view.page.now.bytes

-- the kind of its table
abbrev pub kind_of : SlotView → Kind
kind_of view = view.kind
