-- What a run over a file begins with (this project's own).
use Rattle.std.specs.Prelude.{List, [], Option, Some, None}
use Rattle.spec_file.specs.declared.geometry.Geometry.{Geometry}
use Rattle.spec_file.specs.declared.geometry.Geometry.TheVariants.{Small}
use Rattle.spec_file.specs.FileForm.{geometry_of}
use Rattle.spec_file.specs.Image.{Image, page}
use Rattle.spec_script.specs.declared.statement.Statement.{Statement}
use Rattle.spec_run.specs.Begun.{Setting}

-- the small one, where page 0 says neither
abbrev pub or_small : Option Geometry → Geometry
or_small None = Small
or_small (Some g) = g

-- the geometry that page 0 of a file says
abbrev pub geometry_said : Image → Geometry
geometry_said image = or_small (geometry_of (page image 0))

-- what a run over these pages and scripts begins with, where its log is empty
abbrev pub setting_of : Image → List (List Statement) → Setting
setting_of image scripts = record { geometry = geometry_said image; opened = []; image = image; scripts = scripts }
