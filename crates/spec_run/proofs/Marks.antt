-- A mark changes no image.
use Rattle.std.specs.Prelude.{refl}
use Rattle.spec_run.specs.Marks.{MarksChangeNothing}

pub marks_change_nothing : MarksChangeNothing
marks_change_nothing opened entries b s i = record { final = refl; committed = refl; views = λ t. refl }
