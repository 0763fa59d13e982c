-- Every image has a report.
use Rattle.spec_file.specs.declared.geometry.Geometry.{Geometry}
use Rattle.spec_file.specs.Image.{Image}
use Rattle.spec_check.specs.declared.report.CheckReport.{CheckReport}
use Rattle.spec_tables.specs.Written.{IsCheckOf}

-- whatever the bytes of an image are, and whichever geometry it is read by, there is a report that is its
-- written check
abbrev pub HasReport : Type 0
HasReport = (g : Geometry) (image : Image) → (report : CheckReport) × IsCheckOf g image report
