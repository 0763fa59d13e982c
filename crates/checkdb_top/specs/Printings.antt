-- What `check` and `page` print.
use Rattle.std.specs.Prelude.{◌≡◌, ℕ, ◌<◌, Bool, true, false, List, [], ◌∷◌, length, Some, None}
use Rattle.spec_file.specs.declared.geometry.Geometry.{Geometry}
use Rattle.spec_file.specs.Image.{Image, page}
use Rattle.spec_file.specs.FileForm.{geometry_of}
use Rattle.spec_check.specs.declared.report.CheckError.{CheckError}
use Rattle.spec_check.specs.declared.report.CheckReport.{CheckReport}
use Rattle.spec_check.specs.Text.{report_text}
use Rattle.spec_tables.specs.Written.{IsCheckOf}
use Rattle.spec_script.specs.PageText.{page_text}
use Rattle.checkdb_top.specs.Answers.{Printing}

abbrev pub is_some_error : List CheckError → Bool
is_some_error [] = false
is_some_error (x ∷ xs) = true

-- the report is the written check of the image, in the geometry that its page 0 names
abbrev pub IsReportOf : CheckReport → Image → Type 0
IsReportOf report image = (g : Geometry) × (geometry_of (page image 0) ≡ Some g) × IsCheckOf g image report

-- `check` prints the report; each image has one
abbrev pub check_printing : Printing
check_printing = record {
  Value = CheckReport;
  Has = IsReportOf;
  text = report_text;
  tells_error = λ report. is_some_error report.errors;
  word = None;
}

-- the image has page p, which is these bytes
abbrev pub IsPageOf : ℕ → List ℕ → Image → Type 0
IsPageOf p bytes image = (p < length image) × (bytes ≡ page image p)

-- `page` prints the header and the slots of page p, its third word
abbrev pub page_printing : ℕ → Printing
page_printing p = record {
  Value = List ℕ;
  Has = IsPageOf p;
  text = page_text p;
  tells_error = λ bytes. false;
  word = Some 3;
}
