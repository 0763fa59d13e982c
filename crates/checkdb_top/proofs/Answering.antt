-- From what was read of an image to what a command answers of its file.
use Rattle.std.proofs.Common.{◌≡◌, ◌≢◌, ℕ, ◌<◌, ◌≤◌, Bool, true, false, IsTrue, List, Option, Some, None, IfSome, option_map, length, refl, sym, ◌∙◌, ap, subst, arith}
use Rattle.std.specs.Option.{ForSome}
use Rattle.spec_file.specs.declared.geometry.Geometry.{Geometry}
use Rattle.spec_file.specs.Image.{pages_of, page}
use Rattle.spec_file.specs.FileForm.{size_passes}
use Rattle.spec_check.specs.declared.report.CheckReport.{CheckReport}
use Rattle.spec_tables.specs.Written.{IsCheckOf}
use Rattle.pg_base.specs.declared.reader.ReadStop.{ReadStop}
use Rattle.pg_base.specs.declared.reader.ReadStop.TheVariants.{Fault, Ended, NoMemory}
use Rattle.spec_file.specs.declared.data.PageNo.{PageNo}
use Rattle.app_words.specs.Words.{Asks}
use Rattle.app_words.specs.declared.command.Command.TheVariants.{ShowPage}
use Rattle.checkdb_top.specs.declared.status.Device.{Device}
use Rattle.checkdb_top.specs.declared.status.Device.TheVariants as device
use Rattle.checkdb_top.specs.declared.status.Status.{Status}
use Rattle.checkdb_top.specs.Form.{Passes, NamesGeometry}
use Rattle.checkdb_top.specs.Printings.{check_printing, page_printing}
use Rattle.checkdb_top.specs.Answers.{IsDevice, IsWordsAt, Printing, HasValue, HasNone, ended, stopped, Stops, Refused, Unread, OutOfMemory, Answers, Printed, Lacking, Stopped, AllPrinted, FrontPrinted}

-- a stop in reading a file whose size has passed
pub stops_reading : (told : Option (List ℕ)) (stop : ReadStop) → IfSome told (λ file. IsTrue (size_passes (length file))) → Stops told (stopped stop)
stops_reading told (Fault p) passes = Unread refl
stops_reading told Ended passes = OutOfMemory refl passes
stops_reading told NoMemory passes = OutOfMemory refl passes

-- the report of the image is that of its file
pub has_report : (told : Option (List ℕ)) (g : Geometry) (report : CheckReport) → IfSome told Passes → IfSome told (NamesGeometry g)
    → IfSome (option_map pages_of told) (λ image. IsCheckOf g image report) → IfSome told (HasValue check_printing report)
has_report None g report passes names is = tt
has_report (Some file) g report passes names is = record { passes = passes; has = (g, names, is) }

-- a page of the image is one of its file
pub has_page : (told : Option (List ℕ)) (pages p : ℕ) (bytes : List ℕ) → ForSome (option_map pages_of told) (λ image. length image ≡ pages)
    → IfSome told Passes → p < pages → IfSome (option_map pages_of told) (λ image. bytes ≡ page image p)
    → IfSome told (HasValue (page_printing p) bytes)
has_page None pages p bytes whole passes inside is = tt
has_page (Some file) pages p bytes whole passes inside is =
    let below : p < length (pages_of file) = rw (whole (pages_of file) refl) inside in
    record { passes = passes; has = (below, is) }

-- an image that ends before a page has none
pub has_no_page : (told : Option (List ℕ)) (pages p : ℕ) → ForSome (option_map pages_of told) (λ image. length image ≡ pages)
    → IfSome told Passes → pages ≤ p → IfSome told (HasNone (page_printing p))
has_no_page None pages p whole passes past = tt
has_no_page (Some file) pages p whole passes past = record {
  passes = passes;
  none = λ bytes has. absurd (omega (arith, has.0, whole (pages_of file) refl, past));
}

no_device : (b : Bool) (d : Device) → IsDevice d (ended b) → ⊥
no_device true d is = is
no_device false d is = is

no_word : (b : Bool) (at : ℕ) → IsWordsAt at (ended b) → ⊥
no_word true at is = is
no_word false at is = is

-- a command names no device but the file's and the output's
not_named : (c : Printing) (told before after : Option (List ℕ)) (s : Status) (d : Device) → Answers c told before after s
    → d ≢ device.Volume → d ≢ device.Sink → IsDevice d s → ⊥
not_named c told before after s d (Printed x has (AllPrinted said wrote)) volume sink is = no_device (c.tells_error x) d (subst (IsDevice d) said is)
not_named c told before after s d (Printed x has (FrontPrinted said wrote)) volume sink is = sink (sym (subst (IsDevice d) said is))
not_named c told before after s d (Lacking at word none said kept) volume sink is = subst (IsDevice d) said is
not_named c told before after s d (Stopped (Refused why said for) kept) volume sink is = subst (IsDevice d) said is
not_named c told before after s d (Stopped (Unread said) kept) volume sink is = volume (sym (subst (IsDevice d) said is))
not_named c told before after s d (Stopped (OutOfMemory said right) kept) volume sink is = subst (IsDevice d) said is

-- a word that a command names is the one that is wrong where an image lacks what it prints
word_named : (c : Printing) (told before after : Option (List ℕ)) (s : Status) (at : ℕ) → Answers c told before after s
    → IsWordsAt at s → c.word ≡ Some at
word_named c told before after s at (Printed x has (AllPrinted said wrote)) is = absurd (no_word (c.tells_error x) at (subst (IsWordsAt at) said is))
word_named c told before after s at (Printed x has (FrontPrinted said wrote)) is = absurd (subst (IsWordsAt at) said is)
word_named c told before after s at (Lacking place word none said kept) is = word ∙ ap (λ n. Some n) (subst (IsWordsAt at) said is)
word_named c told before after s at (Stopped (Refused why said for) kept) is = absurd (subst (IsWordsAt at) said is)
word_named c told before after s at (Stopped (Unread said) kept) is = absurd (subst (IsWordsAt at) said is)
word_named c told before after s at (Stopped (OutOfMemory said right) kept) is = absurd (subst (IsWordsAt at) said is)

pub never_log : (c : Printing) (told before after : Option (List ℕ)) (s : Status) → Answers c told before after s → IsDevice device.Log s → ⊥
never_log c told before after s answers is = not_named c told before after s device.Log answers (λ same. cc) (λ same. cc) is

pub never_source : (c : Printing) (told before after : Option (List ℕ)) (s : Status) → Answers c told before after s → IsDevice device.Source s → ⊥
never_source c told before after s answers is = not_named c told before after s device.Source answers (λ same. cc) (λ same. cc) is

-- a check names no word
pub check_names_no_word : (told before after : Option (List ℕ)) (s : Status) (at : ℕ) → Answers check_printing told before after s → IsWordsAt at s → ⊥
check_names_no_word told before after s at answers is = let none : None ≡ Some at = word_named check_printing told before after s at answers is in cc

-- words ask for one page
pub same_page : (words : List (List ℕ)) (p q : PageNo) → Asks (ShowPage p) words → Asks (ShowPage q) words → p ≡ q
same_page words p q one other = let same : Some (ShowPage p) ≡ Some (ShowPage q) = sym one.0 ∙ other.0 in cc
