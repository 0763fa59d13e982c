-- What was found on pages.
use Rattle.std.specs.Prelude.{◌≡◌, ◌⊎◌, ℕ, ◌++◌, ◌/◌, Bool, true, false, List, Contains, vec_len}
use Rattle.spec_file.specs.Image.{Image, page}
use Rattle.spec_check.specs.declared.report.CheckError.{CheckError}
use Rattle.spec_check.specs.declared.report.TableLine.{TableLine}
use Rattle.spec_check.specs.Errors.{Lists}
use Rattle.spec_tree.specs.Trees.{IsTreeError}
use Rattle.spec_tables.specs.KnownPages.{known_of_image}
use Rattle.spec_tables.specs.Seen.{rows_on}
use Rattle.ck_error.specs.Gathered.{Gathers, Adds, Each, Below}
use Rattle.ck_facts.specs.declared.facts.Fact.{Fact}
use Rattle.ck_facts.specs.declared.facts.PageFacts.{PageFacts}
use Rattle.ck_facts.specs.declared.map.AllocMap.{AllocMap}
use Rattle.ck_facts.specs.Owners.{Owned, IsOwnerIn, IsPlaceOf}
use Rattle.ck_merge.specs.Held.{Holds, roots_in, count_of}
use Rattle.ck_scan.specs.declared.findings.Findings.{Findings}
use Rattle.ck_scan.specs.Shown.{IsErrorAt, IsSeenAt, IsFactAt, Among}
use Rattle.ck_scan.specs.Counted.{CountsPage, AreCounts, AreSums}
use Rattle.ck_scan.specs.Once.{IsEachOnce}

-- what the pages that are met show: their errors, their facts, and the lines that count them
pub record AreFound (image : Image) (m : AllocMap) (Met : Owned → Type 0) (found : Findings) : Type 0 where
  pub errors : Gathers found.errors.items (Among Met (IsErrorAt m.geometry image))
  pub facts : List Fact
  pub held : Holds found.parts facts
  pub each : Gathers facts (Among Met (IsFactAt m.geometry image))
  pub lines : AreCounts image m Met found.lines.items

-- the page is seen of its object, whose line counts it, and the others stay
pub record CountsIt (image : Image) (m : AllocMap) (u : Owned) (old new : List TableLine) : Type 0 where
  pub place : ℕ
  pub at : IsPlaceOf m place u.1.0
  pub seen : IsSeenAt m.geometry image u
  pub counts : CountsPage old new place (rows_on (page image u.0.0))

-- lines that count the page where it is seen of its object, and stay else
abbrev pub CountsSeen : Image → AllocMap → Owned → List TableLine → List TableLine → Type 0
CountsSeen image m u old new = CountsIt image m u old new ⊎ ((IsSeenAt m.geometry image u → ⊥) × (new ≡ old))

-- parts that hold these facts more
pub record HoldsMore (old new : Findings) (more : List Fact) : Type 0 where
  pub holds : (held : List Fact) → Holds old.parts held → Holds new.parts (held ++ more)

-- what the page shows is found too
pub record AddsPage (image : Image) (m : AllocMap) (u : Owned) (old new : Findings) : Type 0 where
  pub errors : Adds old.errors.items new.errors.items (IsErrorAt m.geometry image u)
  pub more : List Fact
  pub held : HoldsMore old new more
  pub each : Gathers more (IsFactAt m.geometry image u)
  pub lines : CountsSeen image m u old.lines.items new.lines.items

-- lines that count a page with so many rows at place i where it is seen, and stay else
abbrev pub CountsWhere : Bool → List TableLine → List TableLine → ℕ → ℕ → Type 0
CountsWhere true old new i rows = CountsPage old new i rows
CountsWhere false old new i rows = new ≡ old

-- what a page shows of the i-th object is taken
pub record Takes (shown : PageFacts) (i : ℕ) (old new : Findings) : Type 0 where
  pub errors : Adds old.errors.items new.errors.items (Contains shown.errors.items)
  pub held : HoldsMore old new shown.facts.items
  pub lines : CountsWhere shown.seen old.lines.items new.lines.items i shown.rows

-- the pages of the extents of a list that objects own
abbrev pub IsOwnerAmong : Image → AllocMap → List ℕ → Owned → Type 0
IsOwnerAmong image m extents = Each extents (IsOwnerIn m.geometry image)

-- what the pages of these extents show, where no extent stands there twice
abbrev pub AreFoundIn : Image → AllocMap → List ℕ → Findings → Type 0
AreFoundIn image m extents found = IsEachOnce extents → AreFound image m (IsOwnerAmong image m extents) found

-- the findings of both in one
pub record AreJoined (one two now : Findings) : Type 0 where
  pub errors : Adds one.errors.items now.errors.items (Contains two.errors.items)
  pub holds : (held more : List Fact) → Holds one.parts held → Holds two.parts more → Holds now.parts (held ++ more)
  pub lines : AreSums one.lines.items two.lines.items now.lines.items

-- findings for the same objects, in as many parts
pub record IsLike (one two : Findings) : Type 0 where
  pub lines : vec_len two.lines ≡ vec_len one.lines
  pub roots : roots_in two.parts ≡ roots_in one.parts
  pub count : count_of two.parts ≡ count_of one.parts

-- all that the pages of a file show by themselves and together, and the lines that count them
pub record IsAllShown (image : Image) (m : AllocMap) (of_pages of_trees : List CheckError) (counted : List TableLine) : Type 0 where
  pub pages : Gathers of_pages (Among (Below (m.pages / 8) (IsOwnerIn m.geometry image)) (IsErrorAt m.geometry image))
  pub trees : Lists of_trees (IsTreeError (known_of_image m.geometry image))
  pub lines : AreCounts image m (Below (m.pages / 8) (IsOwnerIn m.geometry image)) counted
