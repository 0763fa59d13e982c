-- All errors of the rules between pages.
use Rattle.std.specs.Prelude.{ℕ}
use Rattle.spec_check.specs.declared.report.CheckError.{CheckError}
use Rattle.spec_tree.specs.Known.{Known}
use Rattle.spec_tree.specs.ParentRules.{IsRootUnseen, HasTwoParents, HasWrongLevel, HasWrongFirstKey, HasHighKey, HasWrongPrev}
use Rattle.spec_tree.specs.NeighbourRules.{HasNoPlace, IsCrossed, IsNextElsewhere, IsNextNowhere, IsChildElsewhere, IsChildNowhere}

-- an error at page k
pub data StandsAt (K : Known) (k : ℕ) (x : CheckError) : Type 0 where
  RootUnseen : IsRootUnseen K k x → StandsAt K k x
  TwoParents : HasTwoParents K k x → StandsAt K k x
  WrongLevel : HasWrongLevel K k x → StandsAt K k x
  WrongFirstKey : HasWrongFirstKey K k x → StandsAt K k x
  HighKey : HasHighKey K k x → StandsAt K k x
  WrongPrev : HasWrongPrev K k x → StandsAt K k x
  NoPlace : HasNoPlace K k x → StandsAt K k x
  Crossed : IsCrossed K k x → StandsAt K k x
  NextElsewhere : IsNextElsewhere K k x → StandsAt K k x
  NextNowhere : IsNextNowhere K k x → StandsAt K k x
  ChildElsewhere : IsChildElsewhere K k x → StandsAt K k x
  ChildNowhere : IsChildNowhere K k x → StandsAt K k x

-- an error at some page
abbrev pub IsTreeError : Known → CheckError → Type 0
IsTreeError K x = (k : ℕ) × StandsAt K k x
