-- The errors of trees can be listed, where what is known of pages can.
use Rattle.std.proofs.Common.{◌⊎◌, inl, inr}
use Rattle.spec_check.specs.declared.report.CheckError.{CheckError}
use Rattle.spec_tree.specs.Known.{Known}
use Rattle.spec_tree.specs.Trees.{StandsAt, IsTreeError}
use Rattle.law_report.proofs.Listings.{Listing, like, either}
use Rattle.law_report.proofs.TreeLists.{KnownLists}
use Rattle.law_report.proofs.ParentErrors.{IsParentError, parent_errors}
use Rattle.law_report.proofs.NeighbourErrors.{IsNeighbourError, neighbour_errors}

tree_from : (K : Known) (x : CheckError) → IsParentError K x ⊎ IsNeighbourError K x → IsTreeError K x
tree_from K x (inl (inl h)) = (h.0, StandsAt.RootUnseen h.1)
tree_from K x (inl (inr (inl h))) = (h.0, StandsAt.TwoParents h.1)
tree_from K x (inl (inr (inr (inl h)))) = (h.0, StandsAt.WrongLevel h.1)
tree_from K x (inl (inr (inr (inr (inl h))))) = (h.0, StandsAt.WrongFirstKey h.1)
tree_from K x (inl (inr (inr (inr (inr (inl h)))))) = (h.0, StandsAt.HighKey h.1)
tree_from K x (inl (inr (inr (inr (inr (inr h)))))) = (h.0, StandsAt.WrongPrev h.1)
tree_from K x (inr (inl h)) = (h.0, StandsAt.NoPlace h.1)
tree_from K x (inr (inr (inl h))) = (h.0, StandsAt.Crossed h.1)
tree_from K x (inr (inr (inr (inl h)))) = (h.0, StandsAt.NextElsewhere h.1)
tree_from K x (inr (inr (inr (inr (inl h))))) = (h.0, StandsAt.NextNowhere h.1)
tree_from K x (inr (inr (inr (inr (inr (inl h)))))) = (h.0, StandsAt.ChildElsewhere h.1)
tree_from K x (inr (inr (inr (inr (inr (inr h)))))) = (h.0, StandsAt.ChildNowhere h.1)

by_rule : (K : Known) (x : CheckError) → IsTreeError K x → IsParentError K x ⊎ IsNeighbourError K x
by_rule K x h = elim (h.1) [
  | StandsAt.RootUnseen r ↦ inl (inl (h.0, r))
  | StandsAt.TwoParents r ↦ inl (inr (inl (h.0, r)))
  | StandsAt.WrongLevel r ↦ inl (inr (inr (inl (h.0, r))))
  | StandsAt.WrongFirstKey r ↦ inl (inr (inr (inr (inl (h.0, r)))))
  | StandsAt.HighKey r ↦ inl (inr (inr (inr (inr (inl (h.0, r))))))
  | StandsAt.WrongPrev r ↦ inl (inr (inr (inr (inr (inr (h.0, r))))))
  | StandsAt.NoPlace r ↦ inr (inl (h.0, r))
  | StandsAt.Crossed r ↦ inr (inr (inl (h.0, r)))
  | StandsAt.NextElsewhere r ↦ inr (inr (inr (inl (h.0, r))))
  | StandsAt.NextNowhere r ↦ inr (inr (inr (inr (inl (h.0, r)))))
  | StandsAt.ChildElsewhere r ↦ inr (inr (inr (inr (inr (inl (h.0, r))))))
  | StandsAt.ChildNowhere r ↦ inr (inr (inr (inr (inr (inr (h.0, r))))))
]

pub tree_errors : (K : Known) → KnownLists K → Listing (IsTreeError K)
tree_errors K lists = like (either (parent_errors K lists) (neighbour_errors K lists)) (tree_from K) (by_rule K)
