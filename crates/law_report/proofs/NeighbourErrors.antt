-- The errors between a page and its neighbours, and between a page and a child that is not its own, can be
-- listed.
use Rattle.std.proofs.Common.{◌≡◌, ◌⊎◌, ℕ, refl, sym, subst, ap, inl, inr}
use Rattle.spec_check.specs.declared.report.CheckError.{CheckError}
use Rattle.spec_tree.specs.declared.known.PageHead.{PageHead}
use Rattle.spec_tree.specs.declared.known.Link.{Link}
use Rattle.spec_tree.specs.Known.{Known, IsTable}
use Rattle.spec_tree.specs.ParentRules.{tree_error, row_error}
use Rattle.spec_tree.specs.NeighbourRules.{HasNoPrev, HasNoPlace, LeadsTo, IsCrossed, IsNextElsewhere, IsNextNowhere, IsChildElsewhere, IsChildNowhere}
use Rattle.law_report.proofs.Decisions.{dec_like, dec_not, dec_and, dec_and3, dec_ne}
use Rattle.law_report.proofs.Listings.{Listing, like, one, either, when, among, dec_every}
use Rattle.law_report.proofs.TreeLists.{KnownLists, tables_of, pages, pages_at, links_at, dec_unseen, dec_no_link, dec_no_row, dec_no_parent, dec_has_parent, elsewhere}
use Rattle.law_report.proofs.ParentErrors.{AtSome, named}

dec_no_prev : (K : Known) → KnownLists K → (s : PageHead) → Dec (HasNoPrev K s)
dec_no_prev K lists s = dec_like (λ h. record { some = h.0; unlinked = h.1 }) (λ h. (h.some, h.unlinked))
    (dec_and (dec_ne s.prev.0 0) (dec_every (links_at K lists s.object.0 s.page.0) (λ l is. dec_ne l.page.0 s.prev.0)))

no_places : (K : Known) → KnownLists K → Listing (AtSome (HasNoPlace K))
no_places K lists = like
    (among (pages K lists) (λ t page. among (tables_of K lists t.0) (λ r table.
    either (when (dec_and (dec_no_parent K lists t.0 r t.1) (dec_no_prev K lists t.2)) (one (tree_error 8979 t.0 t.1 t.2.prev.0 0 0)))
    (either (when (dec_and (dec_no_parent K lists t.0 r t.1) (dec_not (dec_no_prev K lists t.2))) (one (tree_error 8977 t.0 t.1 0 0 0)))
    (when (dec_and (dec_has_parent K lists t.0 r t.1) (dec_no_prev K lists t.2)) (one (tree_error 8978 t.0 t.1 t.2.prev.0 0 0)))))))
    (λ x h. (
      h.0.1,
      elim (h.2.2) [
        | inl both ↦ HasNoPlace.NoParentNoPrev h.0.0 h.2.0 h.0.2 h.2.1 h.1 both.0.0 both.0.1 both.1
        | inr (inl parent) ↦ HasNoPlace.NoParent h.0.0 h.2.0 h.0.2 h.2.1 h.1 parent.0.0 parent.0.1 parent.1
        | inr (inr prev) ↦ HasNoPlace.NoPrev h.0.0 h.2.0 h.0.2 h.2.1 h.1 prev.0.0 prev.0.1 prev.1
      ],
    ))
    (λ x h. elim (h.1) [
      | HasNoPlace.NoParentNoPrev o r s table page parent prev is ↦ ((o, h.0, s), page, (r, table, inl ((parent, prev), is)))
      | HasNoPlace.NoParent o r s table page parent prev is ↦ ((o, h.0, s), page, (r, table, inr (inl ((parent, prev), is))))
      | HasNoPlace.NoPrev o r s table page parent prev is ↦ ((o, h.0, s), page, (r, table, inr (inr ((parent, prev), is))))
    ])

-- the links of clustered tables, with the pages to which they lead
leading : (K : Known) → KnownLists K → Listing (λ (t : Link × ℕ). LeadsTo K t.0 t.1)
leading K lists = like (among lists.links (λ l known. among (tables_of K lists l.object.0) (λ r table. one (l, l.next.0)))) to
    (λ t h. (t.0, h.link.known, (h.root, h.table, ap (λ k. let u : Link × ℕ = (t.0, k) in u) (sym h.link.next)))) where
      to : (t : Link × ℕ) → ((l : Link) × K.links l × ((r : ℕ) × IsTable K l.object.0 r × (t ≡ (l, l.next.0)))) → LeadsTo K t.0 t.1
      to t h = subst (λ (s : Link × ℕ). LeadsTo K s.0 s.1) (sym h.2.2)
          (record { root = h.2.0; table = h.2.1; link = record { known = h.1; object = refl; next = refl } })

crossed : (K : Known) → KnownLists K → Listing (AtSome (IsCrossed K))
crossed K lists = like
    (among (leading K lists) (λ t leads. among (pages_at K lists t.0.object.0 t.1) (λ s page. when (dec_ne s.prev.0 t.0.page.0)
    (one (tree_error 8936 t.0.object.0 t.0.page.0 t.1 0 s.prev.0)))))
    (λ x h. (h.0.1, record { link = h.0.0; head = h.2.0; leads = h.1; page = h.2.1; differs = h.2.2.0; is = h.2.2.1 }))
    (λ x h. ((h.1.link, h.0), h.1.leads, (h.1.head, h.1.page, (h.1.differs, h.1.is))))

next_elsewhere : (K : Known) → KnownLists K → Listing (AtSome (IsNextElsewhere K))
next_elsewhere K lists = like
    (among (leading K lists) (λ t leads. among (elsewhere K lists t.0.object.0 t.1) (λ owner is. one (tree_error 8982 t.0.object.0 t.0.page.0 t.1 0 owner))))
    (λ x h. (h.0.1, record { link = h.0.0; owner = h.2.0; leads = h.1; elsewhere = h.2.1; is = h.2.2 }))
    (λ x h. ((h.1.link, h.0), h.1.leads, (h.1.owner, h.1.elsewhere, h.1.is)))

next_nowhere : (K : Known) → KnownLists K → Listing (AtSome (IsNextNowhere K))
next_nowhere K lists = like
    (among (leading K lists) (λ t leads. when (dec_and3 (dec_ne t.1 0) (dec_unseen K lists t.1) (dec_no_row K lists t.0.object.0 t.1))
    (one (tree_error 8981 t.0.object.0 t.0.page.0 t.1 0 0))))
    (λ x h. (h.0.1, record { link = h.0.0; leads = h.1; some = h.2.0.0; unseen = h.2.0.1; no_row = h.2.0.2; is = h.2.1 }))
    (λ x h. ((h.1.link, h.0), h.1.leads, ((h.1.some, h.1.unseen, h.1.no_row), h.1.is)))

child_elsewhere : (K : Known) → KnownLists K → Listing (AtSome (IsChildElsewhere K))
child_elsewhere K lists = like
    (among (named K lists) (λ t names. among (elsewhere K lists t.0.object.0 t.1) (λ owner is. one (row_error 8925 t.0 t.1 owner))))
    (λ x h. (h.0.1, record { row = h.0.0; owner = h.2.0; names = h.1; elsewhere = h.2.1; is = h.2.2 }))
    (λ x h. ((h.1.row, h.0), h.1.names, (h.1.owner, h.1.elsewhere, h.1.is)))

child_nowhere : (K : Known) → KnownLists K → Listing (AtSome (IsChildNowhere K))
child_nowhere K lists = like
    (among (named K lists) (λ t names. when (dec_unseen K lists t.1)
    (either (among (links_at K lists t.0.object.0 t.1) (λ l is. one (row_error 8976 t.0 t.1 0)))
    (when (dec_no_link K lists t.0.object.0 t.1) (one (row_error 8980 t.0 t.1 0))))))
    (λ x h. (
      h.0.1,
      elim (h.2.1) [
        | inl linked ↦ IsChildNowhere.Linked h.0.0 linked.0 h.1 h.2.0 linked.1 linked.2
        | inr alone ↦ IsChildNowhere.Alone h.0.0 h.1 h.2.0 alone.0 alone.1
      ],
    ))
    (λ x h. elim (h.1) [
      | IsChildNowhere.Linked c l names unseen link is ↦ ((c, h.0), names, (unseen, inl (l, link, is)))
      | IsChildNowhere.Alone c names unseen none is ↦ ((c, h.0), names, (unseen, inr (none, is)))
    ])

-- an error of one of these rules
abbrev pub IsNeighbourError : Known → CheckError → Type 0
IsNeighbourError K x = AtSome (HasNoPlace K) x ⊎ (AtSome (IsCrossed K) x ⊎ (AtSome (IsNextElsewhere K) x ⊎ (AtSome (IsNextNowhere K) x
    ⊎ (AtSome (IsChildElsewhere K) x ⊎ AtSome (IsChildNowhere K) x))))

pub neighbour_errors : (K : Known) → KnownLists K → Listing (IsNeighbourError K)
neighbour_errors K lists = either (no_places K lists) (either (crossed K lists) (either (next_elsewhere K lists) (either (next_nowhere K lists)
    (either (child_elsewhere K lists) (child_nowhere K lists)))))
