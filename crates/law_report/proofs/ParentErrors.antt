-- The errors between a page and its parents can be listed.
use Rattle.std.proofs.Common.{◌≡◌, ◌⊎◌, ℕ, ◌+◌, length, refl, sym, subst, ap, inl, inr}
use Rattle.spec_check.specs.declared.report.CheckError.{CheckError}
use Rattle.spec_tree.specs.declared.known.PageHead.{PageHead}
use Rattle.spec_tree.specs.declared.known.IndexRow.{IndexRow}
use Rattle.spec_tree.specs.Known.{Known, IsTable, IsPage}
use Rattle.spec_tree.specs.Parents.{with_catalog, first_page}
use Rattle.spec_tree.specs.ParentRules.{tree_error, row_error, IsParentOf, IsRootOf, IsRootUnseen, HasTwoParents, HasWrongLevel, IsFirstKeyWrong, HasWrongFirstKey, HasHighKey, HasWrongPrev}
use Rattle.spec_tree.specs.NeighbourRules.{NamesChild}
use Rattle.law_report.proofs.Decisions.{dec_eq, dec_ne, dec_lt, dec_le}
use Rattle.law_report.proofs.Listings.{Listing, like, one, either, when, among, such, there_may_be}
use Rattle.law_report.proofs.TreeLists.{KnownLists, tables, tables_of, pages, pages_at, dec_unseen_of, place_lists, highs, befores}

-- errors of one rule, at any page
abbrev pub AtSome : (ℕ → CheckError → Type 0) → CheckError → Type 0
AtSome Rule x = (k : ℕ) × Rule k x

unseen_roots : (K : Known) → KnownLists K → Listing (AtSome (IsRootUnseen K))
unseen_roots K lists = like
    (among (tables K lists) (λ t table. when (dec_unseen_of K lists t.0 t.1) (one (tree_error 8928 t.0 t.1 0 0 1))))
    (λ x h. (h.0.1, record { object = h.0.0; table = h.1; unseen = h.2.0; is = h.2.1 }))
    (λ x h. ((h.1.object, h.0), h.1.table, (h.1.unseen, h.1.is)))

two_parents : (K : Known) → KnownLists K → Listing (AtSome (HasTwoParents K))
two_parents K lists = like
    (among (pages K lists) (λ t page. among (tables_of K lists t.0) (λ r table. among (place_lists K lists t.0 t.1) (λ places are.
    when (dec_le 2 (length (with_catalog r t.1 places)))
    (one (tree_error 8937 t.0 t.1 (first_page (with_catalog r t.1 places)) 0 (length (with_catalog r t.1 places))))))))
    (λ x h. (
      h.0.1,
      record {
        object = h.0.0;
        root = h.2.0;
        head = h.0.2;
        places = h.2.2.0;
        table = h.2.1;
        page = h.1;
        are = h.2.2.1;
        two = h.2.2.2.0;
        is = h.2.2.2.1;
      },
    ))
    (λ x h. ((h.1.object, h.0, h.1.head), h.1.page, (h.1.root, h.1.table, (h.1.places, h.1.are, (h.1.two, h.1.is)))))

-- the index rows of clustered tables, with the pages that they name
pub named : (K : Known) → KnownLists K → Listing (λ (t : IndexRow × ℕ). NamesChild K t.0 t.1)
named K lists = like (among lists.rows (λ c known. among (tables_of K lists c.object.0) (λ r table. one (c, c.child.0)))) to
    (λ t h. (t.0, h.row.known, (h.root, h.table, ap (λ k. let u : IndexRow × ℕ = (t.0, k) in u) (sym h.row.child)))) where
      to : (t : IndexRow × ℕ) → ((c : IndexRow) × K.rows c × ((r : ℕ) × IsTable K c.object.0 r × (t ≡ (c, c.child.0)))) → NamesChild K t.0 t.1
      to t h = subst (λ (s : IndexRow × ℕ). NamesChild K s.0 s.1) (sym h.2.2)
          (record { root = h.2.0; table = h.2.1; row = record { known = h.1; object = refl; child = refl } })

-- a parent, and the page that it names
abbrev Parent : Type 0
Parent = IndexRow × ℕ × PageHead

parents : (K : Known) → KnownLists K → Listing (λ (t : Parent). IsParentOf K t.0 t.1 t.2)
parents K lists = like (among (named K lists) (λ t names. among (pages_at K lists t.0.object.0 t.1) (λ s page. one (t.0, t.1, s)))) to
    (λ t h. ((t.0, t.1), record { root = h.root; table = h.table; row = h.row }, (t.2, h.page, refl))) where
      to : (t : Parent) → ((u : IndexRow × ℕ) × NamesChild K u.0 u.1 × ((s : PageHead) × IsPage K u.0.object.0 u.1 s × (t ≡ (u.0, u.1, s)))) → IsParentOf K t.0 t.1 t.2
      to t h = subst (λ (v : Parent). IsParentOf K v.0 v.1 v.2) (sym h.2.2)
          (record { root = h.1.root; table = h.1.table; row = h.1.row; page = h.2.1 })

-- a root, as it is seen
roots : (K : Known) → KnownLists K → Listing (λ (t : ℕ × ℕ × PageHead). IsRootOf K t.0 t.1 t.2)
roots K lists = like (among (tables K lists) (λ t table. among (pages_at K lists t.0 t.1) (λ s page. one (t.0, t.1, s)))) to
    (λ t h. ((t.0, t.1), h.table, (t.2, h.page, refl))) where
      to : (t : ℕ × ℕ × PageHead) → ((u : ℕ × ℕ) × IsTable K u.0 u.1 × ((s : PageHead) × IsPage K u.0 u.1 s × (t ≡ (u.0, u.1, s)))) → IsRootOf K t.0 t.1 t.2
      to t h = subst (λ (v : ℕ × ℕ × PageHead). IsRootOf K v.0 v.1 v.2) (sym h.2.2) (record { table = h.1; page = h.2.1 })

wrong_levels : (K : Known) → KnownLists K → Listing (AtSome (HasWrongLevel K))
wrong_levels K lists = like
    (among (parents K lists) (λ t parent. when (dec_ne (t.2.level + 1) t.0.level) (one (row_error 8931 t.0 t.1 t.2.level))))
    (λ x h. (h.0.1, record { row = h.0.0; head = h.0.2; parent = h.1; differs = h.2.0; is = h.2.1 }))
    (λ x h. ((h.1.row, h.0, h.1.head), h.1.parent, (h.1.differs, h.1.is)))

wrong_firsts : (s : PageHead) (low : ℕ) → Listing (IsFirstKeyWrong s low)
wrong_firsts s low = like
    (either (when (dec_eq s.level 0) (such (there_may_be s.first) (λ first is. dec_lt first low)))
    (when (dec_lt 0 s.level) (such (there_may_be s.first) (λ first is. dec_ne first low))))
    (λ first h. elim h [
      | inl leaf ↦ IsFirstKeyWrong.OfLeaf leaf.0 leaf.1.0 leaf.1.1
      | inr index ↦ IsFirstKeyWrong.OfIndex index.0 index.1.0 index.1.1
    ])
    (λ first h. elim h [
      | IsFirstKeyWrong.OfLeaf level key below ↦ inl (level, (key, below))
      | IsFirstKeyWrong.OfIndex level key differs ↦ inr (level, (key, differs))
    ])

wrong_first_keys : (K : Known) → KnownLists K → Listing (AtSome (HasWrongFirstKey K))
wrong_first_keys K lists = like
    (either (among (parents K lists) (λ t parent. among (wrong_firsts t.2 t.0.key) (λ first wrong. one (row_error 8933 t.0 t.1 first))))
    (among (roots K lists) (λ t root. among (wrong_firsts t.2 0) (λ first wrong. one (tree_error 8933 t.0 t.1 0 0 first)))))
    (λ x h. elim h [
      | inl r ↦ (r.0.1, HasWrongFirstKey.ByRow r.0.0 r.0.2 r.2.0 r.1 r.2.1 r.2.2)
      | inr c ↦ (c.0.1, HasWrongFirstKey.ByCatalog c.0.0 c.0.2 c.2.0 c.1 c.2.1 c.2.2)
    ])
    (λ x h. elim (h.1) [
      | HasWrongFirstKey.ByRow c s first parent wrong is ↦ inl ((c, h.0, s), parent, (first, wrong, is))
      | HasWrongFirstKey.ByCatalog o s first root wrong is ↦ inr ((o, h.0, s), root, (first, wrong, is))
    ])

high_keys : (K : Known) → KnownLists K → Listing (AtSome (HasHighKey K))
high_keys K lists = like
    (among (parents K lists) (λ t parent. among (there_may_be t.2.last) (λ last key. among (highs K lists t.0) (λ high limit.
    when (dec_le high last) (one (row_error 8934 t.0 t.1 last))))))
    (λ x h. (
      h.0.1,
      record {
        row = h.0.0;
        head = h.0.2;
        last = h.2.0;
        high = h.2.2.0;
        parent = h.1;
        key = h.2.1;
        limit = h.2.2.1;
        above = h.2.2.2.0;
        is = h.2.2.2.1;
      },
    ))
    (λ x h. ((h.1.row, h.0, h.1.head), h.1.parent, (h.1.last, h.1.key, (h.1.high, h.1.limit, (h.1.above, h.1.is)))))

wrong_prevs : (K : Known) → KnownLists K → Listing (AtSome (HasWrongPrev K))
wrong_prevs K lists = like
    (either (among (parents K lists) (λ t parent. among (befores K lists t.0) (λ before is. when (dec_ne t.2.prev.0 before) (one (row_error 8935 t.0 t.1 t.2.prev.0)))))
    (among (roots K lists) (λ t root. when (dec_ne t.2.prev.0 0) (one (tree_error 8935 t.0 t.1 0 0 t.2.prev.0)))))
    (λ x h. elim h [
      | inl r ↦ (r.0.1, HasWrongPrev.ByRow r.0.0 r.0.2 r.2.0 r.1 r.2.1 r.2.2.0 r.2.2.1)
      | inr c ↦ (c.0.1, HasWrongPrev.ByCatalog c.0.0 c.0.2 c.1 c.2.0 c.2.1)
    ])
    (λ x h. elim (h.1) [
      | HasWrongPrev.ByRow c s before parent is differs error ↦ inl ((c, h.0, s), parent, (before, is, (differs, error)))
      | HasWrongPrev.ByCatalog o s root differs error ↦ inr ((o, h.0, s), root, (differs, error))
    ])

-- an error of one of these rules
abbrev pub IsParentError : Known → CheckError → Type 0
IsParentError K x = AtSome (IsRootUnseen K) x ⊎ (AtSome (HasTwoParents K) x ⊎ (AtSome (HasWrongLevel K) x ⊎ (AtSome (HasWrongFirstKey K) x
    ⊎ (AtSome (HasHighKey K) x ⊎ AtSome (HasWrongPrev K) x))))

pub parent_errors : (K : Known) → KnownLists K → Listing (IsParentError K)
parent_errors K lists = either (unseen_roots K lists) (either (two_parents K lists) (either (wrong_levels K lists) (either (wrong_first_keys K lists)
    (either (high_keys K lists) (wrong_prevs K lists)))))
