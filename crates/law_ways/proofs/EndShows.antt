-- What a delete writes shows the tree without the row.
use Rattle.std.proofs.Common.{◌≡◌, ℕ, zero, suc, ◌+◌, ◌<◌, ◌≤◌, ◌==◌, true, false, List, [], ◌∷◌, ◌++◌, length, Option, Some, None, refl, sym, ap, ◌∙◌, subst, inl, inr, arith, append-nil}
use Rattle.std.proofs.lemmas.Bool.{cases_Bool, cases_eq, eqb-true, eqb-false, eq-eqb, ne_eqb}
use Rattle.spec_levels.specs.Levels.{Row, Node, Tree, rows_of, pages_of, Payload}
use Rattle.spec_ways.specs.Delete.{collapsed, Shrunk, lowered}
use Rattle.spec_ways.specs.DeleteWrites.{only_value, only_child, last_from, last_only_child, only_children_from, only_children, page_as_root}
use Rattle.law_ways.proofs.ByNext.{losses_by_next, children_by_next, delete_by_next}
use Rattle.spec_ways.specs.Insert.{linked, renumbered, top_renumbered, root_rows}
use Rattle.spec_levels.specs.Pages.{Page, LeafPage, IndexPage}
use Rattle.spec_ways.specs.Pages.{Pages, ShowsLevel, Shows, with_page}
use Rattle.spec_ways.specs.Rows.{without}
use Rattle.spec_ways.specs.Sinks.{Loss, Untouched, Keeps, Goes, gone_key_of, Sink, IsSunk, edge_below, AreSunk, freed_page, freed_pages, freed_below_root}
use Rattle.spec_ways.specs.Ways.{Way, key_toward}
use Rattle.law_ways.proofs.Bounds.{HasKey}
use Rattle.law_ways.proofs.Fits.{Level, Fits, count, all_pages}
use Rattle.law_ways.proofs.GrowLaws.{count_append, rows_start}
use Rattle.law_ways.proofs.LossShows.{losses_show, losses_long}
use Rattle.law_ways.proofs.ShowLaws.{with_page_here, with_page_there, counts_self, tree_same, pages_join}
use Rattle.law_ways.proofs.ShrinkLaws.{single, one_page, root_counts, IsShrunk}
use Rattle.law_ways.proofs.TopLaws.{top_is}
use Rattle.law_ways.proofs.ByKey.{sink_through_by_key, sink_by_key}

abbrev row_at : ℕ → ℕ → List (Row ℕ)
row_at low page = record { key = low; value = page } ∷ []

-- a level of one page
abbrev one_node : {V : Type 0} (low page : ℕ) (nodes : List (Node V)) → Level None (row_at low page) nodes → (m : Node V) × (nodes ≡ m ∷ []) × (m.page ≡ page)
one_node low page [] l = absurd l
one_node low page (m ∷ []) l = (m, refl, sym l.0)
one_node low page (m ∷ o ∷ ns) l = absurd l.2

one_shows : {V : Type 0} (shape : Node V → Page) (image : Pages) (low page : ℕ) (nodes : List (Node V)) (l : Level None (row_at low page) nodes) → ShowsLevel shape image nodes
    → image page ≡ shape (one_node low page nodes l).0
one_shows shape image low page [] l s = absurd l
one_shows shape image low page (m ∷ []) l s = ap image l.0 ∙ s.0
one_shows shape image low page (m ∷ o ∷ ns) l s = absurd l.2

no_child : (rows : List (Row ℕ)) → (length rows ≡ 1 → ⊥) → only_value rows ≡ None
no_child [] none = refl
no_child (r ∷ []) none = absurd (none refl)
no_child (r ∷ s ∷ rest) none = refl

-- the tree that is left when levels with one row go, and the page of its top
record Bottomed (m low page : ℕ) (image : Pages) (above : List (List (Node ℕ))) (leaves : List (Node Payload)) (t : Tree) : Type 0 where
  exact : (p : ℕ) → count p (all_pages t.above t.leaves) + count p (page ∷ only_children m image page) ≡ count p (all_pages above leaves) + count p (last_only_child m image page ∷ [])
  fits : Fits None (row_at low (last_only_child m image page)) t.above t.leaves
  shows : Shows image t.above t.leaves

stops : (m : ℕ) (image : Pages) (page : ℕ) → only_child (image page) ≡ None → last_only_child m image page ≡ page
stops zero image page e = refl
stops (suc m) image page e = ap (last_from (last_only_child m image) page) e

childless : (m : ℕ) (image : Pages) (page : ℕ) → only_child (image page) ≡ None → only_children m image page ≡ []
childless zero image page e = refl
childless (suc m) image page e = ap (only_children_from (only_children m image)) e

bottomed : (m low page : ℕ) (image : Pages) (above : List (List (Node ℕ))) (leaves : List (Node Payload)) → length above ≤ m → Fits None (row_at low page) above leaves → Shows image above leaves
    → Bottomed m low page image above leaves (collapsed above leaves)
bottomed m low page image [] leaves long f s =
    let e = stops m image page (ap only_child (one_shows LeafPage image low page leaves f.0 s)) in
    record { exact = λ p. let g = ap (λ q. count p (q ∷ [])) e in let i = ap (count p) (childless m image page (ap only_child (one_shows LeafPage image low page leaves f.0 s))) in omega (arith, g, i); fits = subst (λ p. Fits None (row_at low p) [] leaves) (sym e) f; shows = s }
bottomed zero low page image (nodes ∷ more) leaves long f s = absurd (omega (arith, long))
bottomed (suc m) low page image (nodes ∷ more) leaves long f s =
    let n = one_node low page nodes f.0 in
    let there = ap only_child (one_shows (IndexPage (suc (length more))) image low page nodes f.0 s.0) in
    let rows_are : rows_of nodes ≡ n.0.rows = ap (λ l. rows_of l) n.1 ∙ append-nil n.0.rows in
    elim (cases_Bool (length (rows_of nodes) == 1)) [
      | inl one ↦
          let row = single low (rows_of nodes) (rows_start low None (row_at low page) nodes refl f.0 f.1) (eqb-true (length (rows_of nodes)) 1 one) in
          let e : last_only_child (suc m) image page ≡ last_only_child m image row.0 =
          ap (last_from (last_only_child m image) page) (there ∙ ap only_value (sym rows_are ∙ row.1)) in
          let h = bottomed m low row.0 image more leaves (omega (arith, long)) (subst (λ R. Fits None R more leaves) row.1 f.3) s.1 in
          subst (Bottomed (suc m) low page image (nodes ∷ more) leaves) (sym (goes one))
          (record {
            exact = λ p.
                let g = ap (λ q. count p (q ∷ [])) e in let i = h.exact p in let c = ap (λ o. count p (only_children_from (only_children m image) o)) (there ∙ ap only_value (sym rows_are
                ∙ row.1)) in let j = ap (count p) (one_page low page nodes f.0) in
                let k = count_append p (pages_of nodes) (all_pages more leaves) in omega (arith, g, i, j, k, c);
            fits = subst (λ p. Fits None (row_at low p) (collapsed more leaves).above (collapsed more leaves).leaves) (sym e) h.fits;
            shows = h.shows;
          })
      | inr other ↦
          let e = stops (suc m) image page (there ∙ no_child n.0.rows (λ is. eqb-false (length (rows_of nodes)) 1 other (ap (λ (l : List (Row ℕ)). length l) rows_are ∙ is))) in
          subst (Bottomed (suc m) low page image (nodes ∷ more) leaves) (sym (stays other))
          (record {
            exact = λ p. let g = ap (λ q. count p (q ∷ [])) e in let i = ap (count p) (childless (suc m) image page (there
                ∙ no_child n.0.rows (λ is. eqb-false (length (rows_of nodes)) 1 other (ap (λ (l : List (Row ℕ)). length l) rows_are ∙ is)))) in omega (arith, g, i);
            fits = subst (λ p. Fits None (row_at low p) (nodes ∷ more) leaves) (sym e) f;
            shows = s;
          })
    ]
  where
    goes : (length (rows_of nodes) == 1) ≡ true → collapsed (nodes ∷ more) leaves ≡ collapsed more leaves
    goes e = rw e refl

    stays : (length (rows_of nodes) == 1) ≡ false → collapsed (nodes ∷ more) leaves ≡ record { above = nodes ∷ more; leaves = leaves }
    stays e = rw e refl

-- the top level in the root's page
top_shows : {V : Type 0} (shape : Node V → Page) → ((root : ℕ) (n : Node V) → page_as_root root (shape n) ≡ shape (record { page = root; prev = 0; next = 0; rows = n.rows }))
    → (root low page : ℕ) (image : Pages) (nodes : List (Node V)) → Level None (row_at low page) nodes → ShowsLevel shape image nodes
    → ShowsLevel shape (with_page root (page_as_root root (image page)) image) (linked 0 (renumbered (root ∷ []) nodes))
top_shows shape shaped root low page image nodes l s =
    let n = one_node low page nodes l in
    let now = page_as_root root (image page) in
    subst (λ ns. ShowsLevel shape (with_page root now image) (linked 0 (renumbered (root ∷ []) ns))) (sym n.1)
    (with_page_here root now image ∙ ap (page_as_root root) (one_shows shape image low page nodes l s) ∙ shaped root n.0, tt)

topped_shows : (root low page : ℕ) (image : Pages) (above : List (List (Node ℕ))) (leaves : List (Node Payload)) → Fits None (row_at low page) above leaves → Shows image above leaves
    → count root (all_pages above leaves) ≤ count root (page ∷ [])
    → let t = top_renumbered (root ∷ []) above leaves in Shows (with_page root (page_as_root root (image page)) image) t.above t.leaves
topped_shows root low page image [] leaves f s apart = top_shows LeafPage (λ r n. refl) root low page image leaves f.0 s
topped_shows root low page image (nodes ∷ more) leaves f s apart = (
  top_shows (IndexPage (suc (length more))) (λ r n. refl) root low page image nodes f.0 s.0,
  tree_same image (with_page root (page_as_root root (image page)) image) more leaves
      (λ p some. with_page_there root p (page_as_root root (image page)) image (λ same.
      let a = count_append root (pages_of nodes) (all_pages more leaves) in let b = ap (count root) (one_page low page nodes f.0) in
      let c = subst (λ q. 0 < count q (all_pages more leaves)) same some in omega (arith, a, b, c, apart))) s.1,
)

pub record EndShows (image image' : Pages) (tree t : Tree) (goes : List ℕ) : Type 0 where
  pub shows : Shows image' t.above t.leaves
  pub same : (p : ℕ) → count p (all_pages tree.above tree.leaves) ≡ 0 → image' p ≡ image p
  pub exact : (p : ℕ) → count p (all_pages t.above t.leaves) + count p goes ≡ count p (all_pages tree.above tree.leaves)

other_page : (root p : ℕ) (above : List (List (Node ℕ))) (leaves : List (Node Payload)) → count root (root ∷ []) ≤ count root (all_pages above leaves) → count p (all_pages above leaves) ≡ 0
    → p ≡ root → ⊥
other_page root p above leaves has none same =
    let a = subst (λ q. count q (all_pages above leaves) ≡ 0) same none in let b = counts_self root [] in omega (arith, a, b, has)

losses_match : (edge : Option ℕ) (ns : List (Node ℕ)) (losses : List (Loss ℕ)) (above above' : List (List (Node ℕ))) → AreSunk edge ns losses above above' → length ns ≡ length losses
losses_match edge [] [] above above' h = refl
losses_match edge (n ∷ ns) (l ∷ losses) (nodes ∷ more) (nodes' ∷ more') h = ap suc (losses_match (edge_below edge l) ns losses more more' h.1)
losses_match edge [] (l ∷ losses) above above' h = absurd h
losses_match edge (n ∷ ns) [] above above' h = absurd h
losses_match edge (n ∷ ns) (l ∷ losses) [] above' h = absurd h
losses_match edge (n ∷ ns) (l ∷ losses) (nodes ∷ more) [] h = absurd h

abbrev pub top_gone : List (Loss ℕ) → Loss Payload → Option ℕ
top_gone [] loss = gone_key_of 0 loss
top_gone (l ∷ losses) loss = gone_key_of 0 l

sunk_top : (k : ℕ) (n : Node ℕ) (b : Sink) (o : Option ℕ) → top_gone (sink_through_by_key 0 n b o).above (sink_through_by_key 0 n b o).leaf ≡ (sink_through_by_key 0 n b o).gone_key
sunk_top k n b None = refl
sunk_top k n b (Some g) = refl

pub sink_top : (k : ℕ) (ns : List (Node ℕ)) (leaf : Node Payload) → let c = sink_by_key 0 k ns leaf in top_gone c.above c.leaf ≡ c.gone_key
sink_top k [] leaf = refl
sink_top k (n ∷ ns) leaf = let b = sink_by_key (key_toward k n.rows) k ns leaf in sunk_top k n b b.gone_key

stays_freed : {V : Type 0} (p : ℕ) (loss : Loss V) (n : Node V) → gone_key_of 0 loss ≡ None → count p (freed_page loss n) ≡ 0
stays_freed p Untouched n e = refl
stays_freed p (Keeps rows below) n e = refl
stays_freed p Goes n e = absurd (cc)

goes_freed : {V : Type 0} (p g : ℕ) (loss : Loss V) (n : Node V) → gone_key_of 0 loss ≡ Some g → count p (freed_page loss n) ≡ count p (n.page ∷ [])
goes_freed p g Untouched n e = absurd (cc)
goes_freed p g (Keeps rows below) n e = absurd (cc)
goes_freed p g Goes n e = refl

stays_below : (p : ℕ) (ns : List (Node ℕ)) (losses : List (Loss ℕ)) (leaf : Node Payload) (loss : Loss Payload) → length ns ≡ length losses → top_gone losses loss ≡ None
    → count p (freed_pages ns losses leaf loss) ≡ count p (freed_below_root ns losses leaf loss)
stays_below p [] [] leaf loss same e = stays_freed p loss leaf e
stays_below p [] (l ∷ losses) leaf loss same e = absurd (omega (arith, same))
stays_below p (n ∷ ns) [] leaf loss same e = refl
stays_below p (n ∷ ns) (l ∷ losses) leaf loss same e =
    let a = count_append p (freed_pages ns losses leaf loss) (freed_page l n) in let b = stays_freed p l n e in omega (arith, a, b)

no_pages : (p : ℕ) (above : List (List (Node ℕ))) (leaves : List (Node Payload)) → Fits None [] above leaves → count p (all_pages above leaves) ≡ 0
no_pages p [] [] f = refl
no_pages p [] (n ∷ ns) f = absurd f.0
no_pages p ([] ∷ more) leaves f = no_pages p more leaves f.3
no_pages p ((n ∷ ns) ∷ more) leaves f = absurd f.0

no_root : (g root : ℕ) (above : List (List (Node ℕ))) (leaves : List (Node Payload)) → HasKey g (root_rows root) → Fits None (without g (root_rows root)) above leaves → Fits None [] above leaves
no_root g root above leaves (inl e) f = let z = eq-eqb g 0 e in rw z at f
no_root g root above leaves (inr none) f = absurd none

root_page : {V : Type 0} (p root : ℕ) (n : Node V) (loss : Loss V) (edge : Option ℕ) (nodes nodes' : List (Node V)) → IsSunk n loss edge nodes nodes' → Level None (root_rows root) nodes
    → count p (n.page ∷ []) ≡ count p (root ∷ [])
root_page p root n loss edge nodes nodes' st l = ap (λ q. count p (q ∷ [])) (elim (cases_eq root n.page) [
  | inl same ↦ sym same
  | inr other ↦ absurd (
      let a = pages_join n.page st.left (n ∷ st.right) in let b = ap (λ l. count n.page (pages_of l)) st.was in let c = ap (count n.page) (one_page 0 root nodes l) in
      let d = counts_self n.page (pages_of st.right) in let e : count n.page (root ∷ []) ≡ 0 = (let f = ne_eqb root n.page other in rw f refl) in omega (arith, a, b, c, d, e))
])

root_goes : (p g root : ℕ) (leaves leaves' : List (Node Payload)) (leaf : Node Payload) (loss : Loss Payload) → IsSunk leaf loss None leaves leaves'
    → (ns : List (Node ℕ)) (losses : List (Loss ℕ)) (above above' : List (List (Node ℕ))) → Fits None (root_rows root) above leaves → AreSunk None ns losses above above'
    → top_gone losses loss ≡ Some g
    → count p (freed_pages ns losses leaf loss) ≡ count p (freed_below_root ns losses leaf loss) + count p (root ∷ [])
root_goes p g root leaves leaves' leaf loss st [] [] [] [] f h e =
    let a = goes_freed p g loss leaf e in let b = root_page p root leaf loss None leaves leaves' st f.0 in omega (arith, a, b)
root_goes p g root leaves leaves' leaf loss st (n ∷ ns) (l ∷ losses) (nodes ∷ more) (nodes' ∷ more') f h e =
    let a = goes_freed p g l n e in let b = root_page p root n l None nodes nodes' h.0 f.0 in
    let c = count_append p (freed_pages ns losses leaf loss) (freed_page l n) in omega (arith, a, b, c)
root_goes p g root leaves leaves' leaf loss st [] [] [] (nodes' ∷ more') f h e = absurd h
root_goes p g root leaves leaves' leaf loss st [] [] (nodes ∷ more) above' f h e = absurd h
root_goes p g root leaves leaves' leaf loss st [] (l ∷ losses) above above' f h e = absurd h
root_goes p g root leaves leaves' leaf loss st (n ∷ ns) [] above above' f h e = absurd h
root_goes p g root leaves leaves' leaf loss st (n ∷ ns) (l ∷ losses) [] above' f h e = absurd h
root_goes p g root leaves leaves' leaf loss st (n ∷ ns) (l ∷ losses) (nodes ∷ more) [] f h e = absurd h

pub delete_shows : (root k : ℕ) (way : Way) (c : Sink) (b : Shrunk) (tree : Tree) (image : Pages) (o : Option ℕ) → Fits None (root_rows root) tree.above tree.leaves
    → AreSunk None way.above c.above tree.above b.above → IsSunk way.leaf c.leaf None tree.leaves b.leaves → IsShrunk k (root_rows root) tree.above tree.leaves b o → Shows image tree.above tree.leaves
    → ((p : ℕ) → count p (all_pages tree.above tree.leaves) ≤ 1) → count 0 (all_pages tree.above tree.leaves) ≡ 0 → top_gone c.above c.leaf ≡ o
    → EndShows image (delete_by_next root way c o image) tree (lowered root b o) (freed_below_root way.above c.above way.leaf c.leaf ++ children_by_next root way c image o)
delete_shows root k way c b tree image None f h l shrinks s once nonzero at_top =
    let low = losses_show way.leaf c.leaf tree.leaves b.leaves l image None (root_rows root) way.above c.above tree.above b.above f h s once nonzero in
    let one = losses_by_next None way.above c.above way.leaf c.leaf image in
    let m = length way.above in
    let long = losses_long None way.above c.above tree.above b.above h in
    let u = bottomed m 0 root one b.above b.leaves (omega (arith, long.1)) shrinks.lower low.shows in
    let t = collapsed b.above b.leaves in
    let q = last_only_child m one root in
    let a = u.exact root in
    let d = low.exact root in
    let e = once root in
    let g = counts_self root [] in
    let top = topped_shows root 0 q one t.above t.leaves u.fits u.shows (omega (arith, a, d, e, g)) in
    let tops = top_is (root ∷ []) None (row_at 0 q) t.above t.leaves refl u.fits in
    record {
      shows = top;
      same = λ p none. with_page_there root p (page_as_root root (one q)) one (other_page root p tree.above tree.leaves (root_counts root root tree.above tree.leaves f) none) ∙ low.same p none;
      exact = λ p.
          let i = u.exact p in let j = low.exact p in let v = tops.pages_are p in
          let w = count_append p (freed_below_root way.above c.above way.leaf c.leaf) (children_by_next root way c image None) in
          let x = stays_below p way.above c.above way.leaf c.leaf (losses_match None way.above c.above tree.above b.above h) at_top in omega (arith, i, j, v, w, x);
    }
delete_shows root k way c b tree image (Some g) f h l shrinks s once nonzero at_top =
    let now = LeafPage (record { page = root; prev = 0; next = 0; rows = [] }) in
    record {
      shows = (with_page_here root now image, tt);
      same = λ p none. with_page_there root p now image (other_page root p tree.above tree.leaves (root_counts root root tree.above tree.leaves f) none);
      exact = λ p.
          let low = losses_show way.leaf c.leaf tree.leaves b.leaves l image None (root_rows root) way.above c.above tree.above b.above f h s once nonzero in
          let i = low.exact p in
          let j = no_pages p b.above b.leaves (no_root g root b.above b.leaves shrinks.lower.has shrinks.lower.fits) in
          let w = count_append p (freed_below_root way.above c.above way.leaf c.leaf) (children_by_next root way c image (Some g)) in
          let x = root_goes p g root tree.leaves b.leaves way.leaf c.leaf l way.above c.above tree.above b.above f h at_top in omega (arith, i, j, w, x);
    }
