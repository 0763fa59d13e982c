-- What an insert writes shows the tree with the row.
use Rattle.std.proofs.Common.{◌≡◌, ℕ, suc, ◌+◌, ◌<◌, ◌≤◌, List, [], ◌∷◌, ◌++◌, length, Option, Some, None, unwrap_or, refl, sym, ap, ◌∙◌, subst, arith}
use Rattle.spec_levels.specs.Levels.{Row, Node, Tree, rows_of, pages_of, Payload}
use Rattle.spec_ways.specs.Climbs.{Step, Stays, Grows, Splits, separator_of, Climb, with_first_prev, after_step, IsStepped, AreStepped}
use Rattle.spec_ways.specs.Insert.{linked, Cut, Cuts, Grown, first_fresh, renumbered, raised, root_rows}
use Rattle.spec_ways.specs.InsertWrites.{steps_written, halves_written, raise_written, insert_written}
use Rattle.spec_levels.specs.Pages.{Page, LeafPage, IndexPage}
use Rattle.spec_ways.specs.Pages.{Pages, ShowsLevel, Shows, with_page}
use Rattle.spec_ways.specs.Rows.{lowest_key}
use Rattle.spec_ways.specs.Ways.{Way}
use Rattle.law_ways.proofs.Fits.{Level, Fits, count, all_pages}
use Rattle.law_ways.proofs.GrowLaws.{count_append}
use Rattle.law_ways.proofs.ShowLaws.{with_page_here, with_page_there, counts_self, uncounted, tree_same, steps_show, steps_long}
use Rattle.law_ways.proofs.ByKey.{climb_through_by_key, climb_by_key}

-- a level of one page
one_only : {V : Type 0} (root : ℕ) (nodes : List (Node V)) → Level None (root_rows root) nodes → (m : Node V) × (nodes ≡ m ∷ [])
one_only root [] l = absurd l
one_only root (m ∷ []) l = (m, refl)
one_only root (m ∷ o ∷ ns) l = absurd l.2

some_behind : {V : Type 0} (xs : List (Node V)) (n : Node V) (ys : List (Node V)) → 0 < length (xs ++ n ∷ ys)
some_behind [] n ys = omega arith
some_behind (x ∷ xs) n ys = omega arith

alone : {V : Type 0} (m : Node V) (left : List (Node V)) (n : Node V) (right : List (Node V)) → m ∷ [] ≡ left ++ n ∷ right → (left ≡ []) × (right ≡ [])
alone m [] n right e = (refl, sym (drop_first e))
  where
    drop_first : m ∷ [] ≡ n ∷ right → [] ≡ right
    drop_first h = cc
alone m (x ∷ xs) n right e = absurd (let f = ap (λ (l : List (Node _)). length l) e in let g = some_behind xs n right in omega (arith, f, g))

module _ {V : Type 0} where
  two_pages : (root : ℕ) (n : Node V) (rows : List (Row V)) (q : ℕ) (more : List (Row V)) (nodes nodes' : List (Node V)) → IsStepped n (Splits rows q more) nodes nodes'
      → Level None (root_rows root) nodes
      → nodes' ≡ record { page = n.page; prev = n.prev; next = q; rows = rows } ∷ record { page = q; prev = n.page; next = n.next; rows = more } ∷ []
  two_pages root n rows q more nodes nodes' st l =
      let one = one_only root nodes l in
      let parts = alone one.0 st.left n st.right (sym one.1 ∙ st.was) in
      st.is ∙ ap (λ (xs : List (Node V)). xs ++ (after_step (Splits rows q more) n ++ with_first_prev q st.right)) parts.0
      ∙ ap (λ (xs : List (Node V)). after_step (Splits rows q more) n ++ with_first_prev q xs) parts.1

  -- the two halves under their new numbers
  halves_are : (root right : ℕ) (n : Node V) (rows : List (Row V)) (q : ℕ) (more : List (Row V)) (nodes nodes' : List (Node V)) → IsStepped n (Splits rows q more) nodes nodes'
      → Level None (root_rows root) nodes
      → linked 0 (renumbered (q ∷ right ∷ []) nodes') ≡ record { page = q; prev = 0; next = right; rows = rows } ∷ record { page = right; prev = q; next = 0; rows = more } ∷ []
  halves_are root right n rows q more nodes nodes' st l = ap (λ (ns : List (Node V)). linked 0 (renumbered (q ∷ right ∷ []) ns)) (two_pages root n rows q more nodes nodes' st l)

  record HalvesShow (shape : Node V → Page) (level root right : ℕ) (rows : List (Row V)) (q : ℕ) (more : List (Row V)) (image image' : Pages) : Type 0 where
    top : image' root ≡ IndexPage (suc level) (record { page = root; prev = 0; next = 0; rows = record { key = 0; value = q } ∷ record { key = lowest_key more; value = right } ∷ [] })
    left_half : image' q ≡ shape (record { page = q; prev = 0; next = right; rows = rows })
    right_half : image' right ≡ shape (record { page = right; prev = q; next = 0; rows = more })
    same : (p : ℕ) → count p (root ∷ q ∷ right ∷ []) ≡ 0 → image' p ≡ image p

  halves_show : (shape : Node V → Page) (level root right : ℕ) (rows : List (Row V)) (q : ℕ) (more : List (Row V)) (image : Pages) → ((p : ℕ) → count p (root ∷ q ∷ right ∷ []) ≤ 1)
      → HalvesShow shape level root right rows q more image (halves_written shape level root right (Splits rows q more) image)
  halves_show shape level root right rows q more image once =
      let a : Node V = record { page = q; prev = 0; next = right; rows = rows } in
      let b : Node V = record { page = right; prev = q; next = 0; rows = more } in
      let t = IndexPage (suc level) (record { page = root; prev = 0; next = 0; rows = record { key = 0; value = q } ∷ record { key = lowest_key more; value = right } ∷ [] }) in
      let one = with_page q (shape a) image in
      let two = with_page right (shape b) one in
      let o = once q in
      let c = counts_self q [] in
      let o' = once right in
      let c' = counts_self right [] in
      let q_root : q ≡ root → ⊥ = uncounted q root [] (omega (arith, o, c)) in
      let q_right : q ≡ right → ⊥ = uncounted q right [] (omega (arith, o, c)) in
      let right_root : right ≡ root → ⊥ = uncounted right root [] (omega (arith, o', c')) in
      record {
        top = with_page_here root t two;
        left_half = with_page_there root q t two q_root ∙ with_page_there right q (shape b) one q_right ∙ with_page_here q (shape a) image;
        right_half = with_page_there root right t two right_root ∙ with_page_here right (shape b) one;
        same = λ p none. with_page_there root p t two (uncounted p root [] (omega (arith, none)))
            ∙ with_page_there right p (shape b) one (uncounted p right [] (omega (arith, none))) ∙ with_page_there q p (shape a) image (uncounted p q [] (omega (arith, none)));
      }

abbrev pub top_up : List (Step ℕ) → Step Payload → Option (Row ℕ)
top_up [] step = separator_of step
top_up (st ∷ steps) step = separator_of st

-- a tree whose root is split
pub record RaiseShows (image image' : Pages) (t : Tree) : Type 0 where
  pub shows : Shows image' t.above t.leaves
  pub same : (p : ℕ) → count p (all_pages t.above t.leaves) ≡ 0 → image' p ≡ image p

some_is : {A : Type 0} (a b : A) → Some a ≡ Some b → a ≡ b
some_is a b e = ap (λ o. unwrap_or o a) e

abbrev Raised : ℕ → ℕ → Row ℕ → List (List (Node ℕ)) → List (Node Payload) → Tree
Raised root right u above leaves = raised root (record { above = above; leaves = leaves; separator = None; fresh = right ∷ [] }) (Some u)

raise_leaves : (root right : ℕ) (leaf : Node Payload) (step : Step Payload) (leaves leaves' : List (Node Payload)) (u : Row ℕ) (image : Pages) → IsStepped leaf step leaves leaves'
    → Level None (root_rows root) leaves → separator_of step ≡ Some u → ((p : ℕ) → count p (all_pages (Raised root right u [] leaves').above (Raised root right u [] leaves').leaves) ≤ 1)
    → RaiseShows image (halves_written LeafPage 0 root right step image) (Raised root right u [] leaves')
raise_leaves root right leaf Stays leaves leaves' u image st l e once = absurd (cc)
raise_leaves root right leaf (Grows rows) leaves leaves' u image st l e once = absurd (cc)
raise_leaves root right leaf (Splits rows q more) leaves leaves' u image st l e once =
    let v : Row ℕ = record { key = lowest_key more; value = q } in
    let image' = halves_written LeafPage 0 root right (Splits rows q more) image in
    let are = halves_are root right leaf rows q more leaves leaves' st l in
    let counts : (p : ℕ) → count p (all_pages (Raised root right v [] leaves').above (Raised root right v [] leaves').leaves) ≡ count p (root ∷ q ∷ right ∷ []) =
    λ p. ap (λ (ns : List (Node Payload)). count p (root ∷ pages_of ns)) are in
    let once' = λ (p : ℕ). let a = subst (λ (w : Row ℕ). count p (all_pages (Raised root right w [] leaves').above (Raised root right w [] leaves').leaves) ≤ 1) (sym (some_is v u e)) (once p) in
    let b = counts p in let h : count p (root ∷ q ∷ right ∷ []) ≤ 1 = omega (arith, a, b) in h in
    let h = halves_show LeafPage 0 root right rows q more image once' in
    subst (λ (w : Row ℕ). RaiseShows image image' (Raised root right w [] leaves')) (some_is v u e) (record {
      shows = ((h.top, tt), subst (ShowsLevel LeafPage image') (sym are) (h.left_half, (h.right_half, tt)));
      same = λ p none. h.same p (sym (counts p) ∙ none);
    })

raise_index : (root right : ℕ) (n : Node ℕ) (step : Step ℕ) (nodes nodes' : List (Node ℕ)) (more' : List (List (Node ℕ))) (leaves' : List (Node Payload)) (u : Row ℕ) (image image' : Pages)
    → IsStepped n step nodes nodes' → Level None (root_rows root) nodes → separator_of step ≡ Some u
    → ((p : ℕ) → count p (all_pages (Raised root right u (nodes' ∷ more') leaves').above (Raised root right u (nodes' ∷ more') leaves').leaves) ≤ 1)
    → Shows image' more' leaves' → ((p : ℕ) → count p (all_pages more' leaves') ≡ 0 → image' p ≡ image p)
    → RaiseShows image (halves_written (IndexPage (suc (length more'))) (suc (length more')) root right step image') (Raised root right u (nodes' ∷ more') leaves')
raise_index root right n Stays nodes nodes' more' leaves' u image image' st l e once s same = absurd (cc)
raise_index root right n (Grows rows) nodes nodes' more' leaves' u image image' st l e once s same = absurd (cc)
raise_index root right n (Splits rows q more) nodes nodes' more' leaves' u image image' st l e once s same =
    let v : Row ℕ = record { key = lowest_key more; value = q } in
    let shape = IndexPage (suc (length more')) in
    let image'' = halves_written shape (suc (length more')) root right (Splits rows q more) image' in
    let are = halves_are root right n rows q more nodes nodes' st l in
    let counts : (p : ℕ) → count p (all_pages (Raised root right v (nodes' ∷ more') leaves').above (Raised root right v (nodes' ∷ more') leaves').leaves)
    ≡ count p (root ∷ q ∷ right ∷ all_pages more' leaves') =
    λ p. ap (λ (ns : List (Node ℕ)). count p (root ∷ (pages_of ns ++ all_pages more' leaves'))) are in
    let once' : (p : ℕ) → count p (root ∷ q ∷ right ∷ []) + count p (all_pages more' leaves') ≤ 1 =
    λ p. let a = subst (λ (w : Row ℕ). count p (all_pages (Raised root right w (nodes' ∷ more') leaves').above (Raised root right w (nodes' ∷ more') leaves').leaves) ≤ 1) (sym (some_is v u e)) (once p) in
    let b = counts p in omega (arith, a, b) in
    let h = halves_show shape (suc (length more')) root right rows q more image' (λ p. let a = once' p in omega (arith, a)) in
    subst (λ (w : Row ℕ). RaiseShows image image'' (Raised root right w (nodes' ∷ more') leaves')) (some_is v u e) (record {
      shows = (
        (h.top, tt),
        (subst (ShowsLevel shape image'') (sym are) (h.left_half, (h.right_half, tt)), tree_same image' image'' more' leaves' (λ p some. h.same p (let a = once' p in omega (arith, a, some))) s),
      );
      same = λ p none. let b = counts p in h.same p (omega (arith, b, none)) ∙ same p (omega (arith, b, none));
    })

module _ (root right : ℕ) (leaf : Node Payload) (step : Step Payload) (leaves leaves' : List (Node Payload)) (st : IsStepped leaf step leaves leaves') (image : Pages) (u : Row ℕ) where
  raised_shows : (ns : List (Node ℕ)) (steps : List (Step ℕ)) (above above' : List (List (Node ℕ))) → Fits None (root_rows root) above leaves → AreStepped ns steps above above'
      → Shows image above leaves → top_up steps step ≡ Some u → ((p : ℕ) → count p (all_pages (Raised root right u above' leaves').above (Raised root right u above' leaves').leaves) ≤ 1)
      → count 0 (all_pages (Raised root right u above' leaves').above (Raised root right u above' leaves').leaves) ≡ 0
      → RaiseShows image (raise_written root right ns steps leaf step image) (Raised root right u above' leaves')
  raised_shows [] [] [] [] f h s e once nonzero = raise_leaves root right leaf step leaves leaves' u image st f.0 e once
  raised_shows (n ∷ ns) (q ∷ steps) (nodes ∷ more) (nodes' ∷ more') f h s e once nonzero =
      let top = linked 0 (renumbered (u.value ∷ right ∷ []) nodes') in
      let counts = λ (p : ℕ). count_append p (pages_of top) (all_pages more' leaves') in
      let zero_counts = counts 0 in
      let long = steps_long ns steps more more' h.1 in
      let low = steps_show leaf step leaves leaves' st image (rows_of nodes) ns steps more more' f.3 h.1 s.1
      (λ p. let a = counts p in let b = once p in omega (arith, a, b)) (omega (arith, zero_counts, nonzero)) in
      let image' = steps_written ns steps leaf step image in
      subst (λ m. RaiseShows image (halves_written (IndexPage (suc m)) (suc m) root right q image') (Raised root right u (nodes' ∷ more') leaves')) (sym long.1)
      (raise_index root right n q nodes nodes' more' leaves' u image image' h.0 f.0 e once low.shows low.same)
  raised_shows [] [] [] (nodes' ∷ more') f h s e once nonzero = absurd h
  raised_shows [] [] (nodes ∷ more) above' f h s e once nonzero = absurd h
  raised_shows [] (q ∷ steps) above above' f h s e once nonzero = absurd h
  raised_shows (n ∷ ns) [] above above' f h s e once nonzero = absurd h
  raised_shows (n ∷ ns) (q ∷ steps) [] above' f h s e once nonzero = absurd h
  raised_shows (n ∷ ns) (q ∷ steps) (nodes ∷ more) [] f h s e once nonzero = absurd h

climbed_top : (cut : Cut ℕ) (n : Node ℕ) (b : Climb) (o : Option (Row ℕ))
    → top_up (climb_through_by_key cut n b o).above (climb_through_by_key cut n b o).leaf ≡ (climb_through_by_key cut n b o).separator
climbed_top cut n b None = refl
climbed_top cut n b (Some y) = refl

pub climb_top : (cuts : Cuts) (fresh : List ℕ) (x : Row Payload) (ns : List (Node ℕ)) (leaf : Node Payload) → let c = climb_by_key cuts fresh x ns leaf in top_up c.above c.leaf ≡ c.separator
climb_top cuts fresh x [] leaf = refl
climb_top cuts fresh x (n ∷ ns) leaf = let b = climb_by_key cuts fresh x ns leaf in climbed_top cuts.index n b b.separator

-- an insert, by the row that goes above the root
pub insert_shows : (root : ℕ) (way : Way) (c : Climb) (b : Grown) (tree : Tree) (image : Pages) (o : Option (Row ℕ)) → Fits None (root_rows root) tree.above tree.leaves
    → AreStepped way.above c.above tree.above b.above → IsStepped way.leaf c.leaf tree.leaves b.leaves → b.fresh ≡ c.fresh → top_up c.above c.leaf ≡ o → Shows image tree.above tree.leaves
    → ((p : ℕ) → count p (all_pages (raised root b o).above (raised root b o).leaves) ≤ 1) → count 0 (all_pages (raised root b o).above (raised root b o).leaves) ≡ 0
    → RaiseShows image (insert_written root way c o image) (raised root b o)
insert_shows root way c b tree image None f h l fresh top s once nonzero =
    let r = steps_show way.leaf c.leaf tree.leaves b.leaves l image (root_rows root) way.above c.above tree.above b.above f h s once nonzero in record { shows = r.shows; same = r.same }
insert_shows root way c b tree image (Some u) f h l fresh top s once nonzero =
    subst (λ new. RaiseShows image (raise_written root (first_fresh new) way.above c.above way.leaf c.leaf image) (raised root b (Some u))) fresh
    (raised_shows root (first_fresh b.fresh) way.leaf c.leaf tree.leaves b.leaves l image u way.above c.above tree.above b.above f h s top once nonzero)
