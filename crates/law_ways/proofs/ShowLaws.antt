-- What the steps of a way write shows the tree after them.
use Rattle.std.proofs.Common.{◌≡◌, ℕ, suc, ◌+◌, ◌<◌, ◌≤◌, List, [], ◌∷◌, ◌++◌, length, None, refl, sym, ap, ◌∙◌, subst, arith}
use Rattle.std.specs.Prelude.{if◌then◌else◌}
use Rattle.std.proofs.lemmas.Bool.{eq-eqb, ne_eqb}
use Rattle.spec_levels.specs.Levels.{Row, Node, rows_of, pages_of, first_page, IsLinked, Payload}
use Rattle.spec_ways.specs.Climbs.{Step, Stays, Grows, Splits, with_first_prev, after_step, behind_step, IsStepped, AreStepped}
use Rattle.spec_ways.specs.InsertWrites.{page_with_prev, prev_written, step_written, steps_written}
use Rattle.spec_levels.specs.Pages.{Page, LeafPage, IndexPage}
use Rattle.spec_ways.specs.Pages.{Pages, ShowsLevel, Shows, with_page}
use Rattle.law_ways.proofs.Fits.{Fits, count, all_pages}
use Rattle.law_ways.proofs.GrowLaws.{count_append}

pub with_page_here : (p : ℕ) (now : Page) (image : Pages) → with_page p now image p ≡ now
with_page_here p now image = let e = eq-eqb p p refl in rw e refl

pub with_page_there : (p q : ℕ) (now : Page) (image : Pages) → (q ≡ p → ⊥) → with_page p now image q ≡ image q
with_page_there p q now image other = let e = ne_eqb q p other in rw e refl

-- a page that is counted no more
pub counts_self : (p : ℕ) (qs : List ℕ) → count p (p ∷ qs) ≡ 1 + count p qs
counts_self p qs = let e = eq-eqb p p refl in rw e refl

pub uncounted : (p q : ℕ) (qs : List ℕ) → count p (q ∷ qs) ≡ 0 → p ≡ q → ⊥
uncounted p q qs none same = let e = eq-eqb q p (sym same) in let f = rw e at none in omega (arith, f)

module _ {V : Type 0} (shape : Node V → Page) where
  pub shows_join : (image : Pages) (xs ys : List (Node V)) → ShowsLevel shape image xs → ShowsLevel shape image ys → ShowsLevel shape image (xs ++ ys)
  shows_join image [] ys s t = t
  shows_join image (x ∷ xs) ys s t = (s.0, shows_join image xs ys s.1 t)

  pub shows_parts : (image : Pages) (xs ys : List (Node V)) → ShowsLevel shape image (xs ++ ys) → ShowsLevel shape image xs × ShowsLevel shape image ys
  shows_parts image [] ys s = (tt, s)
  shows_parts image (x ∷ xs) ys s = let h = shows_parts image xs ys s.1 in ((s.0, h.0), h.1)

  -- pages that are the same in another image
  pub shows_same : (image image' : Pages) (nodes : List (Node V)) → ((p : ℕ) → 0 < count p (pages_of nodes) → image' p ≡ image p) → ShowsLevel shape image nodes → ShowsLevel shape image' nodes
  shows_same image image' [] same s = tt
  shows_same image image' (n ∷ ns) same s = (
    same n.page (let e = counts_self n.page (pages_of ns) in omega (arith, e)) ∙ s.0,
    shows_same image image' ns (λ p some. same p (omega (arith, some))) s.1,
  )

  pub shows_wrote : (p : ℕ) (now : Page) (image : Pages) (nodes : List (Node V)) → count p (pages_of nodes) ≡ 0 → ShowsLevel shape image nodes → ShowsLevel shape (with_page p now image) nodes
  shows_wrote p now image nodes none s =
      shows_same image (with_page p now image) nodes (λ q some. with_page_there p q now image (λ same. let e = subst (λ j. 0 < count j (pages_of nodes)) same some in omega (arith, e, none))) s

  after_pages : (step : Step V) (right : List (Node V)) → pages_of (behind_step step right) ≡ pages_of right
  after_pages Stays right = refl
  after_pages (Grows rows) right = refl
  after_pages (Splits rows q more) [] = refl
  after_pages (Splits rows q more) (m ∷ ms) = refl

  -- the pages of a level after a step
  record StepShows (image image' : Pages) (left : List (Node V)) (n : Node V) (right : List (Node V)) (step : Step V) : Type 0 where
    shows : ShowsLevel shape image' (left ++ (after_step step n ++ behind_step step right))
    same : (p : ℕ) → count p (pages_of left) + (count p (pages_of (after_step step n)) + count p (pages_of right)) ≡ 0 → image' p ≡ image p

  module _ (shaped : (q : ℕ) (n : Node V) → page_with_prev q (shape n) ≡ shape (record { page = n.page; prev = q; next = n.next; rows = n.rows })) where
    prev_shows : (image : Pages) (q : ℕ) (left right : List (Node V)) (next : ℕ) → next ≡ first_page right → count 0 (pages_of right) ≡ 0
        → ((p : ℕ) → count p (pages_of left) + count p (pages_of right) ≤ 1) → ShowsLevel shape image left → ShowsLevel shape image right
        → ShowsLevel shape (prev_written next q image) left × ShowsLevel shape (prev_written next q image) (with_first_prev q right)
        × ((p : ℕ) → count p (pages_of right) ≡ 0 → prev_written next q image p ≡ image p)
    prev_shows image q left [] next is nonzero once s t =
        let e = eq-eqb next 0 is in
        let f : prev_written next q image ≡ image = rw e refl in
        (subst (λ i. ShowsLevel shape i left) (sym f) s, tt, λ p none. ap (λ (i : Pages). i p) f)
    prev_shows image q left (m ∷ ms) next is nonzero once s t =
        let e = ne_eqb next 0 (λ z. uncounted 0 m.page (pages_of ms) nonzero (sym z ∙ is)) in
        let f : prev_written next q image ≡ with_page m.page (page_with_prev q (image m.page)) image =
        ap (λ b. if b then image else with_page next (page_with_prev q (image next)) image) e ∙ ap (λ p. with_page p (page_with_prev q (image p)) image) is in
        let now = page_with_prev q (image m.page) in
        let o = once m.page in
        let c = counts_self m.page (pages_of ms) in (
          subst (λ i. ShowsLevel shape i left) (sym f) (shows_wrote m.page now image left (omega (arith, o, c)) s),
          subst (λ i. ShowsLevel shape i (with_first_prev q (m ∷ ms))) (sym f)
              (with_page_here m.page now image ∙ ap (page_with_prev q) t.0 ∙ shaped q m, shows_wrote m.page now image ms (omega (arith, o, c)) t.1),
          λ p none. ap (λ (i : Pages). i p) f ∙ with_page_there m.page p now image (uncounted p m.page (pages_of ms) none),
        )

    step_shows : (image : Pages) (left : List (Node V)) (n : Node V) (right : List (Node V)) (step : Step V) → n.next ≡ first_page right → count 0 (pages_of right) ≡ 0
        → ((p : ℕ) → count p (pages_of left) + (count p (pages_of (after_step step n)) + count p (pages_of right)) ≤ 1) → ShowsLevel shape image (left ++ n ∷ right)
        → StepShows image (step_written shape n step image) left n right step
    step_shows image left n right Stays is nonzero once s = record { shows = s; same = λ p none. refl }
    step_shows image left n right (Grows rows) is nonzero once s =
        let parts = shows_parts image left (n ∷ right) s in
        let n' : Node V = record { page = n.page; prev = n.prev; next = n.next; rows = rows } in
        let o = once n.page in
        let c = counts_self n.page [] in
        record {
          shows = shows_join (with_page n.page (shape n') image) left (n' ∷ right) (shows_wrote n.page (shape n') image left (omega (arith, o, c)) parts.0)
              (with_page_here n.page (shape n') image, shows_wrote n.page (shape n') image right (omega (arith, o, c)) parts.1.1);
          same = λ p none. with_page_there n.page p (shape n') image (uncounted p n.page [] (omega (arith, none)));
        }
    step_shows image left n right (Splits rows q more) is nonzero once s =
        let parts = shows_parts image left (n ∷ right) s in
        let n' : Node V = record { page = n.page; prev = n.prev; next = q; rows = rows } in
        let x : Node V = record { page = q; prev = n.page; next = n.next; rows = more } in
        let one = with_page n.page (shape n') image in
        let two = with_page q (shape x) one in
        let o = once n.page in
        let c = counts_self n.page (q ∷ []) in
        let o' = once q in
        let c' = counts_self q [] in
        let apart : count q (n.page ∷ []) ≡ 0 = omega (arith, o', c') in
        let left_two = shows_wrote q (shape x) one left (omega (arith, o', c')) (shows_wrote n.page (shape n') image left (omega (arith, o, c)) parts.0) in
        let right_two = shows_wrote q (shape x) one right (omega (arith, o', c')) (shows_wrote n.page (shape n') image right (omega (arith, o, c)) parts.1.1) in
        let n_two : two n.page ≡ shape n' = with_page_there q n.page (shape x) one (λ same. uncounted q n.page [] apart (sym same)) ∙ with_page_here n.page (shape n') image in
        let front = shows_join two left (n' ∷ x ∷ []) left_two (n_two, (with_page_here q (shape x) one, tt)) in
        let h = prev_shows two q (left ++ (n' ∷ x ∷ [])) right n.next is nonzero
        (λ p. let a = once p in let b = pages_join p left (n' ∷ x ∷ []) in omega (arith, a, b)) front right_two in
        let three = prev_written n.next q two in
        let back = shows_parts three left (n' ∷ x ∷ []) h.0 in
        record {
          shows = shows_join three left (n' ∷ x ∷ with_first_prev q right) back.0 (back.1.0, (back.1.1.0, h.1));
          same = λ p none. h.2 p (omega (arith, none))
              ∙ with_page_there q p (shape x) one (uncounted p q [] (omega (arith, none))) ∙ with_page_there n.page p (shape n') image (uncounted p n.page [] (omega (arith, none)));
        }
      where
        pages_join : (p : ℕ) (xs ys : List (Node V)) → count p (pages_of (xs ++ ys)) ≡ count p (pages_of xs) + count p (pages_of ys)
        pages_join p [] ys = omega arith
        pages_join p (x ∷ xs) ys = let e = pages_join p xs ys in omega (arith, e)

pub pages_join : {V : Type 0} (p : ℕ) (xs ys : List (Node V)) → count p (pages_of (xs ++ ys)) ≡ count p (pages_of xs) + count p (pages_of ys)
pages_join p [] ys = omega arith
pages_join p (x ∷ xs) ys = let e = pages_join p xs ys in omega (arith, e)

pub linked_at : {V : Type 0} (b : ℕ) (left : List (Node V)) (n : Node V) (right : List (Node V)) → IsLinked b (left ++ n ∷ right) → n.next ≡ first_page right
linked_at b [] n right l = l.1
linked_at b (m ∷ ms) n right l = linked_at m.page ms n right l.2

-- a page stays in its level
made_keeps : {V : Type 0} (p : ℕ) (step : Step V) (n : Node V) → count p (n.page ∷ []) ≤ count p (pages_of (after_step step n))
made_keeps p Stays n = omega arith
made_keeps p (Grows rows) n = omega arith
made_keeps p (Splits rows q more) n = omega arith

-- a level after its step
record LevelShows {V : Type 0} (shape : Node V → Page) (image image' : Pages) (nodes nodes' : List (Node V)) : Type 0 where
  shows : ShowsLevel shape image' nodes'
  same : (p : ℕ) → count p (pages_of nodes') ≡ 0 → image' p ≡ image p

stepped_counts : {V : Type 0} (n : Node V) (step : Step V) (nodes nodes' : List (Node V)) (st : IsStepped n step nodes nodes') (p : ℕ)
    → count p (pages_of nodes') ≡ count p (pages_of st.left) + (count p (pages_of (after_step step n)) + count p (pages_of st.right))
stepped_counts {V = V} n step nodes nodes' st p =
    let a = pages_join p st.left (after_step step n ++ behind_step step st.right) in
    let b = pages_join p (after_step step n) (behind_step step st.right) in
    let c = ap (count p) (after_pages {V = V} LeafPage' step st.right) in
    let d = ap (λ l. count p (pages_of l)) st.is in omega (arith, a, b, c, d)
  where
    LeafPage' : Node V → Page
    LeafPage' m = LeafPage (record { page = 0; prev = 0; next = 0; rows = [] })

stepped_keeps : {V : Type 0} (n : Node V) (step : Step V) (nodes nodes' : List (Node V)) (st : IsStepped n step nodes nodes') (p : ℕ) → count p (pages_of nodes) ≤ count p (pages_of nodes')
stepped_keeps n step nodes nodes' st p =
    let a = stepped_counts n step nodes nodes' st p in
    let b = pages_join p st.left (n ∷ st.right) in
    let c = ap (λ l. count p (pages_of l)) st.was in
    let d = made_keeps p step n in omega (arith, a, b, c, d)

level_shows : {V : Type 0} (shape : Node V → Page) → ((q : ℕ) (n : Node V) → page_with_prev q (shape n) ≡ shape (record { page = n.page; prev = q; next = n.next; rows = n.rows }))
    → (image : Pages) (n : Node V) (step : Step V) (nodes nodes' : List (Node V)) → IsStepped n step nodes nodes' → IsLinked 0 nodes → ShowsLevel shape image nodes
    → ((p : ℕ) → count p (pages_of nodes') ≤ 1) → count 0 (pages_of nodes') ≡ 0 → LevelShows shape image (step_written shape n step image) nodes nodes'
level_shows shape shaped image n step nodes nodes' st links s once nonzero =
    let counts = stepped_counts n step nodes nodes' st in
    let z = counts 0 in
    let h = step_shows shape shaped image st.left n st.right step (linked_at 0 st.left n st.right (subst (IsLinked 0) st.was links)) (omega (arith, z, nonzero))
    (λ p. let a = counts p in let b = once p in omega (arith, a, b)) (subst (ShowsLevel shape image) st.was s) in
    record {
      shows = subst (ShowsLevel shape (step_written shape n step image)) (sym st.is) h.shows;
      same = λ p none. h.same p (let a = counts p in omega (arith, a, none));
    }

-- levels after the steps of a way
pub record StepsShow (image image' : Pages) (above' : List (List (Node ℕ))) (leaves' : List (Node Payload)) : Type 0 where
  pub shows : Shows image' above' leaves'
  pub same : (p : ℕ) → count p (all_pages above' leaves') ≡ 0 → image' p ≡ image p

pub tree_same : (image image' : Pages) (above : List (List (Node ℕ))) (leaves : List (Node Payload)) → ((p : ℕ) → 0 < count p (all_pages above leaves) → image' p ≡ image p)
    → Shows image above leaves → Shows image' above leaves
tree_same image image' [] leaves same s = shows_same LeafPage image image' leaves same s
tree_same image image' (nodes ∷ more) leaves same s = (
  shows_same (IndexPage (suc (length more))) image image' nodes
      (λ p some. same p (let a = count_append p (pages_of nodes) (all_pages more leaves) in omega (arith, a, some))) s.0,
  tree_same image image' more leaves (λ p some. same p (let a = count_append p (pages_of nodes) (all_pages more leaves) in omega (arith, a, some))) s.1,
)

pub steps_long : (ns : List (Node ℕ)) (steps : List (Step ℕ)) (above above' : List (List (Node ℕ))) → AreStepped ns steps above above' → (length ns ≡ length above) × (length ns ≡ length above')
steps_long [] [] [] [] h = (refl, refl)
steps_long (n ∷ ns) (st ∷ steps) (nodes ∷ more) (nodes' ∷ more') h = let e = steps_long ns steps more more' h.1 in (ap suc e.0, ap suc e.1)
steps_long [] [] [] (nodes' ∷ more') h = absurd h
steps_long [] [] (nodes ∷ more) above' h = absurd h
steps_long [] (st ∷ steps) above above' h = absurd h
steps_long (n ∷ ns) [] above above' h = absurd h
steps_long (n ∷ ns) (st ∷ steps) [] above' h = absurd h
steps_long (n ∷ ns) (st ∷ steps) (nodes ∷ more) [] h = absurd h

module _ (leaf : Node Payload) (step : Step Payload) (leaves leaves' : List (Node Payload)) (st : IsStepped leaf step leaves leaves') (image : Pages) where
  pub steps_show : (rows : List (Row ℕ)) (ns : List (Node ℕ)) (steps : List (Step ℕ)) (above above' : List (List (Node ℕ))) → Fits None rows above leaves → AreStepped ns steps above above'
      → Shows image above leaves → ((p : ℕ) → count p (all_pages above' leaves') ≤ 1) → count 0 (all_pages above' leaves') ≡ 0
      → StepsShow image (steps_written ns steps leaf step image) above' leaves'
  steps_show rows [] [] [] [] f h s once nonzero =
      let l = level_shows LeafPage (λ q n. refl) image leaf step leaves leaves' st f.1 s once nonzero in record { shows = l.shows; same = l.same }
  steps_show rows (n ∷ ns) (q ∷ steps) (nodes ∷ more) (nodes' ∷ more') f h s once nonzero =
      let counts = λ (p : ℕ). count_append p (pages_of nodes') (all_pages more' leaves') in
      let zero_counts = counts 0 in
      let long = steps_long ns steps more more' h.1 in
      let low = steps_show (rows_of nodes) ns steps more more' f.3 h.1 s.1 (λ p. let a = counts p in let b = once p in omega (arith, a, b)) (omega (arith, zero_counts, nonzero)) in
      let image' = steps_written ns steps leaf step image in
      let shape = IndexPage (suc (length ns)) in
      let here = shows_same shape image image' nodes
      (λ p some. low.same p (let a = counts p in let b = once p in let c = stepped_keeps n q nodes nodes' h.0 p in omega (arith, a, b, c, some)))
      (subst (λ m. ShowsLevel (IndexPage (suc m)) image nodes) (sym long.0) s.0) in
      let l = level_shows shape (λ q n. refl) image' n q nodes nodes' h.0 f.2 here (λ p. let a = counts p in let b = once p in omega (arith, a, b)) (omega (arith, zero_counts, nonzero)) in
      let image'' = step_written shape n q image' in
      record {
        shows = (
          subst (λ m. ShowsLevel (IndexPage (suc m)) image'' nodes') long.1 l.shows,
          tree_same image' image'' more' leaves' (λ p some. l.same p (let a = counts p in let b = once p in omega (arith, a, b, some))) low.shows,
        );
        same = λ p none. let a = counts p in l.same p (omega (arith, a, none)) ∙ low.same p (omega (arith, a, none));
      }
  steps_show rows [] [] [] (nodes' ∷ more') f h s once nonzero = absurd h
  steps_show rows [] [] (nodes ∷ more) above' f h s once nonzero = absurd h
  steps_show rows [] (q ∷ steps) above above' f h s once nonzero = absurd h
  steps_show rows (n ∷ ns) [] above above' f h s once nonzero = absurd h
  steps_show rows (n ∷ ns) (q ∷ steps) [] above' f h s once nonzero = absurd h
  steps_show rows (n ∷ ns) (q ∷ steps) (nodes ∷ more) [] f h s once nonzero = absurd h
