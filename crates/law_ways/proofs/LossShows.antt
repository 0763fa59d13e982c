-- What the losses of a way write shows the levels after them.
use Rattle.std.proofs.Common.{◌≡◌, ℕ, suc, ◌+◌, ◌<◌, ◌≤◌, List, [], ◌∷◌, ◌++◌, length, Option, Some, None, refl, sym, ap, ◌∙◌, subst, arith}
use Rattle.std.specs.Prelude.{if◌then◌else◌}
use Rattle.std.proofs.lemmas.Bool.{eq-eqb, ne_eqb}
use Rattle.spec_levels.specs.Levels.{Row, Node, rows_of, pages_of, first_page, IsLinked, Payload}
use Rattle.spec_ways.specs.Climbs.{with_first_prev}
use Rattle.spec_ways.specs.DeleteWrites.{page_with_next, page_with_edge, next_written}
use Rattle.law_ways.proofs.ByNext.{behind_by_next, loss_by_next, losses_by_next}
use Rattle.spec_ways.specs.InsertWrites.{page_with_prev}
use Rattle.spec_levels.specs.Pages.{Page, LeafPage, IndexPage}
use Rattle.spec_ways.specs.Pages.{Pages, ShowsLevel, Shows, with_page}
use Rattle.spec_ways.specs.Rows.{with_first_key}
use Rattle.spec_ways.specs.Sinks.{Loss, Untouched, Keeps, Goes, with_last_next, with_edge, after_loss, IsSunk, edge_below, AreSunk, freed_page, freed_pages}
use Rattle.law_ways.proofs.Fits.{Fits, count, all_pages}
use Rattle.law_ways.proofs.GrowLaws.{count_append}
use Rattle.law_ways.proofs.ShowLaws.{with_page_here, with_page_there, counts_self, uncounted, shows_join, shows_parts, shows_same, shows_wrote, tree_same, pages_join, linked_at}

abbrev last_page : {V : Type 0} → List (Node V) → ℕ
last_page [] = 0
last_page (n ∷ []) = n.page
last_page (n ∷ m ∷ ns) = last_page (m ∷ ns)

-- a page that knows its prev
record Behind {V : Type 0} (b : ℕ) (left : List (Node V)) (p : ℕ) : Type 0 where
  none : left ≡ [] → p ≡ b
  some : 0 < length left → p ≡ last_page left

prev_at : {V : Type 0} (b : ℕ) (left : List (Node V)) (n : Node V) (right : List (Node V)) → IsLinked b (left ++ n ∷ right) → Behind b left n.prev
prev_at b [] n right l = record { none = λ e. l.0; some = λ s. absurd (omega (arith, s)) }
prev_at b (m ∷ []) n right l = record { none = λ e. absurd (cc); some = λ s. l.2.0 }
prev_at b (m ∷ o ∷ ms) n right l =
    let h = prev_at m.page (o ∷ ms) n right l.2 in record { none = λ e. absurd (cc); some = λ s. h.some (omega arith) }

prev_is_last : {V : Type 0} (left : List (Node V)) (p : ℕ) → Behind 0 left p → p ≡ last_page left
prev_is_last [] p h = h.none refl
prev_is_last (m ∷ ms) p h = h.some (omega arith)

edges_pages : {V : Type 0} (q : ℕ) (edge : Option ℕ) (right : List (Node V)) → pages_of (with_first_prev q (with_edge edge right)) ≡ pages_of right
edges_pages q None [] = refl
edges_pages q (Some g) [] = refl
edges_pages q None (m ∷ ms) = refl
edges_pages q (Some g) (m ∷ ms) = refl

next_pages : {V : Type 0} (q : ℕ) (left : List (Node V)) → pages_of (with_last_next q left) ≡ pages_of left
next_pages q [] = refl
next_pages q (n ∷ []) = refl
next_pages q (n ∷ m ∷ ns) = ap (λ l. n.page ∷ l) (next_pages q (m ∷ ns))

module _ {V : Type 0} (shape : Node V → Page) (prev_shaped : (q : ℕ) (n : Node V) → page_with_prev q (shape n) ≡ shape (record { page = n.page; prev = q; next = n.next; rows = n.rows }))
    (next_shaped : (q : ℕ) (n : Node V) → page_with_next q (shape n) ≡ shape (record { page = n.page; prev = n.prev; next = q; rows = n.rows }))
    (edge_shaped : (g : ℕ) (n : Node V) → page_with_edge (Some g) (shape n) ≡ shape (record { page = n.page; prev = n.prev; next = n.next; rows = with_first_key g n.rows })) where
  record NextShows (q : ℕ) (left : List (Node V)) (image image' : Pages) : Type 0 where
    shows : ShowsLevel shape image' (with_last_next q left)
    same : (p : ℕ) → count p (pages_of left) ≡ 0 → image' p ≡ image p

  next_shows : (p q : ℕ) (left : List (Node V)) (image : Pages) → p ≡ last_page left → count 0 (pages_of left) ≡ 0 → ((j : ℕ) → count j (pages_of left) ≤ 1) → ShowsLevel shape image left
      → NextShows q left image (next_written p q image)
  next_shows p q [] image is nonzero once s =
      let e = eq-eqb p 0 is in let f : next_written p q image ≡ image = rw e refl in record { shows = tt; same = λ j none. ap (λ (i : Pages). i j) f }
  next_shows p q (n ∷ []) image is nonzero once s =
      let e = ne_eqb p 0 (λ z. uncounted 0 n.page [] nonzero (sym z ∙ is)) in
      let f : next_written p q image ≡ with_page n.page (page_with_next q (image n.page)) image =
      ap (λ b. if b then image else with_page p (page_with_next q (image p)) image) e ∙ ap (λ j. with_page j (page_with_next q (image j)) image) is in
      let now = page_with_next q (image n.page) in
      record {
        shows = (ap (λ (i : Pages). i n.page) f ∙ with_page_here n.page now image ∙ ap (page_with_next q) s.0 ∙ next_shaped q n, tt);
        same = λ j none. ap (λ (i : Pages). i j) f ∙ with_page_there n.page j now image (uncounted j n.page [] none);
      }
  next_shows p q (n ∷ m ∷ ns) image is nonzero once s =
      let h = next_shows p q (m ∷ ns) image is (omega (arith, nonzero)) (λ j. let a = once j in omega (arith, a)) s.1 in
      let o = once n.page in
      let c = counts_self n.page (pages_of (m ∷ ns)) in
      record {
        shows = (h.same n.page (omega (arith, o, c)) ∙ s.0, h.shows);
        same = λ j none. h.same j (omega (arith, none));
      }

  record BehindShows (q : ℕ) (edge : Option ℕ) (right : List (Node V)) (image image' : Pages) : Type 0 where
    shows : ShowsLevel shape image' (with_first_prev q (with_edge edge right))
    same : (p : ℕ) → count p (pages_of right) ≡ 0 → image' p ≡ image p

  edges_page : (q : ℕ) (edge : Option ℕ) (m : Node V) (ms : List (Node V)) (image image' : Pages) → image m.page ≡ shape m → image' m.page ≡ page_with_prev q (page_with_edge edge (image m.page))
      → ShowsLevel shape image' ms → ShowsLevel shape image' (with_first_prev q (with_edge edge (m ∷ ms)))
  edges_page q None m ms image image' is now s = (now ∙ ap (page_with_prev q) is ∙ prev_shaped q m, s)
  edges_page q (Some g) m ms image image' is now s = (
    now ∙ ap (λ x. page_with_prev q (page_with_edge (Some g) x)) is ∙ ap (page_with_prev q) (edge_shaped g m)
        ∙ prev_shaped q (record { page = m.page; prev = m.prev; next = m.next; rows = with_first_key g m.rows }),
    s,
  )

  behind_none : (q : ℕ) (edge : Option ℕ) (image : Pages) → ShowsLevel shape image (with_first_prev q (with_edge edge []))
  behind_none q None image = tt
  behind_none q (Some g) image = tt

  behind_shows : (p q : ℕ) (edge : Option ℕ) (right : List (Node V)) (image : Pages) → p ≡ first_page right → count 0 (pages_of right) ≡ 0 → ((j : ℕ) → count j (pages_of right) ≤ 1)
      → ShowsLevel shape image right → BehindShows q edge right image (behind_by_next p q edge image)
  behind_shows p q edge [] image is nonzero once s =
      let e = eq-eqb p 0 is in
      let f : behind_by_next p q edge image ≡ image = rw e refl in
      record { shows = behind_none q edge (behind_by_next p q edge image); same = λ j none. ap (λ (i : Pages). i j) f }
  behind_shows p q edge (m ∷ ms) image is nonzero once s =
      let e = ne_eqb p 0 (λ z. uncounted 0 m.page (pages_of ms) nonzero (sym z ∙ is)) in
      let now = page_with_prev q (page_with_edge edge (image m.page)) in
      let f : behind_by_next p q edge image ≡ with_page m.page now image =
      ap (λ b. if b then image else with_page p (page_with_prev q (page_with_edge edge (image p))) image) e ∙ ap (λ j. with_page j (page_with_prev q (page_with_edge edge (image j))) image) is in
      let o = once m.page in
      let c = counts_self m.page (pages_of ms) in
      record {
        shows = edges_page q edge m ms image (behind_by_next p q edge image) s.0 (ap (λ (i : Pages). i m.page) f ∙ with_page_here m.page now image)
            (subst (λ i. ShowsLevel shape i ms) (sym f) (shows_wrote shape m.page now image ms (omega (arith, o, c)) s.1));
        same = λ j none. ap (λ (i : Pages). i j) f ∙ with_page_there m.page j now image (uncounted j m.page (pages_of ms) none);
      }

  record LossShows (image image' : Pages) (left : List (Node V)) (n : Node V) (right : List (Node V)) (loss : Loss V) (edge : Option ℕ) : Type 0 where
    shows : ShowsLevel shape image' (after_loss loss edge left n right)
    same : (p : ℕ) → count p (pages_of left) + (count p (n.page ∷ []) + count p (pages_of right)) ≡ 0 → image' p ≡ image p

  loss_shows : (image : Pages) (left : List (Node V)) (n : Node V) (right : List (Node V)) (loss : Loss V) (edge : Option ℕ) → n.next ≡ first_page right → n.prev ≡ last_page left
      → count 0 (pages_of left) ≡ 0 → count 0 (pages_of right) ≡ 0 → ((p : ℕ) → count p (pages_of left) + (count p (n.page ∷ []) + count p (pages_of right)) ≤ 1)
      → ShowsLevel shape image (left ++ n ∷ right)
      → LossShows image (loss_by_next shape n loss edge image) left n right loss edge
  loss_shows image left n right Untouched edge next prev zero_left zero_right once s = record { shows = s; same = λ p none. refl }
  loss_shows image left n right (Keeps rows below) edge next prev zero_left zero_right once s =
      let parts = shows_parts shape image left (n ∷ right) s in
      let n' : Node V = record { page = n.page; prev = n.prev; next = n.next; rows = rows } in
      let o = once n.page in
      let c = counts_self n.page [] in
      record {
        shows = shows_join shape (with_page n.page (shape n') image) left (n' ∷ right) (shows_wrote shape n.page (shape n') image left (omega (arith, o, c)) parts.0)
            (with_page_here n.page (shape n') image, shows_wrote shape n.page (shape n') image right (omega (arith, o, c)) parts.1.1);
        same = λ p none. with_page_there n.page p (shape n') image (uncounted p n.page [] (omega (arith, none)));
      }
  loss_shows image left n right Goes edge next prev zero_left zero_right once s =
      let parts = shows_parts shape image left (n ∷ right) s in
      let one = behind_by_next n.next n.prev edge image in
      let two = next_written n.prev n.next one in
      let h = behind_shows n.next n.prev edge right image next zero_right (λ j. let a = once j in omega (arith, a)) parts.1.1 in
      let left_one = shows_same shape image one left (λ p some. h.same p (let a = once p in omega (arith, a, some))) parts.0 in
      let k = next_shows n.prev n.next left one prev zero_left (λ j. let a = once j in omega (arith, a)) left_one in
      let behind = with_first_prev n.prev (with_edge edge right) in
      record {
        shows = shows_join shape two (with_last_next (first_page right) left) behind (subst (λ q. ShowsLevel shape two (with_last_next q left)) next k.shows)
            (shows_same shape one two behind (λ p some. k.same p (let a = once p in let b = ap (count p) (edges_pages n.prev edge right) in omega (arith, a, b, some))) h.shows);
        same = λ p none. k.same p (omega (arith, none)) ∙ h.same p (omega (arith, none));
      }

-- a level after its loss
record LevelLost {V : Type 0} (shape : Node V → Page) (image image' : Pages) (n : Node V) (loss : Loss V) (nodes nodes' : List (Node V)) : Type 0 where
  shows : ShowsLevel shape image' nodes'
  same : (p : ℕ) → count p (pages_of nodes) ≡ 0 → image' p ≡ image p
  exact : (p : ℕ) → count p (pages_of nodes') + count p (freed_page loss n) ≡ count p (pages_of nodes)

lost_pages : {V : Type 0} (loss : Loss V) (edge : Option ℕ) (left : List (Node V)) (n : Node V) (right : List (Node V)) (p : ℕ)
    → count p (pages_of (after_loss loss edge left n right)) + count p (freed_page loss n) ≡ count p (pages_of left) + (count p (n.page ∷ []) + count p (pages_of right))
lost_pages Untouched edge left n right p = let a = pages_join p left (n ∷ right) in omega (arith, a)
lost_pages (Keeps rows below) edge left n right p = let a = pages_join p left (record { page = n.page; prev = n.prev; next = n.next; rows = rows } ∷ right) in omega (arith, a)
lost_pages Goes edge left n right p =
    let a = pages_join p (with_last_next (first_page right) left) (with_first_prev n.prev (with_edge edge right)) in
    let b = ap (count p) (next_pages (first_page right) left) in
    let c = ap (count p) (edges_pages n.prev edge right) in omega (arith, a, b, c)

level_lost : {V : Type 0} (shape : Node V → Page) → ((q : ℕ) (n : Node V) → page_with_prev q (shape n) ≡ shape (record { page = n.page; prev = q; next = n.next; rows = n.rows }))
    → ((q : ℕ) (n : Node V) → page_with_next q (shape n) ≡ shape (record { page = n.page; prev = n.prev; next = q; rows = n.rows }))
    → ((g : ℕ) (n : Node V) → page_with_edge (Some g) (shape n) ≡ shape (record { page = n.page; prev = n.prev; next = n.next; rows = with_first_key g n.rows }))
    → (image : Pages) (n : Node V) (loss : Loss V) (edge : Option ℕ) (nodes nodes' : List (Node V)) → IsSunk n loss edge nodes nodes' → IsLinked 0 nodes → ShowsLevel shape image nodes
    → ((p : ℕ) → count p (pages_of nodes) ≤ 1) → count 0 (pages_of nodes) ≡ 0 → LevelLost shape image (loss_by_next shape n loss edge image) n loss nodes nodes'
level_lost shape a b c image n loss edge nodes nodes' st links s once nonzero =
    let counts : (p : ℕ) → count p (pages_of nodes) ≡ count p (pages_of st.left) + (count p (n.page ∷ []) + count p (pages_of st.right)) =
    λ p. let i = pages_join p st.left (n ∷ st.right) in let j = ap (λ l. count p (pages_of l)) st.was in omega (arith, i, j) in
    let l = subst (IsLinked 0) st.was links in
    let z = counts 0 in
    let h = loss_shows shape a b c image st.left n st.right loss edge (linked_at 0 st.left n st.right l) (prev_is_last st.left n.prev (prev_at 0 st.left n st.right l))
    (omega (arith, z, nonzero)) (omega (arith, z, nonzero)) (λ p. let i = counts p in let j = once p in omega (arith, i, j)) (subst (ShowsLevel shape image) st.was s) in
    record {
      shows = subst (ShowsLevel shape (loss_by_next shape n loss edge image)) (sym st.is) h.shows;
      same = λ p none. h.same p (let i = counts p in omega (arith, i, none));
      exact = λ p. let i = lost_pages loss edge st.left n st.right p in let j = ap (λ l. count p (pages_of l)) st.is in let k = counts p in omega (arith, i, j, k);
    }

pub losses_long : (edge : Option ℕ) (ns : List (Node ℕ)) (losses : List (Loss ℕ)) (above above' : List (List (Node ℕ))) → AreSunk edge ns losses above above'
    → (length ns ≡ length above) × (length ns ≡ length above')
losses_long edge [] [] [] [] h = (refl, refl)
losses_long edge (n ∷ ns) (l ∷ losses) (nodes ∷ more) (nodes' ∷ more') h = let e = losses_long (edge_below edge l) ns losses more more' h.1 in (ap suc e.0, ap suc e.1)
losses_long edge [] [] [] (nodes' ∷ more') h = absurd h
losses_long edge [] [] (nodes ∷ more) above' h = absurd h
losses_long edge [] (l ∷ losses) above above' h = absurd h
losses_long edge (n ∷ ns) [] above above' h = absurd h
losses_long edge (n ∷ ns) (l ∷ losses) [] above' h = absurd h
losses_long edge (n ∷ ns) (l ∷ losses) (nodes ∷ more) [] h = absurd h

-- levels after the losses of a way
pub record LossesShow (image image' : Pages) (above above' : List (List (Node ℕ))) (leaves leaves' : List (Node Payload)) (goes : List ℕ) : Type 0 where
  pub shows : Shows image' above' leaves'
  pub same : (p : ℕ) → count p (all_pages above leaves) ≡ 0 → image' p ≡ image p
  pub exact : (p : ℕ) → count p (all_pages above' leaves') + count p goes ≡ count p (all_pages above leaves)

module _ (leaf : Node Payload) (loss : Loss Payload) (leaves leaves' : List (Node Payload)) (st : IsSunk leaf loss None leaves leaves') (image : Pages) where
  pub losses_show : (edge : Option ℕ) (rows : List (Row ℕ)) (ns : List (Node ℕ)) (losses : List (Loss ℕ)) (above above' : List (List (Node ℕ))) → Fits None rows above leaves
      → AreSunk edge ns losses above above' → Shows image above leaves → ((p : ℕ) → count p (all_pages above leaves) ≤ 1) → count 0 (all_pages above leaves) ≡ 0
      → LossesShow image (losses_by_next edge ns losses leaf loss image) above above' leaves leaves' (freed_pages ns losses leaf loss)
  losses_show edge rows [] [] [] [] f h s once nonzero =
      let l = level_lost LeafPage (λ q n. refl) (λ q n. refl) (λ q n. refl) image leaf loss None leaves leaves' st f.1 s once nonzero in record { shows = l.shows; same = l.same; exact = l.exact }
  losses_show edge rows (n ∷ ns) (q ∷ losses) (nodes ∷ more) (nodes' ∷ more') f h s once nonzero =
      let counts = λ (p : ℕ). count_append p (pages_of nodes) (all_pages more leaves) in
      let zero_counts = counts 0 in
      let long = losses_long (edge_below edge q) ns losses more more' h.1 in
      let low = losses_show (edge_below edge q) (rows_of nodes) ns losses more more' f.3 h.1 s.1 (λ p. let a = counts p in
      let b = once p in omega (arith, a, b)) (omega (arith, zero_counts, nonzero)) in
      let image' = losses_by_next (edge_below edge q) ns losses leaf loss image in
      let shape = IndexPage (suc (length ns)) in
      let here = shows_same shape image image' nodes (λ p some. low.same p (let a = counts p in let b = once p in omega (arith, a, b, some)))
      (subst (λ m. ShowsLevel (IndexPage (suc m)) image nodes) (sym long.0) s.0) in
      let l = level_lost shape (λ q n. refl) (λ q n. refl) (λ q n. refl) image' n q edge nodes nodes' h.0 f.2 here (λ p. let a = counts p in
      let b = once p in omega (arith, a, b)) (omega (arith, zero_counts, nonzero)) in
      let image'' = loss_by_next shape n q edge image' in
      record {
        shows = (
          subst (λ m. ShowsLevel (IndexPage (suc m)) image'' nodes') long.1 l.shows,
          tree_same image' image'' more' leaves' (λ p some. l.same p (let a = counts p in let b = once p in let c = low.exact p in omega (arith, a, b, c, some))) low.shows,
        );
        same = λ p none. let a = counts p in l.same p (omega (arith, a, none)) ∙ low.same p (omega (arith, a, none));
        exact = λ p. let a = counts p in let b = count_append p (pages_of nodes') (all_pages more' leaves') in let c = low.exact p in let d = l.exact p in
            let e = count_append p (freed_pages ns losses leaf loss) (freed_page q n) in omega (arith, a, b, c, d, e);
      }
  losses_show edge rows [] [] [] (nodes' ∷ more') f h s once nonzero = absurd h
  losses_show edge rows [] [] (nodes ∷ more) above' f h s once nonzero = absurd h
  losses_show edge rows [] (q ∷ losses) above above' f h s once nonzero = absurd h
  losses_show edge rows (n ∷ ns) [] above above' f h s once nonzero = absurd h
  losses_show edge rows (n ∷ ns) (q ∷ losses) [] above' f h s once nonzero = absurd h
  losses_show edge rows (n ∷ ns) (q ∷ losses) (nodes ∷ more) [] f h s once nonzero = absurd h
