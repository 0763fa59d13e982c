-- The way from the root to a leaf leads to the row with the key, if the tree has it.
use Rattle.std.proofs.Common.{◌≡◌, ℕ, suc, ◌<◌, ◌≤◌, true, false, List, [], ◌∷◌, ◌++◌, length, Option, Some, None, refl, sym, ap, ◌∙◌, subst, inl, inr, arith}
use Rattle.std.proofs.lemmas.Bool.{cases_Bool, cases_eq, eq-eqb, ne_eqb, ltb-false}
use Rattle.spec_levels.specs.Levels.{Row, Node, rows_of, pages_of, Payload}
use Rattle.law_ways.proofs.Bounds.{toward_by, rows_behind, next_key}
use Rattle.spec_ways.specs.Delete.{Taken, take_row, kept_page, before_taken, with_first_keys}
use Rattle.spec_ways.specs.Insert.{Cut, Put, cut_page, before_put, put_row}
use Rattle.spec_ways.specs.Rows.{with_first_key, is_below_first, value_at, with_row}
use Rattle.spec_ways.specs.Sinks.{with_edge}
use Rattle.spec_ways.specs.Ways.{child_toward, key_toward, node_at, Way, through, ending_at, through_child, way_from}
use Rattle.law_ways.proofs.Bounds.{Within, shifted, rows_behind, next_key}
use Rattle.law_ways.proofs.Fits.{Level, Starts, StartsAt, Fits, count, all_pages}
use Rattle.law_ways.proofs.GrowLaws.{rows_start, starts_append, count_append}
use Rattle.law_ways.proofs.PutLaws.{level_within, here_within, put_later, AreAlike}
use Rattle.law_ways.proofs.RowLaws.{join_within, value_left, value_right}
use Rattle.law_ways.proofs.TowardLaws.{toward_here, toward_later, row_left, row_right}
use Rattle.law_ways.proofs.TakeLaws.{take_later, shifted_same, shifted_other, first_key_same, first_keys_same}
use Rattle.std.proofs.lemmas.Grind.{flat_map-append}

abbrev pub onto : {V : Type 0} → List (Node V) → Put V → Put V
onto left c = record { nodes = left ++ c.nodes; separator = c.separator }

abbrev pub behind_left : {V : Type 0} → List (Node V) → Taken V → Taken V
behind_left left c = record { nodes = left ++ c.nodes; gone_key = c.gone_key }

pub behind_same : (k : ℕ) (r : Row ℕ) (rest : List (Row ℕ)) → k ≡ r.key → rows_behind k (r ∷ rest) ≡ rest
behind_same k r rest same = let e = eq-eqb k r.key same in rw e refl

behind_other : (k : ℕ) (r : Row ℕ) (rest : List (Row ℕ)) → (k ≡ r.key → ⊥) → rows_behind k (r ∷ rest) ≡ rows_behind k rest
behind_other k r rest other = let e = ne_eqb k r.key other in rw e refl

pub behind_right : (low mid k : ℕ) (xs ys : List (Row ℕ)) → mid ≤ k → Within low (Some mid) xs → rows_behind k (xs ++ ys) ≡ rows_behind k ys
behind_right low mid k [] ys le w = refl
behind_right low mid k (x ∷ xs) ys le w = behind_other k x (xs ++ ys) (λ same. omega (arith, same, le, w.1)) ∙ behind_right (suc x.key) mid k xs ys le w.2

here_alike : (k j : ℕ) (rest : List (Row ℕ)) → AreAlike k j rest → is_below_first k rest ≡ true → is_below_first j rest ≡ true
here_alike k j [] alike e = refl
here_alike k j (s ∷ rest) alike e = sym alike.0 ∙ e

module _ (of : Row ℕ → ℕ) where
  -- rows behind, whose keys are above
  pub toward_left : (k : ℕ) (xs ys : List (Row ℕ)) → Within (suc k) None ys → (low : ℕ) → StartsAt low xs → toward_by of k (xs ++ ys) ≡ toward_by of k xs
  toward_left k [] ys w low s = absurd s
  toward_left k (x ∷ xs) ys w low s = ap of (row_left k x xs ys w)

  -- rows in front, below a bound where others begin that isn't above
  pub toward_right : (low mid k : ℕ) (xs ys : List (Row ℕ)) → Within low (Some mid) xs → StartsAt mid ys → mid ≤ k → toward_by of k (xs ++ ys) ≡ toward_by of k ys
  toward_right low mid k [] ys w s le = refl
  toward_right low mid k (x ∷ xs) [] w s le = absurd s
  toward_right low mid k (x ∷ xs) (y ∷ ys) w s le = ap of (row_right k (x ∷ xs) y ys (omega (arith, s, le)))

module _ {V : Type 0} where
  page_here : (p : ℕ) (n : Node V) (ns : List (Node V)) → n.page ≡ p → node_at p (n ∷ ns) ≡ Some n
  page_here p n ns same = let e = eq-eqb n.page p same in rw e refl

  page_later : (p : ℕ) (n : Node V) (ns : List (Node V)) → (n.page ≡ p → ⊥) → node_at p (n ∷ ns) ≡ node_at p ns
  page_later p n ns other = let e = ne_eqb n.page p other in rw e refl

  page_counts : (p : ℕ) (nodes : List (Node V)) (n : Node V) → node_at p nodes ≡ Some n → 0 < count p (pages_of nodes)
  page_counts p [] n e = absurd (cc)
  page_counts p (m ∷ ns) n e = elim (cases_eq m.page p) [
    | inl same ↦ let f = eq-eqb m.page p same in rw f (omega arith)
    | inr other ↦ let h = page_counts p ns n (sym (page_later p m ns other) ∙ e) in omega (arith, h)
  ]

  first_keys_headed : (g : ℕ) (rest : List (Row ℕ)) (ns : List (Node V)) → Level None rest ns → Starts rest ns → with_first_keys (with_first_key g rest) ns ≡ with_edge (Some g) ns
  first_keys_headed g [] [] l s = refl
  first_keys_headed g [] (m ∷ ns) l s = absurd l
  first_keys_headed g (q ∷ rest) [] l s = absurd l
  first_keys_headed g (q ∷ rest) (m ∷ ns) l s = ap (λ l. record { page = m.page; prev = m.prev; next = m.next; rows = with_first_key g m.rows } ∷ l) (first_keys_same rest ns s.1)

  -- the page of a level where the key belongs, among those before it and behind it
  pub record Spot (k low : ℕ) (rows : List (Row ℕ)) (nodes : List (Node V)) : Type 0 where
    pub left : List (Node V)
    pub node : Node V
    pub right : List (Node V)
    pub key : ℕ
    pub nodes_are : nodes ≡ left ++ node ∷ right
    pub is : node_at (child_toward k rows) nodes ≡ Some node
    pub page : child_toward k rows ≡ node.page
    pub key_is : key_toward k rows ≡ key
    pub least : low ≤ key
    pub not_above : low ≤ k → key ≤ k
    pub front : Within low (Some key) (rows_of left)
    pub back : Within (suc k) None (rows_of right)
    pub starts : Starts rows nodes → StartsAt key node.rows
    pub puts : (cut : Cut V) (new : ℕ) (x : Row V) → AreAlike k x.key rows →
        put_row cut new x rows nodes ≡ onto left (cut_page (cut (with_row x node.rows)) new node (with_row x node.rows) right)
    pub bound : Option ℕ
    pub within : Within key bound node.rows
    pub behind : Level None (rows_behind key rows) right
    pub behind_starts : Starts rows nodes → Starts (rows_behind key rows) right
    pub edges : (g : ℕ) → g ≡ key → Starts rows nodes → with_first_keys (shifted g rows) (left ++ right) ≡ left ++ with_edge (Some g) right
    pub takes : (change : ℕ → List (Row V) → List (Row V)) (j : ℕ) → AreAlike k j rows → take_row change j rows nodes ≡ behind_left left (kept_page key node (change key node.rows) right)

  spot_here : (k : ℕ) (r : Row ℕ) (rest : List (Row ℕ)) (n : Node V) (ns : List (Node V)) → Within r.key None (r ∷ rest) → Level None (r ∷ rest) (n ∷ ns) → is_below_first k rest ≡ true
      → Spot k r.key (r ∷ rest) (n ∷ ns)
  spot_here k r rest n ns w l e = record {
    left = [];
    node = n;
    right = ns;
    key = r.key;
    nodes_are = refl;
    is = page_here (child_toward k (r ∷ rest)) n ns (sym (toward_here (λ r. r.value) k (suc r.key) None r rest e w.2 ∙ l.0));
    page = toward_here (λ r. r.value) k (suc r.key) None r rest e w.2 ∙ l.0;
    key_is = toward_here (λ r. r.key) k (suc r.key) None r rest e w.2;
    least = omega arith;
    not_above = λ le. le;
    front = tt;
    back = level_within (suc k) None rest ns (here_within k (suc r.key) None rest e w.2) l.2;
    starts = λ s. s.0;
    puts = λ cut new x alike. let f = here_alike k x.key rest alike.1 e in rw f refl;
    bound = next_key rest None;
    within = l.1;
    behind = subst (λ l. Level None l ns) (sym (behind_same r.key r rest refl)) l.2;
    behind_starts = λ s. subst (λ l. Starts l ns) (sym (behind_same r.key r rest refl)) s.1;
    edges = λ g at s. ap (λ l. with_first_keys l ns) (shifted_same g r rest at) ∙ first_keys_headed g rest ns l.2 s.1;
    takes = λ change j alike. let f = here_alike k j rest alike.1 e in rw f refl;
  }

  spot_past : (k : ℕ) (r s : Row ℕ) (rest : List (Row ℕ)) (n m : Node V) (ns : List (Node V)) → Within r.key None (r ∷ s ∷ rest) → Level None (r ∷ s ∷ rest) (n ∷ m ∷ ns)
      → is_below_first k (s ∷ rest) ≡ false → ((p : ℕ) → count p (pages_of (n ∷ m ∷ ns)) ≤ 1) → Spot k s.key (s ∷ rest) (m ∷ ns) → Spot k r.key (r ∷ s ∷ rest) (n ∷ m ∷ ns)
  spot_past k r s rest n m ns w l e once h =
      let p = child_toward k (s ∷ rest) in
      let there = page_counts p (m ∷ ns) h.node h.is in
      let other : n.page ≡ p → ⊥ = λ same. let f = eq-eqb n.page p same in let g = once p in let i = rw f at g in omega (arith, i, there) in
      let le = ltb-false k s.key e in
      record {
        left = n ∷ h.left;
        node = h.node;
        right = h.right;
        key = h.key;
        nodes_are = ap (λ l. n ∷ l) h.nodes_are;
        is = ap (λ q. node_at q (n ∷ m ∷ ns)) (toward_later (λ r. r.value) k r (s ∷ rest) e) ∙ page_later p n (m ∷ ns) other ∙ h.is;
        page = toward_later (λ r. r.value) k r (s ∷ rest) e ∙ h.page;
        key_is = toward_later (λ r. r.key) k r (s ∷ rest) e ∙ h.key_is;
        least = let f = h.least in omega (arith, f, w.2.0);
        not_above = λ low. h.not_above le;
        front = join_within r.key s.key (Some h.key) n.rows (rows_of h.left) (omega (arith, w.2.0)) (λ j less. let f = h.least in omega (arith, f, less)) l.1 h.front;
        back = h.back;
        starts = λ st. h.starts st.1;
        puts = λ cut new x alike. put_later cut new x r (s ∷ rest) n (m ∷ ns) (sym alike.1.0 ∙ e) ∙ ap (λ c. before_put n c) (h.puts cut new x alike.1);
        bound = h.bound;
        within = h.within;
        behind = subst (λ l. Level None l h.right) (sym (behind_other h.key r (s ∷ rest) (λ same. let f = h.least in omega (arith, same, f, w.2.0)))) h.behind;
        behind_starts = λ st. subst (λ l. Starts l h.right) (sym (behind_other h.key r (s ∷ rest) (λ same. let f = h.least in omega (arith, same, f, w.2.0)))) (h.behind_starts st.1);
        edges = λ g at st.
            let f = h.least in
            ap (λ l. with_first_keys l (n ∷ h.left ++ h.right)) (shifted_other g r (s ∷ rest) (λ same. omega (arith, same, at, f, w.2.0)))
            ∙ ap (λ (rs : List (Row V)). record { page = n.page; prev = n.prev; next = n.next; rows = rs } ∷ with_first_keys (shifted g (s ∷ rest)) (h.left ++ h.right)) (first_key_same r.key n.rows st.0)
            ∙ ap (λ l. n ∷ l) (h.edges g at st.1);
        takes = λ change j alike. take_later change j r (s ∷ rest) n (m ∷ ns) (sym alike.1.0 ∙ e) ∙ ap (λ c. before_taken n c) (h.takes change j alike.1);
      }

  spot : (k : ℕ) (r : Row ℕ) (rest : List (Row ℕ)) (n : Node V) (ns : List (Node V)) → Within r.key None (r ∷ rest) → Level None (r ∷ rest) (n ∷ ns)
      → ((p : ℕ) → count p (pages_of (n ∷ ns)) ≤ 1) → Spot k r.key (r ∷ rest) (n ∷ ns)
  spot k r [] n [] w l once = spot_here k r [] n [] w l refl
  spot k r [] n (m ∷ ns) w l once = absurd l.2
  spot k r (s ∷ rest) n [] w l once = absurd l.2
  spot k r (s ∷ rest) n (m ∷ ns) w l once = elim (cases_Bool (is_below_first k (s ∷ rest))) [
    | inl e ↦ spot_here k r (s ∷ rest) n (m ∷ ns) w l e
    | inr e ↦ spot_past k r s rest n m ns w l e once (spot k s rest m ns (omega arith, w.2.1, w.2.2) l.2 (λ p. let f = once p in omega (arith, f)))
  ]

  pub spot_at : (k low : ℕ) (rows : List (Row ℕ)) (nodes : List (Node V)) → StartsAt low rows → Within low None rows → Level None rows nodes
      → ((p : ℕ) → count p (pages_of nodes) ≤ 1) → Spot k low rows nodes
  spot_at k low [] nodes at w l once = absurd at
  spot_at k low (r ∷ rest) [] at w l once = absurd l
  spot_at k low (r ∷ rest) (n ∷ ns) at w l once = subst (λ j. Spot k j (r ∷ rest) (n ∷ ns)) at (spot k r rest n ns (omega arith, w.1, w.2) l once)

  pub spot_rows : (k low : ℕ) (rows : List (Row ℕ)) (nodes : List (Node V)) (s : Spot k low rows nodes) → rows_of nodes ≡ rows_of s.left ++ (s.node.rows ++ rows_of s.right)
  spot_rows k low rows nodes s = ap (λ l. rows_of l) s.nodes_are ∙ flat_map-append (λ (n : Node V). n.rows) s.left (s.node ∷ s.right)

  pub spot_holds : (k low : ℕ) (rows : List (Row ℕ)) (nodes : List (Node V)) (s : Spot k low rows nodes) → low ≤ k → value_at k s.node.rows ≡ value_at k (rows_of nodes)
  spot_holds k low rows nodes s le =
      sym (value_left (suc k) None k s.node.rows (rows_of s.right) (omega arith) s.back)
      ∙ sym (value_right low s.key k (rows_of s.left) (s.node.rows ++ rows_of s.right) (s.not_above le) s.front)
      ∙ ap (value_at k) (sym (spot_rows k low rows nodes s))

pub spot_toward : (of : Row ℕ → ℕ) (k low : ℕ) (rows : List (Row ℕ)) (nodes : List (Node ℕ)) (s : Spot k low rows nodes) → low ≤ k → Starts rows nodes
    → toward_by of k s.node.rows ≡ toward_by of k (rows_of nodes)
spot_toward of k low rows nodes s le st =
    let at = s.starts st in
    sym (toward_left of k s.node.rows (rows_of s.right) s.back s.key at)
    ∙ sym (toward_right of low s.key k (rows_of s.left) (s.node.rows ++ rows_of s.right) s.front (starts_append s.key s.node.rows (rows_of s.right) at) (s.not_above le))
    ∙ ap (toward_by of k) (sym (ap (λ l. rows_of l) s.nodes_are ∙ flat_map-append (λ (n : Node ℕ). n.rows) s.left (s.node ∷ s.right)))

pub spot_child : (k low : ℕ) (rows : List (Row ℕ)) (nodes : List (Node ℕ)) (s : Spot k low rows nodes) → low ≤ k → Starts rows nodes
    → child_toward k s.node.rows ≡ child_toward k (rows_of nodes)
spot_child = spot_toward (λ r. r.value)

-- the way leads to the leaf where the key belongs
pub record Leads (k : ℕ) (rows : List (Row ℕ)) (above : List (List (Node ℕ))) (leaves : List (Node Payload)) : Type 0 where
  pub way : Way
  pub is : way_from k above leaves (child_toward k rows) ≡ Some way
  pub long : length way.above ≡ length above
  pub holds : value_at k way.leaf.rows ≡ value_at k (rows_of leaves)
  pub key : ℕ
  pub bound : Option ℕ
  pub within : Within key bound way.leaf.rows

pub leads : (k low : ℕ) (rows : List (Row ℕ)) (above : List (List (Node ℕ))) (leaves : List (Node Payload)) → low ≤ k → StartsAt low rows → Within low None rows
    → Fits None rows above leaves → ((p : ℕ) → count p (all_pages above leaves) ≤ 1) → Leads k rows above leaves
leads k low rows [] leaves le at w f once =
    let s = spot_at k low rows leaves at w f.0 once in
    record { way = record { above = []; leaf = s.node }; is = ap ending_at s.is; long = refl; holds = spot_holds k low rows leaves s le; key = s.key; bound = s.bound; within = s.within }
leads k low rows (nodes ∷ more) leaves le at w f once =
    let counts = λ (p : ℕ). count_append p (pages_of nodes) (all_pages more leaves) in
    let s = spot_at k low rows nodes at w f.0 (λ p. let a = once p in let b = counts p in omega (arith, a, b)) in
    let h = leads k low (rows_of nodes) more leaves le (rows_start low None rows nodes at f.0 f.1) (level_within low None rows nodes w f.0) f.3
    (λ p. let a = once p in let b = counts p in omega (arith, a, b)) in
    record {
      way = record { above = s.node ∷ h.way.above; leaf = h.way.leaf };
      is = ap (through_child (way_from k more leaves) k) s.is ∙ ap (λ q. through s.node (way_from k more leaves q)) (spot_child k low rows nodes s le f.1) ∙ ap (through s.node) h.is;
      long = ap suc h.long;
      holds = h.holds;
      key = h.key;
      bound = h.bound;
      within = h.within;
    }
