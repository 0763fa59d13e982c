-- The rows of a tree rise by their keys, since those of each level do.
use Rattle.std.proofs.Common.{ℕ, suc, ◌≤◌, Option, Some, None, List, [], ◌∷◌, ◌++◌, sym, subst, arith}
use Rattle.std.proofs.lemmas.List.{map-append}
use Rattle.spec_levels.specs.Levels.{Row, Node, Index, Leaf, keys_of, rows_of, Rises, AreUnder, IsUnder, IsIndexUnder, AreLevels, root_row}
use Rattle.law_levels.specs.Laws.{RowsRise}

-- keys from a lower bound on
lower : (low below : ℕ) (keys : List ℕ) → below ≤ low → Rises low None keys → Rises below None keys
lower low below [] le r = tt
lower low below (key ∷ keys) le r = (omega (arith, le, r.0), tt, r.2)

-- keys below a bound, and keys from it on
join : (low mid : ℕ) (front back : List ℕ) → low ≤ mid → Rises low (Some mid) front → Rises mid None back → Rises low None (front ++ back)
join low mid [] back le f b = lower mid low back le b
join low mid (key ∷ front) back le f b = (f.0, tt, join (suc key) mid front back f.1 f.2 b)

module _ {V : Type 0} where
  -- the rows of a level, under rows that rise
  level_rises : (Is : Row ℕ → Option ℕ → Node V → Type 0) → ((row : Row ℕ) (high : Option ℕ) (node : Node V) → Is row high node → Rises row.key high (keys_of node.rows))
      → (low : ℕ) (rows : List (Row ℕ)) (nodes : List (Node V)) → Rises low None (keys_of rows) → AreUnder Is rows nodes → Rises low None (keys_of (rows_of nodes))
  level_rises Is keys low [] [] r under = tt
  level_rises Is keys low [] (n ∷ nodes) r under = absurd under
  level_rises Is keys low (row ∷ rows) [] r under = absurd under
  level_rises Is keys low (row ∷ []) (n ∷ []) r under =
      subst (λ (ks : List ℕ). Rises low None ks) (sym (map-append (λ (x : Row V). x.key) n.rows []))
      (lower row.key low (keys_of n.rows ++ []) r.0 (joined row.key (keys_of n.rows) (keys row None n under.0)))
    where
      joined : (low : ℕ) (ks : List ℕ) → Rises low None ks → Rises low None (ks ++ [])
      joined low [] r = tt
      joined low (k ∷ ks) r = (r.0, tt, joined (suc k) ks r.2)
  level_rises Is keys low (row ∷ []) (n ∷ (m ∷ nodes)) r under = absurd under.1
  level_rises Is keys low (row ∷ (next ∷ rows)) (n ∷ nodes) r under =
      subst (λ (ks : List ℕ). Rises low None ks) (sym (map-append (λ (x : Row V). x.key) n.rows (rows_of nodes)))
      (lower row.key low (keys_of n.rows ++ keys_of (rows_of nodes)) r.0
      (join row.key next.key (keys_of n.rows) (keys_of (rows_of nodes)) (let up = r.2.0 in omega (arith, up)) (keys row (Some next.key) n under.0)
      (level_rises Is keys next.key (next ∷ rows) nodes (omega arith, tt, r.2.2) under.1)))

levels_rise : (rows : List (Row ℕ)) (above : List (List Index)) (leaves : List Leaf) → Rises 0 None (keys_of rows) → AreLevels rows above leaves
    → Rises 0 None (keys_of (rows_of leaves))
levels_rise rows [] leaves r levels = level_rises IsUnder (λ row high node is. is.keys) 0 rows leaves r levels.0
levels_rise rows (nodes ∷ more) leaves r levels =
    levels_rise (rows_of nodes) more leaves (level_rises IsIndexUnder (λ row high node is. is.under.keys) 0 rows nodes r levels.0) levels.2

pub rows_rise : RowsRise
rows_rise root tree is = levels_rise (root_row root ∷ []) tree.above tree.leaves (omega arith, tt, tt) is.levels
