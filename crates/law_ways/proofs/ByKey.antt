-- Climbs and sinks told by keys: in a tree, whose keys rise, they are those told by places.
use Rattle.std.proofs.Common.{ℕ, List, [], ◌∷◌, Option, Some, None, ◌==◌}
use Rattle.std.specs.Prelude.{if◌then◌else◌}
use Rattle.spec_levels.specs.Levels.{Payload, Row, Index, Leaf}
use Rattle.spec_ways.specs.Climbs.{Stays, step_of, separator_of, Climb}
use Rattle.spec_ways.specs.Insert.{Cut, Cuts, first_fresh, left_over}
use Rattle.spec_ways.specs.Rows.{with_row, without, lowest_key, with_first_key}
use Rattle.spec_ways.specs.Sinks.{Untouched, loss_of, gone_key_of, Sink}
use Rattle.spec_ways.specs.Ways.{key_toward}

-- the separator goes to its place among the rows
abbrev pub climb_through_by_key : Cut ℕ → Index → Climb → Option (Row ℕ) → Climb
climb_through_by_key cut n b None = record { above = Stays ∷ b.above; leaf = b.leaf; separator = None; fresh = b.fresh }
climb_through_by_key cut n b (Some y) =
    let rows = with_row y n.rows in
    let step = step_of (cut rows) (first_fresh b.fresh) rows in
    record { above = step ∷ b.above; leaf = b.leaf; separator = separator_of step; fresh = left_over (separator_of step) b.fresh }

abbrev pub climb_by_key : Cuts → List ℕ → Row Payload → List Index → Leaf → Climb
climb_by_key cuts fresh x [] leaf =
    let rows = with_row x leaf.rows in
    let step = step_of (cuts.leaf rows) (first_fresh fresh) rows in
    record { above = []; leaf = step; separator = separator_of step; fresh = left_over (separator_of step) fresh }
climb_by_key cuts fresh x (n ∷ above) leaf = let b = climb_by_key cuts fresh x above leaf in climb_through_by_key cuts.index n b b.separator

-- the row with the key that is gone below goes
abbrev pub edge_by_key : ℕ → List (Row ℕ) → Option ℕ
edge_by_key g rows = if g == lowest_key rows then Some g else None

abbrev pub sink_through_by_key : ℕ → Index → Sink → Option ℕ → Sink
sink_through_by_key key n b None = record { above = Untouched ∷ b.above; leaf = b.leaf; gone_key = None }
sink_through_by_key key n b (Some g) =
    let loss = loss_of (with_first_key key (without g n.rows)) (edge_by_key g n.rows) in record { above = loss ∷ b.above; leaf = b.leaf; gone_key = gone_key_of key loss }

abbrev pub sink_by_key : ℕ → ℕ → List Index → Leaf → Sink
sink_by_key key k [] leaf = let loss = loss_of (without k leaf.rows) None in record { above = []; leaf = loss; gone_key = gone_key_of key loss }
sink_by_key key k (n ∷ above) leaf = let b = sink_by_key (key_toward k n.rows) k above leaf in sink_through_by_key key n b b.gone_key
