use Rattle.std.proofs.Common.{ℕ, List, arith, ap, ◌∙◌}
use Rattle.std.specs.List.{insert}
use Rattle.spec_rows.specs.Slots.{page_rows}
use Rattle.pg_slots.proofs.Moved.{row_count}
use Rattle.pg_slots.proofs.Kept.{put_back}
use Rattle.pg_slots.proofs.change.exchange.Goals as goal

pub returns-clause-rows : goal.returns-clause-rows
returns-clause-rows c =
    let old = c.args.page.now.bytes in
    c.put_in.ensures.rows ∙ ap (λ (rows : List (List ℕ)). insert rows c.args.i c.args.row.now) c.remove_at.ensures.rows
    ∙ put_back (page_rows old) c.args.i c.args.row.now (omega (arith, row_count old, c.requires.i))

pub returns-clause-test : goal.returns-clause-test
returns-clause-test c = λ p o passes. c.put_in.ensures.test p o (c.remove_at.ensures.test p o passes)
