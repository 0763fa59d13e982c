use Rattle.pg_slots.proofs.Compacted.{compacted_holds, rows_have_room}
use Rattle.pg_slots.proofs.Kept.{passes_still}
use Rattle.pg_slots.proofs.pack.compact.Goals as goal

pub move_together-requires-clause-rows : goal.move_together-requires-clause-rows
move_together-requires-clause-rows c = rows_have_room c.args.kind c.args.page.now.bytes c.is_whole.ensures.long c.requires

pub returns-clause-rows : goal.returns-clause-rows
returns-clause-rows c = (compacted_holds c.args.kind c.args.page.now.bytes c.move_together.new.page.bytes c.is_whole.ensures.long c.requires c.move_together.ensures).1

pub returns-clause-holds : goal.returns-clause-holds
returns-clause-holds c = (compacted_holds c.args.kind c.args.page.now.bytes c.move_together.new.page.bytes c.is_whole.ensures.long c.requires c.move_together.ensures).0

pub returns-clause-test : goal.returns-clause-test
returns-clause-test c = λ p o passes.
    passes_still c.args.kind p o c.args.page.now.bytes c.move_together.new.page.bytes _ _ _ c.move_together.ensures.header (returns-clause-holds c) passes
