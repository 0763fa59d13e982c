use Rattle.pg_slots.proofs.Stand.{holds_stand, free_within}
use Rattle.pg_slots.proofs.Removed.{removed_holds}
use Rattle.pg_slots.proofs.Kept.{passes_still}
use Rattle.pg_slots.proofs.change.remove_at.Goals as goal

pub take_out-requires-clause-rows : goal.take_out-requires-clause-rows
take_out-requires-clause-rows c = holds_stand c.args.kind c.args.page.now.bytes c.requires.holds

pub take_out-requires-clause-free : goal.take_out-requires-clause-free
take_out-requires-clause-free c = free_within c.args.kind c.args.page.now.bytes c.requires.holds

pub returns-clause-rows : goal.returns-clause-rows
returns-clause-rows c =
    (removed_holds c.args.kind c.args.i c.args.page.now.bytes c.take_out.new.page.bytes c.is_whole.ensures.long c.requires.holds c.requires.i c.take_out.ensures).1

pub returns-clause-holds : goal.returns-clause-holds
returns-clause-holds c =
    (removed_holds c.args.kind c.args.i c.args.page.now.bytes c.take_out.new.page.bytes c.is_whole.ensures.long c.requires.holds c.requires.i c.take_out.ensures).0

pub returns-clause-test : goal.returns-clause-test
returns-clause-test c = λ p o passes.
    passes_still c.args.kind p o c.args.page.now.bytes c.take_out.new.page.bytes _ _ _ c.take_out.ensures.header (returns-clause-holds c) passes
