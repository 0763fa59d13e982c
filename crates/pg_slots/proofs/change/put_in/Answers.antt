use Rattle.pg_slots.proofs.Kept.{inserted_holds, inserted_test}
use Rattle.pg_slots.proofs.change.put_in.Goals as goal

pub returns-clause-rows : goal.returns-clause-rows
returns-clause-rows c =
    (inserted_holds c.args.kind c.args.i c.args.row.now c.args.page.now.bytes c.find_place.new.page.bytes c.is_whole.ensures.long c.requires.holds
    c.requires.fits c.requires.i c.requires.room c.find_place.ensures).1

pub returns-clause-holds : goal.returns-clause-holds
returns-clause-holds c =
    (inserted_holds c.args.kind c.args.i c.args.row.now c.args.page.now.bytes c.find_place.new.page.bytes c.is_whole.ensures.long c.requires.holds
    c.requires.fits c.requires.i c.requires.room c.find_place.ensures).0

pub returns-clause-test : goal.returns-clause-test
returns-clause-test c =
    inserted_test c.args.kind c.args.i c.args.row.now c.args.page.now.bytes c.find_place.new.page.bytes c.find_place.ensures (returns-clause-holds c)
