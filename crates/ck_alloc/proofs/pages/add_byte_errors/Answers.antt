use Rattle.std.proofs.Common.{subst, OnOk}
use Rattle.ck_error.specs.Gathered.{Adds}
use Rattle.ck_alloc.specs.PageRules.{ByteSays}
use Rattle.ck_alloc.proofs.pages.add_byte_errors.Goals as goal

pub returns-in-Some : goal.returns-in-Some
returns-in-Some c =
    subst (λ told. OnOk c.add_test.result (Adds c.args.errors.now.items c.add_test.new.errors.items (ByteSays told c.args.state.now c.args.uses.now c.args.markers.now)))
    c.in-Some.ensures c.add_test.ensures

pub returns-in-None : goal.returns-in-None
returns-in-None c =
    subst (λ told. OnOk c.add_owner_tests.result (Adds c.args.errors.now.items c.add_owner_tests.new.errors.items (ByteSays told c.args.state.now c.args.uses.now c.args.markers.now)))
    c.in-None.ensures c.add_owner_tests.ensures
