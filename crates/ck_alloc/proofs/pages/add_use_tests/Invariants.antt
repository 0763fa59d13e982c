use Rattle.std.proofs.Common.{take}
use Rattle.ck_error.specs.Gathered.{Adds, Each}
use Rattle.ck_alloc.specs.PageRules.{UseSays}
use Rattle.ck_alloc.proofs.pages.add_use_tests.Given as goal

abbrev pub invariant-loop-i : goal.invariant-loop-i
invariant-loop-i l = Adds l.initial.errors.items l.errors.items (Each (take l.i l.uses) (UseSays l.state))
