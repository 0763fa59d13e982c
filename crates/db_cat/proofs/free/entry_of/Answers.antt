use Rattle.std.proofs.Common.{◌≡◌, sym, ap, ◌∙◌, arith, below_more}
use Rattle.db_cat.specs.Changes.{is_of}
use Rattle.db_cat.proofs.Places.{entry_is, entry_none}
use Rattle.db_cat.proofs.free.entry_of.Goals as goal

pub returns-then-has_id : goal.returns-then-has_id
returns-then-has_id c = sym (entry_is (is_of c.args.id.0) c.args.page.now.bytes c.loop-i.i c.loop-i-test.true (sym c.has_id.ensures ∙ c.if-has_id.true) c.loop-i.invariant)

pub returns : goal.returns
returns c = sym (entry_none (is_of c.args.id.0) c.args.page.now.bytes (λ k lt. c.loop-i.invariant k (omega (arith, lt))))
