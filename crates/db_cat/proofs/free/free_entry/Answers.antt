use Rattle.std.proofs.Common.{◌≡◌, sym, ap, ◌∙◌, arith, below_more}
use Rattle.spec_file.specs.Catalog.{is_zeros}
use Rattle.db_cat.proofs.Places.{entry_is, entry_none}
use Rattle.db_cat.proofs.free.free_entry.Goals as goal

pub returns-then-is_zeros : goal.returns-then-is_zeros
returns-then-is_zeros c = sym (entry_is is_zeros c.args.page.now.bytes c.loop-i.i c.loop-i-test.true (ap is_zeros (sym c.entry_at.ensures.entry) ∙ sym c.is_zeros.ensures ∙ c.if-is_zeros.true) c.loop-i.invariant)

pub returns : goal.returns
returns c = sym (entry_none is_zeros c.args.page.now.bytes (λ k lt. c.loop-i.invariant k (omega (arith, lt))))
