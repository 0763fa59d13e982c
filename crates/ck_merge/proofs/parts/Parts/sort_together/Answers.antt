use Rattle.std.proofs.Common.{arith}
use Rattle.ck_merge.proofs.Sides.{own_together, filed_together, sorted_together}
use Rattle.ck_merge.proofs.parts.Parts.sort_together.Goals as goal

pub invariant_of-self : goal.invariant_of-self
invariant_of-self g c =
    let old = c.args.self.now.buckets.items in
    let new = c.sort_all.new.buckets.items in
    let lengths = c.args.self.now.buckets.ok.0 in
    let lengths_new = c.sort_all.new.buckets.ok.0 in
    let same = c.sort_all.ensures.long in
    let counted = c.args.self.now.counted in
    record {
      counted = omega (arith, lengths, lengths_new, same, counted);
      some = c.args.self.now.some;
      own = own_together c.args.self.now.count old new c.sort_all.ensures c.args.self.now.own;
    }

pub returns-clause-holds : goal.returns-clause-holds
returns-clause-holds g c = λ held h.
    record { filed = filed_together c.args.self.now.count held c.args.self.now.buckets.items c.sort_all.new.buckets.items c.sort_all.ensures h.filed }

pub returns-clause-sorted : goal.returns-clause-sorted
returns-clause-sorted g c =
    sorted_together c.args.self.now.count c.args.self.now.buckets.items c.sort_all.new.buckets.items c.sort_all.ensures
