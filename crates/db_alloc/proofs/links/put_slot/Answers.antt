use Rattle.std.proofs.Common.{ℕ, ◌+◌, ◌*◌, Contains, sym, subst}
use Rattle.byteorder.specs.Endian.{little_bytes}
use Rattle.spec_alloc.specs.Chains.{put_iam}
use Rattle.db_locks.specs.Does.{DoesAfter}
use Rattle.db_alloc.proofs.LinkBytes.{first_at}
use Rattle.db_alloc.proofs.links.put_slot.Goals as goal

pub returns : goal.returns
returns g c = λ looked before.
    let a = g.P.PlanPages.state c.args.v.now in
    let b = g.P.PlanPages.state c.put_number.new.v in
    let first = first_at c.args.chain.now (record { 0 = 0 }) c.requires.some in
    subst (λ (q : ℕ). DoesAfter looked a b (put_iam q (104 + 4 * c.args.i) (little_bytes 4 c.args.p.0)) c.put_number.result) first
    (c.put_number.ensures looked (λ told. subst (λ (q : ℕ). Contains looked q) (sym first) (before told)))
