use Rattle.std.proofs.Common.{ap, sym, ◌∙◌}
use Rattle.std.specs.Option.{option_map}
use Rattle.spec_file.specs.declared.data.Tran.{Tran}
use Rattle.db_locks.specs.Memory.{state_of}
use Rattle.db_locks.proofs.ViewLaws.{look_free, look_held}
use Rattle.db_locks.proofs.memory.MemViewPlanPages.look.Goals as goal

pub returns-in-Some-clause-look : goal.returns-in-Some-clause-look
returns-in-Some-clause-look c = look_held (state_of c.args.self.now) c.args.r c.args.p.0 c.in-Some.by (ap (option_map (λ (t : Tran). t.0)) (sym c.holder.ensures ∙ c.in-Some.is))

pub returns-clause-look : goal.returns-clause-look
returns-clause-look c = look_free (state_of c.args.self.now) c.args.r c.args.p.0 (ap (option_map (λ (t : Tran). t.0)) (sym c.holder.ensures ∙ c.in_default.is))
