use Rattle.std.proofs.Common.{◌+◌, ◌*◌, arith, inl, inr}
use Rattle.std.proofs.lemmas.Bool.{cases_order}
use Rattle.pg_base.proofs.NumberLaws.{number_stays, same_number_behind}
use Rattle.pg_iam.proofs.write.set_slot.Goals as goal

pub returns-clause-other_slots : goal.returns-clause-other_slots
returns-clause-other_slots c = λ k other. elim (cases_order k c.args.i) [
  | inl same ↦ absurd (other same)
  | inr (inl below) ↦ number_stays 4 (104 + 4 * k) 4 (104 + 4 * c.args.i) _ _ _ c.put_u32.ensures (omega arith)
  | inr (inr above) ↦
      same_number_behind 4 (104 + 4 * k) (104 + 4 * c.args.i + 4) _ _ c.put_u32.ensures.back (omega arith)
]
