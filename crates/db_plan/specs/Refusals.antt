-- What a session is told of the reason for which its statement stops.
use Rattle.std.specs.Prelude.{◌≡◌, ◌⊎◌}
use Rattle.spec_script.specs.declared.reply.Refusal.{Refusal}
use Rattle.spec_plan.specs.Refusals.{held_by, out_of_memory}
use Rattle.spec_run.specs.Answers.{read_fault}
use Rattle.db_locks.specs.Does.{Stop, WasHeld, WasRefused, HasFailed, WasShort}

abbrev pub refusal_of : Stop → Refusal
refusal_of (WasHeld r t) = held_by r t
refusal_of (WasRefused refusal) = refusal
refusal_of (HasFailed p) = read_fault p
refusal_of WasShort = out_of_memory

-- that, or that memory is short to tell it
abbrev pub Tells : Stop → Refusal → Type 0
Tells stop refusal = (refusal ≡ refusal_of stop) ⊎ (refusal ≡ out_of_memory)
