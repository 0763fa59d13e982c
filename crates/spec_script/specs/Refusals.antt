-- Refusals by their number alone.
use Rattle.std.specs.Prelude.{ℕ, [], None}
use Rattle.spec_script.specs.declared.reply.Refusal.{Refusal}

-- a refusal that names nothing
abbrev pub plain_refusal : ℕ → Refusal
plain_refusal n = record { number = n; name = []; key = 0; page = record { 0 = 0 }; resource = None; by = record { 0 = 0 } }
