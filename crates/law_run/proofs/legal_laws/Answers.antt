use Rattle.law_run.proofs.Legal.{legal_is_sound, legal_puts_bytes, next_belongs}
use Rattle.law_run.proofs.legal_laws.Goals as goal

pub returns : goal.returns
returns c = record { sound = legal_is_sound; bytes = legal_puts_bytes; belongs = next_belongs }
