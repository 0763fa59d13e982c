use Rattle.law_undo.proofs.Law.{file_shows_bytes, file_shows_bits, undos_bring_back, nobody_sees_committed}
use Rattle.law_undo.proofs.Unguarded.{unguarded_stay}
use Rattle.law_undo.proofs.view_laws.Goals as goal

pub returns : goal.returns
returns c = record { bytes = file_shows_bytes; bits = file_shows_bits; unguarded = unguarded_stay; undone = undos_bring_back; nobody = nobody_sees_committed }
