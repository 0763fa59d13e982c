use Rattle.law_undo.proofs.HolderLaws.{holder_is_other, holders_are_one}
use Rattle.law_undo.proofs.holder_laws.Goals as goal

pub returns : goal.returns
returns c = record { other = holder_is_other; one = holders_are_one }
