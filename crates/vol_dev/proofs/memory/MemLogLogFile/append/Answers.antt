use Rattle.std.proofs.Common.{◌≡◌, ◌++◌, take, is_ok, cond, arith}
use Rattle.std.proofs.lemmas.Grind.{common_steps}
use Rattle.vol_dev.proofs.Moves.{front_if}
use Rattle.vol_dev.proofs.memory.MemLogLogFile.append.Goals as goal

pub returns-in_default-clause-grows : goal.returns-in_default-clause-grows
returns-in_default-clause-grows c =
    let held = c.args.self.now.bytes.items in
    let taken = c.match-self.taken in
    let grown : c.extend_from_slice.new.self.items ≡ cond (is_ok c.extend_from_slice.result) (held ++ take taken c.args.bytes.now) held =
    grind (arith, common_steps) in
    front_if (is_ok c.extend_from_slice.result) held _ _ taken grown
