use Rattle.std.proofs.Common.{◌≡◌, length, drop, arith, length-drop, sym, ◌∙◌}
use Rattle.std.proofs.lemmas.List.{take_all}
use Rattle.db_cat.proofs.entry.name_of.Goals as goal

pub returns-else-end-le40 : goal.returns-else-end-le40
returns-else-end-le40 c =
    let size : length (drop 6 c.args.entry.now) ≡ 34 = omega (arith, length-drop 6 c.args.entry.now) in
    take_all 34 (drop 6 c.args.entry.now) (omega arith) ∙ sym (take_all _ (drop 6 c.args.entry.now) (omega arith))
