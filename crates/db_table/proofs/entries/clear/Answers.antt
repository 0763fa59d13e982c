use Rattle.std.proofs.Common.{replicate, refl, ◌∙◌, arith}
use Rattle.db_table.proofs.EntryPlaces.{entry_placed}
use Rattle.db_table.proofs.entries.clear.Goals as goal

pub returns : goal.returns
returns c =
    let lt = c.requires in
    let long = c.is_whole.ensures.long in
    c.empty_entry.ensures ∙ entry_placed c.args.i (replicate 40 0) c.args.page.now.bytes refl (omega (arith, lt, long))
