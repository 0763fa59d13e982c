use Rattle.std.proofs.Common.{◌≡◌, sym, ◌∙◌}
use Rattle.db_cat.proofs.ChangeSteps.{of_within, removed_passes, removed_rows, kept_rows}
use Rattle.db_cat.proofs.change.remove.Goals as goal

pub put_entry-requires-clause-within : goal.put_entry-requires-clause-within
put_entry-requires-clause-within c = of_within c.args.page.now.bytes c.args.id.0 c.in-Some.i (sym c.entry_of.ensures ∙ c.in-Some.is)

pub returns-in-Some-clause-passes : goal.returns-in-Some-clause-passes
returns-in-Some-clause-passes c = removed_passes c.args.page.now.bytes _ c.in-Some.i c.put_entry.ensures.bytes c.put_entry.ensures.inside c.requires

pub returns-in-Some-clause-rows : goal.returns-in-Some-clause-rows
returns-in-Some-clause-rows c =
    removed_rows c.args.page.now.bytes _ c.args.id.0 c.in-Some.i c.put_entry.ensures.bytes c.put_entry.ensures.inside c.requires (sym c.entry_of.ensures ∙ c.in-Some.is)

pub returns-in-None-clause-rows : goal.returns-in-None-clause-rows
returns-in-None-clause-rows c = kept_rows c.args.page.now.bytes c.args.id.0 (sym c.entry_of.ensures ∙ c.in-None.is)
