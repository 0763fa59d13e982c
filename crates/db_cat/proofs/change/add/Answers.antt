use Rattle.std.proofs.Common.{◌≡◌, List, ℕ, sym, ap, ◌∙◌, subst, length}
use Rattle.spec_file.specs.CatalogBytes.{with_entry}
use Rattle.spec_file.proofs.EntryLaws.{row_name_fits}
use Rattle.db_cat.specs.Rows.{row_of}
use Rattle.db_cat.proofs.ChangeSteps.{free_within, added_passes, added_rows}
use Rattle.db_cat.proofs.change.add.Goals as goal

pub bytes_of-requires : goal.bytes_of-requires
bytes_of-requires c = row_name_fits (row_of c.args.row.now) c.requires.form

pub put_entry-requires-clause-within : goal.put_entry-requires-clause-within
put_entry-requires-clause-within c = free_within c.args.page.now.bytes c.in-Some.i (sym c.free_entry.ensures ∙ c.in-Some.is)

pub returns-in-Some-clause-passes : goal.returns-in-Some-clause-passes
returns-in-Some-clause-passes c =
    let put = c.put_entry.ensures.bytes ∙ ap (λ (entry : List ℕ). with_entry c.in-Some.i entry c.args.page.now.bytes) c.deref.ensures.0 in
    added_passes c.args.page.now.bytes _ c.bytes_of.result.items c.in-Some.i (row_of c.args.row.now) c.bytes_of.ensures.bytes c.bytes_of.ensures.row c.bytes_of.ensures.size put
    c.put_entry.ensures.inside c.requires

pub returns-in-Some-clause-rows : goal.returns-in-Some-clause-rows
returns-in-Some-clause-rows c =
    let put = c.put_entry.ensures.bytes ∙ ap (λ (entry : List ℕ). with_entry c.in-Some.i entry c.args.page.now.bytes) c.deref.ensures.0 in
    added_rows c.args.page.now.bytes _ c.bytes_of.result.items c.in-Some.i (row_of c.args.row.now) c.bytes_of.ensures.bytes c.bytes_of.ensures.row c.bytes_of.ensures.size put
    c.put_entry.ensures.inside c.requires (sym c.free_entry.ensures ∙ c.in-Some.is)
