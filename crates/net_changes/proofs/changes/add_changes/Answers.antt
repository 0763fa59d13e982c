use Rattle.std.proofs.lemmas.Result.{on_ok_weaker}
use Rattle.net_changes.proofs.WholeLaws.{six_parts}
use Rattle.net_changes.proofs.changes.add_changes.Goals as goal

pub returns : goal.returns
returns g c =
    on_ok_weaker c.add_pages-2.result (λ added told.
    six_parts (g.P.PlanPages.state c.args.v.now) c.args.geometry c.args.pages _ _ _ _ _ _ _ c.requires.geometry c.requires.pages (c.in_ok-add_map_bits.ensures told) (c.in_ok-add_map_bits-2.ensures told)
    (c.in_ok-add_byte_runs.ensures told) (c.in_ok-add_pages.ensures told) (c.in_ok-add_boot.ensures told) (added told))
    c.add_pages-2.ensures
