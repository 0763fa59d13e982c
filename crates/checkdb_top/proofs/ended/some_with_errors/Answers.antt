use Rattle.std.proofs.Common.{◌∙◌}
use Rattle.std.specs.List.{list_any}
use Rattle.checkdb_top.specs.Runs.{has_errors}
use Rattle.checkdb_top.proofs.Running.{any_mapped}
use Rattle.checkdb_top.proofs.ended.some_with_errors.Goals as goal

pub returns : goal.returns
returns c = c.one_with_errors.ensures ∙ any_mapped (λ r. r.now) (list_any has_errors) c.args.replies.now
