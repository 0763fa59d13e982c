use Rattle.std.proofs.lemmas.Result.{on_ok_weaker}
use Rattle.ck_alloc.proofs.errors.add_extent.Goals as goal

pub returns : goal.returns
returns c = on_ok_weaker c.add_extent_errors.result (λ added sorted. rw (c.extent_state-state.ensures.state sorted) at added) c.add_extent_errors.ensures
