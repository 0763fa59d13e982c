use Rattle.std.proofs.lemmas.Result.{on_ok_weaker}
use Rattle.ck_alloc.proofs.errors.add_page.Goals as goal

pub returns : goal.returns
returns c = on_ok_weaker c.add_page_errors.result
    (λ added sorted. rw (c.page_state-state.ensures, c.uses_between-uses.ensures (rw c.deref.ensures.value sorted), c.deref.ensures.value) at added)
    c.add_page_errors.ensures
