use Rattle.std.proofs.lemmas.Result.{on_ok_weaker}
use Rattle.ck_alloc.proofs.Growing.{adds_if}
use Rattle.ck_alloc.proofs.pages.add_lost_page.Goals as goal

pub returns : goal.returns
returns c = on_ok_weaker c.push_if.result (adds_if _ _ _ _ _ _ c.is_lost_page.ensures c.lost_page_error.ensures) c.push_if.ensures
