use Rattle.std.proofs.lemmas.Result.{on_ok_weaker}
use Rattle.ck_error.proofs.GatheringLaws.{adds_if}
use Rattle.ck_chain.proofs.pages.note_mark.Goals as goal

pub returns : goal.returns
returns c =
    rw (c.interval_size.ensures, c.requires.view.interval, c.marks.ensures) at
    (on_ok_weaker c.push_if.result (adds_if _ _ _ _ _ _ c.is_behind.ensures c.error.ensures) c.push_if.ensures)
