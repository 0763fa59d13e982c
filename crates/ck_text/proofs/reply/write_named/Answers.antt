use Rattle.vol_dev.proofs.Output.{wrote_then, wrote_front, wrote_failed}
use Rattle.ck_text.proofs.reply.write_named.Goals as goal

pub returns-in_err-write_line : goal.returns-in_err-write_line
returns-in_err-write_line g c =
    wrote_failed _ _ _ _ _ _ c.from_residual.ensures.1
    (wrote_front _ _ _ _ _ (wrote_front _ _ _ _ _ (rw c.number_text.ensures at c.in_err-write_line.ensures)))

pub returns-in_err-write_bytes : goal.returns-in_err-write_bytes
returns-in_err-write_bytes g c =
    wrote_failed _ _ _ _ _ _ c.from_residual-in_err-write_bytes.ensures.1
    (wrote_front _ _ _ _ _ (wrote_then _ _ _ _ _ _ _ (rw c.number_text.ensures at c.in_ok-write_line.ensures)
    (rw c.as_bytes.ensures.value at c.in_err-write_bytes.ensures)))

pub returns : goal.returns
returns g c =
    wrote_then _ _ _ _ _ _ _ (wrote_then _ _ _ _ _ _ _ (rw c.number_text.ensures at c.in_ok-write_line.ensures)
    (rw c.as_bytes.ensures.value at c.in_ok-write_bytes.ensures)) c.write_bytes-2.ensures
