use Rattle.spec_script.specs.Replies.{reply_text}
use Rattle.vol_dev.proofs.Output.{wrote_then, wrote_front, wrote_failed}
use Rattle.ck_text.proofs.reply.write_reply.Goals as goal

pub returns-in_err-write_line : goal.returns-in_err-write_line
unfolding reply_text
returns-in_err-write_line g c =
    wrote_failed _ _ _ _ _ _ c.from_residual.ensures.1 (wrote_front _ _ _ _ _ (rw c.place_of.ensures at c.in_err-write_line.ensures))

pub returns : goal.returns
unfolding reply_text
returns g c = wrote_then _ _ _ _ _ _ _ (rw c.place_of.ensures at c.in_ok-write_line.ensures) c.write_answer.ensures
