use Rattle.std.specs.Prelude.{codes, flat_map}
use Rattle.spec_script.specs.Replies.{payload_line, shown_byte}
use Rattle.vol_dev.proofs.Output.{wrote_then, wrote_front, wrote_failed}
use Rattle.ck_text.proofs.payload.write_payload_line.Goals as goal

pub returns-in_err-write_bytes : goal.returns-in_err-write_bytes
unfolding payload_line
returns-in_err-write_bytes g c =
    wrote_failed _ _ _ _ _ _ c.from_residual.ensures.1
    (wrote_front _ _ _ _ (codes "'\n") (wrote_front _ _ _ _ (flat_map shown_byte c.args.payload.now) c.in_err-write_bytes.ensures))

pub returns-in_err-write_payload : goal.returns-in_err-write_payload
unfolding payload_line
returns-in_err-write_payload g c =
    wrote_failed _ _ _ _ _ _ c.from_residual-in_err-write_payload.ensures.1
    (wrote_front _ _ _ _ _ (wrote_then _ _ _ _ _ _ _ c.in_ok-write_bytes.ensures (rw c.as_slice.ensures at c.in_err-write_payload.ensures)))

pub returns : goal.returns
unfolding payload_line
returns g c =
    wrote_then _ _ _ _ _ _ _ (wrote_then _ _ _ _ _ _ _ c.in_ok-write_bytes.ensures (rw c.as_slice.ensures at c.in_ok-write_payload.ensures)) c.write_bytes-2.ensures
