use Rattle.std.proofs.Common.{flat_map, sym, ap, ◌∙◌}
use Rattle.spec_log.specs.Bytes.{item_bytes}
use Rattle.run_close.proofs.Encoded.{bytes_in_order}
use Rattle.run_close.proofs.close.Close.of.Goals as goal

pub returns : goal.returns
returns c = record {
  bytes = λ log is. c.in_ok-bytes.ensures ∙ ap (flat_map item_bytes) (sym is) ∙ bytes_in_order log;
  count = c.in_ok-changed.ensures.count;
  marks = c.in_ok-changed.ensures.marks;
  stay = c.in_ok-changed.ensures.stay;
}
