use Rattle.std.proofs.Common.{◌≡◌, take, flat_map}
use Rattle.spec_log.specs.Bytes.{item_bytes}
use Rattle.run_close.proofs.close.encoded.Given as goal

abbrev pub invariant-loop-item : goal.invariant-loop-item
invariant-loop-item l = l.bytes.items ≡ flat_map item_bytes (take l.item-index l.items)
