use Rattle.std.specs.Prelude.{◌≡◌, ◌++◌, take, flat_map}
use Rattle.spec_log.specs.Bytes.{resource_bytes}
use Rattle.log_rec.proofs.item.push_resources.Given as goal

-- the resources so far stand behind what was there
abbrev pub invariant-loop-resource : goal.invariant-loop-resource
invariant-loop-resource l = l.into.items ≡ l.fn.into.items ++ flat_map resource_bytes (take l.resource-index l.takes)
