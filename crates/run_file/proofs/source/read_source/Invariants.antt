use Rattle.std.proofs.Common.{◌≡◌, ◌≤◌, length}
use Rattle.std.specs.Io.KnownBytes.{prepend_known}
use Rattle.run_file.proofs.source.read_source.Given as goal

abbrev pub invariant-loop-round : goal.invariant-loop-round
invariant-loop-round g l = record {
  read : g.S.Source.left l.fn.source ≡ prepend_known l.bytes.items (g.S.Source.left l.source);
  many : l.round ≤ length l.bytes.items;
  faults : g.S.Source.faults l.fn.source ≤ g.S.Source.faults l.source;
}
