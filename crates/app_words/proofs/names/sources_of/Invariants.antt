use Rattle.std.proofs.Common.{◌≡◌, take, drop, map, ◌-◌, string_bytes}
use Rattle.app_words.proofs.names.sources_of.Given as goal

abbrev pub invariant-loop-i : goal.invariant-loop-i
invariant-loop-i l = map string_bytes l.names.items ≡ take (l.i - 3) (drop 3 l.words)
