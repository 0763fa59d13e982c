use Rattle.std.proofs.Common.{◌≡◌, vec_len}
use Rattle.ck_scan.proofs.LineLaws.{AreSumsBelow}
use Rattle.ck_scan.proofs.findings.add_lines.Given as goal

abbrev pub invariant-loop-i : goal.invariant-loop-i
invariant-loop-i l = AreSumsBelow l.i l.initial.lines.items l.more l.lines.items × (vec_len l.lines ≡ vec_len l.initial.lines)
