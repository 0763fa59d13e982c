use Rattle.std.proofs.Common.{◌≡◌, ◌≤◌, length, arith}
use Rattle.ck_scan.proofs.LineLaws.{sums_all}
use Rattle.ck_scan.proofs.findings.add_lines.Goals as goal

pub returns-clause-sums : goal.returns-clause-sums
returns-clause-sums c =
    let old = c.args.lines.now.items in
    let lengths = c.args.lines.now.ok.0 in
    let count = c.requires in
    let test = c.loop-i-test.false in
    let same : length c.args.more.now ≡ length old = omega (arith, lengths, count) in
    let end : length old ≤ c.loop-i.i = omega (arith, lengths, count, test) in
    sums_all c.loop-i.i old c.args.more.now c.loop-i.lines.items same end c.loop-i.invariant.0
