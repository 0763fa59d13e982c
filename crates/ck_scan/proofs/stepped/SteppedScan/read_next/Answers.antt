use Rattle.ck_scan.proofs.ScanReports.{read_answer}
use Rattle.ck_scan.proofs.stepped.SteppedScan.read_next.Goals as goal

pub returns-clause-next : goal.returns-clause-next
returns-clause-next g c =
    let reads = c.in_ok-find_in_extent-in-Pages.ensures in
    read_answer (g.R.SnapReader.image c.args.reader.now) c.args.map.now c.args.self.now c.in-Pages.next c.in-Pages.frame c.find_in_extent.new.frame c.in-Pages.found
    c.find_in_extent.new.found c.in-Pages.is c.requires.by c.requires.more (record { lines = reads.lines; roots = reads.roots; count = reads.parts }) reads.found
