use Rattle.std.proofs.Common.{◌≡◌, List, [], map, drop}
use Rattle.spec_file.specs.declared.data.PageNo.{PageNo}
use Rattle.spec_words.specs.Tables.{bytes_read}
use Rattle.db_locks.specs.Does.{stop_of}
use Rattle.db_locks.proofs.LoopLaws.{Leads}
use Rattle.db_locks.proofs.cells.check_pfs_pages.Given as goal

abbrev pub invariant-loop-p : goal.invariant-loop-p
invariant-loop-p g l =
    let begun = g.P.PlanPages.state l.fn.view in
    let numbers = λ (ps : List PageNo). map (λ (p : PageNo). p.0) ps in
    record {
      leads : Leads stop_of [] begun (g.P.PlanPages.state l.view) (bytes_read begun.view.shape (numbers l.pages)) (bytes_read begun.view.shape (numbers (drop l.p-index l.pages)));
      view : (g.P.PlanPages.state l.view).view ≡ begun.view;
    }
