use Rattle.std.proofs.Common.{sym, subst, ◌∙◌}
use Rattle.pg_base.specs.declared.reader.SnapReader.{Ghosts}
use Rattle.ck_scan.specs.Readers.{AreRead}
use Rattle.ck_scan.proofs.CrewLaws.{are_hired, are_worked, all_going, all_read, all_done, all_found}
use Rattle.ck_scan.proofs.crew.work_together.Goals as goal

pub all_work-requires-clause-going : goal.all_work-requires-clause-going
all_work-requires-clause-going g c κs within =
    let hired = are_hired c.args.claims.now c.args.map.now c.args.readers.now.items c.hire.new.workers.items c.args.jobs.now.items c.requires.jobs c.hire.ensures.jobs
    c.hire.ensures.readers in
    all_going g.R.SnapReader c.args.claims.now c.args.map.now c.args.readers.now.items c.hire.new.workers.items hired c.requires.pages

pub returns-clause-reads : goal.returns-clause-reads
returns-clause-reads g c =
    let t : Ghosts g.row.R.Denot = g.R.SnapReader in
    let claims = c.args.claims.now in
    let m = c.args.map.now in
    let old = c.args.readers.now.items in
    let us = c.hire.new.workers.items in
    let vs = c.all_work.new.workers.items in
    let hired = are_hired claims m old us c.args.jobs.now.items c.requires.jobs c.hire.ensures.jobs c.hire.ensures.readers in
    let worked = are_worked t claims m us vs _ _ c.hire.new.workers.ok.0 c.all_work.new.workers.ok.0 c.all_work.ensures.length c.all_work.ensures.each in
    subst (AreRead t old c.release.new.readers.items) (sym c.release.ensures.stop) (rw c.release.ensures.readers (all_read t claims m old us vs hired worked))

pub returns-clause-done : goal.returns-clause-done
returns-clause-done g c = λ none.
    let t : Ghosts g.row.R.Denot = g.R.SnapReader in
    let us = c.hire.new.workers.items in
    let vs = c.all_work.new.workers.items in
    let worked = are_worked t c.args.claims.now c.args.map.now us vs _ _ c.hire.new.workers.ok.0 c.all_work.new.workers.ok.0 c.all_work.ensures.length c.all_work.ensures.each in
    rw c.release.ensures.jobs (all_done t c.args.claims.now c.args.map.now us vs worked (sym c.release.ensures.stop ∙ none))

pub returns-clause-found : goal.returns-clause-found
returns-clause-found g c = λ none image of told.
    let t : Ghosts g.row.R.Denot = g.R.SnapReader in
    let claims = c.args.claims.now in
    let m = c.args.map.now in
    let old = c.args.readers.now.items in
    let us = c.hire.new.workers.items in
    let vs = c.all_work.new.workers.items in
    let hired = are_hired claims m old us c.args.jobs.now.items c.requires.jobs c.hire.ensures.jobs c.hire.ensures.readers in
    let worked = are_worked t claims m us vs _ _ c.hire.new.workers.ok.0 c.all_work.new.workers.ok.0 c.all_work.ensures.length c.all_work.ensures.each in
    rw c.release.ensures.jobs (all_found t claims m old us vs image hired worked (sym c.release.ensures.stop ∙ none) of told)
