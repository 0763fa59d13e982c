use Rattle.std.proofs.Common.{◌<◌, ◌∙◌, ap, arith, drop, length, map, subst}
use Rattle.std.proofs.lemmas.List.{length-map, take_at}
use Rattle.run_file.proofs.SourcesLaws.{failed_rose}
use Rattle.spec_file.specs.declared.data.PageNo.{PageNo}
use Rattle.checkdb_top.specs.Answers.{Answers}
use Rattle.checkdb_top.specs.Printings.{page_printing}
use Rattle.pg_base.proofs.FaultLaws.{counts_none}
use Rattle.checkdb_top.proofs.Answering.{same_page, never_log, never_source, check_names_no_word}
use Rattle.checkdb_top.proofs.Completeness.{completes}
use Rattle.checkdb_top.proofs.RunCompleteness.{completes_run, never_without}
use Rattle.checkdb_top.proofs.top.plain_top.Goals as goal

pub returns-in-Ok-Check-clause-complete : goal.returns-in-Ok-Check-clause-complete
returns-in-Ok-Check-clause-complete g c = λ _.
    completes _ _ _ _ _ _ _ c.check-status.ensures.answers c.check-status.ensures.reads.faults.cause c.check-status.ensures.faults.cause

pub returns-in-Ok-ShowPage-clause-shows : goal.returns-in-Ok-ShowPage-clause-shows
returns-in-Ok-ShowPage-clause-shows g c = λ p asks.
    subst (λ (q : PageNo). Answers (page_printing q.0) (g.V.Volume.contents c.args.volume) (g.K.Sink.contents c.args.out.now)
    (g.K.Sink.contents c.show-status.new.out) c.show-status.result.status)
    (same_page c.args.words.now c.in-Ok-ShowPage.p p (rw c.in-Ok-ShowPage.field-0-is at c.in-Ok-ShowPage.ensures) asks) c.show-status.ensures.answers

pub returns-in-Ok-ShowPage-clause-complete_page : goal.returns-in-Ok-ShowPage-clause-complete_page
returns-in-Ok-ShowPage-clause-complete_page g c = λ p asks.
    let answers = subst (λ (q : PageNo). Answers (page_printing q.0) (g.V.Volume.contents c.args.volume) (g.K.Sink.contents c.args.out.now)
    (g.K.Sink.contents c.show-status.new.out) c.show-status.result.status)
    (same_page c.args.words.now c.in-Ok-ShowPage.p p (rw c.in-Ok-ShowPage.field-0-is at c.in-Ok-ShowPage.ensures) asks) c.show-status.ensures.answers in
    completes (page_printing p.0) _ _ _ _ _ _ answers c.show-status.ensures.reads.faults.cause c.show-status.ensures.faults.cause

pub returns-in-Ok-Replay-clause-ends : goal.returns-in-Ok-Replay-clause-ends
returns-in-Ok-Replay-clause-ends g c = λ _.
    let now = c.run-status.new.sources in
    rw (take_at now (drop (length now) c.args.sources.now.items) c.args.sources.now.len (c.run-status.auto.sources ∙ c.as_mut_slice.ensures.len))
    (rw c.as_mut_slice.ensures.value at c.run-status.ensures.ends)

pub returns-in-Ok-Replay-clause-complete_run : goal.returns-in-Ok-Replay-clause-complete_run
returns-in-Ok-Replay-clause-complete_run g c = λ asks.
    let now = c.run-status.new.sources in
    let some : 0 < length (map g.S.Source.left c.args.sources.now.items) =
    omega (arith, c.requires.some asks, length-map c.args.sources.now.items g.S.Source.left) in
    rw (take_at now (drop (length now) c.args.sources.now.items) c.args.sources.now.len (c.run-status.auto.sources ∙ c.as_mut_slice.ensures.len))
    (completes_run (map g.S.Source.left c.args.sources.now.items) _ _ _ _ _ _ _ _ _ _ _ _ some (rw c.as_mut_slice.ensures.value at c.run-status.ensures.ends)
    c.run-status.ensures.volume_faults.cause c.run-status.ensures.log_faults.cause c.run-status.ensures.sink_faults.cause
    (λ is. failed_rose _ _ _ (rw c.as_mut_slice.ensures.value at (c.run-status.ensures.source_fault is))))

pub returns-in-Ok-Replay-clause-no_terminated : goal.returns-in-Ok-Replay-clause-no_terminated
returns-in-Ok-Replay-clause-no_terminated g c = λ _. never_without _ _ _ _ _ _ _ _ _ c.run-status.ensures.ends

pub returns-in-Ok-Replay-clause-count : goal.returns-in-Ok-Replay-clause-count
returns-in-Ok-Replay-clause-count g c =
    let now = c.run-status.new.sources in
    ap length (take_at now (drop (length now) c.args.sources.now.items) c.args.sources.now.len (c.run-status.auto.sources ∙ c.as_mut_slice.ensures.len))
    ∙ c.run-status.auto.sources ∙ ap length c.as_mut_slice.ensures.value

pub returns-in-Ok-Check-clause-words_only : goal.returns-in-Ok-Check-clause-words_only
returns-in-Ok-Check-clause-words_only g c = λ at is. absurd (check_names_no_word _ _ _ _ at c.check-status.ensures.answers is)

pub returns-in-Ok-Check-clause-log_faults : goal.returns-in-Ok-Check-clause-log_faults
returns-in-Ok-Check-clause-log_faults g c = counts_none _ _ (never_log _ _ _ _ _ c.check-status.ensures.answers)

pub returns-in-Ok-Check-clause-source_fault : goal.returns-in-Ok-Check-clause-source_fault
returns-in-Ok-Check-clause-source_fault g c = λ is. absurd (never_source _ _ _ _ _ c.check-status.ensures.answers is)

pub returns-in-Ok-ShowPage-clause-log_faults : goal.returns-in-Ok-ShowPage-clause-log_faults
returns-in-Ok-ShowPage-clause-log_faults g c = counts_none _ _ (never_log _ _ _ _ _ c.show-status.ensures.answers)

pub returns-in-Ok-ShowPage-clause-source_fault : goal.returns-in-Ok-ShowPage-clause-source_fault
returns-in-Ok-ShowPage-clause-source_fault g c = λ is. absurd (never_source _ _ _ _ _ c.show-status.ensures.answers is)
