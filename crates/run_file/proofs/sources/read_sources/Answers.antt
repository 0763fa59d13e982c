use Rattle.std.proofs.Common.{◌∷◌, Err, map, sym, subst, arith}
use Rattle.std.proofs.lemmas.List.{length-map}
use Rattle.run_file.specs.Sources.{SourcesFault}
use Rattle.run_file.proofs.ScriptsRead.{scripts_count, fault_first, fault_behind}
use Rattle.run_file.proofs.sources.read_sources.Goals as goal

pub returns-in-Ok-read_scripts-clause-count : goal.returns-in-Ok-read_scripts-clause-count
returns-in-Ok-read_scripts-clause-count g c =
    let same = scripts_count _ _ c.in-Ok-read_scripts.ensures.scripts in
    let lefts = length-map c.in-Some.rest.now g.S.Source.left in
    let texts = length-map c.in-Ok-read_scripts.scripts.items (λ script. script.items) in
    let split = c.in-Some.ensures.cases in
    omega (arith, same, lefts, texts, split.1)

pub returns-in-Err-read_scripts-clause-fault : goal.returns-in-Err-read_scripts-clause-fault
returns-in-Err-read_scripts-clause-fault g c =
    subst (λ xs. SourcesFault {T = Unit {0}} (map g.S.Source.left xs) (map g.S.Source.faults xs)
    (map g.S.Source.faults (c.schedule_of.new.source ∷ c.read_scripts.new.sources)) (Err c.in-Err-read_scripts.stop))
    (sym c.in-Some.ensures.cases.0)
    (fault_behind g.S.Source.left g.S.Source.faults c.in-Some.first.now c.schedule_of.new.source c.in-Some.rest.now c.read_scripts.new.sources {T = Unit {0}}
    c.in-Ok.turns.items (Err c.in-Err-read_scripts.stop) c.in-Ok.ensures.schedule c.in-Err-read_scripts.ensures.fault)

pub returns-in-Err-clause-fault : goal.returns-in-Err-clause-fault
returns-in-Err-clause-fault g c =
    subst (λ xs. SourcesFault {T = Unit {0}} (map g.S.Source.left xs) (map g.S.Source.faults xs)
    (map g.S.Source.faults (c.schedule_of.new.source ∷ c.in-Some.rest.now)) (Err c.of_source.result))
    (sym c.in-Some.ensures.cases.0)
    (subst (λ r. SourcesFault {T = Unit {0}} (map g.S.Source.left (c.in-Some.first.now ∷ c.in-Some.rest.now)) (map g.S.Source.faults (c.in-Some.first.now ∷ c.in-Some.rest.now))
    (map g.S.Source.faults (c.schedule_of.new.source ∷ c.in-Some.rest.now)) (Err r)) (sym c.of_source.ensures)
    (fault_first g.S.Source.left g.S.Source.faults c.in-Some.first.now c.schedule_of.new.source c.in-Some.rest.now c.in-Some.rest.now (Unit {0}) _
    c.in-Err.stop c.in-Err.ensures.fault c.in-Err.ensures.faults))
