use Rattle.std.proofs.Common.{◌≡◌, ◌++◌, ◌∷◌, [], ◌+◌, ◌<◌, ◌≤◌, length, map, get_or, slice_set, Err, All, subst, sym, ap, ◌∙◌, arith}
use Rattle.std.specs.Io.KnownBytes.{IsAtEnd}
use Rattle.std.proofs.lemmas.List.{take_all, length-map, map-append}
use Rattle.run_file.proofs.ScriptsRead.{AreReadTo, read_next, fault_here, fell_next}
use Rattle.run_file.proofs.sources.read_scripts.Goals as goal

pub returns-in_err-push-in-Ok-clause-faults : goal.returns-in_err-push-in-Ok-clause-faults
returns-in_err-push-in-Ok-clause-faults g c =
    let below : c.loop-k.k < length c.loop-k.sources = omega arith in
    fell_next g.S.Source.left g.S.Source.faults c.args.sources.now c.loop-k.sources c.loop-k.k (get_or c.loop-k.sources c.loop-k.k c.index-sources-k.result) c.script_at.new.source
    below (ap (λ d. get_or c.loop-k.sources c.loop-k.k d) (sym c.index-sources-k.is)) c.in-Ok.ensures.faults.later c.loop-k.invariant.fell

pub returns-in-Err-clause-fault : goal.returns-in-Err-clause-fault
returns-in-Err-clause-fault g c =
    let below : c.loop-k.k < length c.loop-k.sources = omega arith in
    fault_here g.S.Source.left g.S.Source.faults c.args.sources.now c.loop-k.sources c.loop-k.k (get_or c.loop-k.sources c.loop-k.k c.index-sources-k.result) c.script_at.new.source
    below (ap (λ d. get_or c.loop-k.sources c.loop-k.k d) (sym c.index-sources-k.is)) (map (λ script. script.items) c.loop-k.scripts.items) (Err c.in-Err.stop) c.loop-k.invariant c.in-Err.ensures.fault c.in-Err.ensures.faults

pub returns-in-Err-clause-faults : goal.returns-in-Err-clause-faults
returns-in-Err-clause-faults g c =
    let below : c.loop-k.k < length c.loop-k.sources = omega arith in
    fell_next g.S.Source.left g.S.Source.faults c.args.sources.now c.loop-k.sources c.loop-k.k (get_or c.loop-k.sources c.loop-k.k c.index-sources-k.result) c.script_at.new.source
    below (ap (λ d. get_or c.loop-k.sources c.loop-k.k d) (sym c.index-sources-k.is)) c.in-Err.ensures.faults.later c.loop-k.invariant.fell

pub loop-k-preserved : goal.loop-k-preserved
loop-k-preserved g c =
    let below : c.loop-k.k < length c.loop-k.sources = omega arith in
    let items : c.push.new.self.items ≡ c.loop-k.scripts.items ++ c.in-Ok.script ∷ [] = c.in_ok-push-in-Ok.ensures.items in
    let grown : map (λ script. script.items) c.push.new.self.items
    ≡ map (λ script. script.items) c.loop-k.scripts.items ++ c.in-Ok.script.items ∷ [] =
    ap (map (λ script. script.items)) items ∙ map-append (λ script. script.items) c.loop-k.scripts.items (c.in-Ok.script ∷ []) in
    subst (λ l. AreReadTo g.S.Source.left g.S.Source.faults c.args.sources.now (slice_set c.loop-k.sources c.loop-k.k c.script_at.new.source) l (c.loop-k.k + 1)) (sym grown)
    (read_next g.S.Source.left g.S.Source.faults c.args.sources.now c.loop-k.sources c.loop-k.k (get_or c.loop-k.sources c.loop-k.k c.index-sources-k.result) c.script_at.new.source
    below (ap (λ d. get_or c.loop-k.sources c.loop-k.k d) (sym c.index-sources-k.is)) (map (λ script. script.items) c.loop-k.scripts.items) c.in-Ok.script.items c.loop-k.invariant
    c.in-Ok.ensures.script c.in-Ok.ensures.end c.in-Ok.ensures.faults.later c.in-Ok.ensures.short c.in-Ok.ensures.proper)

pub returns-clause-ends : goal.returns-clause-ends
returns-clause-ends g c =
    let all : length (map g.S.Source.left c.loop-k.sources) ≤ c.loop-k.k =
    omega (arith, length-map c.loop-k.sources g.S.Source.left) in
    subst (All IsAtEnd) (take_all c.loop-k.k (map g.S.Source.left c.loop-k.sources) all) c.loop-k.invariant.ends
