use Rattle.std.proofs.Common.{◌≡◌, ◌+◌, ◌<◌, ◌^◌, [], ◌∷◌, ◌++◌, length, map, Some, subst, sym, ap, ◌∙◌, arith}
use Rattle.std.specs.Prelude.{slice_get}
use Rattle.std.proofs.lemmas.List.{length-map, map-append, length_push}
use Rattle.std.proofs.lemmas.List.Elements.{All-push}
use Rattle.spec_run.specs.Entries.{items_of}
use Rattle.spec_run.specs.Turns.{AreTold, told_to}
use Rattle.checkdb_top.specs.Readiness.{AreFew}
use Rattle.checkdb_top.proofs.Running.{told_more, told_each}
use Rattle.checkdb_top.proofs.run.replies_of.Goals as goal

pub loop-k-preserved : goal.loop-k-preserved
loop-k-preserved c =
    let run = c.args.core.now.run in
    let log = items_of c.args.core.now.entries in
    let items = c.in_ok-push.ensures.items in
    let grown : map (λ r. r.now) c.push.new.self.items ≡ map (λ r. r.now) c.loop-k.all.items ++ c.replies.result.now ∷ [] =
    ap (map (λ r. r.now)) items ∙ map-append (λ r. r.now) c.loop-k.all.items (c.replies.result ∷ []) in
    let many : length (map (λ r. r.now) c.loop-k.all.items) ≡ c.loop-k.k = length-map c.loop-k.all.items (λ r. r.now) ∙ c.loop-k.invariant.0 in
    let told = told_more (λ k session. AreTold run.geometry (told_to run (k + 1) log) session) (map (λ r. r.now) c.loop-k.all.items) c.replies.result.now c.loop-k.k
    many c.loop-k.invariant.1 c.replies.ensures.told in
    let below : length c.replies.result.now < 2 ^ 32 = omega (arith, c.replies.ensures.few) in
    let few = All-push (λ session. length session < 2 ^ 32) (map (λ r. r.now) c.loop-k.all.items) c.replies.result.now c.loop-k.invariant.2 below in (
      ap length items ∙ length_push _ _ ∙ ap (λ n. n + 1) c.loop-k.invariant.0,
      (λ k session at. told k session (subst (λ l. slice_get l k ≡ Some session) grown at)),
      subst AreFew (sym grown) few,
    )

pub returns-clause-told : goal.returns-clause-told
returns-clause-told c =
    let run = c.args.core.now.run in
    let log = items_of c.args.core.now.entries in
    let all = map (λ r. r.now) c.loop-k.all.items in
    let many : length all ≡ length run.scripts =
    omega (arith, length-map c.loop-k.all.items (λ r. r.now), c.loop-k.invariant.0, c.loop-k-test.false, c.loop-k.auto.k-end, c.sessions-k-end.ensures) in
    λ s mine. told_each (λ k session. AreTold run.geometry (told_to run k log) session) all (length run.scripts) many c.loop-k.invariant.1 s mine.0 mine.1
