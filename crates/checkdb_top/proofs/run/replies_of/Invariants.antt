use Rattle.std.proofs.Common.{◌≡◌, ℕ, ◌+◌, length, map, List, Some}
use Rattle.std.specs.Prelude.{slice_get}
use Rattle.spec_script.specs.declared.reply.Reply.{Reply}
use Rattle.spec_run.specs.Entries.{items_of}
use Rattle.spec_run.specs.Turns.{AreTold, told_to}
use Rattle.checkdb_top.specs.Readiness.{AreFew}
use Rattle.checkdb_top.proofs.run.replies_of.Given as goal

abbrev pub invariant-loop-k : goal.invariant-loop-k
invariant-loop-k l =
    (length l.all.items ≡ l.k)
    × ((k : ℕ) (session : List Reply) → slice_get (map (λ r. r.now) l.all.items) k ≡ Some session
    → AreTold l.core.run.geometry (told_to l.core.run (k + 1) (items_of l.core.entries)) session)
    × AreFew (map (λ r. r.now) l.all.items)
