use Rattle.std.proofs.Common.{sym, ◌∙◌}
use Rattle.spec_words.specs.Words.{give}
use Rattle.db_locks.proofs.PlanLaws.{does_give}
use Rattle.db_alloc.proofs.MapReads.{behind_exit}
use Rattle.db_alloc.proofs.marked.can_be_had.Goals as goal

pub returns-then-not-is_marked-clause-does : goal.returns-then-not-is_marked-clause-does
returns-then-not-is_marked-clause-does g c = λ looked before. does_give looked (g.P.PlanPages.state c.args.v.now) tt

pub returns-in_err-reread_pfs-clause-does : goal.returns-in_err-reread_pfs-clause-does
returns-in_err-reread_pfs-clause-does g c = λ looked before.
    behind_exit (give tt) (λ had. tt) _ (c.in_err-reread_pfs.ensures.does looked (λ told. before told (sym c.is_marked.ensures ∙ c.if-not-is_marked.false))) c.from_residual.ensures.1

pub returns-clause-does : goal.returns-clause-does
returns-clause-does g c = λ looked before. c.in_ok-reread_pfs.ensures.does looked (λ told. before told (sym c.is_marked.ensures ∙ c.if-not-is_marked.false))
