use Rattle.std.proofs.Common.{sym, ap, ◌∙◌}
use Rattle.spec_file.specs.declared.geometry.Geometry.{Geometry}
use Rattle.spec_file.specs.Roles.{is_ordinary}
use Rattle.db_locks.proofs.PlanLaws.{stays_same}
use Rattle.db_heap.proofs.RoomSteps.{full_never, full_unseen, full_told}
use Rattle.db_heap.proofs.room.is_full.Goals as goal

pub returns-then-not-is_ordinary-clause-does : goal.returns-then-not-is_ordinary-clause-does
returns-then-not-is_ordinary-clause-does g c = λ looked before.
    full_never (g.P.PlanPages.state c.args.v.now) looked c.args.p.0 (ap (λ (k : Geometry). is_ordinary k c.args.p.0) (sym c.requires.geometry) ∙ sym c.is_ordinary.ensures ∙ c.if-not-is_ordinary.true)

pub returns-in_err-byte-clause-does : goal.returns-in_err-byte-clause-does
returns-in_err-byte-clause-does g c = λ looked before. full_unseen looked c.args.p.0 _ before c.in_err-byte.ensures.does c.from_residual.ensures.1

pub returns-clause-does : goal.returns-clause-does
returns-clause-does g c = λ looked before.
    full_told looked c.args.p.0 _ (ap (λ (k : Geometry). is_ordinary k c.args.p.0) (sym c.requires.geometry) ∙ sym c.is_ordinary.ensures ∙ c.if-not-is_ordinary.false) before c.in_ok-byte.ensures.does

pub returns-then-not-is_ordinary-clause-stays : goal.returns-then-not-is_ordinary-clause-stays
returns-then-not-is_ordinary-clause-stays g c = stays_same (g.P.PlanPages.state c.args.v.now)

pub returns-in_err-byte-clause-stays : goal.returns-in_err-byte-clause-stays
returns-in_err-byte-clause-stays g c = c.in_err-byte.ensures.does.stays

pub returns-clause-stays : goal.returns-clause-stays
returns-clause-stays g c = c.in_ok-byte.ensures.does.stays
