use Rattle.std.proofs.Common.{◌≡◌, ◌∙◌, Some, ap, reverse, slice_get, subst}
use Rattle.db_core.proofs.Begun.{forms_seen, legal_seen, log_seen}
use Rattle.db_core.proofs.db.Core.items.Goals as goal

pub returns-clause-items : goal.returns-clause-items
returns-clause-items c = ap reverse c.deref.ensures.value ∙ log_seen c.self.inside.state c.args.self.now c.self.view_is

pub returns-clause-legal : goal.returns-clause-legal
returns-clause-legal c = legal_seen c.self.inside.state c.args.self.now c.self.view_is c.self.invariant

pub returns-clause-forms : goal.returns-clause-forms
returns-clause-forms c k x here =
    forms_seen c.self.inside.state c.self.invariant k x (subst (λ items. slice_get items k ≡ Some x) c.deref.ensures.value here)
