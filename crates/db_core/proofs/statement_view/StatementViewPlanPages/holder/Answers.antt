use Rattle.std.proofs.Common.{◌≡◌, ℕ, List, Option, Some, None, refl, sym, ap, ◌∙◌}
use Rattle.std.specs.Prelude.{find, option_map}
use Rattle.spec_file.specs.declared.data.Tran.{Tran}
use Rattle.db_core.specs.declared.session.Session.{Session}
use Rattle.db_core.specs.Views.{tran_of_session, holds_beside}
use Rattle.db_core.specs.ViewLaws.{holder_by}
use Rattle.db_core.proofs.statement_view.StatementViewPlanPages.holder.Goals as goal

-- the number of the session's transaction
number : (o : Option Session) → option_map (λ (t : Tran). t.0) (option_map (λ (x : Session). record { 0 = x.tran }) o) ≡ option_map (λ (x : Session). x.tran) o
number None = refl
number (Some x) = refl

pub returns : goal.returns
returns c =
    let view = c.args.self.now in
    let st = view.state.now in
    let found = λ (sessions : List Session) (t : ℕ). find (holds_beside c.args.r t) sessions in
    ap (option_map (λ (t : Tran). t.0)) c.holder_among.ensures
    ∙ number (found c.deref.result.now c.session.result.now.tran)
    ∙ ap (λ xs. option_map (λ (x : Session). x.tran) (found xs c.session.result.now.tran)) c.deref.ensures.value
    ∙ ap (λ o. option_map (λ (x : Session). x.tran) (found st.sessions.items (tran_of_session o))) (sym c.session.ensures)
    ∙ holder_by st view.at c.args.r view.good
