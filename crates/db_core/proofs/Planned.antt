-- What was planned on the session's view may begin.
use Rattle.std.proofs.Common.{◌≡◌, ℕ, ◌+◌, eqb, List, [], ◌∷◌, length, Some, Result, Ok, Err, true, false, inl, inr, refl, sym, ap, ◌∙◌, subst}
use Rattle.std.specs.Prelude.{if◌then◌else◌, slice_get, IfErr}
use Rattle.std.proofs.lemmas.Bool.{cond_both, ne_eqb}
use Rattle.spec_file.specs.declared.data.Resource.{Resource}
use Rattle.spec_log.specs.declared.item.Record.{Record}
use Rattle.spec_log.specs.Limits.{changes_of, all_changes, all_bytes, passes_limit}
use Rattle.spec_script.specs.declared.reply.Refusal.{Refusal}
use Rattle.spec_script.specs.declared.reply.Reply.{Reply}
use Rattle.spec_script.specs.declared.statement.Statement.{Statement}
use Rattle.spec_plan.specs.declared.plan.Planned.{Planned}
use Rattle.spec_plan.specs.Planned.{planned_size}
use Rattle.spec_plan.specs.Refusals.{log_full}
use Rattle.spec_statements.specs.Statements.{Plans, kind_of}
use Rattle.spec_words.specs.Takes.{changes_at, takes_at}
use Rattle.spec_words.specs.Views.{View, End, Gives, Stops, Outcome}
use Rattle.spec_words.specs.Views.{Plan as Words}
use Rattle.spec_run.specs.Shapes.{Reading, Writing, tran_to_write}
use Rattle.spec_run.specs.Begun.{Becoming, shape_of, view_at, with_memory, refused, by_changes, by_taken, by_end, by_kind}
use Rattle.law_statements.specs.Statements.{IsNumbered, IfStops}
use Rattle.pg_base.specs.Faults.{Rose}
use Rattle.db_locks.specs.States.{PlanState}
use Rattle.db_plan.specs.declared.planned.Plan.{Plan}
use Rattle.db_plan.specs.declared.planned.Plan.TheVariants as plan
use Rattle.db_plan.specs.declared.planned.PlanAt.{PlanAt}
use Rattle.db_plan.specs.Limits.{passes}
use Rattle.db_plan.specs.Plans.{IsEndAs, EndsAbove, MayRefuse, Stopped, Passed, Failed, Short, MayPlan, HasCauses, IsPlannedAs}
use Rattle.db_plan.specs.Parts.{StopsNumbered}
use Rattle.db_core.specs.declared.session.Doing.TheVariants.{Idle}
use Rattle.db_core.specs.declared.session.Session.{Session}
use Rattle.db_core.specs.declared.state.State.{State}
use Rattle.db_core.specs.States.{whole_log}
use Rattle.db_core.specs.Store.{run_is, log_of, IsGood}
use Rattle.db_core.specs.Plans.{HasSums, IsByPlan, IsWithinIfPlanned, IsPlanned}
use Rattle.db_core.proofs.PlanSteps.{used_is, passes_is}

-- the sums of a log
record Sums (g : List Record) (u : ℕ) (at : PlanAt) : Type 0 where
  pub used : changes_of u g ≡ at.used_changes
  pub all_is : at.announced_changes ≡ all_changes g
  pub size_is : at.announced_bytes ≡ all_bytes g

abbrev NoFault : Result Plan Refusal → Type 0
NoFault (Ok p) = Unit {0}
NoFault (Err refusal) = refusal.number ≡ 823 → ⊥

-- a statement that has taken something changes the file, unless a limit is passed
by_some : (g : List Record) (t : ℕ) (reply : Reply) (view : View) (taken : List Resource) → (taken ≡ [] → ⊥) → by_taken g t reply view taken ≡ by_changes g t reply (takes_at view) (changes_at view)
by_some g t reply view [] some = absurd (some refl)
by_some g t reply view (r ∷ taken) some = refl

-- a planned statement may want memory
changes_want : (g : List Record) (t : ℕ) (reply : Reply) (takes : List Resource) (changes : List Planned) → (by_changes g t reply takes changes).may_want ≡ true
changes_want g t reply takes changes =
    let u = tran_to_write g t in
    cond_both (passes_limit g u (length changes) (planned_size changes)) (refused t log_full) (with_memory (Writing u takes changes (eqb t 0)) reply) (λ b. b.may_want ≡ true)
    (λ e. refl) (λ e. refl)

pub end_wants : (g : List Record) (t : ℕ) (end : End Reply) → (by_end g t end).may_want ≡ true
end_wants g t (Stops refusal) = refl
end_wants g t (Gives reply view) = by_takes view.taken
  where
    by_takes : (taken : List Resource) → (by_taken g t reply view taken).may_want ≡ true
    by_takes [] = refl
    by_takes (r ∷ taken) = changes_want g t reply (takes_at view) (changes_at view)

-- by the limits of the log, or by the sums
sums_pass : (g : List Record) (u : ℕ) (at : PlanAt) (changes : List Planned) → Sums g u at → passes_limit g u (length changes) (planned_size changes) ≡ passes at changes
sums_pass g u at changes sums = passes_is g u at.used_changes at.announced_changes at.announced_bytes (length changes) (planned_size changes) sums.used sums.all_is sums.size_is

read_by : (g : List Record) (t : ℕ) (at : PlanAt) (end : End Reply) (reply : Reply) → IsEndAs at end (plan.Read reply) → by_end g t end ≡ with_memory (Reading t) reply
read_by g t at (Stops refusal) reply is = absurd is
read_by g t at (Gives told view) reply is = ap (by_taken g t told view) is.1 ∙ ap (with_memory (Reading t)) (sym is.0)

written_by : (g : List Record) (t : ℕ) (at : PlanAt) (end : End Reply) (reply : Reply) (takes : List Resource) (changes : _) → Sums g (tran_to_write g t) at →
    IsEndAs at end (plan.Written reply takes changes) → by_end g t end ≡ with_memory (Writing (tran_to_write g t) takes changes.items (eqb t 0)) reply
written_by g t at (Stops refusal) reply takes changes sums is = absurd is
written_by g t at (Gives told view) reply takes changes sums is =
    let u = tran_to_write g t in
    by_some g t told view view.taken is.1
    ∙ ap (λ (r : Reply). by_changes g t r (takes_at view) (changes_at view)) (sym is.0)
    ∙ ap (λ (ts : List Resource). by_changes g t reply ts (changes_at view)) (sym is.2)
    ∙ ap (by_changes g t reply takes) (sym is.3)
    ∙ ap (λ c. if c then refused t log_full else with_memory (Writing u takes changes.items (eqb t 0)) reply) (sums_pass g u at changes.items sums ∙ is.4)

above_by : (g : List Record) (t : ℕ) (at : PlanAt) (end : End Reply) → Sums g (tran_to_write g t) at → EndsAbove at end → by_end g t end ≡ refused t log_full
above_by g t at (Stops refusal) sums is = absurd is
above_by g t at (Gives told view) sums is =
    let u = tran_to_write g t in
    by_some g t told view view.taken is.0
    ∙ ap (λ c. if c then refused t log_full else with_memory (Writing u (takes_at view) (changes_at view) (eqb t 0)) told) (sums_pass g u at (changes_at view) sums ∙ is.1)

stopped_number : (end : End Reply) (refusal : Refusal) → end ≡ Stops refusal → IfStops IsNumbered end → eqb refusal.number 701 ≡ false
stopped_number end refusal is numbered = ne_eqb refusal.number 701 (subst (IfStops IsNumbered) is numbered).1

refused_by : (g : List Record) (t : ℕ) (at : PlanAt) (outcome : Outcome Reply) (refusal : Refusal) → Sums g (tran_to_write g t) at → IfStops IsNumbered outcome.ending → (refusal.number ≡ 823 → ⊥) →
    MayRefuse at outcome refusal → IsByPlan (by_end g t outcome.ending) g t (Err refusal)
refused_by g t at outcome refusal sums numbered sound (Stopped is) = inl (ap (by_end g t) is, stopped_number outcome.ending refusal is numbered)
refused_by g t at outcome refusal sums numbered sound (Passed above is) = inl (above_by g t at outcome.ending sums above ∙ ap (refused t) (sym is), ap (λ (q : Refusal). eqb q.number 701) is)
refused_by g t at outcome refusal sums numbered sound (Failed p reached is) = absurd (sound (ap (λ (q : Refusal). q.number) is))
refused_by g t at outcome refusal sums numbered sound (Short is) = inr (end_wants g t outcome.ending, is)

planned_by : (g : List Record) (t : ℕ) (at : PlanAt) (outcome : Outcome Reply) (result : Result Plan Refusal) → Sums g (tran_to_write g t) at → IfStops IsNumbered outcome.ending → NoFault result →
    MayPlan at outcome result → IsByPlan (by_end g t outcome.ending) g t result
planned_by g t at outcome (Ok (plan.Read reply)) sums numbered sound may = read_by g t at outcome.ending reply may
planned_by g t at outcome (Ok (plan.Written reply takes changes)) sums numbered sound may = written_by g t at outcome.ending reply takes changes sums may
planned_by g t at outcome (Err refusal) sums numbered sound may = refused_by g t at outcome refusal sums numbered sound may

written_within : (at : PlanAt) (end : End Reply) (reply : Reply) (takes : List Resource) (changes : _) → IsEndAs at end (plan.Written reply takes changes) → passes at changes.items ≡ false
written_within at (Stops refusal) reply takes changes is = absurd is
written_within at (Gives told view) reply takes changes is = is.4

within_by : (at : PlanAt) (outcome : Outcome Reply) (result : Result Plan Refusal) → MayPlan at outcome result → IsWithinIfPlanned at.used_changes at.announced_changes at.announced_bytes result
within_by at outcome (Ok (plan.Read reply)) may = tt
within_by at outcome (Ok (plan.Written reply takes changes)) may = written_within at outcome.ending reply takes changes may
within_by at outcome (Err refusal) may = tt

no_fault : (old new : PlanState) (result : Result Plan Refusal) → (Rose old.faults new.faults → ⊥) → IfErr result (HasCauses old new) → NoFault result
no_fault old new (Ok p) still causes = tt
no_fault old new (Err refusal) still causes = λ e. still (causes.fault e)

-- a statement that was planned on the session's view, whose reading doesn't fail, may begin
pub planned : (st : State) (k : ℕ) (x : Session) (s : Statement) (words : Words Reply) (at : PlanAt) (old new : PlanState) (result : Result Plan Refusal) → IsGood st → slice_get st.sessions.items k ≡ Some x →
    x.doing ≡ Idle → slice_get x.script.items (length x.replies.items) ≡ Some s → kind_of (shape_of (run_is st)) s ≡ Plans words → StopsNumbered words → HasSums st x at →
    old.view ≡ view_at (run_is st) (log_of st) x.tran → old.told ≡ true → (Rose old.faults new.faults → ⊥) → IsPlannedAs at old new words result → IsPlanned st k x result
planned st k x s words at old new result good here idle next kind numbered sums view told still is =
    let run = run_is st in
    let g = whole_log run (log_of st) in
    let outcome = words (view_at run (log_of st) x.tran) in
    let may = subst (λ (v : View). MayPlan at (words v) result) view (is.exact told) in
    record {
      idle = idle;
      statement = s;
      next = next;
      by_plan = subst (λ (b : Becoming). IsByPlan b g x.tran result) (sym (ap (by_kind run (log_of st) x.tran) kind))
          (planned_by g x.tran at outcome result (record {
            used = used_is run (log_of st) (k + 1) x (good.state.each k x here) ∙ sym sums.used;
            all_is = sums.all_is ∙ good.state.all_is;
            size_is = sums.size_is ∙ good.state.size_is;
          }) (numbered (view_at run (log_of st) x.tran)) (no_fault old new result still is.causes) may);
      within = subst (λ u. IsWithinIfPlanned u st.all st.size result) sums.used (subst (λ a. IsWithinIfPlanned at.used_changes a st.size result) sums.all_is
          (subst (λ z. IsWithinIfPlanned at.used_changes at.announced_changes z result) sums.size_is (within_by at outcome result may)));
    }
