-- A statement that was carried out on a view is planned as its words end.
use Rattle.std.proofs.Common.{◌≡◌, [], Result, Ok, Err, inl, inr, refl, sym, ap, ◌∙◌, subst, arith}
use Rattle.spec_script.specs.declared.reply.Refusal.{Refusal}
use Rattle.spec_script.specs.declared.reply.Reply.{Reply}
use Rattle.spec_words.specs.Takes.{takes_at, changes_at}
use Rattle.spec_words.specs.Views.{View, End, Gives}
use Rattle.spec_words.specs.Views.{Plan as Words}
use Rattle.law_net.specs.GoodViews.{IfGives, Leads}
use Rattle.law_net.proofs.InsertTakes.{HasTaken}
use Rattle.db_locks.specs.States.{PlanState}
use Rattle.db_locks.specs.Does.{Stop, DoesAs}
use Rattle.db_plan.specs.declared.planned.Plan.{Plan}
use Rattle.db_plan.specs.declared.planned.Plan.TheVariants as plan
use Rattle.db_plan.specs.declared.planned.PlanAt.{PlanAt}
use Rattle.db_plan.specs.Plans.{IsEndAs, EndsAbove, Passed, Short, HasCauses, IsPlannedAs, IsLimited, WritesBy}

-- it gave something, and this holds of the view then
given : (K : Reply → View → Type 0) (reply : Reply) (view : View) (e : End Reply) → e ≡ Gives reply view → IfGives K e → K reply view
given K reply view e is h = subst (IfGives K) is h

-- one that leaves the view only reads
pub read : {E : Type 0} (meaning : E → Stop) (at : PlanAt) (old new : PlanState) (words : Words Reply) (reply : Reply) → Leads words old.view (λ given after. after ≡ old.view) → old.view.taken ≡ [] →
    DoesAs meaning [] old new words (Ok reply) → IsPlannedAs at old new words (Ok (plan.Read reply))
read meaning at old new words reply leaves none does = record {
  exact = λ told.
      let is = does.exact told in
      subst (λ e. IsEndAs at e (plan.Read reply)) (sym is) (refl, ap (λ (v : View). v.taken) (given (λ r after. after ≡ old.view) reply new.view (words old.view).ending is leaves) ∙ none);
  stays = does.stays;
  causes = tt;
}

limited_end : (at : PlanAt) (reply : Reply) (view : View) (p : Plan) → HasTaken view → IsLimited at reply (takes_at view) (changes_at view) (Ok p) → IsEndAs at (Gives reply view) p
limited_end at reply view (plan.Read told) some h = absurd h
limited_end at reply view (plan.Written told takes changes) some h = (h.0, some, h.1, h.2, h.3)

-- one that takes something writes
pub wrote : {E : Type 0} (meaning : E → Stop) (at : PlanAt) (old new : PlanState) (words : Words Reply) (reply : Reply) (result : Result Plan Refusal) → Leads words old.view (λ given after. HasTaken after) →
    DoesAs meaning [] old new words (Ok reply) → WritesBy at new reply result → IsPlannedAs at old new words result
wrote meaning at old new words reply (Ok p) takes does writes = record {
  exact = λ told.
      let is = does.exact told in
      subst (λ e. IsEndAs at e p) (sym is)
      (limited_end at reply new.view p (given (λ r after. HasTaken after) reply new.view (words old.view).ending is takes) (writes (does.stays.told ∙ told)));
  stays = does.stays;
  causes = tt;
}
wrote meaning at old new words reply (Err refusal) takes does (inl full) = record {
  exact = λ told.
      let is = does.exact told in
      Passed (subst (EndsAbove at) (sym is) (given (λ r after. HasTaken after) reply new.view (words old.view).ending is takes, full.1 (does.stays.told ∙ told))) full.0;
  stays = does.stays;
  causes = subst (HasCauses old new) (sym full.0) (record { fault = λ e. absurd (omega (arith, e)); held = λ e. absurd (omega (arith, e)) });
}
wrote meaning at old new words reply (Err refusal) takes does (inr short) = record {
  exact = λ told. Short short;
  stays = does.stays;
  causes = subst (HasCauses old new) (sym short) (record { fault = λ e. absurd (omega (arith, e)); held = λ e. absurd (omega (arith, e)) });
}
