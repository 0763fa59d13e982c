-- What a view has to show of its calls, for whoever implements one.
use Rattle.std.proofs.Common.{◌≡◌, ℕ, Bool, true, false, List, [], ◌∷◌, Option, Some, None, Ok, Err, refl, sym, ap, ◌∙◌}
use Rattle.std.specs.Prelude.{slice_set, if◌then◌else◌}
use Rattle.std.proofs.Math.Bool.{false≢true}
use Rattle.spec_words.specs.Takes.{is_among}
use Rattle.spec_file.specs.declared.data.Resource.{Resource}
use Rattle.spec_file.specs.declared.data.Tran.{Tran}
use Rattle.spec_file.specs.Image.{page}
use Rattle.spec_words.specs.Views.{View, Gives, Outcome}
use Rattle.spec_words.specs.Words.{ended, by_holder, look, take, with_taken}
use Rattle.db_locks.specs.declared.plan_pages.PageStop.TheVariants.{Held}
use Rattle.db_locks.specs.Guards.{carried}
use Rattle.db_locks.specs.States.{PlanState}
use Rattle.db_locks.specs.Does.{Stays, Does, carry}
use Rattle.db_locks.proofs.PlanLaws.{stays_same}

pub look_free : (a : PlanState) (r : Resource) (p : ℕ) → a.view.other r ≡ None → Does a a (look r p) (Ok (page a.view.now p))
unfolding look
look_free a r p free = record { exact = λ told. ap (λ o. (by_holder r o (ended (p ∷ []) (Gives (page a.view.now p) a.view))).ending) free; stays = stays_same a; cause = tt }

pub look_held : (a : PlanState) (r : Resource) (p : ℕ) (t : Tran) → a.view.other r ≡ Some t.0 → Does a a (look r p) (Err (Held r t))
unfolding look
look_held a r p t held = record { exact = λ told. ap (λ o. (by_holder r o (ended (p ∷ []) (Gives (page a.view.now p) a.view))).ending) held; stays = stays_same a; cause = held }

abbrev taken_or : Resource → View → Option ℕ → Outcome (Unit {0})
taken_or r view o = by_holder r o (ended [] (Gives tt (with_taken r view)))

pub take_free : (a b : PlanState) (r : Resource) → a.view.other r ≡ None → b.view ≡ with_taken r a.view → Stays a b → Does a b (take r) (Ok tt)
unfolding take
take_free a b r free taken stays = record {
  exact = λ told. ap (λ o. (taken_or r a.view o).ending) free ∙ ap (λ (v : View). Gives tt v) (sym taken);
  stays = stays;
  cause = tt;
}

pub take_held : (a : PlanState) (r : Resource) (t : Tran) → a.view.other r ≡ Some t.0 → Does a a (take r) (Err (Held r t))
unfolding take
take_held a r t held = record { exact = λ told. ap (λ o. (taken_or r a.view o).ending) held; stays = stays_same a; cause = held }

pub page_put : (a b : PlanState) (p : ℕ) (before after : List ℕ) → b.view ≡ record a.view { now = slice_set a.view.now p (carried before after (page a.view.now p)) } → Stays a b
    → Does a b (carry p before after) (Ok tt)
unfolding carry
page_put a b p before after same stays = record { exact = λ told. ap (λ (v : View). Gives tt v) (sym same); stays = stays; cause = tt }

-- a resource that was taken already, and one that wasn't
pub taken_already : (r : Resource) (view : View) → is_among view.taken r ≡ true → view ≡ with_taken r view
taken_already r view there = by_test (is_among view.taken r) there
  where
    by_test : (b : Bool) → b ≡ true → view ≡ (if b then view else record view { taken = r ∷ view.taken })
    by_test true e = refl
    by_test false e = absurd (false≢true e)

pub taken_new : (r : Resource) (view : View) → is_among view.taken r ≡ false → record view { taken = r ∷ view.taken } ≡ with_taken r view
taken_new r view lacks = by_test (is_among view.taken r) lacks
  where
    by_test : (b : Bool) → b ≡ false → record view { taken = r ∷ view.taken } ≡ (if b then view else record view { taken = r ∷ view.taken })
    by_test false e = refl
    by_test true e = absurd (false≢true (sym e))
