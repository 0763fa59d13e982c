-- The file and the sessions of a good state show a statement what its transaction sees and who holds what.
use Rattle.spec_run.specs.Openings.{or_small, geometry_said}
use Rattle.spec_file.specs.FileForm.{geometry_of}
use Rattle.spec_file.specs.Image.{page}
use Rattle.law_run.proofs.FirstPage.{final_first}
use Rattle.law_undo.proofs.Views.{sound_forms}
use Rattle.std.proofs.Common.{◌≡◌, ℕ, zero, suc, ◌+◌, ◌-◌, ◌<◌, true, false, eqb, not, ◌&&◌, List, [], ◌∷◌, length, Option, Some, None, ◌⊎◌, inl, inr, refl, sym, ap, ◌∙◌, subst, arith, Contains}
use Rattle.std.specs.Prelude.{slice_get, find, option_map}
use Rattle.std.specs.Coded.{Coded-set, coded_ℕ, coded_bool, coded_option}
use Rattle.std.proofs.Math.Logic.{∥∥₁_elim}
use Rattle.std.specs.List.{list_any}
use Rattle.std.proofs.lemmas.Bool.{cases_Bool, eqb-true, eqb-false, not-true}
use Rattle.spec_file.specs.declared.data.Resource.{Resource}
use Rattle.spec_log.specs.declared.item.Record.{Record}
use Rattle.spec_log.specs.Items.{is_same}
use Rattle.spec_log.specs.Log.{is_unfinished, has_ended, holds}
use Rattle.spec_run.specs.Begun.{Setting, view_at}
use Rattle.spec_run.specs.Progress.{progress_of}
use Rattle.law_undo.specs.Laws.{IsOngoing}
use Rattle.law_undo.proofs.Holders.{unfinished_parts}
use Rattle.law_undo.proofs.Views.{sound_rules}
use Rattle.law_undo.proofs.Shapes.{final_shape}
use Rattle.law_run.proofs.Doing.{Owns}
use Rattle.law_undo.proofs.Law.{zero_open}
use Rattle.law_run.proofs.Legal.{IsRight, legal_right, doing_opens}
use Rattle.law_run.proofs.Ongoing.{unfinished_is_open}
use Rattle.law_pages.specs.Laws.{ListsHolders}
use Rattle.law_pages.proofs.Sessions.{holder_is_session, first_is_among}
use Rattle.spec_file.specs.Places.{HasShape}
use Rattle.db_core.specs.declared.session.Session.{Session}
use Rattle.db_core.specs.declared.state.State.{State}
use Rattle.db_core.specs.States.{whole_log, IsSession}
use Rattle.db_core.specs.Store.{run_is, log_of, IsGood}
use Rattle.db_core.specs.Views.{tran_of_session, tran_at, has_held, holds_beside}

-- members of a list, by their place
pub contains_get : {A : Type 0} (xs : List A) (x : A) → Contains xs x → (k : ℕ) × (slice_get xs k ≡ Some x)
contains_get [] x c = absurd (let lt = c.1 in omega (arith, lt))
contains_get (y ∷ xs) x (zero, lt, same) = (zero, ap Some same)
contains_get (y ∷ xs) x (suc k, lt, same) = let r = contains_get xs x (k, omega (arith, lt), same) in (suc r.0, r.1)

pub get_contains : {A : Type 0} (xs : List A) (k : ℕ) (x : A) → slice_get xs k ≡ Some x → Contains xs x
get_contains [] k x h = absurd (cc)
get_contains (y ∷ xs) zero x h = let e : y ≡ x = cc in (zero, omega arith, e)
get_contains (y ∷ xs) (suc k) x h = let r = get_contains xs k x h in let lt = r.1 in (suc r.0, omega (arith, lt), r.2)

pub get_within : {A : Type 0} (xs : List A) (k : ℕ) → k < length xs → (x : A) × (slice_get xs k ≡ Some x)
get_within [] k lt = absurd (omega (arith, lt))
get_within (x ∷ xs) zero lt = (x, refl)
get_within (x ∷ xs) (suc k) lt = get_within xs k (omega (arith, lt))

pub right_of : (st : State) → IsGood st → IsRight (run_is st) (log_of st)
right_of st good = legal_right (run_is st) (log_of st) good.state.start good.state.legal

-- the session's transaction is none, or unfinished and of this run
pub tran_opens : (st : State) (k : ℕ) (x : Session) → IsGood st → slice_get st.sessions.items k ≡ Some x →
    (x.tran ≡ 0) ⊎ Owns (run_is st) (log_of st) (k + 1) x.tran
tran_opens st k x good at =
    subst (λ t. (t ≡ 0) ⊎ Owns (run_is st) (log_of st) (k + 1) t) (good.state.each k x at).tran_is
    (doing_opens (run_is st) (log_of st) (k + 1) (progress_of (run_is st) (k + 1) (log_of st)) ((right_of st good).doing (k + 1)))

ongoing_of : (st : State) (o : Option Session) → IsGood st → ((x : Session) → o ≡ Some x → (x.tran ≡ 0) ⊎ ((k : ℕ) × Owns (run_is st) (log_of st) k x.tran)) →
    IsOngoing (run_is st).opened (log_of st) (tran_of_session o)
ongoing_of st o good opens = by_session o opens
  where
    none : IsOngoing (run_is st).opened (log_of st) 0
    none = (
      refl,
      zero_open (run_is st).geometry (length (run_is st).image) (whole_log (run_is st) (log_of st))
          (sound_rules (run_is st).geometry (length (run_is st).image) (run_is st).opened (run_is st).image (log_of st) (right_of st good).sound),
    )

    by_session : (o : Option Session) → ((x : Session) → o ≡ Some x → (x.tran ≡ 0) ⊎ ((k : ℕ) × Owns (run_is st) (log_of st) k x.tran)) →
        IsOngoing (run_is st).opened (log_of st) (tran_of_session o)
    by_session None opens = none
    by_session (Some x) opens = elim (opens x refl) [
      | inl e ↦ subst (IsOngoing (run_is st).opened (log_of st)) (sym e) none
      | inr p ↦ (p.1.is_new, not-true (has_ended (whole_log (run_is st) (log_of st)) x.tran) (unfinished_parts (whole_log (run_is st) (log_of st)) x.tran p.1.unfinished).not_ended)
    ]

pub tran_ongoing : (st : State) (at : ℕ) → IsGood st → IsOngoing (run_is st).opened (log_of st) (tran_at st.sessions.items at)
tran_ongoing st at good =
    ongoing_of st (slice_get st.sessions.items at) good (λ x e. elim (tran_opens st at x good e) [ inl none ↦ inl none | inr o ↦ inr (at + 1, o) ])

pub good_size : (st : State) → IsGood st → HasShape (run_is st).geometry (length st.frames)
good_size st good =
    let count : length st.base.value ≡ length st.frames =
    sym (ap length good.state.pages_are ∙ (final_shape (run_is st).opened (log_of st) (run_is st).image).pages) in
    subst (HasShape (run_is st).geometry) count good.state.start.shape

-- page 0 stands as it was found, and so says the run's geometry
pub good_first : (st : State) → IsGood st → page st.frames 0 ≡ page (run_is st).image 0
good_first st good =
    let run = run_is st in
    let sound = (right_of st good).sound in
    ap (λ image. page image 0) good.state.pages_are
    ∙ final_first run.geometry run.opened (log_of st) run.image (sound_forms run.geometry (length run.image) run.opened run.image (log_of st) sound)
    (sound_rules run.geometry (length run.image) run.opened run.image (log_of st) sound)

pub good_geometry : (st : State) → IsGood st → geometry_said st.frames ≡ (run_is st).geometry
good_geometry st good = ap (λ bytes. or_small (geometry_of bytes)) (good_first st good)

-- what a session's transaction holds
none_held : (x : Session) (r : Resource) → eqb x.tran 0 ≡ true → has_held x r ≡ false
none_held x r e = ap (λ b. not b && list_any (is_same r) x.held.items) e

none_holds : (log : List Record) (t : ℕ) (r : Resource) → eqb t 0 ≡ true → holds log t r ≡ false
none_holds log t r e = ap (λ u. holds log u r) (eqb-true t 0 e)

pub held_is_holds : (run : Setting) (log : List Record) (s : ℕ) (x : Session) (r : Resource) → IsSession run log s x → has_held x r ≡ holds (whole_log run log) x.tran r
held_is_holds run log s x r mine = elim (cases_Bool (eqb x.tran 0)) [
  | inl e ↦ none_held x r e ∙ sym (none_holds (whole_log run log) x.tran r e)
  | inr e ↦ elim mine.opens [
    | inl none ↦ absurd (eqb-false x.tran 0 e none)
    | inr o ↦ ap (λ b. not b && list_any (is_same r) x.held.items) e ∙ sym (o.held_is r)
  ]
]

-- each unfinished transaction is that of a session
pub session_with : (st : State) (u : ℕ) → IsGood st → is_unfinished (whole_log (run_is st) (log_of st)) u ≡ true →
    (k : ℕ) × (x : Session) × (slice_get st.sessions.items k ≡ Some x) × (x.tran ≡ u)
session_with st u good h =
    let run = run_is st in
    let found = unfinished_is_open run (log_of st) good.state.start good.state.legal refl u h in
    let above = found.1 in
    let within = found.2 in
    let few = good.state.few in
    let k = found.0 - 1 in
    let there = get_within st.sessions.items k (omega (arith, above, within, few)) in
    let same : k + 1 ≡ found.0 = omega (arith, above) in
    (k, there.0, there.1, sym (good.state.each k there.0 there.1).tran_is ∙ ap (λ s. (progress_of run s (log_of st)).tran) same ∙ found.3)

lists_holders : (st : State) → IsGood st → ListsHolders (whole_log (run_is st) (log_of st)) (λ (x : Session). x.tran) has_held st.sessions.items
lists_holders st good = record {
  exact = λ x c r.
      let place = contains_get st.sessions.items x c in
      held_is_holds (run_is st) (log_of st) (place.0 + 1) x r (good.state.each place.0 x place.1);
  whole = λ u h.
      let found = session_with st u good h in
      (found.1, get_contains st.sessions.items found.0 found.1 found.2, found.3);
}

-- the first session beside it that holds the resource tells whom the log names
pub good_holder : (st : State) (at : ℕ) (r : Resource) → IsGood st →
    option_map (λ (x : Session). x.tran) (find (holds_beside r (tran_at st.sessions.items at)) st.sessions.items) ≡ (view_at (run_is st) (log_of st) (tran_at st.sessions.items at)).other r
good_holder st at r good =
    let run = run_is st in
    let t = tran_at st.sessions.items at in
    sym (holder_is_session Session run.geometry (length run.image) (whole_log run (log_of st)) (λ x. x.tran) has_held st.sessions.items r t
    (option_map (λ (x : Session). x.tran) (find (holds_beside r t) st.sessions.items))
    (sound_rules run.geometry (length run.image) run.opened run.image (log_of st) (right_of st good).sound)
    (lists_holders st good)
    (first_is_among Session (λ x. x.tran) has_held st.sessions.items r t))

-- the session itself tells what its transaction holds
pub good_owns : (st : State) (at : ℕ) (x : Session) (r : Resource) → IsGood st → slice_get st.sessions.items at ≡ Some x → has_held x r ≡ (view_at (run_is st) (log_of st) (tran_at st.sessions.items at)).own r
good_owns st at x r good e =
    held_is_holds (run_is st) (log_of st) (at + 1) x r (good.state.each at x e)
    ∙ ap (λ o. holds (whole_log (run_is st) (log_of st)) (tran_of_session o) r) (sym e)

-- the same, where the state is merely known to be good
pub holder_by : (st : State) (at : ℕ) (r : Resource) → ∥ IsGood st ∥₁ →
    option_map (λ (x : Session). x.tran) (find (holds_beside r (tran_at st.sessions.items at)) st.sessions.items) ≡ (view_at (run_is st) (log_of st) (tran_at st.sessions.items at)).other r
holder_by st at r good = ∥∥₁_elim good (Coded-set (coded_option coded_ℕ) _ _) (good_holder st at r)

pub owns_by : (st : State) (at : ℕ) (x : Session) (r : Resource) → ∥ IsGood st ∥₁ → slice_get st.sessions.items at ≡ Some x → has_held x r ≡ (view_at (run_is st) (log_of st) (tran_at st.sessions.items at)).own r
owns_by st at x r good e = ∥∥₁_elim good (Coded-set coded_bool _ _) (λ g. good_owns st at x r g e)
