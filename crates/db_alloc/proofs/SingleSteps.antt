-- A single page is found and taken.
use Rattle.std.proofs.Common.{◌≡◌, refl, ℕ, ◌*◌, ◌/◌, ◌+◌, ◌-◌, ◌<◌, Bool, true, false, IsTrue, List, [], ◌∷◌, Contains, filter, Option, Some, None, Result, Ok, Err, sym, ap, ◌∙◌, subst, arith}
use Rattle.std.specs.Prelude.{if◌then◌else◌, is_some, IsErrAnd}
use Rattle.std.specs.Option.{option_map}
use Rattle.std.specs.List.{list_any}
use Rattle.std.proofs.lemmas.Bool.{true≢false, false≢true}
use Rattle.std.proofs.lemmas.List.Elements.{Contains-push}
use Rattle.spec_file.specs.declared.data.PageNo.{PageNo}
use Rattle.spec_file.specs.declared.data.Resource.{Resource}
use Rattle.spec_file.specs.declared.data.Tran.{Tran}
use Rattle.spec_file.specs.declared.geometry.Geometry.{Geometry}
use Rattle.spec_file.specs.Places.{HasShape, pfs_page}
use Rattle.spec_words.specs.NetChanges.{FileShape}
use Rattle.spec_words.specs.Views.{View, Plan}
use Rattle.spec_words.specs.Words.{◌then◌, unless_held, or_later, put_sgam}
use Rattle.spec_alloc.specs.Search.{search, where_found, is_spare, first_in, pages_in}
use Rattle.spec_alloc.specs.SinglePages.{spare_page, lower_sgam}
use Rattle.db_locks.specs.declared.plan_pages.PageStop.{PageStop}
use Rattle.db_locks.specs.States.{PlanState}
use Rattle.db_locks.specs.Does.{Stop, WasHeld, MayStop, HasCause, Stays, Does, DoesAs, DoesAfter}
use Rattle.db_locks.proofs.PlanLaws.{stays_same, does_after, does_then, does_give, does_see}
use Rattle.db_locks.proofs.LoopLaws.{does_further}
use Rattle.db_alloc.specs.declared.search.Reader.{Reader}
use Rattle.db_alloc.specs.declared.search.Wanted.{Wanted}
use Rattle.db_alloc.specs.Results.{value_as}
use Rattle.db_alloc.specs.Searches.{fits_of, find_of, MayRead, WereReached}
use Rattle.db_alloc.proofs.MapPlaces.{same_pfs}
use Rattle.db_alloc.proofs.Reached.{search_reached}
use Rattle.db_alloc.proofs.Steps.{does_plan, does_exit_as}

-- ---- steps of a plan

pub does_next : {A B E : Type 0} {meaning : E → Stop} {looked : List ℕ} {a b c : PlanState} {plan : Plan A} (next : A → Plan B) {x : A} {result : Result B E}
    → DoesAs meaning looked a b plan (Ok x) → DoesAs meaning looked b c (next x) result → DoesAs meaning looked a c (plan then next) result
does_next next first rest = does_after next first (does_further _ rest)

pub may_read_later : {a b : PlanState} (reader : Reader) → Stays a b → MayRead reader a.view → MayRead reader b.view
may_read_later reader stays may = record {
  geometry = may.geometry ∙ ap (λ (s : FileShape). s.geometry) (sym stays.shape);
  pages = may.pages ∙ ap (λ (s : FileShape). s.pages) (sym stays.shape);
  own = ap (λ (other : Resource → Option ℕ). other reader.own) stays.other ∙ may.own;
}

-- what was reached stays so for a later state
pub reached_later : {a b : PlanState} (looked : List ℕ) (p : ℕ) → Stays a b → (IsTrue a.told → WereReached looked a.view.shape p) → IsTrue b.told → WereReached looked b.view.shape p
reached_later looked p stays before told = subst (λ (s : FileShape). WereReached looked s p) (sym stays.shape) (before (sym stays.told ∙ told))

-- what stays, of a call that asks for a page that was reached
pub stays_of : {A : Type 0} {a b : PlanState} {plan : Plan A} {result : Result A PageStop} (q : ℕ) → ((looked : List ℕ) → (IsTrue a.told → Contains looked q) → DoesAfter looked a b plan result) → Stays a b
stays_of q d = (d (q ∷ []) (λ told. Contains-push [] q)).stays

-- ---- whether a page is left

any_by : (f : ℕ → Bool) (x : ℕ) (xs : List ℕ) → list_any f xs ≡ is_some (first_in (filter f xs)) → (b : Bool) → f x ≡ b → list_any f (x ∷ xs) ≡ is_some (first_in (filter f (x ∷ xs)))
any_by f x xs later true is = rw is refl
any_by f x xs later false is = rw is later

any_first : (f : ℕ → Bool) (xs : List ℕ) → list_any f xs ≡ is_some (first_in (filter f xs))
any_first f [] = refl
any_first f (x ∷ xs) = any_by f x xs (any_first f xs) (f x) refl

some_kept : (o : Option PageNo) → is_some (option_map (λ (p : PageNo). p.0) o) ≡ is_some o
some_kept None = refl
some_kept (Some p) = refl

pub left_told : (shape : FileShape) (view : View) (e : ℕ) (left : Option PageNo) (some : Bool) → option_map (λ (p : PageNo). p.0) left ≡ spare_page shape view e → some ≡ is_some left
    → some ≡ list_any (is_spare shape view) (pages_in e)
left_told shape view e left some is so = so ∙ sym (some_kept left) ∙ ap is_some is ∙ sym (any_first (is_spare shape view) (pages_in e))

abbrev left_in : FileShape → ℕ → View → Bool
left_in shape e view = list_any (is_spare shape view) (pages_in e)

pub lower_none : {a b : PlanState} (looked : List ℕ) (e : ℕ) {result : Result (Unit {0}) PageStop} → (IsTrue a.told → false ≡ list_any (is_spare a.view.shape a.view) (pages_in e))
    → DoesAfter looked a b (put_sgam a.view.shape e 0) result → DoesAfter looked a b (lower_sgam a.view.shape e) result
lower_none {a} looked e none d = does_next _ (does_see looked a (left_in a.view.shape e) false none) d

pub lower_some : (a : PlanState) (looked : List ℕ) (e : ℕ) → (IsTrue a.told → true ≡ list_any (is_spare a.view.shape a.view) (pages_in e)) → DoesAfter looked a a (lower_sgam a.view.shape e) (Ok tt)
lower_some a looked e some = does_next _ (does_see looked a (left_in a.view.shape e) true some) (does_give looked a tt)

pub same_extent : (g : Geometry) (p : ℕ) → pfs_page g p ≡ pfs_page g (8 * (p / 8))
same_extent g p =
    let at : p ≡ 8 * (p / 8) + (p - 8 * (p / 8)) = omega arith in
    ap (pfs_page g) at ∙ same_pfs g (p / 8) (p - 8 * (p / 8)) (omega arith)

-- ---- what was found is taken

abbrev pub taken_by : FileShape → Wanted → (ℕ → Plan ℕ) → Plan (Option ℕ)
taken_by shape wanted next = search shape (fits_of wanted shape) (find_of wanted shape) then (λ found. where_found found next)

-- the maps of the page that was found were reached
pub found_reached : {a b : PlanState} (wanted : Wanted) (p : ℕ) → Does a b (search a.view.shape (fits_of wanted a.view.shape) (find_of wanted a.view.shape)) (Ok (Some p))
    → IsTrue a.told → WereReached (search a.view.shape (fits_of wanted a.view.shape) (find_of wanted a.view.shape) a.view).reached a.view.shape p
found_reached {a} {b} wanted p d told = search_reached a.view.shape wanted a.view b.view p (d.exact told)

pub found_as : {E : Type 0} {meaning : E → Stop} {looked : List ℕ} {a b : PlanState} {plan : Plan (Option ℕ)} (found other : Option PageNo) → found ≡ other → DoesAs meaning looked a b plan (Ok (option_map (λ p. p.0) found))
    → DoesAs meaning looked a b plan (Ok (option_map (λ p. p.0) other))
found_as {meaning = meaning} {looked} {a} {b} {plan} found other e d = subst (λ (o : Option PageNo). DoesAs meaning looked a b plan (Ok (option_map (λ p. p.0) o))) e d

-- so it may be taken
pub taken_after : {a b c : PlanState} (wanted : Wanted) (next : FileShape → ℕ → Plan ℕ) (p : ℕ) {result : Result ℕ PageStop} → b.view ≡ a.view
    → Does a b (search a.view.shape (fits_of wanted a.view.shape) (find_of wanted a.view.shape)) (Ok (Some p))
    → ((looked : List ℕ) → (IsTrue b.told → WereReached looked b.view.shape p) → DoesAfter looked b c (next b.view.shape p) result)
    → DoesAfter (search a.view.shape (fits_of wanted a.view.shape) (find_of wanted a.view.shape) a.view).reached b c (next a.view.shape p) result
taken_after {a} {b} wanted next p view d taken =
    let reached = (search a.view.shape (fits_of wanted a.view.shape) (find_of wanted a.view.shape) a.view).reached in
    does_plan (ap (λ (v : View). next v.shape p) view)
    (taken reached (λ told. subst (λ (v : View). WereReached reached v.shape p) (sym view) (found_reached wanted p d (sym d.stays.told ∙ told))))

pub none_taken : {a b : PlanState} (wanted : Wanted) (next : ℕ → Plan ℕ) → Does a b (search a.view.shape (fits_of wanted a.view.shape) (find_of wanted a.view.shape)) (Ok None)
    → Does a b (taken_by a.view.shape wanted next) (Ok None)
none_taken {b = b} wanted next d = does_then _ d (does_give [] b None)

pub one_taken : {a b c : PlanState} (wanted : Wanted) (next : ℕ → Plan ℕ) (p q : ℕ) → Does a b (search a.view.shape (fits_of wanted a.view.shape) (find_of wanted a.view.shape)) (Ok (Some p))
    → DoesAfter (search a.view.shape (fits_of wanted a.view.shape) (find_of wanted a.view.shape) a.view).reached b c (next p) (Ok q) → Does a c (taken_by a.view.shape wanted next) (Ok (Some q))
one_taken {c = c} wanted next p q d taken = does_after _ d (does_next _ taken (does_give _ c (Some q)))

pub one_stopped : {a b c : PlanState} (wanted : Wanted) (next : ℕ → Plan ℕ) (p : ℕ) (f : Option PageNo → Option ℕ) {stop : PageStop} (r : Result (Option PageNo) PageStop)
    → Does a b (search a.view.shape (fits_of wanted a.view.shape) (find_of wanted a.view.shape)) (Ok (Some p))
    → DoesAfter (search a.view.shape (fits_of wanted a.view.shape) (find_of wanted a.view.shape) a.view).reached b c (next p) (Err stop) → IsErrAnd r (λ s. s ≡ stop)
    → Does a c (taken_by a.view.shape wanted next) (value_as f r)
one_stopped wanted next p f {stop} r d taken h = does_after _ d (does_exit_as _ f stop r refl taken h)

-- ---- one search, and then the other

pub either_found : {E : Type 0} {meaning : E → Stop} {looked : List ℕ} {a b : PlanState} (first second : Plan (Option ℕ)) (found : Option PageNo) → is_some found ≡ true
    → DoesAs meaning looked a b first (Ok (option_map (λ p. p.0) found)) → DoesAs meaning looked a b (first then (λ found. or_later found second)) (Ok (option_map (λ p. p.0) found))
either_found first second None e d = absurd (false≢true e)
either_found {looked = looked} {b = b} first second (Some p) e d = does_next _ d (does_give looked b (Some p.0))

pub either_later : {E : Type 0} {meaning : E → Stop} {looked : List ℕ} {a b c : PlanState} (first second : Plan (Option ℕ)) (found : Option PageNo) {result : Result (Option ℕ) E} → is_some found ≡ false
    → DoesAs meaning looked a b first (Ok (option_map (λ p. p.0) found)) → DoesAs meaning looked b c second result → DoesAs meaning looked a c (first then (λ found. or_later found second)) result
either_later first second None e d rest = does_next _ d rest
either_later first second (Some p) e d rest = absurd (true≢false e)

-- ---- a resource is free, or another transaction holds it

pub unless_free : {E : Type 0} {meaning : E → Stop} (looked : List ℕ) (a : PlanState) (r : Resource) → a.view.other r ≡ None → DoesAs meaning looked a a (unless_held r) (Ok tt)
unfolding unless_held
unless_free looked a r free = record { exact = λ told. rw free refl; stays = stays_same a; cause = tt }

-- the extent of a page of the file
pub extent_inside : (a : PlanState) (p : ℕ) → HasShape a.view.shape.geometry a.view.shape.pages → p < a.view.shape.pages → p / 8 < a.view.shape.pages / 8
extent_inside a p file lt = let whole = file.whole in omega (arith, lt, whole)

pub unless_taken : {E : Type 0} {meaning : E → Stop} (looked : List ℕ) (a : PlanState) (r : Resource) (t : ℕ) (e : E) → a.view.other r ≡ Some t → meaning e ≡ WasHeld r t → DoesAs meaning looked a a (unless_held r) (Err e)
unfolding unless_held
unless_taken looked a r t e held means = record {
  exact = λ told. subst (λ (s : Stop). MayStop looked (unless_held r a.view) s) (sym means) (rw held refl);
  stays = stays_same a;
  cause = subst (λ (s : Stop). HasCause a a s) (sym means) held;
}

-- the holder of a resource, or that there is none
pub holder_some : (view : View) (r : Resource) (holder : Option Tran) (t : Tran) → option_map (λ t. t.0) holder ≡ view.other r → holder ≡ Some t → view.other r ≡ Some t.0
holder_some view r holder t is some = sym is ∙ ap (option_map (λ (t : Tran). t.0)) some

pub holder_none : (view : View) (r : Resource) (holder : Option Tran) → option_map (λ t. t.0) holder ≡ view.other r → ((t : Tran) → holder ≡ Some t → ⊥) → view.other r ≡ None
holder_none view r None is none = sym is
holder_none view r (Some t) is none = absurd (none t refl)
