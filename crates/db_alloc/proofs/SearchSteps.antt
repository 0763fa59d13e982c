-- What a search does in one extent.
use Rattle.std.proofs.Common.{◌≡◌, refl, ℕ, suc, ◌+◌, ◌-◌, ◌*◌, ◌/◌, ◌<◌, ◌≤◌, Bool, true, false, IsTrue, List, [], ◌∷◌, Option, Some, None, Result, Ok, Err, sym, ap, ◌∙◌, subst, arith}
use Rattle.std.specs.Prelude.{is_some, if◌then◌else◌, IfSome, IfErr, OnOk, IsErrAnd}
use Rattle.std.specs.Option.{option_map}
use Rattle.std.specs.List.{range_with_len}
use Rattle.std.proofs.lemmas.Bool.{true≢false, false≢true}
use Rattle.std.proofs.lemmas.Result.{err_from_is_err_and}
use Rattle.spec_file.specs.declared.data.PageNo.{PageNo}
use Rattle.spec_file.specs.declared.data.Resource.TheVariants as resource
use Rattle.spec_file.specs.declared.page_type.TheConstants.{GAM_TYPE, SGAM_TYPE}
use Rattle.spec_file.specs.Header.{says}
use Rattle.spec_file.specs.Image.{page, bit}
use Rattle.spec_file.specs.Places.{HasShape, gam_place, sgam_place, is_free, is_mixed}
use Rattle.spec_words.specs.NetChanges.{FileShape}
use Rattle.spec_words.specs.Views.{View, Gives, Plan}
use Rattle.spec_words.specs.Words.{◌then◌, give, sees, reach, first_of}
use Rattle.spec_alloc.specs.Search.{map_read, gam_read, sgam_read, pfs_read, is_held, search_at}
use Rattle.db_locks.specs.declared.plan_pages.PageStop.{PageStop}
use Rattle.db_locks.specs.States.{PlanState}
use Rattle.db_locks.specs.Does.{Stop, Stays, Does, DoesAs, DoesAfter, stop_of}
use Rattle.db_locks.proofs.PlanLaws.{stays_same, does_after, does_then, does_stop, does_give, does_good, does_see}
use Rattle.db_locks.proofs.LoopLaws.{Leads, first_more, first_found}
use Rattle.db_alloc.specs.declared.search.Wanted.{Wanted}
use Rattle.db_alloc.specs.declared.search.Wanted.TheVariants.{Shared, Unused}
use Rattle.db_alloc.specs.Results.{value_as}
use Rattle.db_alloc.specs.Maps.{IsMap}
use Rattle.db_alloc.specs.Searches.{fits_of, bits_fit, AreMaps}
use Rattle.db_alloc.proofs.MapReads.{free_told, mixed_told, does_behind}
use Rattle.db_alloc.proofs.Steps.{does_plan, then_assoc, leads_exit_as}

-- ---- what is known need not be read

reach_known : (looked : List ℕ) (a : PlanState) (q : ℕ) → DoesAfter looked a a (reach q) (Ok (page a.view.now q))
unfolding reach
reach_known looked a q = record { exact = λ told. refl; stays = stays_same a; cause = tt }

pub map_known : (looked : List ℕ) (a : PlanState) (type q : ℕ) → (IsTrue a.told → IsMap a.view type q) → DoesAfter looked a a (map_read type q) (Ok tt)
map_known looked a type q good = does_after _ (reach_known looked a q) (does_good _ a (says type q (page a.view.now q)) q good)

does_nothing : {E : Type 0} {meaning : E → Stop} (looked : List ℕ) {a b : PlanState} → Stays a b → b.view ≡ a.view → DoesAs {A = Unit {0}} meaning looked a b (give tt) (Ok tt)
unfolding give
does_nothing looked stays view = record { exact = λ told. ap (λ (v : View). Gives tt v) (sym view); stays = stays; cause = tt }

-- what is done after nothing has changed is done
pub does_still : {A : Type 0} {looked : List ℕ} {a b c : PlanState} (plan : FileShape → Plan A) {result : Result A PageStop} → Stays a b → b.view ≡ a.view
    → DoesAfter looked b c (plan b.view.shape) result → DoesAfter looked a c (plan a.view.shape) result
does_still {looked = looked} plan stays view d = does_behind (does_nothing looked stays view) (does_plan (ap (λ (v : View). plan v.shape) view) d)

-- a stop that `?` hands on
pub stop_handed : {A E : Type 0} (r : Result A E) (P : E → Type 0) {stop : E} → IsErrAnd r (λ s. s ≡ stop) → P stop → IfErr r P
stop_handed {A} {E} r P {stop} h p = let e = err_from_is_err_and r h in subst (λ (q : Result A E). IfErr q P) (sym (e.1 ∙ ap Err e.2)) p

pub does_handed : {A : Type 0} {looked : List ℕ} {a b : PlanState} {plan : Plan A} (r : Result A PageStop) {stop : PageStop} → DoesAfter looked a b plan (Err stop) → IsErrAnd r (λ s. s ≡ stop)
    → DoesAfter looked a b plan r
does_handed {A} {looked} {a} {b} {plan} r d h = let e = err_from_is_err_and r h in subst (λ (q : Result A PageStop). DoesAfter looked a b plan q) (sym (e.1 ∙ ap Err e.2)) d

-- ---- one extent

pub not_held : (view : View) (e : ℕ) → is_held view (resource.Extent (record { 0 = e })) ≡ false → view.other (resource.Extent (record { 0 = e })) ≡ None
not_held view e h = by_holder (view.other (resource.Extent (record { 0 = e }))) h
  where
    by_holder : (o : Option ℕ) → is_some o ≡ false → o ≡ None
    by_holder None h = refl
    by_holder (Some t) h = absurd (true≢false h)

abbrev held_by : ℕ → View → Bool
held_by e view = is_held view (resource.Extent (record { 0 = e }))

pub at_held : (a : PlanState) (fits : View → ℕ → Bool) (find : View → ℕ → Option ℕ) (e : ℕ) → is_held a.view (resource.Extent (record { 0 = e })) ≡ true
    → Does a a (search_at a.view.shape fits find e) (Ok None)
at_held a fits find e held = does_then _ (does_see [] a (held_by e) true (λ told. sym held)) (does_give [] a None)

-- the maps can't be read
pub at_unread : {a b : PlanState} (fits : View → ℕ → Bool) (find : View → ℕ → Option ℕ) (e : ℕ) {stop : PageStop} → is_held a.view (resource.Extent (record { 0 = e })) ≡ false
    → Does a b (gam_read a.view.shape e then (λ _. sgam_read a.view.shape e)) (Err stop) → Does a b (search_at a.view.shape fits find e) (Err stop)
at_unread {a} {b} fits find e {stop} held d =
    does_then _ (does_see [] a (held_by e) false (λ told. sym held))
    (does_plan (then_assoc (gam_read a.view.shape e) (λ _. sgam_read a.view.shape e) _) (does_stop {meaning = stop_of} stop_of _ stop refl d))

-- the bits don't fit, if the extent isn't held
pub at_unfit : (a : PlanState) (fits : View → ℕ → Bool) (find : View → ℕ → Option ℕ) (e : ℕ) (held : Bool) → is_held a.view (resource.Extent (record { 0 = e })) ≡ held
    → (IsTrue a.told → IsMap a.view GAM_TYPE (gam_place a.view.shape.geometry e).page) → (IsTrue a.told → IsMap a.view SGAM_TYPE (sgam_place a.view.shape.geometry e).page)
    → (is_held a.view (resource.Extent (record { 0 = e })) ≡ false → IsTrue a.told → fits a.view e ≡ false) → Does a a (search_at a.view.shape fits find e) (Ok None)
at_unfit a fits find e true held gam sgam unfit = at_held a fits find e held
at_unfit a fits find e false held gam sgam unfit =
    does_then _ (does_see [] a (held_by e) false (λ told. sym held))
    (does_then _ (map_known [] a GAM_TYPE _ gam)
    (does_then _ (map_known [] a SGAM_TYPE _ sgam)
    (does_then _ (does_see [] a (λ view. fits view e) false (λ told. sym (unfit held told))) (does_give [] a None))))

-- they fit, and the extent isn't held
pub at_fit : {a b : PlanState} (fits : View → ℕ → Bool) (find : View → ℕ → Option ℕ) (e : ℕ) {result : Result (Option ℕ) PageStop} → is_held a.view (resource.Extent (record { 0 = e })) ≡ false
    → (IsTrue a.told → IsMap a.view GAM_TYPE (gam_place a.view.shape.geometry e).page) → (IsTrue a.told → IsMap a.view SGAM_TYPE (sgam_place a.view.shape.geometry e).page)
    → (IsTrue a.told → fits a.view e ≡ true) → Does a b (pfs_read a.view.shape (8 * e) then (λ _. sees (λ view. find view e))) result → Does a b (search_at a.view.shape fits find e) result
at_fit {a} fits find e held gam sgam fit d =
    does_then _ (does_see [] a (held_by e) false (λ told. sym held))
    (does_then _ (map_known [] a GAM_TYPE _ gam)
    (does_then _ (map_known [] a SGAM_TYPE _ sgam)
    (does_then _ (does_see [] a (λ view. fits view e) true (λ told. sym (fit told))) d)))

-- ---- what the maps that were read tell

some_same : {A : Type 0} (x y : A) → Some x ≡ Some y → x ≡ y
some_same {A} x y e = ap (λ (o : Option A). value_of o) e
  where
    value_of : Option A → A
    value_of None = x
    value_of (Some z) = z

pub maps_at : (view : View) (read : Option PageNo) (q : ℕ) (gam sgam : List ℕ) → IfSome read (λ p. AreMaps view p.0 gam sgam) → option_map (λ (p : PageNo). p.0) read ≡ Some q → AreMaps view q gam sgam
maps_at view (Some p) q gam sgam maps e = subst (λ (k : ℕ). AreMaps view k gam sgam) (some_same p.0 q e) maps
maps_at view None q gam sgam maps e = absurd (false≢true (ap is_some e))

fits_by : (wanted : Wanted) (shape : FileShape) (view : View) (e : ℕ) → bits_fit wanted (is_free shape.geometry view.now e) (is_mixed shape.geometry view.now e) ≡ fits_of wanted shape view e
fits_by Shared shape view e = refl
fits_by Unused shape view e = refl

pub fit_told : (view : View) (wanted : Wanted) (e at : ℕ) (gam sgam : List ℕ) (fit : Bool) → HasShape view.shape.geometry view.shape.pages → e < view.shape.pages / 8
    → AreMaps view (gam_place view.shape.geometry e).page gam sgam → is_held view (resource.Extent (record { 0 = e })) ≡ false → at ≡ (gam_place view.shape.geometry e).at
    → fit ≡ bits_fit wanted (bit gam at) (bit sgam at) → fits_of wanted view.shape view e ≡ fit
fit_told view wanted e at gam sgam fit file lt maps held place is =
    let free = not_held view e held in
    sym (is ∙ ap (λ n. bits_fit wanted (bit gam n) (bit sgam n)) place
    ∙ ap (λ b. bits_fit wanted b (bit sgam (gam_place view.shape.geometry e).at)) (free_told view e gam file lt maps.gam_tells free)
    ∙ ap (bits_fit wanted (is_free view.shape.geometry view.now e)) (mixed_told view e sgam file lt maps.sgam_tells free)
    ∙ fits_by wanted view.shape view e)

-- ---- one extent after another

pub extents_first : (i n : ℕ) → i < n → range_with_len i (n - i) ≡ i ∷ range_with_len (i + 1) (n - (i + 1))
extents_first i n lt = let step : n - i ≡ suc (n - (i + 1)) = omega (arith, lt) in ap (range_with_len i) step

pub extents_end : (i n : ℕ) → n ≤ i → range_with_len i (n - i) ≡ []
extents_end i n le = let none : n - i ≡ 0 = omega (arith, le) in ap (range_with_len i) none

pub search_more : {a b c : PlanState} {whole : Plan (Option ℕ)} (try : ℕ → Plan (Option ℕ)) (x : ℕ) (xs : List ℕ) (found : Option PageNo) → is_some found ≡ false
    → Leads stop_of [] a b whole (first_of try (x ∷ xs)) → Does b c (try x) (Ok (option_map (λ p. p.0) found)) → Leads stop_of [] a c whole (first_of try xs)
search_more try x xs None e l d = first_more try x xs l d
search_more try x xs (Some p) e l d = absurd (true≢false e)

pub search_found : {a b c : PlanState} {whole : Plan (Option ℕ)} (try : ℕ → Plan (Option ℕ)) (x : ℕ) (xs : List ℕ) (found : Option PageNo) → is_some found ≡ true
    → Leads stop_of [] a b whole (first_of try (x ∷ xs)) → Does b c (try x) (Ok (option_map (λ p. p.0) found)) → Does a c whole (Ok (option_map (λ p. p.0) found))
search_found try x xs None e l d = absurd (false≢true e)
search_found try x xs (Some p) e l d = first_found try x xs p.0 l d

pub search_stop : {a b c : PlanState} {whole : Plan (Option ℕ)} (try : ℕ → Plan (Option ℕ)) (x : ℕ) (xs : List ℕ) {stop : PageStop} (r : Result (Option PageNo) PageStop)
    → Leads stop_of [] a b whole (first_of try (x ∷ xs)) → Does b c (try x) (Err stop) → IsErrAnd r (λ s. s ≡ stop) → Does a c whole (value_as (option_map (λ p. p.0)) r)
unfolding first_of
search_stop try x xs r l d h = leads_exit_as _ _ r l d h

pub ok_given : {A E : Type 0} (r : Result A E) {P : Type 0} → P → OnOk r P
ok_given (Ok x) p = p
ok_given (Err e) p = tt

-- a stop that `?` hands on, where the value stands for another
pub stop_as : {A B : Type 0} (f : A → B) {a b : PlanState} {plan : Plan B} (r : Result A PageStop) {stop : PageStop} → IsErrAnd r (λ s. s ≡ stop) → Does a b plan (Err stop) → Does a b plan (value_as f r)
stop_as {A} {B} f {a} {b} {plan} r h d = let e = err_from_is_err_and r h in subst (λ (q : Result A PageStop). Does a b plan (value_as f q)) (sym (e.1 ∙ ap Err e.2)) d
