-- How pages are given back, call by call.
use Rattle.std.proofs.Common.{◌≡◌, ℕ, ◌+◌, ◌*◌, ◌/◌, ◌%◌, ◌<◌, Bool, true, false, IsTrue, List, [], ◌∷◌, ◌++◌, Contains, Option, None, Result, Ok, Err, sym, ap, ◌∙◌, subst, arith}
use Rattle.std.specs.Prelude.{IsErrAnd, if◌then◌else◌}
use Rattle.std.proofs.lemmas.List.Elements.{Contains-append_left, Contains-append_right, Contains-push}
use Rattle.spec_file.specs.declared.data.Resource.{Resource}
use Rattle.spec_file.specs.declared.data.Resource.TheVariants as resource
use Rattle.spec_file.specs.declared.geometry.Geometry.{Geometry}
use Rattle.spec_file.specs.declared.page_type.TheConstants.{GAM_TYPE, SGAM_TYPE, PFS_TYPE}
use Rattle.spec_file.specs.Places.{HasShape, gam_place, sgam_place, pfs_page}
use Rattle.spec_words.specs.NetChanges.{FileShape}
use Rattle.spec_words.specs.Views.{View, Plan}
use Rattle.spec_words.specs.Words.{◌then◌, give, sees, reach, take, put_pfs, put_gam}
use Rattle.spec_alloc.specs.Search.{map_read, gam_read, sgam_read, pfs_read}
use Rattle.spec_alloc.specs.Freeing.{is_in_use, put_bits, shared_freed, extent_freed, marked_freed}
use Rattle.spec_alloc.specs.Objects.{left_freed}
use Rattle.db_locks.specs.declared.plan_pages.PageStop.{PageStop}
use Rattle.db_locks.specs.States.{PlanState}
use Rattle.db_locks.specs.Does.{Does, DoesAfter, Stays}
use Rattle.db_locks.proofs.PlanLaws.{stays_same, stays_then, does_after, does_exit, does_more, does_see}
use Rattle.db_alloc.proofs.MapPlaces.{same_pfs}
use Rattle.db_alloc.proofs.Steps.{does_plan, give_then}

-- ---- plans that go on

-- what is to be done of a whole plan, after a first part, by when the pages `looked` were reached
pub record GoesOn {A : Type 0} (first : List ℕ) (a b : PlanState) (whole rest : Plan A) : Type 0 where
  pub looked : List ℕ
  pub stays : Stays a b
  pub lead : (c : PlanState) (result : Result A PageStop) → DoesAfter looked b c rest result → DoesAfter first a c whole result

abbrev pub goes_none : {A : Type 0} (looked : List ℕ) (a : PlanState) (whole : Plan A) → GoesOn looked a a whole whole
goes_none looked a whole = record { looked = looked; stays = stays_same a; lead = λ c result d. d }

abbrev pub goes_then : {A B : Type 0} {first : List ℕ} {a b c : PlanState} {whole : Plan B} {plan : Plan A} (next : A → Plan B) {x : A}
    (l : GoesOn first a b whole (plan then next)) → DoesAfter l.looked b c plan (Ok x) → GoesOn first a c whole (next x)
goes_then {b = b} {plan = plan} next l d = record {
  looked = l.looked ++ (plan b.view).reached;
  stays = stays_then l.stays d.stays;
  lead = λ e result rest. l.lead e result (does_after next d rest);
}

pub goes_exit : {A B : Type 0} {first : List ℕ} {a b c : PlanState} {whole : Plan B} {plan : Plan A} (next : A → Plan B) {stop : PageStop} {result : Result B PageStop}
    (l : GoesOn first a b whole (plan then next)) → DoesAfter l.looked b c plan (Err stop) → IsErrAnd result (λ s. s ≡ stop) → DoesAfter first a c whole result
goes_exit {c = c} next {result = result} l d h = l.lead c result (does_exit next d h)

-- what was reached is reached still
pub still : {A B : Type 0} {first : List ℕ} {a b c : PlanState} {whole : Plan B} {plan : Plan A} (next : A → Plan B) {x : A}
    (l : GoesOn first a b whole (plan then next)) (d : DoesAfter l.looked b c plan (Ok x)) (q : ℕ) → Contains l.looked q → Contains (goes_then next l d).looked q
still {b = b} {plan = plan} next l d q h = Contains-append_left l.looked (plan b.view).reached q h

-- a call was made by the view's shape, which stays
pub in_shape : {A : Type 0} (F : FileShape → Plan A) {looked : List ℕ} {a b c : PlanState} {result : Result A PageStop} → Stays a b → DoesAfter looked b c (F b.view.shape) result
    → DoesAfter looked b c (F a.view.shape) result
in_shape F stays d = does_plan (ap F stays.shape) d

-- ---- where the calls are made

-- an extent of the file, and a resource that nobody else holds
pub record IsAt (g : Geometry) (e : ℕ) (own : Resource) (s : PlanState) : Type 0 where
  pub geometry : g ≡ s.view.shape.geometry
  pub inside : e < s.view.shape.pages / 8
  pub free : s.view.other own ≡ None

pub at_stays : {g : Geometry} {e : ℕ} {own : Resource} {a b : PlanState} → Stays a b → IsAt g e own a → IsAt g e own b
at_stays {e = e} {own} stays here = record {
  geometry = here.geometry ∙ sym (ap (λ (s : FileShape). s.geometry) stays.shape);
  inside = subst (λ (s : FileShape). e < s.pages / 8) (sym stays.shape) here.inside;
  free = ap (λ (other : Resource → Option ℕ). other own) stays.other ∙ here.free;
}

pub page_stays : {a b : PlanState} (p : ℕ) → Stays a b → p < a.view.shape.pages → p < b.view.shape.pages
page_stays p stays lt = subst (λ (s : FileShape). p < s.pages) (sym stays.shape) lt

pub extent_of_page : (g : Geometry) (pages p : ℕ) → HasShape g pages → p < pages → p / 8 < pages / 8
extent_of_page g pages p file lt = let whole = file.whole in omega (arith, whole, lt)

pub pfs_of_extent : (g : Geometry) (p : ℕ) → pfs_page g (8 * (p / 8)) ≡ pfs_page g p
pfs_of_extent g p =
    let same : p ≡ 8 * (p / 8) + p % 8 = omega arith in
    sym (ap (pfs_page g) same ∙ same_pfs g (p / 8) (p % 8) (omega arith))

-- ---- what was reached

pub map_reached : (looked : List ℕ) (type q : ℕ) (view : View) → Contains (looked ++ (map_read type q view).reached) q
unfolding ◌then◌ reach
map_reached looked type q view = Contains-append_right looked _ q (Contains-append_left (q ∷ []) _ q (Contains-push [] q))

-- a place is that of the view's shape, which stays
pub at_place : (F : Geometry → ℕ) {a b : PlanState} (looked : List ℕ) → Stays a b → Contains looked (F a.view.shape.geometry) → Contains looked (F b.view.shape.geometry)
at_place F looked stays h = subst (λ (s : FileShape). Contains looked (F s.geometry)) (sym stays.shape) h

-- ---- whether an extent is in use

pub use_seen : {a b : PlanState} (looked : List ℕ) (e : ℕ) (answer : Bool) → DoesAfter {A = Unit {0}} looked a b (give tt) (Ok tt) → (IsTrue b.told → answer ≡ is_in_use a.view.shape e b.view)
    → DoesAfter looked a b (sees (is_in_use a.view.shape e)) (Ok answer)
use_seen {a} {b} looked e answer d is =
    does_plan (give_then {A = Unit {0}} tt (λ _. sees (is_in_use a.view.shape e))) (does_after _ d (does_see _ b (is_in_use a.view.shape e) answer is))

pub use_unseen : {a b : PlanState} (looked : List ℕ) (e : ℕ) {stop : PageStop} {result : Result Bool PageStop} → DoesAfter {A = Unit {0}} looked a b (give tt) (Err stop) → IsErrAnd result (λ s. s ≡ stop)
    → DoesAfter looked a b (sees (is_in_use a.view.shape e)) result
use_unseen {a} {b} looked e d h = does_plan (give_then {A = Unit {0}} tt (λ _. sees (is_in_use a.view.shape e))) (does_exit _ d h)

-- ---- a page of a mixed extent

abbrev pub maps_passed : FileShape → ℕ → Plan (Unit {0})
maps_passed shape p = put_pfs shape p 0 then (λ _. sees (is_in_use shape (p / 8)) then (λ in_use. put_bits shape (p / 8) in_use))

-- the maps were read, and the extent was taken
pub record HasPassed (a b : PlanState) (p : ℕ) : Type 0 where
  pub goes : GoesOn [] a b (shared_freed a.view.shape p) (maps_passed a.view.shape p)
  pub pfs : Contains goes.looked (pfs_page a.view.shape.geometry p)
  pub gam : Contains goes.looked (gam_place a.view.shape.geometry (p / 8)).page
  pub sgam : Contains goes.looked (sgam_place a.view.shape.geometry (p / 8)).page

pub passed : {a b c d e : PlanState} (p : ℕ) → Does a b (pfs_read a.view.shape p) (Ok tt) → Does b c (take (resource.Extent (record { 0 = p / 8 }))) (Ok tt)
    → Does c d (gam_read c.view.shape (p / 8)) (Ok tt) → Does d e (sgam_read d.view.shape (p / 8)) (Ok tt) → HasPassed a e p
passed {a} {b} {c} {d} {e} p pfs held gam sgam =
    let shape = a.view.shape in
    let q = pfs_page shape.geometry p in
    let gam_at = (gam_place shape.geometry (p / 8)).page in
    let l1 = goes_then _ (goes_none [] a (shared_freed shape p)) pfs in
    let d2 = does_more l1.looked held in
    let l2 = goes_then _ l1 d2 in
    let d3 = does_more l2.looked (in_shape (λ s. gam_read s (p / 8)) l2.stays gam) in
    let l3 = goes_then _ l2 d3 in
    let d4 = does_more l3.looked (in_shape (λ s. sgam_read s (p / 8)) l3.stays sgam) in
    record {
      goes = goes_then _ l3 d4;
      pfs = still _ l3 d4 q (still _ l2 d3 q (still _ l1 d2 q (map_reached [] PFS_TYPE q a.view)));
      gam = still _ l3 d4 gam_at (map_reached l2.looked GAM_TYPE gam_at c.view);
      sgam = map_reached l3.looked SGAM_TYPE (sgam_place shape.geometry (p / 8)).page d.view;
    }

-- the PFS byte was put: it is to be seen whether the extent is in use
abbrev pub bits_left : FileShape → ℕ → Plan (Unit {0})
bits_left shape p = sees (is_in_use shape (p / 8)) then (λ in_use. put_bits shape (p / 8) in_use)

pub record HasPut (a b : PlanState) (p : ℕ) : Type 0 where
  pub goes : GoesOn [] a b (shared_freed a.view.shape p) (bits_left a.view.shape p)
  pub pfs : Contains goes.looked (pfs_page a.view.shape.geometry (8 * (p / 8)))
  pub gam : Contains goes.looked (gam_place a.view.shape.geometry (p / 8)).page
  pub sgam : Contains goes.looked (sgam_place a.view.shape.geometry (p / 8)).page

pub byte_put : {a b c : PlanState} (p : ℕ) (l : HasPassed a b p) → DoesAfter l.goes.looked b c (put_pfs b.view.shape p 0) (Ok tt) → HasPut a c p
byte_put {a} p l d =
    let g = a.view.shape.geometry in
    let put = in_shape (λ s. put_pfs s p 0) l.goes.stays d in
    record {
      goes = goes_then _ l.goes put;
      pfs = still _ l.goes put (pfs_page g (8 * (p / 8))) (subst (λ q. Contains l.goes.looked q) (sym (pfs_of_extent g p)) l.pfs);
      gam = still _ l.goes put (gam_place g (p / 8)).page l.gam;
      sgam = still _ l.goes put (sgam_place g (p / 8)).page l.sgam;
    }

-- it was seen: the bits are to be put
pub record HasSeen (a b : PlanState) (p : ℕ) (in_use : Bool) : Type 0 where
  pub goes : GoesOn [] a b (shared_freed a.view.shape p) (put_bits a.view.shape (p / 8) in_use)
  pub gam : Contains goes.looked (gam_place a.view.shape.geometry (p / 8)).page
  pub sgam : Contains goes.looked (sgam_place a.view.shape.geometry (p / 8)).page

pub use_known : {a b c : PlanState} (p : ℕ) (in_use : Bool) (l : HasPut a b p) → DoesAfter l.goes.looked b c (sees (is_in_use b.view.shape (p / 8))) (Ok in_use) → HasSeen a c p in_use
use_known {a} p in_use l d =
    let g = a.view.shape.geometry in
    let seen = in_shape (λ s. sees (is_in_use s (p / 8))) l.goes.stays d in
    record {
      goes = goes_then _ l.goes seen;
      gam = still _ l.goes seen (gam_place g (p / 8)).page l.gam;
      sgam = still _ l.goes seen (sgam_place g (p / 8)).page l.sgam;
    }

-- ---- a page of a marked extent

-- an extent in use keeps its bits, and one that isn't becomes free
pub kept_bits : {a b c : PlanState} (e : ℕ) (result : Result (Unit {0}) PageStop) → Does a b (gam_read a.view.shape e) (Ok tt) → Does b c (sgam_read b.view.shape e) result
    → Does a c (extent_freed a.view.shape e true) result
kept_bits {a} e result gam sgam =
    let l = goes_then _ (goes_none [] a (gam_read a.view.shape e then (λ _. sgam_read a.view.shape e))) gam in
    l.lead _ result (does_more l.looked (in_shape (λ s. sgam_read s e) l.stays sgam))

-- the maps of a free extent were read: its GAM bit is to be put
pub record HasRead (a b : PlanState) (e : ℕ) (whole : Plan (Unit {0})) : Type 0 where
  pub goes : GoesOn [] a b whole (put_gam a.view.shape e 1)
  pub gam : Contains goes.looked (gam_place a.view.shape.geometry e).page

pub both_read : {a b c d : PlanState} (e : ℕ) → Does a b (take (resource.Extent (record { 0 = e }))) (Ok tt) → Does b c (gam_read b.view.shape e) (Ok tt) → Does c d (sgam_read c.view.shape e) (Ok tt)
    → HasRead a d e (extent_freed a.view.shape e false)
both_read {a} {b} e held gam sgam =
    let at = (gam_place a.view.shape.geometry e).page in
    let l1 = goes_then _ (goes_none [] a (extent_freed a.view.shape e false)) held in
    let d2 = does_more l1.looked (in_shape (λ s. gam_read s e) l1.stays gam) in
    let l2 = goes_then _ l1 d2 in
    let d3 = does_more l2.looked (in_shape (λ s. sgam_read s e) l2.stays sgam) in
    record { goes = goes_then _ l2 d3; gam = still _ l2 d3 at (map_reached l1.looked GAM_TYPE at b.view) }

pub one_read : {a b c : PlanState} (e : ℕ) → Does a b (take (resource.Extent (record { 0 = e }))) (Ok tt) → Does b c (gam_read b.view.shape e) (Ok tt) → HasRead a c e (left_freed a.view.shape e)
one_read {a} {b} e held gam =
    let at = (gam_place a.view.shape.geometry e).page in
    let l1 = goes_then _ (goes_none [] a (left_freed a.view.shape e)) held in
    let d2 = does_more l1.looked (in_shape (λ s. gam_read s e) l1.stays gam) in
    record { goes = goes_then _ l1 d2; gam = map_reached l1.looked GAM_TYPE at b.view }

abbrev pub use_left : FileShape → ℕ → Plan Bool
use_left shape p = sees (is_in_use shape (p / 8)) then (λ in_use. extent_freed shape (p / 8) in_use then (λ _. give in_use))

-- the PFS byte of such a page was put
pub record HasMarked (a b : PlanState) (p : ℕ) : Type 0 where
  pub goes : GoesOn [] a b (marked_freed a.view.shape p) (use_left a.view.shape p)
  pub pfs : Contains goes.looked (pfs_page a.view.shape.geometry (8 * (p / 8)))

pub marked_put : {a b c : PlanState} (p : ℕ) → Does a b (pfs_read a.view.shape p) (Ok tt)
    → ((looked : List ℕ) → Contains looked (pfs_page a.view.shape.geometry p) → DoesAfter looked b c (put_pfs b.view.shape p 0) (Ok tt)) → HasMarked a c p
marked_put {a} {b} p pfs put =
    let q = pfs_page a.view.shape.geometry p in
    let l1 = goes_then _ (goes_none [] a (marked_freed a.view.shape p)) pfs in
    let there = map_reached [] PFS_TYPE q a.view in
    let d2 = in_shape (λ s. put_pfs s p 0) l1.stays (put l1.looked there) in
    record { goes = goes_then _ l1 d2; pfs = subst (λ k. Contains (goes_then _ l1 d2).looked k) (sym (pfs_of_extent a.view.shape.geometry p)) (still _ l1 d2 q there) }
