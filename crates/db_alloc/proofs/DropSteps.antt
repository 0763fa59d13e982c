-- How what an object owns is given back, call by call.
use Rattle.std.proofs.Common.{◌≡◌, refl, ℕ, suc, ◌+◌, ◌*◌, ◌/◌, ◌<◌, ◌≤◌, Bool, true, false, not, IsTrue, List, [], ◌∷◌, ◌++◌, length, map, drop, get_or, filter, All, Contains, Result, Ok, Err, sym, ap, ◌∙◌, subst, arith, drop-cons, add-one, append-nil}
use Rattle.std.proofs.lemmas.Bool.{false≢true}
use Rattle.std.proofs.lemmas.List.Elements.{All-push}
use Rattle.std.specs.Prelude.{◌||◌, ◌&&◌, ◌==◌, IsErrAnd, IfErr, OnOk, if◌then◌else◌}
use Rattle.std.specs.List.{list_any, range_with_len}
use Rattle.std.proofs.lemmas.List.{drop_all, length-map}
use Rattle.std.proofs.Math.ListN.{get_or-map}
use Rattle.spec_file.specs.declared.data.ExtentNo.{ExtentNo}
use Rattle.spec_file.specs.declared.data.PageNo.{PageNo}
use Rattle.spec_file.specs.Roles.{is_ordinary}
use Rattle.spec_file.specs.declared.geometry.Geometry.{Geometry}
use Rattle.spec_file.specs.CatalogRows.{CatalogRow}
use Rattle.spec_file.specs.Image.{Image, page}
use Rattle.spec_file.specs.Places.{pfs_page}
use Rattle.spec_plan.specs.Reading.{is_single, is_marked}
use Rattle.spec_words.specs.NetChanges.{FileShape, extents_of}
use Rattle.spec_words.specs.Views.{View, Plan}
use Rattle.spec_words.specs.Words.{◌then◌, give, sees, where_good, for_each}
use Rattle.spec_words.specs.Tables.{object_pages}
use Rattle.spec_alloc.specs.Chains.{chain_now}
use Rattle.spec_alloc.specs.Freeing.{is_in_use, is_shared_page, shared_freed, marked_freed}
use Rattle.spec_alloc.specs.Objects.{page_dropped, left_extents, pages_dropped}
use Rattle.law_net.specs.GoodViews.{Leads as LeadsTo}
use Rattle.db_locks.specs.declared.plan_pages.PageStop.{PageStop}
use Rattle.db_locks.specs.declared.plan_pages.PageStop.TheVariants.{NoMemory}
use Rattle.db_locks.specs.States.{PlanState}
use Rattle.db_locks.specs.Does.{Does, DoesAfter, Stays}
use Rattle.db_locks.proofs.PlanLaws.{stays_same, does_then, does_exit, does_see, does_give}
use Rattle.db_alloc.specs.Drops.{LeavesPages, HasReached, extents, owned_read, owned_dropped}
use Rattle.db_alloc.specs.Maps.{IsOwnable}
use Rattle.db_alloc.specs.Marks.{marks, first_slots, is_in_slot}
use Rattle.db_alloc.specs.Results.{value_as}
use Rattle.db_alloc.specs.Tables.{numbers}
use Rattle.db_alloc.proofs.FreeSteps.{in_shape}
use Rattle.db_alloc.proofs.Leaves.{leaves_each, dropped_leaves, shared_leaves}
use Rattle.db_alloc.proofs.Lists.{single_as, any_of_map, filter_same}
use Rattle.db_alloc.proofs.Reaches.{by_ending, owned_reaches}
use Rattle.db_alloc.proofs.Steps.{then_assoc, then_same, give_then, does_plan, does_exit_as}

-- ---- one page

pub shared_as : (slots chain : List ℕ) (p : ℕ) (view : View) (answer : Bool) → 1 ≤ length chain → slots ≡ first_slots (map (page view.now) chain)
    → answer ≡ (is_in_slot slots p || list_any (λ q. q == p) chain) → answer ≡ is_shared_page chain p view
shared_as slots chain p view answer some same is =
    is ∙ ap (λ s. is_in_slot s p || list_any (λ q. q == p) chain) same ∙ ap (λ b. b || list_any (λ q. q == p) chain) (single_as view.now chain p some)

abbrev freed_as : FileShape → ℕ → Bool → Plan (Unit {0})
freed_as shape p shared = if shared then shared_freed shape p else (marked_freed shape p then (λ _. give tt))

pub drop_shared : {a b : PlanState} (chain : List ℕ) (p : ℕ) (answer : Bool) (result : Result (Unit {0}) PageStop) → (IsTrue a.told → answer ≡ is_shared_page chain p a.view) → answer ≡ true
    → Does a b (shared_freed a.view.shape p) result → Does a b (page_dropped a.view.shape chain p) result
drop_shared {a} chain p answer result is e d =
    does_then _ (does_see [] a (is_shared_page chain p) answer is) (does_plan (ap (freed_as a.view.shape p) (sym e)) d)

pub drop_marked : {a b : PlanState} (chain : List ℕ) (p : ℕ) (answer : Bool) (in_use : Bool) → (IsTrue a.told → answer ≡ is_shared_page chain p a.view) → answer ≡ false
    → Does a b (marked_freed a.view.shape p) (Ok in_use) → Does a b (page_dropped a.view.shape chain p) (Ok tt)
drop_marked {a} {b} chain p answer in_use is e d =
    does_then _ (does_see [] a (is_shared_page chain p) answer is) (does_plan (ap (freed_as a.view.shape p) (sym e)) (does_then _ d (does_give [] b tt)))

pub drop_exit : {a b : PlanState} (chain : List ℕ) (p : ℕ) (answer : Bool) {stop : PageStop} (result : Result (Unit {0}) PageStop) → (IsTrue a.told → answer ≡ is_shared_page chain p a.view) → answer ≡ false
    → Does {A = Bool} a b (marked_freed a.view.shape p) (Err stop) → IsErrAnd result (λ s. s ≡ stop) → Does a b (page_dropped a.view.shape chain p) result
drop_exit {a} {b} chain p answer result is e d h =
    does_then _ (does_see [] a (is_shared_page chain p) answer is) (does_plan (ap (freed_as a.view.shape p) (sym e)) (does_exit (λ _. give tt) d h))

-- ---- the pages of the chain stay

-- what a plan leaves, a call leaves that did it
pub leaves_of : {A : Type 0} {a b : PlanState} (g : Geometry) (plan : Plan A) {x : A} → LeadsTo plan a.view (λ y w. LeavesPages g a.view w) → Does a b plan (Ok x) → IsTrue a.told → LeavesPages g a.view b.view
leaves_of {a = a} {b} g plan {x} h d told = by_ending (λ y w. LeavesPages g a.view w) (plan a.view).ending x b.view (d.exact told) h

pub chain_same : (shape : FileShape) (v w : View) (chain : List ℕ) → All (IsOwnable shape) chain → LeavesPages shape.geometry v w → map (page w.now) chain ≡ map (page v.now) chain
chain_same shape v w [] own leaves = refl
chain_same shape v w (q ∷ chain) own leaves =
    let first = own 0 q (omega arith) in
    ap (λ x. x ∷ map (page w.now) chain) (leaves.same q first.ordinary)
    ∙ ap (λ xs. page v.now q ∷ xs) (chain_same shape v w chain (λ k d lt. own (suc k) d (omega (arith, lt))) leaves)

pub marked_as : (g : Geometry) (image : Image) (chain : List ℕ) (p : ℕ) → list_any (marks g p) (map (page image) chain) ≡ is_marked g image chain p
marked_as g image chain p = any_of_map (marks g p) (page image) chain

pub marked_still : (shape : FileShape) (v w : View) (chain : List ℕ) (p : ℕ) → All (IsOwnable shape) chain → LeavesPages shape.geometry v w
    → is_marked shape.geometry w.now chain p ≡ is_marked shape.geometry v.now chain p
marked_still shape v w chain p own leaves =
    sym (marked_as shape.geometry w.now chain p) ∙ ap (list_any (marks shape.geometry p)) (chain_same shape v w chain own leaves) ∙ marked_as shape.geometry v.now chain p

-- what was reached is reached still, and the marks are as they were
pub reached_later : (looked more : List ℕ) (v w : View) (chain : List ℕ) → ((q : ℕ) → Contains looked q → Contains more q) → w.shape ≡ v.shape → All (IsOwnable v.shape) chain → LeavesPages v.shape.geometry v w
    → HasReached looked v chain → HasReached more w chain
reached_later looked more v w chain within same own leaves h = record {
  pfs = λ e lt marked. subst (λ (s : FileShape). Contains more (pfs_page s.geometry (8 * e))) (sym same) (within _ (h.pfs e (subst (λ (s : FileShape). e < s.pages / 8) same lt)
      (sym (marked_still v.shape v w chain (8 * e) own leaves) ∙ ap (λ (s : FileShape). is_marked s.geometry w.now chain (8 * e)) (sym same) ∙ marked)));
}

-- ---- the extents that are left

pub left_as : (shape : FileShape) (view : View) (chain : List ℕ) (iams : List (List ℕ)) (g : Geometry) (n : ℕ) (left : List ℕ) → iams ≡ map (page view.now) chain → g ≡ shape.geometry → n ≡ shape.pages / 8
    → left ≡ filter (λ e. list_any (marks g (8 * e)) iams && not (is_in_use shape e view)) (range_with_len 0 n) → left ≡ left_extents shape chain view
left_as shape view chain iams g n left same same_g same_n is =
    is ∙ ap (λ all. filter (λ e. list_any (marks g (8 * e)) all && not (is_in_use shape e view)) (range_with_len 0 n)) same
    ∙ ap (λ h. filter (λ e. list_any (marks h (8 * e)) (map (page view.now) chain) && not (is_in_use shape e view)) (range_with_len 0 n)) same_g
    ∙ ap (λ m. filter (λ e. list_any (marks shape.geometry (8 * e)) (map (page view.now) chain) && not (is_in_use shape e view)) (range_with_len 0 m)) same_n
    ∙ filter_same (λ e. list_any (marks shape.geometry (8 * e)) (map (page view.now) chain) && not (is_in_use shape e view)) (λ e. is_marked shape.geometry view.now chain (8 * e) && not (is_in_use shape e view)) (extents_of shape)
    (λ e. ap (λ b. b && not (is_in_use shape e view)) (marked_as shape.geometry view.now chain (8 * e)))

-- the PFS page of an extent that the chain marks was reached
pub reach_at : (looked : List ℕ) (view : View) (chain : List ℕ) (iams : List (List ℕ)) (g : Geometry) (e : ℕ) → HasReached looked view chain → iams ≡ map (page view.now) chain → g ≡ view.shape.geometry
    → e < view.shape.pages / 8 → list_any (marks g (8 * e)) iams ≡ true → Contains looked (pfs_page view.shape.geometry (8 * e))
reach_at looked view chain iams g e h same same_g lt marked =
    h.pfs e lt (
    sym (marked_as view.shape.geometry view.now chain (8 * e)) ∙ ap (list_any (marks view.shape.geometry (8 * e))) (sym same)
    ∙ ap (λ k. list_any (marks k (8 * e)) iams) (sym same_g) ∙ marked
    )

pub left_unseen : {C : Type 0} {a b : PlanState} (looked : List ℕ) (f : View → List ℕ) (F : C → List ℕ) {stop : PageStop} (r : Result C PageStop) → DoesAfter {A = Unit {0}} looked a b (give tt) (Err stop)
    → IsErrAnd r (λ s. s ≡ stop) → DoesAfter looked a b (sees f) (value_as F r)
left_unseen looked f F {stop} r d h = does_plan (give_then {A = Unit {0}} tt (λ _. sees f)) (does_exit_as (λ _. sees f) F stop r refl d h)

pub left_short : {C : Type 0} (looked : List ℕ) (a : PlanState) (f : View → List ℕ) (F : C → List ℕ) {stop : PageStop} (r : Result C PageStop) → stop ≡ NoMemory → IsErrAnd r (λ s. s ≡ stop)
    → DoesAfter looked a a (sees f) (value_as F r)
left_short looked a f F r short h =
    left_unseen looked f F r (record { exact = λ told. tt; stays = stays_same a; cause = tt }) (subst (λ (t : PageStop). IsErrAnd r (λ s. s ≡ t)) short h)

-- one extent more, or none
pub short_or : {a b : PlanState} (looked : List ℕ) (r : Result (Unit {0}) PageStop) → IfErr r (λ e. e ≡ NoMemory) → DoesAfter {A = Unit {0}} looked a b (give tt) (Ok tt) → DoesAfter looked a b (give tt) r
short_or looked (Ok x) short d = d
short_or {a} {b} looked (Err e) short d =
    let stopped : Result (Unit {0}) PageStop = Err NoMemory in
    subst (λ (s : PageStop). DoesAfter {A = Unit {0}} looked a b (give tt) (Err s)) (sym short) (record { exact = λ told. tt; stays = d.stays; cause = tt })

abbrev if_so : Bool → ℕ → List ℕ
if_so so e = if so then e ∷ [] else []

pub pushed_left : {Told : Type 0} (r : Result (Unit {0}) PageStop) (old new : List ℕ) (e : ℕ) (pushed wanted : Bool) → OnOk r (new ≡ old ++ if_so pushed e) → (Told → pushed ≡ wanted)
    → OnOk r (Told → new ≡ old ++ if_so wanted e)
pushed_left (Ok x) old new e pushed wanted h same = λ told. h ∙ ap (λ b. old ++ if_so b e) (same told)
pushed_left (Err stop) old new e pushed wanted h same = h

low_so : (n e : ℕ) (old : List ℕ) (pushed : Bool) → e < n → All (λ x. x < n) old → All (λ x. x < n) (old ++ if_so pushed e)
low_so n e old true lt all = All-push (λ x. x < n) old e all lt
low_so n e old false lt all = subst (All (λ x. x < n)) (sym (append-nil old)) all

pub pushed_low : (r : Result (Unit {0}) PageStop) (old new : List ℕ) (e : ℕ) (pushed : Bool) → OnOk r (new ≡ old ++ if_so pushed e)
    → OnOk r ((n : ℕ) → e < n → All (λ x. x < n) old → All (λ x. x < n) new)
pushed_low (Ok x) old new e pushed h = λ n lt all. subst (All (λ x. x < n)) (sym h) (low_so n e old pushed lt all)
pushed_low (Err stop) old new e pushed h = h

pub both_hold : (answer marked in_use : Bool) → answer ≡ not in_use → marked ≡ true → answer ≡ (marked && not in_use)
both_hold answer true in_use is m = is
both_hold answer false in_use is m = absurd (false≢true m)

-- ---- extents in a row

pub extents_step : (es : List ExtentNo) (i : ℕ) (d : ExtentNo) → i < length es → extents (drop i es) ≡ (get_or es i d).0 ∷ extents (drop (i + 1) es)
extents_step es i d lt = ap extents (drop-cons es i d lt) ∙ ap (λ n. (get_or es i d).0 ∷ extents (drop n es)) (sym (add-one i))

pub extents_end : (es : List ExtentNo) (i : ℕ) → length es ≤ i → extents (drop i es) ≡ []
extents_end es i le = ap extents (drop_all i es le)

pub extent_at : (P : ℕ → Type 0) (es : List ExtentNo) (i : ℕ) (d : ExtentNo) → i < length es → All P (extents es) → P (get_or es i d).0
extent_at P es i d lt h =
    let below : i < length (extents es) = subst (λ n. i < n) (sym (length-map es (λ (e : ExtentNo). e.0))) lt in
    subst P (get_or-map (λ (e : ExtentNo). e.0) es i d) (h i d.0 below)

-- ---- all of it

pub drop_plan : (shape : FileShape) (row : CatalogRow) → (owned_read shape row then (λ (found : List ℕ × List ℕ). owned_dropped shape found.0 found.1)) ≡ pages_dropped shape row
drop_plan shape row =
    let next : List ℕ × List ℕ → Plan (Unit {0}) = λ found. owned_dropped shape found.0 found.1 in
    then_assoc (chain_now shape row) _ next ∙ then_same (chain_now shape row) (λ chain.
    then_assoc (sees (object_pages shape chain)) _ next ∙ then_same (sees (object_pages shape chain)) (λ pages. give_then (chain, pages) next))

either : (a b : Bool) → b ≡ true → (a || b) ≡ true
either true b h = refl
either false b h = h

-- where the object's pages were read, the PFS pages of its marked extents were reached
pub owned_reached : {a b : PlanState} (row : CatalogRow) (chain pages : List ℕ) → Does a b (owned_read a.view.shape row) (Ok (chain, pages)) → IsTrue a.told → HasReached (owned_read a.view.shape row a.view).reached b.view chain
owned_reached {a} {b} row chain pages d told = record {
  pfs = λ e lt marked.
      let same : b.view.shape ≡ a.view.shape = d.stays.shape in
      let inside : 8 * e < b.view.shape.pages = omega (arith, lt) in
      subst (λ (s : FileShape). Contains (owned_read a.view.shape row a.view).reached (pfs_page s.geometry (8 * e))) (sym same)
      (owned_reaches a.view.shape row a.view b.view chain pages (8 * e) (d.exact told) (subst (λ (s : FileShape). 8 * e < s.pages) same inside)
      (either (is_single b.view.now chain (8 * e)) (is_marked a.view.shape.geometry b.view.now chain (8 * e)) (ap (λ (s : FileShape). is_marked s.geometry b.view.now chain (8 * e)) (sym same) ∙ marked)));
}

-- ---- calls on lists of pages

pub tested_as : {a : PlanState} (g : Geometry) (ps qs : List PageNo) {r : Result (Unit {0}) PageStop} → g ≡ a.view.shape.geometry → ps ≡ qs
    → Does a a (for_each (λ p. where_good (is_ordinary g p) p) (numbers ps)) r → Does a a (for_each (λ p. where_good (is_ordinary a.view.shape.geometry p) p) (numbers qs)) r
tested_as {a} g ps qs same_g same d =
    does_plan (ap (λ (k : Geometry). for_each (λ p. where_good (is_ordinary k p) p) (numbers ps)) same_g
    ∙ ap (λ (xs : List PageNo). for_each (λ p. where_good (is_ordinary a.view.shape.geometry p) p) (numbers xs)) same) d

pub dropped_as : {a b : PlanState} (cs chain ps pages : List PageNo) {r : Result (Unit {0}) PageStop} → cs ≡ chain → ps ≡ pages
    → Does a b (for_each (page_dropped a.view.shape (numbers cs)) (numbers ps)) r → Does a b (for_each (page_dropped a.view.shape (numbers chain)) (numbers pages)) r
dropped_as {a} cs chain ps pages same_c same_p d =
    does_plan (ap (λ (xs : List PageNo). for_each (page_dropped a.view.shape (numbers xs)) (numbers ps)) same_c
    ∙ ap (λ (xs : List PageNo). for_each (page_dropped a.view.shape (numbers chain)) (numbers xs)) same_p) d

pub shared_in : {a b c : PlanState} (cs chain : List PageNo) {r : Result (Unit {0}) PageStop} → Stays a b → cs ≡ chain
    → Does b c (for_each (shared_freed b.view.shape) (numbers cs)) r → Does b c (for_each (shared_freed a.view.shape) (numbers chain)) r
shared_in {a} {b} cs chain stays same d =
    does_plan (ap (λ (xs : List PageNo). for_each (shared_freed a.view.shape) (numbers xs)) same) (in_shape (λ s. for_each (shared_freed s) (numbers cs)) stays d)

pub pages_leave : {a b : PlanState} (chain pages : List ℕ) → Does a b (for_each (page_dropped a.view.shape chain) pages) (Ok tt) → IsTrue a.told → LeavesPages a.view.shape.geometry a.view b.view
pages_leave {a} chain pages d told =
    let g = a.view.shape.geometry in
    leaves_of g _ (leaves_each g (page_dropped a.view.shape chain) pages (λ p. dropped_leaves a.view.shape chain p) a.view) d told

pub chain_leaves : {b c : PlanState} (shape : FileShape) (chain : List ℕ) → Does b c (for_each (shared_freed shape) chain) (Ok tt) → IsTrue b.told → LeavesPages shape.geometry b.view c.view
chain_leaves {b} shape chain d told = leaves_of shape.geometry _ (leaves_each shape.geometry (shared_freed shape) chain (λ p. shared_leaves shape p) b.view) d told
