-- A page of maps is read, and what it tells of extents and pages.
use Rattle.std.proofs.Common.{◌≡◌, refl, ℕ, suc, ◌+◌, ◌-◌, ◌/◌, ◌<◌, ◌≤◌, eqb, Bool, true, false, IsTrue, List, [], ◌∷◌, Contains, take, filter, Option, Some, None, Result, Ok, Err, sym, ap, ◌∙◌, arith}
use Rattle.std.specs.Prelude.{◌||◌, is_some, slice_index, IsErrAnd}
use Rattle.std.specs.List.{list_any, range_with_len}
use Rattle.std.proofs.lemmas.Bool.{or_right}
use Rattle.spec_file.specs.declared.data.PageNo.{PageNo}
use Rattle.spec_file.specs.declared.data.Resource.{Resource}
use Rattle.spec_file.specs.declared.data.Resource.TheVariants as resource
use Rattle.spec_file.specs.Header.{says}
use Rattle.spec_file.specs.Image.{AreBytes, page, bit, maps_start}
use Rattle.spec_file.specs.Places.{HasShape, gam_place, sgam_place, pfs_page, pfs_place, is_free, is_mixed}
use Rattle.spec_file.specs.Pfs.{is_allocated_byte}
use Rattle.spec_chain.specs.Uses.{pfs_byte}
use Rattle.spec_words.specs.Views.{View, Plan}
use Rattle.spec_words.specs.Words.{◌then◌, give, look, unless_held}
use Rattle.spec_alloc.specs.Search.{map_read, first_in, is_held, counts_as_allocated}
use Rattle.law_cover.proofs.Places.{extents_guard_bits}
use Rattle.db_locks.specs.declared.plan_pages.PageStop.{PageStop}
use Rattle.db_locks.specs.declared.plan_pages.PageStop.TheVariants.{Bad}
use Rattle.db_locks.specs.States.{PlanState, AreImages}
use Rattle.db_locks.specs.Does.{Stop, Does, DoesAs, DoesAfter}
use Rattle.db_locks.proofs.BitLaws.{told_bit}
use Rattle.db_locks.proofs.PageLaws.{told_byte}
use Rattle.db_locks.proofs.PlanLaws.{does_after, does_then, does_exit, does_good, does_bad}
use Rattle.db_locks.proofs.LoopLaws.{does_further}
use Rattle.db_locks.proofs.WordLaws.{does_reach, does_as, does_unless_held}
use Rattle.db_alloc.specs.Maps.{MapTells}
use Rattle.db_alloc.specs.Results.{value_as}
use Rattle.db_alloc.proofs.MapPlaces.{bit_low}
use Rattle.db_alloc.proofs.Pfs.{says_same}
use Rattle.db_alloc.proofs.Steps.{does_plan, does_exit_as, give_then}

-- ---- what was done

pub map_unread : {a b : PlanState} (type q : ℕ) (own : Resource) {stop : PageStop} (r : Result (Unit {0}) PageStop) → a.view.other own ≡ None
    → Does a b (look own q) (Err stop) → IsErrAnd r (λ s. s ≡ stop) → Does a b (map_read type q) r
map_unread type q own r free d h = does_exit _ (does_reach own q free d) h

pub map_good : {a b : PlanState} (type q : ℕ) (own : Resource) (bytes : List ℕ) → a.view.other own ≡ None → Does a b (look own q) (Ok (page a.view.now q))
    → (IsTrue a.told → take maps_start bytes ≡ take maps_start (page a.view.now q)) → says type q bytes ≡ true → Does a b (map_read type q) (Ok tt)
map_good {a} {b} type q own bytes free d front good =
    does_then _ (does_reach own q free d)
    (does_good [] b (says type q (page a.view.now q)) q (λ told. sym (says_same type q bytes (page a.view.now q) (front (sym d.stays.told ∙ told))) ∙ good))

pub map_bad : {a b : PlanState} (type : ℕ) (q : PageNo) (own : Resource) (bytes : List ℕ) → a.view.other own ≡ None → Does a b (look own q.0) (Ok (page a.view.now q.0))
    → (IsTrue a.told → take maps_start bytes ≡ take maps_start (page a.view.now q.0)) → says type q.0 bytes ≡ false → Does a b (map_read type q.0) (Err (Bad q))
map_bad {a} {b} type q own bytes free d front bad =
    does_then _ (does_reach own q.0 free d)
    (does_bad [] b (says type q.0 (page a.view.now q.0)) q.0 (Bad q) refl (λ told. sym (says_same type q.0 bytes (page a.view.now q.0) (front (sym d.stays.told ∙ told))) ∙ bad))

-- ---- what it tells

pub free_told : (view : View) (e : ℕ) (bytes : List ℕ) → HasShape view.shape.geometry view.shape.pages → e < view.shape.pages / 8
    → MapTells view (gam_place view.shape.geometry e).page bytes → view.other (resource.Extent (record { 0 = e })) ≡ None
    → bit bytes (gam_place view.shape.geometry e).at ≡ is_free view.shape.geometry view.now e
free_told view e bytes file lt tells free =
    let g = view.shape.geometry in
    let r = resource.Extent (record { 0 = e }) in
    let q = (gam_place g e).page in
    ap (λ n. eqb n 1) (told_bit view.shape q (gam_place g e).at r bytes (page view.now q) (bit_low g e) (extents_guard_bits g view.shape.pages e file.low file.high lt).0 (tells.agrees r free))

pub mixed_told : (view : View) (e : ℕ) (bytes : List ℕ) → HasShape view.shape.geometry view.shape.pages → e < view.shape.pages / 8
    → MapTells view (sgam_place view.shape.geometry e).page bytes → view.other (resource.Extent (record { 0 = e })) ≡ None
    → bit bytes (sgam_place view.shape.geometry e).at ≡ is_mixed view.shape.geometry view.now e
mixed_told view e bytes file lt tells free =
    let g = view.shape.geometry in
    let r = resource.Extent (record { 0 = e }) in
    let q = (sgam_place g e).page in
    ap (λ n. eqb n 1) (told_bit view.shape q (sgam_place g e).at r bytes (page view.now q) (bit_low g e) (extents_guard_bits g view.shape.pages e file.low file.high lt).1 (tells.agrees r free))

pub pfs_told : (view : View) (p : ℕ) (bytes : List ℕ) → HasShape view.shape.geometry view.shape.pages → p < view.shape.pages → AreBytes bytes → AreBytes (page view.now (pfs_page view.shape.geometry p))
    → MapTells view (pfs_page view.shape.geometry p) bytes → view.other (resource.Byte (record { 0 = p })) ≡ None
    → slice_index bytes (pfs_place view.shape.geometry p).at ≡ pfs_byte view.shape.geometry view.now p
pfs_told view p bytes file lt low seen tells free =
    told_byte view.shape p bytes (page view.now (pfs_page view.shape.geometry p)) file lt low seen (tells.agrees (resource.Byte (record { 0 = p })) free)

-- whoever holds the byte, the page counts as allocated
pub counted : (a : PlanState) (p at : ℕ) (bytes : List ℕ) (held answer : Bool) → AreImages a → p < a.view.shape.pages → AreBytes bytes → MapTells a.view (pfs_page a.view.shape.geometry p) bytes
    → at ≡ (pfs_place a.view.shape.geometry p).at → held ≡ is_held a.view (resource.Byte (record { 0 = p })) → answer ≡ (is_allocated_byte (slice_index bytes at) || held)
    → answer ≡ counts_as_allocated a.view.shape a.view p
counted a p at bytes held answer images lt low tells place is_held_so is =
    let g = a.view.shape.geometry in
    let byte = slice_index bytes (pfs_place g p).at in
    is ∙ ap (λ k. is_allocated_byte (slice_index bytes k) || held) place ∙ ap (λ h. is_allocated_byte byte || h) is_held_so
    ∙ by_holder (is_allocated_byte byte) (is_allocated_byte (pfs_byte g a.view.now p)) (a.view.other (resource.Byte (record { 0 = p })))
    (λ free. ap is_allocated_byte (pfs_told a.view p bytes images.now.file lt low (images.now.bytes (pfs_page g p)) tells free))
  where
    by_holder : (x y : Bool) (o : Option ℕ) → (o ≡ None → x ≡ y) → (x || is_some o) ≡ (y || is_some o)
    by_holder x y None same = ap (λ b. b || false) (same refl)
    by_holder x y (Some t) same = or_right x true refl ∙ sym (or_right y true refl)

-- ---- the pages of an extent, one after another

pub range_first : (n i k : ℕ) → i < k → range_with_len (n + i) (k - i) ≡ (n + i) ∷ range_with_len (n + (i + 1)) (k - (i + 1))
range_first n i k lt =
    let step : k - i ≡ suc (k - (i + 1)) = omega (arith, lt) in
    let next : n + i + 1 ≡ n + (i + 1) = omega arith in
    ap (range_with_len (n + i)) step ∙ ap (λ m. (n + i) ∷ range_with_len m (k - (i + 1))) next

pub range_begin : (n k : ℕ) → range_with_len n k ≡ range_with_len (n + 0) k
range_begin n k = let same : n ≡ n + 0 = omega arith in ap (λ m. range_with_len m k) same

pub range_none : (n i k : ℕ) → k ≤ i → range_with_len (n + i) (k - i) ≡ []
range_none n i k le = let none : k - i ≡ 0 = omega (arith, le) in ap (range_with_len (n + i)) none

pub first_hit : (f : ℕ → Bool) (x : ℕ) (xs : List ℕ) → f x ≡ true → first_in (filter f (x ∷ xs)) ≡ Some x
first_hit f x xs e = rw e refl

pub first_miss : (f : ℕ → Bool) (x : ℕ) (xs : List ℕ) → f x ≡ false → first_in (filter f (x ∷ xs)) ≡ first_in (filter f xs)
first_miss f x xs e = rw e refl

pub any_hit : (f : ℕ → Bool) (x : ℕ) (xs : List ℕ) → f x ≡ true → list_any f (x ∷ xs) ≡ true
any_hit f x xs e = rw e refl

pub any_miss : (f : ℕ → Bool) (x : ℕ) (xs : List ℕ) → f x ≡ false → list_any f (x ∷ xs) ≡ list_any f xs
any_miss f x xs e = rw e refl

-- ---- once more

-- a page that was reached is looked at, and nothing comes of it
pub look_again : {a b : PlanState} (looked : List ℕ) (q : ℕ) (own : Resource) {result : Result (Unit {0}) PageStop} → a.view.other own ≡ None → (IsTrue a.told → Contains looked q)
    → DoesAfter looked a b (look own q then (λ _. give tt)) result → DoesAfter looked a b (give tt) result
unfolding give unless_held
look_again looked q own free before d = does_as (give tt) (λ told. rw free refl) (λ told p h. rw free at h) (does_unless_held own q before d)

-- what was done that reached nothing may stand before anything
pub does_behind : {A E : Type 0} {meaning : E → Stop} {looked : List ℕ} {a b c : PlanState} {plan : Plan A} {result : Result A E}
    → DoesAs {A = Unit {0}} meaning looked a b (give tt) (Ok tt) → DoesAs meaning looked b c plan result → DoesAs meaning looked a c plan result
does_behind {plan = plan} d rest = does_plan (give_then {A = Unit {0}} tt (λ _. plan)) (does_after (λ _. plan) d (does_further _ rest))

pub behind_exit : {A B E : Type 0} {meaning : E → Stop} {looked : List ℕ} {a b : PlanState} (plan : Plan A) (f : B → A) {stop : E} (r : Result B E)
    → DoesAs {A = Unit {0}} meaning looked a b (give tt) (Err stop) → IsErrAnd r (λ s. s ≡ stop) → DoesAs meaning looked a b plan (value_as f r)
behind_exit plan f {stop} r d h = does_plan (give_then {A = Unit {0}} tt (λ _. plan)) (does_exit_as (λ _. plan) f stop r refl d h)

pub behind_stop : {A E : Type 0} {meaning : E → Stop} {looked : List ℕ} {a b : PlanState} (plan : Plan A) {stop : E} (r : Result A E)
    → DoesAs {A = Unit {0}} meaning looked a b (give tt) (Err stop) → IsErrAnd r (λ s. s ≡ stop) → DoesAs meaning looked a b plan r
behind_stop plan r d h = does_plan (give_then {A = Unit {0}} tt (λ _. plan)) (does_exit (λ _. plan) d h)
