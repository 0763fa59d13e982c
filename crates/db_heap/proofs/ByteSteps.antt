-- A PFS byte that was read is seen.
use Rattle.std.proofs.Common.{◌≡◌, refl, ℕ, IsTrue, List, [], ◌∷◌, ◌++◌, Contains, Result, Ok, Err, inl, inr, ap, subst, arith}
use Rattle.std.proofs.lemmas.List.Elements.{Contains-append_left, Contains-append_cases, Contains-push_cases}
use Rattle.spec_file.specs.Places.{pfs_page}
use Rattle.spec_chain.specs.Uses.{pfs_byte}
use Rattle.spec_words.specs.Views.{View, End, Gives, Stops}
use Rattle.spec_words.specs.Words.{ended, ◌then◌, give, sees, look}
use Rattle.db_locks.specs.declared.plan_pages.PageStop.{PageStop}
use Rattle.db_locks.specs.Cells.{pfs_byte_read}
use Rattle.db_locks.specs.States.{PlanState}
use Rattle.db_locks.specs.Does.{Stop, WasHeld, WasRefused, HasFailed, WasShort, MayStop, Does, DoesAfter, stop_of}
use Rattle.db_locks.proofs.WordLaws.{does_as}
use Rattle.db_locks.proofs.PlanLaws.{does_more}
use Rattle.db_alloc.specs.Results.{value_as}
use Rattle.db_heap.specs.Inserts.{WasByteRead}

only_one : (p q : ℕ) → Contains (p ∷ []) q → p ≡ q
only_one p q h = elim (Contains-push_cases [] p q h) [ inl none ↦ absurd (omega (arith, none.1)) | inr e ↦ e ]

-- a page that was looked at already is no page more
same_pages : (looked : List ℕ) (p q : ℕ) → Contains looked p → Contains (looked ++ (p ∷ [])) q → Contains (looked ++ []) q
same_pages looked p q before h = elim (Contains-append_cases looked (p ∷ []) q h) [
  | inl early ↦ Contains-append_left looked [] q early
  | inr late ↦ Contains-append_left looked [] q (subst (λ (k : ℕ). Contains looked k) (only_one p q late) before)
]

pub byte_seen : {a b : PlanState} (looked : List ℕ) (p : ℕ) {result : Result ℕ PageStop} → (IsTrue a.told → WasByteRead looked a.view p)
    → Does a b (pfs_byte_read a.view.shape p) result → DoesAfter looked a b (sees (λ view. pfs_byte a.view.shape.geometry view.now p)) result
unfolding ◌then◌ look give sees
byte_seen {a} {b} looked p before d = does_as (sees (λ view. pfs_byte a.view.shape.geometry view.now p))
    (λ told. let free = (before told).free in rw free refl)
    (λ told q h. let free = (before told).free in let more = rw free at h in same_pages looked (pfs_page a.view.shape.geometry p) q (before told).reached more)
    (does_more looked d)

end_of : {A B : Type 0} → (A → B) → End A → End B
end_of h (Gives x view) = Gives (h x) view
end_of h (Stops refusal) = Stops refusal

-- what is seen may be told by a part of it
pub seen_by : {A B : Type 0} {a b : PlanState} (looked : List ℕ) (f : View → A) (h : A → B) (result : Result A PageStop) → DoesAfter looked a b (sees f) result
    → DoesAfter looked a b (sees (λ view. h (f view))) (value_as h result)
unfolding sees end_of
seen_by {A} {B} {a} {b} looked f h (Ok x) d = record { exact = λ told. ap (end_of h) (d.exact told); stays = d.stays; cause = tt }
seen_by {A} {B} {a} {b} looked f h (Err e) d = record { exact = λ told. stopped (stop_of e) (d.exact told); stays = d.stays; cause = d.cause }
  where
    stopped : (stop : Stop) → MayStop looked (ended [] (Gives (f a.view) a.view)) stop → MayStop looked (ended [] (Gives (h (f a.view)) a.view)) stop
    stopped (WasHeld r t) e = ap (end_of h) e
    stopped (WasRefused refusal) e = ap (end_of h) e
    stopped (HasFailed q) e = e
    stopped WasShort e = tt
