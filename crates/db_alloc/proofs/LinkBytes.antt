-- What is written of the pages of a chain.
use Rattle.std.proofs.Common.{◌≡◌, refl, ℕ, ◌+◌, ◌-◌, ◌/◌, ◌%◌, ◌<◌, ◌≤◌, leb, ltb, ◌&&◌, IsTrue, List, [], ◌∷◌, length, get_or, Result, ap, ◌∙◌, subst, arith}
use Rattle.std.specs.Prelude.{slice_index, slice_set}
use Rattle.std.proofs.lemmas.Bool.{cond_both}
use Rattle.std.proofs.lemmas.Bool.Decides.{nat_tests}
use Rattle.std.proofs.lemmas.List.{get_or-set_same, get_or-set_other, length-set}
use Rattle.spec_file.specs.declared.data.PageNo.{PageNo}
use Rattle.spec_file.specs.Image.{page}
use Rattle.spec_log.specs.Cells.{with_bit, with_bytes}
use Rattle.spec_plan.specs.Reading.{first_page}
use Rattle.spec_words.specs.Views.{View, Plan}
use Rattle.spec_words.specs.Words.{◌then◌, sees}
use Rattle.spec_alloc.specs.Chains.{put_iam}
use Rattle.db_locks.specs.declared.plan_pages.PageStop.{PageStop}
use Rattle.db_locks.specs.States.{PlanState}
use Rattle.db_locks.specs.Does.{DoesAfter}
use Rattle.db_locks.proofs.PlanLaws.{does_see}
use Rattle.db_alloc.specs.Tables.{numbers}
use Rattle.db_alloc.proofs.Parts.{with_bytes_by}
use Rattle.db_alloc.proofs.SingleSteps.{does_next}

-- the first page of a chain is its first item
pub first_at : (chain : List PageNo) (d : PageNo) → 1 ≤ length chain → (get_or chain 0 d).0 ≡ first_page (numbers chain)
first_at [] d le = absurd (omega (arith, le))
first_at (p ∷ rest) d le = refl

-- a byte that is set is one byte put at its place
pub byte_put : (old : List ℕ) (at byte : ℕ) → at < length old → slice_set old at byte ≡ with_bytes old at (byte ∷ [])
byte_put old at byte lt = with_bytes_by old (slice_set old at byte) at (byte ∷ []) (length-set old at byte) (λ i here.
    cond_both (leb at i && ltb i (at + 1)) (slice_index (byte ∷ []) (i - at)) (slice_index old i) (λ z. slice_index (slice_set old at byte) i ≡ z)
    (λ e. inside i (grind (arith, nat_tests, e)))
    (λ e. get_or-set_other old at i byte 0 (λ s. absurd (grind (arith, nat_tests, e, s)))))
  where
    inside : (i : ℕ) → at ≡ i → slice_index (slice_set old at byte) i ≡ slice_index (byte ∷ []) (i - at)
    inside i s = subst (λ (k : ℕ). slice_index (slice_set old at byte) k ≡ slice_index (byte ∷ []) (k - at)) s
        (get_or-set_same old at byte 0 lt ∙ (let none : 0 ≡ at - at = omega arith in ap (λ k. slice_index (byte ∷ []) k) none))

-- ---- the mark of an extent, by how many extents an interval has

abbrev pub mark_place : ℕ → ℕ → ℕ
mark_place size e = 136 + e % size / 8

abbrev pub byte_marked : ℕ → ℕ → ℕ → ℕ → List ℕ
byte_marked size e value byte = with_bit byte (e % size % 8) value ∷ []

abbrev pub byte_there : ℕ → ℕ → View → ℕ
byte_there q at view = slice_index (page view.now q) at

abbrev pub mark_put : ℕ → ℕ → ℕ → ℕ → Plan (Unit {0})
mark_put size e value q = sees (byte_there q (mark_place size e)) then (λ byte. put_iam q (mark_place size e) (byte_marked size e value byte))

-- the byte was seen, and what comes of it was put
pub mark_written : {a b : PlanState} (looked : List ℕ) (size e value q byte : ℕ) {result : Result (Unit {0}) PageStop} → (IsTrue a.told → byte ≡ slice_index (page a.view.now q) (mark_place size e))
    → DoesAfter looked a b (put_iam q (mark_place size e) (byte_marked size e value byte)) result → DoesAfter looked a b (mark_put size e value q) result
mark_written {a} looked size e value q byte told d = does_next _ (does_see looked a (byte_there q (mark_place size e)) byte told) d
