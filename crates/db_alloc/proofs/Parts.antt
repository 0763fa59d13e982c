-- Part of a page is written by putting the whole page.
use Rattle.std.proofs.Common.{◌≡◌, refl, ℕ, ◌+◌, ◌-◌, ◌<◌, ◌≤◌, leb, ltb, ◌&&◌, false, IsTrue, List, [], ◌∷◌, ◌++◌, length, drop, Contains, Option, Result, ◌⊎◌, inl, inr, sym, ap, ◌∙◌, subst, arith}
use Rattle.std.specs.Prelude.{slice_index, slice_set}
use Rattle.std.proofs.lemmas.Bool.{cond_both, cases_lt}
use Rattle.std.proofs.lemmas.Bool.Decides.{nat_tests}
use Rattle.std.proofs.lemmas.List.{ext_get_or, get_or-take, get_or-drop}
use Rattle.std.proofs.lemmas.List.FromFn.{length-map-range_with_len, get_or-map-range_with_len}
use Rattle.byteorder.specs.Endian.{little_bytes}
use Rattle.byteorder.specs.Numbers.{length-bytes_low_first}
use Rattle.pg_base.proofs.NumberLaws.{same_byte}
use Rattle.spec_file.specs.declared.data.Resource.{Resource}
use Rattle.spec_file.specs.Image.{Image, AreBytes, number_at, page}
use Rattle.spec_rows.proofs.RowLaws.{spelled_at}
use Rattle.spec_log.specs.declared.item.Cell.{Cell}
use Rattle.spec_log.specs.declared.item.Cell.TheVariants.{Bytes}
use Rattle.spec_log.specs.Cells.{with_bytes, byte_with}
use Rattle.spec_words.specs.Views.{View, Gives, Outcome}
use Rattle.spec_words.specs.Words.{ended, by_holder, write, written, with_taken}
use Rattle.spec_words.specs.Takes.{is_among}
use Rattle.pg_base.specs.Numbers.{PutsNumber}
use Rattle.db_locks.specs.declared.plan_pages.PageStop.{PageStop}
use Rattle.db_locks.specs.States.{PlanState}
use Rattle.db_locks.specs.Does.{DoesAfter}
use Rattle.db_locks.proofs.WordLaws.{does_as}

-- ---- bytes of a page

pub with_bytes_by : (old new : List ℕ) (off : ℕ) (bytes : List ℕ) → length new ≡ length old → ((i : ℕ) → i < length old → slice_index new i ≡ byte_with old off bytes i) → new ≡ with_bytes old off bytes
with_bytes_by old new off bytes long each =
    ext_get_or 0 new (with_bytes old off bytes) (long ∙ sym (length-map-range_with_len (byte_with old off bytes) 0 (length old))) (λ i lt.
    let here : i < length old = subst (λ n. i < n) long lt in
    each i here ∙ sym (get_or-map-range_with_len (byte_with old off bytes) 0 (length old) i i 0 here (omega arith)))

-- putting a page that has these bytes at an offset puts the bytes there
pub with_bytes_whole : (old : List ℕ) (off : ℕ) (bytes : List ℕ) → with_bytes old 0 (with_bytes old off bytes) ≡ with_bytes old off bytes
with_bytes_whole old off bytes = sym (with_bytes_by old (with_bytes old off bytes) 0 (with_bytes old off bytes) (length-map-range_with_len (byte_with old off bytes) 0 (length old)) (λ i lt.
    let long = length-map-range_with_len (byte_with old off bytes) 0 (length old) in
    cond_both (leb 0 i && ltb i (0 + length (with_bytes old off bytes))) (slice_index (with_bytes old off bytes) (i - 0)) (slice_index old i) (λ z. slice_index (with_bytes old off bytes) i ≡ z)
    (λ e. let same : i ≡ i - 0 = omega arith in ap (slice_index (with_bytes old off bytes)) same)
    (λ e. absurd (grind (arith, nat_tests, e, lt, long)))))

-- ---- a number

number_inside : (n at value i : ℕ) (new : List ℕ) → AreBytes new → at + n ≤ length new → number_at n at new ≡ value → at ≤ i → i < at + n → slice_index new i ≡ slice_index (little_bytes n value) (i - at)
number_inside n at value i new small within is low high =
    let place : at + (i - at) ≡ i = omega (arith, low) in
    sym (ap (λ k. slice_index (little_bytes n k) (i - at)) (sym is) ∙ ap (λ l. slice_index l (i - at)) (spelled_at n at new small within)
    ∙ get_or-take n (drop at new) (i - at) 0 (omega (arith, low, high)) ∙ get_or-drop at new (i - at) 0 ∙ ap (slice_index new) place)

number_outside : (n at value i : ℕ) (old new : List ℕ) → PutsNumber n at value old new → (i < at) ⊎ (at + n ≤ i) → slice_index new i ≡ slice_index old i
number_outside n at value i old new puts (inl before) = same_byte i at new old puts.front before
number_outside n at value i old new puts (inr behind) =
    let place : at + n + (i - (at + n)) ≡ i = omega (arith, behind) in
    ap (slice_index new) (sym place) ∙ sym (get_or-drop (at + n) new (i - (at + n)) 0) ∙ ap (λ l. slice_index l (i - (at + n))) puts.back
    ∙ get_or-drop (at + n) old (i - (at + n)) 0 ∙ ap (slice_index old) place

below_or_behind : (n at size i : ℕ) → size ≡ n → (leb at i && ltb i (at + size)) ≡ false → (i < at) ⊎ (at + n ≤ i)
below_or_behind n at size i e other = by_order (cases_lt i at)
  where
    by_order : (i < at) ⊎ (at ≤ i) → (i < at) ⊎ (at + n ≤ i)
    by_order (inl lt) = inl lt
    by_order (inr le) = inr (grind (arith, nat_tests, e, other, le))

pub number_put : (n at value : ℕ) (old new : List ℕ) → AreBytes new → length new ≡ length old → at + n ≤ length old → PutsNumber n at value old new → new ≡ with_bytes old at (little_bytes n value)
number_put n at value old new small long within puts = with_bytes_by old new at (little_bytes n value) long (λ i lt.
    let count = length-bytes_low_first 0 n value in
    cond_both (leb at i && ltb i (at + length (little_bytes n value))) (slice_index (little_bytes n value) (i - at)) (slice_index old i) (λ z. slice_index new i ≡ z)
    (λ e. number_inside n at value i new small (omega (arith, long, within)) puts.number (grind (arith, nat_tests, e, count)) (grind (arith, nat_tests, e, count)))
    (λ e. number_outside n at value i old new puts (below_or_behind n at (length (little_bytes n value)) i count e)))

-- ---- the words

abbrev whole_or : Resource → Cell → List ℕ → View → Option ℕ → Outcome (Unit {0})
whole_or r cell bytes view o = by_holder r o (ended [] (Gives tt (written cell bytes (with_taken r view))))

taken_now : (r : Resource) (view : View) → (with_taken r view).now ≡ view.now
taken_now r view = cond_both (is_among view.taken r) view (record view { taken = r ∷ view.taken }) (λ v. v.now ≡ view.now) (λ e. refl) (λ e. refl)

same_written : (r : Resource) (p at : ℕ) (bytes after : List ℕ) (view : View) → after ≡ with_bytes (page view.now p) at bytes
    → written (Bytes (record { 0 = p }) 0) after (with_taken r view) ≡ written (Bytes (record { 0 = p }) at) bytes (with_taken r view)
same_written r p at bytes after view is =
    ap (λ (now : Image). record (with_taken r view) { now = now })
    (subst (λ (now : Image). slice_set now p (with_bytes (page now p) 0 after) ≡ slice_set now p (with_bytes (page now p) at bytes)) (sym (taken_now r view))
    (ap (slice_set view.now p) (ap (with_bytes (page view.now p) 0) is ∙ with_bytes_whole (page view.now p) at bytes ∙ refl)))

-- the page was put with these bytes
pub part_written : {a b : PlanState} (looked : List ℕ) (r : Resource) (p at : ℕ) (bytes after : List ℕ) {result : Result (Unit {0}) PageStop} → (IsTrue a.told → after ≡ with_bytes (page a.view.now p) at bytes)
    → DoesAfter looked a b (write r (Bytes (record { 0 = p }) 0) after) result → DoesAfter looked a b (write r (Bytes (record { 0 = p }) at) bytes) result
unfolding write
part_written {a} looked r p at bytes after is d =
    does_as (write r (Bytes (record { 0 = p }) at) bytes)
    (λ told. ap (λ (v : View). (by_holder r (a.view.other r) (ended [] (Gives tt v))).ending) (same_written r p at bytes after a.view (is told)))
    (λ told q h. subst (λ (v : View). Contains (looked ++ (by_holder r (a.view.other r) (ended [] (Gives tt v))).reached) q) (same_written r p at bytes after a.view (is told)) h)
    d
