-- The extents near those of a table hold all that its chain marks.
use Rattle.std.proofs.Common.{◌≡◌, refl, ℕ, zero, suc, ◌+◌, ◌*◌, ◌/◌, ◌%◌, ◌<◌, ◌≤◌, true, false, Bool, List, [], ◌∷◌, ◌++◌, length, get_or, take, All, inl, inr, ap, sym, ◌∙◌, subst, arith, eqb, ltb, ◌&&◌, filter, map, if◌then◌else◌}
use Rattle.std.specs.List.{list_any, range_with_len}
use Rattle.std.specs.List.Sorted.{IsStrictlyIncreasing}
use Rattle.std.proofs.lemmas.Bool.{and_parts, or_cases, or_left, or_right, eqb-true, eq-eqb, ltb-true, lt-ltb, ne_eqb}
use Rattle.std.proofs.lemmas.List.{take_more, take_all, map-append}
use Rattle.std.proofs.lemmas.List.Elements.{filter-append}
use Rattle.std.proofs.lemmas.List.Folds.{Any-from_list_any, list_any_at}
use Rattle.spec_file.specs.declared.data.ExtentNo.{ExtentNo}
use Rattle.spec_file.specs.declared.geometry.Geometry.{Geometry}
use Rattle.law_net.proofs.Touched.{RiseIn}
use Rattle.db_alloc.specs.Drops.{extents}
use Rattle.db_alloc.specs.Marks.{marks, first_slots, is_in_slot, has_byte}
use Rattle.db_alloc.specs.Near.{AreNear, whole_extents}
use Rattle.db_alloc.proofs.NearPages.{rise_in, filter_near}

-- ---- rising numbers

first_in : (lo hi : ℕ) (ts : List ℕ) → RiseIn lo hi ts → 0 < length ts → lo ≤ get_or ts 0 0
first_in lo hi [] r some = absurd (omega (arith, some))
first_in lo hi (t ∷ ts) r some = r.0

rising_in : (lo hi : ℕ) (ts : List ℕ) → RiseIn lo hi ts → IsStrictlyIncreasing ts
rising_in lo hi [] r k l = absurd (omega (arith, l))
rising_in lo hi (t ∷ ts) r zero l =
    let next = first_in (t + 1) hi ts r.2 (omega (arith, l)) in
    let e : suc 0 ≡ 0 + 1 = omega arith in
    let up : t < get_or (t ∷ ts) (suc 0) 0 = omega (arith, next) in
    subst (λ n. t < get_or (t ∷ ts) n 0) e up
rising_in lo hi (t ∷ ts) r (suc k) l =
    let e : suc (k + 1) ≡ suc k + 1 = omega arith in
    subst (λ n. get_or ts k 0 < get_or (t ∷ ts) n 0) e (rising_in (t + 1) hi ts r.2 k (omega (arith, l)))

below_in : (lo hi : ℕ) (ts : List ℕ) → RiseIn lo hi ts → All (λ t. t < hi) ts
below_in lo hi [] r k d lt = absurd (omega (arith, lt))
below_in lo hi (t ∷ ts) r zero d lt = r.1
below_in lo hi (t ∷ ts) r (suc k) d lt = below_in (t + 1) hi ts r.2 k d (omega (arith, lt))

-- ---- the extents whose first pages are near

abbrev is_whole : ℕ → ℕ → Bool
is_whole pages p = eqb (p % 8) 0 && ltb (p / 8) (pages / 8)

whole_one : (pages p : ℕ) (whole : Bool) → is_whole pages p ≡ whole → whole_extents pages (p ∷ []) ≡ (if whole then p / 8 ∷ [] else [])
whole_one pages p true e = rw e refl
whole_one pages p false e = rw e refl

pub whole_then : (pages p : ℕ) (whole : Bool) → p % 8 ≡ 0 → whole ≡ ltb (p / 8) (pages / 8) → is_whole pages p ≡ whole
whole_then pages p whole first is = ap (λ b. b && ltb (p / 8) (pages / 8)) (eq-eqb (p % 8) 0 first) ∙ sym is

pub whole_else : (pages p : ℕ) (whole : Bool) → (p % 8 ≡ 0 → ⊥) → whole ≡ eqb (p % 8) 0 → is_whole pages p ≡ whole
whole_else pages p whole later is = let no = ne_eqb (p % 8) 0 later in ap (λ b. b && ltb (p / 8) (pages / 8)) no ∙ sym (is ∙ no)

-- one page more is near
pub whole_more : (pages i : ℕ) (near old new : List ℕ) (whole : Bool) → i < length near → is_whole pages (get_or near i 0) ≡ whole → old ≡ whole_extents pages (take i near)
    → new ≡ old ++ (if whole then get_or near i 0 / 8 ∷ [] else []) → new ≡ whole_extents pages (take (i + 1) near)
whole_more pages i near old new whole lt is before pushed =
    let p = get_or near i 0 in
    let half : ℕ → ℕ = λ q. q / 8 in
    pushed ∙ ap (λ xs. xs ++ (if whole then p / 8 ∷ [] else [])) before
    ∙ ap (λ xs. whole_extents pages (take i near) ++ xs) (sym (whole_one pages p whole is))
    ∙ sym (map-append half (filter (is_whole pages) (take i near)) (filter (is_whole pages) (p ∷ [])))
    ∙ ap (map half) (sym (filter-append (is_whole pages) (take i near) (p ∷ [])))
    ∙ ap (whole_extents pages) (sym (take_more near i 0 lt))

whole_by : (P : List ℕ → Type 0) (pages t : ℕ) (ts : List ℕ) (whole : Bool) → is_whole pages t ≡ whole → (is_whole pages t ≡ true → P (t / 8 ∷ whole_extents pages ts)) → P (whole_extents pages ts)
    → P (whole_extents pages (t ∷ ts))
whole_by P pages t ts true e taken passed = rw e (taken e)
whole_by P pages t ts false e taken passed = rw e passed

wholes_rise : (pages m lo : ℕ) (ts : List ℕ) → 8 * m ≤ lo + 7 → RiseIn lo pages ts → RiseIn m (pages / 8) (whole_extents pages ts)
wholes_rise pages m lo [] low r = tt
wholes_rise pages m lo (t ∷ ts) low r =
    let up = r.0 in
    whole_by (RiseIn m (pages / 8)) pages t ts (is_whole pages t) refl
    (λ e.
    let parts = and_parts (eqb (t % 8) 0) (ltb (t / 8) (pages / 8)) e in
    let whole = eqb-true (t % 8) 0 parts.0 in
    (omega (arith, low, up, whole), ltb-true (t / 8) (pages / 8) parts.1, wholes_rise pages (t / 8 + 1) (t + 1) ts (omega (arith, whole)) r.2))
    (wholes_rise pages m (t + 1) ts (omega (arith, low, up)) r.2)

whole_at : (pages e : ℕ) → e < pages / 8 → is_whole pages (8 * e) ≡ true
whole_at pages e below =
    let none : (8 * e) % 8 ≡ 0 = omega arith in
    let same : 8 * e / 8 ≡ e = omega arith in
    rw (none, same) (lt-ltb e (pages / 8) below)

wholes_in : (pages e : ℕ) (ts : List ℕ) → e < pages / 8 → list_any (λ t. eqb t (8 * e)) ts ≡ true → list_any (λ t. eqb t e) (whole_extents pages ts) ≡ true
wholes_in pages e [] below h = h
wholes_in pages e (t ∷ ts) below h = elim (or_cases (eqb t (8 * e)) (list_any (λ t. eqb t (8 * e)) ts) h) [
  | inl here ↦
      let same = eqb-true t (8 * e) here in
      let half : t / 8 ≡ e = omega (arith, same) in
      let whole : is_whole pages t ≡ true = ap (is_whole pages) same ∙ whole_at pages e below in
      rw whole (or_left (eqb (t / 8) e) (list_any (λ t. eqb t e) (whole_extents pages ts)) (eq-eqb (t / 8) e half))
  | inr later ↦
      let found = wholes_in pages e ts below later in
      whole_by (λ es. list_any (λ t. eqb t e) es ≡ true) pages t ts (is_whole pages t) refl (λ _. or_right (eqb (t / 8) e) (list_any (λ t. eqb t e) (whole_extents pages ts)) found) found
]

-- so all that are marked are among them
pub wholes_near : (pages : ℕ) (g : Geometry) (iams : List (List ℕ)) (near : List ℕ) → AreNear pages (has_byte g iams) near → AreNear (pages / 8) (λ e. list_any (marks g (8 * e)) iams) (whole_extents pages near)
wholes_near pages g iams near are =
    let rise = wholes_rise pages 0 0 near (omega arith) (rise_in 0 pages near are.rise are.inside (λ some. omega arith)) in
    record {
      rise = rising_in 0 (pages / 8) (whole_extents pages near) rise;
      inside = below_in 0 (pages / 8) (whole_extents pages near) rise;
      all = λ e below marked.
          let there = are.all (8 * e) (omega (arith, below)) (or_right (is_in_slot (first_slots iams) (8 * e)) (list_any (marks g (8 * e)) iams) marked) in
          let found = Any-from_list_any (λ t. eqb t e) (whole_extents pages near) (wholes_in pages e near below (list_any_at (λ t. eqb t (8 * e)) near there.0 (8 * e) there.1 (eq-eqb _ (8 * e) there.2))) in
          let same = eqb-true found.1 e found.4 in
          (found.0, found.2, subst (λ x. get_or (whole_extents pages near) found.0 x ≡ x) same found.3);
    }

-- a finer test
near_finer : (n : ℕ) (test finer : ℕ → Bool) (near : List ℕ) → ((p : ℕ) → finer p ≡ true → test p ≡ true) → AreNear n test near → AreNear n finer near
near_finer n test finer near within are = record {
  rise = are.rise;
  inside = are.inside;
  all = λ p below yes. are.all p below (within p yes);
}

-- ---- lists of extents

pub extents_more : (es : List ExtentNo) (i : ℕ) (d : ExtentNo) → i < length es → extents (take (i + 1) es) ≡ extents (take i es) ++ (get_or es i d).0 ∷ []
extents_more es i d lt = ap extents (take_more es i d lt) ∙ map-append (λ (e : ExtentNo). e.0) (take i es) (get_or es i d ∷ [])

-- what a finer test keeps of all that are near, it keeps of all
pub left_near : (n : ℕ) (test finer : ℕ → Bool) (es : List ExtentNo) (i : ℕ) → length es ≤ i → ((p : ℕ) → finer p ≡ true → test p ≡ true) → AreNear n test (extents es)
    → filter finer (extents (take i es)) ≡ filter finer (range_with_len 0 n)
left_near n test finer es i end within are =
    ap (λ (xs : List ExtentNo). filter finer (extents xs)) (take_all i es end) ∙ filter_near n finer (extents es) (near_finer n test finer (extents es) within are)
