-- The pages that a statement put: they rise, and all that is shown otherwise is on them.
use Rattle.std.proofs.Common.{◌≡◌, ℕ, zero, suc, ◌+◌, ◌<◌, ◌≤◌, Bool, true, false, eqb, ◌||◌, List, [], ◌∷◌, inl, inr, refl, sym, ap, ◌∙◌, arith, Contains}
use Rattle.std.proofs.lemmas.Bool.{cases_Bool, false≢true, and_parts, or_cases, or_left, or_right, eqb-true, eq-eqb, ltb-true, both_ways}
use Rattle.spec_file.specs.declared.data.PageNo.{PageNo}
use Rattle.law_net.proofs.Touched.{RiseIn, is_in, Has}
use Rattle.db_locks.specs.States.{are_rising, begins_above}
use Rattle.net_changes.specs.Shown.{is_put, numbers}

same_page : (q p : PageNo) → q.0 ≡ p.0 → q ≡ p
same_page q p e = ap (λ (k : ℕ). record { 0 = k }) e

pub contains_put : (ps : List PageNo) (p : PageNo) → is_put ps p.0 ≡ true → Contains ps p
contains_put [] p h = absurd (false≢true h)
contains_put (q ∷ ps) p h = elim (or_cases (eqb q.0 p.0) (is_put ps p.0) h) [
  | inl e ↦ (zero, omega arith, same_page q p (eqb-true q.0 p.0 e))
  | inr e ↦ let r = contains_put ps p e in let lt = r.1 in (suc r.0, omega (arith, lt), r.2)
]

put_contains : (ps : List PageNo) (p : PageNo) → Contains ps p → is_put ps p.0 ≡ true
put_contains [] p c = absurd (let lt = c.1 in omega (arith, lt))
put_contains (q ∷ ps) p (zero, lt, same) = or_left (eqb q.0 p.0) (is_put ps p.0) (eq-eqb q.0 p.0 (ap (λ (r : PageNo). r.0) same))
put_contains (q ∷ ps) p (suc k, lt, same) = or_right (eqb q.0 p.0) (is_put ps p.0) (put_contains ps p (k, omega (arith, lt), same))

-- a page that is among these, by the list of pages or by their numbers
put_is_in : (ps : List PageNo) (x : ℕ) → is_put ps x ≡ is_in (numbers ps) x
put_is_in [] x = refl
put_is_in (p ∷ ps) x = ap (λ b. eqb p.0 x || b) (put_is_in ps x)

head_in : (p : PageNo) (ps : List PageNo) → Contains (p ∷ ps) p
head_in p ps = (zero, omega arith, refl)

tail_in : (p q : PageNo) (ps : List PageNo) → Contains ps q → Contains (p ∷ ps) q
tail_in p q ps c = let lt = c.1 in (suc c.0, omega (arith, lt), c.2)

abbrev From : ℕ → List PageNo → Type 0
From low [] = Unit {0}
From low (p ∷ ps) = low ≤ p.0

rise_from : (ps : List PageNo) (low n : ℕ) → From low ps → are_rising ps ≡ true → ((p : PageNo) → Contains ps p → p.0 < n) → RiseIn low n (numbers ps)
rise_from [] low n from rising inside = tt
rise_from (p ∷ ps) low n from rising inside =
    let parts = and_parts (begins_above p.0 ps) (are_rising ps) rising in
    (from, inside p (head_in p ps), rise_from ps (p.0 + 1) n (above p ps parts.0) parts.1 (λ q c. inside q (tail_in p q ps c)))
  where
    above : (p : PageNo) (ps : List PageNo) → begins_above p.0 ps ≡ true → From (p.0 + 1) ps
    above p [] h = tt
    above p (q ∷ rest) h = let lt = ltb-true p.0 q.0 h in omega (arith, lt)

none_lower : (ps : List PageNo) → From 0 ps
none_lower [] = tt
none_lower (p ∷ ps) = omega arith

pub put_rise : (ps : List PageNo) (n : ℕ) → are_rising ps ≡ true → ((p : PageNo) → Contains ps p → p.0 < n) → RiseIn 0 n (numbers ps)
put_rise ps n rising inside = rise_from ps 0 n (none_lower ps) rising inside

-- a test that no other page passes
pub put_has : (test : ℕ → Bool) (ps : List PageNo) (n : ℕ) → ((p : PageNo) → (Contains ps p → ⊥) → test p.0 ≡ false) → Has test 0 n (numbers ps)
put_has test ps n others x low high passes = elim (cases_Bool (is_put ps x)) [
  | inl there ↦ sym (put_is_in ps x) ∙ there
  | inr missing ↦ absurd (both_ways (test x) (others (record { 0 = x }) (λ c. both_ways (is_put ps x) missing (put_contains ps (record { 0 = x }) c))) passes)
]
