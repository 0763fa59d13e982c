-- A number above all transactions is new.
use Rattle.std.proofs.Common.{◌≡◌, ℕ, ◌<◌, ◌≤◌, Bool, true, false, ltb, List, [], ◌∷◌, ◌++◌, inl, inr, refl, arith}
use Rattle.std.proofs.lemmas.Bool.{false≢true, or_cases, and_parts}
use Rattle.spec_log.specs.declared.item.Record.{Record}
use Rattle.spec_log.proofs.ItemLaws.{starts_tran, ends_tran, undoes_tran}
use Rattle.spec_log.specs.Log.{starts, ends, undoes, has_started, has_ended, has_undone, greatest_of}
use Rattle.spec_log.specs.Sound.{is_old}

pub started_below : (g : List Record) (t : ℕ) → has_started g t ≡ true → t ≤ greatest_of g
started_below [] t h = absurd (false≢true h)
started_below (x ∷ g) t h = elim (or_cases (starts t x) (has_started g t) h) [
  | inl a ↦ let e = starts_tran t x a in omega (arith, e)
  | inr a ↦ let e = started_below g t a in omega (arith, e)
]

ended_below : (g : List Record) (t : ℕ) → has_ended g t ≡ true → t ≤ greatest_of g
ended_below [] t h = absurd (false≢true h)
ended_below (x ∷ g) t h = elim (or_cases (ends t x) (has_ended g t) h) [
  | inl a ↦ let e = ends_tran t x a in omega (arith, e)
  | inr a ↦ let e = ended_below g t a in omega (arith, e)
]

undone_below : (g : List Record) (t : ℕ) → has_undone g t ≡ true → t ≤ greatest_of g
undone_below [] t h = absurd (false≢true h)
undone_below (x ∷ g) t h = elim (or_cases (undoes t x) (has_undone g t) h) [
  | inl a ↦ let e = undoes_tran t x a in omega (arith, e)
  | inr a ↦ let e = undone_below g t a in omega (arith, e)
]

pub false_if : (b : Bool) → (b ≡ true → ⊥) → b ≡ false
false_if true h = absurd (h refl)
false_if false h = refl

pub not_started_above : (g : List Record) (t : ℕ) → greatest_of g < t → has_started g t ≡ false
not_started_above g t lt = false_if (has_started g t) (λ h. let e = started_below g t h in omega (arith, e))

pub not_ended_above : (g : List Record) (t : ℕ) → greatest_of g < t → has_ended g t ≡ false
not_ended_above g t lt = false_if (has_ended g t) (λ h. let e = ended_below g t h in omega (arith, e))

greatest-newer : (log opened : List Record) → greatest_of log ≤ greatest_of (log ++ opened)
greatest-newer [] opened = omega arith
greatest-newer (x ∷ log) opened = let e = greatest-newer log opened in omega (arith, e)

greatest-older : (log opened : List Record) → greatest_of opened ≤ greatest_of (log ++ opened)
greatest-older [] opened = omega arith
greatest-older (x ∷ log) opened = let e = greatest-older log opened in omega (arith, e)

pub not_undone_above : (log opened : List Record) (t : ℕ) → greatest_of (log ++ opened) < t → has_undone log t ≡ false
not_undone_above log opened t lt = false_if (has_undone log t) (λ h.
    let e = undone_below log t h in
    let f = greatest-newer log opened in omega (arith, e, f))

pub not_old_above : (log opened : List Record) (t : ℕ) → greatest_of (log ++ opened) < t → is_old opened t ≡ false
not_old_above log opened t lt = false_if (is_old opened t) (λ h.
    let e = started_below opened t (and_parts (ltb 0 t) (has_started opened t) h).1 in
    let f = greatest-older log opened in omega (arith, e, f))
