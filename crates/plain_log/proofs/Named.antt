-- An item by its LSN, in the log's own order.
use Rattle.std.proofs.Common.{◌≡◌, ℕ, zero, suc, ◌+◌, ◌-◌, ◌<◌, ◌≤◌, eqb, ltb, List, [], ◌∷◌, length, get_or, take, reverse, take_all, Some, None, ◌⊎◌, inl, inr, refl, sym, ap, ◌∙◌, subst, arith}
use Rattle.std.specs.Prelude.{if◌then◌else◌, slice_get}
use Rattle.std.proofs.lemmas.Bool.{eqb-true, eqb-false, ne_eqb, cond_both, cases_Bool, ltb-true, ltb-false}
use Rattle.std.proofs.lemmas.List.{length-reverse}
use Rattle.std.proofs.lemmas.Option.{slice_get-get_or}
use Rattle.spec_log.specs.declared.item.Record.{Record}
use Rattle.spec_log.specs.declared.item.Record.TheVariants.{Snap}
use Rattle.spec_log.specs.Log.{item_at}
use Rattle.plain_log.proofs.Reverse.{reverse_take_more}

pub length_take : (xs : List Record) (n : ℕ) → n ≤ length xs → length (take n xs) ≡ n
length_take [] zero h = refl
length_take [] (suc n) h = absurd (omega arith)
length_take (x ∷ xs) zero h = refl
length_take (x ∷ xs) (suc n) h = ap suc (length_take xs n (omega arith))

below_if : (number at long : ℕ) → long ≡ at → number ≤ suc at → (number ≡ long + 1 → ⊥) → number ≤ at
below_if number at long e h n = omega (arith, e, h, n)

pub by_number : (items : List Record) (at number : ℕ) (d : Record) → at ≤ length items → 0 < number → number ≤ at → item_at (reverse (take at items)) number ≡ Some (get_or items (number - 1) d)
by_number items zero number d inside above below = absurd (omega (arith, above, below))
by_number items (suc at) number d inside above below =
    let lt : at < length items = omega (arith, inside) in
    let more : reverse (take (at + 1) items) ≡ get_or items at d ∷ reverse (take at items) = reverse_take_more items at d lt in
    let one : suc at ≡ at + 1 = omega arith in
    let long : length (reverse (take at items)) ≡ at = length-reverse (take at items) ∙ length_take items at (omega (arith, lt)) in
    ap (λ n. item_at (reverse (take n items)) number) one ∙ ap (λ g. item_at g number) more
    ∙ cond_both (eqb number (length (reverse (take at items)) + 1)) (Some (get_or items at d)) (item_at (reverse (take at items)) number) (λ o. o ≡ Some (get_or items (number - 1) d))
    (λ e. let same = eqb-true number (length (reverse (take at items)) + 1) e in
    let place : at ≡ number - 1 = omega (arith, same, long) in ap (λ k. Some (get_or items k d)) place)
    (λ e. let differ = eqb-false number (length (reverse (take at items)) + 1) e in
    by_number items at number d (omega (arith, lt)) above (below_if number at (length (reverse (take at items))) long below differ))

past : (number : ℕ) (g : List Record) → (number ≡ 0) ⊎ (length g < number) → item_at g number ≡ None
past number [] out = refl
past number (x ∷ g) out =
    let differ : number ≡ length g + 1 → ⊥ = λ e. elim out [ inl z ↦ omega (arith, e, z) | inr lt ↦ omega (arith, e, lt) ] in
    ap (λ b. if b then Some x else item_at g number) (ne_eqb number (length g + 1) differ)
    ∙ past number g (elim out [ inl z ↦ inl z | inr lt ↦ inr (omega (arith, lt)) ])

pub none_at_zero : (items : List Record) → None ≡ item_at (reverse items) 0
none_at_zero items = sym (past 0 (reverse items) (inl refl))

slice_get_past : (xs : List Record) (i : ℕ) → length xs ≤ i → slice_get xs i ≡ None
slice_get_past [] i h = refl
slice_get_past (x ∷ xs) zero h = absurd (omega arith)
slice_get_past (x ∷ xs) (suc i) h = slice_get_past xs i (omega arith)

pub got_at : (items : List Record) (number : ℕ) → 0 < number → slice_get items (number - 1) ≡ item_at (reverse items) number
got_at items number above = elim (cases_Bool (ltb (number - 1) (length items))) [
  | inl e ↦
      let lt : number - 1 < length items = ltb-true (number - 1) (length items) e in
      slice_get-get_or items (number - 1) (Snap 0 0) lt
      ∙ sym (ap (λ xs. item_at (reverse xs) number) (sym (take_all (length items) items (omega arith))) ∙ by_number items (length items) number (Snap 0 0) (omega arith) above (omega (arith, lt, above)))
  | inr e ↦
      let ge : length items ≤ number - 1 = ltb-false (number - 1) (length items) e in
      slice_get_past items (number - 1) ge ∙ sym (past number (reverse items) (inr (subst (λ n. n < number) (sym (length-reverse items)) (omega (arith, ge, above)))))
]
