-- The row towards a key, in rows whose keys rise.
use Rattle.std.proofs.Common.{◌≡◌, ℕ, suc, ◌<◌, ◌≤◌, Bool, true, false, List, [], ◌∷◌, ◌++◌, Option, Some, None, nat_lt, refl, sym, ap, ◌∙◌, inl, inr, arith}
use Rattle.std.specs.Prelude.{if◌then◌else◌}
use Rattle.std.proofs.lemmas.Bool.{cases_Bool, lt-ltb, le-ltb, ltb-true, eq-eqb, ne_eqb}
use Rattle.spec_levels.specs.Levels.{Row}
use Rattle.spec_ways.specs.Rows.{without, is_below_first}
use Rattle.spec_ways.specs.Ways.{are_above, row_toward, key_toward, with_behind, without_toward}
use Rattle.spec_ways.specs.Sinks.{edge_of}
use Rattle.law_ways.proofs.Bounds.{Within, toward_by}
use Rattle.law_ways.proofs.ByKey.{edge_by_key}
use Rattle.law_ways.proofs.RowLaws.{without_same, without_other}

either : {A : Type 0} (b : Bool) (x y z : A) → y ≡ z → (if b then x else y) ≡ (if b then x else z)
either b x y z e = ap (λ w. if b then x else w) e

pub above_true : (k low : ℕ) (high : Option ℕ) (rest : List (Row ℕ)) → k < low → Within low high rest → are_above k rest ≡ true
above_true k low high [] less w = refl
above_true k low high (s ∷ rest) less w = let e = lt-ltb k s.key (omega (arith, less, w.0)) in rw e (above_true k (suc s.key) high rest (omega (arith, less, w.0)) w.2)

pub above_false : (k : ℕ) (s : Row ℕ) (rest : List (Row ℕ)) → nat_lt k s.key ≡ false → are_above k (s ∷ rest) ≡ false
above_false k s rest e = rw e refl

pub above_first : (k low : ℕ) (high : Option ℕ) (rest : List (Row ℕ)) → is_below_first k rest ≡ true → Within low high rest → are_above k rest ≡ true
above_first k low high [] e w = refl
above_first k low high (s ∷ rest) e w = above_true k s.key high (s ∷ rest) (ltb-true k s.key e) (omega arith, w.1, w.2)

pub toward_here : (of : Row ℕ → ℕ) (k low : ℕ) (high : Option ℕ) (r : Row ℕ) (rest : List (Row ℕ)) → is_below_first k rest ≡ true → Within low high rest → toward_by of k (r ∷ rest) ≡ of r
toward_here of k low high r rest e w = ap (λ (b : Bool). of (if b then r else row_toward k rest)) (above_first k low high rest e w)

pub toward_later : (of : Row ℕ → ℕ) (k : ℕ) (r : Row ℕ) (rest : List (Row ℕ)) → is_below_first k rest ≡ false → toward_by of k (r ∷ rest) ≡ toward_by of k rest
toward_later of k r [] e = absurd (cc)
toward_later of k r (s ∷ rest) e = ap (λ (b : Bool). of (if b then r else row_toward k (s ∷ rest))) (above_false k s rest e)

-- rows behind, whose keys are above
above_append : (k : ℕ) (xs ys : List (Row ℕ)) → Within (suc k) None ys → are_above k (xs ++ ys) ≡ are_above k xs
above_append k [] ys w = above_true k (suc k) None ys (omega arith) w
above_append k (x ∷ xs) ys w = ap (λ (b : Bool). if nat_lt k x.key then b else false) (above_append k xs ys w)

pub row_left : (k : ℕ) (x : Row ℕ) (xs ys : List (Row ℕ)) → Within (suc k) None ys → row_toward k (x ∷ xs ++ ys) ≡ row_toward k (x ∷ xs)
row_left k x [] ys w = ap (λ (b : Bool). if b then x else row_toward k ys) (above_true k (suc k) None ys (omega arith) w)
row_left k x (z ∷ zs) ys w =
    ap (λ (b : Bool). if b then x else row_toward k (z ∷ zs ++ ys)) (above_append k (z ∷ zs) ys w)
    ∙ either (are_above k (z ∷ zs)) x (row_toward k (z ∷ zs ++ ys)) (row_toward k (z ∷ zs)) (row_left k z zs ys w)

-- rows in front of one that isn't above
not_above : (k : ℕ) (xs : List (Row ℕ)) (y : Row ℕ) (ys : List (Row ℕ)) → y.key ≤ k → are_above k (xs ++ y ∷ ys) ≡ false
not_above k [] y ys le = above_false k y ys (le-ltb k y.key le)
not_above k (x ∷ xs) y ys le = ap (λ (b : Bool). if nat_lt k x.key then b else false) (not_above k xs y ys le) ∙ both (nat_lt k x.key)
  where
    both : (b : Bool) → (if b then false else false) ≡ false
    both true = refl
    both false = refl

pub row_right : (k : ℕ) (xs : List (Row ℕ)) (y : Row ℕ) (ys : List (Row ℕ)) → y.key ≤ k → row_toward k (xs ++ y ∷ ys) ≡ row_toward k (y ∷ ys)
row_right k [] y ys le = refl
row_right k (x ∷ xs) y ys le = ap (λ (b : Bool). if b then x else row_toward k (xs ++ y ∷ ys)) (not_above k xs y ys le) ∙ row_right k xs y ys le

-- what is done at that row is done at its key
pub behind_here : (k : ℕ) (u r : Row ℕ) (rest : List (Row ℕ)) → are_above k rest ≡ true → with_behind k u (r ∷ rest) ≡ r ∷ u ∷ rest
behind_here k u r rest e = rw e refl

pub behind_later : (k : ℕ) (u r : Row ℕ) (rest : List (Row ℕ)) → are_above k rest ≡ false → with_behind k u (r ∷ rest) ≡ r ∷ with_behind k u rest
behind_later k u r rest e = rw e refl

toward_least : (k : ℕ) (high : Option ℕ) (r : Row ℕ) (rest : List (Row ℕ)) → Within r.key high (r ∷ rest) → r.key ≤ key_toward k (r ∷ rest)
toward_least k high r [] w = omega arith
toward_least k high r (s ∷ rest) w = elim (cases_Bool (nat_lt k s.key)) [
  | inl e ↦ let f = toward_here (λ x. x.key) k (suc r.key) high r (s ∷ rest) e w.2 in omega (arith, f)
  | inr e ↦
      let f = toward_later (λ x. x.key) k r (s ∷ rest) e in
      let g = toward_least k high s rest (omega arith, w.2.1, w.2.2) in omega (arith, f, g, w.2.0)
]

pub without_slot : (k : ℕ) (high : Option ℕ) (r : Row ℕ) (rest : List (Row ℕ)) → Within r.key high (r ∷ rest) → without_toward k (r ∷ rest) ≡ without (key_toward k (r ∷ rest)) (r ∷ rest)
without_slot k high r [] w = sym (without_same r.key r [] refl)
without_slot k high r (s ∷ rest) w = elim (cases_Bool (nat_lt k s.key)) [
  | inl e ↦
      let above = above_first k (suc r.key) high (s ∷ rest) e w.2 in
      let key = toward_here (λ x. x.key) k (suc r.key) high r (s ∷ rest) e w.2 in
      ap (λ (b : Bool). if b then s ∷ rest else r ∷ without_toward k (s ∷ rest)) above
      ∙ sym (ap (λ (j : ℕ). without j (r ∷ s ∷ rest)) key ∙ without_same r.key r (s ∷ rest) refl)
  | inr e ↦
      let above = above_false k s rest e in
      let key = toward_later (λ x. x.key) k r (s ∷ rest) e in
      let least = toward_least k high s rest (omega arith, w.2.1, w.2.2) in
      ap (λ (b : Bool). if b then s ∷ rest else r ∷ without_toward k (s ∷ rest)) above
      ∙ ap (λ l. r ∷ l) (without_slot k high s rest (omega arith, w.2.1, w.2.2))
      ∙ sym (ap (λ (j : ℕ). without j (r ∷ s ∷ rest)) key ∙ without_other (key_toward k (s ∷ rest)) r (s ∷ rest) (λ same. omega (arith, same, least, w.2.0)))
]

pub edge_slot : (k : ℕ) (high : Option ℕ) (r : Row ℕ) (rest : List (Row ℕ)) → Within r.key high (r ∷ rest) → edge_of k (r ∷ rest) ≡ edge_by_key (key_toward k (r ∷ rest)) (r ∷ rest)
edge_slot k high r [] w = let e = eq-eqb r.key r.key refl in rw e refl
edge_slot k high r (s ∷ rest) w = elim (cases_Bool (nat_lt k s.key)) [
  | inl e ↦
      let above = above_first k (suc r.key) high (s ∷ rest) e w.2 in
      let key = toward_here (λ x. x.key) k (suc r.key) high r (s ∷ rest) e w.2 in
      ap (λ (b : Bool). if b then Some r.key else None) above
      ∙ sym (ap (λ (j : ℕ). edge_by_key j (r ∷ s ∷ rest)) key ∙ ap (λ (b : Bool). if b then Some r.key else None) (eq-eqb r.key r.key refl))
  | inr e ↦
      let above = above_false k s rest e in
      let key = toward_later (λ x. x.key) k r (s ∷ rest) e in
      let least = toward_least k high s rest (omega arith, w.2.1, w.2.2) in
      let q = key_toward k (s ∷ rest) in
      ap (λ (b : Bool). if b then Some r.key else None) above
      ∙ sym (ap (λ (j : ℕ). edge_by_key j (r ∷ s ∷ rest)) key ∙ ap (λ (b : Bool). if b then Some q else None) (ne_eqb q r.key (λ same. omega (arith, same, least, w.2.0))))
]
