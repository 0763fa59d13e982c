-- The runs of a PFS page, byte by byte.
use Rattle.std.proofs.Common.{◌≡◌, ℕ, suc, ◌+◌, ◌-◌, ◌%◌, ◌<◌, Bool, true, false, not, List, [], ◌∷◌, ◌++◌, refl, sym, ap, ◌∙◌, arith}
use Rattle.std.specs.Prelude.{if◌then◌else◌, slice_index, map}
use Rattle.std.proofs.lemmas.Bool.{and_left, eq-eqb}
use Rattle.spec_file.specs.Image.{maps_start}
use Rattle.spec_plan.specs.declared.plan.Planned.{Planned}
use Rattle.spec_plan.specs.Changes.{bytes_change}
use Rattle.net_changes.specs.Bytes.{is_differing, differing_length, begins_at, run_between, runs_between}
use Rattle.net_changes.proofs.BitLaws.{with_part, nothing}
use Rattle.net_changes.proofs.Ranges.{map_parts, none_pass}

pub runs_none : (q : ℕ) (old new : List ℕ) (low : ℕ) → runs_between q old new low 0 ≡ []
unfolding runs_between
runs_none q old new low = refl

pub runs_parts : (q : ℕ) (old new : List ℕ) (low m n : ℕ) → runs_between q old new low (m + n) ≡ runs_between q old new low m ++ runs_between q old new (low + m) n
unfolding runs_between
runs_parts q old new low m n = map_parts (begins_at old new) (run_between q old new) low m n

run_begins : (q : ℕ) (old new : List ℕ) (k : ℕ) → begins_at old new k ≡ true → runs_between q old new k 1 ≡ run_between q old new k ∷ []
unfolding runs_between
run_begins q old new k e = ap (λ b. map (run_between q old new) (if b then k ∷ [] else [])) e

no_run : (q : ℕ) (old new : List ℕ) (k : ℕ) → begins_at old new k ≡ false → runs_between q old new k 1 ≡ []
unfolding runs_between
no_run q old new k e = ap (λ b. map (run_between q old new) (if b then k ∷ [] else [])) e

pub runs_same : (q : ℕ) (xs ys : List ℕ) (low n : ℕ) → xs ≡ ys → runs_between q xs ys low n ≡ []
unfolding runs_between
runs_same q xs ys low n e = ap (map (run_between q xs ys)) (none_pass (begins_at xs ys) n low
    (λ k a b. and_left (is_differing xs ys (maps_start + k)) _ (ap not (eq-eqb (slice_index xs (maps_start + k)) (slice_index ys (maps_start + k)) (ap (λ zs. slice_index zs (maps_start + k)) e)))))

-- one byte after those before it
pub run_step : (q : ℕ) (old new : List ℕ) (k : ℕ) (all before olds : List Planned) → before ≡ olds ++ runs_between q old new 0 k →
    all ≡ before ++ runs_between q old new k 1 → all ≡ olds ++ runs_between q old new 0 (k + 1)
run_step q old new k all before olds e f =
    with_part all before olds (runs_between q old new 0 k) (runs_between q old new k 1) e f
    ∙ ap (λ xs. olds ++ xs) (sym (runs_parts q old new 0 k 1 ∙ ap (λ n. runs_between q old new 0 k ++ runs_between q old new n 1) (none k)))
  where
    none : (n : ℕ) → 0 + n ≡ n
    none n = omega arith

-- the length of a run, as it is counted: n bytes differ, and of those behind them at most so many more
pub length_more : (old new : List ℕ) (at n most : ℕ) → n < most → is_differing old new (at + n) ≡ true →
    n + differing_length old new (most - n) (at + n) ≡ n + 1 + differing_length old new (most - (n + 1)) (at + (n + 1))
length_more old new at n most lt e =
    let next : most - n ≡ suc (most - (n + 1)) = omega (arith, lt) in
    let there : at + n + 1 ≡ at + (n + 1) = omega arith in
    let opened : differing_length old new (most - n) (at + n) ≡ 1 + differing_length old new (most - (n + 1)) (at + (n + 1)) =
    ap (λ m. differing_length old new m (at + n)) next
    ∙ ap (λ b. if b then 1 + differing_length old new (most - (n + 1)) (at + n + 1) else 0) e ∙ ap (λ i. 1 + differing_length old new (most - (n + 1)) i) there in
    omega (arith, opened)

pub run_added : (q k n : ℕ) (old new : List ℕ) (all olds : List Planned) (b : Bool) (change : Planned) → b ≡ begins_at old new k → b ≡ true →
    n ≡ differing_length old new (8 - k % 8) (maps_start + k) → change ≡ bytes_change q old new (maps_start + k) (maps_start + k + n) → all ≡ olds ++ change ∷ [] →
    all ≡ olds ++ runs_between q old new k 1
run_added q k n old new all olds b change said begins size is added =
    added ∙ ap (λ (c : Planned). olds ++ (c ∷ [])) (is ∙ ap (λ m. bytes_change q old new (maps_start + k) (maps_start + k + m)) size)
    ∙ ap (λ zs. olds ++ zs) (sym (run_begins q old new k (sym said ∙ begins)))

pub run_kept : (q k : ℕ) (old new : List ℕ) (olds : List Planned) (b : Bool) → b ≡ begins_at old new k → b ≡ false → olds ≡ olds ++ runs_between q old new k 1
run_kept q k old new olds b said none = nothing olds (runs_between q old new k 1) (no_run q old new k (sym said ∙ none))
