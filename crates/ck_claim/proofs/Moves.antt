-- Each step keeps the rule.
use Rattle.std.proofs.Common.{◌≡◌, ◌≢◌, ◌≤◌, ◌<◌, ◌+◌, ◌-◌, ◌^◌, ◌%◌, ℕ, Bool, true, false, true≢false, List, [], ◌∷◌, ◌++◌, length, set, min, refl, sym, ap, ◌∙◌, subst, ⊎_elim, arith, length-set, get_or-set_same}
use Rattle.std.specs.Prelude.{slice_index, nat_lt, ◌||◌, if◌then◌else◌}
use Rattle.std.specs.List.{sum_by}
use Rattle.std.proofs.lemmas.Bool.Decides.{nat_tests}
use Rattle.std.proofs.lemmas.List.Sums.{sum_by_push}
use mathlib.Core.Option.{none, some, some-ne-none, some-injective}
use lib.ListN.{get_elem?}
use Rattle.atomic_table.specs.Table.{Me, State, step, keeps, stepped, Allows, Splits, Joins, Seen}
use Rattle.atomic_table.proofs.Lists.{at_set, at_snoc, set_again}
use Rattle.ck_claim.specs.declared.rule.SeatView.{SeatView}
use Rattle.ck_claim.specs.declared.rule.Bounds.{Bounds}
use Rattle.ck_claim.specs.Shown.{IsEachBelow, numbers_below}
use Rattle.ck_claim.specs.Rule.{seat_view, spent, once_below, parts_of, knowing_parts, times_drawn, Fits, Fitting, IsKept, drew, Drew, with_one_less, with_one_part, joined, Looked}
use Rattle.ck_claim.proofs.Counts.{times-append, once_more, same_times, times-numbers_below}
use Rattle.ck_claim.proofs.Views.{sum_by-set, in_sum, sum_by-le, sum_by-alone, fits-set}

-- the rule holds where the word and the views fit
placed : (k : Bounds) (s : State (Unit {0}) SeatView) (n : ℕ) (views : List SeatView) → length s.words ≡ 1 → Fitting k n views → IsKept k record { words = set s.words 0 n; homes = s.homes; views = views }
placed k s n views one fitting = record { words = length-set s.words 0 n ∙ one; fitting = subst (λ m. Fitting k m views) (sym (get_or-set_same s.words 0 n 0 (omega arith))) fitting }

-- a number is drawn
draws_one : (k : Bounds) (n : ℕ) (views : List SeatView) (i : ℕ) (v : SeatView) → Fitting k n views → get_elem? views i ≡ some v → 0 < v.parts → v.knows_all ≡ false → n < k.count
    → Fitting k (n + 1) (set views i (seat_view v.count v.parts (v.draws ++ n ∷ []) v.knows_all))
draws_one k n views i v f at some_part not_known below = let w = seat_view v.count v.parts (v.draws ++ n ∷ []) v.knows_all in
    let mine = f.each i v at in record {
      small_count = f.small_count;
      small_parts = f.small_parts;
      parts = let p = sum_by-set parts_of views i v w at in let q = f.parts in omega arith;
      draws = λ x.
          let p = sum_by-set (times_drawn x) views i v w at in
          let q = f.draws x in
          let more = times-append x v.draws (n ∷ []) in
          let once = once_more x n in
          let this : min n k.count ≡ n = omega arith in
          let next : min (n + 1) k.count ≡ n + 1 = omega arith in
          let q' : sum_by (times_drawn x) views ≡ once_below x n = q ∙ ap (once_below x) this in
          let sum : sum_by (times_drawn x) (set views i w) ≡ once_below x (n + 1) = omega arith in
          sum ∙ ap (once_below x) (sym next);
      most = omega arith;
      each = fits-set k n (n + 1) views i w (omega arith) f.each record { spent = λ empty. absurd (omega arith); count = mine.count; knows_all = λ is. absurd (true≢false (sym is ∙ not_known)) };
    }

-- all are drawn, and the seat learns it
draws_none : (k : Bounds) (n : ℕ) (views : List SeatView) (i : ℕ) (v : SeatView) → Fitting k n views → get_elem? views i ≡ some v → 0 < v.parts → v.knows_all ≡ false → k.count ≤ n
    → Fitting k (n + 1) (set views i (seat_view v.count v.parts v.draws true))
draws_none k n views i v f at some_part not_known above = let w = seat_view v.count v.parts v.draws true in
    let mine = f.each i v at in record {
      small_count = f.small_count;
      small_parts = f.small_parts;
      parts = let p = sum_by-set parts_of views i v w at in let q = f.parts in omega arith;
      draws = λ x.
          let p = sum_by-set (times_drawn x) views i v w at in
          let q = f.draws x in
          let same : min (n + 1) k.count ≡ min n k.count = omega arith in
          let sum : sum_by (times_drawn x) (set views i w) ≡ once_below x (min n k.count) = omega arith in
          sum ∙ ap (once_below x) (sym same);
      most =
          let p = sum_by-set knowing_parts views i v w at in
          let none_yet : knowing_parts v ≡ 0 = ap (λ b. if b then v.parts else 0) not_known in
          let q = f.most in omega arith;
      each = fits-set k n (n + 1) views i w (omega arith) f.each record { spent = λ empty. absurd (omega arith); count = mine.count; knows_all = λ is. omega arith };
    }

draws : (k : Bounds) (n : ℕ) (views : List SeatView) (i : ℕ) (v : SeatView) → Fitting k n views → get_elem? views i ≡ some v → 0 < v.parts → v.knows_all ≡ false → Fitting k (n + 1) (set views i (drew v n))
draws k n views i v f at some_part not_known =
    let same : v.count ≡ k.count = (f.each i v at).count some_part in
    elim (nat_lt n v.count) as (λ b. nat_lt n v.count ≡ b → Fitting k (n + 1) (set views i (if b then seat_view v.count v.parts (v.draws ++ n ∷ []) v.knows_all else seat_view v.count v.parts v.draws true))) [
      | true ↦ λ is. draws_one k n views i v f at some_part not_known (below n v.count k.count same is)
      | false ↦ λ is. draws_none k n views i v f at some_part not_known (above n v.count k.count same is)
    ] refl
  where
    below : (n c d : ℕ) → c ≡ d → nat_lt n c ≡ true → n < d
    below n c d same is = grind (arith, nat_tests)

    above : (n c d : ℕ) → c ≡ d → nat_lt n c ≡ false → d ≤ n
    above n c d same is = grind (arith, nat_tests)

knowing_few : (v : SeatView) → knowing_parts v ≤ parts_of v
knowing_few v = elim v.knows_all as (λ b. (if b then v.parts else 0) ≤ v.parts) [ true ↦ omega arith | false ↦ omega arith ]

pub draw_moves : (k : Bounds) (slots id : ℕ) (me : Me (Unit {0}) SeatView) → 0 < me.0.parts → me.0.knows_all ≡ false
    → Allows (IsKept k) slots id me 0 (λ n. (n + 1) % 2 ^ 64) (Drew (step slots 0 1 0 none) me)
draw_moves k slots id me some_part not_known s kept homes at small =
    let n : ℕ = slice_index s.words 0 in
    let f = kept.fitting in
    let q = sum_by-le knowing_parts parts_of s.views knowing_few in
    let fits : n + 1 < 18446744073709551616 = let c = f.small_count in let d = f.small_parts in let m = f.most in let p = f.parts in omega arith in
    let wraps : n + 1 ≡ (n + 1) % 18446744073709551616 = omega arith in (
      drew me.0 n,
      keeps,
      tt,
      subst (λ m. IsKept k (stepped s 0 m id me.1 (drew me.0 n) keeps)) wraps (placed k s (n + 1) (set s.views id (drew me.0 n)) kept.words (draws k n s.views id me.0 f at some_part not_known)),
      refl,
    )

pub look_moves : (k : Bounds) (slots id : ℕ) (me : Me (Unit {0}) SeatView) → Allows (IsKept k) slots id me 0 (λ n. n) (Looked (step slots 0 0 0 none) me)
look_moves k slots id me s kept homes at small =
    let n : ℕ = slice_index s.words 0 in
    let f = kept.fitting in (
      me.0,
      keeps,
      tt,
      placed k s n (set s.views id me.0) kept.words (subst (Fitting k n) (sym (set_again s.views id me.0 at)) f),
      (refl, (let p = in_sum parts_of s.views id me.0 at in let q = f.parts in let r = f.small_parts in omega arith)),
    )

-- a seat gives one part to a new seat
splits : (k : Bounds) (n : ℕ) (views : List SeatView) (i : ℕ) (v : SeatView) → Fitting k n views → get_elem? views i ≡ some v → 1 < v.parts
    → Fitting k n (set views i (with_one_less v) ++ with_one_part v ∷ [])
splits k n views i v f at more = let left = with_one_less v in
    let right = with_one_part v in
    let mine = f.each i v at in record {
      small_count = f.small_count;
      small_parts = f.small_parts;
      parts = let p = sum_by-set parts_of views i v left at in let q = sum_by_push parts_of (set views i left) right in let r = f.parts in omega arith;
      draws = λ x. let p = sum_by-set (times_drawn x) views i v left at in let q = sum_by_push (times_drawn x) (set views i left) right in let r = f.draws x in omega arith;
      most =
          let p = sum_by-set knowing_parts views i v left at in
          let q = sum_by_push knowing_parts (set views i left) right in
          let r = f.most in
          let t = shared v.knows_all v.parts more in omega arith;
      each = λ j u e. ⊎_elim
          (λ was. fits-set k n n views i left (omega arith) f.each record { spent = λ empty. absurd (omega arith); count = λ _. mine.count (omega arith); knows_all = mine.knows_all } j u was)
          (λ (new : right ≡ u). subst (Fits k n) new record { spent = λ empty. absurd (omega arith); count = λ _. mine.count (omega arith); knows_all = mine.knows_all })
          (at_snoc (set views i left) right u j e);
    }
  where
    shared : (b : Bool) (p : ℕ) → 1 < p → (if b then (p - 1) else 0) + (if b then 1 else 0) ≡ (if b then p else 0)
    shared true p h = omega arith
    shared false p h = omega arith

pub split_moves : (k : Bounds) (id : ℕ) (v : SeatView) → 1 < v.parts → Splits (IsKept k) id v (with_one_less v) (with_one_part v)
split_moves k id v more s kept at = record { words = kept.words; fitting = splits k (slice_index s.words 0) s.views id v kept.fitting at more }

-- a seat takes in another's parts and draws
joins : (k : Bounds) (n : ℕ) (views : List SeatView) (i j : ℕ) (v w : SeatView) → Fitting k n views → get_elem? views i ≡ some v → j ≢ i → get_elem? (set views i (joined v w)) j ≡ some w → 0 < v.parts
    → Fitting k n (set (set views i (joined v w)) j spent)
joins k n views i j v w f at apart there some_part = let b = joined v w in
    let mine = f.each i v at in
    let theirs = ⊎_elim (λ (e : (j ≡ i) × (b ≡ w)). absurd (apart e.0)) (λ (e : (j ≢ i) × (get_elem? views j ≡ some w)). f.each j w e.1) (at_set views i j b w there) in record {
      small_count = f.small_count;
      small_parts = f.small_parts;
      parts = let p = sum_by-set parts_of views i v b at in let q = sum_by-set parts_of (set views i b) j w spent there in let r = f.parts in omega arith;
      draws = λ x.
          let p = sum_by-set (times_drawn x) views i v b at in
          let q = sum_by-set (times_drawn x) (set views i b) j w spent there in
          let r = f.draws x in
          let t = times-append x v.draws w.draws in omega arith;
      most =
          let p = sum_by-set knowing_parts views i v b at in
          let q = sum_by-set knowing_parts (set views i b) j w spent there in
          let r = f.most in
          let t = both_know v.knows_all w.knows_all v.parts w.parts in omega arith;
      each = fits-set k n n (set views i b) j spent (omega arith)
          (fits-set k n n views i b (omega arith) f.each record { spent = λ empty. absurd (omega arith); count = λ _. mine.count some_part; knows_all = λ is. either_knows v.knows_all w.knows_all mine.knows_all theirs.knows_all is })
          record { spent = λ _. refl; count = λ empty. absurd (omega arith); knows_all = λ is. absurd (true≢false (sym is)) };
    }
  where
    both_know : (b c : Bool) (p q : ℕ) → (if b then p else 0) + (if c then q else 0) ≤ (if (b || c) then (p + q) else 0)
    both_know true true p q = omega arith
    both_know true false p q = omega arith
    both_know false true p q = omega arith
    both_know false false p q = omega arith

    either_knows : {G : Type 0} (b c : Bool) → (b ≡ true → G) → (c ≡ true → G) → (b || c) ≡ true → G
    either_knows true c f g is = f refl
    either_knows false c f g is = g is

pub join_moves : (k : Bounds) (id : ℕ) (v : SeatView) (other : ℕ) (w : SeatView) → 0 < v.parts → Joins (IsKept k) id v other w (joined v w) spent
join_moves k id v other w some_part s kept at apart there = record { words = kept.words; fitting = joins k (slice_index s.words 0) s.views id other v w kept.fitting at apart there some_part }

-- what a seat with all parts knows of the word
ends : (k : Bounds) (n : ℕ) (views : List SeatView) (id : ℕ) (v : SeatView) → Fitting k n views → get_elem? views id ≡ some v → v.parts ≡ k.parts
    → IsEachBelow (min n k.count) v.draws × (v.knows_all ≡ true → k.count ≤ n)
ends k n views id v f at all = (
  same_times (numbers_below (min n k.count)) v.draws (λ x.
      let alone = sum_by-alone (times_drawn x) views id v (λ j u there empty. ap (times_drawn x) ((f.each j u there).spent empty)) at (f.parts ∙ sym all) in
      times-numbers_below x (min n k.count) ∙ (sym (f.draws x) ∙ alone)),
  (f.each id v at).knows_all,
)

first_word : (ws : List ℕ) (n : ℕ) → get_elem? ws 0 ≡ some n → slice_index ws 0 ≡ n
first_word [] n at = absurd (some-ne-none n (sym at))
first_word (x ∷ xs) n at = some-injective x n at

-- the same, for the word as it is read when the table is closed
pub ends_at : (k : Bounds) (ws : List ℕ) (s : State (Unit {0}) SeatView) (id : ℕ) (v : SeatView) (n : ℕ) → Seen (IsKept k) id v s → s.words ≡ ws → get_elem? ws 0 ≡ some n → v.parts ≡ k.parts
    → IsEachBelow (min n k.count) v.draws × (v.knows_all ≡ true → k.count ≤ n)
ends_at k ws s id v n seen same at all =
    let is : slice_index s.words 0 ≡ n = ap (λ l. slice_index l 0) same ∙ first_word ws n at in
    subst (λ m. IsEachBelow (min m k.count) v.draws × (v.knows_all ≡ true → k.count ≤ m)) is (ends k (slice_index s.words 0) s.views id v seen.0.fitting seen.1 all)
