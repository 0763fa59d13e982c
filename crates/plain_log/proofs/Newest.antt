-- The changes of a transaction that aren't undone, read from the newest item on.
use Rattle.std.proofs.Common.{◌≡◌, ℕ, suc, ◌+◌, ◌-◌, ◌<◌, List, ◌∷◌, length, get_or, take, drop, reverse, take_all, Some, sym, ap, ◌∙◌, eq-eqb, arith}
use Rattle.std.specs.Prelude.{if◌then◌else◌}
use Rattle.std.proofs.lemmas.List.{length-reverse}
use Rattle.spec_file.specs.declared.data.Tran.{Tran}
use Rattle.spec_log.specs.declared.item.Cell.{Cell}
use Rattle.spec_log.specs.declared.item.Record.{Record}
use Rattle.spec_log.specs.declared.item.Record.TheVariants.{Change}
use Rattle.spec_log.specs.Log.{left_of, item_at}
use Rattle.spec_log.specs.Rules.{IsLastLeft}
use Rattle.plain_log.proofs.Reverse.{reverse_take_at}
use Rattle.plain_log.proofs.Named.{length_take, by_number}

-- a Change of the transaction is the newest of what is left up to it
left_change : (items : List Record) (t j : ℕ) (x : Record) (tran : Tran) (cell : Cell) (before after : List ℕ) → j < length items → x ≡ get_or items j x → x ≡ Change tran cell before after → tran.0 ≡ t →
    left_of t (reverse (take (j + 1) items)) ≡ (j + 1, x) ∷ left_of t (reverse (take j items))
left_change items t j x tran cell before after lt is was own =
    let older : List Record = reverse (take j items) in
    let long : length older ≡ j = length-reverse (take j items) ∙ length_take items j (omega arith) in
    ap (left_of t) (reverse_take_at items j x lt is) ∙ ap (λ y. left_of t (y ∷ older)) was
    ∙ ap (λ b. if b then (length older + 1, Change tran cell before after) ∷ left_of t older else left_of t older) (eq-eqb tran.0 t own)
    ∙ ap (λ n. (n + 1, Change tran cell before after) ∷ left_of t older) long
    ∙ ap (λ y. (j + 1, y) ∷ left_of t older) (sym was)

named : (items : List Record) (j : ℕ) (x : Record) → j < length items → x ≡ get_or items j x → item_at (reverse items) (j + 1) ≡ Some x
named items j x lt is =
    let place : j + 1 - 1 ≡ j = omega arith in
    ap (λ xs. item_at (reverse xs) (j + 1)) (sym (take_all (length items) items (omega arith)))
    ∙ by_number items (length items) (j + 1) x (omega arith) (omega arith) (omega arith)
    ∙ ap (λ k. Some (get_or items k x)) place ∙ ap Some (sym is)

-- where as many were undone as were met, the next Change is the answer
pub left_met : (items : List Record) (t i skip j : ℕ) (x : Record) (tran : Tran) (cell : Cell) (before after : List ℕ) → i ≡ j + 1 → skip ≡ 0 → j < length items → x ≡ get_or items j x → x ≡ Change tran cell before after → tran.0 ≡ t →
    left_of t (reverse items) ≡ drop skip (left_of t (reverse (take i items))) → IsLastLeft (reverse items) t (j + 1)
left_met items t i skip j x tran cell before after place none lt is was own same = record {
  change = x;
  others = left_of t (reverse (take j items));
  is_last = same ∙ ap (λ n. drop n (left_of t (reverse (take i items)))) none ∙ ap (λ n. left_of t (reverse (take n items))) place ∙ left_change items t j x tran cell before after lt is was own;
  is_named = named items j x lt is;
}

-- else an Undo after it was of this Change
pub left_passed : (items : List Record) (t i skip less j : ℕ) (x : Record) (tran : Tran) (cell : Cell) (before after : List ℕ) → i ≡ j + 1 → skip ≡ suc less → j < length items → x ≡ get_or items j x → x ≡ Change tran cell before after → tran.0 ≡ t →
    left_of t (reverse items) ≡ drop skip (left_of t (reverse (take i items))) → left_of t (reverse items) ≡ drop less (left_of t (reverse (take j items)))
left_passed items t i skip less j x tran cell before after place some lt is was own same =
    same ∙ ap (λ n. drop n (left_of t (reverse (take i items)))) some ∙ ap (λ n. drop (suc less) (left_of t (reverse (take n items)))) place
    ∙ ap (drop (suc less)) (left_change items t j x tran cell before after lt is was own)
