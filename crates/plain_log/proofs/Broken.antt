-- The first item that breaks a rule.
use Rattle.std.proofs.Common.{◌≡◌, ℕ, ◌+◌, ◌<◌, ◌≤◌, List, [], ◌∷◌, ◌++◌, length, take-append-drop, get_or, take, drop, reverse, take_all, Some, None, sym, ap, ◌∙◌, subst, arith}
use Rattle.std.specs.Prelude.{◌↔◌}
use Rattle.std.proofs.lemmas.List.{length-reverse, reverse-append}
use Rattle.std.proofs.lemmas.Option.{same_Some, none-some}
use Rattle.spec_file.specs.declared.data.Lsn.{Lsn}
use Rattle.spec_file.specs.declared.geometry.Geometry.{Geometry}
use Rattle.spec_log.specs.declared.item.Record.{Record}
use Rattle.spec_log.specs.Rules.{Follows, KeepsRules, IsFirstBroken}
use Rattle.spec_log.proofs.RulesLaws.{older_rules}
use Rattle.plain_log.proofs.Reverse.{reverse_take_at}
use Rattle.plain_log.proofs.Named.{length_take}

pub keeps_all : (g : Geometry) (pages : ℕ) (items : List Record) (i : ℕ) → length items ≤ i → KeepsRules g pages (reverse (take i items)) → KeepsRules g pages (reverse items)
keeps_all g pages items i end kept = subst (λ xs. KeepsRules g pages (reverse xs)) (take_all i items end) kept

tail_same : (x y : Record) (xs ys : List Record) → x ∷ xs ≡ y ∷ ys → xs ≡ ys
tail_same x y xs ys e = cc

-- what keeps the rules has no item that breaks one
pub not_both : (g : Geometry) (pages : ℕ) (log : List Record) (lsn : ℕ) → KeepsRules g pages log → IsFirstBroken g pages log lsn → ⊥
not_both g pages log lsn kept (newer, x, older, whole, place, before, broken) =
    broken (older_rules g pages newer (x ∷ older) (subst (KeepsRules g pages) whole kept)).0

-- the item at i breaks a rule, and those before it keep them
pub broken_at : (g : Geometry) (pages : ℕ) (items : List Record) (i : ℕ) (x : Record) → i < length items → x ≡ get_or items i x → KeepsRules g pages (reverse (take i items)) → (Follows g pages (reverse (take i items)) x → ⊥) →
    IsFirstBroken g pages (reverse items) (i + 1)
broken_at g pages items i x lt is before broken =
    let whole : reverse items ≡ reverse (drop (i + 1) items) ++ x ∷ reverse (take i items) =
    ap reverse (sym (take-append-drop (i + 1) items)) ∙ reverse-append (take (i + 1) items) (drop (i + 1) items)
    ∙ ap (λ older. reverse (drop (i + 1) items) ++ older) (reverse_take_at items i x lt is) in
    let long : length (reverse (take i items)) ≡ i = length-reverse (take i items) ∙ length_take items i (omega arith) in
    (reverse (drop (i + 1) items), x, reverse (take i items), whole, ap (λ n. n + 1) (sym long), before, broken)

-- two places in one log that break a rule, with none before either, are one
one_place : (g : Geometry) (pages : ℕ) (newer other : List Record) (x y : Record) (older rest : List Record) → newer ++ x ∷ older ≡ other ++ y ∷ rest → KeepsRules g pages older → (Follows g pages older x → ⊥) →
    KeepsRules g pages rest → (Follows g pages rest y → ⊥) → length older ≡ length rest
one_place g pages [] [] x y older rest e kept broken keeps breaks = ap length (tail_same x y older rest e)
one_place g pages [] (z ∷ other) x y older rest e kept broken keeps breaks =
    absurd (breaks (older_rules g pages other (y ∷ rest) (subst (KeepsRules g pages) (tail_same x z older (other ++ y ∷ rest) e) kept)).0)
one_place g pages (z ∷ newer) [] x y older rest e kept broken keeps breaks =
    absurd (broken (older_rules g pages newer (x ∷ older) (subst (KeepsRules g pages) (sym (tail_same z y (newer ++ x ∷ older) rest e)) keeps)).0)
one_place g pages (z ∷ newer) (w ∷ other) x y older rest e kept broken keeps breaks =
    one_place g pages newer other x y older rest (tail_same z w (newer ++ x ∷ older) (other ++ y ∷ rest) e) kept broken keeps breaks

pub one_first : (g : Geometry) (pages : ℕ) (log : List Record) (m n : ℕ) → IsFirstBroken g pages log m → IsFirstBroken g pages log n → m ≡ n
one_first g pages log m n (newer, x, older, whole, place, kept, broken) (other, y, rest, all, at, keeps, breaks) =
    place ∙ ap (λ k. k + 1) (one_place g pages newer other x y older rest (sym whole ∙ all) kept broken keeps breaks) ∙ sym at

-- what the LSN of a broken item answers
pub broken_answer : (g : Geometry) (pages : ℕ) (log : List Record) (n : ℕ) → IsFirstBroken g pages log n → (lsn : Lsn) → (Some (record { 0 = n }) ≡ Some lsn) ↔ IsFirstBroken g pages log lsn.0
broken_answer g pages log n first lsn = (
  λ e. subst (λ l. IsFirstBroken g pages log l.0) (same_Some (record { 0 = n }) lsn e) first,
  λ other. ap (λ m. Some (record { 0 = m })) (one_first g pages log n lsn.0 first other),
)

pub kept_answer : (g : Geometry) (pages : ℕ) (log : List Record) → KeepsRules g pages log → (lsn : Lsn) → (None ≡ Some lsn) ↔ IsFirstBroken g pages log lsn.0
kept_answer g pages log kept lsn = (λ e. absurd (none-some lsn e), λ first. absurd (not_both g pages log lsn.0 kept first))

pub not_kept : (g : Geometry) (pages : ℕ) (log : List Record) (n : ℕ) (lsn : Lsn) → IsFirstBroken g pages log n → (Some lsn ≡ None) ↔ KeepsRules g pages log
not_kept g pages log n lsn first = (λ e. absurd (none-some lsn (sym e)), λ kept. absurd (not_both g pages log n kept first))
