-- How many words a run has.
use Rattle.std.proofs.Common.{◌≡◌, ℕ, zero, suc, ◌+◌, ◌<◌, ◌≤◌, Bool, true, false, is_some, List, length, drop, Option, Some, None, option_map, slice_get, inl, inr, refl, sym, ap, ◌∙◌, arith}
use Rattle.std.proofs.lemmas.Bool.{cases_Bool, cases_eq, not-false}
use Rattle.std.proofs.lemmas.List.{length-drop}
use Rattle.std.proofs.lemmas.Option.{none-some, slice_get_cases}
use Rattle.app_words.specs.declared.command.Command.TheVariants.{Replay}
use Rattle.app_words.specs.declared.command.Verb.{Verb}
use Rattle.app_words.specs.declared.command.Verb.TheVariants as verb
use Rattle.app_words.specs.Words.{Asks, command_of, from_one, is_file, is_wrong_at, least, verb_of, wrong_behind}
use Rattle.app_words.proofs.Least.{least_here, least_behind}

-- where none is the least, none passes
none_passes : (f : ℕ → Bool) (n k i : ℕ) → least f n k ≡ None → k ≤ i → i < k + n → f i ≡ false
none_passes f zero k i none low high = absurd (omega (arith, low, high))
none_passes f (suc n) k i none low high = elim (cases_Bool (f k)) [
  | inl passes ↦ absurd (none-some k (sym none ∙ least_here f (suc n) k (omega arith) passes))
  | inr fails ↦ elim (cases_eq i k) [
    | inl same ↦ ap f same ∙ fails
    | inr other ↦
        none_passes f n (k + 1) i (sym (least_behind f (suc n) n k refl fails) ∙ none) (omega (arith, low, other)) (omega (arith, high))
  ]
]

none_from_one : (o : Option ℕ) → from_one o ≡ None → o ≡ None
none_from_one None none = refl
none_from_one (Some i) none = absurd (none-some (i + 1) (sym none))

is_there : (words : List (List ℕ)) (i : ℕ) → is_file (slice_get words i) ≡ true → i < length words
is_there words i is = elim ((slice_get_cases words i).1) [
  | inl there ↦ there.1
  | inr past ↦ let no : is_file None ≡ true = sym (ap is_file past.1) ∙ is in cc
]

is_past : (words : List (List ℕ)) (i : ℕ) → is_some (slice_get words i) ≡ false → length words ≤ i
is_past words i is = elim ((slice_get_cases words i).1) [
  | inl there ↦ let no : is_some (Some there.0) ≡ false = sym (ap is_some there.2) ∙ is in cc
  | inr past ↦ past.0
]

counted : (words : List (List ℕ)) (v : Option Verb) → option_map (command_of words) v ≡ Some Replay → wrong_behind words v ≡ None
    → (5 ≤ length words) × (length words ≤ 20)
counted words None is right = cc
counted words (Some verb.Check) is right = cc
counted words (Some verb.Page) is right = cc
counted words (Some verb.Replay) is right =
    let none = none_from_one (least (is_wrong_at verb.Replay words) 20 1) right in
    let last = none_passes (is_wrong_at verb.Replay words) 20 1 4 none (omega arith) (omega arith) in
    let behind = none_passes (is_wrong_at verb.Replay words) 20 1 20 none (omega arith) (omega arith) in
    let there : 4 < length words = is_there words 4 (not-false (is_file (slice_get words 4)) last) in
    (omega (arith, there), is_past words 20 behind)

-- a run has a schedule and one to sixteen scripts
pub sources_count : (words : List (List ℕ)) (names : List (List ℕ)) (count : ℕ) → Asks Replay words → length names ≡ count → names ≡ drop 3 words
    → (2 ≤ count) × (count ≤ 17)
sources_count words names count asks many are =
    let all = counted words (verb_of (slice_get words 0)) asks.0 asks.1 in
    let low = all.0 in
    let high = all.1 in
    let same : length names ≡ length (drop 3 words) = ap length are in
    let rest = length-drop 3 words in
    (omega (arith, low, many, same, rest), omega (arith, high, many, same, rest))
