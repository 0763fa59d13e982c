-- The errors of a report: their order, their class, and what it means that a report lists a rule's errors.
use Rattle.std.specs.Prelude.{ℕ, ◌==◌, Bool, List, [], ◌∷◌, Contains}
use Rattle.std.specs.List.{list_any}
use Rattle.std.specs.List.Sorted.{IsStrictlySortedBy}
use Rattle.std.specs.Ordering.{nat_cmp, on, then_cmp}
use Rattle.std.specs.declared.cmp.Ordering.{Ordering}
use Rattle.spec_check.specs.declared.report.CheckError.{CheckError}

-- errors are ordered by number, object, page, other, slot and value
abbrev pub error_cmp : CheckError → CheckError → Ordering
error_cmp =
    then_cmp (on (λ x. x.number) nat_cmp) (then_cmp (on (λ x. x.object) nat_cmp) (then_cmp (on (λ x. x.page) nat_cmp)
    (then_cmp (on (λ x. x.other) nat_cmp) (then_cmp (on (λ x. x.slot) nat_cmp) (on (λ x. x.value) nat_cmp)))))

-- the list has what the rule asks for, each once and in order, and nothing else
pub record Lists (errors : List CheckError) (Stands : CheckError → Type 0) : Type 0 where
  pub sorted : IsStrictlySortedBy error_cmp errors
  pub sound : (x : CheckError) → Contains errors x → Stands x
  pub complete : (x : CheckError) → Stands x → Contains errors x

-- the numbers of the rules of maps and chains (the split is this project's own)
abbrev pub allocation_numbers : List ℕ
allocation_numbers =
    2575 ∷ 2577 ∷ 2579 ∷ 8903 ∷ 8904 ∷ 8905 ∷ 8906 ∷ 8910 ∷ 8913 ∷ 8914 ∷ 8946 ∷ 8947 ∷ 8948 ∷ 8959 ∷ 8968 ∷ 8969 ∷ 8998 ∷ []

-- an allocation error; all others are consistency errors
abbrev pub is_allocation : CheckError → Bool
is_allocation x = list_any (λ n. x.number == n) allocation_numbers
