-- The part of a page in which two states of it differ, and the change of one byte.
use Rattle.std.specs.Prelude.{ℕ, ◌+◌, ◌<◌, ◌≤◌, ◌==◌, if◌then◌else◌, List, [], ◌∷◌, Option, Some, None}
use Rattle.spec_log.specs.declared.item.Cell.TheVariants.{Bytes}
use Rattle.spec_plan.specs.declared.plan.Planned.{Planned}
use Rattle.spec_plan.specs.Changes.{last_of}
use Rattle.heap_page.specs.declared.span.Span.{Span}

-- from the first of rising offsets to behind the last
abbrev pub span_of : List ℕ → Option Span
span_of [] = None
span_of (i ∷ is) = Some (record { from = i; to = last_of i is + 1 })

-- a span that goes on to this offset
abbrev pub wider : Option Span → ℕ → Span
wider None at = record { from = at; to = at + 1 }
wider (Some span) at = record { from = span.from; to = at + 1 }

-- it has a byte, and ends by this offset
abbrev pub EndsBy : ℕ → Span → Type 0
EndsBy end span = (span.from < span.to) × (span.to ≤ end)

-- the change of one byte, where it changes
abbrev pub changes_of_byte : ℕ → ℕ → ℕ → ℕ → List Planned
changes_of_byte page at before after =
    if after == before then []
    else record { cell = Bytes (record { 0 = page }) at; before = before ∷ []; after = after ∷ [] } ∷ []
