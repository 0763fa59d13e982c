-- Pages that pass the page test as a heap's.
use Rattle.std.specs.Prelude.{◌≡◌, ℕ, true, List}
use Rattle.spec_plan.specs.Rows.{passes_page}

-- the page passes its test as some page of some heap
abbrev pub IsHeapPage : List ℕ → Type 0
IsHeapPage bytes = (p : ℕ) × (o : ℕ) × (passes_page p o bytes ≡ true)

-- and whichever test it passed it passes again
abbrev pub KeepsTest : List ℕ → List ℕ → Type 0
KeepsTest before now = (p o : ℕ) → passes_page p o before ≡ true → passes_page p o now ≡ true
