-- An entry of page 9 is put at its place.
use Rattle.std.proofs.Common.{◌≡◌, ℕ, ◌+◌, ◌-◌, ◌*◌, ◌<◌, ◌≤◌, leb, ltb, ◌&&◌, false, List, ◌++◌, length, take, drop, length-append, length-drop, inl, inr, ap, ◌∙◌, arith}
use Rattle.std.specs.Prelude.{slice_index}
use Rattle.std.proofs.lemmas.Bool.{cond_both, cases_lt}
use Rattle.std.proofs.lemmas.Bool.Decides.{nat_tests}
use Rattle.std.proofs.lemmas.List.{length-take-le, get_or-take, get_or-drop, get_or_append_left, get_or-append_right}
use Rattle.spec_file.specs.CatalogBytes.{with_entry}
use Rattle.spec_log.specs.Cells.{with_bytes}
use Rattle.db_alloc.proofs.Parts.{with_bytes_by}

inside : (i k : ℕ) (entry old : List ℕ) → length entry ≡ 40 → 136 + 40 * i ≤ length old → 96 + 40 * i ≤ k → k < 136 + 40 * i → slice_index (with_entry i entry old) k ≡ slice_index entry (k - (96 + 40 * i))
unfolding with_entry
inside i k entry old size within low high =
    let at = 96 + 40 * i in
    let front = length-take-le at old (omega (arith, within)) in
    get_or-append_right (take at old) (entry ++ drop (136 + 40 * i) old) at k 0 front low ∙ get_or_append_left entry (drop (136 + 40 * i) old) 0 (k - at) (omega (arith, size, low, high))

before : (i k : ℕ) (entry old : List ℕ) → 136 + 40 * i ≤ length old → k < 96 + 40 * i → slice_index (with_entry i entry old) k ≡ slice_index old k
unfolding with_entry
before i k entry old within lt =
    let at = 96 + 40 * i in
    let front = length-take-le at old (omega (arith, within)) in
    get_or_append_left (take at old) (entry ++ drop (136 + 40 * i) old) 0 k (omega (arith, front, lt)) ∙ get_or-take at old k 0 lt

behind : (i k : ℕ) (entry old : List ℕ) → length entry ≡ 40 → 136 + 40 * i ≤ length old → 136 + 40 * i ≤ k → slice_index (with_entry i entry old) k ≡ slice_index old k
unfolding with_entry
behind i k entry old size within le =
    let at = 96 + 40 * i in
    let end = 136 + 40 * i in
    let front = length-take-le at old (omega (arith, within)) in
    let place : end + (k - at - 40) ≡ k = omega (arith, le) in
    get_or-append_right (take at old) (entry ++ drop end old) at k 0 front (omega (arith, le))
    ∙ get_or-append_right entry (drop end old) 40 (k - at) 0 size (omega (arith, le))
    ∙ get_or-drop end old (k - at - 40) 0
    ∙ ap (slice_index old) place

outside : (i k : ℕ) (entry old : List ℕ) → length entry ≡ 40 → 136 + 40 * i ≤ length old → (leb (96 + 40 * i) k && ltb k (96 + 40 * i + length entry)) ≡ false → slice_index (with_entry i entry old) k ≡ slice_index old k
outside i k entry old size within other = elim (cases_lt k (96 + 40 * i)) [
  | inl lt ↦ before i k entry old within lt
  | inr le ↦ behind i k entry old size within (grind (arith, nat_tests, other, le, size))
]

long : (i : ℕ) (entry old : List ℕ) → length entry ≡ 40 → 136 + 40 * i ≤ length old → length (with_entry i entry old) ≡ length old
unfolding with_entry
long i entry old size within =
    let front = length-take-le (96 + 40 * i) old (omega (arith, within)) in
    let rest = length-drop (136 + 40 * i) old in
    let tail = length-append entry (drop (136 + 40 * i) old) in
    let all = length-append (take (96 + 40 * i) old) (entry ++ drop (136 + 40 * i) old) in
    omega (arith, front, rest, tail, all, size, within)

-- page 9 with an entry is page 9 with these bytes there
pub entry_placed : (i : ℕ) (entry old : List ℕ) → length entry ≡ 40 → 136 + 40 * i ≤ length old → with_entry i entry old ≡ with_bytes old (96 + 40 * i) entry
entry_placed i entry old size within = with_bytes_by old (with_entry i entry old) (96 + 40 * i) entry (long i entry old size within) (λ k lt.
    let at = 96 + 40 * i in
    cond_both (leb at k && ltb k (at + length entry)) (slice_index entry (k - at)) (slice_index old k) (λ z. slice_index (with_entry i entry old) k ≡ z)
    (λ e. inside i k entry old size within (grind (arith, nat_tests, e)) (grind (arith, nat_tests, e, size)))
    (λ e. outside i k entry old size within e))
