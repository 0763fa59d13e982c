-- Parts of lists, and the offsets at which two pages differ.
use Rattle.std.proofs.Common.{◌≡◌, ℕ, zero, suc, ◌+◌, ◌-◌, ◌<◌, ◌≤◌, min, get_or, get_or-take, get_or-drop, ext_get_or, length-take, length-drop, drop, ◌⊎◌, inl, inr, true, false, eqb, ltb, leb, ◌&&◌, Bool, List, [], ◌∷◌, ◌++◌, length, refl, sym, ap, ◌∙◌, subst, arith}
use Rattle.std.specs.Prelude.{if◌then◌else◌, slice_index, slice_range, filter, IsSomeAnd}
use Rattle.std.specs.List.{range_with_len}
use Rattle.std.proofs.lemmas.Bool.{and_from, eq-eqb, le-leb, leb-true, lt-ltb, ltb-true, cond_both}
use Rattle.std.proofs.lemmas.List.{get_or-set_same}
use Rattle.std.proofs.lemmas.List.FromFn.{length-map-range_with_len, get_or-map-range_with_len}
use Rattle.std.proofs.Math.ListN.{length-set}
use Rattle.spec_file.specs.declared.data.Resource.{Resource}
use Rattle.spec_file.specs.declared.geometry.Geometry.{Geometry}
use Rattle.spec_file.specs.Image.{Image, page}
use Rattle.spec_file.specs.Roles.{role_of}
use Rattle.spec_log.specs.declared.item.Cell.TheVariants.{Bytes}
use Rattle.spec_log.specs.Cells.{byte_with, with_bytes, put}
use Rattle.spec_log.specs.Cover.{IsOfOneExtent, byte_guard}
use Rattle.spec_plan.specs.declared.plan.Planned.{Planned}
use Rattle.spec_plan.specs.Changes.{differing, last_of, change_over, change_between}
use Rattle.law_net.specs.Plans.{Find, HaveCells, AreCoveredBy}

-- parts of lists
pub slice_length : (xs : List ℕ) (i j : ℕ) → j ≤ length xs → length (slice_range xs i j) ≡ j - i
slice_length xs i j le = length-take (j - i) (drop i xs) ∙ ap (min (j - i)) (length-drop i xs) ∙ omega (arith, le)

pub slice_get : (xs : List ℕ) (i j k : ℕ) → k < j - i → get_or (slice_range xs i j) k 0 ≡ get_or xs (i + k) 0
slice_get xs i j k lt = get_or-take (j - i) (drop i xs) k 0 lt ∙ get_or-drop i xs k 0

abbrev pub SameFrom : List ℕ → List ℕ → ℕ → ℕ → Type 0
SameFrom xs ys lo hi = (k : ℕ) → lo ≤ k → k < hi → get_or xs k 0 ≡ get_or ys k 0

pub slice_same : (xs ys : List ℕ) (i j : ℕ) → j ≤ length xs → j ≤ length ys → SameFrom xs ys i j → slice_range xs i j ≡ slice_range ys i j
slice_same xs ys i j lx ly same =
    ext_get_or 0 (slice_range xs i j) (slice_range ys i j) (slice_length xs i j lx ∙ sym (slice_length ys i j ly))
    (λ k lt.
    let within : k < j - i = subst (λ n. k < n) (slice_length xs i j lx) lt in
    slice_get xs i j k within ∙ same (i + k) (omega arith) (omega arith) ∙ sym (slice_get ys i j k within))

-- the offsets at which pages differ rise within their bounds
abbrev pub Within : ℕ → ℕ → List ℕ → Type 0
Within lo hi [] = Unit {0}
Within lo hi (i ∷ is) = (lo ≤ i) × (i ≤ last_of i is) × (last_of i is < hi)

within_more : (lo hi : ℕ) (ds : List ℕ) → Within (lo + 1) hi ds → Within lo hi ds
within_more lo hi [] w = tt
within_more lo hi (i ∷ is) w = (let a = w.0 in omega (arith, a), w.1, w.2)

within_cons : (lo hi : ℕ) (ds : List ℕ) → lo < hi → Within (lo + 1) hi ds → Within lo hi (lo ∷ ds)
within_cons lo hi [] lt w = (omega arith, omega arith, lt)
within_cons lo hi (i ∷ is) lt w = (omega arith, (let a = w.0 in let b = w.1 in omega (arith, a, b)), w.2)

filter_within : (f : ℕ → Bool) (n lo hi : ℕ) → lo + n ≡ hi → Within lo hi (filter f (range_with_len lo n))
filter_within f zero lo hi e = tt
filter_within f (suc n) lo hi e =
    let rest = filter f (range_with_len (lo + 1) n) in
    let ih = filter_within f n (lo + 1) hi (omega (arith, e)) in
    cond_both (f lo) (lo ∷ rest) rest (Within lo hi) (λ b. within_cons lo hi rest (omega (arith, e)) ih) (λ b. within_more lo hi rest ih)

pub differing_within : (old new : List ℕ) (lo hi : ℕ) → lo ≤ hi → Within lo hi (differing old new lo hi)
unfolding differing
differing_within old new lo hi le = filter_within _ (hi - lo) lo hi (omega (arith, le))
