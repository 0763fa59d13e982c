-- How many net changes there are.
use Rattle.std.proofs.Common.{◌≡◌, ℕ, suc, ◌+◌, ◌*◌, ◌≤◌, Bool, true, false, not, ◌||◌, ◌&&◌, List, [], ◌∷◌, ◌++◌, length, length-append, refl, ap, arith}
use Rattle.std.specs.Prelude.{if◌then◌else◌, filter, map, flat_map}
use Rattle.std.proofs.lemmas.Bool.{cond_both, and_parts, both_ways}
use Rattle.spec_file.specs.declared.geometry.Geometry.{Geometry}
use Rattle.spec_file.specs.Image.{Image}
use Rattle.spec_file.specs.Places.{gam_place, sgam_place}
use Rattle.spec_plan.specs.declared.plan.Planned.{Planned}
use Rattle.spec_words.specs.NetChanges.{FileShape, extents_of, pages_of, is_turned, bit_change, bit_changes, is_byte_changed, begins_run, run_change, run_changes, differing, cell_over, part_changes, page_changes, slots_start, is_iam, becomes_allocated, is_page_changed, iam_changes, other_changes, changes_of}
use Rattle.law_net.specs.NetLaw.{change_limit}

count_map : (f : ℕ → Planned) (xs : List ℕ) → length (map f xs) ≡ length xs
count_map f [] = refl
count_map f (x ∷ xs) = ap suc (count_map f xs)

count_flat : (f : ℕ → List Planned) (xs : List ℕ) → ((x : ℕ) → length (f x) ≤ 3) → length (flat_map f xs) ≤ 3 * length xs
count_flat f [] each = omega arith
count_flat f (x ∷ xs) each =
    let one = each x in
    let more = count_flat f xs each in
    let all = length-append (f x) (flat_map f xs) in
    omega (arith, one, more, all)

count_over : (start now : Image) (p : ℕ) (ds : List ℕ) → length (cell_over start now p ds) ≤ 1
count_over start now p [] = omega arith
count_over start now p (d ∷ ds) = omega arith

count_part : (start now : Image) (p lo hi : ℕ) → length (part_changes start now p lo hi) ≤ 1
count_part start now p lo hi = count_over start now p (differing start now p lo hi)

count_page : (g : Geometry) (start now : Image) (p : ℕ) → length (page_changes g start now p) ≤ 3
count_page g start now p =
    let s = slots_start start now p in
    let a = count_part start now p 0 8192 in
    let b = count_part start now p 96 s in
    let c = count_part start now p s 8192 in
    let d = count_part start now p 0 96 in
    let inner = length-append (part_changes start now p s 8192) (part_changes start now p 0 96) in
    let outer = length-append (part_changes start now p 96 s) (part_changes start now p s 8192 ++ part_changes start now p 0 96) in
    cond_both (is_iam now p || becomes_allocated g start now p) (part_changes start now p 0 8192)
    (part_changes start now p 96 s ++ (part_changes start now p s 8192 ++ part_changes start now p 0 96)) (λ cs. length cs ≤ 3) (λ e. omega (arith, a)) (λ e. omega (arith, b, c, d, inner, outer))

fewer : (f h : ℕ → Bool) (xs : List ℕ) → ((x : ℕ) → f x ≡ true → h x ≡ true) → length (filter f xs) ≤ length (filter h xs)
fewer f h [] all = omega arith
fewer f h (x ∷ xs) all = by_tests (f x) (h x) (all x) (fewer f h xs all)
  where
    by_tests : (a b : Bool) → (a ≡ true → b ≡ true) → length (filter f xs) ≤ length (filter h xs) →
        length (if a then x ∷ filter f xs else filter f xs) ≤ length (if b then x ∷ filter h xs else filter h xs)
    by_tests true true w le = omega (arith, le)
    by_tests true false w le = absurd (both_ways false refl (w refl))
    by_tests false true w le = omega (arith, le)
    by_tests false false w le = le

split_by : (f h : ℕ → Bool) (xs : List ℕ) → length (filter (λ x. f x && h x) xs) + length (filter (λ x. f x && not (h x)) xs) ≡ length (filter f xs)
split_by f h [] = refl
split_by f h (x ∷ xs) = by_tests (f x) (h x) (split_by f h xs)
  where
    by_tests : (a b : Bool) → length (filter (λ y. f y && h y) xs) + length (filter (λ y. f y && not (h y)) xs) ≡ length (filter f xs) →
        length (if a && b then x ∷ filter (λ y. f y && h y) xs else filter (λ y. f y && h y) xs) + length
        (if a && not b then x ∷ filter (λ y. f y && not (h y)) xs else filter (λ y. f y && not (h y)) xs)
        ≡ length (if a then x ∷ filter f xs else filter f xs)
    by_tests true true e = omega (arith, e)
    by_tests true false e = omega (arith, e)
    by_tests false true e = e
    by_tests false false e = e

-- (f) no more than these
pub changes_few : (shape : FileShape) (start now : Image) → length (changes_of shape start now) ≤ change_limit shape start now
changes_few shape start now =
    let g = shape.geometry in
    let ps = pages_of shape in
    let gs = bit_changes shape (gam_place g) start now in
    let ss = bit_changes shape (sgam_place g) start now in
    let rs = run_changes shape start now in
    let is = iam_changes shape start now in
    let bs = part_changes start now 9 0 8192 in
    let os = other_changes shape start now in
    let a = count_map (λ e. bit_change start now (gam_place g e)) (filter (λ e. is_turned start now (gam_place g e)) (extents_of shape)) in
    let b = count_map (λ e. bit_change start now (sgam_place g e)) (filter (λ e. is_turned start now (sgam_place g e)) (extents_of shape)) in
    let c = count_map (run_change g start now) (filter (begins_run g start now) ps) in
    let d = fewer (begins_run g start now) (is_byte_changed g start now) ps (λ p e. (and_parts (is_byte_changed g start now p) _ e).0) in
    let e = count_flat (page_changes g start now) (filter (λ p. is_page_changed g start now p && is_iam now p) ps) (count_page g start now) in
    let f = count_flat (page_changes g start now) (filter (λ p. is_page_changed g start now p && not (is_iam now p)) ps) (count_page g start now) in
    let h = split_by (is_page_changed g start now) (is_iam now) ps in
    let k = count_part start now 9 0 8192 in
    let l1 = length-append gs (ss ++ (rs ++ (is ++ (bs ++ os)))) in
    let l2 = length-append ss (rs ++ (is ++ (bs ++ os))) in
    let l3 = length-append rs (is ++ (bs ++ os)) in
    let l4 = length-append is (bs ++ os) in
    let l5 = length-append bs os in
    omega (arith, a, b, c, d, e, f, h, k, l1, l2, l3, l4, l5)
