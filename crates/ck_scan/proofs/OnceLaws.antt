-- Extents of which none stands in a list twice.
use Rattle.std.proofs.Common.{◌≡◌, ℕ, ◌+◌, ◌≤◌, zero, suc, List, [], ◌∷◌, ◌++◌, Contains, cond, arith, sym, subst, ap, ◌∙◌, ⊎_elim, eq-eqb}
use Rattle.std.specs.Prelude.{◌==◌, nat_lt, if◌then◌else◌}
use Rattle.std.specs.List.{range_with_len}
use Rattle.std.proofs.lemmas.Bool.Decides.{nat_tests}
use Rattle.std.proofs.lemmas.List.Sums.{sum_by-append, sum_by-cons}
use Rattle.std.proofs.lemmas.List.Sorted.{IsPermutation-refl}
use Rattle.std.proofs.lemmas.List.Elements.{Contains-push}
use Rattle.spec_file.specs.Image.{Image}
use Rattle.spec_check.proofs.Members.{nothing_there, cons_cases}
use Rattle.ck_claim.specs.Rule.{times}
use Rattle.ck_claim.specs.Shown.{numbers_below, IsEachBelow}
use Rattle.ck_claim.proofs.Laws.{Contains-each_below, each_below-Contains, sum_by-each_below}
use Rattle.ck_error.specs.Gathered.{Below}
use Rattle.ck_facts.specs.declared.map.AllocMap.{AllocMap}
use Rattle.ck_facts.specs.Owners.{IsOwnerIn}
use Rattle.ck_scan.specs.declared.findings.Findings.{Findings}
use Rattle.ck_scan.specs.Found.{AreFound, AreFoundIn, IsOwnerAmong}
use Rattle.ck_scan.specs.Once.{IsEachOnce}
use Rattle.ck_scan.proofs.FoundLaws.{found_as}

times-append : (x : ℕ) (xs ys : List ℕ) → times x (xs ++ ys) ≡ times x xs + times x ys
times-append x xs ys = sum_by-append (λ y. cond (x == y) 1 0) xs ys

head_one : (x y : ℕ) → x ≡ y → ◌≡◌ {A = ℕ} (cond (x == y) 1 0) 1
head_one x y same = ap (λ b. cond b 1 0) (eq-eqb x y same)

times-there : (x : ℕ) (xs : List ℕ) → Contains xs x → 1 ≤ times x xs
times-there x [] c = absurd (nothing_there x c)
times-there x (y ∷ ys) c =
    let head = sum_by-cons (λ z. cond (x == z) 1 0) y ys in
    ⊎_elim (λ same. let one = head_one x y (sym same) in omega (arith, head, one))
    (λ later. let more = times-there x ys later in omega (arith, head, more)) (cons_cases y ys x c)

-- the front and the rest of a list in which each stands once
pub once_front : (xs ys : List ℕ) → IsEachOnce (xs ++ ys) → IsEachOnce xs
once_front xs ys h = record { once = λ x. let all = h.once x in let parts = times-append x xs ys in omega (arith, all, parts) }

pub once_rest : (xs ys : List ℕ) → IsEachOnce (xs ++ ys) → IsEachOnce ys
once_rest xs ys h = record { once = λ x. let all = h.once x in let parts = times-append x xs ys in omega (arith, all, parts) }

pub once_apart : (xs ys : List ℕ) (x : ℕ) → IsEachOnce (xs ++ ys) → Contains xs x → Contains ys x → ⊥
once_apart xs ys x h a b =
    let all = h.once x in
    let parts = times-append x xs ys in
    let one = times-there x xs a in
    let two = times-there x ys b in
    absurd (omega (arith, all, parts, one, two))

pub once_last : (xs : List ℕ) (x : ℕ) → IsEachOnce (xs ++ x ∷ []) → Contains xs x → ⊥
once_last xs x h a = once_apart xs (x ∷ []) x h a (Contains-push [] x)

-- the numbers from a on, below a + n
times_from : (x a n : ℕ) → times x (range_with_len a n) ≡ (if nat_lt x a then 0 else (if nat_lt x (a + n) then 1 else 0))
times_from x a zero = grind (arith, nat_tests)
times_from x a (suc n) = let c = sum_by-cons (λ y. cond (x == y) 1 0) a (range_with_len (a + 1) n) in let r = times_from x (a + 1) n in grind (arith, nat_tests)

-- numbers of which each below n was drawn once
once_all : (n : ℕ) (xs : List ℕ) → IsEachBelow n xs → IsEachOnce xs
once_all n xs each = record { once = λ x. omega (arith, sum_by-each_below (λ y. cond (x == y) 1 0) n xs each, below_once n x) } where
  below_once : (m y : ℕ) → times y (numbers_below m) ≤ 1
  below_once m y = let r = times_from y 0 m in grind (arith, nat_tests)

-- one number more
range_push : (a n : ℕ) → range_with_len a (suc n) ≡ range_with_len a n ++ (a + n) ∷ []
range_push a zero = ap (λ k. k ∷ []) (omega arith)
range_push a (suc n) = ap (λ l. a ∷ l) (range_push (a + 1) n ∙ ap (λ k. range_with_len (a + 1) n ++ k ∷ []) (omega arith))

below_push : (n : ℕ) → numbers_below (n + 1) ≡ numbers_below n ++ n ∷ []
below_push n = ap (range_with_len 0) (one_more n) ∙ (range_push 0 n ∙ ap (λ k. numbers_below n ++ k ∷ []) (omega arith)) where
  one_more : (k : ℕ) → k + 1 ≡ suc k
  one_more k = omega arith

below_itself : (n : ℕ) → IsEachBelow n (numbers_below n)
below_itself n = IsPermutation-refl (numbers_below n)

-- no extent is drawn yet
pub found_first : (image : Image) (m : AllocMap) (draws : List ℕ) (found : Findings) → draws ≡ []
    → AreFound image m (Below 0 (IsOwnerIn m.geometry image)) found → AreFoundIn image m draws found
found_first image m draws found none h once = found_as image m (Below 0 (IsOwnerIn m.geometry image)) (IsOwnerAmong image m draws) found
    (λ u met. let low = met.1 in absurd (omega (arith, low))) (λ u met. absurd (nothing_there met.0 (subst (λ l. Contains l met.0) none met.1))) h

-- what the extents below n show, and those of a list that has each number below n
pub found_below : (image : Image) (m : AllocMap) (n : ℕ) (found : Findings)
    → AreFound image m (Below n (IsOwnerIn m.geometry image)) found → AreFoundIn image m (numbers_below n) found
found_below image m n found h once = found_as image m (Below n (IsOwnerIn m.geometry image)) (IsOwnerAmong image m (numbers_below n)) found
    (λ u met. (met.0, Contains-each_below n (numbers_below n) met.0 (below_itself n) met.1, met.2))
    (λ u met. (met.0, each_below-Contains n (numbers_below n) met.0 (below_itself n) met.1, met.2)) h

pub below_found : (image : Image) (m : AllocMap) (n : ℕ) (xs : List ℕ) (found : Findings) → IsEachBelow n xs
    → AreFoundIn image m xs found → AreFound image m (Below n (IsOwnerIn m.geometry image)) found
below_found image m n xs found each h = found_as image m (IsOwnerAmong image m xs) (Below n (IsOwnerIn m.geometry image)) found
    (λ u met. (met.0, each_below-Contains n xs met.0 each met.1, met.2)) (λ u met. (met.0, Contains-each_below n xs met.0 each met.1, met.2)) (h (once_all n xs each))

-- and one extent more
pub next_found : (image : Image) (m : AllocMap) (n : ℕ) (found : Findings)
    → AreFoundIn image m (numbers_below n ++ n ∷ []) found → AreFound image m (Below (n + 1) (IsOwnerIn m.geometry image)) found
next_found image m n found h = below_found image m (n + 1) (numbers_below (n + 1)) found (below_itself (n + 1))
    (subst (λ l. AreFoundIn image m l found) (sym (below_push n)) h)
