-- The chain, page by page.
use Rattle.std.proofs.lemmas.List.{map-append, length-map, length-append}
use Rattle.std.proofs.Common.{◌≡◌, refl, ℕ, suc, ◌+◌, ◌-◌, ◌<◌, ◌≤◌, true, false, List, [], ◌∷◌, ◌++◌, length, map, ap, sym, ◌∙◌, subst, arith}
use Rattle.spec_file.specs.declared.data.PageNo.{PageNo}
use Rattle.spec_file.specs.CatalogRows.{CatalogRow}
use Rattle.spec_chain.specs.Chains.{is_last}
use Rattle.spec_words.specs.NetChanges.{FileShape}
use Rattle.spec_words.specs.Views.{Plan}
use Rattle.spec_words.specs.Words.{◌then◌, give, refuse}
use Rattle.spec_words.specs.Tables.{chain_from, chain_of}
use Rattle.spec_plan.specs.Refusals.{bad_page}
use Rattle.db_locks.specs.States.{PlanState}
use Rattle.db_locks.specs.Does.{Stop}
use Rattle.db_locks.proofs.LoopLaws.{Leads}
use Rattle.db_alloc.specs.Tables.{numbers, chain_link}
use Rattle.db_alloc.proofs.Steps.{then_assoc, then_same, give_then}

-- the rest of a chain behind a page of it
abbrev pub rest_of : ℕ → FileShape → CatalogRow → List ℕ → ℕ → ℕ → Plan (List ℕ)
rest_of n shape row met p q = chain_from n shape row (met ++ p ∷ []) p q

chain_suc_last : (n : ℕ) (shape : FileShape) (row : CatalogRow) (met : List ℕ) (from p : ℕ) → is_last (length met) p ≡ true → chain_from (suc n) shape row met from p ≡ give met
chain_suc_last n shape row met from p e = rw e refl

link_then : (n : ℕ) (shape : FileShape) (row : CatalogRow) (met : List ℕ) (from p : ℕ) → is_last (length met) p ≡ false
    → chain_from (suc n) shape row met from p ≡ (chain_link shape row met from p then rest_of n shape row met p)
link_then n shape row met from p e =
    rw e (sym (then_assoc _ _ (rest_of n shape row met p) ∙ then_same _ (λ inside.
    then_assoc _ _ (rest_of n shape row met p) ∙ then_same _ (λ bytes.
    then_assoc _ _ (rest_of n shape row met p) ∙ then_same _ (λ good.
    then_assoc _ _ (rest_of n shape row met p) ∙ then_same _ (λ slots.
    then_assoc _ _ (rest_of n shape row met p) ∙ then_same _ (λ held. give_then _ (rest_of n shape row met p))))))))

-- a chain that ends, one that goes on, and one with more pages than the file
pub chain_last : (n k : ℕ) (shape : FileShape) (row : CatalogRow) (met : List ℕ) (from p : ℕ) → k < n → is_last (length met) p ≡ true → chain_from (n - k) shape row met from p ≡ give met
chain_last n k shape row met from p lt e =
    let step : n - k ≡ suc (n - (k + 1)) = omega arith in
    ap (λ m. chain_from m shape row met from p) step ∙ chain_suc_last (n - (k + 1)) shape row met from p e

pub chain_more : (n k : ℕ) (shape : FileShape) (row : CatalogRow) (met : List ℕ) (from p : ℕ) → k < n → is_last (length met) p ≡ false
    → chain_from (n - k) shape row met from p ≡ (chain_link shape row met from p then rest_of (n - (k + 1)) shape row met p)
chain_more n k shape row met from p lt e =
    let step : n - k ≡ suc (n - (k + 1)) = omega arith in
    ap (λ m. chain_from m shape row met from p) step ∙ link_then (n - (k + 1)) shape row met from p e

pub chain_full : (n k : ℕ) (shape : FileShape) (row : CatalogRow) (met : List ℕ) (from p : ℕ) → n ≤ k → chain_from (n - k) shape row met from p ≡ refuse (bad_page p)
chain_full n k shape row met from p le =
    let none : n - k ≡ 0 = omega arith in
    ap (λ m. chain_from m shape row met from p) none

pub chain_starts : (shape : FileShape) (row : CatalogRow) (n : ℕ) → n ≡ shape.pages → chain_of shape row ≡ chain_from (n + 2 - 0) shape row [] 9 row.first_iam
chain_starts shape row n e =
    let same : suc (suc shape.pages) ≡ n + 2 - 0 = omega (arith, e) in
    ap (λ m. chain_from m shape row [] 9 row.first_iam) same

-- what is to be done may be said by an equal plan
pub leads_plan : {A E : Type 0} {meaning : E → Stop} {looked : List ℕ} {a b : PlanState} {whole rest other : Plan A} → rest ≡ other → Leads meaning looked a b whole rest → Leads meaning looked a b whole other
leads_plan {A} {E} {meaning} {looked} {a} {b} {whole} e l = subst (λ (p : Plan A). Leads meaning looked a b whole p) e l

-- the bytes of one page more
pub bytes_more : (f : ℕ → List ℕ) (xs ys : List ℕ) (p : ℕ) (before after : List (List ℕ)) → ys ≡ xs ++ p ∷ [] → before ≡ map f xs → after ≡ before ++ f p ∷ [] → after ≡ map f ys
bytes_more f xs ys p before after e h more = more ∙ ap (λ all. all ++ f p ∷ []) h ∙ sym (map-append f xs (p ∷ [])) ∙ ap (map f) (sym e)

-- one page more is one more
pub more_by_one : (old new : List PageNo) (p n : ℕ) → numbers new ≡ numbers old ++ p ∷ [] → length old ≤ n → length new ≤ n + 1
more_by_one old new p n e le =
    let count = sym (length-map new (λ (q : PageNo). q.0)) ∙ ap (λ (xs : List ℕ). length xs) e ∙ length-append (numbers old) (p ∷ []) in
    let before = length-map old (λ (q : PageNo). q.0) in
    omega (arith, count, before, le)
