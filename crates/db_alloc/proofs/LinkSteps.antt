-- A page of a chain.
use Rattle.std.proofs.Common.{◌≡◌, refl, ℕ, ◌==◌, Bool, ◌<◌, true, false, not, IsTrue, List, [], length, subst, arith, Ok, Err, ap, sym, ◌∙◌}
use Rattle.std.specs.Prelude.{◌&&◌, ◌||◌, is_none, nat_lt}
use Rattle.std.proofs.lemmas.Bool.{and_parts, ltb-true, false≢true}
use Rattle.std.specs.List.{list_any, list_all}
use Rattle.spec_file.specs.declared.data.PageNo.{PageNo}
use Rattle.spec_file.specs.declared.data.Resource.TheVariants as resource
use Rattle.spec_file.specs.declared.geometry.Geometry.{Geometry}
use Rattle.spec_file.specs.CatalogRows.{CatalogRow}
use Rattle.spec_file.specs.Iam.{iam_slots}
use Rattle.spec_file.specs.Image.{Image, page}
use Rattle.spec_file.specs.Places.{HasShape, page_limit, is_inside}
use Rattle.spec_file.specs.Roles.{is_ordinary}
use Rattle.spec_chain.specs.Chains.{fault_of_bytes, next_of}
use Rattle.spec_plan.specs.Reading.{are_slots_inside}
use Rattle.spec_words.specs.NetChanges.{FileShape}
use Rattle.spec_words.specs.Words.{give, look}
use Rattle.spec_words.specs.Tables.{is_chain_page}
use Rattle.db_locks.specs.declared.plan_pages.PageStop.TheVariants.{Bad}
use Rattle.db_locks.specs.States.{PlanState}
use Rattle.db_locks.specs.Does.{Does, stop_of}
use Rattle.db_locks.proofs.PlanLaws.{does_then, does_stop, does_give, does_good, does_bad, does_see}
use Rattle.db_alloc.specs.Maps.{IsOwnable}
use Rattle.db_alloc.specs.Tables.{chain_link}
use Rattle.db_alloc.proofs.Steps.{does_told}

-- ---- what is asked of the page

-- a page of the file is below the geometry's limit
pub inside_limit : (shape : FileShape) (g : Geometry) (pages p : ℕ) → HasShape shape.geometry shape.pages → g ≡ shape.geometry → pages ≡ shape.pages → is_inside pages p ≡ true → p < page_limit g
inside_limit shape g pages p size same_g same_n h =
    let lt = ltb-true p pages (and_parts (not (p == 0)) (nat_lt p pages) h).1 in
    let high = size.high in
    subst (λ k. p < page_limit k) (sym same_g) (omega (arith, lt, high, same_n))

abbrev asked : Geometry → ℕ → CatalogRow → List ℕ → ℕ → List ℕ → Bool
asked g pages row met p bytes = is_ordinary g p && is_none (fault_of_bytes g pages row.id p bytes) && not (list_any (λ q. q == p) met)

asked_by : (g : Geometry) (pages : ℕ) (row : CatalogRow) (met : List ℕ) (p : ℕ) (bytes seen : List ℕ) → (is_ordinary g p ≡ true → bytes ≡ seen)
    → (b : Bool) → is_ordinary g p ≡ b → asked g pages row met p bytes ≡ asked g pages row met p seen
asked_by g pages row met p bytes seen same true e = ap (asked g pages row met p) (same e)
asked_by g pages row met p bytes seen same false e = rw e refl

-- what is asked of the bytes that are shown is what is asked of those that are seen
pub asked_as : (shape : FileShape) (g : Geometry) (pages : ℕ) (row : CatalogRow) (met : List ℕ) (p : ℕ) (bytes seen : List ℕ) (answer : Bool) → g ≡ shape.geometry → pages ≡ shape.pages
    → (is_ordinary shape.geometry p ≡ true → bytes ≡ seen) → answer ≡ asked g pages row met p bytes → is_chain_page shape row met p seen ≡ answer
asked_as shape g pages row met p bytes seen answer same_g same_n same is =
    sym (is ∙ ap (λ h. asked h pages row met p bytes) same_g ∙ ap (λ n. asked shape.geometry n row met p bytes) same_n
    ∙ asked_by shape.geometry shape.pages row met p bytes seen same (is_ordinary shape.geometry p) refl)

ordinary_by : (shape : FileShape) (row : CatalogRow) (met : List ℕ) (p : ℕ) (bytes : List ℕ) (b : Bool) → is_ordinary shape.geometry p ≡ b → is_chain_page shape row met p bytes ≡ true
    → is_ordinary shape.geometry p ≡ true
ordinary_by shape row met p bytes true e h = e
ordinary_by shape row met p bytes false e h = absurd (false≢true (rw e at h))

pub ordinary_link : (shape : FileShape) (row : CatalogRow) (met : List ℕ) (p : ℕ) (bytes : List ℕ) → is_chain_page shape row met p bytes ≡ true → is_ordinary shape.geometry p ≡ true
ordinary_link shape row met p bytes h = ordinary_by shape row met p bytes (is_ordinary shape.geometry p) refl h

-- whether the slots, where they count, hold pages of the file
pub slots_as : (met : List ℕ) (pages p : ℕ) (image : Image) (bytes : List ℕ) (answer : Bool) → pages ≡ length image → bytes ≡ page image p
    → answer ≡ (not (length met == 0) || list_all (λ q. nat_lt q pages) (iam_slots bytes)) → answer ≡ (not (length met == 0) || are_slots_inside image p)
slots_as met pages p image bytes answer same_n same is =
    is ∙ ap (λ n. not (length met == 0) || list_all (λ q. nat_lt q n) (iam_slots bytes)) same_n
    ∙ ap (λ b. not (length met == 0) || list_all (λ q. nat_lt q (length image)) (iam_slots b)) same

-- ---- what was done

pub link_outside : (a : PlanState) (row : CatalogRow) (met : List ℕ) (from : PageNo) (p : ℕ) → is_inside a.view.shape.pages p ≡ false
    → Does a a (chain_link a.view.shape row met from.0 p) (Err (Bad from))
link_outside a row met from p out = does_stop {meaning = stop_of} stop_of _ (Bad from) refl (does_bad [] a (is_inside a.view.shape.pages p) from.0 (Bad from) refl (λ told. out))

pub link_other : {a b : PlanState} (row : CatalogRow) (met : List ℕ) (from : ℕ) (p : PageNo) → is_inside a.view.shape.pages p.0 ≡ true
    → Does a b (look (resource.Page p) p.0) (Ok (page a.view.now p.0)) → (IsTrue a.told → is_chain_page a.view.shape row met p.0 (page a.view.now p.0) ≡ false)
    → Does a b (chain_link a.view.shape row met from p.0) (Err (Bad p))
link_other {a} {b} row met from p inside looked bad =
    does_then _ (does_good [] a (is_inside a.view.shape.pages p.0) from (λ told. inside))
    (does_then _ looked
    (does_stop {meaning = stop_of} stop_of _ (Bad p) refl (does_bad [] b (is_chain_page a.view.shape row met p.0 (page a.view.now p.0)) p.0 (Bad p) refl (λ told. bad (sym looked.stays.told ∙ told)))))

pub link_slots : {a b : PlanState} (row : CatalogRow) (met : List ℕ) (from : ℕ) (p : PageNo) → is_inside a.view.shape.pages p.0 ≡ true
    → Does a b (look (resource.Page p) p.0) (Ok (page a.view.now p.0)) → (IsTrue a.told → is_chain_page a.view.shape row met p.0 (page a.view.now p.0) ≡ true)
    → (IsTrue a.told → false ≡ (not (length met == 0) || are_slots_inside b.view.now p.0))
    → Does a b (chain_link a.view.shape row met from p.0) (Err (Bad p))
link_slots {a} {b} row met from p inside looked good slots =
    does_then _ (does_good [] a (is_inside a.view.shape.pages p.0) from (λ told. inside))
    (does_then _ looked
    (does_then _ (does_good [] b (is_chain_page a.view.shape row met p.0 (page a.view.now p.0)) p.0 (λ told. good (sym looked.stays.told ∙ told)))
    (does_then _ (does_see [] b _ false (λ told. slots (sym looked.stays.told ∙ told)))
    (does_stop {meaning = stop_of} stop_of _ (Bad p) refl (does_bad [] b false p.0 (Bad p) refl (λ told. refl))))))

pub link_good : {a b : PlanState} (row : CatalogRow) (met : List ℕ) (from : ℕ) (p : PageNo) (bytes : List ℕ) (next : ℕ) → is_inside a.view.shape.pages p.0 ≡ true
    → Does a b (look (resource.Page p) p.0) (Ok (page a.view.now p.0)) → (IsTrue a.told → is_chain_page a.view.shape row met p.0 (page a.view.now p.0) ≡ true)
    → (IsTrue a.told → true ≡ (not (length met == 0) || are_slots_inside b.view.now p.0))
    → (IsTrue a.told → bytes ≡ page a.view.now p.0) → next ≡ next_of bytes
    → Does a b (chain_link a.view.shape row met from p.0) (Ok next)
link_good {a} {b} row met from p bytes next inside looked good slots same is =
    does_then _ (does_good [] a (is_inside a.view.shape.pages p.0) from (λ told. inside))
    (does_then _ looked
    (does_then _ (does_good [] b (is_chain_page a.view.shape row met p.0 (page a.view.now p.0)) p.0 (λ told. good (sym looked.stays.told ∙ told)))
    (does_then _ (does_see [] b _ true (λ told. slots (sym looked.stays.told ∙ told)))
    (does_then _ (does_good [] b true p.0 (λ told. refl))
    (does_told (λ (n : ℕ). give n) (λ told. is ∙ ap next_of (same (sym looked.stays.told ∙ told))) (does_give [] b next))))))

first_of_three : (x a b c : Bool) → x ≡ (a && b && c) → x ≡ true → a ≡ true
first_of_three x true b c is h = refl
first_of_three x false b c is h = sym is ∙ h

-- a page of a chain is one of the file that objects may own
pub ownable_link : (shape : FileShape) (g : Geometry) (pages : ℕ) (row : CatalogRow) (met : List ℕ) (p : ℕ) (bytes : List ℕ) (inside answer : Bool) → g ≡ shape.geometry → pages ≡ shape.pages
    → inside ≡ is_inside pages p → inside ≡ true → answer ≡ asked g pages row met p bytes → answer ≡ true → IsOwnable shape p
ownable_link shape g pages row met p bytes inside answer same_g same_n is_in within is good = record {
  inside = let lt = ltb-true p pages (and_parts (not (p == 0)) (nat_lt p pages) (sym is_in ∙ within)).1 in omega (arith, lt, same_n);
  ordinary = ap (λ h. is_ordinary h p) (sym same_g) ∙ first_of_three answer (is_ordinary g p) (is_none (fault_of_bytes g pages row.id p bytes)) (not (list_any (λ q. q == p) met)) is good;
}
