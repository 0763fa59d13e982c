-- PFS pages and their bytes.
use Rattle.std.proofs.Common.{◌≡◌, refl, ℕ, ◌*◌, ◌/◌, eqb, true, false, IsTrue, List, [], take, Result, Ok, Err, inl, inr, sym, ap, ◌∙◌, subst, arith}
use Rattle.std.specs.Prelude.{◌==◌, ◌&&◌, if◌then◌else◌, slice_index, IsErrAnd}
use Rattle.std.proofs.lemmas.Bool.{cases_eq, eq-eqb, ne_eqb}
use Rattle.spec_file.specs.declared.data.PageNo.{PageNo}
use Rattle.spec_file.specs.declared.data.Resource.TheVariants as resource
use Rattle.spec_file.specs.declared.geometry.Geometry.{Geometry}
use Rattle.spec_file.specs.declared.geometry.Geometry.TheVariants.{Standard, Small}
use Rattle.spec_file.specs.declared.page_type.TheConstants.{PFS_TYPE}
use Rattle.spec_file.specs.Header.{says, page_type, page_id}
use Rattle.spec_file.specs.Image.{page, maps_start}
use Rattle.spec_file.specs.Places.{pfs_page, pfs_place}
use Rattle.spec_file.specs.Roles.{is_pfs_page}
use Rattle.spec_chain.specs.Uses.{pfs_byte}
use Rattle.pg_base.proofs.NumberLaws.{same_number, same_byte}
use Rattle.spec_words.specs.Words.{◌then◌, look, where_good}
use Rattle.db_locks.specs.Guards.{tells_header}
use Rattle.db_locks.specs.declared.plan_pages.PageStop.{PageStop}
use Rattle.db_locks.specs.declared.plan_pages.PageStop.TheVariants.{Bad}
use Rattle.db_locks.specs.States.{PlanState}
use Rattle.db_locks.specs.Does.{Does}
use Rattle.db_locks.proofs.PlanLaws.{does_then, does_good, does_bad}
use Rattle.db_alloc.specs.Tables.{byte_looked}
use Rattle.db_alloc.specs.Results.{value_as}
use Rattle.db_alloc.proofs.Steps.{does_exit_as}

-- a PFS page speaks of itself
pub pfs_again : (g : Geometry) (p : ℕ) → pfs_page g p ≡ pfs_page g (pfs_page g p)
pfs_again Standard p = elim (cases_eq (p / 8088) 0) [
  | inl none ↦
      let is : pfs_page Standard p ≡ 1 = ap (λ b. if b then 1 else 8088 * (p / 8088)) (eq-eqb (p / 8088) 0 none) in
      is ∙ sym (ap (pfs_page Standard) is)
  | inr some ↦
      let is : pfs_page Standard p ≡ 8088 * (p / 8088) = ap (λ b. if b then 1 else 8088 * (p / 8088)) (ne_eqb (p / 8088) 0 some) in
      is ∙ by_part (p / 8088) some ∙ sym (ap (pfs_page Standard) is)
]
  where
    by_part : (n : ℕ) → (n ≡ 0 → ⊥) → 8088 * n ≡ pfs_page Standard (8088 * n)
    by_part n some =
        let same : 8088 * n / 8088 ≡ n = omega arith in
        sym (ap (λ m. if eqb m 0 then 1 else 8088 * m) same ∙ ap (λ s. if s then 1 else 8088 * n) (ne_eqb n 0 some))
pfs_again Small p = elim (cases_eq (p / 88) 0) [
  | inl none ↦
      let is : pfs_page Small p ≡ 1 = ap (λ b. if b then 1 else 88 * (p / 88)) (eq-eqb (p / 88) 0 none) in
      is ∙ sym (ap (pfs_page Small) is)
  | inr some ↦
      let is : pfs_page Small p ≡ 88 * (p / 88) = ap (λ b. if b then 1 else 88 * (p / 88)) (ne_eqb (p / 88) 0 some) in
      is ∙ by_part (p / 88) some ∙ sym (ap (pfs_page Small) is)
]
  where
    by_part : (n : ℕ) → (n ≡ 0 → ⊥) → 88 * n ≡ pfs_page Small (88 * n)
    by_part n some =
        let same : 88 * n / 88 ≡ n = omega arith in
        sym (ap (λ m. if eqb m 0 then 1 else 88 * m) same ∙ ap (λ s. if s then 1 else 88 * n) (ne_eqb n 0 some))

-- so its header is told under any resource
pub header_told : (g : Geometry) (p q : ℕ) → q ≡ pfs_page g p → IsTrue (tells_header g (resource.Byte (record { 0 = p })) q)
header_told g p q e =
    let own : is_pfs_page g (pfs_page g p) ≡ true = eq-eqb (pfs_page g p) (pfs_page g (pfs_page g p)) (pfs_again g p) in
    subst (λ k. IsTrue (tells_header g (resource.Byte (record { 0 = p })) k)) (sym e) (rw own refl)

pub says_same : (type q : ℕ) (a b : List ℕ) → take maps_start a ≡ take maps_start b → says type q a ≡ says type q b
says_same type q a b same =
    ap (λ t. (t == type) && (page_id a == q)) (same_byte 1 maps_start a b same (omega arith))
    ∙ ap (λ i. (page_type b == type) && (i == q)) (same_number 4 4 maps_start a b same (omega arith))

-- ---- what was done

pub byte_good : {a b : PlanState} (p q : ℕ) (bytes : List ℕ) → q ≡ pfs_page a.view.shape.geometry p → Does a b (look (resource.Byte (record { 0 = p })) q) (Ok (page a.view.now q))
    → (IsTrue a.told → take maps_start bytes ≡ take maps_start (page a.view.now q)) → says PFS_TYPE q bytes ≡ true → Does a b (byte_looked a.view.shape p) (Ok tt)
byte_good {a} {b} p q bytes e looked front good =
    subst (λ k. Does a b (look (resource.Byte (record { 0 = p })) k then (λ found. where_good (says PFS_TYPE k found) k)) (Ok tt)) e
    (does_then _ looked (does_good [] b (says PFS_TYPE q (page a.view.now q)) q (λ told. sym (says_same PFS_TYPE q bytes (page a.view.now q) (front (sym looked.stays.told ∙ told))) ∙ good)))

pub byte_bad : {a b : PlanState} (p : ℕ) (q : PageNo) (bytes : List ℕ) → q.0 ≡ pfs_page a.view.shape.geometry p → Does a b (look (resource.Byte (record { 0 = p })) q.0) (Ok (page a.view.now q.0))
    → (IsTrue a.told → take maps_start bytes ≡ take maps_start (page a.view.now q.0)) → says PFS_TYPE q.0 bytes ≡ false → Does a b (byte_looked a.view.shape p) (Err (Bad q))
byte_bad {a} {b} p q bytes e looked front bad =
    subst (λ k. Does a b (look (resource.Byte (record { 0 = p })) k then (λ found. where_good (says PFS_TYPE k found) k)) (Err (Bad q))) e
    (does_then _ looked (does_bad [] b (says PFS_TYPE q.0 (page a.view.now q.0)) q.0 (Bad q) refl (λ told. sym (says_same PFS_TYPE q.0 bytes (page a.view.now q.0) (front (sym looked.stays.told ∙ told))) ∙ bad)))

pub byte_exit : {a b : PlanState} {C : Type 0} (p q : ℕ) (f : C → Unit {0}) {stop : PageStop} (r : Result C PageStop) → q ≡ pfs_page a.view.shape.geometry p
    → Does a b (look (resource.Byte (record { 0 = p })) q) (Err stop) → IsErrAnd r (λ s. s ≡ stop) → Does a b (byte_looked a.view.shape p) (value_as f r)
byte_exit {a} {b} {C} p q f {stop} r e looked h =
    subst (λ k. Does a b (look (resource.Byte (record { 0 = p })) k then (λ found. where_good (says PFS_TYPE k found) k)) (value_as f r)) e
    (does_exit_as _ f stop r refl looked h)

-- the byte by its place
pub byte_at : (a : PlanState) (p q at value : ℕ) → q ≡ (pfs_place a.view.shape.geometry p).page → at ≡ (pfs_place a.view.shape.geometry p).at → value ≡ slice_index (page a.view.now q) at
    → value ≡ pfs_byte a.view.shape.geometry a.view.now p
byte_at a p q at value eq ea is = is ∙ ap (λ k. slice_index (page a.view.now k) at) eq ∙ ap (λ k. slice_index (page a.view.now (pfs_place a.view.shape.geometry p).page) k) ea
