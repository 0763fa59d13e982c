-- The headers of PFS pages, which a look tells.
use Rattle.std.proofs.Common.{◌≡◌, ℕ, ◌*◌, ◌/◌, ◌==◌, ◌||◌, ◌&&◌, eqb, true, false, IsTrue, List, take, Result, Ok, Err, refl, sym, ap, ◌∙◌, subst, arith}
use Rattle.std.specs.Prelude.{if◌then◌else◌, IsErrAnd}
use Rattle.std.proofs.lemmas.Bool.{cond_both, or_left, eq-eqb}
use Rattle.spec_file.specs.declared.data.Resource.{Resource}
use Rattle.spec_file.specs.declared.data.Resource.TheVariants as resource
use Rattle.spec_file.specs.declared.geometry.Geometry.{Geometry}
use Rattle.spec_file.specs.declared.geometry.Geometry.TheVariants.{Standard, Small}
use Rattle.spec_file.specs.declared.page_type.TheConstants.{PFS_TYPE}
use Rattle.spec_file.specs.Header.{says, page_type, page_id}
use Rattle.spec_file.specs.Image.{page, maps_start}
use Rattle.spec_file.specs.Places.{pfs_page}
use Rattle.spec_file.specs.Roles.{is_pfs_page, is_gam_page, is_sgam_page, is_system_place}
use Rattle.pg_base.proofs.NumberLaws.{same_number, same_byte}
use Rattle.spec_words.specs.Views.{Plan}
use Rattle.spec_words.specs.Words.{◌then◌, look, where_good}
use Rattle.db_locks.specs.declared.plan_pages.PageStop.{PageStop}
use Rattle.db_locks.specs.declared.plan_pages.PageStop.TheVariants.{Bad}
use Rattle.db_locks.specs.Guards.{tells_header, is_of_page}
use Rattle.db_locks.specs.States.{PlanState}
use Rattle.db_locks.specs.Does.{Does}
use Rattle.db_locks.specs.Cells.{pfs_page_read}
use Rattle.db_locks.proofs.PlanLaws.{does_then, does_exit, does_good, does_bad}

-- a PFS page speaks of itself
own_page : (g : Geometry) (p : ℕ) → pfs_page g (pfs_page g p) ≡ pfs_page g p
own_page Standard p = cond_both (eqb (p / 8088) 0) 1 (8088 * (p / 8088)) (λ q. pfs_page Standard q ≡ q) (λ e. refl) (λ e. by_part (p / 8088) e)
  where
    by_part : (n : ℕ) → eqb n 0 ≡ false → pfs_page Standard (8088 * n) ≡ 8088 * n
    by_part n some =
        let same : 8088 * n / 8088 ≡ n = omega arith in
        ap (λ m. if eqb m 0 then 1 else 8088 * m) same ∙ ap (λ s. if s then 1 else 8088 * n) some
own_page Small p = cond_both (eqb (p / 88) 0) 1 (88 * (p / 88)) (λ q. pfs_page Small q ≡ q) (λ e. refl) (λ e. by_part (p / 88) e)
  where
    by_part : (n : ℕ) → eqb n 0 ≡ false → pfs_page Small (88 * n) ≡ 88 * n
    by_part n some =
        let same : 88 * n / 88 ≡ n = omega arith in
        ap (λ m. if eqb m 0 then 1 else 88 * m) same ∙ ap (λ s. if s then 1 else 88 * n) some

-- so a look at it tells its header under any resource
tells_pfs : (g : Geometry) (r : Resource) (p : ℕ) → IsTrue (tells_header g r (pfs_page g p))
tells_pfs g r p =
    let q = pfs_page g p in
    or_left (is_system_place g q) (is_of_page r q)
    (or_left (is_pfs_page g q || is_gam_page g q) (is_sgam_page g q) (or_left (is_pfs_page g q) (is_gam_page g q) (eq-eqb q (pfs_page g q) (sym (own_page g p)))))

-- a header says what it says in its first bytes
same_saying : (type p : ℕ) (bytes seen : List ℕ) → take maps_start bytes ≡ take maps_start seen → says type p bytes ≡ says type p seen
same_saying type p bytes seen same =
    ap (λ t. (t == type) && (page_id bytes == p)) (same_byte 1 maps_start bytes seen same (omega arith))
    ∙ ap (λ n. (page_type seen == type) && (n == p)) (same_number 4 4 maps_start bytes seen same (omega arith))

abbrev page_plan : ℕ → ℕ → Plan (Unit {0})
page_plan p q = look (resource.Byte (record { 0 = p })) q then (λ bytes. where_good (says PFS_TYPE q bytes) q)

-- what was asked of the page that was looked at is asked of the page as it is seen
told_saying : (a : PlanState) (p q : ℕ) (bytes : List ℕ) → q ≡ pfs_page a.view.shape.geometry p
    → (IsTrue a.told → IsTrue (tells_header a.view.shape.geometry (resource.Byte (record { 0 = p })) q) → take maps_start bytes ≡ take maps_start (page a.view.now q))
    → IsTrue a.told → says PFS_TYPE q bytes ≡ says PFS_TYPE q (page a.view.now q)
told_saying a p q bytes eq header told =
    let g = a.view.shape.geometry in
    let r = resource.Byte (record { 0 = p }) in
    same_saying PFS_TYPE q bytes (page a.view.now q) (header told (subst (λ k. IsTrue (tells_header g r k)) (sym eq) (tells_pfs g r p)))

pub pfs_page_unread : (a b : PlanState) (p q : ℕ) {stop : PageStop} (result : Result (Unit {0}) PageStop) → q ≡ pfs_page a.view.shape.geometry p
    → Does a b (look (resource.Byte (record { 0 = p })) q) (Err stop) → IsErrAnd result (λ s. s ≡ stop) → Does a b (pfs_page_read a.view.shape p) result
pfs_page_unread a b p q result eq d h = subst (λ k. Does a b (page_plan p k) result) eq (does_exit _ d h)

pub pfs_page_good : (a b : PlanState) (p q : ℕ) (bytes : List ℕ) → q ≡ pfs_page a.view.shape.geometry p
    → (IsTrue a.told → IsTrue (tells_header a.view.shape.geometry (resource.Byte (record { 0 = p })) q) → take maps_start bytes ≡ take maps_start (page a.view.now q))
    → Does a b (look (resource.Byte (record { 0 = p })) q) (Ok (page a.view.now q)) → says PFS_TYPE q bytes ≡ true → Does a b (pfs_page_read a.view.shape p) (Ok tt)
pfs_page_good a b p q bytes eq header d good =
    subst (λ k. Does a b (page_plan p k) (Ok tt)) eq
    (does_then _ d (does_good _ b (says PFS_TYPE q (page a.view.now q)) q (λ told. sym (told_saying a p q bytes eq header (subst IsTrue d.stays.told told)) ∙ good)))

pub pfs_page_bad : (a b : PlanState) (p q : ℕ) (bytes : List ℕ) → q ≡ pfs_page a.view.shape.geometry p
    → (IsTrue a.told → IsTrue (tells_header a.view.shape.geometry (resource.Byte (record { 0 = p })) q) → take maps_start bytes ≡ take maps_start (page a.view.now q))
    → Does a b (look (resource.Byte (record { 0 = p })) q) (Ok (page a.view.now q)) → says PFS_TYPE q bytes ≡ false → Does a b (pfs_page_read a.view.shape p) (Err (Bad (record { 0 = q })))
pfs_page_bad a b p q bytes eq header d bad =
    subst (λ k. Does a b (page_plan p k) (Err (Bad (record { 0 = q })))) eq
    (does_then _ d (does_bad _ b (says PFS_TYPE q (page a.view.now q)) q (Bad (record { 0 = q })) refl (λ told. sym (told_saying a p q bytes eq header (subst IsTrue d.stays.told told)) ∙ bad)))
