-- Where no system page is wrong the catalog passes its test.
use Rattle.std.proofs.Common.{◌≡◌, ℕ, [], Contains, arith, refl, inl, inr, subst}
use Rattle.spec_file.specs.declared.geometry.Geometry.{Geometry}
use Rattle.spec_file.specs.Header.{page_type}
use Rattle.spec_file.specs.Catalog.{PassesCatalog}
use Rattle.spec_check.specs.declared.report.CheckError.{CheckError}
use Rattle.spec_check.specs.System.{wrong_page}
use Rattle.ck_alloc.specs.declared.system_maps.SystemMaps.{SystemMaps}
use Rattle.ck_alloc.specs.SystemMaps.{PagesRead, AreSaidBy}

nobody : (x : CheckError) → Contains {X = CheckError} [] x → ⊥
nobody x h = omega (arith, h.1)

pub boot_tested : (g : Geometry) (pages : ℕ) (found : PagesRead) (maps : SystemMaps) → AreSaidBy g pages found maps
    → maps.errors.items ≡ [] → (PassesCatalog maps.boot.value.bytes → ⊥) → ⊥
boot_tested g pages found maps said none fails =
    let fails_there : PassesCatalog found.boot → ⊥ = subst (λ b. PassesCatalog b → ⊥) said.boot fails in
    nobody _ (subst (λ l. Contains l (wrong_page 9 (page_type found.boot))) none
    (said.errors.complete (wrong_page 9 (page_type found.boot)) (inr ((inr (refl, fails_there), inl refl)))))
