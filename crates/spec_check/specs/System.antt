-- System errors: a page that every other rule rests on is not what it must be (the use of these two
-- numbers is this project's own).
use Rattle.std.specs.Prelude.{◌≡◌, ◌⊎◌, ℕ, ◌<◌, false, List, length, Some}
use Rattle.spec_file.specs.declared.geometry.Geometry.{Geometry}
use Rattle.spec_file.specs.Image.{Image, page}
use Rattle.spec_file.specs.Header.{page_type, says}
use Rattle.spec_file.specs.Places.{interval_of_page, interval_start}
use Rattle.spec_file.specs.Roles.{role_of, system_type}
use Rattle.spec_file.specs.Catalog.{PassesCatalog}
use Rattle.spec_check.specs.declared.report.CheckError.{CheckError}

-- 8946, with the type that the page has
abbrev pub wrong_page : ℕ → ℕ → CheckError
wrong_page p type = record { number = 8946; object = 0; page = p; other = 0; slot = 0; value = type }

-- 8998, with the interval's first page
abbrev pub wrong_interval : Geometry → ℕ → CheckError
wrong_interval g m = record { number = 8998; object = 0; page = interval_start g m; other = 0; slot = 0; value = m }

-- these bytes of page p are those of a system place or the boot page whose type or page id is wrong
abbrev pub HasWrongHeader : Geometry → ℕ → List ℕ → Type 0
HasWrongHeader g p bytes = (type : ℕ) × (system_type (role_of g p) ≡ Some type) × (says type p bytes ≡ false)

-- the same, or those of page 9, whose catalog fails its test
abbrev pub IsWrong : Geometry → ℕ → List ℕ → Type 0
IsWrong g p bytes = HasWrongHeader g p bytes ⊎ ((p ≡ 9) × (PassesCatalog bytes → ⊥))

-- one of the two errors that a wrong page gives
abbrev pub IsErrorOf : Geometry → ℕ → List ℕ → CheckError → Type 0
IsErrorOf g p bytes x = (x ≡ wrong_page p (page_type bytes)) ⊎ (x ≡ wrong_interval g (interval_of_page g p))

-- an error of a wrong page of the file
abbrev pub IsSystemError : Geometry → Image → CheckError → Type 0
IsSystemError g image x =
    (p : ℕ) × (p < length image) × IsWrong g p (page image p) × IsErrorOf g p (page image p) x

-- no page of the file is wrong
abbrev pub IsSystemSound : Geometry → Image → Type 0
IsSystemSound g image = (p : ℕ) → p < length image → IsWrong g p (page image p) → ⊥
