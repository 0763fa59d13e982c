-- System errors can be listed, and whether the system pages are sound can be decided.
use Rattle.std.proofs.Common.{◌≡◌, ◌≢◌, ℕ, ◌<◌, length, List, [], ◌∷◌, refl}
use Rattle.spec_file.specs.declared.geometry.Geometry.{Geometry}
use Rattle.spec_file.specs.Image.{Image, page}
use Rattle.spec_file.specs.Header.{page_type, says}
use Rattle.spec_file.specs.Places.{interval_of_page}
use Rattle.spec_file.specs.Roles.{role_of, system_type}
use Rattle.spec_file.specs.Catalog.{PassesCatalog, IsUsed, entry_count, entry_at, entry_id, entry_name, is_row, is_zeros}
use Rattle.spec_check.specs.System.{IsWrong, IsSystemError, IsSystemSound, wrong_page, wrong_interval}
use Rattle.law_report.proofs.Decisions.{dec_like, dec_not, dec_and, dec_and3, dec_or, dec_if, dec_true, dec_false, dec_eq}
use Rattle.law_report.proofs.Listings.{Listing, like, one, either, when, among, numbers, there_may_be, dec_exists, dec_every}

dec_same : (xs ys : List ℕ) → Dec (xs ≡ ys)
dec_same [] [] = yes refl
dec_same [] (y ∷ ys) = no (λ h. cc)
dec_same (x ∷ xs) [] = no (λ h. cc)
dec_same (x ∷ xs) (y ∷ ys) = dec_like (λ h. cc (h.0, h.1)) (λ h. (cc, cc)) (dec_and (dec_eq x y) (dec_same xs ys))

dec_used : (boot : List ℕ) (i : ℕ) → Dec (IsUsed boot i)
dec_used boot i = dec_false (is_zeros (entry_at boot i))

-- what is asked of each two tables of a catalog
dec_pairs : (boot : List ℕ) (Q : ℕ → ℕ → Type 0) → ((i j : ℕ) → Dec (Q i j))
    → Dec ((i j : ℕ) → j < i → i < entry_count → IsUsed boot i → IsUsed boot j → Q i j)
dec_pairs boot Q each = dec_like (λ h i j less low used used'. h i low j less used used') (λ h i low j less used used'. h i j less low used used')
    (dec_every (numbers entry_count) (λ i low. dec_every (numbers i) (λ j less. dec_if (dec_used boot i) (λ used. dec_if (dec_used boot j) (λ used'. each i j)))))

pub dec_catalog : (boot : List ℕ) → Dec (PassesCatalog boot)
dec_catalog boot = dec_like (λ h. record { rows = h.0; ids = h.1; names = h.2 }) (λ h. (h.rows, h.ids, h.names)) (dec_and3
    (dec_every (numbers entry_count) (λ i low. dec_if (dec_used boot i) (λ used. dec_true (is_row (entry_at boot i)))))
    (dec_pairs boot (λ i j. entry_id (entry_at boot i) ≢ entry_id (entry_at boot j)) (λ i j. dec_not (dec_eq (entry_id (entry_at boot i)) (entry_id (entry_at boot j)))))
    (dec_pairs boot (λ i j. entry_name (entry_at boot i) ≢ entry_name (entry_at boot j)) (λ i j. dec_not (dec_same (entry_name (entry_at boot i)) (entry_name (entry_at boot j))))))

dec_wrong : (g : Geometry) (p : ℕ) (bytes : List ℕ) → Dec (IsWrong g p bytes)
dec_wrong g p bytes = dec_or
    (dec_exists (there_may_be (system_type (role_of g p))) (λ type is. dec_false (says type p bytes)))
    (dec_and (dec_eq p 9) (dec_not (dec_catalog bytes)))

pub system_errors : (g : Geometry) (image : Image) → Listing (IsSystemError g image)
system_errors g image = like
    (among (numbers (length image)) (λ p low. when (dec_wrong g p (page image p))
    (either (one (wrong_page p (page_type (page image p)))) (one (wrong_interval g (interval_of_page g p))))))
    (λ x h. (h.0, h.1, h.2.0, h.2.1)) (λ x h. (h.0, h.1, (h.2, h.3)))

pub dec_sound : (g : Geometry) (image : Image) → Dec (IsSystemSound g image)
dec_sound g image = dec_every (numbers (length image)) (λ p low. dec_not (dec_wrong g p (page image p)))
