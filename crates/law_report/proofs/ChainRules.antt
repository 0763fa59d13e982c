-- The errors of chains can be listed.
use Rattle.std.proofs.Common.{ℕ, ◌+◌, ◌*◌, length}
use Rattle.spec_file.specs.declared.geometry.Geometry.{Geometry}
use Rattle.spec_file.specs.Image.{Image, page}
use Rattle.spec_file.specs.Places.{interval_size, extent_count}
use Rattle.spec_file.specs.CatalogRows.{CatalogRow}
use Rattle.spec_file.specs.Iam.{iam_sequence, iam_mark, single_slot_count}
use Rattle.spec_chain.specs.Chains.{prev_of, pointer}
use Rattle.spec_check.specs.Chains.{error, end_error, IsEndError, before, HasWrongChainPrev, HasWrongSequence, interval_at, IsFirstOf, RepeatsInterval, MarksOutside, IsErrorAt, IsChainPageError, HasSlotOutside, IsErrorOfChain, IsChainError}
use Rattle.law_report.proofs.Decisions.{dec_like, dec_and, dec_true, dec_eq, dec_ne, dec_le}
use Rattle.law_report.proofs.Listings.{Listing, like, one, either, when, among, numbers, there_may_be, dec_every}
use Rattle.law_report.proofs.Chains.{objects, chain_lengths, chain_pages}
use Rattle.law_report.proofs.Uses.{slots_hold}

end_errors : (g : Geometry) (image : Image) (row : CatalogRow) → Listing (IsEndError g image row)
end_errors g image row = among (chain_lengths g image row) (λ n is. there_may_be (end_error g image row n))

wrong_prevs : (image : Image) (row : CatalogRow) (k : ℕ) → Listing (HasWrongChainPrev image row k)
wrong_prevs image row k =
    when (dec_ne (prev_of (page image (pointer image row k))) (before image row k))
    (one (error 8969 row.id (pointer image row k) (prev_of (page image (pointer image row k))) 0 1))

wrong_sequences : (image : Image) (row : CatalogRow) (k : ℕ) → Listing (HasWrongSequence image row k)
wrong_sequences image row k =
    when (dec_ne (iam_sequence (page image (pointer image row k))) k)
    (one (error 2577 row.id (pointer image row k) 0 0 (iam_sequence (page image (pointer image row k)))))

dec_first : (image : Image) (row : CatalogRow) (m j : ℕ) → Dec (IsFirstOf image row m j)
dec_first image row m j = dec_like (λ h. record { is = h.0; first = h.1 }) (λ h. (h.is, h.first))
    (dec_and (dec_eq (interval_at image row j) m) (dec_every (numbers j) (λ i low. dec_ne (interval_at image row i) m)))

repeated : (image : Image) (row : CatalogRow) (k : ℕ) → Listing (RepeatsInterval image row k)
repeated image row k = like
    (among (numbers k) (λ j low. when (dec_first image row (interval_at image row k) j)
    (one (error 8947 row.id (pointer image row k) (pointer image row j) 0 0))))
    (λ x h. (h.0, h.1, h.2.0, h.2.1)) (λ x h. (h.0, h.1, (h.2, h.3)))

marked_outside : (g : Geometry) (image : Image) (row : CatalogRow) (k : ℕ) → Listing (MarksOutside g image row k)
marked_outside g image row k = like
    (among (numbers (interval_size g)) (λ n low. when (dec_and (dec_true (iam_mark (page image (pointer image row k)) n))
    (dec_le (extent_count image) (interval_size g * interval_at image row k + n)))
    (one (error 2579 row.id (pointer image row k) 0 0 (interval_size g * interval_at image row k + n)))))
    (λ x h. (h.0, h.1, h.2.0.0, h.2.0.1, h.2.1)) (λ x h. (h.0, h.1, ((h.2, h.3), h.4)))

errors_at : (g : Geometry) (image : Image) (row : CatalogRow) (k : ℕ) → Listing (IsErrorAt g image row k)
errors_at g image row k =
    either (wrong_prevs image row k) (either (wrong_sequences image row k) (either (repeated image row k) (marked_outside g image row k)))

chain_page_errors : (g : Geometry) (image : Image) (row : CatalogRow) → Listing (IsChainPageError g image row)
chain_page_errors g image row = among (chain_pages g image row) (λ k is. errors_at g image row k)

slots_outside : (g : Geometry) (image : Image) (row : CatalogRow) → Listing (HasSlotOutside g image row)
slots_outside g image row = like
    (among (numbers single_slot_count) (λ i low. among (slots_hold g image row i) (λ q is. when (dec_le (length image) q)
    (one (error 8968 row.id (pointer image row 0) q i 0)))))
    (λ x h. (h.0, h.2.0, h.2.1, h.2.2.0, h.2.2.1)) (λ x h. (h.0, h.2.0, (h.1, h.2, (h.3, h.4))))

errors_of_chain : (g : Geometry) (image : Image) (row : CatalogRow) → Listing (IsErrorOfChain g image row)
errors_of_chain g image row = either (end_errors g image row) (either (chain_page_errors g image row) (slots_outside g image row))

pub chain_errors : (g : Geometry) (image : Image) → Listing (IsChainError g image)
chain_errors g image = among (objects image) (λ row is. errors_of_chain g image row)
