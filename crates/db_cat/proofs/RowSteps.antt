-- One more entry of the catalog.
use Rattle.std.proofs.Common.{◌≡◌, refl, ℕ, ◌+◌, true, false, List, [], ◌∷◌, ◌++◌, map, ap, ◌∙◌, arith, append-nil}
use Rattle.std.proofs.lemmas.List.{map-append}
use Rattle.std.proofs.lemmas.List.FromFn.{filter_of_map_range_with_len_more}
use Rattle.std.specs.List.{filter, range_with_len}
use Rattle.spec_file.specs.Catalog.{entry_at, is_zeros}
use Rattle.spec_file.specs.CatalogRows.{row_of_entry, is_used, rows_before}

pub rows_used : (boot : List ℕ) (i : ℕ) → is_zeros (entry_at boot i) ≡ false
    → rows_before boot (i + 1) ≡ rows_before boot i ++ row_of_entry (entry_at boot i) ∷ []
rows_used boot i used =
    ap (map row_of_entry) (filter_of_map_range_with_len_more is_used (entry_at boot) 0 i i (omega arith) ∙ rw used refl)
    ∙ map-append row_of_entry (filter is_used (map (entry_at boot) (range_with_len 0 i))) (entry_at boot i ∷ [])

pub rows_empty : (boot : List ℕ) (i : ℕ) → is_zeros (entry_at boot i) ≡ true → rows_before boot (i + 1) ≡ rows_before boot i
rows_empty boot i empty =
    ap (map row_of_entry) (filter_of_map_range_with_len_more is_used (entry_at boot) 0 i i (omega arith)
    ∙ rw empty (append-nil (filter is_used (map (entry_at boot) (range_with_len 0 i)))))
