-- The catalog: 128 entries of 40 bytes from offset 96 of page 9 (this project's own).
use Rattle.std.specs.Prelude.{◌≡◌, ◌≢◌, ℕ, ◌+◌, ◌*◌, ◌<◌, ◌==◌, ◌&&◌, ◌||◌, Bool, false, IsTrue, not, nat_le, List, [], ◌∷◌, length, slice_index, slice_range}
use Rattle.std.specs.List.{list_all}
use Rattle.spec_file.specs.declared.sizes.TheConstants.{ENTRY_COUNT}
use Rattle.spec_file.specs.Image.{number_at}

abbrev pub entry_count : ℕ
entry_count = ENTRY_COUNT

-- the bytes of entry i
unfoldable pub entry_at : List ℕ → ℕ → List ℕ
entry_at boot i = slice_range boot (96 + 40 * i) (136 + 40 * i)

abbrev pub is_zeros : List ℕ → Bool
is_zeros bytes = list_all (λ b. b == 0) bytes

abbrev pub entry_id : List ℕ → ℕ
entry_id entry = number_at 4 0 entry

abbrev pub name_length : List ℕ → ℕ
name_length entry = slice_index entry 5

-- the name that the entry gives its object
abbrev pub entry_name : List ℕ → List ℕ
entry_name entry = slice_range entry 6 (6 + name_length entry)

-- a letter from a to z
abbrev pub is_letter : ℕ → Bool
is_letter b = nat_le 97 b && nat_le b 122

-- a letter, a digit or `_`
abbrev pub is_name_byte : ℕ → Bool
is_name_byte b = is_letter b || (nat_le 48 b && nat_le b 57) || (b == 95)

-- a letter, then letters, digits and `_`; up to 16 in all
abbrev pub is_name : List ℕ → Bool
is_name [] = false
is_name (b ∷ rest) = is_letter b && list_all is_name_byte rest && nat_le (length rest) 15

-- a heap has no root
abbrev pub has_kind : List ℕ → Bool
has_kind entry = ((slice_index entry 4 == 1) && (number_at 4 28 entry == 0)) || (slice_index entry 4 == 2)

-- a name of 1 to 16 bytes, and zeros behind it up to the IAM page's number
abbrev pub has_name : List ℕ → Bool
has_name entry =
    nat_le (name_length entry) 16 && is_name (entry_name entry) && is_zeros (slice_range entry (6 + name_length entry) 24)

-- an entry that isn't empty: an id above 0, a kind, a name, and zeros where nothing is
abbrev pub is_row : List ℕ → Bool
is_row entry = not (entry_id entry == 0) && has_kind entry && has_name entry && is_zeros (slice_range entry 32 40)

-- the catalog has a table there
abbrev pub IsUsed : List ℕ → ℕ → Type 0
IsUsed boot i = is_zeros (entry_at boot i) ≡ false

-- every entry is empty or a row, and no two rows share an id or a name
pub record PassesCatalog (boot : List ℕ) : Type 0 where
  pub rows : (i : ℕ) → i < entry_count → IsUsed boot i → IsTrue (is_row (entry_at boot i))
  pub ids : (i j : ℕ) → j < i → i < entry_count → IsUsed boot i → IsUsed boot j
      → entry_id (entry_at boot i) ≢ entry_id (entry_at boot j)
  pub names : (i j : ℕ) → j < i → i < entry_count → IsUsed boot i → IsUsed boot j
      → entry_name (entry_at boot i) ≢ entry_name (entry_at boot j)
