-- A name is text, of bytes that may stand in names.
use Rattle.std.proofs.Common.{◌≡◌, ℕ, zero, suc, ◌<◌, ◌&&◌, true, IsTrue, List, [], ◌∷◌, length, nat_le, arith}
use Rattle.std.proofs.lemmas.Bool.{and_parts, and_from}
use Rattle.std.proofs.lemmas.Bool.Decides.{nat_tests}
use Rattle.std.proofs.lemmas.Str.{IsUtf8-from_ascii}
use Rattle.std.specs.Str.{IsAscii, IsUtf8}
use Rattle.std.specs.List.{list_all}
use Rattle.spec_file.specs.Catalog.{is_name, is_name_byte, is_letter}

name_byte_is_ascii : (b : ℕ) → is_name_byte b ≡ true → b < 128
name_byte_is_ascii b test = grind (arith, nat_tests)

name_bytes_are_ascii : (bytes : List ℕ) → list_all is_name_byte bytes ≡ true → IsAscii bytes
name_bytes_are_ascii [] test i = omega arith
name_bytes_are_ascii (b ∷ rest) test zero = name_byte_is_ascii b (and_parts (is_name_byte b) (list_all is_name_byte rest) test).0
name_bytes_are_ascii (b ∷ rest) test (suc i) =
    name_bytes_are_ascii rest (and_parts (is_name_byte b) (list_all is_name_byte rest) test).1 i

-- a letter may begin a name, and be in it
letter_in_name : (b : ℕ) → is_letter b ≡ true → is_name_byte b ≡ true
letter_in_name b test = grind (arith, nat_tests)

-- all bytes of a name may stand behind its first
pub name_bytes : (name : List ℕ) → IsTrue (is_name name) → list_all is_name_byte name ≡ true
name_bytes [] test = absurd (cc)
name_bytes (b ∷ rest) test =
    let whole = and_parts (is_letter b && list_all is_name_byte rest) (nat_le (length rest) 15) test in
    let parts = and_parts (is_letter b) (list_all is_name_byte rest) whole.0 in
    and_from (is_name_byte b) (list_all is_name_byte rest) (letter_in_name b parts.0) parts.1

pub name_is_text : (name : List ℕ) → IsTrue (is_name name) → IsUtf8 name
name_is_text name test = IsUtf8-from_ascii name (name_bytes_are_ascii name (name_bytes name test))
