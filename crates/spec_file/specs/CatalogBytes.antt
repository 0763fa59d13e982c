-- The bytes of an entry of the catalog (this project's own).
use Rattle.std.specs.Prelude.{ℕ, ◌+◌, ◌-◌, ◌*◌, List, ◌∷◌, ◌++◌, length, take, drop, replicate}
use Rattle.byteorder.specs.Endian.{little_bytes}
use Rattle.spec_file.specs.declared.data.Kind.{Kind}
use Rattle.spec_file.specs.declared.data.Kind.TheVariants.{Heap, Clustered}
use Rattle.spec_file.specs.CatalogRows.{CatalogRow}

-- byte 4 of an entry names the kind
abbrev pub kind_byte : Kind → ℕ
kind_byte Heap = 1
kind_byte Clustered = 2

-- the 40 bytes of an object's entry: zeros stand behind the name, and behind the root
unfoldable pub entry_bytes : CatalogRow → List ℕ
entry_bytes row =
    little_bytes 4 row.id ++ (kind_byte row.kind ∷ length row.name ∷ row.name ++ (replicate (18 - length row.name) 0
    ++ (little_bytes 4 row.first_iam ++ (little_bytes 4 row.root ++ replicate 8 0))))

-- page 9 with these bytes as entry i
unfoldable pub with_entry : ℕ → List ℕ → List ℕ → List ℕ
with_entry i entry boot = take (96 + 40 * i) boot ++ (entry ++ drop (136 + 40 * i) boot)
