-- Vectors of the bytes of items, and how many a Change has.
use Rattle.std.specs.Prelude.{◌≡◌, [], ◌∷◌, refl}
use Rattle.spec_file.specs.declared.data.Resource.TheVariants.{Catalog, Table, Extent, Byte, Page}
use Rattle.spec_log.specs.declared.item.Cell.TheVariants.{Bytes}
use Rattle.spec_log.specs.declared.item.Record.TheVariants.{Start, Change, Commit, Snap}
use Rattle.spec_log.specs.Bytes.{item_bytes}

-- the record of CREATE HEAP in a new file: five resources, three changes of 130 bytes
start_vector : item_bytes (Start 1 1 (record { 0 = 1 }) 0 3 130
    (Catalog ∷ Table (record { 0 = 1 }) ∷ Extent (record { 0 = 1 }) ∷ Byte (record { 0 = 8 }) ∷ Page (record { 0 = 8 }) ∷ []))
    ≡ 1 ∷ 1 ∷ 0 ∷ 1 ∷ 0 ∷ 0 ∷ 0 ∷ 1 ∷ 0 ∷ 0 ∷ 0 ∷ 0 ∷ 0 ∷ 0 ∷ 0 ∷ 0 ∷ 0 ∷ 3 ∷ 0 ∷ 0 ∷ 0 ∷ 130 ∷ 0 ∷ 0 ∷ 0 ∷ 0 ∷ 0 ∷ 0 ∷ 0 ∷ 5 ∷ 0 ∷ 0 ∷ 0
    ∷ 1 ∷ 0 ∷ 0 ∷ 0 ∷ 0 ∷ 2 ∷ 1 ∷ 0 ∷ 0 ∷ 0 ∷ 3 ∷ 1 ∷ 0 ∷ 0 ∷ 0 ∷ 4 ∷ 8 ∷ 0 ∷ 0 ∷ 0 ∷ 5 ∷ 8 ∷ 0 ∷ 0 ∷ 0 ∷ []
start_vector = refl

-- its first Change: the PFS byte of page 8 from 0 to 0x70
change_vector : item_bytes (Change (record { 0 = 1 }) (Bytes (record { 0 = 1 }) 104) (0 ∷ []) (112 ∷ []))
    ≡ 2 ∷ 1 ∷ 0 ∷ 0 ∷ 0 ∷ 0 ∷ 0 ∷ 0 ∷ 0 ∷ 1 ∷ 1 ∷ 0 ∷ 0 ∷ 0 ∷ 104 ∷ 0 ∷ 0 ∷ 0 ∷ 1 ∷ 0 ∷ 0 ∷ 112 ∷ []
change_vector = refl

commit_vector : item_bytes (Commit (record { 0 = 1 })) ≡ 4 ∷ 1 ∷ 0 ∷ 0 ∷ 0 ∷ 0 ∷ 0 ∷ 0 ∷ 0 ∷ []
commit_vector = refl

snap_vector : item_bytes (Snap 1 1) ≡ 6 ∷ 1 ∷ 0 ∷ 1 ∷ 0 ∷ 0 ∷ 0 ∷ []
snap_vector = refl
