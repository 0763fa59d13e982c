-- Small files, worked by hand.
use Rattle.std.specs.Prelude.{◌≡◌, ◌+◌, [], ◌∷◌, map, take}
use Rattle.std.specs.List.{range_with_len}
use Rattle.spec_file.specs.declared.geometry.Geometry.TheVariants.{Standard, Small}
use Rattle.spec_make.specs.Rules.{byte_where}
use Rattle.spec_make.specs.NewMaps.{is_new_free, is_new_mixed, new_pfs_byte}
use Rattle.spec_make.specs.NewPages.{first_content}

-- of 12 extents 0 has the maps, 1 page 9, and 11 the PFS page 88: the GAM bytes are FC and 07
abbrev pub FreeExtents : Type 0
FreeExtents =
    (byte_where (is_new_free Small 96) ≡ 252) × (byte_where (λ k. is_new_free Small 96 (8 + k)) ≡ 7) × (byte_where (λ k. is_new_free Small 96 (16 + k)) ≡ 0)

-- the first SGAM byte is 02
abbrev pub MixedExtent : Type 0
MixedExtent = byte_where is_new_mixed ≡ 2

-- the PFS bytes of the first two extents, and of the extent of the second PFS page
abbrev pub PfsBytes : Type 0
PfsBytes =
    (map (new_pfs_byte Standard) (range_with_len 0 16) ≡ 68 ∷ 68 ∷ 68 ∷ 68 ∷ 0 ∷ 0 ∷ 0 ∷ 0 ∷ 0 ∷ 100 ∷ 0 ∷ 0 ∷ 0 ∷ 0 ∷ 0 ∷ 0 ∷ [])
    × (map (new_pfs_byte Small) (range_with_len 88 8) ≡ 68 ∷ 0 ∷ 0 ∷ 0 ∷ 0 ∷ 0 ∷ 0 ∷ 0 ∷ [])

-- what stands behind the header of page 0 of a small file of 16 pages
abbrev pub FirstBytes : Type 0
FirstBytes = take 16 (first_content Small 16) ≡ 80 ∷ 71 ∷ 67 ∷ 72 ∷ 75 ∷ 68 ∷ 66 ∷ 49 ∷ 1 ∷ 0 ∷ 2 ∷ 0 ∷ 16 ∷ 0 ∷ 0 ∷ 0 ∷ []
