-- Parts of a file as plans read them.
use Rattle.std.specs.Prelude.{ℕ, slice_index}
use Rattle.spec_file.specs.declared.page_type.TheConstants.{PFS_TYPE}
use Rattle.spec_file.specs.Header.{says}
use Rattle.spec_file.specs.declared.data.Resource.TheVariants as resource
use Rattle.spec_file.specs.Places.{pfs_page, pfs_place}
use Rattle.spec_words.specs.NetChanges.{FileShape}
use Rattle.spec_words.specs.Views.{Plan}
use Rattle.spec_words.specs.Words.{◌then◌, give, where_good, look}

-- the PFS page of page p is looked at under the resource of its byte, and passes as a PFS page
abbrev pub pfs_page_read : FileShape → ℕ → Plan (Unit {0})
pfs_page_read shape p =
    look (resource.Byte (record { 0 = p })) (pfs_page shape.geometry p) then (λ bytes.
    where_good (says PFS_TYPE (pfs_page shape.geometry p) bytes) (pfs_page shape.geometry p))

-- the PFS byte of page p, under its own resource
abbrev pub pfs_byte_read : FileShape → ℕ → Plan ℕ
pfs_byte_read shape p =
    look (resource.Byte (record { 0 = p })) (pfs_place shape.geometry p).page then (λ bytes. give (slice_index bytes (pfs_place shape.geometry p).at))
