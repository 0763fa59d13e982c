-- What the PFS byte of a page should be (Pages and Extents Architecture Guide; the exact values are this
-- project's own).
use Rattle.std.specs.Prelude.{ℕ, ◌+◌, ◌-◌, ◌*◌, ◌==◌, Bool, nat_le, if◌then◌else◌}
use Rattle.std.specs.Int.{bit_at}
use Rattle.spec_file.specs.declared.sizes.TheConstants.{ROOM}
use Rattle.spec_file.specs.declared.pfs.PfsKind.{PfsKind}
use Rattle.spec_file.specs.declared.pfs.PfsKind.TheVariants.{System, Reserved, Boot, Iam, Single, Uniform, Unused}

-- how many bytes of a page rows and their slots can use
abbrev pub room : ℕ
room = ROOM

-- bits 0 to 2, the fullness: 0 empty, 1 up to half full, 2 up to 80 percent, 3 up to 95 percent, 4 above
abbrev pub fullness_of : ℕ → ℕ
fullness_of free =
    if room - free == 0 then 0 else (if nat_le (100 * (room - free)) (50 * room) then 1
    else (if nat_le (100 * (room - free)) (80 * room) then 2 else (if nat_le (100 * (room - free)) (95 * room) then 3 else 4)))

-- the fullness of a page that is all in use
abbrev pub full : ℕ
full = 4

-- bits 4, 5 and 6: the page is an IAM page, it is in a mixed extent, it is allocated
abbrev pub iam_flag : ℕ
iam_flag = 16

abbrev pub mixed_flag : ℕ
mixed_flag = 32

abbrev pub allocated_flag : ℕ
allocated_flag = 64

-- the byte tells that its page is allocated
abbrev pub is_allocated_byte : ℕ → Bool
is_allocated_byte byte = bit_at byte 6 == 1

-- the byte that a page of this use should have; the fullness is that of a heap's page, else 0
abbrev pub expected : PfsKind → ℕ → ℕ
expected System fullness = allocated_flag + full
expected Reserved fullness = 0
expected Boot fullness = allocated_flag + mixed_flag + full
expected Iam fullness = allocated_flag + mixed_flag + iam_flag
expected Single fullness = allocated_flag + mixed_flag + fullness
expected Uniform fullness = allocated_flag + fullness
expected Unused fullness = 0
