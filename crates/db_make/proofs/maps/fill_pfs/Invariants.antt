use Rattle.std.proofs.Common.{◌≡◌, ℕ, ◌+◌, ◌<◌, ◌≤◌, take}
use Rattle.std.specs.Prelude.{slice_index}
use Rattle.spec_make.specs.NewMaps.{new_pfs_byte}
use Rattle.db_make.proofs.maps.fill_pfs.Given as goal

abbrev pub invariant-loop-i : goal.invariant-loop-i
invariant-loop-i l = record {
  header : take 96 l.into.bytes ≡ take 96 l.initial.into.bytes;
  bytes : (i : ℕ) → i < l.i → slice_index l.into.bytes (96 + i) ≡ new_pfs_byte l.g (l.first + i);
  behind : (i : ℕ) → l.i ≤ i → slice_index l.into.bytes (96 + i) ≡ slice_index l.initial.into.bytes (96 + i);
}
