use Rattle.std.proofs.Common.{◌≡◌, ℕ, ◌<◌, ◌≤◌, false}
use Rattle.std.specs.Prelude.{slice_index}
use Rattle.spec_file.specs.Image.{bit}
use Rattle.spec_make.specs.NewMaps.{tells_of, is_new_free}
use Rattle.db_make.proofs.maps.fill_gam.Given as goal

abbrev pub invariant-loop-n : goal.invariant-loop-n
invariant-loop-n l = record {
  header : (i : ℕ) → i < 96 → slice_index l.into.bytes i ≡ slice_index l.initial.into.bytes i;
  bits : (k : ℕ) → k < l.n → bit l.into.bytes k ≡ tells_of l.g (is_new_free l.g l.pages) l.m k;
  behind : (k : ℕ) → l.n ≤ k → bit l.into.bytes k ≡ false;
}
