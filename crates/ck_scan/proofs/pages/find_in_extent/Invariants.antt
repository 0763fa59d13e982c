use Rattle.std.proofs.Common.{◌≡◌, ℕ, List, Contains, None, vec_len}
use Rattle.std.specs.Option.{ForSome}
use Rattle.pg_base.specs.Reading.{OnlyReads}
use Rattle.ck_facts.specs.MapOf.{IsMapOf}
use Rattle.ck_merge.specs.Held.{roots_in, count_of}
use Rattle.ck_scan.specs.Found.{AreFound, IsOwnerAmong}
use Rattle.ck_scan.specs.Frames.{IsFrameOf}
use Rattle.ck_scan.proofs.FoundLaws.{IsReached}
use Rattle.ck_scan.proofs.pages.find_in_extent.Given as goal

abbrev pub invariant-loop-owned : goal.invariant-loop-owned
invariant-loop-owned g l = record {
  found : ForSome (g.R.SnapReader.image l.initial.reader) (λ image. (others : List ℕ) → IsMapOf image l.map → IsFrameOf image l.initial.frame
      → (Contains others l.e → ⊥) → AreFound image l.map (IsOwnerAmong image l.map others) l.initial.found
      → AreFound image l.map (IsReached image l.map others l.owned-items l.owned-index) l.found);
  frame : ForSome (g.R.SnapReader.image l.initial.reader) (λ image. IsMapOf image l.map → IsFrameOf image l.initial.frame → IsFrameOf image l.frame);
  lines : vec_len l.found.lines ≡ vec_len l.initial.found.lines;
  roots : roots_in l.found.parts ≡ roots_in l.initial.found.parts;
  parts : count_of l.found.parts ≡ count_of l.initial.found.parts;
  reads : OnlyReads g.R.SnapReader l.initial.reader l.reader None;
}
