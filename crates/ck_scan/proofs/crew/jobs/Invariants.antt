use Rattle.std.proofs.Common.{◌≡◌, ◌+◌, [], All, vec_len}
use Rattle.ck_claim.specs.Shown.{IsOf}
use Rattle.ck_scan.specs.Working.{IsBegun}
use Rattle.ck_scan.proofs.crew.jobs.Given as goal

abbrev pub invariant-parts : goal.invariant-parts
invariant-parts l = record {
  of : IsOf l.claims l.left;
  draws : l.left.draws ≡ [];
  begun : All (IsBegun l.claims l.map) l.all.items;
  count : vec_len l.all + l.left.parts ≡ l.fn.seat.parts;
}

abbrev pub decreases-parts : goal.decreases-parts
decreases-parts l = l.left.parts
