-- A worker's draws, one after another.
use Rattle.std.proofs.Common.{◌≡◌, None, ◌∙◌, subst}
use Rattle.pg_base.specs.declared.reader.SnapReader.{Ghosts}
use Rattle.pg_base.specs.Reading.{OnlyReads}
use Rattle.pg_base.proofs.ReadingLaws.{reads_none, reads_then}
use Rattle.ck_claim.specs.Shown.{ClaimsModel}
use Rattle.ck_facts.specs.declared.map.AllocMap.{AllocMap}
use Rattle.ck_scan.specs.declared.worker.Worker.{Worker}
use Rattle.ck_scan.specs.Working.{IsGoing, HasDrawn}

pub drawn_none : {X : Type 0} (r : Ghosts X) (claims : ClaimsModel) (m : AllocMap) (w : Worker X) → IsGoing r claims m w → HasDrawn r claims m w w
drawn_none {X} r claims m w h = record {
  job = h.job;
  reads = rw h.going (reads_none r w.reader);
  holds = λ none x at of was. was;
}

pub drawn_then : {X : Type 0} (r : Ghosts X) (claims : ClaimsModel) (m : AllocMap) (a b c : Worker X) → HasDrawn r claims m a b → b.job.stop ≡ None
    → HasDrawn r claims m b c → HasDrawn r claims m a c
drawn_then {X} r claims m a b c p going q = record {
  job = q.job;
  reads = reads_then r a.reader b.reader c.reader c.job.stop (subst (OnlyReads r a.reader b.reader) going p.reads) q.reads;
  holds = λ none x at of was. q.holds none x (p.reads.image ∙ at) of (p.holds going x at of was);
}

-- a worker that goes on is as one that begins
pub still_going : {X : Type 0} (r : Ghosts X) (claims : ClaimsModel) (m : AllocMap) (a b : Worker X) → IsGoing r claims m a → HasDrawn r claims m a b
    → b.job.stop ≡ None → IsGoing r claims m b
still_going {X} r claims m a b h p going = record { job = p.job; going = going; pages = p.reads.pages ∙ h.pages }
