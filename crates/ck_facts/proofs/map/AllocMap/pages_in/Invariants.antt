use Rattle.std.proofs.Common.{◌<◌, vec_len}
use Rattle.std.specs.List.{All}
use Rattle.ck_facts.specs.PageUses.{IsByPage}
use Rattle.ck_facts.proofs.OwnerLists.{AreOwned}
use Rattle.ck_facts.proofs.map.AllocMap.pages_in.Given as goal

abbrev pub invariant-loop-p : goal.invariant-loop-p
invariant-loop-p l = record {
  pages : All (λ u. u.0.0 < l.self.pages) l.owners.items;
  owners : IsByPage l.self.uses.items → AreOwned l.self (vec_len l.self.objects) l.low l.p l.owners.items;
}
