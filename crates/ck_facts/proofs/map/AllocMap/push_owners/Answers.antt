use Rattle.std.proofs.Common.{sym, ◌∙◌, arith}
use Rattle.ck_facts.proofs.OwnerLists.{owners_more, owners_skip}
use Rattle.ck_facts.proofs.OwnerLaws.{named_at}
use Rattle.ck_facts.proofs.map.AllocMap.push_owners.Goals as goal
use Rattle.ck_facts.proofs.map.AllocMap.push_owners.Goals.{then-is_owned_by+in_ok-push, else-is_owned_by}

pub loop-i-preserved : goal.loop-i-preserved
loop-i-preserved c =
    let m = c.args.self.now in
    let p = c.args.p.0 in
    let i = c.loop-i.i in
    elim c.if-is_owned_by.branch [
      | then-is_owned_by+in_ok-push w ↦ rw w.owners-is (owners_more m c.args.uses.now p i c.args.owners.now.items c.loop-i.owners.items _ _
          (sym c.is_owned_by.ensures ∙ w.if-is_owned_by.true) c.loop-i.invariant w.in_ok-push.ensures.items
          (named_at m p i w.index.result.now (omega (arith, m.objects.ok.0, c.loop-i-test.true, c.len-i-end.ensures)) w.index.ensures))
      | else-is_owned_by w ↦ rw w.owners-is (owners_skip m c.args.uses.now p i c.args.owners.now.items c.loop-i.owners.items
          (sym c.is_owned_by.ensures ∙ w.if-is_owned_by.false) c.loop-i.invariant)
    ]
