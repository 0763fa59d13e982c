use Rattle.log_rec.proofs.item.encode.Goals as goal

pub returns-in-Start-clause-ok : goal.returns-in-Start-clause-ok
returns-in-Start-clause-ok c =
    let all = rw (c.as_slice.ensures.value, c.start_head-head.ensures, c.as_slice-in-Start.ensures, c.count.ensures) at c.push_start.ensures.ok in
    rw c.in-Start.is all
