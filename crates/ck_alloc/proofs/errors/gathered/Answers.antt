use Rattle.ck_alloc.proofs.errors.gathered.Goals as goal

pub returns : goal.returns
returns c = λ sorted. rw (c.in_ok-errors.ensures.items, c.deref.ensures.value) at (c.in_ok-add_parts.ensures sorted)
