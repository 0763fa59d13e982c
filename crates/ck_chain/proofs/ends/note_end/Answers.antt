use Rattle.ck_chain.proofs.ends.note_end.Goals as goal

pub returns : goal.returns
returns c = rw c.end_error.ensures at c.push_some.ensures
