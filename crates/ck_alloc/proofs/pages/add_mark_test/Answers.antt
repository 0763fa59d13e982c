use Rattle.ck_alloc.proofs.pages.add_mark_test.Goals as goal

pub returns : goal.returns
returns c = rw c.kind_of_mark.ensures at c.add_test.ensures
