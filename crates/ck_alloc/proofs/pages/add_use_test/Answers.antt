use Rattle.ck_alloc.proofs.pages.add_use_test.Goals as goal

pub returns : goal.returns
returns c = rw c.kind_of_place.ensures at c.add_test.ensures
