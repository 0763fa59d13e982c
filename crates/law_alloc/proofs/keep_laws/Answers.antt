use Rattle.law_alloc.proofs.Singles.{single_keeps_good}
use Rattle.law_alloc.proofs.Objects.{object_page_keeps_good}
use Rattle.law_alloc.proofs.GivenBack.{object_page_freed_keeps_good, new_chain_keeps_good, drop_keeps_good, entry_keeps_good}
use Rattle.law_alloc.proofs.Freed.{shared_keeps_good, marked_keeps_good}
use Rattle.law_alloc.proofs.keep_laws.Goals as goal

pub returns : goal.returns
returns c = record { single = single_keeps_good; object = object_page_keeps_good; shared = shared_keeps_good; marked = marked_keeps_good; page = object_page_freed_keeps_good; chain = new_chain_keeps_good; drop = drop_keeps_good; entry = entry_keeps_good }
