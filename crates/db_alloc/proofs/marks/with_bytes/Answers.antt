use Rattle.std.proofs.Common.{◌+◌, ◌∙◌, ap, take, filter, arith, get_or}
use Rattle.std.proofs.lemmas.List.{take_more, take_all}
use Rattle.db_alloc.specs.Marks.{has_byte}
use Rattle.db_alloc.specs.Tables.{bytes_of}
use Rattle.db_alloc.proofs.Lists.{filter_more}
use Rattle.db_alloc.proofs.marks.with_bytes.Goals as goal

pub loop-p-preserved : goal.loop-p-preserved
loop-p-preserved c =
    filter_more (has_byte c.args.g (bytes_of c.args.iams.now)) (take c.loop-p.p-index c.args.near.now) (take (c.loop-p.p-index + 1) c.args.near.now) (get_or c.args.near.now c.loop-p.p-index 0)
    c.has_byte-yes.result _ _ (take_more c.args.near.now c.loop-p.p-index 0 c.loop-p-test.true)
    c.has_byte-yes.ensures c.loop-p.invariant c.in_ok-push_if.ensures.pages

pub returns-clause-pages : goal.returns-clause-pages
returns-clause-pages c = c.loop-p.invariant ∙ ap (filter (has_byte c.args.g (bytes_of c.args.iams.now))) (take_all c.loop-p.p-index c.args.near.now (let end = c.loop-p-test.false in omega (arith, end)))
