use Rattle.std.proofs.Common.{◌∙◌}
use Rattle.spec_plan.specs.Rows.{passes_page}
use Rattle.law_rows.proofs.Passes.{test_from, test_into}
use Rattle.heap_page.proofs.Answered.{ok_is}
use Rattle.heap_page.proofs.page.is_heap_page.Goals as goal

pub returns : goal.returns
returns c =
    let p = c.args.p.0 in
    let o = c.args.object.0 in
    let bytes = c.args.page.now.bytes in
    let test = c.test_page.ensures.passes in
    c.is_ok.ensures.value ∙ ok_is c.test_page.result (passes_page p o bytes) (λ ok. test_into p o bytes (test.0 ok)) (λ passes. test.1 (test_from p o bytes passes))
