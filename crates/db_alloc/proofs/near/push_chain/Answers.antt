use Rattle.std.proofs.Common.{◌≡◌, ◌∙◌, sym, ap, arith, length}
use Rattle.std.proofs.lemmas.List.{length-map}
use Rattle.std.specs.Prelude.{Box}
use Rattle.std.specs.Global.{Global}
use Rattle.pg_base.specs.declared.page.Page.{Page}
use Rattle.db_alloc.specs.Marks.{marks}
use Rattle.db_alloc.specs.Tables.{bytes_of}
use Rattle.db_alloc.proofs.NearPages.{chain_more, chain_all, bytes_at}
use Rattle.db_alloc.proofs.near.push_chain.Goals as goal

pub loop-iam-preserved : goal.loop-iam-preserved
loop-iam-preserved c =
    chain_more c.args.pages c.loop-iam.iam-index (λ bytes p. marks c.args.g p bytes) (bytes_of c.args.iams.now) c.deref.result.now.bytes _ _ _
    (λ d. bytes_at c.args.iams.now c.loop-iam.iam-index c.iam-item.result c.loop-iam-test.true c.iam-item.is d ∙ sym (ap (λ (page : Page). page.bytes) c.deref.ensures))
    c.loop-iam.invariant c.in_ok-push_marked.ensures

pub returns : goal.returns
returns c =
    let end = c.loop-iam-test.false in
    let long : length (bytes_of c.args.iams.now) ≡ length c.args.iams.now = length-map c.args.iams.now (λ (page : Box Page Global). page.value.bytes) in
    chain_all c.args.pages c.loop-iam.iam-index _ _ _ _ (omega (arith, end, long)) c.loop-iam.invariant
