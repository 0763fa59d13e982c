use Rattle.std.proofs.Common.{◌*◌, ◌/◌, List, ℕ, sym, subst}
use Rattle.std.specs.List.{list_any}
use Rattle.spec_file.specs.declared.data.ExtentNo.{ExtentNo}
use Rattle.spec_alloc.specs.Objects as objects
use Rattle.db_alloc.specs.Drops.{extents}
use Rattle.db_alloc.specs.Marks.{marks}
use Rattle.db_alloc.specs.Near.{AreNear}
use Rattle.db_alloc.specs.Tables.{numbers, bytes_of}
use Rattle.db_alloc.proofs.DropSteps.{left_short}
use Rattle.db_alloc.proofs.left.left_extents.Goals as goal

pub left_among-requires-clause-near : goal.left_among-requires-clause-near
left_among-requires-clause-near g c =
    subst (λ (es : List ExtentNo). AreNear (c.args.table.now.pages / 8) (λ (e : ℕ). list_any (marks c.args.table.now.geometry (8 * e)) (bytes_of c.args.chain.now.pages.items)) (extents es)) (sym c.deref.ensures.value)
    c.in_ok-near.ensures.near

pub returns-in_err-near-clause-does : goal.returns-in_err-near-clause-does
returns-in_err-near-clause-does g c = λ looked reached.
    let a = g.P.PlanPages.state c.args.v.now in
    left_short looked a (objects.left_extents a.view.shape (numbers c.args.chain.now.numbers.items)) _ _ c.in_err-near.ensures.short c.from_residual.ensures.1

pub returns-clause-does : goal.returns-clause-does
returns-clause-does g c = c.left_among.ensures.does
