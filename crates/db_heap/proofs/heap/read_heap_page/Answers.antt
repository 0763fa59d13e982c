use Rattle.std.proofs.Common.{sym, ap, ◌∙◌}
use Rattle.spec_file.specs.declared.geometry.Geometry.{Geometry}
use Rattle.spec_file.specs.Roles.{is_ordinary}
use Rattle.db_cat.specs.Rows.{row_of}
use Rattle.db_heap.proofs.HeapSteps.{page_exit, page_other, page_good, not_ordinary, not_passing, both}
use Rattle.db_heap.proofs.heap.read_heap_page.Goals as goal

pub returns-in_err-look-clause-does : goal.returns-in_err-look-clause-does
returns-in_err-look-clause-does g c = page_exit (row_of c.args.table.now.row) c.args.p.0 c.look.new.into.bytes _ c.in_err-look.ensures.look c.from_residual.ensures.1

pub returns-then-not-is_ordinary-clause-does : goal.returns-then-not-is_ordinary-clause-does
returns-then-not-is_ordinary-clause-does g c =
    page_other (row_of c.args.table.now.row) c.args.p _ c.in_ok-look.ensures.look
    (not_ordinary _ _ (ap (λ (k : Geometry). is_ordinary k c.args.p.0) (sym c.requires.geometry) ∙ sym c.is_ordinary.ensures ∙ c.if-not-is_ordinary.true))

pub returns-in_err-look_page-clause-does : goal.returns-in_err-look_page-clause-does
returns-in_err-look_page-clause-does g c = page_exit (row_of c.args.table.now.row) c.args.p.0 c.look_page.new.into.bytes _ c.in_err-look_page.ensures.does c.from_residual-in_err-look_page.ensures.1

pub returns-then-not-is_heap_page-clause-does : goal.returns-then-not-is_heap_page-clause-does
returns-then-not-is_heap_page-clause-does g c =
    page_other (row_of c.args.table.now.row) c.args.p _ c.in_ok-look_page.ensures.does
    (not_passing _ _ (ap (λ (k : Geometry). is_ordinary k c.args.p.0) (sym c.requires.geometry) ∙ sym c.is_ordinary.ensures ∙ c.if-not-is_ordinary.false) (sym c.is_heap_page.ensures ∙ c.if-not-is_heap_page.true))

pub returns-clause-does : goal.returns-clause-does
returns-clause-does g c =
    page_good (row_of c.args.table.now.row) c.args.p.0 _ c.in_ok-look_page.ensures.does
    (both _ _ (ap (λ (k : Geometry). is_ordinary k c.args.p.0) (sym c.requires.geometry) ∙ sym c.is_ordinary.ensures ∙ c.if-not-is_ordinary.false) (sym c.is_heap_page.ensures ∙ c.if-not-is_heap_page.false))

pub returns-clause-ordinary : goal.returns-clause-ordinary
returns-clause-ordinary g c = ap (λ (k : Geometry). is_ordinary k c.args.p.0) (sym c.requires.geometry) ∙ sym c.is_ordinary.ensures ∙ c.if-not-is_ordinary.false

pub returns-clause-heap : goal.returns-clause-heap
returns-clause-heap g c = sym c.is_heap_page.ensures ∙ c.if-not-is_heap_page.false
