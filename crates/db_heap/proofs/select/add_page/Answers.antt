use Rattle.db_cat.specs.Rows.{row_of}
use Rattle.db_heap.proofs.SelectSteps.{does_short, as_heap_page}
use Rattle.db_heap.proofs.select.add_page.Goals as goal

pub add_payloads-requires : goal.add_payloads-requires
add_payloads-requires g c = as_heap_page c.args.p.0 (row_of c.args.table.now.row).id _ c.in_ok-read_heap_page.ensures.heap
