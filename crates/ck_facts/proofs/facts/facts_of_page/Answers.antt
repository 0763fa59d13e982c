use Rattle.db_cat.specs.Rows.{row_of}
use Rattle.ck_facts.proofs.PageErrors.{fault_alone}
use Rattle.ck_facts.proofs.facts.facts_of_page.Goals as goal

pub returns-in_ok-shown-in-Err-clause-errors : goal.returns-in_ok-shown-in-Err-clause-errors
returns-in_ok-shown-in-Err-clause-errors c =
    fault_alone (row_of c.args.row.now) c.args.p.0 c.args.pfs c.args.page.now.bytes c.in-Err.fault c.fault_error.result _ c.in-Err.ensures.fault
    c.fault_error.ensures c.in_ok-shown-in-Err.ensures.errors
