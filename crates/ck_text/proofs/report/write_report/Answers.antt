use Rattle.spec_check.specs.Text.{report_text}
use Rattle.vol_dev.proofs.Output.{wrote_then, wrote_front, wrote_failed}
use Rattle.ck_text.proofs.report.write_report.Goals as goal

pub returns-in_err-write_errors : goal.returns-in_err-write_errors
unfolding report_text
returns-in_err-write_errors g c =
    wrote_failed _ _ _ _ _ _ c.from_residual.ensures.1
    (wrote_front _ _ _ _ _ (wrote_front _ _ _ _ _ (rw c.as_slice.ensures at c.in_err-write_errors.ensures)))

pub returns-in_err-write_tables : goal.returns-in_err-write_tables
unfolding report_text
returns-in_err-write_tables g c =
    wrote_failed _ _ _ _ _ _ c.from_residual-in_err-write_tables.ensures.1
    (wrote_front _ _ _ _ _ (wrote_then _ _ _ _ _ _ _ (rw c.as_slice.ensures at c.in_ok-write_errors.ensures)
    (rw c.as_slice-2.ensures at c.in_err-write_tables.ensures)))

pub returns : goal.returns
unfolding report_text
returns g c =
    wrote_then _ _ _ _ _ _ _ (wrote_then _ _ _ _ _ _ _ (rw c.as_slice.ensures at c.in_ok-write_errors.ensures)
    (rw c.as_slice-2.ensures at c.in_ok-write_tables.ensures)) (rw (c.total_text.ensures, c.as_slice-3.ensures) at c.write_line.ensures)
