use Rattle.law_levels.proofs.RowsRise.{rows_rise}
use Rattle.law_levels.proofs.ScanLaw.{scan_is_leaves}
use Rattle.law_levels.proofs.row_laws.Goals as goal

pub returns : goal.returns
returns c = record { rise = rows_rise; scan = scan_is_leaves }
