use Rattle.law_make.proofs.Clean.{new_file_is_clean, new_file_holds_nothing, new_sgam_is_exact}
use Rattle.law_make.proofs.WholeFile.{new_report_is_empty}
use Rattle.law_make.proofs.clean_laws.Goals as goal

pub returns : goal.returns
returns c = record { clean = new_file_is_clean; report = new_report_is_empty; empty = new_file_holds_nothing; sgam = new_sgam_is_exact }
