use Rattle.law_clean.proofs.CleanParts.{clean_has_no_errors, clean_has_empty_report}
use Rattle.law_clean.proofs.clean_laws.Goals as goal

pub returns : goal.returns
returns c = record { errors = clean_has_no_errors; report = clean_has_empty_report }
