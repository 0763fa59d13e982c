use Rattle.law_pages.proofs.Agreement.{file_agrees_under, headers_are_shown}
use Rattle.law_pages.proofs.agreement_law.Goals as goal

pub returns : goal.returns
returns c = record { bits = file_agrees_under; headers = headers_are_shown }
