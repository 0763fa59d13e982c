use Rattle.law_fixed.proofs.Logs.{bytes_fix_items, bytes_fix_appended}
use Rattle.law_fixed.proofs.bytes_law.Goals as goal

pub returns : goal.returns
returns c = record { items = bytes_fix_items; appended = bytes_fix_appended }
