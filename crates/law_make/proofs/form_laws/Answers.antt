use Rattle.law_make.proofs.WholeFile.{new_file_is_whole, new_file_passes}
use Rattle.law_make.proofs.form_laws.Goals as goal

pub returns : goal.returns
returns c = record { whole = new_file_is_whole; passes = new_file_passes }
