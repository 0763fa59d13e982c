use Rattle.law_trees.proofs.File.{sound_file_has_trees, clean_report_has_trees}
use Rattle.law_trees.proofs.file_laws.Goals as goal

pub returns : goal.returns
returns c = record { trees = sound_file_has_trees; clean = clean_report_has_trees }
