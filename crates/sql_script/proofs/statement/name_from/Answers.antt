use Rattle.spec_file.proofs.NameLaws.{name_is_text}
use Rattle.sql_script.proofs.statement.name_from.Goals as goal

pub unreachable-requires : goal.unreachable-requires
unreachable-requires c = c.in-Err.ensures.cases.0 (name_is_text c.args.word.now c.requires)
