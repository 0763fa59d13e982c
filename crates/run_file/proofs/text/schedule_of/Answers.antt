use Rattle.run_file.proofs.Turns.{turns_inside}
use Rattle.run_file.proofs.text.schedule_of.Goals as goal

pub returns-in-Ok-clause-inside : goal.returns-in-Ok-clause-inside
returns-in-Ok-clause-inside g c = turns_inside _ _ _ c.in-Ok.ensures.ok.said
