use Rattle.law_ways.proofs.OneTree.{one_tree}
use Rattle.law_ways.proofs.RowsLead.{rows_lead}
use Rattle.law_ways.proofs.WalkLaw.{leaves_are_walked}
use Rattle.law_ways.proofs.WayLaw.{ways_lead, ways_are_read}
use Rattle.law_ways.proofs.way_laws.Goals as goal

pub returns : goal.returns
returns c = record { rows = rows_lead; lead = ways_lead; read = ways_are_read; one = one_tree; walk = leaves_are_walked }
