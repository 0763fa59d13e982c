use Rattle.law_writes.proofs.Puts.{put_sets_free, put_sets_mixed, put_sets_byte, put_sets_page}
use Rattle.law_writes.proofs.put_laws.Goals as goal

pub returns : goal.returns
returns c = record { free = put_sets_free; mixed = put_sets_mixed; byte = put_sets_byte; page = put_sets_page }
