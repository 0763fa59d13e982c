use Rattle.law_check.proofs.RowReading.{key_is_read, child_is_read}
use Rattle.law_check.proofs.SlotReading.{slot_has_row, slot_key_is_read, head_is_read, index_row_is_read}
use Rattle.law_check.proofs.reading_laws.Goals as goal

pub returns : goal.returns
returns c = record { key = key_is_read; child = child_is_read; slots = slot_has_row; keys = slot_key_is_read; heads = head_is_read; rows = index_row_is_read }
