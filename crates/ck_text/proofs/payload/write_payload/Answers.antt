use Rattle.std.proofs.Common.{sym}
use Rattle.ck_text.proofs.Payloads.{plain_shown}
use Rattle.ck_text.proofs.payload.write_payload.Goals as goal

pub returns-then-are_plain : goal.returns-then-are_plain
returns-then-are_plain g c = rw (plain_shown c.args.payload.now (sym c.if-are_plain.ensures)) c.write_bytes.ensures
