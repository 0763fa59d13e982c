use Rattle.std.proofs.Common.{sym}
use Rattle.ck_text.proofs.Refusals.{named_line}
use Rattle.ck_text.proofs.reply.write_refusal.Goals as goal

pub returns-then-names_object : goal.returns-then-names_object
returns-then-names_object g c =
    rw (named_line c.args.refusal.now (sym c.if-names_object.ensures)) (rw c.as_str.ensures at c.write_named.ensures)
