use Rattle.std.proofs.Common.{◌+◌, ◌/◌, ◌∷◌, [], ap, ◌∙◌, arith}
use Rattle.spec_log.specs.Cells.{with_bytes}
use Rattle.db_alloc.proofs.LinkBytes.{byte_put}
use Rattle.db_alloc.proofs.links.edit_mark.Goals as goal

pub returns : goal.returns
returns c =
    let at = 136 + c.args.n / 8 in
    byte_put c.args.page.now.bytes at c.byte_with_bit.result (omega (arith, c.requires, c.is_whole.ensures.long))
    ∙ ap (λ byte. with_bytes c.args.page.now.bytes at (byte ∷ [])) c.byte_with_bit.ensures
