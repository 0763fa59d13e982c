use Rattle.std.proofs.Common.{◌+◌, ◌≤◌, sym, ◌∙◌, subst}
use Rattle.db_alloc.proofs.Parts.{number_put}
use Rattle.db_alloc.proofs.part.edit_number.Goals as goal

pub returns : goal.returns
returns c =
    number_put 4 c.args.at c.args.value c.args.page.now.bytes c.put_u32.new.page.bytes c.is_whole-2.ensures.bytes (c.is_whole-2.ensures.long ∙ sym c.is_whole.ensures.long)
    (subst (λ n. c.args.at + 4 ≤ n) (sym c.is_whole.ensures.long) c.requires) c.put_u32.ensures
