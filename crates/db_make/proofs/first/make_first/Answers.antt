use Rattle.std.proofs.Common.{ℕ, set, ap, arith}
use Rattle.db_make.proofs.FirstPage.{first_page}
use Rattle.db_make.proofs.first.make_first.Goals as goal

pub returns : goal.returns
returns c =
    first_page c.args.g c.args.pages c.args.p.0 _ _ _ _ _ (record {
      start = c.start_page.ensures;
      marked = c.put_magic.ensures;
      versioned = c.put_u16.ensures;
      long = omega arith;
      named = ap (λ (b : ℕ). set c.put_u16.new.page.bytes 106 b) c.geometry_byte.ensures;
      done = c.put_u32.ensures;
    }) c.is_whole.ensures.bytes c.is_whole.ensures.long
