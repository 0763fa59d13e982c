use Rattle.std.proofs.Common.{◌≡◌, refl, ◌∙◌, arith}
use Rattle.spec_file.specs.Image.{number_at}
use Rattle.pg_base.proofs.NumberLaws.{number_stays, front_stays, back_stays, same_number, same_byte, same_number_behind}
use Rattle.pg_slots.proofs.puts.set_counts.Goals as goal

pub returns-clause-front : goal.returns-clause-front
returns-clause-front c =
    front_stays 20 _ _ _ _ _ c.put_u16-3.ensures (omega arith)
    ∙ front_stays 20 _ _ _ _ _ c.put_u16-2.ensures (omega arith)
    ∙ front_stays 20 _ _ _ _ _ c.put_u16.ensures (omega arith)

pub returns-clause-behind : goal.returns-clause-behind
returns-clause-behind c =
    back_stays 26 _ _ _ _ _ c.put_u16-3.ensures (omega arith)
    ∙ back_stays 26 _ _ _ _ _ c.put_u16-2.ensures (omega arith)
    ∙ back_stays 26 _ _ _ _ _ c.put_u16.ensures (omega arith)

pub returns-clause-header : goal.returns-clause-header
returns-clause-header c =
    let old = c.args.page.now.bytes in
    let new = c.put_u16-3.new.page.bytes in
    let front = returns-clause-front c in
    let slots : number_at 2 20 new ≡ c.args.slots =
    number_stays 2 20 _ _ _ _ _ c.put_u16-3.ensures (omega arith) ∙ number_stays 2 20 _ _ _ _ _ c.put_u16-2.ensures (omega arith) ∙ c.put_u16.ensures.number in
    let free_count : number_at 2 22 new ≡ c.args.free_count =
    number_stays 2 22 _ _ _ _ _ c.put_u16-3.ensures (omega arith) ∙ c.put_u16-2.ensures.number in
    rw (
      same_byte 1 20 new old front (omega arith),
      same_byte 2 20 new old front (omega arith),
      same_number 4 4 20 new old front (omega arith),
      same_number 4 8 20 new old front (omega arith),
      same_number 4 12 20 new old front (omega arith),
      same_number 4 16 20 new old front (omega arith),
      slots,
      free_count,
      c.put_u16-3.ensures.number,
      same_number_behind 2 26 26 new old (returns-clause-behind c) (omega arith),
    ) refl
