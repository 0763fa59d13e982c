use Rattle.std.proofs.Common.{◌∙◌, arith}
use Rattle.pg_base.proofs.NumberLaws.{number_stays, front_stays, back_stays}
use Rattle.pg_base.proofs.header.write_numbers.Goals as goal

pub returns-clause-page_id : goal.returns-clause-page_id
returns-clause-page_id c =
    number_stays 4 4 _ _ _ _ _ c.put_u32-4.ensures (omega arith)
    ∙ number_stays 4 4 _ _ _ _ _ c.put_u32-3.ensures (omega arith)
    ∙ number_stays 4 4 _ _ _ _ _ c.put_u32-2.ensures (omega arith)
    ∙ c.put_u32.ensures.number

pub returns-clause-object : goal.returns-clause-object
returns-clause-object c =
    number_stays 4 8 _ _ _ _ _ c.put_u32-4.ensures (omega arith)
    ∙ number_stays 4 8 _ _ _ _ _ c.put_u32-3.ensures (omega arith)
    ∙ c.put_u32-2.ensures.number

pub returns-clause-prev : goal.returns-clause-prev
returns-clause-prev c =
    number_stays 4 12 _ _ _ _ _ c.put_u32-4.ensures (omega arith)
    ∙ c.put_u32-3.ensures.number

pub returns-clause-next : goal.returns-clause-next
returns-clause-next c =
    c.put_u32-4.ensures.number

pub returns-clause-before : goal.returns-clause-before
returns-clause-before c =
    front_stays 4 _ _ _ _ _ c.put_u32-4.ensures (omega arith)
    ∙ front_stays 4 _ _ _ _ _ c.put_u32-3.ensures (omega arith)
    ∙ front_stays 4 _ _ _ _ _ c.put_u32-2.ensures (omega arith)
    ∙ front_stays 4 _ _ _ _ _ c.put_u32.ensures (omega arith)

pub returns-clause-behind : goal.returns-clause-behind
returns-clause-behind c =
    back_stays 20 _ _ _ _ _ c.put_u32-4.ensures (omega arith)
    ∙ back_stays 20 _ _ _ _ _ c.put_u32-3.ensures (omega arith)
    ∙ back_stays 20 _ _ _ _ _ c.put_u32-2.ensures (omega arith)
    ∙ back_stays 20 _ _ _ _ _ c.put_u32.ensures (omega arith)
