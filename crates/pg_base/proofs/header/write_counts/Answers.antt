use Rattle.std.proofs.Common.{◌∙◌, arith}
use Rattle.pg_base.proofs.NumberLaws.{number_stays, front_stays, back_stays}
use Rattle.pg_base.proofs.header.write_counts.Goals as goal

pub returns-clause-slots : goal.returns-clause-slots
returns-clause-slots c =
    number_stays 2 20 _ _ _ _ _ c.put_u16-4.ensures (omega arith)
    ∙ number_stays 2 20 _ _ _ _ _ c.put_u16-3.ensures (omega arith)
    ∙ number_stays 2 20 _ _ _ _ _ c.put_u16-2.ensures (omega arith)
    ∙ c.put_u16.ensures.number

pub returns-clause-free_count : goal.returns-clause-free_count
returns-clause-free_count c =
    number_stays 2 22 _ _ _ _ _ c.put_u16-4.ensures (omega arith)
    ∙ number_stays 2 22 _ _ _ _ _ c.put_u16-3.ensures (omega arith)
    ∙ c.put_u16-2.ensures.number

pub returns-clause-free_from : goal.returns-clause-free_from
returns-clause-free_from c =
    number_stays 2 24 _ _ _ _ _ c.put_u16-4.ensures (omega arith)
    ∙ c.put_u16-3.ensures.number

pub returns-clause-ghosts : goal.returns-clause-ghosts
returns-clause-ghosts c =
    c.put_u16-4.ensures.number

pub returns-clause-before : goal.returns-clause-before
returns-clause-before c =
    front_stays 20 _ _ _ _ _ c.put_u16-4.ensures (omega arith)
    ∙ front_stays 20 _ _ _ _ _ c.put_u16-3.ensures (omega arith)
    ∙ front_stays 20 _ _ _ _ _ c.put_u16-2.ensures (omega arith)
    ∙ front_stays 20 _ _ _ _ _ c.put_u16.ensures (omega arith)

pub returns-clause-behind : goal.returns-clause-behind
returns-clause-behind c =
    back_stays 28 _ _ _ _ _ c.put_u16-4.ensures (omega arith)
    ∙ back_stays 28 _ _ _ _ _ c.put_u16-3.ensures (omega arith)
    ∙ back_stays 28 _ _ _ _ _ c.put_u16-2.ensures (omega arith)
    ∙ back_stays 28 _ _ _ _ _ c.put_u16.ensures (omega arith)
