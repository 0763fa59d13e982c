use Rattle.std.proofs.Common.{arith, sym, ap, ◌∙◌, Some, ◌<◌, length}
use Rattle.db_cat.specs.Rows.{row_of}
use Rattle.db_cat.specs.declared.rows.CatRow.{CatRow}
use Rattle.db_alloc.proofs.Rows.{named_at, named_behind, named_end, same_at}
use Rattle.db_alloc.proofs.find.take_named.Goals as goal

pub returns-then-has_name : goal.returns-then-has_name
returns-then-has_name c =
    let below : c.loop-i.i < length c.loop-i.rows.items = omega arith in
    let found = c.loop-i.invariant.named
    ∙ named_at c.loop-i.rows.items c.loop-i.i c.index.result.now c.args.name.now below c.index.ensures (sym c.has_name.ensures ∙ c.if-has_name.true) in
    ap (λ (row : CatRow). Some (row_of row)) (same_at c.loop-i.rows.items c.loop-i.i c.swap_remove.result c.index.result.now below c.swap_remove.ensures.value c.index.ensures) ∙ sym found

pub loop-i-preserved : goal.loop-i-preserved
loop-i-preserved c =
    let below : c.loop-i.i < length c.loop-i.rows.items = omega arith in
    record {
      same = c.loop-i.invariant.same;
      named = c.loop-i.invariant.named
          ∙ named_behind c.loop-i.rows.items c.loop-i.i c.index.result.now c.args.name.now below c.index.ensures (sym c.has_name.ensures ∙ c.if-has_name.false);
    }

pub returns : goal.returns
returns c = sym (c.loop-i.invariant.named ∙ named_end c.loop-i.rows.items c.loop-i.i c.args.name.now (omega arith))
