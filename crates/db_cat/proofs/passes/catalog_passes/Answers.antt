use Rattle.std.proofs.Common.{arith, refl, below_more}
use Rattle.db_cat.proofs.passes.catalog_passes.Goals as goal

pub loop-i-preserved : goal.loop-i-preserved
loop-i-preserved c =
    below_more _ _ c.loop-i.invariant (c.is_good_entry.ensures.0 c.if-not-is_good_entry.false)

pub returns : goal.returns
returns c = (
  λ passes. record {
    rows = λ i within used. (c.loop-i.invariant i (omega arith)).row used;
    ids = λ i j less within used earlier. ((c.loop-i.invariant i (omega arith)).new used).id j less earlier;
    names = λ i j less within used earlier. ((c.loop-i.invariant i (omega arith)).new used).name j less earlier;
  },
  λ passes. refl,
)
