use Rattle.std.proofs.Common.{◌∙◌, length, arith, sym, replicate}
use Rattle.std.proofs.lemmas.Bool.{eqb-true}
use Rattle.std.proofs.lemmas.Bool.Decides.{Decides-eqb}
use Rattle.std.proofs.lemmas.Slice.Eq.{slice_eq-Decides}
use Rattle.ck_facts.proofs.OwnerLaws.{empty_list, unmarked_where_zero}
use Rattle.ck_facts.proofs.map.AllocMap.is_unowned.Goals as goal

pub returns-then-is_empty : goal.returns-then-is_empty
returns-then-is_empty c is = record {
  unused = empty_list c.args.uses.now (eqb-true (length c.args.uses.now) 0 (sym c.is_empty.ensures ∙ c.if-is_empty.true));
  unmarked = unmarked_where_zero c.args.self.now c.args.e.0 c.index.result.now
      (omega (arith, c.args.self.now.extents.ok.0, (c.args.self.now.sizes c.requires.sound).extents, c.requires.inside)) c.index.ensures
      ((slice_eq-Decides Decides-eqb c.index.result.now.marks (replicate 16 0) _ c.eq.ensures).0 is);
}
