use Rattle.std.proofs.Common.{◌∙◌, sym, subst}
use Rattle.std.proofs.lemmas.List.{length-map}
use Rattle.ck_facts.specs.Maps.{rows_of_objects}
use Rattle.db_cat.specs.Rows.{row_of}
use Rattle.ck_alloc.specs.ChainsRead.{AreChainsRead}
use Rattle.ck_alloc.proofs.read.found_in.Goals as goal

pub returns-clause-read : goal.returns-clause-read
returns-clause-read g c = λ x at. record {
  start = record { errors = c.new.result; uses = c.new-2.result; extents = c.in_ok-extents.extents };
  errors = c.new.ensures.items;
  uses = c.new-2.ensures.items;
  bare = c.in_ok-extents.ensures.bare;
  count = sym c.in_ok-extents.extents.ok.0 ∙ c.in_ok-extents.ensures.size;
  read = subst (λ n. AreChainsRead c.args.g x (rows_of_objects c.args.objects.now) n (record { errors = c.new.result; uses = c.new-2.result; extents = c.in_ok-extents.extents }) c.read_chains.new.found)
      (sym (length-map c.args.objects.now row_of)) (c.in_ok-read_chains.ensures.read x at);
}
