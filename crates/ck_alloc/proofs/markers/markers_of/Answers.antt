use Rattle.std.proofs.Common.{◌≡◌, ◌∙◌, ap, sym, arith, List, ℕ, ◌++◌, ◌∷◌, [], slice_index, get_or}
use Rattle.ck_facts.specs.MapOf.{ids_of}
use Rattle.ck_alloc.specs.Held.{marked_ids}
use Rattle.ck_alloc.proofs.Marking.{marked_more, marked_skip, id_at}
use Rattle.ck_alloc.proofs.markers.markers_of.Goals as goal
use Rattle.ck_alloc.proofs.markers.markers_of.Goals.{then-has_mark, else-has_mark}

pub loop-i-preserved : goal.loop-i-preserved
loop-i-preserved c =
    let ids = ids_of c.args.objects.now in
    let x = c.args.extent.now in
    let i = c.loop-i.i in
    let gathered = c.loop-i.invariant.0 in
    let room = c.loop-i.invariant.1 in
    elim c.if-has_mark.branch [
      | then-has_mark w ↦
          let id : slice_index ids i ≡ (get_or c.args.objects.now i w.index-objects-i.result).id.0 = id_at c.args.objects.now i w.index-objects-i.result c.loop-i-test.true in
          let more = marked_more ids x i (sym c.has_mark.ensures ∙ w.if-has_mark.true) in
          rw w.ids-is (
            w.push.ensures.items ∙ (ap (λ (l : List ℕ). l ++ (get_or c.args.objects.now i w.index-objects-i.result).id.0 ∷ []) gathered
                ∙ (ap (λ (n : ℕ). marked_ids ids x i ++ n ∷ []) (sym id) ∙ sym more)),
            omega (arith, w.push.ensures.len),
          )
      | else-has_mark w ↦ rw w.ids-is (gathered ∙ sym (marked_skip ids x i (sym c.has_mark.ensures ∙ w.if-has_mark.false)), omega arith)
    ]
