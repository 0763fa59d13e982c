use Rattle.std.proofs.Common.{◌∷◌, ◌++◌, [], map, sym, ap, ◌∙◌, arith}
use Rattle.std.specs.List.{range_with_len}
use Rattle.std.proofs.lemmas.List.FromFn.{map-range_with_len_more}
use Rattle.spec_log.specs.Cells.{byte_with}
use Rattle.plain_log.proofs.put.page_with_bytes.Goals as goal

pub loop-i-preserved : goal.loop-i-preserved
loop-i-preserved c =
    let f = byte_with c.args.old.now c.args.off c.args.bytes.now in
    c.in_ok-push.ensures.ok
    ∙ ap (λ xs. xs ++ c.new_byte.result ∷ []) c.loop-i.invariant
    ∙ ap (λ v. map f (range_with_len 0 c.loop-i.i) ++ v ∷ []) c.new_byte.ensures
    ∙ sym (map-range_with_len_more f 0 c.loop-i.i c.loop-i.i (omega arith))
