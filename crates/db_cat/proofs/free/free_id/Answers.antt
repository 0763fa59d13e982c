use Rattle.std.proofs.Common.{◌≡◌, ℕ, ◌+◌, ◌<◌, ◌≤◌, map, length, sym, ap, ◌∙◌, subst, arith}
use Rattle.std.proofs.lemmas.List.{length-map}
use Rattle.db_cat.specs.Rows.{row_of}
use Rattle.db_cat.proofs.Ids.{not_all_taken, free_is}
use Rattle.db_cat.proofs.free.free_id.Goals as goal

pub returns-then-not-is_taken : goal.returns-then-not-is_taken
returns-then-not-is_taken c =
    let rows = map row_of c.args.rows.now in
    let size : length rows ≡ length c.args.rows.now = length-map c.args.rows.now row_of in
    let low = c.loop-id.auto.id in
    let high = c.loop-id-test.true in
    sym (free_is rows c.loop-id.id low (omega (arith, size, high)) (sym c.is_taken.ensures ∙ c.if-not-is_taken.true) c.loop-id.invariant)

pub unreachable-requires : goal.unreachable-requires
unreachable-requires c =
    let rows = map row_of c.args.rows.now in
    let size : length rows ≡ length c.args.rows.now = length-map c.args.rows.now row_of in
    let high = c.loop-id-test.false in
    not_all_taken c.loop-id.id rows (omega (arith, size, high)) c.loop-id.invariant
