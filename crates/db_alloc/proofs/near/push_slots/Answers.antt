use Rattle.std.proofs.Common.{◌≡◌, arith, length, get_or}
use Rattle.std.proofs.lemmas.List.{length-map}
use Rattle.spec_file.specs.declared.data.PageNo.{PageNo}
use Rattle.db_alloc.specs.Tables.{numbers}
use Rattle.db_alloc.proofs.NearPages.{slot_inside, slot_outside, slots_all, number_at}
use Rattle.db_alloc.proofs.near.push_slots.Goals as goal
use Rattle.db_alloc.proofs.near.push_slots.Goals.{then-q-pages+in_ok-push, else-q-pages}

pub loop-q-preserved : goal.loop-q-preserved
loop-q-preserved c =
    let q = get_or c.args.slots.now c.loop-q.q-index (record { 0 = 0 }) in
    let is = number_at c.args.slots.now c.loop-q.q-index (record { 0 = 0 }) c.loop-q-test.true in
    elim c.if-q-pages.branch [
      | then-q-pages+in_ok-push w ↦ rw w.found-is (slot_inside c.args.pages c.loop-q.q-index q.0 (numbers c.args.slots.now) _ _ _ is c.loop-q.invariant w.in_ok-push.ensures.items w.if-q-pages.true)
      | else-q-pages w ↦ rw w.found-is (slot_outside c.args.pages c.loop-q.q-index q.0 (numbers c.args.slots.now) _ _ is c.loop-q.invariant w.if-q-pages.false)
    ]

pub returns : goal.returns
returns c =
    let end = c.loop-q-test.false in
    let long : length (numbers c.args.slots.now) ≡ length c.args.slots.now = length-map c.args.slots.now (λ (p : PageNo). p.0) in
    slots_all c.args.pages c.loop-q.q-index _ _ _ (omega (arith, end, long)) c.loop-q.invariant
