use Rattle.std.proofs.Common.{[], ◌∷◌, ap, sym, ◌∙◌, subst}
use Rattle.std.proofs.lemmas.List.Elements.{Contains-push}
use Rattle.spec_plan.specs.Reading.{first_page}
use Rattle.spec_words.specs.NetChanges.{FileShape}
use Rattle.spec_words.specs.Words.{for_each}
use Rattle.spec_alloc.specs.Chains.{put_slot}
use Rattle.db_locks.specs.Does.{stop_of}
use Rattle.db_locks.proofs.PlanLaws.{stays_same, stays_then}
use Rattle.db_locks.proofs.LoopLaws.{leads_none, each_step, each_exit, each_end}
use Rattle.db_alloc.specs.Maps.{IsOwnable}
use Rattle.db_alloc.specs.Tables.{numbers}
use Rattle.db_alloc.proofs.Chains.{leads_plan}
use Rattle.db_alloc.proofs.SlotSteps.{first_has, some_numbers}
use Rattle.db_alloc.proofs.GiveBackSteps.{held_from, held_hit, held_miss, held_none, slots_out}
use Rattle.db_alloc.proofs.give_back.empty_slots.Goals as goal
use Rattle.db_alloc.proofs.give_back.empty_slots.Goals.{then-slots-i+in_ok-put_slot, else-slots-i}

pub loop-i-init : goal.loop-i-init
loop-i-init g c =
    let a = g.P.PlanPages.state c.args.v.now in
    record {
      stays = stays_same a;
      leads = λ looked before. leads_none stop_of looked a (for_each (put_slot (numbers c.args.chain.now) 0) (held_from c.args.slots.now c.args.p.0 0));
    }

pub put_slot-requires-clause-ownable : goal.put_slot-requires-clause-ownable
put_slot-requires-clause-ownable g c =
    let a = g.P.PlanPages.state c.args.v.now in
    let chain = numbers c.args.chain.now in
    subst (λ (s : FileShape). IsOwnable s (first_page chain)) (sym c.loop-i.invariant.stays.shape) (first_has (IsOwnable a.view.shape) chain (some_numbers c.args.chain.now c.requires.some) c.requires.chain)

pub returns-in_err-put_slot : goal.returns-in_err-put_slot
returns-in_err-put_slot g c = λ looked before.
    let chain = numbers c.args.chain.now in
    let each = put_slot chain 0 in
    let stays = c.loop-i.invariant.stays in
    slots_out looked chain c.args.slots.now c.args.p.0 (some_numbers c.args.chain.now c.requires.some) c.requires.slots
    (each_exit each _ _ (leads_plan (ap (for_each each) (held_hit c.args.slots.now c.args.p.0 c.loop-i.i (record { 0 = 0 }) c.loop-i-test.true c.if-slots-i.true)) (c.loop-i.invariant.leads looked before))
    (c.in_err-put_slot.ensures looked (λ told. before (sym stays.told ∙ told)))
    c.from_residual.ensures.1)

pub loop-i-preserved : goal.loop-i-preserved
loop-i-preserved g c =
    let each = put_slot (numbers c.args.chain.now) 0 in
    let stays = c.loop-i.invariant.stays in
    let slots = c.args.slots.now in
    let p = c.args.p.0 in
    elim c.if-slots-i.branch [
      | then-slots-i+in_ok-put_slot w ↦ rw w.v-is (record {
        stays = stays_then stays (w.in_ok-put_slot.ensures (first_page (numbers c.args.chain.now) ∷ []) (λ told. Contains-push [] _)).stays;
        leads = λ looked before. each_step each _ _ (leads_plan (ap (for_each each) (held_hit slots p c.loop-i.i (record { 0 = 0 }) c.loop-i-test.true w.if-slots-i.true)) (c.loop-i.invariant.leads looked before))
            (w.in_ok-put_slot.ensures looked (λ told. before (sym stays.told ∙ told)));
      })
      | else-slots-i w ↦ rw w.v-is (record {
        stays = stays;
        leads = λ looked before. leads_plan (ap (for_each each) (held_miss slots p c.loop-i.i (record { 0 = 0 }) c.loop-i-test.true w.if-slots-i.false)) (c.loop-i.invariant.leads looked before);
      })
    ]

pub returns : goal.returns
returns g c = λ looked before.
    let each = put_slot (numbers c.args.chain.now) 0 in
    slots_out looked (numbers c.args.chain.now) c.args.slots.now c.args.p.0 (some_numbers c.args.chain.now c.requires.some) c.requires.slots
    (each_end each (leads_plan (ap (for_each each) (held_none c.args.slots.now c.args.p.0 c.loop-i.i c.loop-i-test.false)) (c.loop-i.invariant.leads looked before)))
