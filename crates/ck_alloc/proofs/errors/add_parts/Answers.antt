use Rattle.std.proofs.Common.{◌≡◌, ℕ, ◌/◌, arith, subst}
use Rattle.ck_error.specs.Gathered.{Adds, Below}
use Rattle.ck_error.proofs.GatheringLaws.{adds_below_none, adds_below_more}
use Rattle.ck_alloc.specs.MapRules.{PartOfMapSays}
use Rattle.ck_alloc.proofs.errors.add_parts.Goals as goal

pub loop-e-init : goal.loop-e-init
loop-e-init c = λ sorted. adds_below_none _ _

pub loop-e-preserved : goal.loop-e-preserved
loop-e-preserved c = λ sorted. adds_below_more _ _ _ _ _ (c.loop-e.invariant sorted) (c.in_ok-add_part.ensures sorted)

pub returns : goal.returns
returns c = λ sorted.
    let m = c.args.map.now in
    let all : c.loop-e.e ≡ m.pages / 8 = omega arith in
    subst (λ (n : ℕ). Adds c.args.errors.now.items c.loop-e.errors.items (Below n (PartOfMapSays m))) all (c.loop-e.invariant sorted)
