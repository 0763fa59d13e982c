use Rattle.std.proofs.Common.{◌≡◌, ℕ, ◌+◌, ◌*◌, arith, subst}
use Rattle.ck_error.specs.Gathered.{Adds, Below}
use Rattle.ck_error.proofs.GatheringLaws.{adds_below_none, adds_below_more}
use Rattle.ck_alloc.specs.MapRules.{page_state, uses_at}
use Rattle.ck_alloc.specs.PageRules.{PageSays}
use Rattle.ck_alloc.proofs.errors.add_pages.Goals as goal

pub loop-k-init : goal.loop-k-init
loop-k-init c = λ sorted. adds_below_none _ _

pub loop-k-preserved : goal.loop-k-preserved
loop-k-preserved c = λ sorted. adds_below_more _ _ _ _ _ (c.loop-k.invariant sorted) (c.in_ok-add_page.ensures sorted)

pub returns : goal.returns
returns c = λ sorted.
    let all : c.loop-k.k ≡ 8 = omega arith in
    let m = c.args.map.now in
    let e = c.args.e in
    subst (λ (n : ℕ). Adds c.args.errors.now.items c.loop-k.errors.items
    (Below n (λ k. PageSays (page_state m (8 * e + k)) (uses_at m (8 * e + k)) c.args.markers.now))) all (c.loop-k.invariant sorted)
