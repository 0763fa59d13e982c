use Rattle.ck_chain.proofs.Inside.{interval_below, are_inside, views_own}
use Rattle.ck_chain.proofs.Looking.{goes_to_iam, goes_to_interval}
use Rattle.ck_chain.proofs.chain.take.Goals as goal

pub unreachable-requires : goal.unreachable-requires
unreachable-requires c =
    let impossible = c.in_default.ensures.found.1 (goes_to_iam c.args.owner.now c.args.walk.now c.args.page.now.bytes c.requires.goes) in cc

pub bounds-walk-m : goal.bounds-walk-m
bounds-walk-m c =
    let inside = interval_below _ _ _ c.requires.shape (goes_to_interval c.args.owner.now c.args.walk.now c.args.page.now.bytes c.requires.goes) in
    rw c.in-Some.ensures.view.interval inside

pub extents_inside-count-requires : goal.extents_inside-count-requires
extents_inside-count-requires c = record {
  shape = c.requires.shape;
  view = views_own _ _ c.in-Some.ensures.view;
  interval = rw c.in-Some.ensures.view.page (goes_to_interval c.args.owner.now c.args.walk.now c.args.page.now.bytes c.requires.goes);
}

pub take_page-requires : goal.take_page-requires
take_page-requires c =
    let held = are_inside c.args.owner.now.geometry c.args.owner.now.pages _ _ c.requires.shape
    (rw c.in-Some.ensures.view.page (goes_to_interval c.args.owner.now c.args.walk.now c.args.page.now.bytes c.requires.goes)) c.extents_inside-count.ensures in
    record {
      view = views_own _ _ c.in-Some.ensures.view;
      object = c.requires.object;
      bits = held.bits;
      inside = rw c.requires.extents held.inside;
      interval = held.interval;
    }
