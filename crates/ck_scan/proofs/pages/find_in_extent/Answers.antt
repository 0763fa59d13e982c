use Rattle.std.proofs.Common.{◌≡◌, ◌<◌, length, take, arith, ◌∙◌, ap, refl, sym, subst}
use Rattle.std.proofs.Math.Seq.{take-length}
use Rattle.pg_base.proofs.ReadingLaws.{reads_none, reads_then}
use Rattle.ck_facts.specs.Owners.{AreOwnersIn}
use Rattle.ck_scan.proofs.FoundLaws.{reached_first, reached_step, reached_last, owner_at}
use Rattle.ck_scan.proofs.JoinLaws.{found_drawn}
use Rattle.ck_scan.proofs.pages.find_in_extent.Goals as goal

pub loop-owned-init : goal.loop-owned-init
loop-owned-init g c = record {
  found = λ x at others of frame fresh was. reached_first x c.args.map.now others c.deref-owned-items.result.now c.args.found.now was;
  frame = λ x at of frame. frame;
  lines = refl;
  roots = refl;
  parts = refl;
  reads = reads_none g.R.SnapReader c.args.reader.now;
}

pub loop-owned-preserved : goal.loop-owned-preserved
loop-owned-preserved g c =
    let m = c.args.map.now in
    let owned = c.deref-owned-items.result.now in
    let low : c.loop-owned.owned-index < length owned = omega (arith, c.loop-owned-test.true) in
    record {
      found = λ x at others of frame fresh was.
          let are : AreOwnersIn m.geometry x c.args.e owned =
          subst (AreOwnersIn m.geometry x c.args.e) (sym c.deref-owned-items.ensures.value) (c.in_ok-pages.ensures.owners x of) in
          let so_far = c.loop-owned.invariant.found x at others of frame fresh was in
          let adds = c.in_ok-find_on_page.ensures.adds x (c.loop-owned.invariant.reads.image ∙ at) c.args.e of c.requires.sound
          (owner_at x m c.args.e owned c.loop-owned.owned-index _ are low) (c.loop-owned.invariant.frame x at of frame) in
          reached_step x m others c.args.e owned c.loop-owned.owned-index _ c.loop-owned.found c.find_on_page.new.found of c.requires.sound are low fresh so_far adds.0;
      frame = λ x at of frame.
          let are : AreOwnersIn m.geometry x c.args.e owned =
          subst (AreOwnersIn m.geometry x c.args.e) (sym c.deref-owned-items.ensures.value) (c.in_ok-pages.ensures.owners x of) in
          (c.in_ok-find_on_page.ensures.adds x (c.loop-owned.invariant.reads.image ∙ at) c.args.e of c.requires.sound
          (owner_at x m c.args.e owned c.loop-owned.owned-index _ are low) (c.loop-owned.invariant.frame x at of frame)).1;
      lines = c.find_on_page.ensures.lines ∙ c.loop-owned.invariant.lines;
      roots = c.find_on_page.ensures.roots ∙ c.loop-owned.invariant.roots;
      parts = c.find_on_page.ensures.parts ∙ c.loop-owned.invariant.parts;
      reads = reads_then g.R.SnapReader _ _ _ _ c.loop-owned.invariant.reads c.in_ok-find_on_page.ensures.reads;
    }

pub returns-clause-found : goal.returns-clause-found
returns-clause-found g c = λ x at others of frame was.
    let m = c.args.map.now in
    let owned = c.deref-owned-items.result.now in
    let end : c.loop-owned.owned-index ≡ length owned = omega (arith, c.loop-owned-test.false, c.loop-owned.auto.owned-index-end) in
    let are : AreOwnersIn m.geometry x c.args.e owned =
    subst (AreOwnersIn m.geometry x c.args.e) (sym c.deref-owned-items.ensures.value) (c.in_ok-pages.ensures.owners x of) in (
      found_drawn x m others c.args.e c.args.found.now c.loop-owned.found was (λ fresh found.
          reached_last x m others c.args.e owned c.loop-owned.owned-index c.loop-owned.found are (ap (λ k. take k owned) end ∙ take-length owned)
          (c.loop-owned.invariant.found x at others of frame fresh found)),
      c.loop-owned.invariant.frame x at of frame,
    )
