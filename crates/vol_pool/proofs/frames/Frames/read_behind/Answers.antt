use Rattle.std.proofs.Common.{◌≡◌, ◌<◌, ◌∙◌, [], ◌∷◌, ◌++◌, IfSome, None, take, length, ap, subst, arith}
use Rattle.spec_file.specs.Image.{page, pages_of}
use Rattle.vol_pool.proofs.Filled.{one_page, first_read, more_read, all_read, reads_no_page, reads_one_more}
use Rattle.vol_pool.proofs.frames.Frames.read_behind.Goals as goal

pub loop-p-init : goal.loop-p-init
loop-p-init g c =
    let first = c.args.first.value.bytes in
    let is : c.push.new.self ≡ first ∷ [] = c.in_ok-push.ensures.ok ∙ ap (λ l. l ++ first ∷ []) c.empty-frames.ensures in
    record {
      count = ap length is;
      whole = one_page c.push.new.self first is (rw c.deref.ensures at c.is_whole.ensures.long);
      pages = first_read _ _ _ _ c.requires.size c.requires.some c.requires.first is;
      reads = reads_no_page _ _ _;
      first = ap (λ i. page i 0) is;
    }

pub loop-p-preserved : goal.loop-p-preserved
loop-p-preserved g c =
    let kept = c.loop-p.invariant in
    let some : 0 < length c.loop-p.frames = omega (arith, kept.count, c.loop-p.auto.p) in
    record {
      count = rw kept.count at c.in_ok-push_from.ensures.more;
      whole = c.in_ok-push_from.ensures.whole kept.whole;
      pages = more_read _ _ _ _ _ _ kept.reads.reads.contents c.requires.size c.loop-p-test.true kept.pages c.in_ok-push_from.ensures.page;
      reads = reads_one_more g.V.Volume c.args.pages c.loop-p.p _ _ c.push_from.new.volume None c.loop-p-test.true kept.reads c.in_ok-push_from.ensures.reads;
      first = c.in_ok-push_from.ensures.first some ∙ kept.first;
    }

pub returns-clause-image : goal.returns-clause-image
returns-clause-image g c =
    let kept = c.loop-p.invariant in
    let end : c.loop-p.p ≡ c.args.pages = omega (arith, c.loop-p-test.false, c.loop-p.auto.p-end c.requires.some) in
    all_read _ _ _ c.requires.size (subst (λ n. IfSome (g.V.Volume.contents c.args.volume.now) (λ bytes. c.loop-p.frames ≡ take n (pages_of bytes))) end kept.pages)
