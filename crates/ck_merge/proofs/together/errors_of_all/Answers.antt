use Rattle.std.proofs.Common.{◌<◌, [], length, get_or, arith, sym, subst}
use Rattle.ck_error.proofs.GatheringLaws.{adds_each_next, adds_each_all, gathers_first}
use Rattle.ck_merge.specs.Buckets.{BucketErrors}
use Rattle.ck_merge.specs.Sides.{IsMatched}
use Rattle.ck_merge.proofs.Passes.{some_bucket}
use Rattle.ck_merge.proofs.Sides.{adds_found}
use Rattle.ck_merge.proofs.together.errors_of_all.Goals as goal

pub loop-i-preserved : goal.loop-i-preserved
loop-i-preserved g c =
    let buckets = c.args.buckets.now in
    let roots = c.args.roots.now in
    let i = c.loop-i.i in
    let test = c.loop-i-test.true in
    let long = c.in_ok-all.ensures.long in
    let counted = c.len-i-end.ensures in
    let lengths = c.in_ok-all.all.ok.0 in
    let low : i < length buckets = omega (arith, test, long, counted, lengths) in
    let u = some_bucket buckets i low in
    let found = c.index.result.now in
    let matched : IsMatched roots (get_or buckets i u.0) found =
    subst (IsMatched roots (get_or buckets i u.0)) (sym c.index.ensures) (c.in_ok-all.ensures.each i u.0 found low) in
    adds_each_next [] c.loop-i.errors.items c.take_errors.new.errors.items buckets i u.0 (BucketErrors roots) low c.loop-i.invariant
    (adds_found roots (get_or buckets i u.0) found _ _ matched c.in_ok-take_errors.ensures)

pub returns : goal.returns
returns g c =
    let buckets = c.args.buckets.now in
    let test = c.loop-i-test.false in
    let end = c.loop-i.auto.i-end in
    let long = c.in_ok-all.ensures.long in
    let counted = c.len-i-end.ensures in
    let lengths = c.in_ok-all.all.ok.0 in
    gathers_first _ _ (adds_each_all [] c.loop-i.errors.items buckets c.loop-i.i (BucketErrors c.args.roots.now)
    (omega (arith, test, long, counted, lengths)) (omega (arith, end, long, counted, lengths)) c.loop-i.invariant)
