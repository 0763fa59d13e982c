use Rattle.std.proofs.lemmas.Option.{IfSome_then}
use Rattle.vol_pool.proofs.Written.{put_page, stands, spoils, on_ok, on_err}
use Rattle.vol_pool.proofs.volume.write_changed.Goals as goal

pub returns-then-not-changed-clause-ok : goal.returns-then-not-changed-clause-ok
returns-then-not-changed-clause-ok g c =
    stands _ _ _ c.requires.fits (IfSome_then (g.V.Volume.contents c.args.volume.now) c.requires.same (λ _ same. same c.if-not-changed.true))

pub returns-clause-ok : goal.returns-clause-ok
returns-clause-ok g c = on_ok c.write.result c.write.ensures.ok (put_page _ _ _ _ c.requires.fits c.is_whole.ensures.long)

pub returns-clause-spoiled : goal.returns-clause-spoiled
returns-clause-spoiled g c = on_err c.write.result c.write.ensures.err (spoils _ _ _ _ c.requires.fits c.is_whole.ensures.long)
