use Rattle.std.proofs.Common.{sym, ap, ◌∙◌, subst}
use Rattle.spec_log.specs.Images.{put_after}
use Rattle.db_core.specs.Back.{MayPutLeft}
use Rattle.db_core.proofs.Backwards.{numbered}
use Rattle.db_core.proofs.back.put_left_at.Goals as goal

pub put_left-requires : goal.put_left-requires
put_left-requires c =
    subst (MayPutLeft c.args.frames.now) (numbered c.args.older.now c.args.number c.index-older-number.result c.requires.above c.requires.within c.index-older-number.is) c.requires.fits

pub returns : goal.returns
returns c =
    c.put_left.ensures ∙ ap (λ o. put_after o c.args.frames.now) (sym (numbered c.args.older.now c.args.number c.index-older-number.result c.requires.above c.requires.within c.index-older-number.is))
