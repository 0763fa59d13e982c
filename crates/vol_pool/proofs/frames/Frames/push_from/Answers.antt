use Rattle.std.proofs.Common.{◌≡◌, subst, sym, length}
use Rattle.std.proofs.lemmas.List.Elements.{All-push}
use Rattle.spec_log.specs.Cells.{HasWholePages}
use Rattle.vol_pool.proofs.frames.Frames.push_from.Goals as goal

pub returns-clause-whole : goal.returns-clause-whole
returns-clause-whole g c =
    λ whole. subst HasWholePages (sym c.in_ok-push.ensures.ok) (All-push (λ l. length l ≡ 8192) _ _ whole c.in_ok-page.ensures.long)
