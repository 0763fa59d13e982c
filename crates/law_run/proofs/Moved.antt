-- What an item leaves of a session's progress.
use Rattle.std.proofs.Common.{◌≡◌, true, false, List, [], ◌∷◌, None, refl, ap, ◌∙◌}
use Rattle.std.specs.Prelude.{if◌then◌else◌}
use Rattle.spec_log.specs.declared.item.Record.{Record}
use Rattle.spec_log.specs.Log.{rest_of}
use Rattle.spec_run.specs.Sessions.{open_after}
use Rattle.spec_run.specs.Progress.{Progress, is_short, want_after, cut_short, moved_to, moved}

pub moved_whole : (w : Progress) (x : Record) (due : List Record) → is_short x ≡ false → w.due ≡ x ∷ due → moved w x ≡ moved_to w x due
moved_whole w x due e d =
    ap (λ b. if b then cut_short w x else moved_to w x (rest_of w.due)) e
    ∙ ap (moved_to w x) (ap rest_of d)

pub moved_due : (w : Progress) (x : Record) (rest : List Record) → (moved_to w x rest).due ≡ rest
moved_due w x [] = refl
moved_due w x (y ∷ rest) = refl

pub moved_tran : (w : Progress) (x : Record) (rest : List Record) → (moved_to w x rest).tran ≡ open_after w.tran x
moved_tran w x [] = refl
moved_tran w x (y ∷ rest) = refl

pub moved_want : (w : Progress) (x : Record) (rest : List Record) → want_after x ≡ None → (moved_to w x rest).want ≡ None
moved_want w x [] e = refl
moved_want w x (y ∷ rest) e = e

pub moved_short : (w : Progress) (x : Record) → is_short x ≡ true → moved w x ≡ cut_short w x
moved_short w x e = ap (λ b. if b then cut_short w x else moved_to w x (rest_of w.due)) e
