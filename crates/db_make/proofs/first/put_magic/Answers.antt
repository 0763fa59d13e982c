use Rattle.std.proofs.Common.{ℕ, List, ◌++◌, take, ap, ◌∙◌}
use Rattle.std.specs.Prelude.{codes}
use Rattle.std.proofs.lemmas.List.{drop-drop}
use borrow.Rule.Slice.PartMut.{put_mid}
use Rattle.db_make.proofs.first.put_magic.Goals as goal

pub returns : goal.returns
returns c =
    let bytes = c.args.page.now.bytes in
    ap (put_mid 96 8 bytes) (c.copy_from_slice.ensures.after ∙ c.as_slice.ensures)
    ∙ ap (λ (l : List ℕ). take 96 bytes ++ (codes "PGCHKDB1" ++ l)) (drop-drop 8 96 bytes)
