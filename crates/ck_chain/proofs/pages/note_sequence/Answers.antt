use Rattle.std.proofs.lemmas.Result.{on_ok_weaker}
use Rattle.std.proofs.Common.{◌≡◌}
use Rattle.spec_file.specs.Iam.{iam_sequence}
use Rattle.pg_iam.specs.Views.{bytes_of}
use Rattle.ck_error.proofs.GatheringLaws.{adds_if}
use Rattle.ck_chain.proofs.pages.note_sequence.Goals as goal

pub returns : goal.returns
returns c =
    let is : c.args.iam.now.sequence ≡ iam_sequence (bytes_of c.args.iam.now) = c.requires.sequence in
    rw is at (on_ok_weaker c.push_if.result (adds_if _ _ _ _ _ _ c.differ.ensures c.error.ensures) c.push_if.ensures)
