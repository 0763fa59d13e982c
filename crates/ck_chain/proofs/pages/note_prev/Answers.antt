use Rattle.std.proofs.lemmas.Result.{on_ok_weaker}
use Rattle.std.proofs.Common.{◌≡◌, ap}
use Rattle.spec_file.specs.declared.data.PageNo.{PageNo}
use Rattle.spec_chain.specs.Chains.{prev_of}
use Rattle.pg_iam.specs.Views.{bytes_of}
use Rattle.ck_error.proofs.GatheringLaws.{adds_if}
use Rattle.ck_chain.proofs.pages.note_prev.Goals as goal

pub returns : goal.returns
returns c =
    let is : c.args.iam.now.prev.0 ≡ prev_of (bytes_of c.args.iam.now) = ap (λ (p : PageNo). p.0) c.requires.prev in
    rw is at (on_ok_weaker c.push_if.result (adds_if _ _ _ _ _ _ c.differ.ensures c.error.ensures) c.push_if.ensures)
