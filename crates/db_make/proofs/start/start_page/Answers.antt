use Rattle.std.proofs.Common.{ℕ, List, drop, ap, ◌∙◌}
use Rattle.std.specs.Prelude.{slice_index}
use Rattle.db_make.proofs.Started.{started}
use Rattle.db_make.proofs.start.start_page.Goals as goal

pub returns : goal.returns
returns c =
    let zeros = c.clear.ensures in
    started c.args.page_type c.args.p c.write_header.new.page.bytes c.is_whole.ensures.bytes c.is_whole.ensures.long c.write_header.ensures.read
    c.write_header.ensures.version (c.write_header.ensures.unused ∙ ap (λ (bytes : List ℕ). slice_index bytes 3) zeros) (c.write_header.ensures.behind ∙ ap (drop 28) zeros)
