use Rattle.std.proofs.Common.{ℕ, ◌/◌, sym, ap, ◌∙◌}
use Rattle.std.specs.Prelude.{Some}
use Rattle.spec_file.specs.declared.page_type.TheConstants.{GAM_TYPE}
use Rattle.spec_file.specs.Places.{interval_of_page}
use Rattle.spec_make.specs.NewMaps.{is_new_free, tells_of}
use Rattle.spec_make.specs.NewPages.{new_header}
use Rattle.spec_make.proofs.PageLaws.{length-new_header}
use Rattle.db_make.proofs.MapBytes.{mapped, same_front, started_long, started_front, started_bit}
use Rattle.db_make.proofs.maps.make_gam.Goals as goal

pub fill_gam-requires-clause-zeros : goal.fill_gam-requires-clause-zeros
fill_gam-requires-clause-zeros c = λ n. started_bit c.start_page.new.page.bytes (new_header (Some GAM_TYPE) c.args.p.0) n c.start_page.ensures (length-new_header (Some GAM_TYPE) c.args.p.0)

pub returns : goal.returns
returns c =
    let g = c.args.g in
    let free = is_new_free g c.args.pages in
    let head = new_header (Some GAM_TYPE) c.args.p.0 in
    let start = c.start_page.new.page.bytes in
    let long = length-new_header (Some GAM_TYPE) c.args.p.0 in
    mapped c.fill_gam.new.into.bytes head (tells_of g free (interval_of_page g c.args.p.0)) c.is_whole.ensures.bytes c.is_whole.ensures.long
    (same_front 96 c.fill_gam.new.into.bytes start (c.is_whole.ensures.long ∙ sym (started_long start head c.start_page.ensures long)) c.fill_gam.ensures.header
    ∙ started_front start head c.start_page.ensures long)
    (λ n. c.fill_gam.ensures.bits n ∙ ap (λ (size : ℕ). tells_of g free (c.args.p.0 / size) n) c.interval_pages.ensures)
