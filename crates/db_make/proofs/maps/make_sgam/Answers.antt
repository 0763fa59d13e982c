use Rattle.std.proofs.Common.{ℕ, ◌/◌, ◌==◌, sym, ap, ◌∙◌, arith}
use Rattle.std.specs.Prelude.{Some}
use Rattle.spec_file.specs.declared.page_type.TheConstants.{SGAM_TYPE}
use Rattle.spec_file.specs.Places.{interval_of_page}
use Rattle.spec_make.specs.NewMaps.{is_new_mixed, tells_of}
use Rattle.spec_make.specs.NewPages.{new_header}
use Rattle.spec_make.proofs.PageLaws.{length-new_header}
use Rattle.db_make.proofs.MapBytes.{mapped, mixed_bits, same_front, started_long, started_front, started_bit}
use Rattle.db_make.proofs.maps.make_sgam.Goals as goal

pub returns : goal.returns
returns c =
    let g = c.args.g in
    let m = interval_of_page g c.args.p.0 in
    let head = new_header (Some SGAM_TYPE) c.args.p.0 in
    let start = c.start_page.new.page.bytes in
    let done = c.set_bit.new.page.bytes in
    let long = length-new_header (Some SGAM_TYPE) c.args.p.0 in
    mapped done head (tells_of g is_new_mixed m) c.is_whole.ensures.bytes c.is_whole.ensures.long
    (same_front 96 done start (c.is_whole.ensures.long ∙ sym (started_long start head c.start_page.ensures long)) (λ i low. c.set_bit.ensures.other_bytes i (λ same. omega (arith, same, low))) ∙ started_front start head c.start_page.ensures long)
    (mixed_bits g m start done (λ k. started_bit start head k c.start_page.ensures long)
    (c.set_bit.ensures.bit ∙ ap (λ (size : ℕ). c.args.p.0 / size == 0) c.interval_pages.ensures) c.set_bit.ensures.other_bits)
