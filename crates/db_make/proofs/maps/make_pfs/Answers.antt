use Rattle.std.proofs.Common.{ℕ, ◌-◌, ◌*◌, ◌/◌, ◌<◌, min, ap, ◌∙◌, sym, subst, arith}
use Rattle.std.specs.Prelude.{Some}
use Rattle.spec_file.specs.declared.page_type.TheConstants.{PFS_TYPE}
use Rattle.spec_make.specs.NewMaps.{pfs_start, pfs_byte_at}
use Rattle.spec_make.specs.NewPages.{new_header}
use Rattle.spec_make.proofs.MapLaws.{sizes}
use Rattle.spec_make.proofs.PageLaws.{length-new_header}
use Rattle.db_make.proofs.MapBytes.{ruled, started_front, started_byte}
use Rattle.db_make.proofs.PfsBytes.{pfs_bytes}
use Rattle.db_make.proofs.maps.make_pfs.Goals as goal

-- a page's span begins in the file
begins : (span p pages : ℕ) → 0 < span → p < pages → span * (p / span) < pages
begins span p pages some inside = omega arith

pub returns : goal.returns
returns c =
    let g = c.args.g in
    let pages = c.args.pages in
    let p = c.args.p.0 in
    let start = c.start_page.new.page.bytes in
    let done = c.fill_pfs.new.into.bytes in
    let head = new_header (Some PFS_TYPE) p in
    let long = length-new_header (Some PFS_TYPE) p in
    let span = c.pfs_span-span.result in
    let first = span * (p / span) in
    let is = c.pfs_span-span.ensures in
    ruled done head (pfs_byte_at g pages (pfs_start g p)) c.is_whole.ensures.long (c.fill_pfs.ensures.header ∙ started_front start head c.start_page.ensures long)
    (λ i within. pfs_bytes g pages first c.min.result start done (record {
      few = c.min.ensures ∙ ap (λ (s : ℕ). min s (pages - first)) is;
      within = begins span p pages (subst (λ s. 0 < s) (sym is) (sizes g).span_low) c.requires.inside;
      bytes = c.fill_pfs.ensures.bytes;
      behind = c.fill_pfs.ensures.behind;
      zeros = λ k. started_byte start head k c.start_page.ensures long;
    }) i ∙ ap (λ (s : ℕ). pfs_byte_at g pages (s * (p / s)) i) is)
