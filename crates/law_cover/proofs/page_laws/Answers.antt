use Rattle.law_cover.proofs.Pages.{pages_guard_themselves, catalog_guards_boot, pfs_headers_are_fixed}
use Rattle.law_cover.proofs.page_laws.Goals as goal

pub returns : goal.returns
returns c = record { own = pages_guard_themselves; boot = catalog_guards_boot; fixed = pfs_headers_are_fixed }
