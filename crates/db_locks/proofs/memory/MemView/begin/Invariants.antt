use Rattle.std.proofs.Common.{◌≡◌, length, take, All}
use Rattle.spec_file.specs.Image.{AreBytes, page_size}
use Rattle.pg_base.specs.declared.page.Page.{Page}
use Rattle.db_locks.proofs.memory.MemView.begin.Given as goal

abbrev pub invariant-loop-page : goal.invariant-loop-page
invariant-loop-page l = record {
  same : l.first.items ≡ take l.page-index l.fn.pages.items;
  whole : All (λ (p : Page). (length p.bytes ≡ page_size) × AreBytes p.bytes) l.first.items;
}
