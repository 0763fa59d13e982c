use Rattle.std.proofs.Common.{◌≡◌, ◌+◌, ◌-◌, ◌≤◌, IsTrue, [], length, map, All}
use Rattle.spec_file.specs.Image.{page}
use Rattle.spec_words.specs.Tables.{chain_of, chain_from}
use Rattle.db_cat.specs.Rows.{row_of}
use Rattle.db_locks.specs.Does.{stop_of}
use Rattle.db_locks.proofs.LoopLaws.{Leads}
use Rattle.db_alloc.specs.Maps.{IsOwnable}
use Rattle.db_alloc.specs.Tables.{numbers, bytes_of}
use Rattle.db_alloc.proofs.chain.read_chain.Given as goal

abbrev pub invariant-loop-count : goal.invariant-loop-count
invariant-loop-count g l =
    let a = g.P.PlanPages.state l.fn.v in
    let b = g.P.PlanPages.state l.v in
    let row = row_of l.table.row in
    record {
      leads : Leads stop_of [] a b (chain_of a.view.shape row) (chain_from (l.table.pages + 2 - l.count) a.view.shape row (numbers l.chain.numbers.items) l.from.0 l.p.0);
      told : IsTrue a.told → bytes_of l.chain.pages.items ≡ map (page a.view.now) (numbers l.chain.numbers.items);
      own : All (IsOwnable a.view.shape) (numbers l.chain.numbers.items);
      few : length l.chain.numbers.items ≤ l.count;
      view : b.view ≡ a.view;
    }
