-- What a view over the core's state stands for.
use Rattle.std.specs.Prelude.{true}
use Rattle.spec_file.specs.Image.{Image}
use Rattle.db_locks.specs.States.{PlanState}
use Rattle.db_core.specs.declared.statement_view.StatementView.{StatementView}
use Rattle.db_core.specs.SeenPages.{began_at, with_pages, seen_pages}

-- the pages as they are shown: those that were put, else those of the file
abbrev pub shown_of : StatementView → Image
shown_of v = with_pages v.put.items v.pages.items v.state.now.frames

-- the transaction sees the file as the log says, with what its statement has put; others' locks are those of the log
abbrev pub state_of : StatementView → PlanState
state_of v = record {
  told = true;
  faults = 0;
  view = record {
    shape = (began_at v.state.now v.at).shape;
    start = (began_at v.state.now v.at).start;
    now = seen_pages v.state.now.frames (shown_of v) (began_at v.state.now v.at).start;
    other = (began_at v.state.now v.at).other;
    own = (began_at v.state.now v.at).own;
    taken = v.taken.items;
  };
  shown = shown_of v;
  first = v.state.now.frames;
  put = v.put.items;
}
