use Rattle.law_net.proofs.ReadingLeaves.{table_pages_leave_view, count_leaves_view, select_leaves_view}
use Rattle.law_net.proofs.reading_laws.Goals as goal

pub returns : goal.returns
returns c = record { pages = table_pages_leave_view; count = count_leaves_view; select = select_leaves_view }
