use Rattle.std.proofs.Common.{sym, ap, ◌∙◌}
use Rattle.spec_words.specs.Views.{View}
use Rattle.spec_file.specs.Roles.{is_ordinary}
use Rattle.spec_file.specs.Image.{page}
use Rattle.db_locks.proofs.PlanLaws.{stays_then}
use Rattle.db_cat.specs.Rows.{row_of}
use Rattle.db_heap.proofs.RoomSteps.{room_exit, room_passed, room_unread, room_asked}
use Rattle.db_heap.proofs.RoomLooks.{page_seen, inside_by}
use Rattle.db_heap.proofs.room.read_room.Goals as goal

pub returns-in_err-is_full-clause-does : goal.returns-in_err-is_full-clause-does
returns-in_err-is_full-clause-does g c = λ looked before. room_exit looked (row_of c.args.table.now.row) c.args.size c.args.p.0 _ _ (c.in_err-is_full.ensures.does looked before) c.from_residual.ensures.1

pub returns-then-branch-clause-does : goal.returns-then-branch-clause-does
returns-then-branch-clause-does g c = λ looked before. room_passed looked (row_of c.args.table.now.row) c.args.size c.args.p.0 _ c.if-branch.true (c.in_ok-is_full.ensures.does looked before)

pub returns-in_err-read_heap_page-clause-does : goal.returns-in_err-read_heap_page-clause-does
returns-in_err-read_heap_page-clause-does g c = λ looked before.
    room_unread looked (row_of c.args.table.now.row) c.args.size c.args.p.0 _ _ _ c.if-branch.false c.in_ok-is_full.ensures.view (c.in_ok-is_full.ensures.does looked before)
    c.in_err-read_heap_page.ensures.does c.from_residual-in_err-read_heap_page.ensures.1

pub returns-clause-does : goal.returns-clause-does
returns-clause-does g c = λ looked before.
    room_asked looked (row_of c.args.table.now.row) c.args.size c.args.p.0 _ _ _ c.if-branch.false c.in_ok-is_full.ensures.view c.has_room.ensures (c.in_ok-is_full.ensures.does looked before)
    c.in_ok-read_heap_page.ensures.does

pub returns-clause-room : goal.returns-clause-room
returns-clause-room g c = λ fits. record {
  inside = inside_by c.requires.pages c.requires.inside;
  ordinary = ap (λ (v : View). is_ordinary v.shape.geometry c.args.p.0) (sym c.in_ok-is_full.ensures.view) ∙ c.in_ok-read_heap_page.ensures.ordinary;
  heap = c.in_ok-read_heap_page.ensures.heap;
  room = sym c.has_room.ensures ∙ fits;
  seen = λ told. page_seen (row_of c.args.table.now.row) c.args.p.0 _ c.in_ok-read_heap_page.ensures.does (c.in_ok-is_full.ensures.stays.told ∙ told) ∙ ap (λ (v : View). page v.now c.args.p.0) c.in_ok-is_full.ensures.view;
}

pub returns-in_err-is_full-clause-stays : goal.returns-in_err-is_full-clause-stays
returns-in_err-is_full-clause-stays g c = c.in_err-is_full.ensures.stays

pub returns-then-branch-clause-stays : goal.returns-then-branch-clause-stays
returns-then-branch-clause-stays g c = c.in_ok-is_full.ensures.stays

pub returns-in_err-read_heap_page-clause-stays : goal.returns-in_err-read_heap_page-clause-stays
returns-in_err-read_heap_page-clause-stays g c = stays_then c.in_ok-is_full.ensures.stays c.in_err-read_heap_page.ensures.does.stays

pub returns-clause-stays : goal.returns-clause-stays
returns-clause-stays g c = stays_then c.in_ok-is_full.ensures.stays c.in_ok-read_heap_page.ensures.does.stays
