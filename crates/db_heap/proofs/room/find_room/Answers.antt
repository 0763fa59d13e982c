use Rattle.std.proofs.Common.{refl, ◌<◌, sym, ap, ◌∙◌}
use Rattle.spec_words.specs.NetChanges.{FileShape}
use Rattle.spec_words.specs.Words.{first_of}
use Rattle.spec_words.specs.Heaps.{room_on}
use Rattle.db_cat.specs.Rows.{row_of}
use Rattle.db_locks.specs.Does.{stop_of}
use Rattle.db_locks.proofs.PlanLaws.{stays_same, stays_then}
use Rattle.db_locks.proofs.LoopLaws.{leads_none}
use Rattle.db_alloc.specs.Tables.{numbers}
use Rattle.db_alloc.proofs.Lists.{all_at}
use Rattle.db_heap.proofs.RoomSearch.{search_more, search_found, search_exit, search_end, room_before}
use Rattle.db_heap.proofs.room.find_room.Goals as goal

pub read_room-requires-clause-geometry : goal.read_room-requires-clause-geometry
read_room-requires-clause-geometry g c = c.requires.geometry ∙ ap (λ (shape : FileShape). shape.geometry) (sym c.loop-p.invariant.stays.shape)

pub read_room-requires-clause-pages : goal.read_room-requires-clause-pages
read_room-requires-clause-pages g c = c.requires.pages ∙ ap (λ (shape : FileShape). shape.pages) (sym c.loop-p.invariant.stays.shape)

pub read_room-requires-clause-inside : goal.read_room-requires-clause-inside
read_room-requires-clause-inside g c = all_at (λ p. p < c.args.table.now.pages) c.args.pages.now c.loop-p.p-index (record { 0 = 0 }) c.loop-p-test.true c.requires.inside

pub loop-p-init : goal.loop-p-init
loop-p-init g c =
    let a = g.P.PlanPages.state c.args.v.now in
    record { leads = λ looked before. leads_none stop_of looked a (first_of (room_on a.view.shape (row_of c.args.table.now.row) c.args.size) (numbers c.args.pages.now)); view = refl; stays = stays_same a }

pub loop-p-preserved : goal.loop-p-preserved
loop-p-preserved g c =
    let a = g.P.PlanPages.state c.args.v.now in
    record {
      leads = λ looked before.
          search_more looked (row_of c.args.table.now.row) c.args.size c.args.pages.now c.loop-p.p-index _ c.loop-p-test.true c.if-branch.false c.loop-p.invariant.view c.loop-p.invariant.stays before
          (c.loop-p.invariant.leads looked before) (c.in_ok-read_room.ensures.does looked);
      view = c.in_ok-read_room.ensures.view ∙ c.loop-p.invariant.view;
      stays = stays_then c.loop-p.invariant.stays c.in_ok-read_room.ensures.stays;
    }

pub returns-in_err-read_room-clause-does : goal.returns-in_err-read_room-clause-does
returns-in_err-read_room-clause-does g c = λ looked before.
    search_exit looked (row_of c.args.table.now.row) c.args.size c.args.pages.now c.loop-p.p-index _ c.loop-p-test.true c.loop-p.invariant.view c.loop-p.invariant.stays before
    (c.loop-p.invariant.leads looked before) (c.in_err-read_room.ensures.does looked) c.from_residual.ensures.1

pub returns-in_err-read_room-clause-stays : goal.returns-in_err-read_room-clause-stays
returns-in_err-read_room-clause-stays g c = stays_then c.loop-p.invariant.stays c.in_err-read_room.ensures.stays

pub returns-then-branch-clause-does : goal.returns-then-branch-clause-does
returns-then-branch-clause-does g c = λ looked before.
    search_found looked (row_of c.args.table.now.row) c.args.size c.args.pages.now c.loop-p.p-index _ c.loop-p-test.true c.if-branch.true c.loop-p.invariant.view c.loop-p.invariant.stays before
    (c.loop-p.invariant.leads looked before) (c.in_ok-read_room.ensures.does looked)

pub returns-then-branch-clause-stays : goal.returns-then-branch-clause-stays
returns-then-branch-clause-stays g c = stays_then c.loop-p.invariant.stays c.in_ok-read_room.ensures.stays

pub returns-then-branch-clause-room : goal.returns-then-branch-clause-room
returns-then-branch-clause-room g c = room_before c.loop-p.invariant.view c.loop-p.invariant.stays (c.in_ok-read_room.ensures.room c.if-branch.true)

pub returns-clause-does : goal.returns-clause-does
returns-clause-does g c = λ looked before. search_end looked (row_of c.args.table.now.row) c.args.size c.args.pages.now c.loop-p.p-index c.loop-p-test.false (c.loop-p.invariant.leads looked before)
