use Rattle.std.proofs.Common.{ℕ, List, IsTrue, arith, sym, subst}
use Rattle.spec_file.specs.Header.{header_of}
use Rattle.spec_rows.specs.Slots.{fits_page}
use Rattle.spec_rows.proofs.SlotLaws.{row_stands, rows_room}
use Rattle.spec_rows.proofs.WholeRows.{row_fits}
use Rattle.pg_slots.proofs.view.SlotView.row.Goals as goal

pub returns-clause-fits : goal.returns-clause-fits
returns-clause-fits c =
    let bytes = c.args.self.now.page.now.bytes in
    let kind = c.args.self.now.kind in
    let holds = c.args.self.now.holds in
    let room = rows_room (header_of bytes) holds.room in
    subst (λ (row : List ℕ). IsTrue (fits_page kind bytes row)) (sym c.row_at.ensures.row)
    (row_fits kind bytes c.args.i (omega (arith, room.within, c.row_at.ensures.long)) (row_stands kind bytes c.args.i (holds.slots c.args.i c.requires)))
