-- An item that starts, ends or undoes in a transaction is of it.
use Rattle.std.proofs.Common.{◌≡◌, ℕ, true}
use Rattle.std.proofs.lemmas.Bool.{false≢true, eqb-true}
use Rattle.spec_log.specs.declared.item.Record.{Record}
use Rattle.spec_log.specs.declared.item.Record.TheVariants.{Start, Change, Undo, Commit, Abort, Snap, Failed, CheckEnd}
use Rattle.spec_log.specs.Items.{tran_of}
use Rattle.spec_log.specs.Log.{starts, ends, undoes}

pub starts_tran : (t : ℕ) (x : Record) → starts t x ≡ true → tran_of x ≡ t
starts_tran t (Start session index tran number changes size takes) h = eqb-true tran.0 t h
starts_tran t (Change tran cell before after) h = absurd (false≢true h)
starts_tran t (Undo tran change) h = absurd (false≢true h)
starts_tran t (Commit tran) h = absurd (false≢true h)
starts_tran t (Abort tran) h = absurd (false≢true h)
starts_tran t (Snap session index) h = absurd (false≢true h)
starts_tran t (Failed session index page) h = absurd (false≢true h)
starts_tran t (CheckEnd session index outcome) h = absurd (false≢true h)

pub ends_tran : (t : ℕ) (x : Record) → ends t x ≡ true → tran_of x ≡ t
ends_tran t (Start session index tran number changes size takes) h = absurd (false≢true h)
ends_tran t (Change tran cell before after) h = absurd (false≢true h)
ends_tran t (Undo tran change) h = absurd (false≢true h)
ends_tran t (Commit tran) h = eqb-true tran.0 t h
ends_tran t (Abort tran) h = eqb-true tran.0 t h
ends_tran t (Snap session index) h = absurd (false≢true h)
ends_tran t (Failed session index page) h = absurd (false≢true h)
ends_tran t (CheckEnd session index outcome) h = absurd (false≢true h)

pub undoes_tran : (t : ℕ) (x : Record) → undoes t x ≡ true → tran_of x ≡ t
undoes_tran t (Start session index tran number changes size takes) h = absurd (false≢true h)
undoes_tran t (Change tran cell before after) h = absurd (false≢true h)
undoes_tran t (Undo tran change) h = eqb-true tran.0 t h
undoes_tran t (Commit tran) h = absurd (false≢true h)
undoes_tran t (Abort tran) h = absurd (false≢true h)
undoes_tran t (Snap session index) h = absurd (false≢true h)
undoes_tran t (Failed session index page) h = absurd (false≢true h)
undoes_tran t (CheckEnd session index outcome) h = absurd (false≢true h)
