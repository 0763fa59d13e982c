use Rattle.std.proofs.Common.{ℕ, [], ◌∷◌, sym, subst}
use Rattle.std.specs.Prelude.{slice_set}
use Rattle.spec_file.specs.Image.{page}
use Rattle.db_locks.specs.Guards.{DifferOnPage}
use Rattle.db_locks.specs.Does.{Does, carry}
use Rattle.db_locks.proofs.BitLaws.{byte_of}
use Rattle.spec_file.specs.declared.data.Resource.TheVariants as resource
use Rattle.spec_log.specs.declared.item.Cell.TheVariants.{Bit}
use Rattle.db_locks.proofs.CellSteps.{write_unlooked, bit_may_be_put, bit_written}
use Rattle.db_locks.proofs.bits.set_bit.Goals as goal

pub returns-in_err-look : goal.returns-in_err-look
returns-in_err-look g c = λ looked before.
    write_unlooked (g.P.PlanPages.state c.args.view.now) (g.P.PlanPages.state c.look.new.self) (resource.Extent c.args.e) c.args.place.0.0 (Bit c.args.place.0 c.args.place.1) (c.args.value ∷ []) looked _ before c.in_err-look.ensures.look c.from_residual.ensures.1

pub put-requires-clause-guarded : goal.put-requires-clause-guarded
put-requires-clause-guarded g c = λ told.
    let state = g.P.PlanPages.state c.take.new.self in
    subst (λ (x : ℕ). DifferOnPage state.view.taken state.view.shape c.args.place.0.0 (page state.shown c.args.place.0.0) (slice_set c.look.new.into.bytes (byte_of c.args.place.1) x)) (sym c.with_bit.ensures)
    (bit_may_be_put (g.P.PlanPages.state c.args.view.now) (g.P.PlanPages.state c.look.new.self) (g.P.PlanPages.state c.take.new.self) c.args.place.0.0 c.args.place.1 c.args.value (resource.Extent c.args.e) c.look.new.into.bytes
    c.requires.at c.requires.guard
    (record { look = c.in_ok-look.ensures.look; shown = c.in_ok-look.ensures.shown; guarded = (λ told. c.in_ok-look.ensures.guarded told (resource.Extent c.args.e) c.in_ok-look.ensures.free); view = c.in_ok-look.ensures.view; same = c.in_ok-look.ensures.same; low = c.is_whole.ensures.bytes; long = c.is_whole.ensures.long })
    (record { take = c.in_ok-take.ensures.take; taken = c.in_ok-take.ensures.taken; same = c.in_ok-take.ensures.same }) told)

pub returns : goal.returns
returns g c = λ looked before.
    bit_written (g.P.PlanPages.state c.args.view.now) (g.P.PlanPages.state c.look.new.self) (g.P.PlanPages.state c.take.new.self) (g.P.PlanPages.state c.put.new.self) c.args.place.0.0 c.args.place.1 c.args.value (resource.Extent c.args.e) c.look.new.into.bytes looked c.put.result
    c.requires.at c.requires.guard before
    (record { look = c.in_ok-look.ensures.look; shown = c.in_ok-look.ensures.shown; guarded = (λ told. c.in_ok-look.ensures.guarded told (resource.Extent c.args.e) c.in_ok-look.ensures.free); view = c.in_ok-look.ensures.view; same = c.in_ok-look.ensures.same; low = c.is_whole.ensures.bytes; long = c.is_whole.ensures.long })
    (record { take = c.in_ok-take.ensures.take; taken = c.in_ok-take.ensures.taken; same = c.in_ok-take.ensures.same })
    (subst (λ (x : ℕ). Does (g.P.PlanPages.state c.take.new.self) (g.P.PlanPages.state c.put.new.self) (carry c.args.place.0.0 (page (g.P.PlanPages.state c.take.new.self).shown c.args.place.0.0) (slice_set c.look.new.into.bytes (byte_of c.args.place.1) x)) c.put.result) c.with_bit.ensures c.put.ensures.put)
