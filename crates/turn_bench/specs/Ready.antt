-- Threads that stand ready for a turn.
use Rattle.std.specs.Prelude.{◌≡◌, IsSomeAnd}
use Rattle.turn_seat.specs.Shown.{TurnModel, IsOf}
use Rattle.turn_bench.specs.declared.worker.Worker.{Worker}

-- the worker has a seat of this turn, with one part
abbrev pub IsReady : TurnModel → Worker → Type 0
IsReady turn worker = IsSomeAnd worker.seat (λ s. IsOf turn s × (s.parts ≡ 1))
