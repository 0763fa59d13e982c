use Rattle.std.proofs.Common.{◌≡◌, ◌-◌}
use Rattle.app_words.specs.Words.{least, is_wrong_at, places_of}
use Rattle.app_words.proofs.command.wrong_place.Given as goal

abbrev pub invariant-loop-i : goal.invariant-loop-i
invariant-loop-i l =
    least (is_wrong_at l.verb l.words) (places_of l.verb) 1 ≡ least (is_wrong_at l.verb l.words) (l.end - l.i) l.i
