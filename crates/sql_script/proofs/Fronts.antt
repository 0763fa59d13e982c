-- What a line begins with, and ends with.
use Rattle.std.specs.Prelude.{◌≡◌, ℕ, ◌+◌, ◌-◌, List, length, take, drop, Option, Some, None, option_map, bytes_eq, true, false}
use Rattle.std.specs.Option.{MatchOption}
use Rattle.std.proofs.Common.{Bor, refl, ap}
use Rattle.sql_script.specs.Reading.{after, before}

pub after_is : (line front : List ℕ) (r : Option (Bor (List ℕ)))
    → MatchOption r (bytes_eq (take (length front) line) front ≡ false)
    (λ x. (bytes_eq (take (length front) line) front ≡ true) × (x.now ≡ drop (length front) line) × (length x.now + length front ≡ length line))
    → option_map (λ x. x.now) r ≡ after front line
unfolding after
after_is line front None e = rw e refl
after_is line front (Some x) f = rw (f.0) (ap Some f.1)

pub before_is : (line back : List ℕ) (r : Option (Bor (List ℕ)))
    → MatchOption r (bytes_eq (drop (length line - length back) line) back ≡ false)
    (λ x. (bytes_eq (drop (length line - length back) line) back ≡ true) × (x.now ≡ take (length line - length back) line) × (length x.now + length back ≡ length line))
    → option_map (λ x. x.now) r ≡ before back line
unfolding before
before_is line back None e = rw e refl
before_is line back (Some x) f = rw (f.0) (ap Some f.1)
