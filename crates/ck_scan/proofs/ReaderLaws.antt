-- Calls by several readers: before they are read, and where memory runs out behind them.
use Rattle.std.proofs.Common.{◌≡◌, List, [], ◌∷◌, Contains, Option, Some, None, Result, Err, map, get_or, sym, subst, ap, ◌∙◌, refl, inl, inr, ⊎_elim}
use Rattle.std.specs.Option.{option_or}
use Rattle.std.specs.Prelude.{IsErrAnd}
use Rattle.std.proofs.lemmas.Result.{err_from_is_err_and}
use Rattle.std.proofs.lemmas.List.{length-map, get_or-map}
use Rattle.pg_base.specs.declared.reader.SnapReader.{Ghosts}
use Rattle.pg_base.specs.declared.reader.ReadStop.{ReadStop}
use Rattle.pg_base.specs.declared.reader.ReadStop.TheVariants.{NoMemory}
use Rattle.pg_base.specs.Reading.{OnlyReads}
use Rattle.pg_base.specs.Stops.{stop_of}
use Rattle.pg_base.proofs.ReadingLaws.{reads_none}
use Rattle.spec_check.proofs.Members.{nothing_there, cons_cases}
use Rattle.ck_scan.specs.Readers.{first_stop, AreRead}

-- The first stop of a list.

pub first_or : (stop : Option ReadStop) (stops : List (Option ReadStop)) → first_stop (stop ∷ stops) ≡ option_or stop (first_stop stops)
first_or None stops = refl
first_or (Some stop) stops = refl

pub or_or : {T : Type 0} (a b c : Option T) → option_or (option_or a b) c ≡ option_or a (option_or b c)
or_or None b c = refl
or_or (Some x) b c = refl

pub none_stops : (stops : List (Option ReadStop)) (stop : Option ReadStop) → first_stop stops ≡ None → Contains stops stop → stop ≡ None
none_stops [] stop none c = absurd (nothing_there stop c)
none_stops (None ∷ stops) stop none c = ⊎_elim (λ is. sym is) (λ later. none_stops stops stop none later) (cons_cases None stops stop c)
none_stops (Some x ∷ stops) stop none c = let no : Some x ≡ None = none in absurd (cc)

abbrev no_stop : {X : Type 0} → X → Option ReadStop
no_stop x = None

no_first : {X : Type 0} (xs : List X) → first_stop (map no_stop xs) ≡ None
no_first [] = refl
no_first (x ∷ xs) = no_first xs

-- before anything is read
pub read_none : {X : Type 0} (r : Ghosts X) (xs : List X) → AreRead r xs xs None
read_none {X} r xs = record {
  stops = map no_stop xs;
  long = refl;
  stops_long = length-map xs no_stop;
  each = λ i d low. subst (OnlyReads r (get_or xs i d) (get_or xs i d)) (sym (get_or-map no_stop xs i d None low)) (reads_none r (get_or xs i d));
  ends = inl (sym (no_first xs));
}

-- and where memory then runs out
pub read_want : {X : Type 0} (r : Ghosts X) (old new : List X) → AreRead r old new None → AreRead r old new (Some NoMemory)
read_want {X} r old new h = record {
  stops = h.stops;
  long = h.long;
  stops_long = h.stops_long;
  each = h.each;
  ends = inr (⊎_elim (λ is. sym is) (λ no. let wrong : None ≡ Some NoMemory = no.1 in absurd (cc)) h.ends, refl);
}

pub want_none : {X : Type 0} (r : Ghosts X) (xs : List X) → AreRead r xs xs (Some NoMemory)
want_none {X} r xs = read_want r xs xs (read_none r xs)

-- at the exit of a `?`
pub want_exit : {X T : Type 0} (r : Ghosts X) (xs : List X) (result : Result T ReadStop) → IsErrAnd result (λ s. s ≡ NoMemory) → AreRead r xs xs (stop_of result)
want_exit {X} {T} r xs result h =
    let e = err_from_is_err_and result h in
    subst (λ (q : Result T ReadStop). AreRead r xs xs (stop_of q)) (sym (e.1 ∙ ap Err e.2)) (want_none r xs)
