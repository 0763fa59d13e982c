-- What is written part by part, as the lines of a report.
use Rattle.std.specs.Prelude.{◌≡◌, ℕ, ◌+◌, ◌<◌, ◌≤◌, Bool, true, false, List, [], ◌++◌, length, take, drop, get_or, Option, Result, Ok, Err, is_err, IsErrAnd, refl}
use Rattle.std.proofs.Common.{sym, ap, subst, ◌∙◌, append-nil, flat_map}
use Rattle.std.proofs.lemmas.List.{flat_map_more, take_more, take-append-drop, take_all}
use Rattle.std.proofs.lemmas.List.Concat.{flat_map-append}
use Rattle.std.proofs.lemmas.Bool.{false≢true}
use Rattle.pg_base.proofs.FaultLaws.{counts_then, counts_none}
use Rattle.vol_dev.specs.Devices.{Grows}
use Rattle.vol_dev.specs.Output.{Wrote}
use Rattle.vol_dev.specs.declared.device.Sink.{Ghosts}
use Rattle.vol_dev.proofs.DeviceLaws.{append_known-then, append_known-nil, WroteFront-after}

grows_then : (a b c : Option (List ℕ)) (x y : List ℕ) (failed : Bool) → Grows a b x false → Grows b c y failed → Grows a c (x ++ y) failed
grows_then a b c x y false p q = append_known-then a b c x y p q
grows_then a b c x y true p q = WroteFront-after a b c x y [] (x ++ y) p q (ap (λ l. x ++ l) (sym (append-nil y)))

module _ {X : Type 0} (k : Ghosts X) where
  -- nothing yet
  pub wrote_none : (a : X) → Wrote k a a [] false
  wrote_none a = record { grows = sym (append_known-nil (k.contents a)); faults = counts_none _ (k.faults a) false≢true }

  -- a part behind those that were written
  pub wrote_then : (a b c : X) (x y : List ℕ) (failed : Bool) → Wrote k a b x false → Wrote k b c y failed → Wrote k a c (x ++ y) failed
  wrote_then a b c x y failed p q = record {
    grows = grows_then (k.contents a) (k.contents b) (k.contents c) x y failed p.grows q.grows;
    faults = counts_then _ _ (k.faults a) (k.faults b) (k.faults c) p.faults q.faults;
  }

  -- a failure leaves a front of whatever was to follow
  pub wrote_front : (a b : X) (x y : List ℕ) → Wrote k a b x true → Wrote k a b (x ++ y) true
  wrote_front a b x y p = record {
    grows = WroteFront-after (k.contents a) (k.contents a) (k.contents b) [] x y (x ++ y) (sym (append_known-nil (k.contents a))) p.grows refl;
    faults = p.faults;
  }

  -- the answer of a call that hands a failure on
  pub wrote_failed : {T E : Type 0} (r : Result T E) (Q : E → Type 0) (a b : X) (x : List ℕ) → IsErrAnd r Q → Wrote k a b x true → Wrote k a b x (is_err r)
  wrote_failed (Ok v) Q a b x is p = absurd is
  wrote_failed (Err e) Q a b x is p = p

  -- the parts of the first i elements, and that of element i, which stands in the list as d
  module _ {Y : Type 0} (f : Y → List ℕ) (xs : List Y) (i : ℕ) (d : Y) (a b c : X) (inside : i < length xs) (so_far : Wrote k a b (flat_map f (take i xs)) false) where
    more : flat_map f (take i xs) ++ f (get_or xs i d) ≡ flat_map f (take (i + 1) xs)
    more = flat_map_more f [] (take i xs) (get_or xs i d) ∙ ap (flat_map f) (sym (take_more xs i d inside))

    pub wrote_more : (part : List ℕ) (failed : Bool) → part ≡ f (get_or xs i d) → Wrote k b c part failed → Wrote k a c (flat_map f (take (i + 1) xs)) failed
    wrote_more part failed is p =
        subst (λ l. Wrote k a c l failed) (ap (λ l. flat_map f (take i xs) ++ l) is ∙ more) (wrote_then a b c (flat_map f (take i xs)) part failed so_far p)

    -- where that one failed, of all
    pub wrote_part : (part : List ℕ) → part ≡ f (get_or xs i d) → Wrote k b c part true → Wrote k a c (flat_map f xs) true
    wrote_part part is p =
        subst (λ l. Wrote k a c l true) (sym (flat_map-append f (take (i + 1) xs) (drop (i + 1) xs)) ∙ ap (flat_map f) (take-append-drop (i + 1) xs))
        (wrote_front a c (flat_map f (take (i + 1) xs)) (flat_map f (drop (i + 1) xs)) (wrote_more part true is p))

  -- the parts of all elements
  pub wrote_all : {Y : Type 0} (f : Y → List ℕ) (xs : List Y) (i : ℕ) (a b : X) → length xs ≤ i → Wrote k a b (flat_map f (take i xs)) false
      → Wrote k a b (flat_map f xs) false
  wrote_all f xs i a b all p = subst (λ l. Wrote k a b (flat_map f l) false) (take_all i xs all) p
