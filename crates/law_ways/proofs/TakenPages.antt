-- The new pages that a climb takes are the first of those that are there.
use Rattle.std.proofs.Common.{◌≡◌, ℕ, suc, ◌+◌, ◌<◌, ◌≤◌, List, [], ◌∷◌, ◌++◌, length, Option, Some, None, refl, ap, ◌∙◌, arith, append-nil, append_assoc}
use Rattle.spec_levels.specs.Levels.{Payload, Row, Index, Leaf}
use Rattle.spec_ways.specs.Insert.{Cuts, first_fresh, left_over}
use Rattle.spec_ways.specs.Rows.{with_row}
use Rattle.spec_ways.specs.Ways.{with_behind}
use Rattle.spec_ways.specs.Climbs.{step_of, separator_of, Climb, climb_through, climb, new_page, new_pages, second_page, taken_pages}
use Rattle.law_ways.proofs.GrowLaws.{fewer}

step_takes : {V : Type 0} (o : Option ℕ) (rows : List (Row V)) (fresh : List ℕ) → 0 < length fresh
    → let step = step_of o (first_fresh fresh) rows in new_page step ++ left_over (separator_of step) fresh ≡ fresh
step_takes None rows fresh some = refl
step_takes (Some m) rows [] some = absurd (omega (arith, some))
step_takes (Some m) rows (f ∷ fresh) some = refl

record Takes (fresh : List ℕ) (many : ℕ) (c : Climb) : Type 0 where
  first : new_pages c.above c.leaf ++ c.fresh ≡ fresh
  enough : length fresh ≤ length c.fresh + many

climb_takes : (cuts : Cuts) (fresh : List ℕ) (x : Row Payload) (ns : List Index) (leaf : Leaf) → length ns < length fresh → Takes fresh (suc (length ns)) (climb cuts fresh x ns leaf)
climb_takes cuts fresh x [] leaf many =
    let rows = with_row x leaf.rows in
    record {
      first = step_takes (cuts.leaf rows) rows fresh many;
      enough = fewer (separator_of (step_of (cuts.leaf rows) (first_fresh fresh) rows)) fresh;
    }
climb_takes cuts fresh x (n ∷ ns) leaf many =
    let b = climb cuts fresh x ns leaf in
    by_below b b.separator (climb_takes cuts fresh x ns leaf (omega (arith, many)))
  where
    by_below : (b : Climb) (o : Option (Row ℕ)) → Takes fresh (suc (length ns)) b → Takes fresh (suc (suc (length ns))) (climb_through cuts.index x.key n b o)
    by_below b None h = record { first = ap (λ l. l ++ b.fresh) (append-nil (new_pages b.above b.leaf)) ∙ h.first; enough = let e = h.enough in omega (arith, e) }
    by_below b (Some y) h =
        let rows = with_behind x.key y n.rows in
        let step = step_of (cuts.index rows) (first_fresh b.fresh) rows in
        let left = left_over (separator_of step) b.fresh in
        let some : 0 < length b.fresh = (let e = h.enough in omega (arith, e, many)) in
        record {
          first = append_assoc (new_pages b.above b.leaf) (new_page step) left ∙ ap (λ l. new_pages b.above b.leaf ++ l) (step_takes (cuts.index rows) rows b.fresh some) ∙ h.first;
          enough = let e = h.enough in let f = fewer (separator_of step) b.fresh in omega (arith, e, f);
        }

second_takes : (o : Option (Row ℕ)) (fresh : List ℕ) → 0 < length fresh → second_page o fresh ++ left_over o fresh ≡ fresh
second_takes None fresh some = refl
second_takes (Some u) [] some = absurd (omega (arith, some))
second_takes (Some u) (f ∷ fresh) some = refl

pub taken_are_first : (cuts : Cuts) (fresh : List ℕ) (x : Row Payload) (ns : List Index) (leaf : Leaf) → length ns + 2 ≤ length fresh
    → let c = climb cuts fresh x ns leaf in taken_pages c ++ left_over c.separator c.fresh ≡ fresh
taken_are_first cuts fresh x ns leaf many =
    let c = climb cuts fresh x ns leaf in
    let h = climb_takes cuts fresh x ns leaf (omega (arith, many)) in
    append_assoc (new_pages c.above c.leaf) (second_page c.separator c.fresh) (left_over c.separator c.fresh)
    ∙ ap (λ l. new_pages c.above c.leaf ++ l) (second_takes c.separator c.fresh (let e = h.enough in omega (arith, e, many))) ∙ h.first
