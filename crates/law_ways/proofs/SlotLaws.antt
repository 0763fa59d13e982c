-- A separator put behind the row towards a key stands at its place.
use Rattle.std.proofs.Common.{◌≡◌, ℕ, suc, ◌<◌, ◌≤◌, List, [], ◌∷◌, Option, Some, None, nat_lt, refl, sym, ap, ◌∙◌, inl, inr, arith}
use Rattle.std.proofs.lemmas.Bool.{cases_Bool, ltb-true, ltb-false}
use Rattle.spec_levels.specs.Levels.{Payload, Row, Node, Index}
use Rattle.spec_ways.specs.Sinks.{Loss, Untouched, Keeps, Goes, loss_of, gone_key_of, edge_of, Sink, sink_through}
use Rattle.law_ways.proofs.WayReads.{some_is}
use Rattle.spec_ways.specs.Rows.{with_row, without, with_first_key, lowest_key}
use Rattle.spec_ways.specs.Ways.{key_toward, with_behind, without_toward}
use Rattle.spec_ways.specs.Insert.{Cut, first_fresh, left_over}
use Rattle.spec_ways.specs.Climbs.{step_of, separator_of, Climb, climb_through}
use Rattle.law_ways.proofs.Bounds.{Within}
use Rattle.law_ways.proofs.ByKey.{climb_through_by_key, edge_by_key, sink_through_by_key, sink_by_key}
use Rattle.law_ways.proofs.Fits.{StartsAt}
use Rattle.law_ways.proofs.PutLaws.{AreAlike}
use Rattle.law_ways.proofs.RowLaws.{with_less, with_more}
use Rattle.law_ways.proofs.TowardLaws.{without_slot, edge_slot, above_first, above_false, toward_here, toward_later, behind_here, behind_later}

behind_slot : (k : ℕ) (high : Option ℕ) (u r : Row ℕ) (rest : List (Row ℕ)) → Within r.key high (r ∷ rest) → AreAlike k u.key (r ∷ rest) → key_toward k (r ∷ rest) < u.key
    → with_behind k u (r ∷ rest) ≡ with_row u (r ∷ rest)
behind_slot k high u r [] w alike less = sym (with_more u r [] less)
behind_slot k high u r (s ∷ rest) w alike less = elim (cases_Bool (nat_lt k s.key)) [
  | inl e ↦
      let key = toward_here (λ x. x.key) k (suc r.key) high r (s ∷ rest) e w.2 in
      let below : u.key < s.key = ltb-true u.key s.key (sym alike.1.0 ∙ e) in
      behind_here k u r (s ∷ rest) (above_first k (suc r.key) high (s ∷ rest) e w.2)
      ∙ sym (with_more u r (s ∷ rest) (omega (arith, key, less)) ∙ ap (λ l. r ∷ l) (with_less u s rest below))
  | inr e ↦
      let key = toward_later (λ x. x.key) k r (s ∷ rest) e in
      let low : s.key ≤ u.key = ltb-false u.key s.key (sym alike.1.0 ∙ e) in
      behind_later k u r (s ∷ rest) (above_false k s rest e)
      ∙ ap (λ l. r ∷ l) (behind_slot k high u s rest (omega arith, w.2.1, w.2.2) alike.1 (omega (arith, key, less)))
      ∙ sym (with_more u r (s ∷ rest) (omega (arith, low, w.2.0)))
]

pub behind_at : (key k : ℕ) (high : Option ℕ) (u : Row ℕ) (xs : List (Row ℕ)) → StartsAt key xs → Within key high xs → AreAlike k u.key xs → key_toward k xs < u.key
    → with_behind k u xs ≡ with_row u xs
behind_at key k high u [] at w alike less = absurd at
behind_at key k high u (r ∷ rest) at w alike less = behind_slot k high u r rest (omega arith, w.1, w.2) alike less

abbrev at_rows : Cut ℕ → Climb → List (Row ℕ) → Climb
at_rows cut c rows =
    let step = step_of (cut rows) (first_fresh c.fresh) rows in
    record { above = step ∷ c.above; leaf = c.leaf; separator = separator_of step; fresh = left_over (separator_of step) c.fresh }

through_same : (cut : Cut ℕ) (k : ℕ) (n : Index) (c : Climb) (o : Option (Row ℕ)) → ((y : Row ℕ) → o ≡ Some y → with_behind k y n.rows ≡ with_row y n.rows)
    → climb_through cut k n c o ≡ climb_through_by_key cut n c o
through_same cut k n c None same = refl
through_same cut k n c (Some y) same = ap (at_rows cut c) (same y refl)

pub climb_same : (cut : Cut ℕ) (k : ℕ) (n : Index) (c d : Climb) → c ≡ d → ((y : Row ℕ) → d.separator ≡ Some y → with_behind k y n.rows ≡ with_row y n.rows)
    → climb_through cut k n c c.separator ≡ climb_through_by_key cut n d d.separator
climb_same cut k n c d e same = ap (λ (x : Climb). climb_through cut k n x x.separator) e ∙ through_same cut k n d d.separator same

-- a level loses the key of the row towards k
pub gone_is : (j k : ℕ) (ns : List (Node ℕ)) (leaf : Node Payload) (q : ℕ) → (sink_by_key j k ns leaf).gone_key ≡ Some q → j ≡ q
gone_is j k [] leaf q e = by_loss (loss_of (without k leaf.rows) None) e
  where
    by_loss : (loss : Loss Payload) → gone_key_of j loss ≡ Some q → j ≡ q
    by_loss Untouched e = absurd (cc)
    by_loss (Keeps rows edge) e = absurd (cc)
    by_loss Goes e = some_is j q e
gone_is j k (n ∷ ns) leaf q e = by_below (sink_by_key (key_toward k n.rows) k ns leaf) (sink_by_key (key_toward k n.rows) k ns leaf).gone_key e
  where
    by_loss : (loss : Loss ℕ) → gone_key_of j loss ≡ Some q → j ≡ q
    by_loss Untouched e = absurd (cc)
    by_loss (Keeps rows edge) e = absurd (cc)
    by_loss Goes e = some_is j q e

    by_below : (b : Sink) (o : Option ℕ) → (sink_through_by_key j n b o).gone_key ≡ Some q → j ≡ q
    by_below b None e = absurd (cc)
    by_below b (Some g) e = by_loss (loss_of (with_first_key j (without g n.rows)) (edge_by_key g n.rows)) e

-- a page that loses the row towards the key
slots_of : (key k g : ℕ) (high : Option ℕ) (xs : List (Row ℕ)) → StartsAt key xs → Within key high xs → g ≡ key_toward k xs
    → (with_first_key (lowest_key xs) (without_toward k xs) ≡ with_first_key key (without g xs)) × (edge_of k xs ≡ edge_by_key g xs)
slots_of key k g high [] at w is = absurd at
slots_of key k g high (r ∷ rest) at w is =
    let within : Within r.key high (r ∷ rest) = (omega arith, w.1, w.2) in (
      ap (λ l. with_first_key r.key l) (without_slot k high r rest within ∙ ap (λ (j : ℕ). without j (r ∷ rest)) (sym is)) ∙ ap (λ (j : ℕ). with_first_key j (without g (r ∷ rest))) at,
      edge_slot k high r rest within ∙ ap (λ (j : ℕ). edge_by_key j (r ∷ rest)) (sym is),
    )

lose : ℕ → Sink → List (Row ℕ) → Option ℕ → Sink
lose first c rows edge = let loss = loss_of rows edge in record { above = loss ∷ c.above; leaf = c.leaf; gone_key = gone_key_of first loss }

pub sink_same : (key k : ℕ) (high : Option ℕ) (n : Index) (c : Sink) (o : Option ℕ) → StartsAt key n.rows → Within key high n.rows → ((g : ℕ) → o ≡ Some g → g ≡ key_toward k n.rows)
    → sink_through key k n c o ≡ sink_through_by_key key n c o
unfolding lose
sink_same key k high n c None at w is = refl
sink_same key k high n c (Some g) at w is =
    let h = slots_of key k g high n.rows at w (is g refl) in
    ap (λ rows. lose key c rows (edge_of k n.rows)) h.0 ∙ ap (lose key c (with_first_key key (without g n.rows))) h.1
