-- Each kind of step keeps the rule: what the calls of the table ask.
use Rattle.std.proofs.Common.{◌≡◌, ◌≢◌, ◌<◌, ◌+◌, ◌^◌, ℕ, true, false, List, [], ◌∷◌, length, set, refl, sym, ap, ◌∙◌, subst, arith, length-set, eq-eqb, ne_eqb}
use Rattle.std.specs.Prelude.{slice_index, ◌==◌, Option, Some, None}
use mathlib.Core.Logic.{dite}
use mathlib.Core.Option.{none, some, some-injective}
use mathlib.Core.List.{IsPrefix}
use native.Mathlib.Decide.{ℕ_discrete}
use lib.ListN.{get_elem?}
use prog.Atomic.{either}
use Rattle.atomic_table.specs.Table.{State, Me, Step, rest, step, keeps, takes, gives, stepped, Allows, Splits, Joins, Seen}
use Rattle.atomic_table.proofs.Lists.{set_again}
use Rattle.turn_seat.specs.declared.rule.SeatView.{SeatView}
use Rattle.turn_seat.specs.Shown.{longer}
use Rattle.turn_seat.proofs.Prefixes.{prefix_longer_left, prefix_longer_right}
use Rattle.turn_seat.specs.Rule.{seat_view, outside, waiting, called, spent, with_parts_kept, with_parts_given, joined, Fitting, IsKept, Drew, Called, Counted, Passed, Settled}
use Rattle.turn_seat.proofs.Words.{set_0_0, set_0_1, set_0_2, set_1_0, set_1_1, set_1_2, set_2_0, set_2_1, set_2_2, some_same}
use Rattle.turn_seat.proofs.Views.{parts-within}
use Rattle.turn_seat.proofs.Turns.{draws, home, takes_state, counts, passes, settles, splits, joins, ends, starts}

module _ {S E : Type 0} (entries : S → List E) where
  abbrev V : Type 0
  V = SeatView E

  abbrev Homes : Type 0
  Homes = List (mathlib.Core.Option.Option (Option S))

  abbrev M : Type 0
  M = Me (Option S) V

  abbrev St : Type 0
  St = State (Option S) V

  -- the rule, once the word i is m
  placed : (parts : ℕ) (ws : List ℕ) (i m a b c : ℕ) (homes : Homes) (views : List V) → length ws ≡ 3 → slice_index (set ws i m) 0 ≡ a → slice_index (set ws i m) 1 ≡ b → slice_index (set ws i m) 2 ≡ c
      → Fitting entries parts a b c homes views → IsKept entries parts record { words = set ws i m; homes = homes; views = views }
  placed parts ws i m a b c homes views three ea eb ec f = record {
    words = length-set ws i m ∙ three;
    fitting = subst (λ (t : ℕ × ℕ × ℕ). Fitting entries parts t.0 t.1 t.2 homes views) (λ k. (sym ea k, sym eb k, sym ec k)) f;
  }

  with_ticket : (parts : ℕ) (s : St) (homes : Homes) (views : List V) → length s.words ≡ 3 → (m next : ℕ) → m ≡ next → Fitting entries parts next (slice_index s.words 1) (slice_index s.words 2) homes views
      → IsKept entries parts record { words = set s.words 0 m; homes = homes; views = views }
  with_ticket parts s homes views three m next is f = placed parts s.words 0 m next (slice_index s.words 1) (slice_index s.words 2) homes views three (set_0_0 s.words m three ∙ is) (set_0_1 s.words m) (set_0_2 s.words m) f

  with_serving : (parts : ℕ) (s : St) (homes : Homes) (views : List V) → length s.words ≡ 3 → (m : ℕ) → Fitting entries parts (slice_index s.words 0) m (slice_index s.words 2) homes views
      → IsKept entries parts record { words = set s.words 1 m; homes = homes; views = views }
  with_serving parts s homes views three m f = placed parts s.words 1 m (slice_index s.words 0) m (slice_index s.words 2) homes views three (set_1_0 s.words m) (set_1_1 s.words m three) (set_1_2 s.words m) f

  with_count : (parts : ℕ) (s : St) (homes : Homes) (views : List V) → length s.words ≡ 3 → (m : ℕ) → Fitting entries parts (slice_index s.words 0) (slice_index s.words 1) m homes views
      → IsKept entries parts record { words = set s.words 2 m; homes = homes; views = views }
  with_count parts s homes views three m f = placed parts s.words 2 m (slice_index s.words 0) (slice_index s.words 1) m homes views three (set_2_0 s.words m) (set_2_1 s.words m) (set_2_2 s.words m three) f

  draw_moves : (parts slots id p : ℕ) (seen : List E) (old : ℕ) → 0 < p
      → Allows (IsKept entries parts) slots id (outside p seen, []) 0 (λ n. either (n == old) (old + 1) n) (Drew entries (step slots 0 old (old + 1) none) (outside p seen, []))
  draw_moves parts slots id p seen old some_part s kept homes at small = let n : ℕ = slice_index s.words 0 in let v : V = outside p seen in dite (ℕ_discrete n old)
      (λ (hit : n ≡ old). let w : V = waiting p seen n in (
        w,
        keeps,
        tt,
        subst (λ b. IsKept entries parts (stepped s 0 (either b (old + 1) n) id [] w keeps)) (sym (eq-eqb n old hit))
            (with_ticket parts s s.homes (set s.views id w) kept.words (old + 1) (n + 1) (ap (λ k. k + 1) (sym hit)) (draws entries parts n _ _ s.homes s.views id p seen some_part at kept.fitting)),
        ((λ _. refl), λ miss. absurd (miss hit)),
      ))
      (λ (miss : n ≢ old). (
        v,
        keeps,
        tt,
        subst (λ b. IsKept entries parts (stepped s 0 (either b (old + 1) n) id [] v keeps)) (sym (ne_eqb n old miss))
            (with_ticket parts s s.homes (set s.views id v) kept.words n n refl (subst (λ l. Fitting entries parts n (slice_index s.words 1) (slice_index s.words 2) s.homes l) (sym (set_again s.views id v at)) kept.fitting)),
        ((λ hit. absurd (miss hit)), λ _. refl),
      ))

  take_moves : (parts slots id p : ℕ) (seen : List E) (k : ℕ) → 0 < p
      → Allows (IsKept entries parts) slots id (waiting p seen k, []) 1 (λ n. n) (Called entries (step slots 1 0 0 none) (waiting p seen k, []))
  take_moves parts slots id p seen k some_part s kept homes at small = let n : ℕ = slice_index s.words 1 in let v : V = waiting p seen k in dite (ℕ_discrete n k)
      (λ (hit : n ≡ k).
      let at' : get_elem? s.views id ≡ some (waiting p seen n) = at ∙ ap (λ (m : ℕ). some (waiting p seen m)) (sym hit) in
      let f = kept.fitting in
      let h = home entries parts _ n _ s.homes s.views f id p seen at' in
      let w : V = called p (entries h.state) n in (
        w,
        takes 0 (Some h.state),
        h.home,
        with_serving parts s (set s.homes 0 none) (set s.views id w) kept.words n (takes_state entries parts _ n _ s.homes s.views id p seen some_part at' f h),
        ((λ _. (h.state, refl, subst (λ l. IsPrefix seen l) (sym h.list) (f.each id (waiting p seen n) at').seen)), λ miss. absurd (miss (ap (λ (m : ℕ). Some m) (sym hit)))),
      ))
      (λ (miss : n ≢ k). (
        v,
        keeps,
        tt,
        with_serving parts s s.homes (set s.views id v) kept.words n (subst (λ l. Fitting entries parts (slice_index s.words 0) n (slice_index s.words 2) s.homes l) (sym (set_again s.views id v at)) kept.fitting),
        ((λ e. absurd (miss (sym (some_same k n e)))), λ _. refl),
      ))

  count_moves : (parts slots id p : ℕ) (seen : List E) (k : ℕ) (x : S) (new : ℕ) → 0 < p → IsPrefix seen (entries x) → new ≡ length (entries x)
      → Allows (IsKept entries parts) slots id (called p seen k, (0, Some x) ∷ []) 2 (λ _. new) (λ _. Counted entries (step slots 2 new 0 none) (called p seen k, (0, Some x) ∷ []) new)
  count_moves parts slots id p seen k x new some_part longer_list is s kept homes at small = let w : V = called p (entries x) k in (
    w,
    keeps,
    tt,
    with_count parts s s.homes (set s.views id w) kept.words new
        (subst (λ c. Fitting entries parts (slice_index s.words 0) (slice_index s.words 1) c s.homes (set s.views id w)) (sym is) (counts entries parts _ _ _ s.homes s.views id p seen k x some_part at longer_list kept.fitting)),
    (x, refl, refl),
  )

  pass_moves : (parts slots id p : ℕ) (seen : List E) (k : ℕ) (x : S) → 0 < p → entries x ≡ seen
      → Allows (IsKept entries parts) slots id (called p seen k, (0, Some x) ∷ []) 1 (λ _. k + 1) (λ _. Passed entries (step slots 1 (k + 1) 0 none) (called p seen k, (0, Some x) ∷ []) (k + 1))
  pass_moves parts slots id p seen k x some_part list s kept homes at small = let w : V = outside p seen in (
    w,
    gives,
    tt,
    with_serving parts s (set s.homes 0 (some (Some x))) (set s.views id w) kept.words (k + 1) (passes entries parts _ _ _ s.homes s.views id p seen k x some_part at list kept.fitting),
    refl,
  )

  settle_moves : (parts slots id p : ℕ) (seen told : List E) → 0 < p
      → Allows (IsKept entries parts) slots id (seat_view p seen told None false, []) 0 (λ n. n) (Settled entries (step slots 0 0 0 none) (seat_view p seen told None false, []))
  settle_moves parts slots id p seen told some_part s kept homes at small = let n : ℕ = slice_index s.words 0 in let v : V = seat_view p seen told None false in let w : V = outside p (longer seen told) in
      let f = kept.fitting in
      let mine = f.each id v at in (
        w,
        keeps,
        tt,
        with_ticket parts s s.homes (set s.views id w) kept.words n n refl (settles entries parts _ _ _ s.homes s.views id p seen told some_part at f),
        (refl, prefix_longer_left seen told f.now mine.seen mine.told, prefix_longer_right seen told f.now mine.seen mine.told, (let q = parts-within s.views id v at in let r = f.parts in let t = f.small in omega arith)),
      )

  -- The same for a seat whose view is known by an equation.
  pub draw_at : (parts slots id : ℕ) (me : M) (p : ℕ) (seen : List E) (old : ℕ) → me ≡ (outside p seen, []) → 0 < p
      → Allows (IsKept entries parts) slots id me 0 (λ n. either (n == old) (old + 1) n) (Drew entries (step slots 0 old (old + 1) none) me)
  draw_at parts slots id me p seen old is some_part =
      subst (λ (m : M). Allows (IsKept entries parts) slots id m 0 (λ n. either (n == old) (old + 1) n) (Drew entries (step slots 0 old (old + 1) none) m)) (sym is) (draw_moves parts slots id p seen old some_part)

  pub take_at : (parts slots id : ℕ) (me : M) (p : ℕ) (seen : List E) (k : ℕ) → me ≡ (waiting p seen k, []) → 0 < p
      → Allows (IsKept entries parts) slots id me 1 (λ n. n) (Called entries (step slots 1 0 0 none) me)
  take_at parts slots id me p seen k is some_part =
      subst (λ (m : M). Allows (IsKept entries parts) slots id m 1 (λ n. n) (Called entries (step slots 1 0 0 none) m)) (sym is) (take_moves parts slots id p seen k some_part)

  pub count_at : (parts slots id : ℕ) (me : M) (p : ℕ) (seen : List E) (k : ℕ) (x : S) (new : ℕ) → me ≡ (called p seen k, (0, Some x) ∷ []) → 0 < p → IsPrefix seen (entries x) → new ≡ length (entries x)
      → Allows (IsKept entries parts) slots id me 2 (λ _. new) (λ _. Counted entries (step slots 2 new 0 none) me new)
  count_at parts slots id me p seen k x new is some_part grows long =
      subst (λ (m : M). Allows (IsKept entries parts) slots id m 2 (λ _. new) (λ _. Counted entries (step slots 2 new 0 none) m new)) (sym is) (count_moves parts slots id p seen k x new some_part grows long)

  pub pass_at : (parts slots id : ℕ) (me : M) (p : ℕ) (seen : List E) (k : ℕ) (x : S) → me ≡ (called p seen k, (0, Some x) ∷ []) → 0 < p → entries x ≡ seen
      → Allows (IsKept entries parts) slots id me 1 (λ _. k + 1) (λ _. Passed entries (step slots 1 (k + 1) 0 none) me (k + 1))
  pass_at parts slots id me p seen k x is some_part list =
      subst (λ (m : M). Allows (IsKept entries parts) slots id m 1 (λ _. k + 1) (λ _. Passed entries (step slots 1 (k + 1) 0 none) m (k + 1))) (sym is) (pass_moves parts slots id p seen k x some_part list)

  pub settle_at : (parts slots id : ℕ) (me : M) (p : ℕ) (seen told : List E) → me ≡ (seat_view p seen told None false, []) → 0 < p
      → Allows (IsKept entries parts) slots id me 0 (λ n. n) (Settled entries (step slots 0 0 0 none) me)
  settle_at parts slots id me p seen told is some_part =
      subst (λ (m : M). Allows (IsKept entries parts) slots id m 0 (λ n. n) (Settled entries (step slots 0 0 0 none) m)) (sym is) (settle_moves parts slots id p seen told some_part)

  pub split_at : (parts id : ℕ) (me : M) (p given : ℕ) (seen : List E) → me ≡ (outside p seen, []) → 0 < given → given < p
      → Splits (IsKept entries parts) id me.0 (with_parts_kept given me.0) (with_parts_given given me.0)
  split_at parts id me p given seen is some_part rest_part =
      subst (λ (m : M). Splits (IsKept entries parts) id m.0 (with_parts_kept given m.0) (with_parts_given given m.0)) (sym is)
      (λ s kept at. record { words = kept.words; fitting = splits entries parts _ _ _ s.homes s.views id p given seen some_part rest_part at kept.fitting })

  pub join_at : (parts id : ℕ) (me : M) (p : ℕ) (seen : List E) (other : ℕ) (you : M) (q : ℕ) (told : List E) → me ≡ (outside p seen, []) → you ≡ (outside q told, []) → 0 < p
      → Joins (IsKept entries parts) id me.0 other you.0 (joined me.0 you.0) spent
  join_at parts id me p seen other you q told is was some_part =
      subst (λ (m : M). Joins (IsKept entries parts) id m.0 other you.0 (joined m.0 you.0) spent) (sym is)
      (subst (λ (u : M). Joins (IsKept entries parts) id (outside p seen) other u.0 (joined (outside p seen) u.0) spent) (sym was)
      (λ s kept at apart there. record { words = kept.words; fitting = joins entries parts _ _ _ s.homes s.views id other p q seen told some_part at apart there kept.fitting }))

  pub ends_at : (parts id : ℕ) (me : M) (p : ℕ) (seen : List E) (s : St) → me ≡ (outside p seen, []) → Seen (IsKept entries parts) id me.0 s → p ≡ parts
      → (x : S) × (get_elem? s.homes 0 ≡ some (some (Some x))) × IsPrefix seen (entries x)
  ends_at parts id me p seen s is both whole =
      let last = subst (λ (m : M). Seen (IsKept entries parts) id m.0 s) is both in
      ends entries parts _ _ _ s.homes s.views id p seen last.0.fitting last.1 whole

  pub begins : (parts count : ℕ) (x : S) → parts < 2 ^ 32 → 0 < parts → count ≡ length (entries x)
      → IsKept entries parts record { words = 0 ∷ 0 ∷ count ∷ []; homes = some (Some x) ∷ []; views = outside parts (entries x) ∷ [] }
  begins parts count x small some_part is = record { words = refl; fitting = starts entries parts count x small some_part is }

  -- What a seat has and knows after the calls of a step.
  pub held_one : (l : List (ℕ × Option S)) (k : ℕ) (y : Option S) → l ≡ (k, y) ∷ [] → l ≡ (k, y) ∷ rest l
  held_one l k y e = e ∙ ap (λ r. (k, y) ∷ r) (sym (ap rest e))

  pub exchanged_me : (old new : M) (v : V) (x y : Option S) → old ≡ (v, (0, y) ∷ []) → new ≡ (old.0, (0, x) ∷ rest old.1) → new ≡ (v, (0, x) ∷ [])
  exchanged_me old new v x y is e = e ∙ ap (λ (m : M). (m.0, (0, x) ∷ rest m.1)) is

  first_value : List (ℕ × Option S) → Option S
  first_value [] = None
  first_value (x ∷ xs) = x.1

  pub counted_me : (st : Step (Option S)) (old : M) (n : ℕ) (new : M) (p : ℕ) (seen : List E) (k : ℕ) (y : S) → Counted entries st old n new → old ≡ (called p seen k, (0, Some y) ∷ [])
      → new ≡ (called p (entries y) k, (0, Some y) ∷ [])
  unfolding first_value
  counted_me st old n new p seen k y h is =
      let there : Some h.0 ≡ Some y = ap first_value (sym h.1 ∙ ap (λ (m : M). m.1) is) in
      let same : h.0 ≡ y = cc there in
      h.2 ∙ (ap (λ (m : M). (seat_view m.0.parts (entries h.0) [] m.0.ticket true, m.1)) is ∙ ap (λ x. (called p (entries x) k, (0, Some y) ∷ [])) same)

  pub joined_me : (old you new : M) (p q : ℕ) (seen told : List E) → old ≡ (outside p seen, []) → you ≡ (outside q told, []) → new ≡ (joined old.0 you.0, old.1) → new ≡ (seat_view (p + q) seen told None false, [])
  joined_me old you new p q seen told is was e = e ∙ (ap (λ (m : M). (joined m.0 you.0, m.1)) is ∙ ap (λ (m : M). (joined (outside p seen) m.0, [])) was)

  pub the_same : (l : List (Option S)) (x : S) (slot : Option S) → get_elem? l 0 ≡ some (Some x) → get_elem? l 0 ≡ some slot → slot ≡ Some x
  the_same l x slot a b = some-injective slot (Some x) (sym b ∙ a)
