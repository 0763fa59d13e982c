-- What each kind of step leaves: the words, the slot and the views fit together as before.
use Rattle.std.proofs.Common.{◌≡◌, ◌≢◌, ◌⊎◌, ◌<◌, ◌+◌, ◌-◌, ◌^◌, ℕ, zero, suc, true, false, true≢false, List, [], ◌∷◌, ◌++◌, length, set, refl, sym, ap, ◌∙◌, subst, ⊎_elim, inl, inr, arith}
use Rattle.std.specs.Prelude.{Option, Some, None}
use Rattle.std.proofs.lemmas.List.Sums.{sum_by_push, sum_by-cons}
use mathlib.Core.Logic.{dite}
use mathlib.Core.Option.{none, some, some-ne-none, some-injective}
use mathlib.Core.List.{IsPrefix}
use native.Mathlib.Decide.{ℕ_discrete}
use lib.ListN.{get_elem?}
use Rattle.atomic_table.proofs.Lists.{at_set, at_snoc, at_longer, set_here, set_else}
use Rattle.turn_seat.specs.declared.rule.SeatView.{SeatView}
use Rattle.turn_seat.specs.Shown.{longer}
use Rattle.turn_seat.proofs.Prefixes.{prefix_self, prefix_trans, longer_prefix}
use Rattle.turn_seat.specs.Rule.{seat_view, outside, waiting, called, spent, parts_of, Holds, Fits, IsHome, IsOut, Fitting}
use Rattle.turn_seat.proofs.Words.{at_bound, off, not_on, none_some, some_same}
use Rattle.turn_seat.proofs.Views.{parts-set, others_none, each-set, same_view, held-set, held_before, once-set, held-snoc, once-snoc}

module _ {S E : Type 0} (entries : S → List E) where
  abbrev V : Type 0
  V = SeatView E

  abbrev Homes : Type 0
  Homes = List (mathlib.Core.Option.Option (Option S))

  -- a seat between its turns fits, where its list does
  fits_outside : (now : List E) (next serving parts : ℕ) (seen : List E) → 0 < parts → IsPrefix seen now → Fits now next serving (outside parts seen)
  fits_outside now next serving parts seen some_part p = record {
    spent = λ empty. absurd (omega arith);
    seen = p;
    told = (now, refl);
    ticket = λ k is. none_some None k refl is;
    called = λ is. absurd (true≢false (sym is));
  }

  -- a seat that is not called, before or after, changes nothing of the slot
  slot-set : (now : List E) (homes : Homes) (views : List V) (id : ℕ) (v w : V) → get_elem? views id ≡ some v → v.called ≡ false → w.called ≡ false
      → IsHome entries now homes views ⊎ IsOut entries homes views → IsHome entries now homes (set views id w) ⊎ IsOut entries homes (set views id w)
  slot-set now homes views id v w at was is slot = ⊎_elim
      (λ (h : IsHome entries now homes views). inl record { state = h.state; home = h.home; list = h.list; nobody = each-set (λ j u. u.called ≡ false) views id w (λ j u _ e. h.nobody j u e) is })
      (λ (o : IsOut entries homes views). inr record {
        out = o.out;
        id = o.id;
        view = o.view;
        at = set_else views id o.id w (λ (e : o.id ≡ id). off v.called was (ap (λ (u : V). u.called) (sym (same_view views id o.id v o.view at o.at e)) ∙ o.called)) ∙ o.at;
        called = o.called;
      })
      slot

  -- the seat whose ticket is served is the only one that is called
  only_one : (parts next serving count : ℕ) (homes : Homes) (views : List V) (f : Fitting entries parts next serving count homes views) (id : ℕ) (v : V) → get_elem? views id ≡ some v → v.ticket ≡ Some serving
      → (j : ℕ) (u : V) → get_elem? views j ≡ some u → u.called ≡ true → j ≡ id
  only_one parts next serving count homes views f id v at mine j u there is =
      f.once serving j id (u, there, ((f.each j u there).called is).0) (v, at, mine)

  -- a seat draws the next ticket
  pub draws : (parts next serving count : ℕ) (homes : Homes) (views : List V) (id p : ℕ) (seen : List E) → 0 < p → get_elem? views id ≡ some (outside p seen) → Fitting entries parts next serving count homes views
      → Fitting entries parts (next + 1) serving count homes (set views id (waiting p seen next))
  draws parts next serving count homes views id p seen some_part at f =
      let v = outside p seen in
      let w = waiting p seen next in
      let mine = f.each id v at in
      let new_only : (k i : ℕ) → k ≡ next → Holds (set views id w) i k → i ≡ id = λ k i same h. ⊎_elim
      (λ (x : (i ≡ id) × (w ≡ h.0)). x.0)
      (λ (x : (i ≢ id) × (get_elem? views i ≡ some h.0)). let old = (f.each i h.0 x.1).ticket k h.2 in let lt = old.1 in absurd (omega arith))
      (at_set views id i w h.0 h.1) in
      let kept : (k : ℕ) → k ≢ next → w.ticket ≡ Some k → v.ticket ≡ Some k = λ k ne is. absurd (ne (sym (some_same next k is))) in record {
        small = f.small;
        parts = let q = parts-set views id v w at in let r = f.parts in omega arith;
        order = let o = f.order in omega arith;
        held = λ k le lt. dite (ℕ_discrete k next)
            (λ same. (id, (w, set_here views id w (at_bound views id v at), ap (λ (n : ℕ). Some n) (sym same))))
            (λ ne. held-set views id k v w at (λ is. none_some None k refl is) (f.held k le (omega arith)));
        once = λ k i j a b. dite (ℕ_discrete k next)
            (λ same. new_only k i same a ∙ sym (new_only k j same b))
            (λ ne. f.once k i j (held_before views id k v w at (kept k ne) i a) (held_before views id k v w at (kept k ne) j b));
        now = f.now;
        counted = f.counted;
        each = each-set (λ _ u. Fits f.now (next + 1) serving u) views id w
            (λ j u apart e. let g = f.each j u e in record {
              spent = g.spent;
              seen = g.seen;
              told = g.told;
              ticket = λ k is. let t = g.ticket k is in let lt = t.1 in (t.0, omega arith);
              called = g.called;
            })
            record {
              spent = λ empty. absurd (omega arith);
              seen = mine.seen;
              told = (f.now, refl);
              ticket = λ k is. let same : next ≡ k = some_same next k is in let o = f.order in (omega arith, omega arith);
              called = λ is. absurd (true≢false (sym is));
            };
        slot = slot-set f.now homes views id v w at refl refl f.slot;
      }

  -- the state is home when the seat that waits is served
  pub home : (parts next serving count : ℕ) (homes : Homes) (views : List V) (f : Fitting entries parts next serving count homes views) (id p : ℕ) (seen : List E) → get_elem? views id ≡ some (waiting p seen serving)
      → IsHome entries f.now homes views
  home parts next serving count homes views f id p seen at =
      let v = waiting p seen serving in ⊎_elim
      (λ (h : IsHome entries f.now homes views). h)
      (λ (o : IsOut entries homes views).
      let e = only_one parts next serving count homes views f id v at refl o.id o.view o.at o.called in
      absurd (true≢false (sym o.called ∙ ap (λ (u : V). u.called) (same_view views id o.id v o.view at o.at e))))
      f.slot

  -- the seat whose ticket is served takes the state
  pub takes_state : (parts next serving count : ℕ) (homes : Homes) (views : List V) (id p : ℕ) (seen : List E) → 0 < p → get_elem? views id ≡ some (waiting p seen serving)
      → (f : Fitting entries parts next serving count homes views) → (h : IsHome entries f.now homes views)
      → Fitting entries parts next serving count (set homes 0 none) (set views id (called p (entries h.state) serving))
  takes_state parts next serving count homes views id p seen some_part at f h =
      let v = waiting p seen serving in
      let w = called p (entries h.state) serving in
      let mine = f.each id v at in record {
        small = f.small;
        parts = let q = parts-set views id v w at in let r = f.parts in omega arith;
        order = f.order;
        held = λ k le lt. held-set views id k v w at (λ is. is) (f.held k le lt);
        once = once-set views id v w at (λ k is. is) f.once;
        now = f.now;
        counted = f.counted;
        each = each-set (λ _ u. Fits f.now next serving u) views id w (λ j u _ e. f.each j u e)
            record {
              spent = λ empty. absurd (omega arith);
              seen = subst (λ l. IsPrefix l f.now) (sym h.list) (prefix_self f.now);
              told = (f.now, refl);
              ticket = mine.ticket;
              called = λ _. (refl, h.list);
            };
        slot = inr record { out = set_here homes 0 none (at_bound homes 0 (some (Some h.state)) h.home); id = id; view = w; at = set_here views id w (at_bound views id v at); called = refl };
      }

  -- the called seat's list, and with it the list that stands, becomes that of the state that it puts back
  pub counts : (parts next serving count : ℕ) (homes : Homes) (views : List V) (id p : ℕ) (seen : List E) (k : ℕ) (x : S) → 0 < p → get_elem? views id ≡ some (called p seen k) → IsPrefix seen (entries x)
      → Fitting entries parts next serving count homes views → Fitting entries parts next serving (length (entries x)) homes (set views id (called p (entries x) k))
  counts parts next serving count homes views id p seen k x some_part at longer_list f =
      let v = called p seen k in
      let w = called p (entries x) k in
      let mine = f.each id v at in
      let here = mine.called refl in
      let grows : IsPrefix f.now (entries x) = subst (λ l. IsPrefix l (entries x)) here.1 longer_list in record {
        small = f.small;
        parts = let q = parts-set views id v w at in let r = f.parts in omega arith;
        order = f.order;
        held = λ t le lt. held-set views id t v w at (λ is. is) (f.held t le lt);
        once = once-set views id v w at (λ t is. is) f.once;
        now = entries x;
        counted = refl;
        each = each-set (λ _ u. Fits (entries x) next serving u) views id w
            (λ j u apart e. let g = f.each j u e in record {
              spent = g.spent;
              seen = prefix_trans u.seen f.now (entries x) g.seen grows;
              told = prefix_trans u.told f.now (entries x) g.told grows;
              ticket = g.ticket;
              called = λ is. absurd (apart (only_one parts next serving count homes views f id v at here.0 j u e is));
            })
            record { spent = λ empty. absurd (omega arith); seen = prefix_self (entries x); told = (entries x, refl); ticket = mine.ticket; called = λ _. (here.0, refl) };
        slot = ⊎_elim
            (λ (h : IsHome entries f.now homes views). absurd (true≢false (h.nobody id v at)))
            (λ (o : IsOut entries homes views). inr record { out = o.out; id = id; view = w; at = set_here views id w (at_bound views id v at); called = refl })
            f.slot;
      }

  -- the state comes home, and the next ticket is served
  pub passes : (parts next serving count : ℕ) (homes : Homes) (views : List V) (id p : ℕ) (seen : List E) (k : ℕ) (x : S) → 0 < p → get_elem? views id ≡ some (called p seen k) → entries x ≡ seen
      → Fitting entries parts next serving count homes views → Fitting entries parts next (k + 1) count (set homes 0 (some (Some x))) (set views id (outside p seen))
  passes parts next serving count homes views id p seen k x some_part at list f =
      let v = called p seen k in
      let w = outside p seen in
      let mine = f.each id v at in
      let here = mine.called refl in
      let same : k ≡ serving = some_same k serving here.0 in
      let ticket = mine.ticket k refl in
      let alone : (j : ℕ) (u : V) → j ≢ id → get_elem? views j ≡ some u → u.called ≡ true → ⊥ = λ j u apart e is. apart (only_one parts next serving count homes views f id v at here.0 j u e is) in record {
        small = f.small;
        parts = let q = parts-set views id v w at in let r = f.parts in omega arith;
        order = let lt = ticket.1 in omega arith;
        held = λ t le lt. held-set views id t v w at (λ is. let e : k ≡ t = some_same k t is in absurd (omega arith)) (f.held t (omega arith) lt);
        once = once-set views id v w at (λ t is. none_some None t refl is) f.once;
        now = f.now;
        counted = f.counted;
        each = each-set (λ _ u. Fits f.now next (k + 1) u) views id w
            (λ j u apart e. let g = f.each j u e in record {
              spent = g.spent;
              seen = g.seen;
              told = g.told;
              ticket = λ t is.
                  let h = g.ticket t is in
                  let ne : t ≢ k = λ eq. apart (f.once k j id (u, e, is ∙ ap (λ (n : ℕ). Some n) eq) (v, at, refl)) in
                  let ge = h.0 in (omega arith, h.1);
              called = λ is. absurd (alone j u apart e is);
            })
            (fits_outside f.now next (k + 1) p seen some_part mine.seen);
        slot = inl record {
          state = x;
          home = ⊎_elim
              (λ (h : IsHome entries f.now homes views). set_here homes 0 (some (Some x)) (at_bound homes 0 (some (Some h.state)) h.home))
              (λ (o : IsOut entries homes views). set_here homes 0 (some (Some x)) (at_bound homes 0 none o.out))
              f.slot;
          list = list ∙ here.1;
          nobody = each-set (λ j u. u.called ≡ false) views id w (λ j u apart e. not_on u.called (alone j u apart e)) refl;
        };
      }

  -- a seat knows the longer of the lists that it has seen and was told
  pub settles : (parts next serving count : ℕ) (homes : Homes) (views : List V) (id p : ℕ) (seen told : List E) → 0 < p → get_elem? views id ≡ some (seat_view p seen told None false)
      → Fitting entries parts next serving count homes views → Fitting entries parts next serving count homes (set views id (outside p (longer seen told)))
  settles parts next serving count homes views id p seen told some_part at f =
      let v = seat_view p seen told None false in
      let w = outside p (longer seen told) in
      let mine = f.each id v at in record {
        small = f.small;
        parts = let q = parts-set views id v w at in let r = f.parts in omega arith;
        order = f.order;
        held = λ t le lt. held-set views id t v w at (λ is. none_some None t refl is) (f.held t le lt);
        once = once-set views id v w at (λ t is. none_some None t refl is) f.once;
        now = f.now;
        counted = f.counted;
        each = each-set (λ _ u. Fits f.now next serving u) views id w (λ j u _ e. f.each j u e)
            (fits_outside f.now next serving p (longer seen told) some_part (longer_prefix seen told f.now mine.seen mine.told));
        slot = slot-set f.now homes views id v w at refl refl f.slot;
      }

  -- a seat gives parts to a new seat
  pub splits : (parts next serving count : ℕ) (homes : Homes) (views : List V) (id p given : ℕ) (seen : List E) → 0 < given → given < p → get_elem? views id ≡ some (outside p seen)
      → Fitting entries parts next serving count homes views → Fitting entries parts next serving count homes (set views id (outside (p - given) seen) ++ outside given seen ∷ [])
  splits parts next serving count homes views id p given seen some_part rest_part at f =
      let v = outside p seen in
      let w = outside (p - given) seen in
      let new = outside given seen in
      let all' = set views id w in
      let mine = f.each id v at in record {
        small = f.small;
        parts = let q = parts-set views id v w at in let r = f.parts in let t = sum_by_push parts_of all' new in omega arith;
        order = f.order;
        held = λ t le lt. held-snoc all' new t (held-set views id t v w at (λ is. none_some None t refl is) (f.held t le lt));
        once = once-snoc all' new refl (once-set views id v w at (λ t is. none_some None t refl is) f.once);
        now = f.now;
        counted = f.counted;
        each = λ j u e. ⊎_elim
            (λ was. each-set (λ _ x. Fits f.now next serving x) views id w (λ i x _ there. f.each i x there) (fits_outside f.now next serving (p - given) seen (omega arith) mine.seen) j u was)
            (λ (is : new ≡ u). subst (Fits f.now next serving) is (fits_outside f.now next serving given seen some_part mine.seen))
            (at_snoc all' new u j e);
        slot = ⊎_elim
            (λ (h : IsHome entries f.now homes all'). inl record { state = h.state; home = h.home; list = h.list; nobody = λ j u e. ⊎_elim (λ was. h.nobody j u was) (λ (is : new ≡ u). ap (λ (x : V). x.called) (sym is)) (at_snoc all' new u j e) })
            (λ (o : IsOut entries homes all'). inr record { out = o.out; id = o.id; view = o.view; at = at_longer all' (new ∷ []) o.id o.view o.at; called = o.called })
            (slot-set f.now homes views id v w at refl refl f.slot);
      }

  -- a seat takes in another's parts and its list
  pub joins : (parts next serving count : ℕ) (homes : Homes) (views : List V) (id other p q : ℕ) (seen told : List E) → 0 < p → get_elem? views id ≡ some (outside p seen) → other ≢ id
      → get_elem? (set views id (seat_view (p + q) seen told None false)) other ≡ some (outside q told)
      → Fitting entries parts next serving count homes views → Fitting entries parts next serving count homes (set (set views id (seat_view (p + q) seen told None false)) other spent)
  joins parts next serving count homes views id other p q seen told some_part at apart there f =
      let v = outside p seen in
      let w = seat_view (p + q) seen told None false in
      let u = outside q told in
      let mine = f.each id v at in
      let theirs = ⊎_elim (λ (e : (other ≡ id) × (w ≡ u)). absurd (apart e.0)) (λ (e : (other ≢ id) × (get_elem? views other ≡ some u)). f.each other u e.1) (at_set views id other w u there) in
      let no_ticket : (t : ℕ) → None ≡ Some t → None ≡ Some t = λ t is. is in record {
        small = f.small;
        parts = let s1 = parts-set views id v w at in let s2 = parts-set (set views id w) other u spent there in let r = f.parts in omega arith;
        order = f.order;
        held = λ t le lt. held-set (set views id w) other t u spent there (no_ticket t) (held-set views id t v w at (no_ticket t) (f.held t le lt));
        once = once-set (set views id w) other u spent there no_ticket (once-set views id v w at no_ticket f.once);
        now = f.now;
        counted = f.counted;
        each = each-set (λ _ x. Fits f.now next serving x) (set views id w) other spent
            (λ j x _ e. each-set (λ _ y. Fits f.now next serving y) views id w (λ i y _ e'. f.each i y e')
            record { spent = λ empty. absurd (omega arith); seen = mine.seen; told = theirs.seen; ticket = λ t is. none_some None t refl is; called = λ is. absurd (true≢false (sym is)) } j x e)
            record { spent = λ _. refl; seen = (f.now, refl); told = (f.now, refl); ticket = λ t is. none_some None t refl is; called = λ is. absurd (true≢false (sym is)) };
        slot = slot-set f.now homes (set views id w) other u spent there refl refl (slot-set f.now homes views id v w at refl refl f.slot);
      }

  -- where a seat between its turns has all parts, the state is home, and its list begins with what the seat has seen
  pub ends : (parts next serving count : ℕ) (homes : Homes) (views : List V) (id p : ℕ) (seen : List E) → Fitting entries parts next serving count homes views → get_elem? views id ≡ some (outside p seen) → p ≡ parts
      → (x : S) × (get_elem? homes 0 ≡ some (some (Some x))) × IsPrefix seen (entries x)
  ends parts next serving count homes views id p seen f at whole =
      let v = outside p seen in
      let mine = f.each id v at in
      let nobody : (j : ℕ) (u : V) → get_elem? views j ≡ some u → u.called ≡ false = λ j u e. dite (ℕ_discrete j id)
      (λ (same : j ≡ id). ap (λ (x : V). x.called) (same_view views id j v u at e same))
      (λ (ne : j ≢ id). ap (λ (x : V). x.called) ((f.each j u e).spent (others_none views id v at (f.parts ∙ sym whole) j u ne e))) in ⊎_elim
      (λ (h : IsHome entries f.now homes views). (h.state, h.home, subst (λ l. IsPrefix seen l) (sym h.list) mine.seen))
      (λ (o : IsOut entries homes views). absurd (true≢false (sym o.called ∙ nobody o.id o.view o.at)))
      f.slot

  -- a turn begins with nobody in line
  pub starts : (parts count : ℕ) (x : S) → parts < 2 ^ 32 → 0 < parts → count ≡ length (entries x)
      → Fitting entries parts 0 0 count (some (Some x) ∷ []) (outside parts (entries x) ∷ [])
  starts parts count x small some_part is = record {
    small = small;
    parts = let a = sum_by-cons {X = V} parts_of (outside parts (entries x)) [] in omega arith;
    order = omega arith;
    held = λ k le lt. absurd (omega arith);
    once = λ k i j a b. none_some None k refl (only i a.0 a.1 ∙ a.2);
    now = entries x;
    counted = is;
    each = λ i v e. subst (Fits (entries x) 0 0) (is_first i v e) (fits_outside (entries x) 0 0 parts (entries x) some_part (prefix_self (entries x)));
    slot = inl record { state = x; home = refl; list = refl; nobody = λ i v e. ap (λ (u : V). u.called) (sym (is_first i v e)) };
  }
    where
      is_first : (i : ℕ) (v : V) → get_elem? (outside parts (entries x) ∷ []) i ≡ some v → outside parts (entries x) ≡ v
      is_first zero v e = some-injective (outside parts (entries x)) v e
      is_first (suc i) v e = absurd (some-ne-none v (sym e))

      only : (i : ℕ) (v : V) → get_elem? (outside parts (entries x) ∷ []) i ≡ some v → None ≡ v.ticket
      only i v e = ap (λ (u : V). u.ticket) (is_first i v e)
