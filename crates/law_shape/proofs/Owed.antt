-- A statement's items so far, and those that it still owes.
use Rattle.std.proofs.Common.{◌≡◌, ℕ, zero, suc, ◌+◌, ◌<◌, ◌≤◌, false, List, [], ◌∷◌, ◌++◌, length, slice_get, Some, None, inl, inr, ◌⊎◌, refl, sym, ap, ◌∙◌, subst, append_assoc, append-nil, arith}
use Rattle.spec_log.specs.declared.item.Record.{Record}
use Rattle.spec_log.specs.declared.item.Record.TheVariants.{Snap, CheckEnd}
use Rattle.spec_log.specs.Log.{rest_of}
use Rattle.spec_script.specs.declared.reply.Reply.TheVariants.{Refused}
use Rattle.spec_script.specs.declared.statement.Statement.{Statement}
use Rattle.spec_plan.specs.Refusals.{out_of_memory}
use Rattle.spec_run.specs.Shapes.{Shape, Refused as Refusing, Checking, items_by, FitsRecord}
use Rattle.spec_run.specs.Sessions.{Placed, open_of, AreItems, log_before, Stands, AreStatements, AreFinished}
use Rattle.spec_run.specs.Begun.{Setting, Telling, Answers}
use Rattle.spec_run.specs.Progress.{want_after, is_short, first_of}
use Rattle.law_shape.specs.Answered.{begun_at, IsAnswered, InFull, AtRecord, InCheck, AreAnswered}
use Rattle.law_shape.proofs.Shaped.{AreSure, NoneShort, sure_later, sure_shape, long_later, some_first, first_want}
use Rattle.law_shape.proofs.Begins.{IsShaped, begun_is_shaped}

-- an item and the log before it
abbrev pub put_at : List Record → Record → Placed
put_at log x = record { item = x; before = log }

abbrev pub no_memory : Telling
no_memory = Answers (Refused out_of_memory)

-- statement i of session s, in these words and with its record behind this log, has these items and owes these
pub record Goes (run : Setting) (log : List Record) (s i : ℕ) (st : Statement) (placed : List Placed) (owed : List Record) (telling : Telling) : Type 0 where
  pub items : List Record
  pub are_items : AreItems placed items
  pub owes : (begun_at run log s i st).items ≡ items ++ owed
  pub tells : telling ≡ (begun_at run log s i st).telling

shaped_at : (run : Setting) (log : List Record) (s i : ℕ) (st : Statement) → IsShaped (log ++ run.opened) s i (open_of s log) (begun_at run log s i st)
shaped_at run log s i st = begun_is_shaped run log s i (open_of s log) st

items_more : (placed : List Placed) (items : List Record) (p : Placed) → AreItems placed items → AreItems (placed ++ p ∷ []) (items ++ p.item ∷ [])
items_more [] [] p are = (refl, tt)
items_more [] (x ∷ xs) p are = absurd are
items_more (q ∷ qs) [] p are = absurd are
items_more (q ∷ qs) (x ∷ xs) p are = (are.0, items_more qs xs p are.1)

pub as_long : (placed : List Placed) (items : List Record) → AreItems placed items → length placed ≡ length items
as_long [] [] are = refl
as_long [] (x ∷ xs) are = absurd are
as_long (p ∷ ps) [] are = absurd are
as_long (p ∷ ps) (x ∷ xs) are = let rest = as_long ps xs are.1 in omega (arith, rest)

-- the next item of a statement
pub next_goes : (run : Setting) (first : List Record) (s i : ℕ) (st : Statement) (placed : List Placed) (p : Placed) (rest : List Record) (telling : Telling) →
    Goes run first s i st placed (p.item ∷ rest) telling → Goes run first s i st (placed ++ p ∷ []) rest telling
next_goes run first s i st placed p rest telling g = record {
  items = g.items ++ p.item ∷ [];
  are_items = items_more placed g.items p g.are_items;
  owes = g.owes ∙ sym (append_assoc g.items (p.item ∷ []) rest);
  tells = g.tells;
}

-- a statement that owes nothing more is answered
pub goes_answered : (run : Setting) (first : List Record) (s i : ℕ) (st : Statement) (placed : List Placed) (telling : Telling) → log_before placed ≡ first →
    Goes run first s i st placed [] telling → IsAnswered run s i st placed telling
goes_answered run first s i st placed telling begins g =
    InFull
    (subst (λ l. AreItems placed (begun_at run l s i st).items) (sym begins) (subst (AreItems placed) (sym (append-nil g.items) ∙ sym g.owes) g.are_items))
    (subst (λ l. telling ≡ (begun_at run l s i st).telling) (sym begins) g.tells)

-- what is due isn't for want of memory
pub due_long : (run : Setting) (first : List Record) (s i : ℕ) (st : Statement) (placed : List Placed) (x : Record) (rest : List Record) (telling : Telling) →
    Goes run first s i st placed (x ∷ rest) telling → is_short x ≡ false
due_long run first s i st placed x rest telling g = (long_later g.items (x ∷ rest) (subst NoneShort g.owes (shaped_at run first s i st).long)).0

-- where memory may run out behind an item, that is the Snap of a check, which may end
pub want_answered : (run : Setting) (first : List Record) (s i : ℕ) (st : Statement) (placed : List Placed) (p : Placed) (rest : List Record) (telling : Telling) (z : Record) →
    Goes run first s i st placed (p.item ∷ rest) telling → log_before (placed ++ p ∷ []) ≡ first → want_after p.item ≡ Some z → (log : List Record) →
    IsAnswered run s i st ((placed ++ p ∷ []) ++ put_at log z ∷ []) no_memory
want_answered run first s i st [] p rest telling z g begins want log = by_items g.items g.are_items g.owes
  where
    shaped : IsShaped (first ++ run.opened) s i (open_of s first) (begun_at run first s i st)
    shaped = shaped_at run first s i st

    some_same : (x y : Record) → Some x ≡ Some y → x ≡ y
    some_same x y e = cc

    by_items : (items : List Record) → AreItems [] items → (begun_at run first s i st).items ≡ items ++ p.item ∷ rest → IsAnswered run s i st (p ∷ put_at log z ∷ []) no_memory
    by_items [] are owes =
        let both = first_want s i shaped.shape p.item z (ap first_of (sym shaped.items ∙ owes)) want in
        let snap : Snap s i ≡ p.item = some_same (Snap s i) p.item (ap first_of both) in
        let ends : CheckEnd s i 3 ≡ z = some_same (CheckEnd s i 3) z (ap (λ xs. first_of (rest_of xs)) both) in
        InCheck
        (subst (λ l. first_of (begun_at run l s i st).items ≡ Some (Snap s i)) (sym begins) (ap first_of owes ∙ ap Some (sym snap)))
        (sym snap, (sym ends, tt)) refl
    by_items (y ∷ ys) are owes = absurd are
want_answered run first s i st (q ∷ qs) p rest telling z g begins want log = by_items g.items g.are_items g.owes
  where
    shaped : IsShaped (first ++ run.opened) s i (open_of s first) (begun_at run first s i st)
    shaped = shaped_at run first s i st

    sure : (ys : List Record) → AreSure (ys ++ p.item ∷ rest) → ⊥
    sure ys are = none ((sure_later ys (p.item ∷ rest) are).0)
      where
        none : want_after p.item ≡ None → ⊥
        none e = cc

    by_items : (items : List Record) → AreItems (q ∷ qs) items → (begun_at run first s i st).items ≡ items ++ p.item ∷ rest →
        IsAnswered run s i st (((q ∷ qs) ++ p ∷ []) ++ put_at log z ∷ []) no_memory
    by_items [] are owes = absurd are
    by_items (y ∷ ys) are owes = absurd (sure ys (subst AreSure (ap rest_of (sym shaped.items ∙ owes)) (sure_shape s i shaped.shape)))

some_placed : (s i : ℕ) (shape : Shape) (placed : List Placed) → AreItems placed (items_by s i shape) → 0 < length placed
some_placed s i shape [] are = absurd (none (items_by s i shape) are (some_first s i shape))
  where
    none : (items : List Record) → AreItems [] items → (first_of items ≡ None → ⊥) → ⊥
    none [] a some = some refl
    none (x ∷ xs) a some = a
some_placed s i shape (p ∷ ps) are = omega arith

-- an answered statement stands by its shape
pub answered_stands : (run : Setting) (s i : ℕ) (st : Statement) (placed : List Placed) (told : Telling) → IsAnswered run s i st placed told → Stands run.opened s i placed []
answered_stands run s i st placed told (InFull are tells) =
    let first = log_before placed in
    let shaped = shaped_at run first s i st in
    let are_shape : AreItems placed (items_by s i shaped.shape) = subst (AreItems placed) shaped.items are in
    record {
      shape = shaped.shape;
      all_items = items_by s i shaped.shape;
      are_items = are_shape;
      shows_begun = some_placed s i shaped.shape placed are_shape;
      shows_all = sym (append-nil (items_by s i shaped.shape));
      fits = shaped.fits;
    }
answered_stands run s i st placed told (AtRecord x want are tells) =
    let t = open_of s (log_before placed) in
    let shaped = shaped_at run (log_before placed) s i st in
    let are_shape : AreItems placed (items_by s i (Refusing t 701)) = subst (λ y. AreItems placed (y ∷ [])) (shaped.want x want) are in
    record {
      shape = Refusing t 701;
      all_items = items_by s i (Refusing t 701);
      are_items = are_shape;
      shows_begun = some_placed s i (Refusing t 701) placed are_shape;
      shows_all = refl;
      fits = (refl, omega arith, λ e. omega (arith, e));
    }
answered_stands run s i st placed told (InCheck snaps are tells) = record {
  shape = Checking [] 3;
  all_items = items_by s i (Checking [] 3);
  are_items = are;
  shows_begun = some_placed s i (Checking [] 3) placed are;
  shows_all = refl;
  fits = omega arith;
}

-- so does one that is under way
pub goes_stands : (run : Setting) (first : List Record) (s i : ℕ) (st : Statement) (placed : List Placed) (owed : List Record) (telling : Telling) → log_before placed ≡ first →
    0 < length placed → Goes run first s i st placed owed telling → Stands run.opened s i placed owed
goes_stands run first s i st placed owed telling begins some g =
    let shaped = shaped_at run first s i st in
    record {
      shape = shaped.shape;
      all_items = g.items;
      are_items = g.are_items;
      shows_begun = some;
      shows_all = sym shaped.items ∙ g.owes;
      fits = subst (λ l. FitsRecord (l ++ run.opened) (open_of s l) shaped.shape) (sym begins) shaped.fits;
    }

-- one answered statement more
pub answered_more : (run : Setting) (s i : ℕ) (script : List Statement) (tellings : List Telling) (placed now : List Placed) (st : Statement) (told : Telling) →
    AreAnswered run s i script tellings placed → slice_get script (length tellings) ≡ Some st → IsAnswered run s (i + length tellings) st now told →
    AreAnswered run s i script (tellings ++ told ∷ []) (placed ++ now)
answered_more run s i [] [] placed now st told none there a = absurd (nothing there)
  where
    nothing : None ≡ Some st → ⊥
    nothing e = cc
answered_more run s i (first ∷ script) [] placed now st told none there a = (
  now,
  [],
  ap (λ ps. ps ++ now) none ∙ sym (append-nil now),
  subst (λ x. IsAnswered run s i x now told) (sym (same there)) (subst (λ k. IsAnswered run s k st now told) (omega arith) a),
  refl,
)
  where
    same : Some first ≡ Some st → first ≡ st
    same e = cc
answered_more run s i [] (t ∷ tellings) placed now st told done there a = absurd done
answered_more run s i (first ∷ script) (t ∷ tellings) placed now st told done there a = (
  done.0,
  done.1 ++ now,
  ap (λ ps. ps ++ now) done.2 ∙ append_assoc done.0 done.1 now,
  done.3,
  answered_more run s (i + 1) script tellings done.1 now st told done.4 there (subst (λ k. IsAnswered run s k st now told) (omega arith) a),
)

pub answered_finished : (run : Setting) (s i : ℕ) (script : List Statement) (tellings : List Telling) (placed : List Placed) → AreAnswered run s i script tellings placed →
    AreFinished run.opened s i (length tellings) placed
answered_finished run s i script [] placed done = done
answered_finished run s i [] (t ∷ tellings) placed done = absurd done
answered_finished run s i (st ∷ script) (t ∷ tellings) placed done =
    (done.0, done.1, done.2, answered_stands run s i st done.0 t done.3, answered_finished run s (i + 1) script tellings done.1 done.4)

pub answered_few : (run : Setting) (s i : ℕ) (script : List Statement) (tellings : List Telling) (placed : List Placed) → AreAnswered run s i script tellings placed →
    length tellings ≤ length script
answered_few run s i script [] placed done = omega arith
answered_few run s i [] (t ∷ tellings) placed done = absurd done
answered_few run s i (st ∷ script) (t ∷ tellings) placed done = let few = answered_few run s (i + 1) script tellings done.1 done.4 in omega (arith, few)

-- finished statements, and maybe one that isn't
pub statements_more : (opened : List Record) (s i n : ℕ) (placed now : List Placed) → AreFinished opened s i n placed →
    (now ≡ []) ⊎ ((owed : List Record) × (0 < length owed) × Stands opened s (i + n) now owed) → AreStatements opened s i n (placed ++ now)
statements_more opened s i zero placed now none (inl e) = inl (ap (λ ps. ps ++ now) none ∙ e)
statements_more opened s i zero placed now none (inr st) =
    inr (st.0, st.1, subst (λ ps. Stands opened s i ps st.0) (sym (ap (λ ps. ps ++ now) none)) (subst (λ k. Stands opened s k now st.0) (omega arith) st.2))
statements_more opened s i (suc n) placed now done last =
    (done.0, done.1 ++ now, ap (λ ps. ps ++ now) done.2 ∙ append_assoc done.0 done.1 now, done.3, statements_more opened s (i + 1) n done.1 now done.4 (later last))
  where
    later : (now ≡ []) ⊎ ((owed : List Record) × (0 < length owed) × Stands opened s (i + suc n) now owed) →
        (now ≡ []) ⊎ ((owed : List Record) × (0 < length owed) × Stands opened s (i + 1 + n) now owed)
    later (inl e) = inl e
    later (inr st) = inr (st.0, st.1, subst (λ k. Stands opened s k now st.0) (omega arith) st.2)
