-- Where the end of a check stands among a session's items.
use Rattle.std.proofs.Common.{◌≡◌, ℕ, zero, suc, ◌+◌, ◌<◌, ◌≤◌, Bool, true, false, eqb, ◌&&◌, ◌||◌, List, [], ◌∷◌, ◌++◌, length, Some, inl, inr, refl, sym, ap, ◌∙◌, subst, append-nil, arith}
use Rattle.std.specs.Prelude.{if◌then◌else◌}
use Rattle.std.specs.List.{list_any}
use Rattle.std.proofs.lemmas.Bool.{false≢true, cases_Bool, cases_eq, and_from, and_right, or_left, or_right, eq-eqb, ne_eqb, both_ways}
use Rattle.std.proofs.lemmas.List.Folds.{list_any-append}
use Rattle.spec_log.specs.declared.item.Record.{Record}
use Rattle.spec_log.specs.declared.item.Record.TheVariants.{Snap, Failed, CheckEnd}
use Rattle.spec_log.specs.Log.{rest_of}
use Rattle.spec_plan.specs.declared.plan.Planned.{Planned}
use Rattle.spec_run.specs.Entries.{snaps, ends_check}
use Rattle.spec_run.specs.Shapes.{Shape, Refused, Faulted, Opening, Reading, Writing, Committing, RollingBack, Checking, items_by}
use Rattle.spec_run.specs.Sessions.{Placed, placed_of, session_of, AreItems, AreFinished}
use Rattle.spec_run.specs.Progress.{first_of}
use Rattle.law_run.specs.Doing.{change_items, abort_items}
use Rattle.law_shape.proofs.Shaped.{end_items}
use Rattle.law_shape.proofs.Owed.{put_at}

or_none : (a b : Bool) → a ≡ false → b ≡ false → (a || b) ≡ false
or_none true b ea eb = ea
or_none false b ea eb = eb

no_end_changes : (s i t : ℕ) (changes : List Planned) (own : Bool) → list_any (ends_check s i) (change_items t changes own) ≡ false
no_end_changes s i t [] true = refl
no_end_changes s i t [] false = refl
no_end_changes s i t (c ∷ cs) own = no_end_changes s i t cs own

no_end_undos : (s i t : ℕ) (left : List (ℕ × Record)) → list_any (ends_check s i) (abort_items t left) ≡ false
no_end_undos s i t [] = refl
no_end_undos s i t (q ∷ left) = no_end_undos s i t left

no_end_reads : (s i j : ℕ) (failed : List ℕ) (outcome : ℕ) → (j ≡ i → ⊥) → list_any (ends_check s i) (end_items s j failed outcome) ≡ false
no_end_reads s i j [] outcome differ = or_none (eqb s s && eqb j i) false (and_right (eqb s s) (eqb j i) (ne_eqb j i differ)) refl
no_end_reads s i j (p ∷ failed) outcome differ = no_end_reads s i j failed outcome differ

-- no other statement has the end of this statement's check
pub no_end_other : (s i j : ℕ) (shape : Shape) → (j ≡ i → ⊥) → list_any (ends_check s i) (items_by s j shape) ≡ false
no_end_other s i j (Refused t number) differ = refl
no_end_other s i j (Faulted t page) differ = refl
no_end_other s i j (Opening t) differ = refl
no_end_other s i j (Reading t) differ = refl
no_end_other s i j (Writing t takes changes own) differ = no_end_changes s i t changes own
no_end_other s i j (Committing t) differ = refl
no_end_other s i j (RollingBack t left) differ = no_end_undos s i t left
no_end_other s i j (Checking failed outcome) differ = no_end_reads s i j failed outcome differ

-- the items of a check so far, before its end
pub record IsBefore (s i j : ℕ) (items : List Record) : Type 0 where
  pub same : i ≡ j
  pub begun : list_any (snaps s j) items ≡ true
  pub going : list_any (ends_check s j) items ≡ false

ends_itself : (s i outcome : ℕ) (items rest : List Record) → list_any (ends_check s i) (items ++ CheckEnd s i outcome ∷ rest) ≡ true
ends_itself s i outcome items rest =
    list_any-append (ends_check s i) items (CheckEnd s i outcome ∷ rest)
    ∙ or_right (list_any (ends_check s i) items) (list_any (ends_check s i) (CheckEnd s i outcome ∷ rest))
    (or_left (eqb s s && eqb i i) (list_any (ends_check s i) rest) (and_from (eqb s s) (eqb i i) (eq-eqb s s refl) (eq-eqb i i refl)))

reads_before : (s i j outcome last : ℕ) (failed : List ℕ) (items rest : List Record) → end_items s j failed outcome ≡ items ++ CheckEnd s i last ∷ rest →
    (i ≡ j) × (list_any (ends_check s j) items ≡ false)
reads_before s i j outcome last [] [] rest e = (same (ap first_of e), refl)
  where
    same : Some (CheckEnd s j outcome) ≡ Some (CheckEnd s i last) → i ≡ j
    same h = cc
reads_before s i j outcome last [] (y ∷ ys) rest e = absurd (none ys (ap rest_of e))
  where
    none : (zs : List Record) → [] ≡ zs ++ CheckEnd s i last ∷ rest → ⊥
    none [] h = cc
    none (z ∷ zs) h = cc
reads_before s i j outcome last (p ∷ failed) [] rest e = absurd (differ (ap first_of e))
  where
    differ : Some (Failed s j (record { 0 = p })) ≡ Some (CheckEnd s i last) → ⊥
    differ h = cc
reads_before s i j outcome last (p ∷ failed) (y ∷ ys) rest e =
    let more = reads_before s i j outcome last failed ys rest (ap rest_of e) in
    (more.0, or_none (ends_check s j y) (list_any (ends_check s j) ys) (read (ap first_of e)) more.1)
  where
    read : Some (Failed s j (record { 0 = p })) ≡ Some y → ends_check s j y ≡ false
    read h = by_item (same h)
      where
        same : Some (Failed s j (record { 0 = p })) ≡ Some y → Failed s j (record { 0 = p }) ≡ y
        same k = cc

        by_item : Failed s j (record { 0 = p }) ≡ y → ends_check s j y ≡ false
        by_item k = subst (λ x. ends_check s j x ≡ false) k refl

-- what stands before the end of a check are the items of a check that goes on
pub before_end : (s i j last : ℕ) (shape : Shape) (items rest : List Record) → 0 < length items → items_by s j shape ≡ items ++ CheckEnd s i last ∷ rest → IsBefore s i j items
before_end s i j last shape items rest some e = by_shape shape e
  where
    none : (all : List Record) → list_any (ends_check s i) all ≡ false → all ≡ items ++ CheckEnd s i last ∷ rest → IsBefore s i j items
    none all without h = absurd (both_ways (list_any (ends_check s i) all) without (ap (list_any (ends_check s i)) h ∙ ends_itself s i last items rest))

    snap_first : (failed : List ℕ) (outcome : ℕ) (before : List Record) → 0 < length before → Snap s j ∷ end_items s j failed outcome ≡ before ++ CheckEnd s i last ∷ rest → IsBefore s i j before
    snap_first failed outcome [] begun h = absurd (omega (arith, begun))
    snap_first failed outcome (y ∷ ys) begun h =
        let more = reads_before s i j outcome last failed ys rest (ap rest_of h) in
        let first : Snap s j ≡ y = same (ap first_of h) in
        record {
          same = more.0;
          begun = or_left (snaps s j y) (list_any (snaps s j) ys)
              (subst (λ x. snaps s j x ≡ true) first (and_from (eqb s s) (eqb j j) (eq-eqb s s refl) (eq-eqb j j refl)));
          going = or_none (ends_check s j y) (list_any (ends_check s j) ys) (subst (λ x. ends_check s j x ≡ false) first refl) more.1;
        }
      where
        same : Some (Snap s j) ≡ Some y → Snap s j ≡ y
        same k = cc

    by_shape : (shape : Shape) → items_by s j shape ≡ items ++ CheckEnd s i last ∷ rest → IsBefore s i j items
    by_shape (Refused t number) h = none _ refl h
    by_shape (Faulted t page) h = none _ refl h
    by_shape (Opening t) h = none _ refl h
    by_shape (Reading t) h = none _ refl h
    by_shape (Writing t takes changes own) h = none _ (no_end_changes s i t changes own) h
    by_shape (Committing t) h = none _ refl h
    by_shape (RollingBack t left) h = none _ (no_end_undos s i t left) h
    by_shape (Checking failed outcome) h = snap_first failed outcome items some h

-- a statement's first item ends no check
pub first_no_end : (s i j last : ℕ) (shape : Shape) → first_of (items_by s j shape) ≡ Some (CheckEnd s i last) → ⊥
first_no_end s i j last (Refused t number) e = cc
first_no_end s i j last (Faulted t page) e = cc
first_no_end s i j last (Opening t) e = cc
first_no_end s i j last (Reading t) e = cc
first_no_end s i j last (Writing t takes changes own) e = cc
first_no_end s i j last (Committing t) e = cc
first_no_end s i j last (RollingBack t left) e = cc
first_no_end s i j last (Checking failed outcome) e = cc

-- an item of the log that passes a test of this session's items is one of the session's
abbrev pub any_placed : (Record → Bool) → List Placed → Bool
any_placed test placed = list_any (λ (p : Placed). test p.item) placed

pub any_of_session : (test : Record → Bool) (s : ℕ) (log : List Record) → ((older : List Record) (x : Record) → test x ≡ true → session_of older x ≡ s) →
    list_any test log ≡ any_placed test (placed_of s log)
any_of_session test s [] own = refl
any_of_session test s (x ∷ log) own =
    ap (λ b. test x || b) (any_of_session test s log own)
    ∙ by_session
    ∙ sym (list_any-append (λ (p : Placed). test p.item) (placed_of s log) (if eqb (session_of log x) s then put_at log x ∷ [] else []))
  where
    behind : (a b : Bool) → (a || b) ≡ (b || (a || false))
    behind true true = refl
    behind true false = refl
    behind false true = refl
    behind false false = refl

    without : (a b : Bool) → a ≡ false → (a || b) ≡ (b || false)
    without true b e = absurd (false≢true (sym e))
    without false true e = refl
    without false false e = refl

    older : Bool
    older = any_placed test (placed_of s log)

    by_session : (test x || older) ≡ (older || any_placed test (if eqb (session_of log x) s then put_at log x ∷ [] else []))
    by_session = elim (cases_eq (session_of log x) s) [
      | inl same ↦ behind (test x) older ∙ ap (λ b. older || any_placed test (if b then put_at log x ∷ [] else [])) (sym (eq-eqb (session_of log x) s same))
      | inr other ↦
          without (test x) older (fails other)
          ∙ ap (λ b. older || any_placed test (if b then put_at log x ∷ [] else [])) (sym (ne_eqb (session_of log x) s other))
    ]
      where
        fails : (session_of log x ≡ s → ⊥) → test x ≡ false
        fails other = elim (cases_Bool (test x)) [
          | inl passes ↦ absurd (other (own log x passes))
          | inr fails_it ↦ fails_it
        ]

pub any_items : (test : Record → Bool) (placed : List Placed) (items : List Record) → AreItems placed items → any_placed test placed ≡ list_any test items
any_items test [] [] are = refl
any_items test [] (x ∷ xs) are = absurd are
any_items test (p ∷ ps) [] are = absurd are
any_items test (p ∷ ps) (x ∷ xs) are = ap (λ b. b || any_placed test ps) (ap test are.0) ∙ ap (λ b. test x || b) (any_items test ps xs are.1)

-- no finished statement before this one has the end of its check
pub no_end_finished : (opened : List Record) (s i from n : ℕ) (placed : List Placed) → from + n ≤ i → AreFinished opened s from n placed → any_placed (ends_check s i) placed ≡ false
no_end_finished opened s i from zero placed below none = ap (any_placed (ends_check s i)) none
no_end_finished opened s i from (suc n) placed below done =
    let first = done.0 in
    let rest = done.1 in
    let st = done.3 in
    let earlier : from < i = omega (arith, below) in
    let later : from + 1 + n ≤ i = omega (arith, below) in
    ap (any_placed (ends_check s i)) done.2
    ∙ list_any-append (λ (p : Placed). ends_check s i p.item) first rest
    ∙ or_none (any_placed (ends_check s i) first) (any_placed (ends_check s i) rest)
    (any_items (ends_check s i) first st.all_items st.are_items
    ∙ ap (list_any (ends_check s i)) (sym (append-nil st.all_items) ∙ sym st.shows_all)
    ∙ no_end_other s i from st.shape (λ e. omega (arith, e, earlier)))
    (no_end_finished opened s i (from + 1) n rest later done.4)
