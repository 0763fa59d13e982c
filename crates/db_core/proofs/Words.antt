-- The record of a statement that needs no plan keeps what the core knows.
use Rattle.std.proofs.Common.{◌≡◌, ℕ, zero, suc, ◌+◌, ◌<◌, true, false, eqb, not, List, [], ◌∷◌, ◌++◌, length, ◌⊎◌, inl, inr, refl, sym, ap, ◌∙◌, subst, arith, append-nil}
use Rattle.std.specs.Prelude.{if◌then◌else◌}
use Rattle.std.proofs.lemmas.Bool.{eq-eqb, ne_eqb, lt-ltb, or_left}
use Rattle.spec_file.specs.Image.{Image}
use Rattle.spec_log.specs.declared.item.Record.{Record}
use Rattle.spec_log.specs.Log.{has_started, is_unfinished, greatest_of, left_of}
use Rattle.law_undo.proofs.Holders.{unfinished_from}
use Rattle.law_run.proofs.Fresh.{not_ended_above}
use Rattle.law_undo.proofs.Views.{sound_rules}
use Rattle.spec_script.specs.declared.reply.Reply.TheVariants.{Done, Refused}
use Rattle.spec_script.specs.declared.statement.Statement.{Statement}
use Rattle.spec_script.specs.Refusals.{plain_refusal}
use Rattle.spec_run.specs.Shapes.{plain_start, Opening, Refused as Refusing, Committing, RollingBack}
use Rattle.spec_run.specs.Begun.{Setting, Begun, Becoming, surely, begun_by, begun}
use Rattle.spec_run.specs.Progress.{Progress, progress_of}
use Rattle.spec_run.specs.Turns.{IsLegal}
use Rattle.law_run.specs.Laws.{IsStart}
use Rattle.law_run.specs.Doing.{change_items, abort_items}
use Rattle.law_run.proofs.Legal.{legal_right, doing_opens}
use Rattle.db_core.specs.declared.session.Doing.TheVariants.{Ending, Undoing}
use Rattle.db_core.specs.declared.session.Session.{Session}
use Rattle.db_core.specs.declared.starts.StatementNo.{StatementNo}
use Rattle.db_core.specs.declared.starts.Word.{Word}
use Rattle.db_core.specs.declared.starts.Word.TheVariants.{Begin, Commit, Rollback}
use Rattle.db_core.specs.States.{whole_log, IsAt, IsOpen, IsSession, Keeps}
use Rattle.db_core.specs.Words.{statement_of, IsRefusal, IsOpening, IsGoing, StartsBy}
use Rattle.db_core.proofs.Keeps.{steps_of}
use Rattle.db_core.proofs.Next.{some_abort}
use Rattle.db_core.proofs.Opens.{open_start, open_fresh}
use Rattle.db_core.proofs.Records.{IsBegun, begun_comes, begun_ends, begun_goes}
use Rattle.db_core.proofs.Stepped.{IsStepped, some_commit}

-- a Start without changes of the session's open transaction
pub kept_opens : (run : Setting) (log : List Record) (s number : ℕ) (place : StatementNo) (old new : Session) → IsStart run → IsLegal run log → IsSession run log s old → Keeps old new → new.left.items ≡ old.left.items →
    (new.tran ≡ 0) ⊎ IsOpen (plain_start place.session place.index old.tran number ∷ whole_log run log) new.tran new.left.items new.held.items new.used
kept_opens run log s number place old new start legal mine kept left =
    let g = whole_log run log in
    let x = plain_start place.session place.index old.tran number in
    let right = legal_right run log start legal in
    elim mine.opens [
      | inl none ↦ inl (kept.tran ∙ none)
      | inr o ↦ elim (doing_opens run log s (progress_of run s log) (right.doing s)) [
        | inl none ↦ inl (kept.tran ∙ sym mine.tran_is ∙ none)
        | inr owns ↦
            let unfinished : is_unfinished g old.tran ≡ true = subst (λ t. is_unfinished g t ≡ true) mine.tran_is owns.unfinished in
            let more = open_start g old.tran place.session place.index number 0 0 [] old.left.items old.held.items old.used unfinished o in
            let used : old.used + 0 ≡ new.used = let e = kept.used in omega (arith, e) in
            inr (subst (λ t. IsOpen (x ∷ g) t new.left.items new.held.items new.used) (sym kept.tran)
            (subst (λ l. IsOpen (x ∷ g) old.tran l new.held.items new.used) (sym left)
            (subst (λ h. IsOpen (x ∷ g) old.tran old.left.items h new.used) (append-nil old.held.items ∙ sym kept.held)
            (subst (IsOpen (x ∷ g) old.tran old.left.items (old.held.items ++ [])) used more))))
      ]
    ]

-- a refusal
refusal_step : (run : Setting) (log : List Record) (s number : ℕ) (place : StatementNo) (old new : Session) (st : Statement) (b : Begun) (pages : Image) (x : Record) → IsBegun run log s old st b →
    place.session ≡ s → place.index ≡ length old.replies.items + 1 → eqb number 701 ≡ false →
    b ≡ begun_by s (length old.replies.items + 1) old.tran (surely (Refusing old.tran number) (Refused (plain_refusal number))) → IsRefusal place number old new x → IsStepped run log s new pages pages x
refusal_step run log s number place old new st b pages x h ps pi whole is_b r =
    let y = plain_start s (length old.replies.items + 1) old.tran number in
    let item : x ≡ y = r.item ∙ ap (λ m. plain_start m place.index old.tran number) ps ∙ ap (λ m. plain_start s m old.tran number) pi in
    let items : b.items ≡ y ∷ [] = ap (λ (c : Begun). c.items) is_b in
    let opens = subst (λ m. (new.tran ≡ 0) ⊎ IsOpen (m ∷ whole_log run log) new.tran new.left.items new.held.items new.used) (sym r.item ∙ item)
    (kept_opens run log s number place old new h.start h.legal h.mine r.kept r.left) in
    subst (IsStepped run log s new pages pages) (sym item) (record {
      comes = begun_comes run log s old st b y [] h items;
      mine = begun_ends run log s old new st b y (Refused (plain_refusal number)) h items whole (ap (λ (c : Begun). c.telling) is_b) r.kept.script r.replies r.kept.tran r.doing opens;
      pages_are = refl;
      all_same = omega arith;
      size_same = omega arith;
    })

-- COMMIT and ROLLBACK of an open transaction
going_step : (run : Setting) (log : List Record) (s : ℕ) (place : StatementNo) (old new : Session) (st : Statement) (b : Begun) (rest : List Record) (pages : Image) (x : Record) (d : _) → IsBegun run log s old st b →
    place.session ≡ s → place.index ≡ length old.replies.items + 1 → b.items ≡ plain_start s (length old.replies.items + 1) old.tran 0 ∷ rest → (rest ≡ [] → ⊥) → IsGoing place d old new x →
    ((p : Progress) → p.due ≡ rest → p.telling ≡ b.telling → IsAt run (plain_start s (length old.replies.items + 1) old.tran 0 ∷ log) s (length old.replies.items + 1) old.tran p d) →
    IsStepped run log s new pages pages x
going_step run log s place old new st b rest pages x d h ps pi items some r at =
    let y = plain_start s (length old.replies.items + 1) old.tran 0 in
    let item : x ≡ y = r.item ∙ ap (λ m. plain_start m place.index old.tran 0) ps ∙ ap (λ m. plain_start s m old.tran 0) pi in
    let opens = subst (λ m. (new.tran ≡ 0) ⊎ IsOpen (m ∷ whole_log run log) new.tran new.left.items new.held.items new.used) (sym r.item ∙ item)
    (kept_opens run log s 0 place old new h.start h.legal h.mine r.kept r.left) in
    subst (IsStepped run log s new pages pages) (sym item) (record {
      comes = begun_comes run log s old st b y rest h items;
      mine = begun_goes run log s old new st b y rest h items some refl r.kept.script r.replies r.kept.tran
          (λ p due tell. subst (IsAt run (y ∷ log) s (length old.replies.items + 1) new.tran p) (sym r.doing)
          (subst (λ t. IsAt run (y ∷ log) s (length old.replies.items + 1) t p d) (sym r.kept.tran) (at p due tell))) opens;
      pages_are = refl;
      all_same = omega arith;
      size_same = omega arith;
    })

-- the new transaction of BEGIN
opening_step : (run : Setting) (log : List Record) (s last : ℕ) (place : StatementNo) (old new : Session) (st : Statement) (b : Begun) (pages : Image) (x : Record) → IsBegun run log s old st b →
    place.session ≡ s → place.index ≡ length old.replies.items + 1 → last ≡ greatest_of (whole_log run log) →
    b ≡ begun_by s (length old.replies.items + 1) old.tran (surely (Opening (greatest_of (whole_log run log) + 1)) Done) → IsOpening place (last + 1) old new x → IsStepped run log s new pages pages x
opening_step run log s last place old new st b pages x h ps pi last_is is_b r =
    let g = whole_log run log in
    let u = greatest_of g + 1 in
    let y = plain_start s (length old.replies.items + 1) u 0 in
    let item : x ≡ y = r.item ∙ ap (λ m. plain_start m place.index (last + 1) 0) ps ∙ ap (λ m. plain_start s m (last + 1) 0) pi ∙ ap (λ m. plain_start s (length old.replies.items + 1) (m + 1) 0) last_is in
    let tran : new.tran ≡ u = r.tran_is ∙ ap (λ m. m + 1) last_is in
    let items : b.items ≡ y ∷ [] = ap (λ (c : Begun). c.items) is_b in
    let comes = begun_comes run log s old st b y [] h items in
    let right = legal_right run log h.start h.legal in
    let rules = sound_rules run.geometry (length run.image) run.opened run.image log right.sound in
    let step = steps_of run log s y h.start h.legal h.above comes in
    let unfinished : is_unfinished (y ∷ g) u ≡ true = fresh_unfinished g s (length old.replies.items + 1) in
    let fresh = open_fresh run.geometry (length run.image) g u s (length old.replies.items + 1) 0 0 0 [] rules (omega arith) unfinished in
    subst (IsStepped run log s new pages pages) (sym item) (record {
      comes = comes;
      mine = begun_ends run log s old new st b y Done h items refl (ap (λ (c : Begun). c.telling) is_b) r.script r.replies tran r.doing
          (inr (subst (λ t. IsOpen (y ∷ g) t new.left.items new.held.items new.used) (sym tran)
          (subst (λ l. IsOpen (y ∷ g) u l new.held.items new.used) (sym r.left)
          (subst (λ t. IsOpen (y ∷ g) u [] t new.used) (sym r.held) (subst (IsOpen (y ∷ g) u [] []) (sym r.used) fresh)))));
      pages_are = refl;
      all_same = omega arith;
      size_same = omega arith;
    })
  where
    fresh_unfinished : (g : List Record) (s i : ℕ) → is_unfinished (plain_start s i (greatest_of g + 1) 0 ∷ g) (greatest_of g + 1) ≡ true
    fresh_unfinished g s i =
        let above : greatest_of g < greatest_of g + 1 = omega arith in
        unfinished_from (plain_start s i (greatest_of g + 1) 0 ∷ g) (greatest_of g + 1) (record {
          above = lt-ltb 0 (greatest_of g + 1) (omega arith);
          started = or_left (eqb (greatest_of g + 1) (greatest_of g + 1)) (has_started g (greatest_of g + 1)) (eq-eqb (greatest_of g + 1) (greatest_of g + 1) refl);
          not_ended = ap not (not_ended_above g (greatest_of g + 1) above);
        })

choose_yes : (s i t : ℕ) (x y : Becoming) → t ≡ 0 → begun_by s i t (if eqb t 0 then x else y) ≡ begun_by s i t x
choose_yes s i t x y e = ap (λ c. begun_by s i t (if c then x else y)) (eq-eqb t 0 e)

choose_no : (s i t : ℕ) (x y : Becoming) → (t ≡ 0 → ⊥) → begun_by s i t (if eqb t 0 then x else y) ≡ begun_by s i t y
choose_no s i t x y n = ap (λ c. begun_by s i t (if c then x else y)) (ne_eqb t 0 n)

-- whatever the statement is
pub word_step : (run : Setting) (log : List Record) (s last : ℕ) (place : StatementNo) (old new : Session) (word : Word) (pages : Image) (x : Record) →
    IsBegun run log s old (statement_of word) (begun run log s (length old.replies.items + 1) old.tran (statement_of word)) →
    place.session ≡ s → place.index ≡ length old.replies.items + 1 → last ≡ greatest_of (whole_log run log) → StartsBy word last place old new x → IsStepped run log s new pages pages x
word_step run log s last place old new Begin pages x h ps pi last_is (inl r) =
    opening_step run log s last place old new (statement_of Begin) _ pages x h ps pi last_is (choose_yes s (length old.replies.items + 1) old.tran _ _ r.0) r.1
word_step run log s last place old new Begin pages x h ps pi last_is (inr r) =
    refusal_step run log s 60001 place old new (statement_of Begin) _ pages x h ps pi refl (choose_no s (length old.replies.items + 1) old.tran _ _ r.0) r.1
word_step run log s last place old new Commit pages x h ps pi last_is (inl r) =
    refusal_step run log s 3902 place old new (statement_of Commit) _ pages x h ps pi refl (choose_yes s (length old.replies.items + 1) old.tran _ _ r.0) r.1
word_step run log s last place old new Commit pages x h ps pi last_is (inr r) =
    let is_b = choose_no s (length old.replies.items + 1) old.tran (surely (Refusing old.tran 3902) (Refused (plain_refusal 3902))) (surely (Committing old.tran) Done) r.0 in
    going_step run log s place old new (statement_of Commit) _ (change_items old.tran [] true) pages x (Ending Done) h ps pi (ap (λ (c : Begun). c.items) is_b) (some_commit old.tran) r.1
    (λ p due tell. (due, tell ∙ ap (λ (c : Begun). c.telling) is_b))
word_step run log s last place old new Rollback pages x h ps pi last_is (inl r) =
    refusal_step run log s 3903 place old new (statement_of Rollback) _ pages x h ps pi refl (choose_yes s (length old.replies.items + 1) old.tran _ _ r.0) r.1
word_step run log s last place old new Rollback pages x h ps pi last_is (inr r) =
    let left = left_of old.tran (whole_log run log) in
    let is_b = choose_no s (length old.replies.items + 1) old.tran (surely (Refusing old.tran 3903) (Refused (plain_refusal 3903))) (surely (RollingBack old.tran left) Done) r.0 in
    going_step run log s place old new (statement_of Rollback) _ (abort_items old.tran left) pages x Undoing h ps pi (ap (λ (c : Begun). c.items) is_b) (some_abort old.tran left) r.1
    (λ p due tell. (due, tell ∙ ap (λ (c : Begun). c.telling) is_b, above_zero old.tran r.0))
  where
    above_zero : (t : ℕ) → (t ≡ 0 → ⊥) → 0 < t
    above_zero zero n = absurd (n refl)
    above_zero (suc m) n = omega arith
