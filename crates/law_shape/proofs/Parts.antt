-- How a session's items split into answered statements and the one that is under way, by its progress.
use Rattle.std.proofs.Common.{◌≡◌, ℕ, ◌+◌, ◌<◌, true, List, [], ◌∷◌, ◌++◌, length, reverse, slice_get, Option, Some, None, inl, inr, refl, sym, ap, ◌∙◌, subst, append_assoc, append-nil, arith}
use Rattle.std.specs.Prelude.{if◌then◌else◌}
use Rattle.std.proofs.lemmas.Bool.{cases_eq, eq-eqb, ne_eqb}
use Rattle.std.proofs.lemmas.List.{reverse-append, length-reverse}
use Rattle.spec_log.specs.declared.item.Record.{Record}
use Rattle.spec_log.specs.Log.{rest_of}
use Rattle.spec_script.specs.declared.statement.Statement.{Statement}
use Rattle.spec_run.specs.Sessions.{Placed, placed_of, open_of, open_after, session_of, log_before}
use Rattle.spec_run.specs.Begun.{Setting, Telling, begun}
use Rattle.spec_run.specs.Progress.{Progress, progress_of, script_of, is_short, first_of, at_work, with_statement, work_of, cut_short, moved_to, moved, MayCome}
use Rattle.spec_run.specs.Turns.{IsLegal}
use Rattle.law_run.specs.Laws.{IsStart}
use Rattle.law_run.proofs.Legal.{next_belongs}
use Rattle.law_run.proofs.Keeps.{progress_other}
use Rattle.law_run.proofs.Moved.{moved_whole, moved_short}
use Rattle.law_run.proofs.Ongoing.{own_tran}
use Rattle.law_shape.specs.Answered.{begun_at, IsAnswered, AtRecord, AreAnswered}
use Rattle.law_shape.proofs.Shaped.{want_short}
use Rattle.law_shape.proofs.Begins.{begun_is_shaped}
use Rattle.law_shape.proofs.Owed.{put_at, no_memory, Goes, next_goes, goes_answered, due_long, want_answered, answered_more}

-- an item for want of memory ends the statement whose record is behind this log, after these items of it
pub record EndsShort (run : Setting) (first : List Record) (s i : ℕ) (st : Statement) (now : List Placed) (z : Record) : Type 0 where
  pub short : is_short z ≡ true
  pub answered : (log : List Record) → log_before (now ++ put_at log z ∷ []) ≡ first → IsAnswered run s i st (now ++ put_at log z ∷ []) no_memory

-- the session is in the middle of its script's next statement
pub record IsWithin (run : Setting) (s : ℕ) (script : List Statement) (now : List Placed) (p : Progress) : Type 0 where
  pub st : Statement
  pub first : List Record
  pub is_next : slice_get script (length p.told) ≡ Some st
  pub begins : log_before now ≡ first
  pub some : 0 < length now
  pub goes : Goes run first s (length p.told + 1) st now p.due p.telling
  pub more : 0 < length p.due
  pub wants : (z : Record) → p.want ≡ Some z → EndsShort run first s (length p.told + 1) st now z

pub data IsAmid (run : Setting) (s : ℕ) (script : List Statement) (now : List Placed) (p : Progress) : Type 0 where
  Between : now ≡ [] → p.due ≡ [] → p.want ≡ None → IsAmid run s script now p
  Within : IsWithin run s script now p → IsAmid run s script now p

-- the session's items are those of the statements of which it was told, and of the one that is under way
pub record Parts (run : Setting) (s : ℕ) (script : List Statement) (placed : List Placed) (p : Progress) : Type 0 where
  pub before : List Placed
  pub now : List Placed
  pub splits : placed ≡ before ++ now
  pub answered : AreAnswered run s 1 script (reverse p.told) before
  pub amid : IsAmid run s script now p

-- what the session works at after this log: its script's next statement, with these items of it
record Works (run : Setting) (s : ℕ) (script : List Statement) (log : List Record) (now : List Placed) (w : Progress) : Type 0 where
  pub st : Statement
  pub first : List Record
  pub is_next : slice_get script (length w.told) ≡ Some st
  pub begins : (x : Record) → log_before (now ++ put_at log x ∷ []) ≡ first
  pub goes : Goes run first s (length w.told + 1) st now w.due w.telling
  pub wants : (z : Record) → w.want ≡ Some z → EndsShort run first s (length w.told + 1) st now z

first_some : (xs : List Record) (x : Record) → first_of xs ≡ Some x → xs ≡ x ∷ rest_of xs
first_some [] x e = absurd (cc)
first_some (y ∷ ys) x e = ap (λ z. z ∷ ys) (same e)
  where
    same : Some y ≡ Some x → y ≡ x
    same h = cc

some_more : (placed : List Placed) (p : Placed) → 0 < length (placed ++ p ∷ [])
some_more [] p = omega arith
some_more (q ∷ qs) p = omega arith

-- the statement ends
ended : (run : Setting) (s : ℕ) (script : List Statement) (before now : List Placed) (st : Statement) (told : List Telling) (telling : Telling) (p : Progress) →
    p.told ≡ telling ∷ told → p.due ≡ [] → p.want ≡ None → AreAnswered run s 1 script (reverse told) before → slice_get script (length told) ≡ Some st →
    IsAnswered run s (length told + 1) st now telling → Parts run s script (before ++ now) p
ended run s script before now st told telling p tells due want answered there a =
    let count = length-reverse told in
    let at_place : length told + 1 ≡ 1 + length (reverse told) = omega (arith, count) in
    record {
      before = before ++ now;
      now = [];
      splits = sym (append-nil (before ++ now));
      answered = subst (λ ts. AreAnswered run s 1 script ts (before ++ now)) (sym (ap reverse tells ∙ reverse-append (telling ∷ []) told))
          (answered_more run s 1 script (reverse told) before now st telling answered (ap (slice_get script) count ∙ there)
          (subst (λ k. IsAnswered run s k st now telling) at_place a));
      amid = Between refl due want;
    }

-- an item that is due ends the statement, or leaves some of its items due
went_on : (run : Setting) (s : ℕ) (script : List Statement) (log : List Record) (before now : List Placed) (w : Progress) (x : Record) (rest : List Record) →
    AreAnswered run s 1 script (reverse w.told) before → (works : Works run s script log now w) → Goes run works.first s (length w.told + 1) works.st now (x ∷ rest) w.telling →
    Parts run s script (before ++ (now ++ put_at log x ∷ [])) (moved_to w x rest)
went_on run s script log before now w x [] answered works goes =
    let i = length w.told + 1 in
    let longer = now ++ put_at log x ∷ [] in
    ended run s script before longer works.st w.told w.telling (moved_to w x []) refl refl refl answered works.is_next
    (goes_answered run works.first s i works.st longer w.telling (works.begins x) (next_goes run works.first s i works.st now (put_at log x) [] w.telling goes))
went_on run s script log before now w x (y ∷ rest) answered works goes =
    let i = length w.told + 1 in
    let longer = now ++ put_at log x ∷ [] in
    record {
      before = before;
      now = longer;
      splits = refl;
      answered = answered;
      amid = Within (record {
        st = works.st;
        first = works.first;
        is_next = works.is_next;
        begins = works.begins x;
        some = some_more now (put_at log x);
        goes = next_goes run works.first s i works.st now (put_at log x) (y ∷ rest) w.telling goes;
        more = omega arith;
        wants = λ z e. record {
          short = want_short x z e;
          answered = λ later begins. want_answered run works.first s i works.st now (put_at log x) (y ∷ rest) w.telling z goes (works.begins x) e later;
        };
      });
    }

cut : (run : Setting) (s : ℕ) (script : List Statement) (log : List Record) (before now : List Placed) (w : Progress) (x : Record) →
    AreAnswered run s 1 script (reverse w.told) before → (works : Works run s script log now w) →
    IsAnswered run s (length w.told + 1) works.st (now ++ put_at log x ∷ []) no_memory → Parts run s script (before ++ (now ++ put_at log x ∷ [])) (cut_short w x)
cut run s script log before now w x answered works a =
    ended run s script before (now ++ put_at log x ∷ []) works.st w.told no_memory (cut_short w x) refl refl refl answered works.is_next a

-- an item of the session moves it on
own_step : (run : Setting) (s : ℕ) (script : List Statement) (log : List Record) (before now : List Placed) (w : Progress) (x : Record) →
    AreAnswered run s 1 script (reverse w.told) before → Works run s script log now w → MayCome w x → Parts run s script (before ++ (now ++ put_at log x ∷ [])) (moved w x)
own_step run s script log before now w x answered works (inl e) =
    let i = length w.told + 1 in
    let longer = now ++ put_at log x ∷ [] in
    let rest = rest_of w.due in
    let due = first_some w.due x e in
    let goes = subst (λ d. Goes run works.first s i works.st now d w.telling) due works.goes in
    subst (Parts run s script (before ++ longer)) (sym (moved_whole w x rest (due_long run works.first s i works.st now x rest w.telling goes) due))
    (went_on run s script log before now w x rest answered works goes)
own_step run s script log before now w x answered works (inr e) =
    let want = works.wants x e in
    subst (Parts run s script (before ++ (now ++ put_at log x ∷ []))) (sym (moved_short w x want.short))
    (cut run s script log before now w x answered works (want.answered log (works.begins x)))

-- the open transaction is the one that its items leave
open_is : (run : Setting) (log : List Record) (s : ℕ) → (progress_of run s log).tran ≡ open_of s log
open_is run [] s = refl
open_is run (x ∷ log) s = elim (cases_eq (session_of log x) s) [
  | inl own ↦
      own_tran run log s x own
      ∙ ap (λ t. open_after t x) (open_is run log s)
      ∙ sym (ap (λ b. if b then open_after (open_of s log) x else open_of s log) (eq-eqb (session_of log x) s own))
  | inr other ↦
      ap (λ (p : Progress). p.tran) (progress_other run log (session_of log x) s x refl other)
      ∙ open_is run log s
      ∙ sym (ap (λ b. if b then open_after (open_of s log) x else open_of s log) (ne_eqb (session_of log x) s other))
]

-- a statement that begins
begins_works : (run : Setting) (s : ℕ) (script : List Statement) (log : List Record) (p : Progress) (st : Statement) → p.tran ≡ open_of s log →
    slice_get script (length p.told) ≡ Some st → Works run s script log [] (with_statement run log s p (Some st))
begins_works run s script log p st same there =
    let i = length p.told + 1 in
    record {
      st = st;
      first = log;
      is_next = there;
      begins = λ x. refl;
      goes = record {
        items = [];
        are_items = tt;
        owes = ap (λ t. (begun run log s i t st).items) (sym same);
        tells = ap (λ t. (begun run log s i t st).telling) same;
      };
      wants = λ z e. wanted z (sym (ap (λ t. (begun run log s i t st).want) same) ∙ e);
    }
  where
    wanted : (z : Record) → (begun_at run log s (length p.told + 1) st).want ≡ Some z → EndsShort run log s (length p.told + 1) st [] z
    wanted z e =
        let t = open_of s log in
        let shaped = begun_is_shaped run log s (length p.told + 1) t st in
        record {
          short = subst (λ x. is_short x ≡ true) (sym (shaped.want z e)) refl;
          answered = λ later begins. AtRecord z (subst (λ l. (begun_at run l s (length p.told + 1) st).want ≡ Some z) (sym begins) e) (refl, tt) refl;
        }

abbrev pub PartsIn : Setting → List Record → ℕ → Type 0
PartsIn run log s = Parts run s (script_of run.scripts s) (placed_of s log) (progress_of run s log)

-- an item that may come moves its session on
own_parts : (run : Setting) (log : List Record) (s : ℕ) (x : Record) → PartsIn run log s → MayCome (work_of run s log) x →
    Parts run s (script_of run.scripts s) (placed_of s log ++ put_at log x ∷ []) (moved (work_of run s log) x)
own_parts run log s x parts may = by_amid parts.amid
  where
    p : Progress
    p = progress_of run s log

    script : List Statement
    script = script_of run.scripts s

    Next : Progress → Type 0
    Next w = Parts run s script (placed_of s log ++ put_at log x ∷ []) (moved w x)

    from_before : (w : Progress) → w.told ≡ p.told → Works run s script log parts.now w → MayCome w x → Next w
    from_before w told works comes =
        subst (λ placed. Parts run s script placed (moved w x))
        (sym (append_assoc parts.before parts.now (put_at log x ∷ [])) ∙ sym (ap (λ ps. ps ++ put_at log x ∷ []) parts.splits))
        (own_step run s script log parts.before parts.now w x (subst (λ ts. AreAnswered run s 1 script (reverse ts) parts.before) (sym told) parts.answered) works comes)

    nothing : None ≡ Some x → ⊥
    nothing h = cc

    by_statement : (o : Option Statement) → slice_get script (length p.told) ≡ o → parts.now ≡ [] → p.due ≡ [] → p.want ≡ None →
        MayCome (with_statement run log s p o) x → Next (with_statement run log s p o)
    by_statement None e now due want (inl comes) = absurd (nothing (sym (ap first_of due) ∙ comes))
    by_statement None e now due want (inr comes) = absurd (nothing (sym want ∙ comes))
    by_statement (Some st) e now due want comes =
        from_before (with_statement run log s p (Some st)) refl
        (subst (λ ps. Works run s script log ps (with_statement run log s p (Some st))) (sym now) (begins_works run s script log p st (open_is run log s) e)) comes

    still : (now : List Placed) (first : List Record) → 0 < length now → log_before now ≡ first → (y : Record) → log_before (now ++ put_at log y ∷ []) ≡ first
    still [] first some begins y = absurd (omega (arith, some))
    still (q ∷ qs) first some begins y = begins

    by_due : (due : List Record) → 0 < length due → Works run s script log parts.now p → MayCome (at_work run log s p due) x → Next (at_work run log s p due)
    by_due [] more works comes = absurd (omega (arith, more))
    by_due (y ∷ due) more works comes = from_before p refl works comes

    by_amid : IsAmid run s script parts.now p → Next (work_of run s log)
    by_amid (Between now due want) =
        subst (λ d. Next (at_work run log s p d)) (sym due)
        (by_statement (slice_get script (length p.told)) refl now due want (subst (λ d. MayCome (at_work run log s p d) x) due may))
    by_amid (Within w) =
        by_due p.due w.more
        (record { st = w.st; first = w.first; is_next = w.is_next; begins = still parts.now w.first w.some w.begins; goes = w.goes; wants = w.wants }) may

-- in a legal history the items of each session split so
pub legal_parts : (run : Setting) (log : List Record) → IsStart run → IsLegal run log → (s : ℕ) → PartsIn run log s
legal_parts run [] start legal s = record { before = []; now = []; splits = refl; answered = refl; amid = Between refl refl refl }
legal_parts run (x ∷ log) start legal s =
    let belongs = next_belongs run log legal.0.0 x start legal.1 legal.0.1.0 legal.0.2 in
    let w = work_of run s log in
    let p = progress_of run s log in
    let script = script_of run.scripts s in
    elim (cases_eq legal.0.0 s) [
      | inl e ↦
          subst (λ b. Parts run s script (placed_of s log ++ (if b then put_at log x ∷ [] else [])) (if b then moved w x else p))
          (sym (eq-eqb (session_of log x) s (belongs ∙ e)))
          (own_parts run log s x (legal_parts run log start legal.1 s) (subst (λ o. MayCome (work_of run o log) x) e legal.0.2))
      | inr differ ↦
          subst (λ b. Parts run s script (placed_of s log ++ (if b then put_at log x ∷ [] else [])) (if b then moved w x else p))
          (sym (ne_eqb (session_of log x) s (λ e. differ (sym belongs ∙ e))))
          (subst (λ placed. Parts run s script placed p) (sym (append-nil (placed_of s log))) (legal_parts run log start legal.1 s))
    ]
