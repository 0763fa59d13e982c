-- Over an empty log no check ends without its report but for want of memory.
use Rattle.std.proofs.Common.{◌≡◌, ℕ, ◌+◌, Bool, true, false, ◌||◌, eqb, List, [], ◌∷◌, ◌++◌, length, reverse, Option, Some, None, refl, ap, ◌∙◌, subst, sym}
use Rattle.std.specs.Prelude.{slice_get}
use Rattle.std.specs.List.{list_any}
use Rattle.std.proofs.lemmas.Bool.{cond_both, or_from}
use Rattle.std.proofs.lemmas.List.Folds.{list_any-append}
use Rattle.std.proofs.lemmas.Grind.{reverse_onto}
use Rattle.spec_script.specs.declared.limits.TheConstants.{IS_OPEN, NOTHING_TO_COMMIT, NOTHING_TO_UNDO}
use Rattle.spec_file.specs.declared.geometry.Geometry.{Geometry}
use Rattle.spec_log.specs.declared.item.Record.{Record}
use Rattle.spec_log.specs.Log.{rest_of, greatest_of, left_of}
use Rattle.spec_log.specs.Limits.{passes_limit}
use Rattle.spec_log.specs.Images.{damaged_page}
use Rattle.spec_script.specs.declared.reply.Reply.{Reply}
use Rattle.spec_script.specs.declared.reply.Reply.TheVariants.{Done, Rows, Report, Terminated, Refused}
use Rattle.spec_script.specs.declared.statement.Statement.{Statement}
use Rattle.spec_plan.specs.Planned.{planned_size}
use Rattle.spec_plan.specs.Refusals.{is_open, nothing_to_commit, nothing_to_undo, log_full}
use Rattle.spec_plan.specs.declared.plan.Planned.{Planned}
use Rattle.spec_file.specs.declared.data.Resource.{Resource}
use Rattle.spec_run.specs.Sessions.{session_of}
use Rattle.spec_run.specs.Shapes.{Refused as Refusing, Opening, Writing, Committing, RollingBack, tran_to_write}
use Rattle.spec_words.specs.Takes.{changes_at, takes_at}
use Rattle.spec_words.specs.Views.{View, End, Gives, Stops}
use Rattle.spec_statements.specs.Statements.{TransactionWord, Begins, Commits, RollsBack, StatementKind, Transacts, Plans, Checks, kind_of}
use Rattle.law_statements.specs.Statements.{IfPlanned, IsPlain}
use Rattle.law_statements.proofs.Replies.{statements_reply_plainly}
use Rattle.law_net.specs.GoodViews.{IfGives, Leads}
use Rattle.spec_run.specs.Begun.{Setting, Telling, Answers, Reports, Tells, Becoming, shape_of, view_at, surely, with_memory, refused, by_changes, by_word, by_taken, by_end, by_damage, by_kind, becomes}
use Rattle.spec_run.specs.Progress.{Progress, progress_of, at_work, with_statement, script_of, is_short, cut_short, moved_to, moved}
use Rattle.spec_run.specs.Turns.{AreTold, told_to}
use Rattle.spec_run.specs.Answers.{is_terminated}

-- a session is told so
abbrev pub tells_terminated : Telling → Bool
tells_terminated (Answers reply) = is_terminated reply
tells_terminated (Reports lsn image) = false

abbrev IsSilent : Telling → Type 0
IsSilent telling = tells_terminated telling ≡ false

-- a session was told of no such check, and isn't at the end of its statement
record IsSilentSo (p : Progress) : Type 0 where
  told : list_any tells_terminated p.told ≡ false
  telling : IsSilent p.telling

or_swap : (a b : Bool) → (a || (b || false)) ≡ (b || a)
or_swap true true = refl
or_swap true false = refl
or_swap false true = refl
or_swap false false = refl

pub any_reverse : {A : Type 0} (p : A → Bool) (xs : List A) → list_any p (reverse xs) ≡ list_any p xs
any_reverse p [] = refl
any_reverse p (x ∷ xs) =
    ap (list_any p) (reverse_onto xs x []) ∙ list_any-append p (reverse xs) (x ∷ [])
    ∙ ap (λ b. b || (p x || false)) (any_reverse p xs) ∙ or_swap (list_any p xs) (p x)

-- what becomes of each statement
changes_silent : (log : List Record) (t : ℕ) (reply : Reply) (takes : List Resource) (changes : List Planned) → is_terminated reply ≡ false → IsSilent (by_changes log t reply takes changes).telling
changes_silent log t reply takes changes silent =
    let u = tran_to_write log t in
    cond_both (passes_limit log u (length changes) (planned_size changes)) (refused t log_full) (with_memory (Writing u takes changes (eqb t 0)) reply)
    (λ (b : Becoming). IsSilent b.telling) (λ _. refl) (λ _. silent)

end_silent : (log : List Record) (t : ℕ) (end : End Reply) → IfGives (λ reply view. is_terminated reply ≡ false) end → IsSilent (by_end log t end).telling
end_silent log t (Stops refusal) silent = refl
end_silent log t (Gives reply view) silent = by_takes view.taken
  where
    by_takes : (taken : List Resource) → IsSilent (by_taken log t reply view taken).telling
    by_takes [] = silent
    by_takes (r ∷ taken) = changes_silent log t reply (takes_at view) (changes_at view) silent

-- a planned statement gives no such reply
plain_silent : (reply : Reply) → IsPlain reply → is_terminated reply ≡ false
plain_silent Done plain = refl
plain_silent (Rows count payloads) plain = refl
plain_silent (Report lsn report) plain = refl
plain_silent (Terminated cause) plain = absurd plain
plain_silent (Refused refusal) plain = refl

given_silent : (end : End Reply) → IfGives (λ reply view. IsPlain reply) end → IfGives (λ reply view. is_terminated reply ≡ false) end
given_silent (Gives reply view) plain = plain_silent reply plain
given_silent (Stops refusal) plain = tt

word_silent : (log : List Record) (t : ℕ) (word : TransactionWord) → IsSilent (by_word log t word).telling
word_silent log t Begins =
    cond_both (eqb t 0) (surely (Opening (greatest_of log + 1)) Done) (surely (Refusing t IS_OPEN) (Refused is_open))
    (λ (b : Becoming). IsSilent b.telling) (λ _. refl) (λ _. refl)
word_silent log t Commits =
    cond_both (eqb t 0) (surely (Refusing t NOTHING_TO_COMMIT) (Refused nothing_to_commit)) (surely (Committing t) Done)
    (λ (b : Becoming). IsSilent b.telling) (λ _. refl) (λ _. refl)
word_silent log t RollsBack =
    cond_both (eqb t 0) (surely (Refusing t NOTHING_TO_UNDO) (Refused nothing_to_undo)) (surely (RollingBack t (left_of t log)) Done)
    (λ (b : Becoming). IsSilent b.telling) (λ _. refl) (λ _. refl)

kind_silent : (run : Setting) (log : List Record) (t : ℕ) (kind : StatementKind) → run.opened ≡ [] →
    IfPlanned (λ plan. (view : View) → Leads plan view (λ reply after. IsPlain reply)) kind → IsSilent (by_kind run log t kind).telling
kind_silent run log t (Transacts word) none plain = word_silent (log ++ run.opened) t word
kind_silent run log t (Plans plan) none plain =
    let first = view_at run log t in end_silent (log ++ run.opened) t (plan first).ending (given_silent (plan first).ending (plain first))
kind_silent run log t Checks none plain = subst (λ damage. IsSilent (by_damage run log damage).telling) (sym (ap (λ o. damaged_page o run.image) none)) refl

becomes_silent : (run : Setting) (log : List Record) (t : ℕ) (st : Statement) → run.opened ≡ [] → IsSilent (becomes run log t st).telling
becomes_silent run log t st none = kind_silent run log t (kind_of (shape_of run) st) none (statements_reply_plainly (shape_of run) st)

-- a session goes on
work_silent : (run : Setting) (log : List Record) (s : ℕ) (p : Progress) (due : List Record) → run.opened ≡ [] → IsSilentSo p → IsSilentSo (at_work run log s p due)
work_silent run log s p (x ∷ due) none silent = silent
work_silent run log s p [] none silent = by_statement (slice_get (script_of run.scripts s) (length p.told))
  where
    by_statement : (o : Option Statement) → IsSilentSo (with_statement run log s p o)
    by_statement None = silent
    by_statement (Some st) = record { told = silent.told; telling = becomes_silent run log p.tran st none }

moved_silent : (w : Progress) (x : Record) → IsSilentSo w → IsSilentSo (moved w x)
moved_silent w x silent = cond_both (is_short x) (cut_short w x) (moved_to w x (rest_of w.due)) IsSilentSo
    (λ _. record { told = silent.told; telling = silent.telling }) (λ _. by_rest (rest_of w.due))
  where
    by_rest : (rest : List Record) → IsSilentSo (moved_to w x rest)
    by_rest [] = record { told = or_from (tells_terminated w.telling) (list_any tells_terminated w.told) silent.telling silent.told; telling = silent.telling }
    by_rest (y ∷ rest) = record { told = silent.told; telling = silent.telling }

progress_silent : (run : Setting) (s : ℕ) (log : List Record) → run.opened ≡ [] → IsSilentSo (progress_of run s log)
progress_silent run s [] none = record { told = refl; telling = refl }
progress_silent run s (x ∷ older) none =
    let p = progress_of run s older in
    let before = progress_silent run s older none in
    cond_both (eqb (session_of older x) s) (moved (at_work run older s p p.due) x) p IsSilentSo
    (λ _. moved_silent (at_work run older s p p.due) x (work_silent run older s p p.due none before)) (λ _. before)

-- a reply says what its session is told
reply_silent : (g : Geometry) (told : Telling) (reply : Reply) → Tells g told reply → is_terminated reply ≡ tells_terminated told
reply_silent g (Answers answer) reply is = ap is_terminated is
reply_silent g (Reports lsn image) reply is = ap is_terminated is.1

replies_say : (g : Geometry) (tellings : List Telling) (replies : List Reply) → AreTold g tellings replies →
    list_any is_terminated replies ≡ list_any tells_terminated tellings
replies_say g [] [] are = refl
replies_say g [] (reply ∷ replies) are = absurd are
replies_say g (told ∷ tellings) [] are = absurd are
replies_say g (told ∷ tellings) (reply ∷ replies) are =
    ap (λ b. b || list_any is_terminated replies) (reply_silent g told reply are.0)
    ∙ ap (λ b. tells_terminated told || b) (replies_say g tellings replies are.1)

-- over an empty log no session has such a reply
pub none_terminated : (run : Setting) (s : ℕ) (log : List Record) (replies : List Reply) → run.opened ≡ [] →
    AreTold run.geometry (told_to run s log) replies → list_any is_terminated replies ≡ false
none_terminated run s log replies none are =
    replies_say run.geometry (told_to run s log) replies are
    ∙ any_reverse tells_terminated (progress_of run s log).told ∙ (progress_silent run s log none).told
