-- What a session may be told of an answered statement is allowed at the statement's record.
use Rattle.std.proofs.Common.{◌≡◌, ℕ, ◌+◌, false, eqb, List, ◌++◌, Option, Some, None, refl, ap, subst}
use Rattle.std.specs.Prelude.{if◌then◌else◌, IsTrue}
use Rattle.std.proofs.lemmas.Bool.{cond_both}
use Rattle.spec_log.specs.declared.item.Record.{Record}
use Rattle.spec_log.specs.declared.item.Record.TheVariants.{Snap}
use Rattle.spec_log.specs.Log.{greatest_of, left_of}
use Rattle.spec_script.specs.declared.reply.Reply.TheVariants.{Done, Refused}
use Rattle.spec_plan.specs.Refusals.{is_open, nothing_to_commit, nothing_to_undo}
use Rattle.spec_statements.specs.Statements.{TransactionWord, Begins, Commits, RollsBack, StatementKind, Transacts, Plans, Checks, kind_of}
use Rattle.spec_run.specs.Shapes.{Refused as Refusing, Opening, Committing, RollingBack, plain_start}
use Rattle.spec_run.specs.Sessions.{open_of, log_before}
use Rattle.spec_run.specs.Begun.{Setting, Becoming, Tells, shape_of, surely, by_word, by_kind, begun_by}
use Rattle.spec_run.specs.Answers.{takes_memory, Answered, Short}
use Rattle.spec_run.specs.Progress.{first_of}
use Rattle.law_shape.specs.Answered.{InFull, AtRecord, InCheck}
use Rattle.law_shape.specs.Laws.{RepliesAreAllowed}

-- neither want of memory nor a check begins with this
abbrev IsOneTurn : Becoming → Type 0
IsOneTurn b = (b.may_want ≡ false) × ((s i : ℕ) → first_of (begun_by s i 0 b).items ≡ Some (Snap s i) → ⊥)

word_is : (log : List Record) (t : ℕ) (word : TransactionWord) → IsOneTurn (by_word log t word)
word_is log t Begins =
    cond_both (eqb t 0) (surely (Opening (greatest_of log + 1)) Done) (surely (Refusing t 60001) (Refused is_open)) IsOneTurn (λ e. (refl, λ s i h. cc)) (λ e. (refl, λ s i h. cc))
word_is log t Commits =
    cond_both (eqb t 0) (surely (Refusing t 3902) (Refused nothing_to_commit)) (surely (Committing t) Done) IsOneTurn (λ e. (refl, λ s i h. cc)) (λ e. (refl, λ s i h. cc))
word_is log t RollsBack =
    cond_both (eqb t 0) (surely (Refusing t 3903) (Refused nothing_to_undo)) (surely (RollingBack t (left_of t log)) Done) IsOneTurn
    (λ e. (refl, λ s i h. cc)) (λ e. (refl, λ s i h. cc))

-- where an item may stand for want of memory, the statement takes memory
wanting : (run : Setting) (log : List Record) (s i t : ℕ) (kind : StatementKind) (x : Record) → (begun_by s i t (by_kind run log t kind)).want ≡ Some x → IsTrue (takes_memory kind)
wanting run log s i t (Transacts word) x e = absurd (none (ap (λ b. if b then Some (plain_start s i t 701) else None) (word_is (log ++ run.opened) t word).0) e)
  where
    none : {wanted : Option Record} → wanted ≡ None → wanted ≡ Some x → ⊥
    none same some = cc
wanting run log s i t (Plans plan) x e = refl
wanting run log s i t Checks x e = refl

-- so does a check
snapping : (run : Setting) (log : List Record) (s i t : ℕ) (kind : StatementKind) → first_of (begun_by s i t (by_kind run log t kind)).items ≡ Some (Snap s i) → IsTrue (takes_memory kind)
snapping run log s i t (Transacts word) e = absurd ((word_is (log ++ run.opened) t word).1 s i e)
snapping run log s i t (Plans plan) e = refl
snapping run log s i t Checks e = refl

pub replies_are_allowed : RepliesAreAllowed
replies_are_allowed run s i st placed told reply (InFull are same) tells = Answered (subst (λ telling. Tells run.geometry telling reply) same tells)
replies_are_allowed run s i st placed told reply (AtRecord x want are same) tells =
    let log = log_before placed in
    Short (wanting run log s i (open_of s log) (kind_of (shape_of run) st) x want) (subst (λ telling. Tells run.geometry telling reply) same tells)
replies_are_allowed run s i st placed told reply (InCheck snaps are same) tells =
    let log = log_before placed in
    Short (snapping run log s i (open_of s log) (kind_of (shape_of run) st) snaps) (subst (λ telling. Tells run.geometry telling reply) same tells)
