-- What a statement owes at its record are the items of a shape that fits there.
use Rattle.std.proofs.Common.{◌≡◌, ℕ, zero, suc, ◌+◌, ◌<◌, ◌≢◌, false, eqb, List, [], ◌++◌, ◌∷◌, length, Option, Some, None, refl, arith}
use Rattle.std.proofs.lemmas.Bool.{cond_both, eqb-true, eqb-false, ne_eqb}
use Rattle.spec_log.specs.declared.item.Record.{Record}
use Rattle.spec_log.specs.Log.{greatest_of, left_of}
use Rattle.spec_log.specs.Limits.{passes_limit}
use Rattle.spec_log.specs.Images.{damaged_page}
use Rattle.spec_script.specs.declared.reply.Reply.{Reply}
use Rattle.spec_script.specs.declared.reply.Reply.TheVariants.{Done, Refused}
use Rattle.spec_script.specs.declared.statement.Statement.{Statement}
use Rattle.spec_file.specs.declared.data.Resource.{Resource}
use Rattle.spec_plan.specs.declared.plan.Planned.{Planned}
use Rattle.spec_plan.specs.Planned.{planned_size}
use Rattle.spec_plan.specs.Refusals.{is_open, nothing_to_commit, nothing_to_undo, log_full}
use Rattle.spec_words.specs.Takes.{changes_at, takes_at}
use Rattle.spec_words.specs.Views.{View, End, Gives, Stops}
use Rattle.spec_statements.specs.Statements.{TransactionWord, Begins, Commits, RollsBack, StatementKind, Transacts, Plans, Checks, kind_of}
use Rattle.spec_run.specs.Shapes.{Shape, Refused as Refusing, Opening, Reading, Writing, Committing, RollingBack, Checking, plain_start, items_by, tran_to_write, FitsRecord}
use Rattle.spec_run.specs.Begun.{Setting, Begun, Becoming, shape_of, view_at, surely, with_memory, refused, by_word, by_changes, by_taken, by_end, by_damage, by_kind, begun_by, begun}
use Rattle.law_statements.specs.Statements.{IfPlanned}
use Rattle.law_statements.proofs.Endings.{EndsWell, EndsAlways}
use Rattle.law_statements.proofs.StatementEnds.{statement_ends}
use Rattle.law_shape.proofs.Shaped.{NoneShort, long_changes, long_undos}

-- what begins after log g, with open transaction t, owes the items of a shape, none of them for want of memory; for
-- that one Start stands for them
pub record IsShaped (g : List Record) (s i t : ℕ) (b : Begun) : Type 0 where
  pub shape : Shape
  pub items : b.items ≡ items_by s i shape
  pub fits : FitsRecord g t shape
  pub long : NoneShort b.items
  pub want : (z : Record) → b.want ≡ Some z → z ≡ plain_start s i t 701

-- whatever becomes of the statement
abbrev pub BecomesShaped : List Record → ℕ → ℕ → ℕ → Becoming → Type 0
BecomesShaped g s i t b = IsShaped g s i t (begun_by s i t b)

none_wanted : (s i t : ℕ) (z : Record) → None ≡ Some z → z ≡ plain_start s i t 701
none_wanted s i t z e = absurd (cc)

start_wanted : (s i t : ℕ) (z : Record) → Some (plain_start s i t 701) ≡ Some z → z ≡ plain_start s i t 701
start_wanted s i t z e = cc

surely_shaped : (g : List Record) (s i t : ℕ) (shape : Shape) (reply : Reply) → FitsRecord g t shape → NoneShort (items_by s i shape) → BecomesShaped g s i t (surely shape reply)
surely_shaped g s i t shape reply fits long = record { shape = shape; items = refl; fits = fits; long = long; want = none_wanted s i t }

memory_shaped : (g : List Record) (s i t : ℕ) (shape : Shape) (reply : Reply) → FitsRecord g t shape → NoneShort (items_by s i shape) → BecomesShaped g s i t (with_memory shape reply)
memory_shaped g s i t shape reply fits long = record { shape = shape; items = refl; fits = fits; long = long; want = start_wanted s i t }

-- a number that a refusal may have
refuses_with : (t number : ℕ) → 823 < number → (t ≡ t) × (0 < number) × (number ≢ 823)
refuses_with t number above = (refl, omega (arith, above), λ same. omega (arith, above, same))

changes_shaped : (g : List Record) (s i t : ℕ) (reply : Reply) (takes : List Resource) (changes : List Planned) → BecomesShaped g s i t (by_changes g t reply takes changes)
changes_shaped g s i t reply takes changes =
    let u = tran_to_write g t in
    cond_both (passes_limit g u (length changes) (planned_size changes)) (refused t log_full) (with_memory (Writing u takes changes (eqb t 0)) reply) (BecomesShaped g s i t)
    (λ e. memory_shaped g s i t (Refusing t 9002) (Refused log_full) (refuses_with t 9002 (omega arith)) (refl, tt))
    (λ e. memory_shaped g s i t (Writing u takes changes (eqb t 0)) reply (refl, refl) (refl, long_changes u changes (eqb t 0)))

end_shaped : (g : List Record) (s i t : ℕ) (first : View) (end : End Reply) → EndsWell first end → BecomesShaped g s i t (by_end g t end)
end_shaped g s i t first (Stops refusal) numbered =
    memory_shaped g s i t (Refusing t refusal.number) (Refused refusal) (refl, numbered.0, numbered.2) (ne_eqb refusal.number 701 numbered.1, tt)
end_shaped g s i t first (Gives reply view) kept = by_takes view.taken
  where
    by_takes : (taken : List Resource) → BecomesShaped g s i t (by_taken g t reply view taken)
    by_takes [] = memory_shaped g s i t (Reading t) reply refl (refl, tt)
    by_takes (r ∷ taken) = changes_shaped g s i t reply (takes_at view) (changes_at view)

damage_shaped : (run : Setting) (log g : List Record) (s i t : ℕ) (damage : Option ℕ) → BecomesShaped g s i t (by_damage run log damage)
damage_shaped run log g s i t None = record { shape = Checking [] 0; items = refl; fits = omega arith; long = (refl, (refl, tt)); want = none_wanted s i t }
damage_shaped run log g s i t (Some p) = record { shape = Checking [] 2; items = refl; fits = omega arith; long = (refl, (refl, tt)); want = none_wanted s i t }

some_open : (t : ℕ) → eqb t 0 ≡ false → 0 < t
some_open t e = let above = eqb-false t 0 e in positive t above
  where
    positive : (n : ℕ) → (n ≡ 0 → ⊥) → 0 < n
    positive zero n = absurd (n refl)
    positive (suc m) n = omega arith

word_shaped : (g : List Record) (s i t : ℕ) (word : TransactionWord) → BecomesShaped g s i t (by_word g t word)
word_shaped g s i t Begins =
    let fresh = greatest_of g + 1 in
    cond_both (eqb t 0) (surely (Opening fresh) Done) (surely (Refusing t 60001) (Refused is_open)) (BecomesShaped g s i t)
    (λ e. surely_shaped g s i t (Opening fresh) Done (eqb-true t 0 e, refl) (refl, tt))
    (λ e. surely_shaped g s i t (Refusing t 60001) (Refused is_open) (refuses_with t 60001 (omega arith)) (refl, tt))
word_shaped g s i t Commits =
    cond_both (eqb t 0) (surely (Refusing t 3902) (Refused nothing_to_commit)) (surely (Committing t) Done) (BecomesShaped g s i t)
    (λ e. surely_shaped g s i t (Refusing t 3902) (Refused nothing_to_commit) (refuses_with t 3902 (omega arith)) (refl, tt))
    (λ e. surely_shaped g s i t (Committing t) Done (refl, some_open t e) (refl, (refl, tt)))
word_shaped g s i t RollsBack =
    cond_both (eqb t 0) (surely (Refusing t 3903) (Refused nothing_to_undo)) (surely (RollingBack t (left_of t g)) Done) (BecomesShaped g s i t)
    (λ e. surely_shaped g s i t (Refusing t 3903) (Refused nothing_to_undo) (refuses_with t 3903 (omega arith)) (refl, tt))
    (λ e. surely_shaped g s i t (RollingBack t (left_of t g)) Done (refl, some_open t e, refl) (refl, long_undos t (left_of t g)))

kind_shaped : (run : Setting) (log : List Record) (s i t : ℕ) (kind : StatementKind) → IfPlanned EndsAlways kind → BecomesShaped (log ++ run.opened) s i t (by_kind run log t kind)
kind_shaped run log s i t (Transacts word) ends = word_shaped (log ++ run.opened) s i t word
kind_shaped run log s i t (Plans plan) ends = end_shaped (log ++ run.opened) s i t (view_at run log t) (plan (view_at run log t)).ending (ends (view_at run log t))
kind_shaped run log s i t Checks ends = damage_shaped run log (log ++ run.opened) s i t (damaged_page run.opened run.image)

pub begun_is_shaped : (run : Setting) (log : List Record) (s i t : ℕ) (st : Statement) → IsShaped (log ++ run.opened) s i t (begun run log s i t st)
begun_is_shaped run log s i t st = kind_shaped run log s i t (kind_of (shape_of run) st) (statement_ends (shape_of run) st)
