-- What a statement owes has the form of the log's items, and is little.
use Rattle.std.proofs.Common.{◌≡◌, ℕ, ◌+◌, ◌<◌, ◌≤◌, Bool, true, false, eqb, List, [], ◌∷◌, ◌++◌, length, Option, Some, None, refl, arith}
use Rattle.std.proofs.lemmas.Bool.{cond_both}
use Rattle.spec_log.specs.declared.item.Record.{Record}
use Rattle.spec_log.specs.Log.{greatest_of, left_of}
use Rattle.spec_log.specs.Limits.{passes_limit}
use Rattle.spec_log.specs.Rules.{HaveForm}
use Rattle.spec_file.specs.declared.data.Resource.{Resource}
use Rattle.spec_log.specs.Images.{damaged_page}
use Rattle.spec_script.specs.declared.reply.Reply.{Reply}
use Rattle.spec_script.specs.declared.reply.Reply.TheVariants.{Done, Refused}
use Rattle.spec_plan.specs.declared.plan.Planned.{Planned}
use Rattle.spec_plan.specs.Planned.{planned_size}
use Rattle.spec_plan.specs.Refusals.{is_open, nothing_to_commit, nothing_to_undo, log_full}
use Rattle.spec_run.specs.Shapes.{Refused as Refusing, Opening, Writing, Committing, RollingBack, plain_start, tran_to_write}
use Rattle.spec_run.specs.Begun.{Setting, Becoming, Answers, shape_of, view_at, surely, with_memory, refused, by_word, by_changes, by_taken, by_end, by_damage, by_kind, begun_by}
use Rattle.spec_words.specs.Takes.{takes_at, changes_at}
use Rattle.spec_words.specs.Views.{End, Gives, Stops}
use Rattle.spec_statements.specs.Statements.{TransactionWord, Begins, Commits, RollsBack, StatementKind, Transacts, Plans, Checks, kind_of}
use Rattle.law_net.specs.Plans.{HaveCells}
use Rattle.law_net.specs.GoodViews.{IfGives}
use Rattle.law_statements.specs.Statements.{IsGoodEnd}
use Rattle.law_run.proofs.Legal.{legal_right}
use Rattle.law_run.proofs.Planned.{EndsGood, KindEndsGood, statement_ends_good}
use Rattle.law_run.proofs.Written.{few_changes}
use Rattle.law_net.proofs.PlannedCells.{size_bound}
use Rattle.law_run.specs.Laws.{IsBounded, BegunIsBounded}
use Rattle.law_run.specs.Doing.{change_items, abort_items}
use Rattle.law_run.proofs.Begins.{start_form, plain_form, snap_form, end_form}

-- changes, and maybe a Commit
change_forms : (t : ℕ) (changes : List Planned) (own : Bool) → HaveCells changes → HaveForm (change_items t changes own)
change_forms t [] true cells = (refl, tt)
change_forms t [] false cells = tt
change_forms t (c ∷ cs) own cells = (cells.0, change_forms t cs own cells.1)

change_count : (t : ℕ) (changes : List Planned) (own : Bool) → length (change_items t changes own) ≤ length changes + 1
change_count t [] true = omega arith
change_count t [] false = omega arith
change_count t (c ∷ cs) own = let rest = change_count t cs own in omega (arith, rest)

undo_forms : (t : ℕ) (left : List (ℕ × Record)) → HaveForm (abort_items t left)
undo_forms t [] = (refl, tt)
undo_forms t (q ∷ left) = (refl, undo_forms t left)

undo_count : (t : ℕ) (left : List (ℕ × Record)) → length (abort_items t left) ≡ length left + 1
undo_count t [] = refl
undo_count t (q ∷ left) = let rest = undo_count t left in omega (arith, rest)

-- a statement that is one Start, whatever memory there is
one_bounded : (s i t u number left : ℕ) (reply : Reply) → 0 < s → 0 < i →
    IsBounded (record { items = plain_start s i u number ∷ []; telling = Answers reply; want = Some (plain_start s i t 701) }) left
one_bounded s i t u number left reply hs hi = record {
  forms = (plain_form s i u number hs hi, tt);
  want = plain_form s i t 701 hs hi;
  few = omega arith;
}

surely_bounded : (s i u number left : ℕ) (reply : Reply) (rest : List Record) → 0 < s → 0 < i → HaveForm rest → length rest ≤ 1 + left →
    IsBounded (record { items = plain_start s i u number ∷ rest; telling = Answers reply; want = None }) left
surely_bounded s i u number left reply rest hs hi forms few = record {
  forms = (plain_form s i u number hs hi, forms);
  want = tt;
  few = omega (arith, few);
}

-- whatever becomes of the statement, it owes little
abbrev pub OwesLittle : ℕ → ℕ → ℕ → ℕ → Becoming → Type 0
OwesLittle s i t left b = IsBounded (begun_by s i t b) left

changes_bounded : (g : List Record) (s i t left : ℕ) (reply : Reply) (takes : List Resource) (changes : List Planned) → 0 < s → 0 < i → length takes < 4294967296 → HaveCells changes →
    OwesLittle s i t left (by_changes g t reply takes changes)
changes_bounded g s i t left reply takes changes hs hi few_takes cells =
    let u = tran_to_write g t in
    let own = eqb t 0 in
    let size = size_bound changes cells in
    let count = change_count u changes own in
    cond_both (passes_limit g u (length changes) (planned_size changes)) (refused t log_full) (with_memory (Writing u takes changes own) reply) (OwesLittle s i t left)
    (λ e. one_bounded s i t t 9002 left (Refused log_full) hs hi)
    (λ e.
    let few = few_changes g u (length changes) (planned_size changes) e in record {
      forms = (
        start_form s i u 0 (length changes) (planned_size changes) takes hs hi few (omega (arith, size, few)) few_takes,
        change_forms u changes own cells,
      );
      want = plain_form s i t 701 hs hi;
      few = omega (arith, count, few);
    })

end_bounded : (g : List Record) (s i t left : ℕ) (e : End Reply) → 0 < s → 0 < i → IfGives (λ reply view. IsGoodEnd view) e → OwesLittle s i t left (by_end g t e)
end_bounded g s i t left (Stops refusal) hs hi good = one_bounded s i t t refusal.number left (Refused refusal) hs hi
end_bounded g s i t left (Gives reply view) hs hi good = by_list view.taken
  where
    cells_of : IsGoodEnd view → HaveCells (changes_at view)
    cells_of end = let net = end.net in net.cells

    by_list : (taken : List Resource) → OwesLittle s i t left (by_taken g t reply view taken)
    by_list [] = one_bounded s i t t 0 left reply hs hi
    by_list (r ∷ taken) = changes_bounded g s i t left reply (takes_at view) (changes_at view) hs hi good.few_takes (cells_of good)

damage_bounded : (run : Setting) (log : List Record) (s i t left : ℕ) (damage : Option ℕ) → 0 < s → 0 < i → OwesLittle s i t left (by_damage run log damage)
damage_bounded run log s i t left None hs hi = record { forms = (snap_form s i hs hi, (end_form s i 0 hs hi (omega arith), tt)); want = tt; few = omega arith }
damage_bounded run log s i t left (Some p) hs hi = record { forms = (snap_form s i hs hi, (end_form s i 2 hs hi (omega arith), tt)); want = tt; few = omega arith }

word_bounded : (g : List Record) (s i t : ℕ) (word : TransactionWord) → 0 < s → 0 < i → OwesLittle s i t (length (left_of t g)) (by_word g t word)
word_bounded g s i t Begins hs hi =
    let fresh = greatest_of g + 1 in
    let left = length (left_of t g) in
    cond_both (eqb t 0) (surely (Opening fresh) Done) (surely (Refusing t 60001) (Refused is_open)) (OwesLittle s i t left)
    (λ e. surely_bounded s i fresh 0 left Done [] hs hi tt (omega arith))
    (λ e. surely_bounded s i t 60001 left (Refused is_open) [] hs hi tt (omega arith))
word_bounded g s i t Commits hs hi =
    let left = length (left_of t g) in
    cond_both (eqb t 0) (surely (Refusing t 3902) (Refused nothing_to_commit)) (surely (Committing t) Done) (OwesLittle s i t left)
    (λ e. surely_bounded s i t 3902 left (Refused nothing_to_commit) [] hs hi tt (omega arith))
    (λ e. surely_bounded s i t 0 left Done (change_items t [] true) hs hi (refl, tt) (omega arith))
word_bounded g s i t RollsBack hs hi =
    let changes = left_of t g in
    let count = undo_count t changes in
    cond_both (eqb t 0) (surely (Refusing t 3903) (Refused nothing_to_undo)) (surely (RollingBack t changes) Done) (OwesLittle s i t (length changes))
    (λ e. surely_bounded s i t 3903 (length changes) (Refused nothing_to_undo) [] hs hi tt (omega arith))
    (λ e. surely_bounded s i t 0 (length changes) Done (abort_items t changes) hs hi (undo_forms t changes) (omega (arith, count)))

good_of : (run : Setting) (log : List Record) (t : ℕ) (e : End Reply) → IfGives (EndsGood run log t) e → IfGives (λ reply view. IsGoodEnd view) e
good_of run log t (Gives reply view) h = h.1
good_of run log t (Stops refusal) h = h

kind_bounded : (run : Setting) (log : List Record) (s i t : ℕ) (kind : StatementKind) → 0 < s → 0 < i → KindEndsGood run log t kind →
    OwesLittle s i t (length (left_of t (log ++ run.opened))) (by_kind run log t kind)
kind_bounded run log s i t (Transacts word) hs hi good = word_bounded (log ++ run.opened) s i t word hs hi
kind_bounded run log s i t (Plans plan) hs hi good =
    let e = (plan (view_at run log t)).ending in
    end_bounded (log ++ run.opened) s i t (length (left_of t (log ++ run.opened))) e hs hi (good_of run log t e good)
kind_bounded run log s i t Checks hs hi good = damage_bounded run log s i t (length (left_of t (log ++ run.opened))) (damaged_page run.opened run.image) hs hi

pub begun_is_bounded : BegunIsBounded
begun_is_bounded run log s i t st start legal hs hi proper =
    let right = legal_right run log start legal in
    kind_bounded run log s i t (kind_of (shape_of run) st) hs hi (statement_ends_good run log t st start right.sound right.puts proper)
