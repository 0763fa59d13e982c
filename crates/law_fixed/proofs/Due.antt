-- What a session owes and may want, after any items: a CheckEnd is of its statement and comes last, and what stands for
-- want of memory says so.
use Rattle.std.proofs.Common.{◌≡◌, ℕ, ◌+◌, ◌≤◌, ◌==◌, Bool, true, false, List, [], ◌∷◌, ◌++◌, length, Option, Some, None, refl, sym, ap, ◌∙◌, subst, arith}
use Rattle.std.specs.Prelude.{if◌then◌else◌, map, slice_get}
use Rattle.spec_log.specs.declared.item.Record.{Record}
use Rattle.spec_log.specs.declared.item.Record.TheVariants.{Start, Change, Undo, Commit, Abort, Snap, Failed, CheckEnd}
use Rattle.spec_log.specs.Log.{rest_of}
use Rattle.spec_script.specs.declared.statement.Statement.{Statement}
use Rattle.spec_plan.specs.declared.plan.Planned.{Planned}
use Rattle.spec_run.specs.Shapes.{Shape, Refused, Faulted, Opening, Reading, Writing, Committing, RollingBack, Checking, plain_start, change_item, undo_items, items_by}
use Rattle.spec_run.specs.Sessions.{session_of}
use Rattle.spec_run.specs.Begun.{Setting, becomes}
use Rattle.spec_run.specs.Progress.{Progress, script_of, with_statement, at_work, is_short, want_after, moved_to, cut_short, moved, progress_of, work_of, first_of, next_of}

-- a CheckEnd among these items is the last, and has this place
abbrev pub EndsAt : ℕ → List Record → Type 0
EndsAt i [] = Unit {0}
EndsAt i (CheckEnd session index outcome ∷ rest) = (index ≡ i) × (rest ≡ [])
EndsAt i (other ∷ rest) = EndsAt i rest

ends_rest : (i : ℕ) (due : List Record) → EndsAt i due → EndsAt i (rest_of due)
ends_rest i [] ends = tt
ends_rest i (CheckEnd session index outcome ∷ rest) ends = subst (EndsAt i) (sym ends.1) tt
ends_rest i (other ∷ rest) ends = ends

ends_changes : (i t : ℕ) (changes : List Planned) (rest : List Record) → EndsAt i rest → EndsAt i (map (change_item t) changes ++ rest)
ends_changes i t [] rest ends = ends
ends_changes i t (c ∷ changes) rest ends = ends_changes i t changes rest ends

ends_undos : (i t : ℕ) (left : List (ℕ × Record)) (rest : List Record) → EndsAt i rest → EndsAt i (undo_items t left ++ rest)
ends_undos i t [] rest ends = ends
ends_undos i t (c ∷ left) rest ends = ends_undos i t left rest ends

ends_faults : (i s j : ℕ) (failed : List ℕ) (rest : List Record) → EndsAt i rest → EndsAt i (map (λ (p : ℕ). Failed s j (record { 0 = p })) failed ++ rest)
ends_faults i s j [] rest ends = ends
ends_faults i s j (p ∷ failed) rest ends = ends_faults i s j failed rest ends

ends_commit : (i t : ℕ) (own : Bool) → EndsAt i (if own then Commit (record { 0 = t }) ∷ [] else [])
ends_commit i t true = tt
ends_commit i t false = tt

ends_shape : (s i : ℕ) (shape : Shape) → EndsAt i (items_by s i shape)
ends_shape s i (Refused t number) = tt
ends_shape s i (Faulted t page) = tt
ends_shape s i (Opening t) = tt
ends_shape s i (Reading t) = tt
ends_shape s i (Writing t takes changes own) = ends_changes i t changes (if own then Commit (record { 0 = t }) ∷ [] else []) (ends_commit i t own)
ends_shape s i (Committing t) = tt
ends_shape s i (RollingBack t left) = ends_undos i t left (Abort (record { 0 = t }) ∷ []) tt
ends_shape s i (Checking failed outcome) = ends_faults i s i failed (CheckEnd s i outcome ∷ []) (refl, refl)

-- what is wanted stands for want of memory
abbrev pub WantsShort : Progress → Type 0
WantsShort p = (x : Record) → p.want ≡ Some x → is_short x ≡ true

pub record IsPlain (p : Progress) : Type 0 where
  pub ends : EndsAt (length p.told + 1) p.due
  pub wants : WantsShort p

some_is : {X : Type 0} (x y : X) → Some x ≡ Some y → x ≡ y
some_is x y e = cc

none_wanted : (x : Record) → None ≡ Some x → is_short x ≡ true
none_wanted x e = absurd (cc)

start_wanted : (s i t : ℕ) (b : Bool) (x : Record) → (if b then Some (plain_start s i t 701) else None) ≡ Some x → is_short x ≡ true
start_wanted s i t true x e = ap is_short (sym (some_is (plain_start s i t 701) x e))
start_wanted s i t false x e = none_wanted x e

end_wanted : (y x : Record) → want_after y ≡ Some x → is_short x ≡ true
end_wanted (Snap session index) x e = ap is_short (sym (some_is (CheckEnd session index 3) x e))
end_wanted other x e = none_wanted x e

plain_statement : (run : Setting) (log : List Record) (s : ℕ) (p : Progress) (next : Option Statement) → IsPlain p → IsPlain (with_statement run log s p next)
plain_statement run log s p None plain = plain
plain_statement run log s p (Some statement) plain =
    let b = becomes run log p.tran statement in
    record { ends = ends_shape s (length p.told + 1) b.shape; wants = start_wanted s (length p.told + 1) p.tran b.may_want }

plain_work : (run : Setting) (log : List Record) (s : ℕ) (p : Progress) (due : List Record) → IsPlain p → IsPlain (at_work run log s p due)
plain_work run log s p [] plain = plain_statement run log s p (slice_get (script_of run.scripts s) (length p.told)) plain
plain_work run log s p (x ∷ due) plain = plain

plain_to : (w : Progress) (x : Record) (rest : List Record) → EndsAt (length w.told + 1) rest → IsPlain (moved_to w x rest)
plain_to w x [] ends = record { ends = tt; wants = none_wanted }
plain_to w x (y ∷ rest) ends = record { ends = ends; wants = end_wanted x }

plain_by : (w : Progress) (x : Record) (b : Bool) → IsPlain w → IsPlain (if b then cut_short w x else moved_to w x (rest_of w.due))
plain_by w x true plain = record { ends = tt; wants = none_wanted }
plain_by w x false plain = plain_to w x (rest_of w.due) (ends_rest (length w.told + 1) w.due plain.ends)

plain_own : (run : Setting) (log : List Record) (s : ℕ) (x : Record) (p : Progress) (b : Bool) → IsPlain p → IsPlain (if b then moved (at_work run log s p p.due) x else p)
plain_own run log s x p true plain = plain_by (at_work run log s p p.due) x (is_short x) (plain_work run log s p p.due plain)
plain_own run log s x p false plain = plain

pub is_plain : (run : Setting) (s : ℕ) (log : List Record) → IsPlain (progress_of run s log)
is_plain run s [] = record { ends = tt; wants = none_wanted }
is_plain run s (x ∷ older) = plain_own run older s x (progress_of run s older) (session_of older x == s) (is_plain run s older)

pub works_plain : (run : Setting) (s : ℕ) (log : List Record) → IsPlain (work_of run s log)
works_plain run s log = plain_work run log s (progress_of run s log) (progress_of run s log).due (is_plain run s log)

-- beginning a statement tells nothing
told_statement : (run : Setting) (log : List Record) (s : ℕ) (p : Progress) (next : Option Statement) → (with_statement run log s p next).told ≡ p.told
told_statement run log s p None = refl
told_statement run log s p (Some statement) = refl

told_work : (run : Setting) (log : List Record) (s : ℕ) (p : Progress) (due : List Record) → (at_work run log s p due).told ≡ p.told
told_work run log s p [] = told_statement run log s p (slice_get (script_of run.scripts s) (length p.told))
told_work run log s p (x ∷ due) = refl

pub works_told : (run : Setting) (s : ℕ) (log : List Record) → (work_of run s log).told ≡ (progress_of run s log).told
works_told run s log = told_work run log s (progress_of run s log) (progress_of run s log).due

-- how many statements of the session have been told of
abbrev pub done_by : Setting → ℕ → List Record → ℕ
done_by run s log = length (progress_of run s log).told

more_to : (w : Progress) (x : Record) (rest : List Record) → length w.told ≤ length (moved_to w x rest).told
more_to w x [] = omega arith
more_to w x (y ∷ rest) = omega arith

more_by : (w : Progress) (x : Record) (b : Bool) → length w.told ≤ length (if b then cut_short w x else moved_to w x (rest_of w.due)).told
more_by w x true = omega arith
more_by w x false = more_to w x (rest_of w.due)

more_own : (run : Setting) (log : List Record) (s : ℕ) (x : Record) (p : Progress) (b : Bool) → length p.told ≤ length (if b then moved (at_work run log s p p.due) x else p).told
more_own run log s x p true =
    let same = ap length (told_work run log s p p.due) in
    let more = more_by (at_work run log s p p.due) x (is_short x) in
    omega (arith, same, more)
more_own run log s x p false = omega arith

-- an item more takes back nothing that was told
pub more_done : (run : Setting) (s : ℕ) (x : Record) (older : List Record) → done_by run s older ≤ done_by run s (x ∷ older)
more_done run s x older = more_own run older s x (progress_of run s older) (session_of older x == s)

end_is : (i s index outcome : ℕ) (due : List Record) → EndsAt i due → first_of due ≡ Some (CheckEnd s index outcome) → (index ≡ i) × (rest_of due ≡ [])
end_is i s index outcome [] ends first = absurd (cc)
end_is i s index outcome (CheckEnd session index' outcome' ∷ rest) ends first = (cc, ends.1)
end_is i s index outcome (Start session index' tran number changes size takes ∷ rest) ends first = absurd (cc)
end_is i s index outcome (Change tran cell before after ∷ rest) ends first = absurd (cc)
end_is i s index outcome (Undo tran change ∷ rest) ends first = absurd (cc)
end_is i s index outcome (Commit tran ∷ rest) ends first = absurd (cc)
end_is i s index outcome (Abort tran ∷ rest) ends first = absurd (cc)
end_is i s index outcome (Snap session index' ∷ rest) ends first = absurd (cc)
end_is i s index outcome (Failed session index' page ∷ rest) ends first = absurd (cc)

-- a CheckEnd that comes next ends the session's next statement
pub end_place : (run : Setting) (s : ℕ) (log : List Record) (index outcome : ℕ) → next_of run s log ≡ Some (CheckEnd s index outcome) →
    (index ≡ done_by run s log + 1) × (rest_of (work_of run s log).due ≡ [])
end_place run s log index outcome next =
    let w = work_of run s log in
    let e = end_is (length w.told + 1) s index outcome w.due (works_plain run s log).ends next in
    (e.0 ∙ ap (λ (told : List _). length told + 1) (works_told run s log), e.1)
