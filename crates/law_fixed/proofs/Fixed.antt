-- The same turns with as many turns of each check make the same items.
use Rattle.std.proofs.Common.{◌≡◌, ℕ, ◌+◌, ◌==◌, ◌&&◌, Bool, true, false, List, [], ◌∷◌, Option, Some, None, refl, sym, ap, ◌∙◌, subst, arith}
use Rattle.std.specs.Prelude.{if◌then◌else◌}
use Rattle.std.proofs.lemmas.Bool.{and_from}
use Rattle.spec_file.specs.declared.geometry.Geometry.{Geometry}
use Rattle.spec_log.specs.declared.item.Record.{Record}
use Rattle.spec_log.specs.declared.item.Record.TheVariants.{CheckEnd}
use Rattle.spec_check.specs.declared.report.CheckReport.{CheckReport}
use Rattle.spec_script.specs.declared.reply.Reply.{Reply}
use Rattle.spec_script.specs.declared.reply.Reply.TheVariants.{Report}
use Rattle.spec_run.specs.Entries.{Entry, items_of}
use Rattle.spec_run.specs.Begun.{Setting, Telling, Answers, Reports, Tells}
use Rattle.spec_run.specs.Progress.{is_short, next_of}
use Rattle.spec_run.specs.Turns.{Run, AreTold, told_to}
use Rattle.law_check.proofs.ReportLaw.{one_report}
use Rattle.law_fixed.specs.CheckTurns.{goes_on, check_turns, HaveAsManyTurns}
use Rattle.law_fixed.specs.Laws.{IsNeverShort, IsSameButForMarks, TurnsFixHistory}
use Rattle.law_fixed.proofs.Due.{done_by}
use Rattle.law_fixed.proofs.Steps.{Step, Rested, Put, Went, step, run_never, count_more, none_past, eqb_self, ended}

some_is : {X : Type 0} (x y : X) → Some x ≡ Some y → x ≡ y
some_is x y e = cc

none_some : {X : Type 0} (x : X) (one other : Option X) → one ≡ None → other ≡ Some x → one ≡ other → ⊥
none_some x one other a b same = cc

-- a check can't go on in the one run and end in the other
apart : (run : Setting) (s : ℕ) (turns : List ℕ) (old other new last : List Entry) (made : Run run old (s ∷ turns) new) (also : Run run other (s ∷ turns) last) →
    items_of old ≡ items_of other → IsNeverShort last → HaveAsManyTurns run (s ∷ turns) old new other last made also →
    (index outcome : ℕ) → next_of run s (items_of old) ≡ Some (CheckEnd s index outcome) → ((at i : ℕ) → goes_on at i made.1 ≡ ((s == at) && (index == i))) →
    (x : Record) → next_of run s (items_of other) ≡ Some x → items_of also.0 ≡ x ∷ items_of other → is_short x ≡ false → ((at i : ℕ) → goes_on at i also.1 ≡ false) → ⊥
apart run s turns old other new last made also same long many index outcome next goes x due grown none_short none =
    let next' : next_of run s (items_of other) ≡ Some (CheckEnd s index outcome) = ap (next_of run s) (sym same) ∙ next in
    let x_is : x ≡ CheckEnd s index outcome = some_is x (CheckEnd s index outcome) (sym due ∙ next') in
    let grown' : items_of also.0 ≡ CheckEnd s index outcome ∷ items_of other = grown ∙ ap (λ y. y ∷ items_of other) x_is in
    let told = ap (done_by run s) grown' ∙ ended run s (items_of other) index outcome next' (sym (ap is_short x_is) ∙ none_short) in
    let more = count_more s index run old s turns new made true (goes s index ∙ and_from (s == s) (index == index) (eqb_self s) (eqb_self index)) in
    let less = count_more s index run other s turns last also false (none s index) in
    let past = none_past run s index also.0 turns last also.2 long (omega (arith, told)) in
    let as_many = many s index in
    omega (arith, more, less, past, as_many)

-- what is left is as many again
left_many : (a b x y : ℕ) (c d : Bool) → (if c then 1 else 0) + a ≡ x → (if d then 1 else 0) + b ≡ y → c ≡ d → x ≡ y → a ≡ b
left_many a b x y true true e f g h = omega (arith, e, f, h)
left_many a b x y false false e f g h = omega (arith, e, f, h)
left_many a b x y true false e f g h = absurd (cc)
left_many a b x y false true e f g h = absurd (cc)

rest_many : (run : Setting) (s : ℕ) (turns : List ℕ) (old other new last : List Entry) (made : Run run old (s ∷ turns) new) (also : Run run other (s ∷ turns) last) →
    HaveAsManyTurns run (s ∷ turns) old new other last made also → ((at i : ℕ) → goes_on at i made.1 ≡ goes_on at i also.1) → HaveAsManyTurns run turns made.0 new also.0 last made.2 also.2
rest_many run s turns old other new last made also many alike at i =
    left_many (check_turns at i run made.0 turns new made.2) (check_turns at i run also.0 turns last also.2)
    (check_turns at i run old (s ∷ turns) new made) (check_turns at i run other (s ∷ turns) last also)
    (goes_on at i made.1) (goes_on at i also.1) refl refl (alike at i) (many at i)

index_is : (s index index' outcome outcome' : ℕ) → CheckEnd s index outcome ≡ CheckEnd s index' outcome' → index ≡ index'
index_is s index index' outcome outcome' same = cc

-- one turn in both runs
pub record AreAlike (run : Setting) (s : ℕ) (turns : List ℕ) (old other new last : List Entry) (made : Run run old (s ∷ turns) new) (also : Run run other (s ∷ turns) last) : Type 0 where
  pub items : items_of made.0 ≡ items_of also.0
  pub alike : (at i : ℕ) → goes_on at i made.1 ≡ goes_on at i also.1

alike : (run : Setting) (s : ℕ) (turns : List ℕ) (old other new last : List Entry) (made : Run run old (s ∷ turns) new) (also : Run run other (s ∷ turns) last) →
    items_of old ≡ items_of other → IsNeverShort new → IsNeverShort last → HaveAsManyTurns run (s ∷ turns) old new other last made also →
    Step run s old made.0 made.1 → Step run s other also.0 also.1 → AreAlike run s turns old other new last made also
alike run s turns old other new last made also same long long' many (Rested a b c) (Rested d e f) =
    record { items = b ∙ same ∙ sym e; alike = λ at i. c at i ∙ sym (f at i) }
alike run s turns old other new last made also same long long' many (Rested a b c) (Put x d e f g) =
    absurd (none_some x _ _ a d (ap (next_of run s) same))
alike run s turns old other new last made also same long long' many (Rested a b c) (Went index outcome d e f) =
    absurd (none_some (CheckEnd s index outcome) _ _ a d (ap (next_of run s) same))
alike run s turns old other new last made also same long long' many (Put x a b c d) (Rested e f g) =
    absurd (none_some x _ _ e a (ap (next_of run s) (sym same)))
alike run s turns old other new last made also same long long' many (Put x a b c d) (Put y e f g h) =
    let one : x ≡ y = some_is x y (sym a ∙ ap (next_of run s) same ∙ e) in
    record { items = b ∙ ap (λ z. z ∷ items_of old) one ∙ ap (λ older. y ∷ older) same ∙ sym f; alike = λ at i. d at i ∙ sym (h at i) }
alike run s turns old other new last made also same long long' many (Put x a b c d) (Went index outcome e f g) =
    absurd (apart run s turns other old last new also made (sym same) long (λ at i. sym (many at i)) index outcome e g x a b c d)
alike run s turns old other new last made also same long long' many (Went index outcome a b c) (Rested e f g) =
    absurd (none_some (CheckEnd s index outcome) _ _ e a (ap (next_of run s) (sym same)))
alike run s turns old other new last made also same long long' many (Went index outcome a b c) (Put x d e f g) =
    absurd (apart run s turns old other new last made also same long' many index outcome a c x d e f g)
alike run s turns old other new last made also same long long' many (Went index outcome a b c) (Went index' outcome' d e f) =
    let one : index ≡ index' =
    index_is s index index' outcome outcome' (some_is (CheckEnd s index outcome) (CheckEnd s index' outcome') (sym a ∙ ap (next_of run s) same ∙ d)) in
    record { items = b ∙ same ∙ sym e; alike = λ at i. c at i ∙ ap (λ k. (s == at) && (k == i)) one ∙ sym (f at i) }

same_items : (run : Setting) (turns : List ℕ) (old other new last : List Entry) (made : Run run old turns new) (also : Run run other turns last) →
    items_of old ≡ items_of other → IsNeverShort new → IsNeverShort last → HaveAsManyTurns run turns old new other last made also → items_of new ≡ items_of last
same_items run [] old other new last made also same long long' many = ap items_of made ∙ same ∙ sym (ap items_of also)
same_items run (s ∷ turns) old other new last made also same long long' many =
    let one = step run s old made.0 made.1 (run_never run made.0 turns new made.2 long) in
    let two = step run s other also.0 also.1 (run_never run also.0 turns last also.2 long') in
    let both = alike run s turns old other new last made also same long long' many one two in
    same_items run turns made.0 also.0 new last made.2 also.2 both.items long long' (rest_many run s turns old other new last made also many both.alike)

-- one telling has one reply
one_reply : (g : Geometry) (telling : Telling) (reply other : Reply) → Tells g telling reply → Tells g telling other → reply ≡ other
one_reply g (Answers told) reply other a b = a ∙ sym b
one_reply g (Reports lsn image) reply other a b =
    a.1 ∙ ap (λ (report : CheckReport). Report (record { 0 = lsn }) report) (one_report g image a.0 b.0 a.2 b.2) ∙ sym b.1

cons_same : (x y : Reply) (xs ys : List Reply) → x ≡ y → xs ≡ ys → x ∷ xs ≡ y ∷ ys
cons_same x y xs ys h t = cc

one_list : (g : Geometry) (tellings : List Telling) (replies others : List Reply) → AreTold g tellings replies → AreTold g tellings others → replies ≡ others
one_list g [] [] [] a b = refl
one_list g [] (reply ∷ replies) others a b = absurd a
one_list g [] [] (other ∷ others) a b = absurd b
one_list g (telling ∷ tellings) [] others a b = absurd a
one_list g (telling ∷ tellings) (reply ∷ replies) [] a b = absurd b
one_list g (telling ∷ tellings) (reply ∷ replies) (other ∷ others) a b =
    cons_same reply other replies others (one_reply g telling reply other a.0 b.0) (one_list g tellings replies others a.1 b.1)

told_same : (run : Setting) (first second : List Entry) → items_of first ≡ items_of second → IsSameButForMarks run first second
told_same run first second items = record {
  items = items;
  told = λ s. ap (told_to run s) items;
  replies = λ s replies others a b.
      one_list run.geometry (told_to run s (items_of second)) replies others (subst (λ log. AreTold run.geometry (told_to run s log) replies) items a) b;
}

pub turns_fix_history : TurnsFixHistory
turns_fix_history run turns old first second made also long long' many =
    told_same run first second (same_items run turns old old first second made also refl long long' many)
