-- Which of told sources is the first that is wrong.
use Rattle.std.proofs.Common.{◌≡◌, ℕ, zero, suc, ◌-◌, ◌<◌, List, [], ◌∷◌, length, take, drop, Option, Some, None, IfSome, refl, sym, subst, arith, ⊎_elim}
use Rattle.std.proofs.lemmas.Bool.{cases_order}
use Rattle.std.proofs.lemmas.List.{take_all}
use Rattle.spec_script.specs.declared.statement.Statement.{Statement}
use Rattle.spec_script.specs.declared.stop.ScriptWhy.{ScriptWhy}
use Rattle.spec_script.specs.Lines.{IsStatementLine, IsTurnsLine}
use Rattle.spec_script.specs.Texts.{IsScript, IsText, IsWrongAt}
use Rattle.sql_script.proofs.OneReading.{never_both, one_fault}
use Rattle.spec_start.specs.Sources.{AreKnown, AreScripts, AreTexts, HasFailedSource, IsFirstOf, IsFirstWrong, OneRose, left_at}

-- the same line is named, for the same reason
abbrev pub IsSameFault : ℕ → ℕ → ScriptWhy → ScriptWhy → Type 0
IsSameFault line other why because = (line ≡ other) × (why ≡ because)

known_at : (lefts : List (Option (List ℕ))) (k : ℕ) → AreKnown lefts → k < length lefts → (bytes : List ℕ) × (left_at lefts k ≡ Some bytes)
known_at [] k known below = absurd (omega (arith, below))
known_at (None ∷ lefts) k known below = absurd known
known_at (Some bytes ∷ lefts) zero known below = (bytes, refl)
known_at (Some bytes ∷ lefts) (suc k) known below = known_at lefts k known (omega (arith, below))

known_behind : (lefts : List (Option (List ℕ))) → AreKnown lefts → AreKnown (drop 1 lefts)
known_behind [] known = tt
known_behind (None ∷ lefts) known = absurd known
known_behind (Some bytes ∷ lefts) known = known

-- what is said of a told source
said_of : (P : List ℕ → Type 0) (left : Option (List ℕ)) (bytes : List ℕ) → left ≡ Some bytes → IfSome left P → P bytes
said_of P left bytes is said = subst (λ o. IfSome o P) is said

-- a source that is told is a text and has a wrong line never both
no_both : {X : Type 0} (IsLine : List ℕ → X → Type 0) (lefts : List (Option (List ℕ))) (k line : ℕ) (values : List X) (why : ScriptWhy) → AreKnown lefts → k < length lefts
    → IfSome (left_at lefts k) (λ bytes. IsText IsLine bytes values) → IfSome (left_at lefts k) (λ bytes. IsWrongAt IsLine bytes line why) → ⊥
no_both IsLine lefts k line values why known below text wrong =
    let there = known_at lefts k known below in
    never_both IsLine there.0 values line why
    (said_of (λ bytes. IsText IsLine bytes values) (left_at lefts k) there.0 there.1 text)
    (said_of (λ bytes. IsWrongAt IsLine bytes line why) (left_at lefts k) there.0 there.1 wrong)

-- it has one first wrong line
one_at : {X : Type 0} (IsLine : List ℕ → X → Type 0) (lefts : List (Option (List ℕ))) (k line other : ℕ) (why because : ScriptWhy) → AreKnown lefts → k < length lefts
    → IfSome (left_at lefts k) (λ bytes. IsWrongAt IsLine bytes line why) → IfSome (left_at lefts k) (λ bytes. IsWrongAt IsLine bytes other because)
    → IsSameFault line other why because
one_at IsLine lefts k line other why because known below first second =
    let there = known_at lefts k known below in
    one_fault IsLine there.0 line other why because
    (said_of (λ bytes. IsWrongAt IsLine bytes line why) (left_at lefts k) there.0 there.1 first)
    (said_of (λ bytes. IsWrongAt IsLine bytes other because) (left_at lefts k) there.0 there.1 second)

-- each of the first n of these sources is a script
script_there : (lefts : List (Option (List ℕ))) (scripts : List (List Statement)) (n m : ℕ) → AreScripts (take n lefts) scripts → m < n → m < length lefts
    → (script : List Statement) × IfSome (left_at lefts m) (λ bytes. IsScript bytes script)
script_there [] scripts n m are inside below = absurd (omega (arith, below))
script_there (left ∷ lefts) scripts zero m are inside below = absurd (omega (arith, inside))
script_there (left ∷ lefts) [] (suc n) m are inside below = absurd are
script_there (left ∷ lefts) (script ∷ scripts) (suc n) zero are inside below = (script, are.0)
script_there (left ∷ lefts) (script ∷ scripts) (suc n) (suc m) are inside below =
    script_there lefts scripts n m are.1 (omega (arith, inside)) (omega (arith, below))

-- none before the first wrong script is wrong
not_before : (lefts : List (Option (List ℕ))) (k later line other : ℕ) (why because : ScriptWhy) → AreKnown lefts → IsFirstWrong lefts k line why
    → IsFirstWrong lefts later other because → k < later → ⊥
not_before lefts k later line other why because known first second less =
    let above = first.above in let within = first.within in
    let below : k - 1 < length lefts = omega (arith, above, within) in
    let script = script_there lefts second.scripts (later - 1) (k - 1) second.before (omega (arith, less, above)) below in
    no_both IsStatementLine lefts (k - 1) line script.0 why known below script.1 first.wrong

one_wrong : (lefts : List (Option (List ℕ))) (k j line other : ℕ) (why because : ScriptWhy) → AreKnown lefts → IsFirstWrong lefts k line why
    → IsFirstWrong lefts j other because → (k ≡ j) × IsSameFault line other why because
one_wrong lefts k j line other why because known first second =
    ⊎_elim (λ same. (same, here same))
    (λ apart. absurd (⊎_elim (λ less. not_before lefts k j line other why because known first second less)
    (λ more. not_before lefts j k other line because why known second first more) apart))
    (cases_order k j)
  where
    here : k ≡ j → IsSameFault line other why because
    here same =
        let above = first.above in let within = first.within in
        one_at IsStatementLine lefts (k - 1) line other why because known (omega (arith, above, within)) first.wrong
        (subst (λ n. IfSome (left_at lefts (n - 1)) (λ bytes. IsWrongAt IsStatementLine bytes other because)) (sym same) second.wrong)

-- among told sources one is the first that is wrong
pub one_first : (lefts : List (Option (List ℕ))) (k j line other : ℕ) (why because : ScriptWhy) → 0 < length lefts → AreKnown lefts → IsFirstOf lefts k line why
    → IsFirstOf lefts j other because → (k ≡ j) × IsSameFault line other why because
one_first lefts zero zero line other why because some known first second =
    (refl, one_at (IsTurnsLine (length lefts - 1)) lefts 0 line other why because known some first second)
one_first lefts zero (suc j) line other why because some known first second =
    absurd (no_both (IsTurnsLine (length lefts - 1)) lefts 0 line second.0 why known some second.1 first)
one_first lefts (suc k) zero line other why because some known first second =
    absurd (no_both (IsTurnsLine (length lefts - 1)) lefts 0 other first.0 because known some first.1 second)
one_first lefts (suc k) (suc j) line other why because some known first second =
    one_wrong (drop 1 lefts) (suc k) (suc j) line other why because (known_behind lefts known) first.2 second.2

-- where all are texts none is wrong
pub none_wrong : (lefts : List (Option (List ℕ))) (turns : List (ℕ × ℕ)) (scripts : List (List Statement)) (k line : ℕ) (why : ScriptWhy) → 0 < length lefts
    → AreKnown lefts → AreTexts lefts turns scripts → IsFirstOf lefts k line why → ⊥
none_wrong lefts turns scripts zero line why some known texts first =
    no_both (IsTurnsLine (length lefts - 1)) lefts 0 line turns why known some texts.schedule first
none_wrong lefts turns scripts (suc k) line why some known texts first =
    let others = drop 1 lefts in
    let wrong = first.2 in
    let within = wrong.within in
    let all : take (length others) others ≡ others = take_all (length others) others (omega arith) in
    let below : k < length others = omega (arith, within) in
    let script = script_there others scripts (length others) k (subst (λ l. AreScripts l scripts) (sym all) texts.others) below below in
    let place : suc k - 1 ≡ k = omega arith in
    no_both IsStatementLine others k line script.0 why (known_behind lefts known) below script.1
    (subst (λ n. IfSome (left_at others n) (λ bytes. IsWrongAt IsStatementLine bytes line why)) place wrong.wrong)

-- where a source failed a count rose
pub failed_rose : (lefts : List (Option (List ℕ))) (before now : List ℕ) → HasFailedSource lefts before now → OneRose before now
failed_rose lefts before now failed = (failed.place, failed.within, failed.rose)
