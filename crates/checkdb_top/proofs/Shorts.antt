-- A check among the statements of several sessions that was answered with 701, by the sessions in their order.
use Rattle.std.proofs.Common.{◌≡◌, ℕ, zero, suc, ◌-◌, ◌<◌, Bool, if◌then◌else◌, ⊎_elim, true, false, ◌||◌, List, [], ◌∷◌, length, get_or, map, refl, sym, ap, ◌∙◌, arith}
use Rattle.std.specs.List.{list_any, zip}
use Rattle.std.proofs.lemmas.Bool.{ne_eqb, cases_lt}
use Rattle.std.proofs.lemmas.List.{length-map, get_or_default}
use Rattle.spec_script.specs.declared.statement.Statement.{Statement}
use Rattle.spec_script.specs.declared.reply.Reply.{Reply}
use Rattle.spec_run.specs.Progress.{script_of}
use Rattle.checkdb_top.specs.Runs.{has_short}
use Rattle.checkdb_top.proofs.Running.{mapped_here}

-- the script and the replies of the session behind so many others
abbrev pub session_at : List (List Statement) → List (List Reply) → ℕ → List Statement × List Reply
session_at scripts replies k = (script_of scripts (suc k), get_or replies k [])

abbrev pub NoneBelow : List (List Statement) → List (List Reply) → ℕ → Type 0
NoneBelow scripts replies n = (k : ℕ) → k < n → has_short (session_at scripts replies k) ≡ false

-- the session behind the first is one of the others
next_session : (s : List Statement) (ss : List (List Statement)) (r : List Reply) (rs : List (List Reply)) (k : ℕ)
    → session_at (s ∷ ss) (r ∷ rs) (suc k) ≡ session_at ss rs k
next_session s ss r rs k =
    ap (λ l. (l, get_or rs k [])) (ap (λ b. if b then s else script_of ss (suc (suc k) - 1)) (ne_eqb (suc (suc k)) 1 (λ h. omega (arith, h)))
    ∙ ap (script_of ss) (omega arith))

-- one session has such a check
pub short_here : (scripts : List (List Statement)) (replies : List (List Reply)) (k : ℕ) → length replies ≡ length scripts → k < length replies
    → has_short (session_at scripts replies k) ≡ true → list_any has_short (zip scripts replies) ≡ true
short_here [] [] k same below short = absurd (omega (arith, below))
short_here [] (r ∷ rs) k same below short = absurd (omega (arith, same))
short_here (s ∷ ss) [] k same below short = absurd (omega (arith, same))
short_here (s ∷ ss) (r ∷ rs) zero same below short = ap (λ b. b || list_any has_short (zip ss rs)) short
short_here (s ∷ ss) (r ∷ rs) (suc k) same below short =
    or_true (has_short (s, r)) (list_any has_short (zip ss rs)) (short_here ss rs k (omega (arith, same)) (omega (arith, below))
    (ap has_short (sym (next_session s ss r rs k)) ∙ short))
  where
    or_true : (a b : Bool) → b ≡ true → (a || b) ≡ true
    or_true true b is = refl
    or_true false b is = is

-- none has
pub short_nowhere : (scripts : List (List Statement)) (replies : List (List Reply)) → length replies ≡ length scripts
    → NoneBelow scripts replies (length replies) → list_any has_short (zip scripts replies) ≡ false
short_nowhere [] replies same none = refl
short_nowhere (s ∷ ss) [] same none = refl
short_nowhere (s ∷ ss) (r ∷ rs) same none =
    ap (λ b. b || list_any has_short (zip ss rs)) (none 0 (omega arith))
    ∙ short_nowhere ss rs (omega (arith, same)) (λ k below. ap has_short (sym (next_session s ss r rs k)) ∙ none (suc k) (omega (arith, below)))

-- one session more has none
pub one_more : (scripts : List (List Statement)) (replies : List (List Reply)) (n : ℕ) → NoneBelow scripts replies n
    → has_short (session_at scripts replies n) ≡ false → NoneBelow scripts replies (suc n)
one_more scripts replies n below here k less = ⊎_elim
    (λ before. below k before)
    (λ from. (let same : k ≡ n = omega (arith, less, from) in ap (λ m. has_short (session_at scripts replies m)) same ∙ here))
    (cases_lt k n)

-- a session that was asked is the one at its place
pub session_here : {R : Type 0} (f : R → List Reply) (scripts : List (List Statement)) (all : List R) (k : ℕ) (script : List Statement) (x : R) → k < length all
    → script ≡ script_of scripts (suc k) → x ≡ get_or all k x → has_short (session_at scripts (map f all) k) ≡ has_short (script, f x)
session_here {R} f scripts all k script x below script_is is =
    let here : get_or (map f all) k [] ≡ f x =
    get_or_default (map f all) k [] (f x) (omega (arith, below, length-map all f)) ∙ sym (mapped_here f all k x is) in
    ap has_short (ap (λ s. (s, get_or (map f all) k [])) (sym script_is) ∙ ap (λ r. (script, r)) here)
