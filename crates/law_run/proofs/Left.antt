-- Each change that is left to undo is named by its number.
use Rattle.std.proofs.Common.{◌≡◌, ℕ, ◌+◌, ◌≤◌, eqb, List, [], ◌∷◌, length, Some, refl, ap, ◌∙◌, arith}
use Rattle.std.specs.Prelude.{if◌then◌else◌}
use Rattle.std.proofs.lemmas.Bool.{eq-eqb, ne_eqb, cond_both}
use Rattle.spec_log.specs.declared.item.Record.{Record}
use Rattle.spec_log.specs.declared.item.Record.TheVariants.{Start, Change, Undo, Commit, Abort, Snap, Failed, CheckEnd}
use Rattle.spec_log.specs.Log.{item_at, rest_of, left_of}

abbrev pub AreNamed : List Record → List (ℕ × Record) → Type 0
AreNamed log [] = Unit {0}
AreNamed log (p ∷ ps) = (item_at log p.0 ≡ Some p.1) × (p.0 ≤ length log) × AreNamed log ps

named_rest : (log : List Record) (ps : List (ℕ × Record)) → AreNamed log ps → AreNamed log (rest_of ps)
named_rest log [] h = tt
named_rest log (p ∷ ps) h = h.2

named_more : (log : List Record) (x : Record) (ps : List (ℕ × Record)) → AreNamed log ps → AreNamed (x ∷ log) ps
named_more log x [] h = tt
named_more log x (p ∷ ps) h =
    let below = h.1 in
    let differ : (p.0 ≡ length log + 1) → ⊥ = λ e. omega (arith, e, below) in
    (ap (λ b. if b then Some x else item_at log p.0) (ne_eqb p.0 (length log + 1) differ) ∙ h.0, omega (arith, below), named_more log x ps h.2)

pub left_named : (t : ℕ) (log : List Record) → AreNamed log (left_of t log)
left_named t [] = tt
left_named t (Start session index tran number changes size takes ∷ log) = named_more log (Start session index tran number changes size takes) (left_of t log) (left_named t log)
left_named t (Change tran cell before after ∷ log) =
    let x = Change tran cell before after in
    cond_both (eqb tran.0 t) ((length log + 1, x) ∷ left_of t log) (left_of t log) (AreNamed (x ∷ log))
    (λ e. (ap (λ b. if b then Some x else item_at log (length log + 1)) (eq-eqb (length log + 1) (length log + 1) refl), omega arith, named_more log x (left_of t log) (left_named t log)))
    (λ e. named_more log x (left_of t log) (left_named t log))
left_named t (Undo tran change ∷ log) =
    cond_both (eqb tran.0 t) (rest_of (left_of t log)) (left_of t log) (AreNamed (Undo tran change ∷ log))
    (λ e. named_more log (Undo tran change) (rest_of (left_of t log)) (named_rest log (left_of t log) (left_named t log)))
    (λ e. named_more log (Undo tran change) (left_of t log) (left_named t log))
left_named t (Commit tran ∷ log) = named_more log (Commit tran) (left_of t log) (left_named t log)
left_named t (Abort tran ∷ log) = named_more log (Abort tran) (left_of t log) (left_named t log)
left_named t (Snap session index ∷ log) = named_more log (Snap session index) (left_of t log) (left_named t log)
left_named t (Failed session index page ∷ log) = named_more log (Failed session index page) (left_of t log) (left_named t log)
left_named t (CheckEnd session index outcome ∷ log) = named_more log (CheckEnd session index outcome) (left_of t log) (left_named t log)
