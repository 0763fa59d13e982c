-- What the core keeps of an open transaction after an item of it.
use Rattle.std.proofs.Common.{◌≡◌, ℕ, ◌+◌, ◌<◌, Bool, true, false, eqb, ltb, ◌&&◌, ◌||◌, List, [], ◌∷◌, ◌++◌, length, map, inl, inr, refl, sym, ap, ◌∙◌, arith}
use Rattle.std.specs.Prelude.{if◌then◌else◌}
use Rattle.std.specs.List.{list_any}
use Rattle.std.proofs.lemmas.List.{reverse-append}
use Rattle.std.proofs.lemmas.Bool.{eq-eqb, ne_eqb, both_ways, cases_Bool, and_from, or_left}
use Rattle.spec_file.specs.declared.data.Resource.{Resource}
use Rattle.spec_file.specs.declared.geometry.Geometry.{Geometry}
use Rattle.spec_log.specs.declared.item.Record.{Record}
use Rattle.spec_log.specs.declared.item.Record.TheVariants.{Start, Change, Undo, Commit, Abort, Snap, Failed, CheckEnd}
use Rattle.spec_log.specs.Items.{is_same}
use Rattle.spec_log.specs.Log.{has_started, has_taken, is_unfinished, greatest_of, left_of, rest_of}
use Rattle.spec_log.specs.Limits.{changes_of}
use Rattle.spec_log.specs.Rules.{KeepsRules}
use Rattle.law_undo.proofs.Holders.{unfinished_parts, taken_started}
use Rattle.law_run.proofs.Fresh.{started_below, not_started_above, false_if}
use Rattle.spec_plan.specs.declared.plan.Planned.{Planned}
use Rattle.spec_run.specs.Shapes.{change_item}
use Rattle.db_core.specs.States.{IsOpen}

pub open_change : (g : List Record) (t : ℕ) (c : Planned) (left : List ℕ) (held : List Resource) (used : ℕ) → IsOpen g t left held used →
    IsOpen (change_item t c ∷ g) t (left ++ (length g + 1) ∷ []) held used
open_change g t c left held used o = record {
  left_is = ap (λ b. map (λ (p : ℕ × Record). p.0) (if b then (length g + 1, change_item t c) ∷ left_of t g else left_of t g)) (eq-eqb t t refl)
      ∙ ap (λ xs. (length g + 1) ∷ xs) o.left_is ∙ sym (reverse-append left ((length g + 1) ∷ []));
  held_is = o.held_is;
  used_is = o.used_is;
}

rest_map : (ps : List (ℕ × Record)) → map (λ (p : ℕ × Record). p.0) (rest_of ps) ≡ rest_of (map (λ (p : ℕ × Record). p.0) ps)
rest_map [] = refl
rest_map (p ∷ ps) = refl

pub open_undo : (g : List Record) (t n m : ℕ) (rest : List ℕ) (held : List Resource) (used : ℕ) → IsOpen g t (rest ++ n ∷ []) held used →
    IsOpen (Undo (record { 0 = t }) (record { 0 = m }) ∷ g) t rest held used
open_undo g t n m rest held used o = record {
  left_is = ap (λ b. map (λ (p : ℕ × Record). p.0) (if b then rest_of (left_of t g) else left_of t g)) (eq-eqb t t refl)
      ∙ rest_map (left_of t g) ∙ ap rest_of (o.left_is ∙ reverse-append rest (n ∷ []));
  held_is = o.held_is;
  used_is = o.used_is;
}

-- an item that has no transaction
pub open_snap : (g : List Record) (t s i : ℕ) (left : List ℕ) (held : List Resource) (used : ℕ) → IsOpen g t left held used → IsOpen (Snap s i ∷ g) t left held used
open_snap g t s i left held used h = record { left_is = h.left_is; held_is = h.held_is; used_is = h.used_is }

pub open_end : (g : List Record) (t s i o : ℕ) (left : List ℕ) (held : List Resource) (used : ℕ) → IsOpen g t left held used → IsOpen (CheckEnd s i o ∷ g) t left held used
open_end g t s i o left held used h = record { left_is = h.left_is; held_is = h.held_is; used_is = h.used_is }

any_append : (r : Resource) (xs ys : List Resource) → list_any (is_same r) (xs ++ ys) ≡ (list_any (is_same r) xs || list_any (is_same r) ys)
any_append r [] ys = refl
any_append r (x ∷ xs) ys = ap (λ b. is_same r x || b) (any_append r xs ys) ∙ or_group (is_same r x) (list_any (is_same r) xs) (list_any (is_same r) ys)
  where
    or_group : (a b c : Bool) → (a || (b || c)) ≡ ((a || b) || c)
    or_group true b c = refl
    or_group false b c = refl

or_swap : (a b : Bool) → (a || b) ≡ (b || a)
or_swap true true = refl
or_swap true false = refl
or_swap false true = refl
or_swap false false = refl

-- a Start of a transaction that is open
pub open_start : (g : List Record) (t s i number changes size : ℕ) (takes : List Resource) (left : List ℕ) (held : List Resource) (used : ℕ) → is_unfinished g t ≡ true →
    IsOpen g t left held used → IsOpen (Start s i (record { 0 = t }) number changes size takes ∷ g) t left (held ++ takes) (used + changes)
open_start g t s i number changes size takes left held used unfinished o =
    let x = Start s i (record { 0 = t }) number changes size takes in
    let same = eq-eqb t t refl in
    let parts = unfinished_parts g t unfinished in
    let still : is_unfinished (x ∷ g) t ≡ true = and_from (ltb 0 t) _ parts.above (and_from (eqb t t || has_started g t) _ (or_left (eqb t t) (has_started g t) same) parts.not_ended) in
    record {
      left_is = o.left_is;
      held_is = λ r.
          let before : has_taken g t r ≡ list_any (is_same r) held = ap (λ b. b && has_taken g t r) (sym unfinished) ∙ o.held_is r in
          ap (λ b. b && has_taken (x ∷ g) t r) still
          ∙ ap (λ b. (b && list_any (is_same r) takes) || has_taken g t r) same
          ∙ ap (λ b. list_any (is_same r) takes || b) before
          ∙ or_swap (list_any (is_same r) takes) (list_any (is_same r) held)
          ∙ sym (any_append r held takes);
      used_is = ap (λ b. (if b then changes else 0) + changes_of t g) same ∙ ap (λ n. changes + n) o.used_is ∙ omega arith;
    }

-- a new transaction
no_changes : (g : Geometry) (pages : ℕ) (log : List Record) (u : ℕ) → KeepsRules g pages log → greatest_of log < u → left_of u log ≡ []
no_changes g pages [] u rules above = refl
no_changes g pages (Start session index tran number changes size takes ∷ log) u rules above = no_changes g pages log u rules.1 (omega (arith, above))
no_changes g pages (Change tran cell before after ∷ log) u rules above =
    ap (λ b. if b then (length log + 1, Change tran cell before after) ∷ left_of u log else left_of u log)
    (ne_eqb tran.0 u (λ e. let low = started_below log tran.0 (unfinished_parts log tran.0 rules.0.0).started in omega (arith, e, low, above)))
    ∙ no_changes g pages log u rules.1 (omega (arith, above))
no_changes g pages (Undo tran change ∷ log) u rules above =
    ap (λ b. if b then rest_of (left_of u log) else left_of u log)
    (ne_eqb tran.0 u (λ e. let low = started_below log tran.0 (unfinished_parts log tran.0 rules.0.0).started in omega (arith, e, low, above)))
    ∙ no_changes g pages log u rules.1 (omega (arith, above))
no_changes g pages (Commit tran ∷ log) u rules above = no_changes g pages log u rules.1 (omega (arith, above))
no_changes g pages (Abort tran ∷ log) u rules above = no_changes g pages log u rules.1 (omega (arith, above))
no_changes g pages (Snap session index ∷ log) u rules above = no_changes g pages log u rules.1 (omega (arith, above))
no_changes g pages (Failed session index page ∷ log) u rules above = no_changes g pages log u rules.1 (omega (arith, above))
no_changes g pages (CheckEnd session index outcome ∷ log) u rules above = no_changes g pages log u rules.1 (omega (arith, above))

pub none_used : (log : List Record) (u : ℕ) → has_started log u ≡ false → changes_of u log ≡ 0
none_used [] u n = refl
none_used (Start session index tran number changes size takes ∷ log) u n = elim (cases_Bool (eqb tran.0 u)) [
  | inl e ↦ absurd (both_ways (eqb tran.0 u || has_started log u) n (or_left (eqb tran.0 u) (has_started log u) e))
  | inr e ↦ ap (λ b. (if b then changes else 0) + changes_of u log) e ∙ ap (λ m. 0 + m) (none_used log u (ap (λ b. b || has_started log u) (sym e) ∙ n)) ∙ omega arith
]
none_used (Change tran cell before after ∷ log) u n = none_used log u n
none_used (Undo tran change ∷ log) u n = none_used log u n
none_used (Commit tran ∷ log) u n = none_used log u n
none_used (Abort tran ∷ log) u n = none_used log u n
none_used (Snap session index ∷ log) u n = none_used log u n
none_used (Failed session index page ∷ log) u n = none_used log u n
none_used (CheckEnd session index outcome ∷ log) u n = none_used log u n

pub open_fresh : (gm : Geometry) (pages : ℕ) (g : List Record) (u s i number changes size : ℕ) (takes : List Resource) → KeepsRules gm pages g → greatest_of g < u →
    is_unfinished (Start s i (record { 0 = u }) number changes size takes ∷ g) u ≡ true →
    IsOpen (Start s i (record { 0 = u }) number changes size takes ∷ g) u [] takes changes
open_fresh gm pages g u s i number changes size takes rules above unfinished =
    let x = Start s i (record { 0 = u }) number changes size takes in
    let same = eq-eqb u u refl in
    let fresh = not_started_above g u above in
    record {
      left_is = ap (map (λ (p : ℕ × Record). p.0)) (no_changes gm pages g u rules above);
      held_is = λ r.
          let none : has_taken g u r ≡ false = false_if (has_taken g u r) (λ h. both_ways (has_started g u) fresh (taken_started g u r h)) in
          ap (λ b. b && has_taken (x ∷ g) u r) unfinished
          ∙ ap (λ b. (b && list_any (is_same r) takes) || has_taken g u r) same
          ∙ ap (λ b. list_any (is_same r) takes || b) none ∙ or_swap (list_any (is_same r) takes) false;
      used_is = ap (λ b. (if b then changes else 0) + changes_of u g) same ∙ ap (λ n. changes + n) (none_used g u fresh) ∙ omega arith;
    }
