-- Items of one transaction leave every other transaction as it is.
use Rattle.std.proofs.Common.{◌≡◌, ℕ, ◌+◌, ltb, not, ◌&&◌, ◌||◌, List, ◌∷◌, length, refl, ap, ◌∙◌}
use Rattle.std.specs.Prelude.{if◌then◌else◌}
use Rattle.std.specs.List.{list_any}
use Rattle.std.proofs.lemmas.Bool.{ne_eqb}
use Rattle.spec_file.specs.declared.data.Resource.{Resource}
use Rattle.spec_log.specs.declared.item.Record.{Record}
use Rattle.spec_log.specs.declared.item.Record.TheVariants.{Start, Change, Undo, Commit, Abort, Snap, Failed, CheckEnd}
use Rattle.spec_log.specs.Items.{tran_of, is_same}
use Rattle.spec_log.specs.Log.{has_started, has_ended, has_undone, has_taken, is_unfinished, holds, rest_of, left_of}
use Rattle.spec_run.specs.Sessions.{starter_of}

pub unfinished_other : (x : Record) (g : List Record) (t : ℕ) → (tran_of x ≡ t → ⊥) → is_unfinished (x ∷ g) t ≡ is_unfinished g t
unfinished_other (Start session index tran number changes size takes) g t n = ap (λ b. ltb 0 t && ((b || has_started g t) && not (has_ended g t))) (ne_eqb tran.0 t n)
unfinished_other (Change tran cell before after) g t n = refl
unfinished_other (Undo tran change) g t n = refl
unfinished_other (Commit tran) g t n = ap (λ b. ltb 0 t && (has_started g t && not (b || has_ended g t))) (ne_eqb tran.0 t n)
unfinished_other (Abort tran) g t n = ap (λ b. ltb 0 t && (has_started g t && not (b || has_ended g t))) (ne_eqb tran.0 t n)
unfinished_other (Snap session index) g t n = refl
unfinished_other (Failed session index page) g t n = refl
unfinished_other (CheckEnd session index outcome) g t n = refl

taken_other : (x : Record) (g : List Record) (t : ℕ) (r : Resource) → (tran_of x ≡ t → ⊥) → has_taken (x ∷ g) t r ≡ has_taken g t r
taken_other (Start session index tran number changes size takes) g t r n = ap (λ b. (b && list_any (is_same r) takes) || has_taken g t r) (ne_eqb tran.0 t n)
taken_other (Change tran cell before after) g t r n = refl
taken_other (Undo tran change) g t r n = refl
taken_other (Commit tran) g t r n = refl
taken_other (Abort tran) g t r n = refl
taken_other (Snap session index) g t r n = refl
taken_other (Failed session index page) g t r n = refl
taken_other (CheckEnd session index outcome) g t r n = refl

pub holds_other : (x : Record) (g : List Record) (t : ℕ) (r : Resource) → (tran_of x ≡ t → ⊥) → holds (x ∷ g) t r ≡ holds g t r
holds_other x g t r n = ap (λ b. b && has_taken (x ∷ g) t r) (unfinished_other x g t n) ∙ ap (λ b. is_unfinished g t && b) (taken_other x g t r n)

pub owner_other : (x : Record) (log : List Record) (t : ℕ) → (tran_of x ≡ t → ⊥) → starter_of (x ∷ log) t ≡ starter_of log t
owner_other (Start session index tran number changes size takes) log t n = ap (λ b. if b then session else starter_of log t) (ne_eqb tran.0 t n)
owner_other (Change tran cell before after) log t n = refl
owner_other (Undo tran change) log t n = refl
owner_other (Commit tran) log t n = refl
owner_other (Abort tran) log t n = refl
owner_other (Snap session index) log t n = refl
owner_other (Failed session index page) log t n = refl
owner_other (CheckEnd session index outcome) log t n = refl

pub undone_other : (x : Record) (log : List Record) (t : ℕ) → (tran_of x ≡ t → ⊥) → has_undone (x ∷ log) t ≡ has_undone log t
undone_other (Start session index tran number changes size takes) log t n = refl
undone_other (Change tran cell before after) log t n = refl
undone_other (Undo tran change) log t n = ap (λ b. b || has_undone log t) (ne_eqb tran.0 t n)
undone_other (Commit tran) log t n = refl
undone_other (Abort tran) log t n = refl
undone_other (Snap session index) log t n = refl
undone_other (Failed session index page) log t n = refl
undone_other (CheckEnd session index outcome) log t n = refl

pub left_other : (x : Record) (g : List Record) (t : ℕ) → (tran_of x ≡ t → ⊥) → left_of t (x ∷ g) ≡ left_of t g
left_other (Start session index tran number changes size takes) g t n = refl
left_other (Change tran cell before after) g t n = ap (λ b. if b then (length g + 1, Change tran cell before after) ∷ left_of t g else left_of t g) (ne_eqb tran.0 t n)
left_other (Undo tran change) g t n = ap (λ b. if b then rest_of (left_of t g) else left_of t g) (ne_eqb tran.0 t n)
left_other (Commit tran) g t n = refl
left_other (Abort tran) g t n = refl
left_other (Snap session index) g t n = refl
left_other (Failed session index page) g t n = refl
left_other (CheckEnd session index outcome) g t n = refl
