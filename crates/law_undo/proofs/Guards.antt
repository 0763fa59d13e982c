-- The guard of each atom, and that the rules of a log keep it.
use Rattle.std.proofs.Common.{◌≡◌, ℕ, ◌+◌, ◌-◌, ◌*◌, ◌/◌, ◌%◌, ◌<◌, ◌≤◌, true, eqb, ltb, leb, ◌&&◌, List, [], ◌∷◌, length, Option, Some, None, inl, inr, refl, sym, ap, ◌∙◌, subst, arith}
use Rattle.std.specs.Prelude.{if◌then◌else◌}
use Rattle.std.specs.List.{list_any}
use Rattle.std.proofs.lemmas.Bool.{false≢true, cases_Bool, and_parts, eqb-true, leb-true, ltb-true, lt-ltb, cond_both}
use Rattle.spec_file.specs.declared.data.Resource.{Resource}
use Rattle.spec_file.specs.declared.data.Resource.TheVariants as resource
use Rattle.spec_file.specs.declared.geometry.Geometry.{Geometry}
use Rattle.spec_file.specs.declared.role.Role.{Role}
use Rattle.spec_file.specs.declared.role.Role.TheVariants.{FileHeader, Pfs, Gam, Sgam, Reserved, Boot, Ordinary}
use Rattle.spec_file.specs.Image.{maps_start}
use Rattle.spec_file.specs.Roles.{role_of}
use Rattle.spec_log.specs.declared.item.Cell.{Cell}
use Rattle.spec_log.specs.declared.item.Cell.TheVariants.{Bytes, Bit}
use Rattle.spec_log.specs.declared.item.Record.{Record}
use Rattle.spec_log.specs.declared.item.Record.TheVariants.{Start, Change, Undo, Commit, Abort, Snap, Failed, CheckEnd}
use Rattle.spec_log.specs.Items.{is_same}
use Rattle.spec_log.specs.Log.{holds, greatest_of}
use Rattle.spec_log.specs.Cover.{bit_guard, bit_guard_by, in_file, byte_guard, byte_guard_by, HoldsGuard, IsCovered}
use Rattle.spec_log.specs.Rules.{MayStart, Follows, KeepsRules}
use Rattle.law_undo.proofs.Atoms.{Atom, has_atom}
use Rattle.law_undo.proofs.Holders.{FollowsAt, RulesAt, unfinished_parts}

-- the first that there is; where there is none, nobody writes there, and any will do
abbrev pub first_guard : Option Resource → Option Resource → Resource
first_guard (Some r) other = r
first_guard None (Some r) = r
first_guard None None = resource.Catalog

-- the guard of a bit of a byte: that of the byte, else that of the bit of a map page
abbrev pub guard_of : Geometry → ℕ → ℕ → ℕ → ℕ → Resource
guard_of g pages p i j = first_guard (byte_guard g pages p i) (bit_guard g pages p (8 * (i - maps_start) + j))

abbrev pub atom : Geometry → ℕ → ℕ → ℕ → ℕ → Atom
atom g pages p i j = record { page = p; byte = i; bit = j; guard = guard_of g pages p i j }

holds_first : (log : List Record) (t : ℕ) (a b : Option Resource) → HoldsGuard log t a → holds log t (first_guard a b) ≡ true
holds_first log t None b h = absurd h
holds_first log t (Some r) b h = h

holds_second : (log : List Record) (t : ℕ) (a b : Option Resource) → a ≡ None → HoldsGuard log t b → holds log t (first_guard a b) ≡ true
holds_second log t None None e h = absurd h
holds_second log t None (Some r) e h = h
holds_second log t (Some r) b e h = absurd (some_none r e)
  where
    some_none : (r : Resource) → Some r ≡ None → ⊥
    some_none r e = cc

-- a page with bits that have guards has no bytes with guards
by_role : (role : Role) (g : Geometry) (pages p n i : ℕ) (log : List Record) (t : ℕ) → HoldsGuard log t (bit_guard_by role g pages p n) → byte_guard_by role g pages p i ≡ None
by_role FileHeader g pages p n i log t h = refl
by_role Pfs g pages p n i log t h = absurd h
by_role Gam g pages p n i log t h = refl
by_role Sgam g pages p n i log t h = refl
by_role Reserved g pages p n i log t h = refl
by_role Boot g pages p n i log t h = absurd h
by_role Ordinary g pages p n i log t h = absurd h

-- what is guarded lies in the file
pub guarded_inside : (log : List Record) (t pages p : ℕ) (guard : Option Resource) → HoldsGuard log t (in_file pages p guard) → (p < pages) × HoldsGuard log t guard
guarded_inside log t pages p guard h = elim (cases_Bool (ltb p pages)) [
  | inl e ↦ (ltb-true p pages e, subst (λ s. HoldsGuard log t (if s then guard else None)) e h)
  | inr e ↦ absurd (subst (λ s. HoldsGuard log t (if s then guard else None)) e h)
]

in_file_none : (pages p : ℕ) (guard : Option Resource) → guard ≡ None → in_file pages p guard ≡ None
in_file_none pages p guard e = cond_both (ltb p pages) guard None (λ o. o ≡ None) (λ s. e) (λ s. refl)

bits_alone : (g : Geometry) (pages p n i : ℕ) (log : List Record) (t : ℕ) → HoldsGuard log t (bit_guard g pages p n) → byte_guard g pages p i ≡ None
bits_alone g pages p n i log t h =
    in_file_none pages p (byte_guard_by (role_of g p) g pages p i) (by_role (role_of g p) g pages p n i log t (guarded_inside log t pages p (bit_guard_by (role_of g p) g pages p n) h).1)

no_byte_guard_by : (role : Role) (g : Geometry) (pages p n i : ℕ) (r : Resource) → bit_guard_by role g pages p n ≡ Some r → byte_guard_by role g pages p i ≡ None
no_byte_guard_by FileHeader g pages p n i r h = refl
no_byte_guard_by Pfs g pages p n i r h = absurd (none_some r h)
  where
    none_some : (r : Resource) → None ≡ Some r → ⊥
    none_some r e = cc
no_byte_guard_by Gam g pages p n i r h = refl
no_byte_guard_by Sgam g pages p n i r h = refl
no_byte_guard_by Reserved g pages p n i r h = refl
no_byte_guard_by Boot g pages p n i r h = absurd (none_some r h)
  where
    none_some : (r : Resource) → None ≡ Some r → ⊥
    none_some r e = cc
no_byte_guard_by Ordinary g pages p n i r h = absurd (none_some r h)
  where
    none_some : (r : Resource) → None ≡ Some r → ⊥
    none_some r e = cc

pub no_byte_guard : (g : Geometry) (pages p n i : ℕ) (r : Resource) → bit_guard g pages p n ≡ Some r → byte_guard g pages p i ≡ None
no_byte_guard g pages p n i r e = elim (cases_Bool (ltb p pages)) [
  | inl inside ↦ in_file_none pages p (byte_guard_by (role_of g p) g pages p i)
      (no_byte_guard_by (role_of g p) g pages p n i r (sym (ap (λ s. if s then bit_guard_by (role_of g p) g pages p n else None) inside) ∙ e))
  | inr outside ↦ ap (λ s. if s then byte_guard_by (role_of g p) g pages p i else None) outside
]

place_in : (off i : ℕ) → off ≤ i → off + (i - off) ≡ i
place_in off i h = omega arith

inside_size : (off i size : ℕ) → off ≤ i → i < off + size → i - off < size
inside_size off i size h lt = omega arith

bit_place : (n i j : ℕ) → maps_start + n / 8 ≡ i → n % 8 ≡ j → n ≡ 8 * (i - maps_start) + j
bit_place n i j e f = omega arith

-- a covered cell has only atoms whose guard is held
pub covered_at : (g : Geometry) (pages : ℕ) (log : List Record) (t : ℕ) (cell : Cell) (size p i j : ℕ) → IsCovered g pages log t cell size →
    has_atom cell size (atom g pages p i j) ≡ true → holds log t (guard_of g pages p i j) ≡ true
covered_at g pages log t (Bytes q off) size p i j covered h =
    let a = and_parts (eqb q.0 p) (leb off i && ltb i (off + size)) h in
    let b = and_parts (leb off i) (ltb i (off + size)) a.1 in
    let low : off ≤ i = leb-true off i b.0 in
    let high : i < off + size = ltb-true i (off + size) b.1 in
    let there : HoldsGuard log t (byte_guard g pages q.0 (off + (i - off))) = covered.0 (i - off) (inside_size off i size low high) in
    let here : HoldsGuard log t (byte_guard g pages p i) =
    subst (λ at. HoldsGuard log t (byte_guard g pages p at)) (place_in off i low) (subst (λ r. HoldsGuard log t (byte_guard g pages r (off + (i - off)))) (eqb-true q.0 p a.0) there) in
    holds_first log t (byte_guard g pages p i) (bit_guard g pages p (8 * (i - maps_start) + j)) here
covered_at g pages log t (Bit q n) size p i j covered h =
    let a = and_parts (eqb q.0 p) (eqb (maps_start + n / 8) i && eqb (n % 8) j) h in
    let b = and_parts (eqb (maps_start + n / 8) i) (eqb (n % 8) j) a.1 in
    let same : n ≡ 8 * (i - maps_start) + j = bit_place n i j (eqb-true (maps_start + n / 8) i b.0) (eqb-true (n % 8) j b.1) in
    let here : HoldsGuard log t (bit_guard g pages p (8 * (i - maps_start) + j)) =
    subst (λ m. HoldsGuard log t (bit_guard g pages p m)) same (subst (λ r. HoldsGuard log t (bit_guard g pages r n)) (eqb-true q.0 p a.0) covered) in
    holds_second log t (byte_guard g pages p i) (bit_guard g pages p (8 * (i - maps_start) + j)) (bits_alone g pages p (8 * (i - maps_start) + j) i log t here) here

-- who takes something is a transaction
takes_above : (log : List Record) (t : ℕ) (takes : List Resource) (r : Resource) → MayStart log t takes → list_any (is_same r) takes ≡ true → ltb 0 t ≡ true
takes_above log t takes r (inl open_now) h = (unfinished_parts log t open_now).above
takes_above log t takes r (inr (inl next)) h = lt-ltb 0 t (next_above t (greatest_of log) next)
  where
    next_above : (t n : ℕ) → t ≡ n + 1 → 0 < t
    next_above t n e = omega arith
takes_above log t takes r (inr (inr none)) h = absurd (false≢true (sym (ap (list_any (is_same r)) none.1) ∙ h))

pub follows_at : (g : Geometry) (pages p i j : ℕ) (log : List Record) (x : Record) → Follows g pages log x → FollowsAt (atom g pages p i j) log x
follows_at g pages p i j log (Start session index tran number changes size takes) f =
    λ h. (takes_above log tran.0 takes (guard_of g pages p i j) f.0 h, f.1 (guard_of g pages p i j) h)
follows_at g pages p i j log (Change tran cell before after) f = (f.0, λ h. covered_at g pages log tran.0 cell (length after) p i j f.1 h)
follows_at g pages p i j log (Undo tran change) f = f
follows_at g pages p i j log (Commit tran) f = f
follows_at g pages p i j log (Abort tran) f = f
follows_at g pages p i j log (Snap session index) f = tt
follows_at g pages p i j log (Failed session index page) f = tt
follows_at g pages p i j log (CheckEnd session index outcome) f = tt

pub rules_at : (g : Geometry) (pages p i j : ℕ) (log : List Record) → KeepsRules g pages log → RulesAt (atom g pages p i j) log
rules_at g pages p i j [] r = tt
rules_at g pages p i j (x ∷ older) r = (follows_at g pages p i j older x r.0, rules_at g pages p i j older r.1)
