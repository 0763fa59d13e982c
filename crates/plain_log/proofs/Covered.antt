-- Where nothing has a guard.
use Rattle.std.proofs.Common.{◌≡◌, ℕ, ◌+◌, ◌<◌, ◌≤◌, eqb, List, None, inl, inr, subst, arith}
use Rattle.std.specs.Prelude.{◌↔◌, IsTrue, nat_eq, if◌then◌else◌}
use Rattle.std.proofs.lemmas.Bool.{eqb-true, eqb-false, cases_Bool, le-ltb}
use Rattle.spec_file.specs.declared.geometry.Geometry.{Geometry}
use Rattle.spec_file.specs.declared.role.Role.{Role}
use Rattle.spec_file.specs.declared.role.Role.TheVariants.{FileHeader, Pfs, Gam, Sgam, Reserved, Boot, Ordinary}
use Rattle.spec_file.specs.Roles.{role_of}
use Rattle.spec_log.specs.declared.item.Record.{Record}
use Rattle.spec_log.specs.Cover.{HoldsGuard, IsOfOneExtent, byte_guard, byte_guard_by}

-- no bytes are of one extent
none_apart : (role : Role) (p off size : ℕ) → size ≡ 0 → IsOfOneExtent role p off size
none_apart FileHeader p off size h = tt
none_apart Pfs p off size h = λ i lt. absurd (omega (arith, h, lt))
none_apart Gam p off size h = tt
none_apart Sgam p off size h = tt
none_apart Reserved p off size h = tt
none_apart Boot p off size h = tt
none_apart Ordinary p off size h = tt

-- nothing past the file's end has a guard
unguarded : (g : Geometry) (pages : ℕ) (log : List Record) (t p at : ℕ) → pages ≤ p → HoldsGuard log t (byte_guard g pages p at) → ⊥
unguarded g pages log t p at past held =
    subst (λ b. HoldsGuard log t (if b then byte_guard_by (role_of g p) g pages p at else None)) (le-ltb p pages past) held

pub covers_none : (g : Geometry) (pages : ℕ) (log : List Record) (t p off size : ℕ) → pages ≤ p →
    IsTrue (nat_eq size 0) ↔ (((i : ℕ) → i < size → HoldsGuard log t (byte_guard g pages p (off + i))) × IsOfOneExtent (role_of g p) p off size)
covers_none g pages log t p off size past = (
  λ h. let none : size ≡ 0 = eqb-true size 0 h in (λ i lt. absurd (omega (arith, none, lt)), none_apart (role_of g p) p off size none),
  λ covered. elim (cases_Bool (eqb size 0)) [
    | inl e ↦ e
    | inr e ↦ let some = eqb-false size 0 e in absurd (unguarded g pages log t p (off + 0) past (covered.0 0 (omega (arith, some))))
  ],
)
