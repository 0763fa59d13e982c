-- Two keys are the same exactly where grain and number are, and so the resources are.
use Rattle.std.proofs.Common.{◌≡◌, ◌≢◌, ◌==◌, Bool, true, false, refl, sym, ap, ◌∙◌, Result, Ok, Err, IsOk, OnOk}
use Rattle.std.specs.Cmp.{IsEquivalence, decided}
use Rattle.std.proofs.lemmas.Bool.{and_parts, and_from, eqb-true, eq-eqb, both_ways}
use Rattle.std.specs.Bool.{Decides}
use Rattle.spec_file.specs.declared.data.Resource.{Resource}
use Rattle.law_net.proofs.Takes.{same_resource}
use Rattle.db_locks.specs.declared.key.ResourceKey.{ResourceKey}
use Rattle.db_locks.specs.Keys.{key_of, is_same_key}

key_parts : (a b : ResourceKey) → is_same_key a b ≡ true → (a.grain ≡ b.grain) × (a.number ≡ b.number)
key_parts a b h =
    let parts = and_parts (a.grain == b.grain) (a.number == b.number) h in
    (eqb-true a.grain b.grain parts.0, eqb-true a.number b.number parts.1)

itself : (a : ResourceKey) → is_same_key a a ≡ true
itself a = and_from (a.grain == a.grain) (a.number == a.number) (eq-eqb a.grain a.grain refl) (eq-eqb a.number a.number refl)

key_decides : (a b : ResourceKey) → Decides (is_same_key a b) (a ≡ b)
key_decides a b = (
  λ h. let (g, n) = key_parts a b h in ap (λ k. record { grain = k; number = a.number }) g ∙ ap (λ k. record { grain = b.grain; number = k }) n,
  λ e. rw e (itself b),
)

pub key_equivalence : IsEquivalence is_same_key
key_equivalence = decided is_same_key key_decides

-- other resources have other keys
pub other_key : (r other : Resource) → other ≢ r → is_same_key (key_of r) (key_of other) ≡ false
other_key r other ne = by_test (is_same_key (key_of r) (key_of other)) refl
  where
    by_test : (b : Bool) → is_same_key (key_of r) (key_of other) ≡ b → b ≡ false
    by_test false e = refl
    by_test true e = absurd (ne (sym (same_resource r other e)))

-- what holds on success holds where there is success
pub where_ok : {T E P : Type 0} (r : Result T E) → IsOk r → OnOk r P → P
where_ok (Ok x) ok h = h
where_ok (Err e) ok h = absurd (both_ways false refl ok)
