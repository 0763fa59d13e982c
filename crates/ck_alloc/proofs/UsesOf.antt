-- The uses that a map keeps of a page are the page's uses.
use Rattle.std.proofs.Common.{◌≡◌, ◌↔◌, ℕ, ◌+◌, ◌*◌, ◌/◌, ◌<◌, ◌≤◌, ◌==◌, not, nat_lt, IsTrue, List, [], ◌∷◌, Contains, map, filter, length, arith, sym, subst, ◌∙◌, inl, inr, ⊎_elim, Ordering}
use Rattle.std.specs.Ordering.{nat_cmp, on, ordering_then}
use Rattle.std.specs.List.{AllByRecursion}
use Rattle.std.specs.List.Sorted.{IsStrictlySortedBy}
use Rattle.std.specs.declared.cmp.Ordering.TheVariants.{Less, Equal}
use Rattle.std.proofs.lemmas.Bool.{ltb-true, ltb-false, lt-ltb, le-ltb, not-true, not_from_false, eqb-true, eq-eqb, or_cases, or_left, or_right, false_from_ne_true}
use Rattle.std.proofs.lemmas.Cmp.{nat_cmp_total, tied_itself}
use Rattle.std.proofs.lemmas.List.Kept.{IsStrictlySortedBy-filter}
use Rattle.spec_file.specs.declared.geometry.Geometry.{Geometry}
use Rattle.spec_file.specs.Image.{Image}
use Rattle.spec_chain.specs.Uses.{use_cmp, IsUse, AreUses}
use Rattle.spec_check.specs.Maps.{HoldsUse}
use Rattle.ck_facts.specs.declared.map.PageUse.{PageUse}
use Rattle.ck_facts.specs.Maps.{page_use_cmp, use_of, AreAllUses}
use Rattle.ck_facts.specs.PageUses.{uses_between}
use Rattle.ck_alloc.specs.Held.{holds_use}
use Rattle.spec_check.proofs.Members.{cons_here, cons_there, map_from, map_in, filter_from, filter_in, none_there, some_there, sorted_map}

-- of one page, they stand in the order of objects and places
less_of_page : (a b : ℕ) (o : Ordering) → a ≡ b → ordering_then (nat_cmp a b) o ≡ Less → o ≡ Less
less_of_page a b o same h =
    let tied : nat_cmp a b ≡ Equal = subst (λ n. nat_cmp a n ≡ Equal) same (tied_itself nat_cmp_total a) in
    subst (λ t. ordering_then t o ≡ Less) tied h

all_of_page : (p : ℕ) (u : PageUse) (uses : List PageUse) → u.page ≡ p → ((v : PageUse) → Contains uses v → v.page ≡ p)
    → AllByRecursion (λ v. page_use_cmp u v ≡ Less) uses → AllByRecursion (λ v. on use_of use_cmp u v ≡ Less) uses
all_of_page p u [] here there h = tt
all_of_page p u (v ∷ vs) here there h = (
  less_of_page u.page v.page _ (here ∙ sym (there v (cons_here v vs))) h.0,
  all_of_page p u vs here (λ w c. there w (cons_there v vs w c)) h.1,
)

sorted_of_page : (p : ℕ) (uses : List PageUse) → ((v : PageUse) → Contains uses v → v.page ≡ p) → IsStrictlySortedBy page_use_cmp uses
    → IsStrictlySortedBy (on use_of use_cmp) uses
unfolding IsStrictlySortedBy
sorted_of_page p [] there s = tt
sorted_of_page p (u ∷ us) there s = (
  all_of_page p u us (there u (cons_here u us)) (λ w c. there w (cons_there u us w c)) s.0,
  sorted_of_page p us (λ w c. there w (cons_there u us w c)) s.1,
)

-- which uses are those between two pages
pub between_from : (low high : ℕ) (uses : List PageUse) (u : PageUse) → Contains (uses_between low high uses) u
    → Contains uses u × (low ≤ u.page) × (u.page < high)
between_from low high uses u h =
    let below = filter_from (λ w. nat_lt w.page high) (filter (λ w. not (nat_lt w.page low)) uses) u h in
    let from = filter_from (λ w. not (nat_lt w.page low)) uses u below.0 in
    (from.0, ltb-false u.page low (not-true (nat_lt u.page low) from.1), ltb-true u.page high below.1)

pub between_in : (low high : ℕ) (uses : List PageUse) (u : PageUse) → Contains uses u → low ≤ u.page → u.page < high
    → Contains (uses_between low high uses) u
between_in low high uses u h from below =
    filter_in (λ w. nat_lt w.page high) (filter (λ w. not (nat_lt w.page low)) uses) u
    (filter_in (λ w. not (nat_lt w.page low)) uses u h (not_from_false (nat_lt u.page low) (le-ltb u.page low from))) (lt-ltb u.page high below)

page_of : (p : ℕ) (uses : List PageUse) (u : PageUse) → Contains (uses_between p (p + 1) uses) u → u.page ≡ p
page_of p uses u h = let b = between_from p (p + 1) uses u h in let low = b.1 in let high = b.2 in omega arith

pub uses_of_page : (g : Geometry) (image : Image) (uses : List PageUse) (p : ℕ) → AreAllUses g image uses
    → AreUses g image p (map use_of (uses_between p (p + 1) uses))
uses_of_page g image uses p all = record {
  sorted = sorted_map use_of use_cmp (uses_between p (p + 1) uses) (sorted_of_page p (uses_between p (p + 1) uses) (page_of p uses)
      (IsStrictlySortedBy-filter page_use_cmp (λ w. nat_lt w.page (p + 1)) (filter (λ w. not (nat_lt w.page p)) uses)
      (IsStrictlySortedBy-filter page_use_cmp (λ w. not (nat_lt w.page p)) uses all.sorted)));
  sound = λ v h.
      let m = map_from use_of (uses_between p (p + 1) uses) v h in
      let at = page_of p uses m.0 m.1 in
      subst (IsUse g image p) m.2 (subst (λ q. IsUse g image q (use_of m.0)) at (all.sound m.0 (between_from p (p + 1) uses m.0 m.1).0));
  complete = λ v h. map_in use_of (uses_between p (p + 1) uses) (record { page = p; object = v.object; place = v.place })
      (between_in p (p + 1) uses (record { page = p; object = v.object; place = v.place }) (all.complete p v h) (omega arith) (omega arith));
}

-- whether an extent holds a use
pub use_held : (g : Geometry) (image : Image) (uses : List PageUse) (e : ℕ) → AreAllUses g image uses → IsTrue (holds_use uses e) ↔ HoldsUse g image e
use_held g image uses e all = (
  λ h. ⊎_elim
      (λ some.
      let u = some_there (uses_between (8 * e) (8 * e + 8) uses) (not-true (length (uses_between (8 * e) (8 * e + 8) uses) == 0) some) in
      let b = between_from (8 * e) (8 * e + 8) uses u.0 u.1 in
      inl (u.0.page, within u.0.page e b.1 b.2, (use_of u.0, all.sound u.0 b.0)))
      (λ boot. inr (eqb-true e 1 boot))
      (or_cases (not (length (uses_between (8 * e) (8 * e + 8) uses) == 0)) (e == 1) h),
  λ h. ⊎_elim
      (λ held.
      let p = held.0 in
      let v = held.2.0 in
      let u : PageUse = record { page = p; object = v.object; place = v.place } in
      or_left (not (length (uses_between (8 * e) (8 * e + 8) uses) == 0)) (e == 1)
      (not_from_false (length (uses_between (8 * e) (8 * e + 8) uses) == 0) (false_from_ne_true (length (uses_between (8 * e) (8 * e + 8) uses) == 0)
      (λ empty. none_there (uses_between (8 * e) (8 * e + 8) uses) u empty
      (between_in (8 * e) (8 * e + 8) uses u (all.complete p v held.2.1) (from p e held.1) (below p e held.1))))))
      (λ boot. or_right (not (length (uses_between (8 * e) (8 * e + 8) uses) == 0)) (e == 1) (eq-eqb e 1 boot))
      h,
) where
  within : (p e : ℕ) → 8 * e ≤ p → p < 8 * e + 8 → p / 8 ≡ e
  within p e a b = omega arith

  from : (p e : ℕ) → p / 8 ≡ e → 8 * e ≤ p
  from p e a = omega arith

  below : (p e : ℕ) → p / 8 ≡ e → p < 8 * e + 8
  below p e a = omega arith
