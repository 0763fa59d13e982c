-- The maps of an image hold its uses in the order of pages, and what it says of each extent.
use Rattle.std.proofs.Common.{◌≡◌, ◌⊎◌, ℕ, ◌/◌, ◌<◌, ◌≤◌, List, [], length, arith, rules, subst, refl, ⊎_elim, Ordering}
use Rattle.std.specs.Ordering.{nat_cmp, ordering_then}
use Rattle.std.specs.List.Sorted.{IsStrictlySortedBy}
use Rattle.std.specs.declared.cmp.Ordering.TheVariants.{Less, Greater}
use Rattle.std.proofs.lemmas.Cmp.{ranked, by_ranked}
use Rattle.std.proofs.lemmas.Map.Keys.{Less-from_sorted}
use Rattle.std.proofs.lemmas.Option.{slice_get-get_or}
use Rattle.spec_file.specs.Image.{Image}
use Rattle.ck_facts.specs.declared.map.AllocMap.{AllocMap}
use Rattle.ck_facts.specs.declared.map.PageUse.{PageUse}
use Rattle.ck_facts.specs.Maps.{HasNoSystemErrors, page_use_cmp, IsExtentOf, rows_of_objects}
use Rattle.ck_facts.specs.MapOf.{IsMapOf, no_extent, extent_at}
use Rattle.ck_facts.specs.PageUses.{IsByPage}

-- in the order of uses no page falls
then_greater : (o : Ordering) → ordering_then Greater o ≡ Less → ⊥
then_greater o h = cc

page_rises : (a b : ℕ) (o : Ordering) → ordering_then (nat_cmp a b) o ≡ Less → a ≤ b
page_rises a b o h = by_ranked (a < b) (a ≡ b) (b < a) (nat_cmp a b) (ranked a b (nat_cmp a b) refl)
    (λ is less. omega arith) (λ is same. omega arith)
    (λ is more. absurd (then_greater o (subst (λ t. ordering_then t o ≡ Less) is h)))

by_page : (uses : List PageUse) → IsStrictlySortedBy page_use_cmp uses → IsByPage uses
by_page uses sorted = record {
  rises = λ i j d at below. ⊎_elim (λ less. page_rises _ _ _ (Less-from_sorted page_use_cmp uses i j d sorted less below))
      (λ same. rw same (omega arith)) (split i j at);
} where
  split : (i j : ℕ) → i ≤ j → (i < j) ⊎ (i ≡ j)
  split i j h = search (rules, arith)

pub uses_by_page : (image : Image) (m : AllocMap) → IsMapOf image m → HasNoSystemErrors m → IsByPage m.uses.items
uses_by_page image m of sound = by_page m.uses.items (of.whole sound).uses.sorted

pub extent_of : (image : Image) (m : AllocMap) → IsMapOf image m → HasNoSystemErrors m → (e : ℕ) → e < m.pages / 8
    → IsExtentOf m.geometry image (rows_of_objects m.objects.items) e (extent_at m e)
extent_of image m of sound e below =
    let kept : m.extents.len ≡ m.pages / 8 = (m.sizes sound).extents in
    let long : m.extents.len ≡ length m.extents.items = m.extents.ok.0 in
    (of.whole sound).extents.each e (extent_at m e) (slice_get-get_or m.extents.items e no_extent (omega (arith, below, kept, long)))
