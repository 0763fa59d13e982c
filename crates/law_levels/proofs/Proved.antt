-- The law, from its two halves by way of the rules that hold.
use Rattle.std.proofs.Common.{◌≡◌, ◌↔◌, ℕ, List, refl, sym, ap, ◌∙◌, inr}
use Rattle.spec_tree.specs.declared.known.Root.{Root}
use Rattle.spec_tree.specs.declared.known.PageHead.{PageHead}
use Rattle.spec_tree.specs.Known.{Known, IsPage}
use Rattle.spec_levels.specs.Levels.{Tree}
use Rattle.spec_levels.specs.Pages.{Page, page_of, IsTreeOf}
use Rattle.law_levels.specs.Known.{AreWellFormed, known_of, HasNoTreeErrors}
use Rattle.law_levels.proofs.Facts.{IsKnownOf}
use Rattle.law_levels.proofs.Places.{to_parent}
use Rattle.law_levels.proofs.Close.{clean_is_tree}
use Rattle.law_levels.proofs.Free.{tree_is_clean}
use Rattle.law_levels.proofs.ToClean.{free_is_clean}
use Rattle.law_levels.proofs.FromClean.{clean_is_free}
use Rattle.law_levels.specs.Laws.{SoundIsTree}

-- whatever else is known
pub free_is_tree : (K : Known) (o root : ℕ) (seen : List Page) → IsKnownOf K o root seen → AreWellFormed seen → HasNoTreeErrors K o ↔ ((tree : Tree) × IsTreeOf root seen tree)
free_is_tree K o root seen is pages = (
  λ free. clean_is_tree root seen pages (free_is_clean K o root seen is pages free),
  λ tree. clean_is_free K o root seen is pages (tree_is_clean root seen pages tree.0 tree.1),
)

one_object : (o root : ℕ) (seen : List Page) (w k : ℕ) (s : PageHead) → IsPage (known_of o root seen) w k s → w ≡ o
one_object o root seen w k s h = sym h.object ∙ ap (λ (t : PageHead). t.object.0) h.known.2

pub known_is : (o root : ℕ) (seen : List Page) → AreWellFormed seen → IsKnownOf (known_of o root seen) o root seen
known_is o root seen pages = record {
  table = record { root = record { object = record { 0 = o }; page = record { 0 = root } }; known = refl; object = refl; page = refl };
  one_table = λ r t. sym t.page ∙ ap (λ (x : Root). x.page.0) t.known;
  head = λ p i. (p, i, refl);
  is_head = λ s h e. h;
  link = λ p i. (p, i, refl);
  is_link = λ l h e. h;
  row = λ k a. (to_parent seen k a.row.value a (sym a.names), refl);
  is_row = λ c h e. h;
  alone = λ p i w s h. one_object o root seen w (page_of p) s h;
  nonzero = λ w s h. pages.nonzero h.known.0 h.known.1 (ap (λ (t : PageHead). t.page.0) (sym h.known.2) ∙ h.page);
  elsewhere = λ k. inr (λ w differs s h. differs (one_object o root seen w k s h));
}

pub sound_is_tree : SoundIsTree
sound_is_tree o root seen pages = free_is_tree (known_of o root seen) o root seen (known_is o root seen pages) pages
