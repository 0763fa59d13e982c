-- The walk along a chain that a reader tells.
use Rattle.std.proofs.Common.{rules, ◌≡◌, ◌≢◌, ◌⊎◌, ℕ, ◌+◌, ◌/◌, ◌<◌, Bool, false, IsTrue, List, Option, Some, None, IfSome, length, get_or, arith, sym, subst, ap, inl, ⊎_elim, ◌∙◌}
use Rattle.std.proofs.lemmas.Option.{same_Some}
use Rattle.spec_file.specs.Image.{Image, page}
use Rattle.spec_file.specs.CatalogRows.{CatalogRow}
use Rattle.spec_file.specs.Iam.{iam_interval}
use Rattle.spec_chain.specs.declared.end.ChainEnd.{ChainEnd}
use Rattle.spec_chain.specs.Chains.{pointer, HasPages, GoesOn, fault_of_number}
use Rattle.spec_check.specs.Chains.{error_of_end}
use Rattle.ck_error.specs.Gathered.{Adds}
use Rattle.spec_file.specs.Places.{HasShape}
use Rattle.ck_chain.specs.declared.walk.Walk.{Walk}
use Rattle.ck_chain.specs.declared.walk.Owner.{Owner}
use Rattle.ck_chain.specs.declared.found.Found.{Found}
use Rattle.ck_chain.specs.Walks.{IsWalk, IsFound, IsChainRead, TakesPage, GoesOnBehind, looked_at, inside_count}
use Rattle.ck_chain.proofs.Looking.{IsOwner, none_of, look_goes, look_ends, goes_to_interval, goes_to_number}
use Rattle.ck_chain.proofs.Stepping.{step_walk}
use Rattle.ck_chain.proofs.Finding.{step_found, found_none, finish}
use Rattle.spec_chain.proofs.ChainLaws.{chain_is_short}
use Rattle.spec_chain.proofs.Pointers.{goes_nonzero}
use Rattle.ck_chain.proofs.Inside.{interval_below}

-- the walk stands before the k-th page of the object's chain, with what the pages before it give
pub record IsReadingOf (owner : Owner) (k : ℕ) (walk : Walk) (old now : Found) (image : Image) (row : CatalogRow) : Type 0 where
  pub stands : IsWalk image row k walk
  pub pages : HasPages owner.geometry image row k
  pub found : IsFound owner.geometry image row owner.index k old now

abbrev pub IsReading : Owner → ℕ → ℕ → Walk → Found → Found → Image → Type 0
IsReading owner first k walk old now image =
    (row : CatalogRow) → row.id ≡ owner.id → row.first_iam ≡ first → IsReadingOf owner k walk old now image row

-- the walk begins
pub begins : (owner : Owner) (first : ℕ) (walk : Walk) (found : Found) (image : Image)
    → walk.link ≡ record { page = first; holder = 9; before = 0; count = 0 } → ((p : ℕ) → get_or walk.met.items p false ≡ false)
    → ((m : ℕ) → get_or walk.firsts m 0 ≡ 0) → IsReading owner first 0 walk found found image
begins owner first walk found image link unmet none = λ row id starts. record {
  stands = record {
    page = ap (λ l. l.page) link ∙ sym starts;
    holder = ap (λ l. l.holder) link;
    before = ap (λ l. l.before) link;
    count = ap (λ l. l.count) link;
    met = λ p below. (λ t. absurd (apart (get_or walk.met.items p false) (unmet p) t), λ met. absurd (omega (arith, met.1)));
    firsts = λ m low. inl (none m, λ j less. omega (arith, less));
  };
  pages = λ j less. absurd (omega (arith, less));
  found = found_none owner.geometry image row owner.index found;
} where
  apart : (b : Bool) → b ≡ false → IsTrue b → ⊥
  apart b h t = cc

-- the owner's numbers are the image's
owned : (owner : Owner) (image : Image) (row : CatalogRow) (k : ℕ) (walk : Walk) → row.id ≡ owner.id → length image ≡ owner.pages
    → length walk.met.items ≡ owner.pages → IsWalk image row k walk → IsOwner image row owner walk k
owned owner image row k walk id pages met stands = record { id = sym id; pages = sym pages; size = met ∙ sym pages; stands = stands }

-- it goes on by a page
pub goes_on : (owner : Owner) (first k : ℕ) (walk new : Walk) (old mid now : Found) (image : Image) (bytes : List ℕ)
    → HasShape owner.geometry owner.pages → length image ≡ owner.pages → length walk.met.items ≡ owner.pages → length walk.firsts ≡ 8
    → length old.extents.items ≡ owner.pages / 8
    → looked_at owner walk bytes ≡ None
    → (fault_of_number owner.geometry owner.pages walk.link.count walk.link.page ≡ None → bytes ≡ page image walk.link.page)
    → TakesPage owner walk.link (get_or walk.firsts (iam_interval bytes) 0) (inside_count owner.geometry owner.pages bytes) bytes mid now
    → GoesOnBehind walk bytes new
    → IsReading owner first k walk old mid image → IsReading owner first (k + 1) new old now image
goes_on owner first k walk new old mid now image bytes shape pages met eight size looked read takes behind h = λ row id starts.
    let was = h row id starts in
    let o = owned owner image row k walk id pages met was.stands in
    let goes = look_goes owner image row k walk bytes o read looked in
    let inside = goes_to_number owner walk bytes looked in
    let low = interval_below owner.geometry owner.pages (iam_interval bytes) shape (goes_to_interval owner walk bytes looked) in
    record {
      stands = step_walk owner image row k walk new bytes o eight (there row k walk o looked) goes.1 (omega (arith, inside, met)) behind;
      pages = λ j less. ⊎_elim (λ old_. was.pages j old_) (λ here. subst (GoesOn owner.geometry image row) (sym here) goes.0) (upto j k less);
      found = step_found owner image row k walk bytes old mid now o goes.1 low (size ∙ ap (λ n. n / 8) (sym pages)) takes was.found;
    } where
      upto : (j k : ℕ) → j < k + 1 → (j < k) ⊎ (j ≡ k)
      upto j k h = search (rules, arith)

      there : (row : CatalogRow) (k : ℕ) (walk : Walk) → IsOwner image row owner walk k → looked_at owner walk bytes ≡ None → pointer image row k ≢ 0
      there row k walk o looked = subst (λ n. n ≢ 0) o.stands.page (goes_nonzero owner.geometry owner.pages walk.link.count walk.link.page
          (none_of (fault_of_number owner.geometry owner.pages walk.link.count walk.link.page) _ _ looked).0)

-- it ends
pub ends : (owner : Owner) (first k : ℕ) (walk : Walk) (old mid now : Found) (image : Image) (bytes : List ℕ) (end : ChainEnd)
    → length image ≡ owner.pages → length walk.met.items ≡ owner.pages → looked_at owner walk bytes ≡ Some end
    → (fault_of_number owner.geometry owner.pages walk.link.count walk.link.page ≡ None → bytes ≡ page image walk.link.page)
    → Adds mid.errors.items now.errors.items (λ x. error_of_end owner.id walk.link.page walk.link.holder bytes end ≡ Some x)
    → now.uses ≡ mid.uses → now.extents ≡ mid.extents → IsReading owner first k walk old mid image
    → (row : CatalogRow) → row.id ≡ owner.id → row.first_iam ≡ first → IsChainRead owner.geometry image row owner.index old now
ends owner first k walk old mid now image bytes end pages met looked read errors uses extents h = λ row id starts.
    let was = h row id starts in
    let o = owned owner image row k walk id pages met was.stands in
    let over = look_ends owner image row k walk bytes end o read looked in
    finish owner image row k old mid now (error_of_end owner.id walk.link.page walk.link.holder bytes end) was.found was.pages over.0 over.1 errors uses extents

-- no chain has as many pages as the file
pub never_full : (owner : Owner) (first : ℕ) (walk : Walk) (old now : Found) (image : Image) → 0 < owner.pages → length image ≡ owner.pages
    → (row : CatalogRow) → row.id ≡ owner.id → row.first_iam ≡ first → IsReading owner first owner.pages walk old now image → ⊥
never_full owner first walk old now image some pages row id starts h =
    let short = chain_is_short owner.geometry image row owner.pages (omega (arith, some, pages)) (h row id starts).pages in omega (arith, short, pages)

-- what a reader tells
pub told_at : (o : Option Image) (x : Image) (P : Image → Type 0) → o ≡ Some x → IfSome o P → P x
told_at None x P at h = cc
told_at (Some y) x P at h = subst P (same_Some y x at) h
