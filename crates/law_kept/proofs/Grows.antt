-- What holds where an object has got a page; and what is shared by the three ways to get one.
use Rattle.std.proofs.Common.{◌≡◌, ℕ, ◌<◌, true, List, Option, Some, None, refl, sym, ap, subst, ◌∙◌}
use Rattle.spec_file.specs.declared.data.Resource.{Resource}
use Rattle.spec_file.specs.declared.pfs.PfsKind.{PfsKind}
use Rattle.spec_file.specs.declared.pfs.PfsKind.TheVariants.{Uniform}
use Rattle.spec_file.specs.CatalogRows.{CatalogRow}
use Rattle.spec_file.specs.Pfs.{expected, is_allocated_byte}
use Rattle.spec_chain.specs.Uses.{pfs_byte}
use Rattle.spec_words.specs.NetChanges.{FileShape}
use Rattle.spec_words.specs.Views.{View, Plan}
use Rattle.spec_words.specs.Words.{◌then◌, give, sees, put_pfs}
use Rattle.spec_alloc.specs.Search.{where_found}
use Rattle.spec_alloc.specs.Chains.{page_taken}
use Rattle.spec_alloc.specs.ObjectPages.{as_allocated, marked_page_taken}
use Rattle.spec_extents.specs.Extents.{Fits, FitsMark}
use Rattle.spec_steps.specs.AtMost.{byte_of}
use Rattle.spec_steps.specs.Acts.{StaysClean}
use Rattle.spec_steps.specs.AllocatedPages.{GetsPage}
use Rattle.spec_steps.specs.PartsRead.{LeavesAllParts}
use Rattle.spec_steps.specs.Sgam.{HasExactSgam}
use Rattle.law_net.specs.GoodViews.{Leads}
use Rattle.law_net.proofs.WordLaws.{leads_then, leads_give, leads_weaker}
use Rattle.law_alloc.proofs.Searches.{sees_reads, leads_from}
use Rattle.law_kept.proofs.PartsTaken.{taken_extents}
use Rattle.law_kept.proofs.Steps.{IsFile, Took, Goes}
use Rattle.law_kept.proofs.Words.{pfs_goes}
use Rattle.law_kept.proofs.Singles.{AreBare, Finds}
use Rattle.law_kept.proofs.NewChains.{taken_reads}

-- the object has page p more, the step is on it alone, and leaves maps clean; and SGAM exact, where others hold extents
-- with bytes. Of the parts it touches but those of its table and of extents that are taken then
pub record Grows (shape : FileShape) (row : CatalogRow) (v : View) (p : ℕ) (w : View) : Type 0 where
  pub stays : StaysClean shape.geometry v.now w.now row.id
  pub gets : GetsPage shape.geometry v.now w.now row p
  pub exact : AreBare shape v → HasExactSgam shape.geometry v.now → HasExactSgam shape.geometry w.now
  pub left : LeavesAllParts shape.geometry v.now w.now row.id (taken_extents w)
  pub taken : (r : Resource) → Took v r → Took w r

-- what is found, and what is then done with it
pub where_leads : (plan : Plan (Option ℕ)) (next : ℕ → Plan ℕ) (v : View) (T K : ℕ → View → Type 0) → Leads plan v (Finds v T) → ((p : ℕ) (w : View) → T p w → Leads (next p) w K) →
    Leads (plan then (λ found. where_found found next)) v (Finds v K)
where_leads plan next v T K finds gives =
    leads_then plan (λ found. where_found found next) v (Finds v K) (leads_weaker plan v (Finds v T) (λ found w. Leads (where_found found next) w (Finds v K)) by_found finds)
  where
    by_found : (found : Option ℕ) (w : View) → Finds v T found w → Leads (where_found found next) w (Finds v K)
    by_found None w same = leads_give None w (Finds v K) same
    by_found (Some p) w h =
        leads_then (next p) (λ q. give (Some q)) w (Finds v K)
        (leads_weaker (next p) w K (λ q x. Leads (give (Some q)) x (Finds v K)) (λ q x k. leads_give (Some q) x (Finds v K) k) (gives p w h))

-- a page that is taken is read, and then something is done
pub after_taken : {A : Type 0} (standing : List ℕ) (p : ℕ) (next : Plan A) (v : View) (K : A → View → Type 0) → Leads next v K → Leads (page_taken standing p then (λ _. next)) v K
after_taken standing p next v K leads =
    leads_then (page_taken standing p) (λ _. next) v K (leads_weaker (page_taken standing p) v _ _ (λ q w k. subst (λ x. Leads next x K) (sym k.1) leads) (taken_reads standing p v))

-- a byte as it should be of a page without rows
pub kind_fits : (kind : PfsKind) (byte : ℕ) → byte ≡ expected kind 0 → Fits byte kind
kind_fits kind byte same = subst (λ b. Fits b kind) (sym same) (record { flags = refl; fullness = λ none. refl })

-- what becomes of the byte 0 where its page becomes allocated
pub zero_taken : (byte : ℕ) → byte ≡ 0 → as_allocated byte ≡ expected Uniform 0
zero_taken byte none = ap as_allocated none

pub uniform_marks : (byte : ℕ) → byte ≡ expected Uniform 0 → FitsMark byte
uniform_marks byte same = subst FitsMark (sym same) (record { allocated = λ is. kind_fits Uniform (expected Uniform 0) refl; unallocated = λ not. absurd (cc) })

pub uniform_allocated : (byte : ℕ) → byte ≡ expected Uniform 0 → is_allocated_byte byte ≡ true
uniform_allocated byte same = ap is_allocated_byte same

-- a page of a marked extent, whose byte is 0, is taken
pub marked_taken : (shape : FileShape) (standing : List ℕ) (p : ℕ) (v : View) → p < shape.pages → IsFile shape v.now → pfs_byte shape.geometry v.now p ≡ 0
    → Leads (marked_page_taken shape standing p) v (λ q w. (q ≡ p) × Goes shape (byte_of p) v w × (pfs_byte shape.geometry w.now p ≡ expected Uniform 0))
marked_taken shape standing p v inside f none =
    let K : ℕ → View → Type 0 = λ q w. (q ≡ p) × Goes shape (byte_of p) v w × (pfs_byte shape.geometry w.now p ≡ expected Uniform 0) in
    let byte : View → ℕ = λ view. pfs_byte shape.geometry view.now p in
    leads_from (sees byte) _ v (λ b. b ≡ byte v) K (sees_reads byte v (λ b. b ≡ byte v) refl) (λ b same.
    leads_then (put_pfs shape p (as_allocated b)) _ v K (leads_weaker (put_pfs shape p (as_allocated b)) v _ _ (λ u w h.
    leads_weaker (page_taken standing p) w _ K (λ q x k. (k.0, subst (Goes shape (byte_of p) v) (sym k.1) h.0, ap (λ y. pfs_byte shape.geometry y.now p) k.1 ∙ h.1 ∙ zero_taken b (same ∙ none)))
    (taken_reads standing p w))
    (pfs_goes shape p (as_allocated b) v inside f)))
