-- Each word that writes leaves a good view good.
use Rattle.std.proofs.Common.{◌≡◌, ℕ, ◌<◌, ◌≤◌, refl, arith}
use Rattle.spec_file.specs.declared.data.Resource.TheVariants as resource
use Rattle.spec_words.specs.Views.{View, Plan}
use Rattle.spec_words.specs.Words.{take, put_gam, put_sgam, put_pfs, put_page, put_catalog}
use Rattle.law_net.specs.GoodViews.{IsGoodView, Leads, KeepsGood, TakeKeepsGood, GamKeepsGood, SgamKeepsGood, PfsKeepsGood, PageKeepsGood, CatalogKeepsGood}
use Rattle.law_net.proofs.GoodViews.{page_cell, catalog_cell, pfs_cell, gam_cell, sgam_cell}
use Rattle.law_net.proofs.WordLaws.{leads_weaker}
use Rattle.law_net.proofs.InsertKeeps.{IsGoodOf, write_keeps, take_keeps}

-- a good view of the shape it has
kept : (plan : Plan (Unit {0})) (v : View) → (IsGoodOf v.shape v → Leads plan v (λ u w. IsGoodOf v.shape w)) → KeepsGood plan v
kept plan v h good =
    leads_weaker plan v (λ u w. IsGoodOf v.shape w) (λ u w. IsGoodView w × (w.shape ≡ v.shape)) (λ u w g. (g.good, g.same)) (h (record { same = refl; good = good }))

enough : (v : View) → IsGoodView v → 16 ≤ v.shape.pages
enough v good = let old = good.before in let file = old.file in file.low

nine : (n : ℕ) → 16 ≤ n → 9 < n
nine n le = omega (arith, le)

pub take_keeps_good : TakeKeepsGood
take_keeps_good v r may = kept (take r) v (take_keeps v.shape r v may)

pub gam_keeps_good : GamKeepsGood
gam_keeps_good v e value lt low = kept (put_gam v.shape e value) v
    (λ g. let good = g.good in let old = good.after in write_keeps v.shape (resource.Extent (record { 0 = e })) _ _ v (gam_cell v.shape e value old.file lt low) g)

pub sgam_keeps_good : SgamKeepsGood
sgam_keeps_good v e value lt low = kept (put_sgam v.shape e value) v
    (λ g. let good = g.good in let old = good.after in write_keeps v.shape (resource.Extent (record { 0 = e })) _ _ v (sgam_cell v.shape e value old.file lt low) g)

pub pfs_keeps_good : PfsKeepsGood
pfs_keeps_good v p byte lt low = kept (put_pfs v.shape p byte) v (λ g. write_keeps v.shape (resource.Byte (record { 0 = p })) _ _ v (pfs_cell v.shape p byte (enough v g.good) lt low) g)

pub page_keeps_good : PageKeepsGood
page_keeps_good v p bytes lt ordinary low = kept (put_page p bytes) v (λ g. write_keeps v.shape (resource.Page (record { 0 = p })) _ bytes v (page_cell v.shape p bytes lt ordinary low) g)

pub catalog_keeps_good : CatalogKeepsGood
catalog_keeps_good v at bytes low = kept (put_catalog at bytes) v (λ g. write_keeps v.shape resource.Catalog _ bytes v (catalog_cell v.shape at bytes (nine v.shape.pages (enough v g.good)) low) g)
