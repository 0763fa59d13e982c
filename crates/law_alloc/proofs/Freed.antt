-- A page that is given back leaves a good view good.
use Rattle.std.proofs.Common.{◌≡◌, ℕ, ◌/◌, ◌<◌, Bool, refl, sym, subst, arith}
use Rattle.std.specs.Prelude.{if◌then◌else◌}
use Rattle.std.proofs.lemmas.Bool.{cond_both}
use Rattle.spec_file.specs.declared.data.Resource.TheVariants as resource
use Rattle.spec_words.specs.NetChanges.{FileShape}
use Rattle.spec_words.specs.Views.{View, Plan}
use Rattle.spec_words.specs.Words.{◌then◌, give, sees, take, put_gam, put_sgam, put_pfs}
use Rattle.spec_alloc.specs.Search.{gam_read, sgam_read, pfs_read}
use Rattle.spec_alloc.specs.Freeing.{is_in_use, put_bits, extent_freed, shared_freed, marked_freed}
use Rattle.law_net.specs.GoodViews.{Leads}
use Rattle.law_net.proofs.WordLaws.{leads_give, leads_weaker}
use Rattle.law_net.proofs.InsertKeeps.{IsGoodOf, extent_taken}
use Rattle.law_alloc.specs.Keeps.{SharedKeepsGood, MarkedKeepsGood}
use Rattle.law_alloc.proofs.Searches.{Any, sees_reads, leads_from, map_reads}
use Rattle.law_alloc.proofs.Singles.{gam_keeps, sgam_keeps, pfs_keeps, good_then, extent_in}

abbrev pub Good : {A : Type 0} → FileShape → A → View → Type 0
Good shape x w = IsGoodOf shape w

bits_keep : (shape : FileShape) (e : ℕ) (in_use : Bool) (v : View) → e < shape.pages / 8 → IsGoodOf shape v → Leads (put_bits shape e in_use) v (Good shape)
bits_keep shape e in_use v lt g =
    cond_both in_use (put_sgam shape e 1) (put_sgam shape e 0 then (λ _. put_gam shape e 1)) (λ plan. Leads plan v (Good shape))
    (λ h. sgam_keeps shape e 1 v lt (omega arith) g)
    (λ h. good_then shape (put_sgam shape e 0) (λ _. put_gam shape e 1) v (Good shape) (sgam_keeps shape e 0 v lt (omega arith) g) (λ u w k. gam_keeps shape e 1 w lt (omega arith) k))

pub shared_keeps : (shape : FileShape) (p : ℕ) (v : View) → p < shape.pages → IsGoodOf shape v → Leads (shared_freed shape p) v (Good shape)
shared_keeps shape p v lt g =
    leads_from (pfs_read shape p) _ v Any (Good shape) (map_reads _ _ v) (λ a b.
    good_then shape (take (resource.Extent (record { 0 = p / 8 }))) _ v (Good shape) (extent_taken shape (p / 8) v (extent_in shape p v lt g) g) (λ u w h.
    leads_from (gam_read shape (p / 8)) _ w Any (Good shape) (map_reads _ _ w) (λ c d.
    leads_from (sgam_read shape (p / 8)) _ w Any (Good shape) (map_reads _ _ w) (λ c d.
    good_then shape (put_pfs shape p 0) _ w (Good shape) (pfs_keeps shape p 0 w lt (omega arith) h) (λ s x k.
    leads_from (sees (is_in_use shape (p / 8))) (put_bits shape (p / 8)) x Any (Good shape) (sees_reads (is_in_use shape (p / 8)) x Any tt) (λ in_use t.
    bits_keep shape (p / 8) in_use x (extent_in shape p x lt k) k))))))

extent_keeps : (shape : FileShape) (e : ℕ) (in_use : Bool) (v : View) → e < shape.pages / 8 → IsGoodOf shape v → Leads (extent_freed shape e in_use) v (Good shape)
extent_keeps shape e in_use v lt g =
    let reading : Plan (Unit {0}) = gam_read shape e then (λ _. sgam_read shape e) in
    let freeing : Plan (Unit {0}) = take (resource.Extent (record { 0 = e })) then (λ _. gam_read shape e then (λ _. sgam_read shape e then (λ _. put_gam shape e 1))) in
    cond_both in_use reading freeing (λ plan. Leads plan v (Good shape))
    (λ h. leads_from (gam_read shape e) (λ _. sgam_read shape e) v Any (Good shape) (map_reads _ _ v) (λ a b.
    leads_weaker (sgam_read shape e) v (λ x w. (w ≡ v) × Unit {0}) (Good shape) (λ x w k. same_view w k.0) (map_reads _ _ v)))
    (λ h. good_then shape (take (resource.Extent (record { 0 = e }))) _ v (Good shape) (extent_taken shape e v lt g) (λ u w k.
    leads_from (gam_read shape e) _ w Any (Good shape) (map_reads _ _ w) (λ c d.
    leads_from (sgam_read shape e) _ w Any (Good shape) (map_reads _ _ w) (λ c d.
    gam_keeps shape e 1 w lt (omega arith) k))))
  where
    same_view : (w : View) → w ≡ v → IsGoodOf shape w
    same_view w e = subst (IsGoodOf shape) (sym e) g

pub marked_keeps : (shape : FileShape) (p : ℕ) (v : View) → p < shape.pages → IsGoodOf shape v → Leads (marked_freed shape p) v (Good shape)
marked_keeps shape p v lt g =
    leads_from (pfs_read shape p) _ v Any (Good shape) (map_reads _ _ v) (λ a b.
    good_then shape (put_pfs shape p 0) _ v (Good shape) (pfs_keeps shape p 0 v lt (omega arith) g) (λ s x k.
    leads_from (sees (is_in_use shape (p / 8))) _ x Any (Good shape) (sees_reads (is_in_use shape (p / 8)) x Any tt) (λ in_use t.
    good_then shape (extent_freed shape (p / 8) in_use) (λ _. give in_use) x (Good shape) (extent_keeps shape (p / 8) in_use x (extent_in shape p x lt k) k) (λ u y l.
    leads_give in_use y (Good shape) l))))

pub shared_keeps_good : SharedKeepsGood
shared_keeps_good v p lt good =
    leads_weaker (shared_freed v.shape p) v (Good v.shape) _ (λ u w g. (g.good, g.same)) (shared_keeps v.shape p v lt (record { same = refl; good = good }))

pub marked_keeps_good : MarkedKeepsGood
marked_keeps_good v p lt good =
    leads_weaker (marked_freed v.shape p) v (Good v.shape) _ (λ u w g. (g.good, g.same)) (marked_keeps v.shape p v lt (record { same = refl; good = good }))
