-- A single page leaves a good view good.
use Rattle.std.proofs.Common.{◌≡◌, ℕ, zero, suc, ◌+◌, ◌*◌, ◌/◌, ◌%◌, ◌<◌, ◌≤◌, Bool, true, List, ◌∷◌, Option, Some, None, refl, sym, subst, arith}
use Rattle.std.specs.Prelude.{if◌then◌else◌, filter}
use Rattle.std.specs.List.{list_any, range_with_len}
use Rattle.std.proofs.lemmas.Bool.{and_parts, cond_both}
use Rattle.spec_file.specs.declared.data.Resource.TheVariants as resource
use Rattle.spec_file.specs.Image.{AreBytes}
use Rattle.spec_file.specs.Roles.{is_ordinary, is_system_extent}
use Rattle.spec_words.specs.NetChanges.{FileShape}
use Rattle.spec_words.specs.Views.{View, Plan}
use Rattle.spec_words.specs.Words.{◌then◌, give, sees, take, put_gam, put_sgam, put_pfs, put_page, or_later}
use Rattle.spec_alloc.specs.Search.{where_found, either, first_in, is_spare, pages_in, search}
use Rattle.spec_alloc.specs.SinglePages.{is_shared, is_unused, spare_page, first_page_of, lower_sgam, of_mixed, of_free, single_page}
use Rattle.law_extents.proofs.GoodKinds.{first_ordinary}
use Rattle.law_net.specs.GoodViews.{IsGoodView, Leads, KeepsGood}
use Rattle.law_net.proofs.WordLaws.{leads_then, leads_give, leads_weaker}
use Rattle.law_net.proofs.ReadingLeaves.{Reads}
use Rattle.law_net.proofs.InsertKeeps.{IsGoodOf, extent_taken}
use Rattle.law_net.proofs.WordsKeep.{gam_keeps_good, sgam_keeps_good, pfs_keeps_good, page_keeps_good}
use Rattle.law_alloc.specs.Keeps.{IfFound, IsOwn, SingleKeepsGood}
use Rattle.law_alloc.proofs.Searches.{Any, sees_reads, leads_from, search_reads}

-- a word keeps what is good of this shape
of_shape : (shape : FileShape) (plan : FileShape → Plan (Unit {0})) (v : View) → IsGoodOf shape v → KeepsGood (plan v.shape) v → Leads (plan shape) v (λ u w. IsGoodOf shape w)
of_shape shape plan v g keeps =
    subst (λ s. Leads (plan s) v (λ u w. IsGoodOf s w)) g.same
    (leads_weaker (plan v.shape) v (λ u w. IsGoodView w × (w.shape ≡ v.shape)) (λ u w. IsGoodOf v.shape w) (λ u w h. record { same = h.1; good = h.0 }) (keeps g.good))

pub gam_keeps : (shape : FileShape) (e value : ℕ) (v : View) → e < shape.pages / 8 → value < 2 → IsGoodOf shape v → Leads (put_gam shape e value) v (λ u w. IsGoodOf shape w)
gam_keeps shape e value v lt low g = of_shape shape (λ s. put_gam s e value) v g (gam_keeps_good v e value (subst (λ (s : FileShape). e < s.pages / 8) (sym g.same) lt) low)

pub sgam_keeps : (shape : FileShape) (e value : ℕ) (v : View) → e < shape.pages / 8 → value < 2 → IsGoodOf shape v → Leads (put_sgam shape e value) v (λ u w. IsGoodOf shape w)
sgam_keeps shape e value v lt low g = of_shape shape (λ s. put_sgam s e value) v g (sgam_keeps_good v e value (subst (λ (s : FileShape). e < s.pages / 8) (sym g.same) lt) low)

pub pfs_keeps : (shape : FileShape) (p byte : ℕ) (v : View) → p < shape.pages → byte < 256 → IsGoodOf shape v → Leads (put_pfs shape p byte) v (λ u w. IsGoodOf shape w)
pfs_keeps shape p byte v lt low g = of_shape shape (λ s. put_pfs s p byte) v g (pfs_keeps_good v p byte (subst (λ (s : FileShape). p < s.pages) (sym g.same) lt) low)

pub page_keeps : (shape : FileShape) (p : ℕ) (bytes : List ℕ) (v : View) → IsOwn shape p → AreBytes bytes → IsGoodOf shape v → Leads (put_page p bytes) v (λ u w. IsGoodOf shape w)
page_keeps shape p bytes v own low g =
    of_shape shape (λ s. put_page p bytes) v g
    (page_keeps_good v p bytes (subst (λ (s : FileShape). p < s.pages) (sym g.same) own.0) (subst (λ (s : FileShape). is_ordinary s.geometry p ≡ true) (sym g.same) own.1) low)

-- what keeps, and then what leads somewhere from a good view
pub good_then : {A B : Type 0} (shape : FileShape) (plan : Plan A) (next : A → Plan B) (v : View) (K : B → View → Type 0) → Leads plan v (λ x w. IsGoodOf shape w) →
    ((x : A) (w : View) → IsGoodOf shape w → Leads (next x) w K) → Leads (plan then next) v K
good_then shape plan next v K first later =
    leads_then plan next v K (leads_weaker plan v (λ x w. IsGoodOf shape w) (λ x w. Leads (next x) w K) later first)

extent_low : (p n : ℕ) → p < n → n % 8 ≡ 0 → p / 8 < n / 8
extent_low p n lt e = omega (arith, lt, e)

pub extent_in : (shape : FileShape) (p : ℕ) (v : View) → p < shape.pages → IsGoodOf shape v → p / 8 < shape.pages / 8
extent_in shape p v lt g =
    let good = g.good in
    let old = good.before in
    let file = old.file in
    extent_low p shape.pages lt (subst (λ (s : FileShape). s.pages % 8 ≡ 0) g.same file.whole)

-- plans that keep what is good, and find, or give, a page of the file that objects may own
abbrev pub Found : FileShape → Option ℕ → View → Type 0
Found shape found w = IsGoodOf shape w × IfFound (IsOwn shape) found

abbrev pub Given : FileShape → ℕ → View → Type 0
Given shape p w = IsGoodOf shape w × IsOwn shape p

abbrev pub FindsPage : FileShape → Plan (Option ℕ) → Type 0
FindsPage shape plan = (v : View) → IsGoodOf shape v → Leads plan v (Found shape)

abbrev pub GivesPage : FileShape → Plan ℕ → Type 0
GivesPage shape plan = (v : View) → IsGoodOf shape v → Leads plan v (Given shape)

pub either_finds : (shape : FileShape) (first second : Plan (Option ℕ)) → FindsPage shape first → FindsPage shape second → FindsPage shape (either first second)
either_finds shape first second a b v g =
    leads_then first (λ found. or_later found second) v (Found shape)
    (leads_weaker first v (Found shape) (λ found w. Leads (or_later found second) w (Found shape)) by_found (a v g))
  where
    by_found : (found : Option ℕ) (w : View) → Found shape found w → Leads (or_later found second) w (Found shape)
    by_found None w h = b w h.0
    by_found (Some p) w h = leads_give (Some p) w (Found shape) h

pub found_finds : (shape : FileShape) (plan : Plan (Option ℕ)) (next : ℕ → Plan ℕ) → ((v : View) → Reads plan v (IfFound (IsOwn shape))) → ((p : ℕ) → IsOwn shape p → GivesPage shape (next p)) →
    FindsPage shape (plan then (λ found. where_found found next))
found_finds shape plan next reads gives v g = leads_from plan (λ found. where_found found next) v (IfFound (IsOwn shape)) (Found shape) (reads v) by_found
  where
    by_found : (found : Option ℕ) → IfFound (IsOwn shape) found → Leads (where_found found next) v (Found shape)
    by_found None f = leads_give None v (Found shape) (g, tt)
    by_found (Some p) f =
        leads_then (next p) (λ q. give (Some q)) v (Found shape)
        (leads_weaker (next p) v (Given shape) (λ q w. Leads (give (Some q)) w (Found shape)) (λ q w h. leads_give (Some q) w (Found shape) h) (gives p f v g))

lower_keeps : (shape : FileShape) (e : ℕ) (v : View) → e < shape.pages / 8 → IsGoodOf shape v → Leads (lower_sgam shape e) v (λ u w. IsGoodOf shape w)
lower_keeps shape e v lt g =
    let left : View → Bool = λ view. list_any (is_spare shape view) (pages_in e) in
    leads_from (sees left) (λ (b : Bool). if b then give tt else put_sgam shape e 0) v Any (λ u w. IsGoodOf shape w) (sees_reads left v Any tt)
    (λ b u. cond_both b (give tt) (put_sgam shape e 0) (λ plan. Leads plan v (λ x w. IsGoodOf shape w)) (λ h. leads_give tt v (λ x w. IsGoodOf shape w) g)
    (λ h. sgam_keeps shape e 0 v lt (omega arith) g))

mixed_gives : (shape : FileShape) (byte p : ℕ) → byte < 256 → IsOwn shape p → GivesPage shape (of_mixed shape byte p)
mixed_gives shape byte p low own v g =
    good_then shape (take (resource.Extent (record { 0 = p / 8 }))) _ v (Given shape) (extent_taken shape (p / 8) v (extent_in shape p v own.0 g) g) (λ u w h.
    good_then shape (put_pfs shape p byte) _ w (Given shape) (pfs_keeps shape p byte w own.0 low h) (λ s x k.
    good_then shape (lower_sgam shape (p / 8)) _ x (Given shape) (lower_keeps shape (p / 8) x (extent_in shape p x own.0 k) k) (λ t y l.
    leads_give p y (Given shape) (l, own))))

free_gives : (shape : FileShape) (byte p : ℕ) → byte < 256 → IsOwn shape p → GivesPage shape (of_free shape byte p)
free_gives shape byte p low own v g =
    good_then shape (put_gam shape (p / 8) 0) _ v (Given shape) (gam_keeps shape (p / 8) 0 v (extent_in shape p v own.0 g) (omega arith) g) (λ u w h.
    good_then shape (put_sgam shape (p / 8) 1) _ w (Given shape) (sgam_keeps shape (p / 8) 1 w (extent_in shape p w own.0 h) (omega arith) h) (λ s x k.
    mixed_gives shape byte p low own x k))

-- the first number of a range that passes a test
pub first_kept : (Holds : ℕ → Type 0) (test : ℕ → Bool) (n lo : ℕ) → ((p : ℕ) → lo ≤ p → p < lo + n → test p ≡ true → Holds p) → IfFound Holds (first_in (filter test (range_with_len lo n)))
first_kept Holds test zero lo holds = tt
first_kept Holds test (suc n) lo holds =
    let rest = filter test (range_with_len (lo + 1) n) in
    cond_both (test lo) (lo ∷ rest) rest (λ xs. IfFound Holds (first_in xs)) (λ e. holds lo (omega arith) (omega arith) e)
    (λ e. first_kept Holds test n (lo + 1) (λ p low high. holds p (omega (arith, low)) (omega (arith, high))))

spare_own : (shape : FileShape) (v : View) (e : ℕ) → e < shape.pages / 8 → IfFound (IsOwn shape) (spare_page shape v e)
spare_own shape v e lt =
    first_kept (IsOwn shape) (is_spare shape v) 8 (8 * e) (λ p low high spare. (omega (arith, lt, high), (and_parts (is_ordinary shape.geometry p) _ spare).0))

pub free_own : (shape : FileShape) (v : View) (e : ℕ) → e < shape.pages / 8 → IfFound (IsOwn shape) (first_page_of shape v e)
free_own shape v e lt =
    cond_both (is_system_extent shape.geometry e) None (Some (8 * e)) (IfFound (IsOwn shape)) (λ h. tt)
    (λ h. (omega (arith, lt), first_ordinary shape.geometry e h))

pub single_finds : (shape : FileShape) (byte : ℕ) → byte < 256 → FindsPage shape (single_page shape byte)
single_finds shape byte low =
    either_finds shape _ _
    (found_finds shape (search shape (is_shared shape) (spare_page shape)) (of_mixed shape byte)
    (λ v. search_reads shape (is_shared shape) (spare_page shape) (IsOwn shape) v (λ e lt fit. spare_own shape v e lt)) (λ p own. mixed_gives shape byte p low own))
    (found_finds shape (search shape (is_unused shape) (first_page_of shape)) (of_free shape byte)
    (λ v. search_reads shape (is_unused shape) (first_page_of shape) (IsOwn shape) v (λ e lt fit. free_own shape v e lt)) (λ p own. free_gives shape byte p low own))

pub single_keeps_good : SingleKeepsGood
single_keeps_good v byte low good =
    leads_weaker (single_page v.shape byte) v (Found v.shape) _ (λ found w h. let g = h.0 in (g.good, g.same, h.1))
    (single_finds v.shape byte low v (record { same = refl; good = good }))
