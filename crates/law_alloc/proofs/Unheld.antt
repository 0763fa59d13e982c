-- What another transaction holds is never taken as a single page.
use Rattle.std.proofs.Common.{◌≡◌, ℕ, ◌/◌, Bool, List, ◌∷◌, Option, Some, None, refl, sym, ap, ◌∙◌}
use Rattle.std.specs.Prelude.{if◌then◌else◌}
use Rattle.std.specs.List.{list_any}
use Rattle.std.proofs.lemmas.Bool.{cond_both}
use Rattle.spec_file.specs.declared.data.Resource.{Resource}
use Rattle.spec_file.specs.declared.data.Resource.TheVariants as resource
use Rattle.spec_log.specs.declared.item.Cell.{Cell}
use Rattle.spec_words.specs.NetChanges.{FileShape}
use Rattle.spec_words.specs.Takes.{is_among}
use Rattle.spec_words.specs.Views.{View, Plan}
use Rattle.spec_words.specs.Words.{◌then◌, give, sees, take, write, put_gam, put_sgam, put_pfs, with_taken, or_later}
use Rattle.spec_alloc.specs.Search.{where_found, either, is_spare, pages_in, search}
use Rattle.spec_alloc.specs.SinglePages.{is_shared, is_unused, spare_page, first_page_of, lower_sgam, of_mixed, of_free, single_page}
use Rattle.law_net.specs.GoodViews.{Leads}
use Rattle.law_net.proofs.WordLaws.{leads_then, leads_give, leads_take, leads_write, leads_weaker}
use Rattle.law_net.proofs.ReadingLeaves.{Reads}
use Rattle.law_alloc.specs.Keeps.{IfFound}
use Rattle.law_alloc.specs.Unheld.{IsUnheld, SingleIsUnheld}
use Rattle.law_alloc.proofs.Searches.{Any, sees_reads, leads_from, search_reads}

-- who holds what stays the same
abbrev Same : View → View → Type 0
Same v w = w.other ≡ v.other

taken_same : (r : Resource) (v : View) → Same v (with_taken r v)
taken_same r v = cond_both (is_among v.taken r) v (record v { taken = r ∷ v.taken }) (λ w. w.other ≡ v.other) (λ e. refl) (λ e. refl)

take_unheld : (r : Resource) (v : View) → Leads (take r) v (λ u w. Same v w × (v.other r ≡ None))
take_unheld r v = leads_take r v (λ u w. Same v w × (v.other r ≡ None)) (λ free. (taken_same r v, free))

write_unheld : (r : Resource) (cell : Cell) (bytes : List ℕ) (v : View) → Leads (write r cell bytes) v (λ u w. Same v w × (v.other r ≡ None))
write_unheld r cell bytes v = leads_write r cell bytes v (λ u w. Same v w × (v.other r ≡ None)) (λ free. (taken_same r v, free))

lower_same : (shape : FileShape) (e : ℕ) (v : View) → Leads (lower_sgam shape e) v (λ u w. Same v w)
lower_same shape e v =
    let left : View → Bool = λ view. list_any (is_spare shape view) (pages_in e) in
    leads_from (sees left) (λ (b : Bool). if b then give tt else put_sgam shape e 0) v Any (λ u w. Same v w) (sees_reads left v Any tt)
    (λ b u. cond_both b (give tt) (put_sgam shape e 0) (λ plan. Leads plan v (λ x w. Same v w)) (λ h. leads_give tt v (λ x w. Same v w) refl)
    (λ h. leads_weaker (put_sgam shape e 0) v (λ x w. Same v w × (v.other (resource.Extent (record { 0 = e })) ≡ None)) (λ x w. Same v w) (λ x w k. k.0) (write_unheld _ _ _ v)))

abbrev Given : View → ℕ → View → Type 0
Given v p w = Same v w × IsUnheld v p

mixed_unheld : (shape : FileShape) (byte p : ℕ) (v : View) → Leads (of_mixed shape byte p) v (Given v)
mixed_unheld shape byte p v =
    let extent = resource.Extent (record { 0 = p / 8 }) in
    let own = resource.Byte (record { 0 = p }) in
    leads_then (take extent) _ v (Given v) (leads_weaker (take extent) v (λ u w. Same v w × (v.other extent ≡ None)) _ (λ u w h.
    leads_then (put_pfs shape p byte) _ w (Given v) (leads_weaker (put_pfs shape p byte) w (λ s x. Same w x × (w.other own ≡ None)) _ (λ s x k.
    leads_then (lower_sgam shape (p / 8)) (λ _. give p) x (Given v) (leads_weaker (lower_sgam shape (p / 8)) x (λ t y. Same x y) (λ t y. Leads (give p) y (Given v)) (λ t y l.
    leads_give p y (Given v) (l ∙ (k.0 ∙ h.0), (h.1, ap (λ (o : Resource → Option ℕ). o own) (sym h.0) ∙ k.1))) (lower_same shape (p / 8) x)))
    (write_unheld _ _ _ w)))
    (take_unheld extent v))

moved : (v w : View) (p : ℕ) (x : View) → Same v w → Given w p x → Given v p x
moved v w p x same h =
    let unheld = h.1 in
    (h.0 ∙ same, (ap (λ (o : Resource → Option ℕ). o (resource.Extent (record { 0 = p / 8 }))) (sym same) ∙ unheld.0, ap (λ (o : Resource → Option ℕ). o (resource.Byte (record { 0 = p }))) (sym same) ∙ unheld.1))

free_unheld : (shape : FileShape) (byte p : ℕ) (v : View) → Leads (of_free shape byte p) v (Given v)
free_unheld shape byte p v =
    let extent = resource.Extent (record { 0 = p / 8 }) in
    leads_then (put_gam shape (p / 8) 0) _ v (Given v) (leads_weaker (put_gam shape (p / 8) 0) v (λ u w. Same v w × (v.other extent ≡ None)) _ (λ u w h.
    leads_then (put_sgam shape (p / 8) 1) _ w (Given v) (leads_weaker (put_sgam shape (p / 8) 1) w (λ u x. Same w x × (w.other extent ≡ None)) _ (λ s x k.
    leads_weaker (of_mixed shape byte p) x (Given x) (Given v) (λ q y l. moved v x q y (k.0 ∙ h.0) l) (mixed_unheld shape byte p x)) (write_unheld _ _ _ w)))
    (write_unheld _ _ _ v))

abbrev Found : View → Option ℕ → View → Type 0
Found v found w = Same v w × IfFound (IsUnheld v) found

found_unheld : (plan : Plan (Option ℕ)) (next : ℕ → Plan ℕ) (v : View) → Reads plan v (IfFound Any) → ((p : ℕ) → Leads (next p) v (Given v)) → Leads (plan then (λ found. where_found found next)) v (Found v)
found_unheld plan next v reads gives = leads_from plan (λ found. where_found found next) v (IfFound Any) (Found v) reads by_found
  where
    by_found : (found : Option ℕ) → IfFound Any found → Leads (where_found found next) v (Found v)
    by_found None f = leads_give None v (Found v) (refl, tt)
    by_found (Some p) f =
        leads_then (next p) (λ q. give (Some q)) v (Found v)
        (leads_weaker (next p) v (Given v) (λ q w. Leads (give (Some q)) w (Found v)) (λ q w h. leads_give (Some q) w (Found v) h) (gives p))

any_found : (found : Option ℕ) → IfFound Any found
any_found None = tt
any_found (Some p) = tt

either_unheld : (first second : Plan (Option ℕ)) (v : View) → Leads first v (Found v) → ((w : View) → Leads second w (Found w)) → Leads (either first second) v (Found v)
either_unheld first second v a b =
    leads_then first (λ found. or_later found second) v (Found v)
    (leads_weaker first v (Found v) (λ found w. Leads (or_later found second) w (Found v)) by_found a)
  where
    carried : (w : View) → Same v w → (found : Option ℕ) (x : View) → Found w found x → Found v found x
    carried w same None x h = (h.0 ∙ same, tt)
    carried w same (Some p) x h = moved v w p x same h

    by_found : (found : Option ℕ) (w : View) → Found v found w → Leads (or_later found second) w (Found v)
    by_found None w h = leads_weaker second w (Found w) (Found v) (carried w h.0) (b w)
    by_found (Some p) w h = leads_give (Some p) w (Found v) h

pub single_is_unheld : SingleIsUnheld
single_is_unheld shape v byte =
    leads_weaker (single_page shape byte) v (Found v) (λ found w. IfFound (IsUnheld v) found) (λ found w h. h.1)
    (either_unheld _ _ v
    (found_unheld (search shape (is_shared shape) (spare_page shape)) (of_mixed shape byte) v
    (search_reads shape (is_shared shape) (spare_page shape) Any v (λ e lt fit. any_found (spare_page shape v e))) (λ p. mixed_unheld shape byte p v))
    (λ w. found_unheld (search shape (is_unused shape) (first_page_of shape)) (of_free shape byte) w
    (search_reads shape (is_unused shape) (first_page_of shape) Any w (λ e lt fit. any_found (first_page_of shape w e))) (λ p. free_unheld shape byte p w)))
