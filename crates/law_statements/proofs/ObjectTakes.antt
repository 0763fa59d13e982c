-- Whatever CREATE or DROP gives, it has taken something.
use Rattle.std.proofs.Common.{ℕ, ◌+◌, ◌*◌, List, Option, Some, None, replicate}
use Rattle.spec_file.specs.declared.data.Resource.TheVariants as resource
use Rattle.spec_file.specs.CatalogBytes.{entry_bytes}
use Rattle.spec_file.specs.Image.{page}
use Rattle.spec_log.specs.declared.item.Cell.TheVariants.{Bytes}
use Rattle.spec_script.specs.declared.reply.Reply.TheVariants.{Done}
use Rattle.spec_words.specs.NetChanges.{FileShape}
use Rattle.spec_words.specs.Views.{View}
use Rattle.spec_words.specs.Words.{◌then◌, give, sees, take, with_taken}
use Rattle.spec_alloc.specs.Search.{where_found}
use Rattle.spec_alloc.specs.Objects.{entry_of, entry_emptied}
use Rattle.spec_statements.specs.Objects.{new_heap, entry_put, create_plan, drop_plan}
use Rattle.law_net.specs.GoodViews.{Leads}
use Rattle.law_net.proofs.WordLaws.{leads_then, leads_give, leads_sees, leads_take, leads_write, leads_weaker}
use Rattle.law_net.proofs.InsertTakes.{HasTaken, taking_takes, behind}

abbrev Took : {A : Type 0} → A → View → Type 0
Took x w = HasTaken w

-- where CREATE gives a reply it has taken something
pub create_takes : (shape : FileShape) (name : List ℕ) (v : View) → Leads (create_plan shape name) v (λ reply w. HasTaken w)
create_takes shape name v =
    behind _ _ v Took (λ boot a.
    behind _ _ a Took (λ x b.
    behind _ _ b Took (λ y c.
    behind _ _ c Took (λ id d.
    behind _ _ d Took (λ i e.
    behind _ _ e Took (λ z f.
    behind _ _ f Took (λ q g.
    leads_then (entry_put i (new_heap id name q)) (λ _. give Done) g Took
    (leads_write resource.Catalog (Bytes (record { 0 = 9 }) (96 + 40 * i)) (entry_bytes (new_heap id name q)) g _ (λ free. leads_give Done _ Took (taking_takes resource.Catalog g))))))))))

emptied_took : (entry : Option ℕ) (v : View) → HasTaken v → Leads (where_found entry entry_emptied) v Took
emptied_took None v h = leads_give None v Took h
emptied_took (Some i) v h =
    leads_then (entry_emptied i) (λ y. give (Some y)) v Took
    (leads_write resource.Catalog (Bytes (record { 0 = 9 }) (96 + 40 * i)) (replicate 40 0) v _ (λ free. leads_give _ _ Took (taking_takes resource.Catalog v)))

entry_took : (id : ℕ) (v : View) → HasTaken v → Leads (sees (λ view. entry_of (page view.now 9) id) then (λ entry. where_found entry entry_emptied then (λ _. give Done))) v Took
entry_took id v h =
    leads_then (sees (λ view. entry_of (page view.now 9) id)) (λ entry. where_found entry entry_emptied then (λ _. give Done)) v Took
    (leads_sees (λ view. entry_of (page view.now 9) id) v _
    (leads_then (where_found (entry_of (page v.now 9) id) entry_emptied) (λ _. give Done) v Took
    (leads_weaker (where_found (entry_of (page v.now 9) id) entry_emptied) v Took _ (λ x w k. leads_give Done w Took k) (emptied_took (entry_of (page v.now 9) id) v h))))

-- and where DROP does
pub drop_takes : (shape : FileShape) (name : List ℕ) (v : View) → Leads (drop_plan shape name) v (λ reply w. HasTaken w)
drop_takes shape name v =
    behind _ _ v Took (λ row a.
    behind _ _ a Took (λ x b.
    behind _ _ b Took (λ y c.
    leads_then (take resource.Catalog) _ c Took
    (leads_take resource.Catalog c _ (λ free. entry_took row.id (with_taken resource.Catalog c) (taking_takes resource.Catalog c))))))
