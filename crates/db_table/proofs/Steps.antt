-- What was seen of page 9, and steps that stop.
use Rattle.std.proofs.Common.{◌≡◌, ℕ, Bool, true, false, IsTrue, List, [], ◌∷◌, ◌++◌, Contains, Option, Some, None, Ok, sym, ap, ◌∙◌}
use Rattle.std.proofs.lemmas.Bool.{false≢true}
use Rattle.std.proofs.lemmas.List.Elements.{Contains-append_left, Contains-push}
use Rattle.spec_file.specs.declared.data.Resource.{Resource}
use Rattle.spec_file.specs.declared.data.Resource.TheVariants as resource
use Rattle.spec_file.specs.CatalogRows.{CatalogRow}
use Rattle.spec_file.specs.Image.{page}
use Rattle.spec_words.specs.Views.{View, End, Gives, Stops, Outcome, Plan}
use Rattle.spec_words.specs.Words.{ended, gone_on, by_holder, ◌then◌, look}
use Rattle.spec_words.specs.Tables.{table_of}
use Rattle.db_locks.specs.States.{PlanState}
use Rattle.db_locks.specs.Does.{Does, DoesAs}
use Rattle.db_alloc.specs.Results.{find_stop}

given : List ℕ → End (List ℕ) → List ℕ
given d (Gives x w) = x
given d (Stops refusal) = d

gives : {A : Type 0} → End A → Bool
gives (Gives x w) = true
gives (Stops refusal) = false

gave : (r : Resource) (p : ℕ) (view w : View) (x : List ℕ) (o : Option ℕ) → (by_holder r o (ended (p ∷ []) (Gives (page view.now p) view))).ending ≡ Gives x w → x ≡ page view.now p
unfolding given gives
gave r p view w x None e = sym (ap (given []) e)
gave r p view w x (Some t) e = absurd (false≢true (ap gives e))

look_gave : (r : Resource) (p : ℕ) (view w : View) (x : List ℕ) → (look r p view).ending ≡ Gives x w → x ≡ page view.now p
unfolding look
look_gave r p view w x e = gave r p view w x (view.other r) e

reached_by : (r : Resource) (p : ℕ) (view w : View) (x : List ℕ) (o : Option ℕ) → (by_holder r o (ended (p ∷ []) (Gives (page view.now p) view))).ending ≡ Gives x w
    → Contains (by_holder r o (ended (p ∷ []) (Gives (page view.now p) view))).reached p
unfolding gives
reached_by r p view w x None e = Contains-push [] p
reached_by r p view w x (Some t) e = absurd (false≢true (ap gives e))

look_reached : (r : Resource) (p : ℕ) (view w : View) (x : List ℕ) → (look r p view).ending ≡ Gives x w → Contains (look r p view).reached p
unfolding look
look_reached r p view w x e = reached_by r p view w x (view.other r) e

-- a look that gave page 9 reached it
pub boot_reached : {a b : PlanState} (bytes : List ℕ) → Does a b (look resource.Catalog 9) (Ok bytes) → IsTrue a.told → Contains (look resource.Catalog 9 a.view).reached 9
boot_reached {a} {b} bytes d told = look_reached resource.Catalog 9 a.view b.view bytes (d.exact told)

-- page 9 was read, as it still is
pub boot_seen : {a b : PlanState} (bytes : List ℕ) → Does a b (look resource.Catalog 9) (Ok bytes) → b.view ≡ a.view → IsTrue b.told → bytes ≡ page b.view.now 9
boot_seen {a} {b} bytes d same told =
    look_gave resource.Catalog 9 a.view b.view bytes (d.exact (sym d.stays.told ∙ told)) ∙ ap (λ (v : View). page v.now 9) (sym same)

-- what was reached early is reached still
pub earlier : (looked more most : List ℕ) → Contains looked 9 → Contains ((looked ++ more) ++ most) 9
earlier looked more most h = Contains-append_left (looked ++ more) most 9 (Contains-append_left looked more 9 h)

found_by : {B : Type 0} (view w : View) (x : B) (next : List ℕ → Plan B) (o : Option ℕ) → let first : Outcome (List ℕ) = by_holder resource.Catalog o (ended (9 ∷ []) (Gives (page view.now 9) view)) in
    (gone_on first.reached first.ending next).ending ≡ Gives x w → Contains (gone_on first.reached first.ending next).reached 9
unfolding gives
found_by view w x next None e = Contains-append_left (9 ∷ []) (next (page view.now 9) view).reached 9 (Contains-push [] 9)
found_by view w x next (Some t) e = absurd (false≢true (ap gives e))

name_found : (name : List ℕ) (view w : View) (row : CatalogRow) → (table_of name view).ending ≡ Gives row w → Contains (table_of name view).reached 9
unfolding ◌then◌ look
name_found name view w row e = found_by view w row _ (view.other resource.Catalog) e

-- whoever found a table reached page 9
pub table_reached : {a b : PlanState} (name : List ℕ) {row : CatalogRow} → DoesAs (find_stop name) [] a b (table_of name) (Ok row) → IsTrue a.told → Contains (table_of name a.view).reached 9
table_reached {a} {b} name {row} d told = name_found name a.view b.view row (d.exact told)
