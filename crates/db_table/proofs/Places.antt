-- The id, the entry and the name that a new object gets, and the plan of CREATE by its parts.
use Rattle.std.proofs.Common.{◌≡◌, ℕ, ◌≤◌, true, false, List, [], ◌∷◌, length, map, Option, Some, None, Ok, Err, refl, sym, ap, ◌∙◌, arith}
use Rattle.std.specs.Prelude.{slice_get, is_some}
use Rattle.std.proofs.lemmas.List.{length-map}
use Rattle.spec_file.specs.declared.data.Resource.TheVariants as resource
use Rattle.spec_file.specs.CatalogRows.{CatalogRow, rows_of}
use Rattle.spec_script.specs.declared.reply.Reply.{Reply}
use Rattle.spec_plan.specs.Refusals.{same_name, too_many_tables}
use Rattle.spec_plan.specs.Reading.{is_catalog, named_among}
use Rattle.spec_words.specs.NetChanges.{FileShape}
use Rattle.spec_words.specs.Views.{Plan}
use Rattle.spec_words.specs.Words.{◌then◌, give, refuse, where_good, look, found_or}
use Rattle.spec_alloc.specs.Search.{first_in}
use Rattle.spec_alloc.specs.Objects.{free_id, free_entry, entry_of}
use Rattle.spec_statements.specs.Objects.{unless_named, create_plan}
use Rattle.db_cat.specs.Changes as cat
use Rattle.db_cat.specs.Rows.{row_of}
use Rattle.db_cat.specs.declared.rows.CatRow.{CatRow}
use Rattle.db_cat.proofs.Ids.{few_of}
use Rattle.db_locks.specs.States.{PlanState}
use Rattle.db_locks.specs.Does.{DoesAs}
use Rattle.db_locks.proofs.PlanLaws.{does_then, does_stop, does_give, does_refuse}
use Rattle.db_alloc.specs.Tables.{catalog_rows}
use Rattle.db_alloc.proofs.Steps.{then_assoc, give_then, then_same, found_none}
use Rattle.db_table.specs.declared.place.CreateStop.TheVariants.{SameName, TooMany}
use Rattle.db_table.specs.Creates.{create_stop, place_among, place_chosen, heap_created}

-- ---- the same lists

first_is : (xs : List ℕ) → slice_get xs 0 ≡ first_in xs
first_is [] = refl
first_is (x ∷ xs) = refl

pub entry_is : (boot : List ℕ) → cat.free_entry boot ≡ free_entry boot
unfolding cat.entries_where
entry_is boot = first_is _

pub own_entry_is : (boot : List ℕ) (id : ℕ) → cat.entry_of boot id ≡ entry_of boot id
unfolding cat.entries_where
own_entry_is boot id = first_is _

pub id_is : (boot : List ℕ) (rows : List CatalogRow) → rows ≡ rows_of boot → slice_get (cat.free_ids rows) 0 ≡ free_id boot
unfolding cat.free_ids
id_is boot rows are = ap (λ rs. slice_get (cat.free_ids rs) 0) are ∙ first_is _

pub few_rows : (boot : List ℕ) (rows : List CatRow) → map row_of rows ≡ rows_of boot → length rows ≤ 128
few_rows boot rows are = omega (arith, sym (length-map rows row_of), ap length are, few_of boot)

-- ---- the name

pub name_there : (name looked : List ℕ) (a : PlanState) (boot : List ℕ) (rows : List CatalogRow) → rows ≡ rows_of boot → is_some (named_among rows name) ≡ true
    → DoesAs (create_stop name) looked a a (unless_named boot name) (Err SameName)
name_there name looked a boot rows are e =
    let there : is_some (named_among (rows_of boot) name) ≡ true = ap (λ rs. is_some (named_among rs name)) (sym are) ∙ e in
    rw there (does_refuse looked a (same_name name) SameName refl)

pub name_free : (name looked : List ℕ) (a : PlanState) (boot : List ℕ) (rows : List CatalogRow) → rows ≡ rows_of boot → is_some (named_among rows name) ≡ false
    → DoesAs (create_stop name) looked a a (unless_named boot name) (Ok tt)
name_free name looked a boot rows are e =
    let free : is_some (named_among (rows_of boot) name) ≡ false = ap (λ rs. is_some (named_among rs name)) (sym are) ∙ e in
    rw free (does_give looked a tt)

-- no entry is free
pub no_place : (name : List ℕ) (a : PlanState) (id entry : Option ℕ) → entry ≡ None
    → DoesAs {A = ℕ × ℕ} (create_stop name) [] a a (found_or id (refuse too_many_tables) then (λ id. found_or entry (refuse too_many_tables) then (λ i. give (id, i)))) (Err TooMany)
no_place name a None entry none = does_stop {meaning = create_stop name} (create_stop name) _ TooMany refl (does_refuse [] a too_many_tables TooMany refl)
no_place name a (Some id) entry none =
    does_then _ (does_give [] a id) (does_stop {meaning = create_stop name} (create_stop name) _ TooMany refl (found_none [] a entry too_many_tables TooMany none refl))

-- ---- the plan

abbrev created : FileShape → List ℕ → ℕ × ℕ → Plan Reply
created shape name place = heap_created shape name place.0 place.1

among_then : (shape : FileShape) (name boot : List ℕ) → (place_among name boot then created shape name)
    ≡ (unless_named boot name then (λ _. found_or (free_id boot) (refuse too_many_tables) then (λ id. found_or (free_entry boot) (refuse too_many_tables) then (λ i. heap_created shape name id i))))
among_then shape name boot =
    let many : Plan ℕ = refuse too_many_tables in
    then_assoc (unless_named boot name) _ (created shape name)
    ∙ then_same (unless_named boot name) (λ _. then_assoc (found_or (free_id boot) many) _ (created shape name)
    ∙ then_same (found_or (free_id boot) many) (λ id. then_assoc (found_or (free_entry boot) many) _ (created shape name)
    ∙ then_same (found_or (free_entry boot) many) (λ i. give_then (id, i) (created shape name))))

chosen_then : (shape : FileShape) (name boot : List ℕ) → (place_chosen name boot then created shape name)
    ≡ (where_good (is_catalog boot) 9 then (λ _. place_among name boot then created shape name))
chosen_then shape name boot =
    then_assoc (catalog_rows boot) (λ _. place_among name boot) (created shape name)
    ∙ then_assoc (where_good (is_catalog boot) 9) (λ _. give (rows_of boot)) (λ _. place_among name boot then created shape name)
    ∙ then_same (where_good (is_catalog boot) 9) (λ _. give_then (rows_of boot) (λ _. place_among name boot then created shape name))

pub create_parts : (shape : FileShape) (name : List ℕ) → (look resource.Catalog 9 then (λ boot. place_chosen name boot then (λ place. heap_created shape name place.0 place.1))) ≡ create_plan shape name
create_parts shape name =
    then_same (look resource.Catalog 9) (λ boot. chosen_then shape name boot ∙ then_same (where_good (is_catalog boot) 9) (λ _. among_then shape name boot))
