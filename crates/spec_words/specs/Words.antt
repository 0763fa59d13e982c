-- The words of plans. The order of words is the order of refusals. They stay closed in proofs, which use their laws.
use Rattle.std.specs.Prelude.{ℕ, Bool, if◌then◌else◌, List, [], ◌∷◌, ◌++◌, Option, Some, None}
use Rattle.spec_file.specs.declared.data.Resource.{Resource}
use Rattle.spec_file.specs.declared.data.Resource.TheVariants as resource
use Rattle.spec_file.specs.Image.{page}
use Rattle.spec_file.specs.Places.{gam_place, sgam_place, pfs_place}
use Rattle.spec_log.specs.declared.item.Cell.{Cell}
use Rattle.spec_log.specs.declared.item.Cell.TheVariants.{Bytes, Bit}
use Rattle.spec_log.specs.Cells as cells
use Rattle.spec_script.specs.declared.reply.Refusal.{Refusal}
use Rattle.spec_plan.specs.Refusals.{held_by, bad_page}
use Rattle.spec_words.specs.NetChanges.{FileShape}
use Rattle.spec_words.specs.Takes.{is_among}
use Rattle.spec_words.specs.Views.{View, End, Gives, Stops, Outcome, Plan}

infixr 3 ◌then◌
abbrev pub ended : {A : Type 0} → List ℕ → End A → Outcome A
ended reached ending = record { reached = reached; ending = ending }

abbrev pub gone_on : {A B : Type 0} → List ℕ → End A → (A → Plan B) → Outcome B
gone_on reached (Gives x view) next = ended (reached ++ (next x view).reached) (next x view).ending
gone_on reached (Stops refusal) next = ended reached (Stops refusal)

-- one plan, and then another that may use what it gives
unfoldable pub ◌then◌ : {A B : Type 0} → Plan A → (A → Plan B) → Plan B
◌then◌ plan next view = gone_on (plan view).reached (plan view).ending next

unfoldable pub give : {A : Type 0} → A → Plan A
give x view = ended [] (Gives x view)

unfoldable pub refuse : {A : Type 0} → Refusal → Plan A
refuse refusal view = ended [] (Stops refusal)

-- what the view says, without a page being read
unfoldable pub sees : {A : Type 0} → (View → A) → Plan A
sees f view = ended [] (Gives (f view) view)

abbrev pub by_holder : {A : Type 0} → Resource → Option ℕ → Outcome A → Outcome A
by_holder r None free = free
by_holder r (Some t) free = ended [] (Stops (held_by r t))

-- 1222 where another transaction holds the resource
unfoldable pub unless_held : Resource → Plan (Unit {0})
unless_held r view = by_holder r (view.other r) (ended [] (Gives tt view))

-- 824 at page p, unless what is asked of it holds
unfoldable pub where_good : Bool → ℕ → Plan (Unit {0})
where_good good p view = if good then ended [] (Gives tt view) else ended [] (Stops (bad_page p))

-- page p is read as it now stands: 1222 where another transaction holds the resource
unfoldable pub look : Resource → ℕ → Plan (List ℕ)
look r p view = by_holder r (view.other r) (ended (p ∷ []) (Gives (page view.now p) view))

-- page p is read as it now stands, under no resource: a page of maps
unfoldable pub reach : ℕ → Plan (List ℕ)
reach p view = ended (p ∷ []) (Gives (page view.now p) view)

abbrev pub with_taken : Resource → View → View
with_taken r view = if is_among view.taken r then view else record view { taken = r ∷ view.taken }

-- the resource is taken: 1222 where another transaction holds it
unfoldable pub take : Resource → Plan (Unit {0})
take r view = by_holder r (view.other r) (ended [] (Gives tt (with_taken r view)))

abbrev pub written : Cell → List ℕ → View → View
written cell bytes view = record view { now = cells.put view.now cell bytes }

-- the bytes are put into a cell that the resource guards, which is taken: 1222 where another transaction holds it
unfoldable pub write : Resource → Cell → List ℕ → Plan (Unit {0})
write r cell bytes view = by_holder r (view.other r) (ended [] (Gives tt (written cell bytes (with_taken r view))))

-- the GAM bit, and the SGAM bit, of extent e
abbrev pub put_gam : FileShape → ℕ → ℕ → Plan (Unit {0})
put_gam shape e value =
    write (resource.Extent (record { 0 = e })) (Bit (record { 0 = (gam_place shape.geometry e).page }) (gam_place shape.geometry e).at) (value ∷ [])

abbrev pub put_sgam : FileShape → ℕ → ℕ → Plan (Unit {0})
put_sgam shape e value =
    write (resource.Extent (record { 0 = e })) (Bit (record { 0 = (sgam_place shape.geometry e).page }) (sgam_place shape.geometry e).at) (value ∷ [])

-- the PFS byte of page p
abbrev pub put_pfs : FileShape → ℕ → ℕ → Plan (Unit {0})
put_pfs shape p byte =
    write (resource.Byte (record { 0 = p })) (Bytes (record { 0 = (pfs_place shape.geometry p).page }) (pfs_place shape.geometry p).at) (byte ∷ [])

-- all bytes of page p
abbrev pub put_page : ℕ → List ℕ → Plan (Unit {0})
put_page p bytes = write (resource.Page (record { 0 = p })) (Bytes (record { 0 = p }) 0) bytes

-- bytes of page 9, from one on
abbrev pub put_catalog : ℕ → List ℕ → Plan (Unit {0})
put_catalog at bytes = write resource.Catalog (Bytes (record { 0 = 9 }) at) bytes

-- what there is, or else what another plan gives
abbrev pub found_or : {A : Type 0} → Option A → Plan A → Plan A
found_or None other = other
found_or (Some x) other = give x

abbrev pub or_later : {A : Type 0} → Option A → Plan (Option A) → Plan (Option A)
or_later None later = later
or_later (Some x) later = give (Some x)

-- the first that gives something
unfoldable pub first_of : {A : Type 0} → (ℕ → Plan (Option A)) → List ℕ → Plan (Option A)
first_of try [] = give None
first_of try (x ∷ xs) = try x then (λ found. or_later found (first_of try xs))

-- one after another
unfoldable pub for_each : (ℕ → Plan (Unit {0})) → List ℕ → Plan (Unit {0})
for_each each [] = give tt
for_each each (x ∷ xs) = each x then (λ _. for_each each xs)

-- what each gives, one after another
unfoldable pub all_of : {A : Type 0} → (ℕ → Plan A) → List ℕ → Plan (List A)
all_of each [] = give []
all_of each (x ∷ xs) = each x then (λ first. all_of each xs then (λ rest. give (first ∷ rest)))
