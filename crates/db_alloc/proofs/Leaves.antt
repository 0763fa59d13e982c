-- What gives pages back, and what takes the first page of a free extent, leaves the pages that objects may own.
use Rattle.std.proofs.Common.{◌≡◌, ◌≢◌, refl, ℕ, ◌/◌, Bool, true, false, List, [], ◌∷◌, get_or-set_other, sym, ap, ◌∙◌}
use Rattle.std.specs.Prelude.{if◌then◌else◌, ◌||◌}
use Rattle.std.proofs.lemmas.Bool.{cond_both, false≢true}
use Rattle.spec_file.specs.declared.data.Resource.{Resource}
use Rattle.spec_file.specs.declared.data.Resource.TheVariants as resource
use Rattle.spec_file.specs.declared.geometry.Geometry.{Geometry}
use Rattle.spec_file.specs.Places.{gam_place, sgam_place, pfs_place}
use Rattle.spec_file.specs.Roles.{is_ordinary, is_system_place, is_pfs_page, is_gam_page, is_sgam_page, is_system_extent, is_for_objects}
use Rattle.spec_file.specs.declared.role.Role.TheVariants as role
use Rattle.spec_log.specs.declared.item.Cell.TheVariants.{Bytes, Bit}
use Rattle.spec_words.specs.NetChanges.{FileShape}
use Rattle.spec_words.specs.Takes.{is_among}
use Rattle.spec_words.specs.Views.{View, Plan}
use Rattle.spec_words.specs.Words.{◌then◌, give, sees, look, reach, where_good, take, write, with_taken, put_gam, put_sgam, put_pfs, for_each}
use Rattle.spec_chain.specs.Uses.{pfs_byte}
use Rattle.spec_alloc.specs.Search.{map_read, gam_read, sgam_read, pfs_read}
use Rattle.spec_alloc.specs.Freeing.{is_in_use, put_bits, shared_freed, extent_freed, marked_freed, is_shared_page}
use Rattle.spec_alloc.specs.Objects.{page_dropped}
use Rattle.spec_alloc.specs.Chains.{page_taken}
use Rattle.spec_alloc.specs.ObjectPages.{as_allocated}
use Rattle.law_net.specs.GoodViews.{Leads}
use Rattle.law_net.proofs.WordLaws.{leads_then, leads_give, leads_sees, leads_look, leads_reach, leads_good, leads_take, leads_write, leads_weaker}
use Rattle.db_alloc.specs.Drops.{LeavesPages}
use Rattle.db_alloc.specs.Objects.{extent_opened}
use Rattle.db_alloc.proofs.MapPlaces.{gam_system, sgam_system, pfs_system}

pub leaves_all : (g : Geometry) (v : View) → LeavesPages g v v
leaves_all g v = record { same = λ q ordinary. refl }

pub leaves_both : {g : Geometry} {u v w : View} → LeavesPages g u v → LeavesPages g v w → LeavesPages g u w
leaves_both f h = record { same = λ q ordinary. h.same q ordinary ∙ f.same q ordinary }

-- a plan does so on every view
abbrev pub Leaves : {A : Type 0} → Geometry → Plan A → Type 0
Leaves g plan = (v : View) → Leads plan v (λ x w. LeavesPages g v w)

leaves_then : {A B : Type 0} (g : Geometry) (plan : Plan A) (next : A → Plan B) → Leaves g plan → ((x : A) → Leaves g (next x)) → Leaves g (plan then next)
leaves_then g plan next first rest v =
    leads_then plan next v (λ y u. LeavesPages g v u)
    (leads_weaker plan v (λ x w. LeavesPages g v w) (λ x w. Leads (next x) w (λ y u. LeavesPages g v u))
    (λ x w h. leads_weaker (next x) w (λ y u. LeavesPages g w u) (λ y u. LeavesPages g v u) (λ y u k. leaves_both h k) (rest x w))
    (first v))

leaves_sees : {A : Type 0} (g : Geometry) (f : View → A) → Leaves g (sees f)
leaves_sees g f v = leads_sees f v (λ x w. LeavesPages g v w) (leaves_all g v)

leaves_give : {A : Type 0} (g : Geometry) (x : A) → Leaves g (give x)
leaves_give g x v = leads_give x v (λ x w. LeavesPages g v w) (leaves_all g v)

leaves_map : (g : Geometry) (type q : ℕ) → Leaves g (map_read type q)
leaves_map g type q = leaves_then g (reach q) _ (λ v. leads_reach q v (λ x w. LeavesPages g v w) (leaves_all g v)) (λ bytes v. leads_good _ q v (λ x w. LeavesPages g v w) (λ e. leaves_all g v))

taken_leaves : (g : Geometry) (r : Resource) (v : View) → LeavesPages g v (with_taken r v)
taken_leaves g r v = cond_both (is_among v.taken r) v (record v { taken = r ∷ v.taken }) (λ w. LeavesPages g v w) (λ e. leaves_all g v) (λ e. record { same = λ q ordinary. refl })

leaves_take : (g : Geometry) (r : Resource) → Leaves g (take r)
leaves_take g r v = leads_take r v (λ x w. LeavesPages g v w) (λ free. taken_leaves g r v)

-- ---- a page that objects may own is none of the maps

ordinary_by : (zero pfs gam sgam boot system : Bool)
    → is_for_objects (if zero then role.FileHeader else (if pfs then role.Pfs else (if gam then role.Gam else (if sgam then role.Sgam else (if boot then role.Boot else (if system then role.Reserved else role.Ordinary)))))) ≡ true
    → (pfs || gam || sgam) ≡ false
ordinary_by true pfs gam sgam boot system h = absurd (false≢true h)
ordinary_by false true gam sgam boot system h = absurd (false≢true h)
ordinary_by false false true sgam boot system h = absurd (false≢true h)
ordinary_by false false false true boot system h = absurd (false≢true h)
ordinary_by false false false false boot system h = refl

pub no_map : (g : Geometry) (q : ℕ) → is_ordinary g q ≡ true → is_system_place g q ≡ false
no_map g q h = ordinary_by _ (is_pfs_page g q) (is_gam_page g q) (is_sgam_page g q) _ (is_system_extent g (q / 8)) h

apart : (g : Geometry) (q k : ℕ) → is_system_place g k ≡ true → is_ordinary g q ≡ true → q ≢ k
apart g q k system ordinary same = false≢true (sym (no_map g q ordinary) ∙ ap (is_system_place g) same ∙ system)

byte_leaves : (g : Geometry) (r : Resource) (k at : ℕ) (bytes : List ℕ) → is_system_place g k ≡ true → Leaves g (write r (Bytes (record { 0 = k }) at) bytes)
byte_leaves g r k at bytes system v = leads_write r (Bytes (record { 0 = k }) at) bytes v (λ x w. LeavesPages g v w) (λ free. record {
  same = λ q ordinary. get_or-set_other (with_taken r v).now k q _ [] (apart g q k system ordinary) ∙ (taken_leaves g r v).same q ordinary;
})

bit_leaves : (g : Geometry) (r : Resource) (k n : ℕ) (bytes : List ℕ) → is_system_place g k ≡ true → Leaves g (write r (Bit (record { 0 = k }) n) bytes)
bit_leaves g r k n bytes system v = leads_write r (Bit (record { 0 = k }) n) bytes v (λ x w. LeavesPages g v w) (λ free. record {
  same = λ q ordinary. get_or-set_other (with_taken r v).now k q _ [] (apart g q k system ordinary) ∙ (taken_leaves g r v).same q ordinary;
})

leaves_gam : (shape : FileShape) (e value : ℕ) → Leaves shape.geometry (put_gam shape e value)
leaves_gam shape e value = bit_leaves shape.geometry (resource.Extent (record { 0 = e })) (gam_place shape.geometry e).page (gam_place shape.geometry e).at (value ∷ []) (gam_system shape.geometry e)

leaves_sgam : (shape : FileShape) (e value : ℕ) → Leaves shape.geometry (put_sgam shape e value)
leaves_sgam shape e value = bit_leaves shape.geometry (resource.Extent (record { 0 = e })) (sgam_place shape.geometry e).page (sgam_place shape.geometry e).at (value ∷ []) (sgam_system shape.geometry e)

leaves_pfs : (shape : FileShape) (p byte : ℕ) → Leaves shape.geometry (put_pfs shape p byte)
leaves_pfs shape p byte = byte_leaves shape.geometry (resource.Byte (record { 0 = p })) (pfs_place shape.geometry p).page (pfs_place shape.geometry p).at (byte ∷ []) (pfs_system shape.geometry p)

-- ---- what gives pages back

leaves_bits : (shape : FileShape) (e : ℕ) (in_use : Bool) → Leaves shape.geometry (put_bits shape e in_use)
leaves_bits shape e true = leaves_sgam shape e 1
leaves_bits shape e false = leaves_then shape.geometry (put_sgam shape e 0) _ (leaves_sgam shape e 0) (λ _. leaves_gam shape e 1)

pub shared_leaves : (shape : FileShape) (p : ℕ) → Leaves shape.geometry (shared_freed shape p)
shared_leaves shape p =
    let g = shape.geometry in
    leaves_then g (pfs_read shape p) _ (leaves_map g _ _) (λ _.
    leaves_then g (take (resource.Extent (record { 0 = p / 8 }))) _ (leaves_take g _) (λ _.
    leaves_then g (gam_read shape (p / 8)) _ (leaves_map g _ _) (λ _.
    leaves_then g (sgam_read shape (p / 8)) _ (leaves_map g _ _) (λ _.
    leaves_then g (put_pfs shape p 0) _ (leaves_pfs shape p 0) (λ _.
    leaves_then g (sees (is_in_use shape (p / 8))) _ (leaves_sees g (is_in_use shape (p / 8))) (λ in_use. leaves_bits shape (p / 8) in_use))))))

leaves_extent : (shape : FileShape) (e : ℕ) (in_use : Bool) → Leaves shape.geometry (extent_freed shape e in_use)
leaves_extent shape e true = let g = shape.geometry in leaves_then g (gam_read shape e) _ (leaves_map g _ _) (λ _. leaves_map g _ _)
leaves_extent shape e false =
    let g = shape.geometry in
    leaves_then g (take (resource.Extent (record { 0 = e }))) _ (leaves_take g _) (λ _.
    leaves_then g (gam_read shape e) _ (leaves_map g _ _) (λ _.
    leaves_then g (sgam_read shape e) _ (leaves_map g _ _) (λ _. leaves_gam shape e 1)))

pub marked_leaves : (shape : FileShape) (p : ℕ) → Leaves shape.geometry (marked_freed shape p)
marked_leaves shape p =
    let g = shape.geometry in
    leaves_then g (pfs_read shape p) _ (leaves_map g _ _) (λ _.
    leaves_then g (put_pfs shape p 0) _ (leaves_pfs shape p 0) (λ _.
    leaves_then g (sees (is_in_use shape (p / 8))) _ (leaves_sees g (is_in_use shape (p / 8))) (λ in_use.
    leaves_then g (extent_freed shape (p / 8) in_use) _ (leaves_extent shape (p / 8) in_use) (λ _. leaves_give g in_use))))

drop_leaves : (shape : FileShape) (p : ℕ) (shared : Bool) → Leaves shape.geometry (if shared then shared_freed shape p else (marked_freed shape p then (λ _. give tt)))
drop_leaves shape p true = shared_leaves shape p
drop_leaves shape p false = leaves_then shape.geometry (marked_freed shape p) _ (marked_leaves shape p) (λ _. leaves_give shape.geometry tt)

pub dropped_leaves : (shape : FileShape) (chain : List ℕ) (p : ℕ) → Leaves shape.geometry (page_dropped shape chain p)
dropped_leaves shape chain p = leaves_then shape.geometry (sees (is_shared_page chain p)) _ (leaves_sees shape.geometry (is_shared_page chain p)) (λ shared. drop_leaves shape p shared)

pub leaves_each : (g : Geometry) (each : ℕ → Plan (Unit {0})) (xs : List ℕ) → ((x : ℕ) → Leaves g (each x)) → Leaves g (for_each each xs)
unfolding for_each
leaves_each g each [] h = leaves_give g tt
leaves_each g each (x ∷ xs) h = leaves_then g (each x) _ (h x) (λ _. leaves_each g each xs h)

-- ---- what takes the first page of a free extent

-- a look leaves them
leaves_look : (g : Geometry) (r : Resource) (q : ℕ) → Leaves g (look r q)
leaves_look g r q v = leads_look r q v (λ x w. LeavesPages g v w) (λ free. leaves_all g v)

-- so does a test
leaves_good : (g : Geometry) (good : Bool) (q : ℕ) → Leaves g (where_good good q)
leaves_good g good q v = leads_good good q v (λ x w. LeavesPages g v w) (λ e. leaves_all g v)

-- so does taking a page
leaves_taken : (g : Geometry) (standing : List ℕ) (p : ℕ) → Leaves g (page_taken standing p)
leaves_taken g standing p = leaves_then g (look (resource.Page (record { 0 = p })) p) _ (leaves_look g _ p) (λ bytes. leaves_then g _ (λ _. give p) (leaves_good g _ p) (λ _. leaves_give g p))

-- and so do the bit and the byte that are put before
pub opened_leaves : (shape : FileShape) (standing : List ℕ) (p : ℕ) → Leaves shape.geometry (extent_opened shape standing p)
opened_leaves shape standing p =
    let g = shape.geometry in
    let byte : View → ℕ = λ view. pfs_byte g view.now p in
    leaves_then g (put_gam shape (p / 8) 0) _ (leaves_gam shape (p / 8) 0) (λ _.
    leaves_then g (sees byte) _ (leaves_sees g byte) (λ old.
    leaves_then g (put_pfs shape p (as_allocated old)) _ (leaves_pfs shape p (as_allocated old)) (λ _. leaves_taken g standing p)))
