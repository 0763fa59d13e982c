-- How plans end, whatever their view: they keep what they began on, and are refused by numbers of their own.
use Rattle.std.proofs.Common.{ℕ, zero, suc, Bool, true, false, eqb, not, ◌||◌, ◌&&◌, List, [], ◌∷◌, ◌++◌, length, Option, Some, None, refl, ◌∙◌, arith}
use Rattle.std.specs.Prelude.{if◌then◌else◌, sum_by, flat_map}
use Rattle.spec_file.specs.declared.data.Resource.{Resource}
use Rattle.spec_file.specs.declared.data.Resource.TheVariants as resource
use Rattle.spec_file.specs.CatalogRows.{CatalogRow, rows_of}
use Rattle.spec_file.specs.Image.{page}
use Rattle.spec_file.specs.Places.{pfs_page, is_inside}
use Rattle.spec_file.specs.Header.{says}
use Rattle.spec_file.specs.Roles.{is_ordinary}
use Rattle.spec_chain.specs.Chains.{is_last, next_of}
use Rattle.spec_chain.specs.Uses.{pfs_byte}
use Rattle.spec_rows.specs.Slots.{slot_count}
use Rattle.spec_log.specs.declared.item.Cell.{Cell}
use Rattle.spec_script.specs.declared.reply.Refusal.{Refusal}
use Rattle.spec_script.specs.declared.reply.Reply.{Reply}
use Rattle.spec_script.specs.declared.reply.Reply.TheVariants.{Rows}
use Rattle.spec_plan.specs.Refusals.{held_by, bad_page, no_table, no_room}
use Rattle.spec_plan.specs.Reading.{is_catalog, named_among, are_slots_inside}
use Rattle.spec_plan.specs.Rows.{passes_page, has_room_for, heap_row, payloads_of}
use Rattle.spec_words.specs.NetChanges.{FileShape}
use Rattle.spec_words.specs.Takes.{is_among}
use Rattle.spec_words.specs.Views.{View, End, Gives, Stops, Outcome, Plan}
use Rattle.spec_words.specs.Words.{◌then◌, gone_on, ended, by_holder, give, refuse, sees, unless_held, where_good, look, reach, take, write, with_taken, written, found_or, or_later, first_of, for_each, all_of}
use Rattle.spec_words.specs.Tables.{table_of, chain_from, chain_of, is_chain_page, bytes_read, byte_pages, object_pages, table_pages}
use Rattle.spec_words.specs.Orders.{in_rising_order}
use Rattle.spec_words.specs.Heaps.{heap_page, count_plan, select_plan, rows_found, room_on, row_put, insert_plan}
use Rattle.law_statements.specs.Statements.{HasSameBeginning, IsNumbered}

-- an end keeps what a view began on, or is a refusal with such a number
abbrev pub EndsWell : {A : Type 0} → View → End A → Type 0
EndsWell v (Gives x w) = HasSameBeginning v w
EndsWell v (Stops refusal) = IsNumbered refusal

-- whatever its view, the plan ends so
abbrev pub EndsAlways : {A : Type 0} → Plan A → Type 0
EndsAlways plan = (v : View) → EndsWell v (plan v).ending

same_beginning : (v : View) → HasSameBeginning v v
same_beginning v = record { shape = refl; start = refl; other = refl; own = refl }

later_beginning : (v w x : View) → HasSameBeginning v w → HasSameBeginning w x → HasSameBeginning v x
later_beginning v w x a b = record { shape = b.shape ∙ a.shape; start = b.start ∙ a.start; other = b.other ∙ a.other; own = b.own ∙ a.own }

later_end : {A : Type 0} (v w : View) (e : End A) → HasSameBeginning v w → EndsWell w e → EndsWell v e
later_end v w (Gives x u) same h = later_beginning v w u same h
later_end v w (Stops refusal) same h = h

pub held_numbered : (r : Resource) (t : ℕ) → IsNumbered (held_by r t)
held_numbered r t = (omega arith, (λ e. omega (arith, e)), (λ e. omega (arith, e)))

pub bad_numbered : (p : ℕ) → IsNumbered (bad_page p)
bad_numbered p = (omega arith, (λ e. omega (arith, e)), (λ e. omega (arith, e)))

pub room_numbered : IsNumbered no_room
room_numbered = (omega arith, (λ e. omega (arith, e)), (λ e. omega (arith, e)))

name_numbered : (name : List ℕ) → IsNumbered (no_table name)
name_numbered name = (omega arith, (λ e. omega (arith, e)), (λ e. omega (arith, e)))

gone : {A B : Type 0} (v : View) (reached : List ℕ) (e : End A) (next : A → Plan B) → EndsWell v e → ((x : A) → EndsAlways (next x)) → EndsWell v (gone_on reached e next).ending
gone v reached (Gives x w) next first rest = later_end v w (next x w).ending first (rest x w)
gone v reached (Stops refusal) next first rest = first

pub ends_then : {A B : Type 0} (plan : Plan A) (next : A → Plan B) → EndsAlways plan → ((x : A) → EndsAlways (next x)) → EndsAlways (plan then next)
unfolding ◌then◌
ends_then plan next first rest v = gone v (plan v).reached (plan v).ending next (first v) rest

pub ends_give : {A : Type 0} (x : A) → EndsAlways (give x)
unfolding give
ends_give x v = same_beginning v

pub ends_refuse : (A : Type 0) (refusal : Refusal) → IsNumbered refusal → EndsAlways (refuse {A = A} refusal)
unfolding refuse
ends_refuse A refusal is v = is

pub ends_sees : {A : Type 0} (f : View → A) → EndsAlways (sees f)
unfolding sees
ends_sees f v = same_beginning v

by_free : {A : Type 0} (v : View) (r : Resource) (o : Option ℕ) (free : Outcome A) → EndsWell v free.ending → EndsWell v (by_holder r o free).ending
by_free v r None free h = h
by_free v r (Some t) free h = held_numbered r t

taken_beginning : (r : Resource) (v : View) → HasSameBeginning v (with_taken r v)
taken_beginning r v = by_test (is_among v.taken r)
  where
    by_test : (b : Bool) → HasSameBeginning v (if b then v else record v { taken = r ∷ v.taken })
    by_test true = same_beginning v
    by_test false = record { shape = refl; start = refl; other = refl; own = refl }

written_beginning : (cell : Cell) (bytes : List ℕ) (v : View) → HasSameBeginning v (written cell bytes v)
written_beginning cell bytes v = record { shape = refl; start = refl; other = refl; own = refl }

pub ends_held : (r : Resource) → EndsAlways (unless_held r)
unfolding unless_held
ends_held r v = by_free v r (v.other r) (ended [] (Gives tt v)) (same_beginning v)

pub ends_good : (good : Bool) (p : ℕ) → EndsAlways (where_good good p)
unfolding where_good
ends_good true p v = same_beginning v
ends_good false p v = bad_numbered p

pub ends_look : (r : Resource) (p : ℕ) → EndsAlways (look r p)
unfolding look
ends_look r p v = by_free v r (v.other r) (ended (p ∷ []) (Gives (page v.now p) v)) (same_beginning v)

pub ends_reach : (p : ℕ) → EndsAlways (reach p)
unfolding reach
ends_reach p v = same_beginning v

pub ends_take : (r : Resource) → EndsAlways (take r)
unfolding take
ends_take r v = by_free v r (v.other r) (ended [] (Gives tt (with_taken r v))) (taken_beginning r v)

pub ends_write : (r : Resource) (cell : Cell) (bytes : List ℕ) → EndsAlways (write r cell bytes)
unfolding write
ends_write r cell bytes v =
    by_free v r (v.other r) (ended [] (Gives tt (written cell bytes (with_taken r v))))
    (later_beginning v (with_taken r v) (written cell bytes (with_taken r v)) (taken_beginning r v) (written_beginning cell bytes (with_taken r v)))

pub ends_found : {A : Type 0} (o : Option A) (other : Plan A) → EndsAlways other → EndsAlways (found_or o other)
ends_found None other h = h
ends_found (Some x) other h = ends_give x

pub ends_if : {A : Type 0} (test : Bool) (first second : Plan A) → EndsAlways first → EndsAlways second → EndsAlways (if test then first else second)
ends_if true first second a b = a
ends_if false first second a b = b

pub later_ends : {A : Type 0} (found : Option A) (later : Plan (Option A)) → EndsAlways later → EndsAlways (or_later found later)
later_ends None later h = h
later_ends (Some x) later h = ends_give (Some x)

pub ends_first : {A : Type 0} (try : ℕ → Plan (Option A)) (xs : List ℕ) → ((x : ℕ) → EndsAlways (try x)) → EndsAlways (first_of try xs)
unfolding first_of
ends_first try [] each = ends_give None
ends_first try (x ∷ xs) each =
    ends_then (try x) (λ found. or_later found (first_of try xs)) (each x) (λ found. later_ends found (first_of try xs) (ends_first try xs each))

pub ends_each : (each : ℕ → Plan (Unit {0})) (xs : List ℕ) → ((x : ℕ) → EndsAlways (each x)) → EndsAlways (for_each each xs)
unfolding for_each
ends_each each [] h = ends_give tt
ends_each each (x ∷ xs) h = ends_then (each x) (λ _. for_each each xs) (h x) (λ _. ends_each each xs h)

pub ends_all : {A : Type 0} (each : ℕ → Plan A) (xs : List ℕ) → ((x : ℕ) → EndsAlways (each x)) → EndsAlways (all_of each xs)
unfolding all_of
ends_all each [] h = ends_give []
ends_all each (x ∷ xs) h =
    ends_then (each x) (λ first. all_of each xs then (λ rest. give (first ∷ rest))) (h x)
    (λ first. ends_then (all_of each xs) (λ rest. give (first ∷ rest)) (ends_all each xs h) (λ rest. ends_give (first ∷ rest)))

-- a table and its pages
pub table_ends : (name : List ℕ) → EndsAlways (table_of name)
table_ends name =
    ends_then _ _ (ends_look resource.Catalog 9) (λ boot.
    ends_then _ _ (ends_good (is_catalog boot) 9) (λ u.
    ends_then _ _ (ends_found (named_among (rows_of boot) name) (refuse (no_table name)) (ends_refuse _ (no_table name) (name_numbered name))) (λ row.
    ends_then _ _ (ends_held (resource.Table (record { 0 = row.id }))) (λ s. ends_give row))))

chain_ends : (n : ℕ) (shape : FileShape) (row : CatalogRow) (met : List ℕ) (from p : ℕ) → EndsAlways (chain_from n shape row met from p)
chain_ends zero shape row met from p = ends_refuse _ (bad_page p) (bad_numbered p)
chain_ends (suc n) shape row met from p =
    ends_if (is_last (length met) p) (give met) _ (ends_give met) (
    ends_then _ _ (ends_good (is_inside shape.pages p) from) (λ a.
    ends_then _ _ (ends_look (resource.Page (record { 0 = p })) p) (λ bytes.
    ends_then _ _ (ends_good (is_chain_page shape row met p bytes) p) (λ b.
    ends_then _ _ (ends_sees (λ view. not (eqb (length met) 0) || are_slots_inside view.now p)) (λ slots.
    ends_then _ _ (ends_good slots p) (λ c.
    chain_ends n shape row (met ++ p ∷ []) p (next_of bytes)))))))

pub chain_of_ends : (shape : FileShape) (row : CatalogRow) → EndsAlways (chain_of shape row)
chain_of_ends shape row = chain_ends (suc (suc shape.pages)) shape row [] 9 row.first_iam

pub bytes_ends : (shape : FileShape) (ps : List ℕ) → EndsAlways (bytes_read shape ps)
bytes_ends shape ps =
    ends_each _ ps (λ p.
    ends_then _ _ (ends_look (resource.Byte (record { 0 = p })) (pfs_page shape.geometry p)) (λ bytes.
    ends_good (says 11 (pfs_page shape.geometry p) bytes) (pfs_page shape.geometry p)))

pub pages_ends : (shape : FileShape) (row : CatalogRow) → EndsAlways (table_pages shape row)
pages_ends shape row =
    ends_then _ _ (chain_of_ends shape row) (λ chain.
    ends_then _ _ (ends_sees (byte_pages shape chain)) (λ pages.
    ends_then _ _ (bytes_ends shape pages) (λ u. ends_sees (object_pages shape chain))))

-- heaps
pub heap_page_ends : (shape : FileShape) (row : CatalogRow) (p : ℕ) → EndsAlways (heap_page shape row p)
heap_page_ends shape row p =
    ends_then _ _ (ends_look (resource.Page (record { 0 = p })) p) (λ bytes.
    ends_then _ _ (ends_good (is_ordinary shape.geometry p && passes_page p row.id bytes) p) (λ u. ends_give bytes))

-- all pages of a table are read for what is answered
answer_ends : (answer : List (List ℕ) → Reply) (shape : FileShape) (name : List ℕ) →
    EndsAlways (table_of name then (λ row. table_pages shape row then (λ pages. all_of (heap_page shape row) pages then (λ found. give (answer found)))))
answer_ends answer shape name =
    ends_then _ _ (table_ends name) (λ row.
    ends_then _ _ (pages_ends shape row) (λ pages.
    ends_then _ _ (ends_all (heap_page shape row) pages (heap_page_ends shape row)) (λ found.
    ends_give (answer found))))

pub count_ends : (shape : FileShape) (name : List ℕ) → EndsAlways (count_plan shape name)
count_ends shape name = answer_ends (λ found. Rows (sum_by slot_count found) []) shape name

pub select_ends : (shape : FileShape) (name : List ℕ) (key : ℕ) → EndsAlways (select_plan shape name key)
select_ends shape name key = answer_ends (λ found. rows_found (in_rising_order (flat_map (payloads_of key) found))) shape name

room_ends : (shape : FileShape) (row : CatalogRow) (size p : ℕ) → EndsAlways (room_on shape row size p)
room_ends shape row size p =
    ends_then _ _ (ends_sees _) (λ full.
    ends_if full (give None) _ (ends_give None) (
    ends_then _ _ (heap_page_ends shape row p) (λ bytes. ends_give (if has_room_for bytes size then Some p else None))))

row_ends : (shape : FileShape) (p : ℕ) (row : List ℕ) → EndsAlways (row_put shape p row)
row_ends shape p row =
    ends_then _ _ (ends_sees (λ view. pfs_byte shape.geometry view.now p)) (λ byte.
    ends_then _ _ (ends_sees (λ view. page view.now p)) (λ bytes.
    ends_then _ _ (ends_write _ _ _) (λ u. ends_write _ _ _)))

pub insert_ends : (shape : FileShape) (name : List ℕ) (key : ℕ) (payload : List ℕ) → EndsAlways (insert_plan shape name key payload)
insert_ends shape name key payload =
    ends_then _ _ (table_ends name) (λ row.
    ends_then _ _ (pages_ends shape row) (λ pages.
    ends_then _ _ (ends_take (resource.Table (record { 0 = row.id }))) (λ u.
    ends_then _ _ (ends_first (room_on shape row (length (heap_row key payload))) pages (room_ends shape row (length (heap_row key payload)))) (λ found.
    ends_then _ _ (ends_found found (refuse no_room) (ends_refuse _ no_room room_numbered)) (λ p.
    ends_then _ _ (row_ends shape p (heap_row key payload)) (λ s.
    ends_give (Rows 1 [])))))))
