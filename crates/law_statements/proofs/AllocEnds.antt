-- How CREATE and DROP end, and the words of allocation that they use, whatever their view.
use Rattle.std.proofs.Common.{ℕ, ◌/◌, Bool, List, [], Option, Some, None, arith}
use Rattle.std.specs.Prelude.{is_some}
use Rattle.std.specs.List.{list_any}
use Rattle.spec_file.specs.declared.data.Resource.TheVariants as resource
use Rattle.spec_file.specs.declared.pfs.PfsKind.TheVariants as kinds
use Rattle.spec_file.specs.CatalogRows.{CatalogRow, rows_of}
use Rattle.spec_file.specs.Header.{says}
use Rattle.spec_file.specs.Image.{page}
use Rattle.spec_file.specs.Pfs.{expected}
use Rattle.spec_file.specs.Roles.{is_ordinary}
use Rattle.spec_script.specs.declared.reply.Reply.TheVariants.{Done}
use Rattle.spec_plan.specs.Refusals.{same_name, too_many_tables, no_room}
use Rattle.spec_plan.specs.Reading.{is_catalog, named_among}
use Rattle.spec_words.specs.NetChanges.{FileShape, extents_of}
use Rattle.spec_words.specs.Views.{View, Plan}
use Rattle.spec_words.specs.Words.{give, refuse, where_good, unless_held, put_gam, put_sgam, put_pfs, or_later}
use Rattle.spec_words.specs.Tables.{byte_pages, object_pages}
use Rattle.spec_alloc.specs.Search.{map_read, is_held, search_at, search, where_found, either, is_spare, pages_in}
use Rattle.spec_alloc.specs.SinglePages.{is_shared, is_unused, spare_page, first_page_of, lower_sgam, of_mixed, of_free, single_page, no_page}
use Rattle.spec_alloc.specs.Chains.{chain_now, page_taken}
use Rattle.spec_alloc.specs.Freeing.{is_in_use, put_bits, shared_freed, extent_freed, marked_freed, is_shared_page}
use Rattle.spec_alloc.specs.Objects.{free_id, free_entry, entry_of, entry_emptied, new_chain, page_dropped, left_extents, left_freed, pages_dropped}
use Rattle.spec_statements.specs.Objects.{unless_named, create_plan, drop_plan}
use Rattle.law_statements.specs.Statements.{IsNumbered}
use Rattle.law_statements.proofs.Endings.{EndsAlways, room_numbered, ends_then, ends_give, ends_refuse, ends_sees, ends_held, ends_good, ends_look, ends_reach, ends_take, ends_write, ends_found, ends_if, later_ends, ends_first, ends_each, table_ends, chain_of_ends, bytes_ends}

map_ends : (type p : ℕ) → EndsAlways (map_read type p)
map_ends type p = ends_then _ _ (ends_reach p) (λ bytes. ends_good (says type p bytes) p)

at_ends : (shape : FileShape) (fits : View → ℕ → Bool) (find : View → ℕ → Option ℕ) (e : ℕ) → EndsAlways (search_at shape fits find e)
at_ends shape fits find e =
    ends_then _ _ (ends_sees (λ view. is_held view (resource.Extent (record { 0 = e })))) (λ held.
    ends_if held (give None) _ (ends_give None) (
    ends_then _ _ (map_ends _ _) (λ a.
    ends_then _ _ (map_ends _ _) (λ b.
    ends_then _ _ (ends_sees (λ view. fits view e)) (λ fit.
    ends_if fit _ (give None) (ends_then _ _ (map_ends _ _) (λ c. ends_sees (λ view. find view e))) (ends_give None))))))

search_ends : (shape : FileShape) (fits : View → ℕ → Bool) (find : View → ℕ → Option ℕ) → EndsAlways (search shape fits find)
search_ends shape fits find = ends_first (search_at shape fits find) (extents_of shape) (at_ends shape fits find)

found_ends : {A B : Type 0} (found : Option A) (next : A → Plan B) → ((x : A) → EndsAlways (next x)) → EndsAlways (where_found found next)
found_ends None next h = ends_give None
found_ends (Some x) next h = ends_then (next x) (λ y. give (Some y)) (h x) (λ y. ends_give (Some y))

either_ends : {A : Type 0} (first second : Plan (Option A)) → EndsAlways first → EndsAlways second → EndsAlways (either first second)
either_ends first second a b = ends_then first (λ found. or_later found second) a (λ found. later_ends found second b)

lower_ends : (shape : FileShape) (e : ℕ) → EndsAlways (lower_sgam shape e)
lower_ends shape e =
    ends_then _ _ (ends_sees (λ view. list_any (is_spare shape view) (pages_in e))) (λ left. ends_if left (give tt) (put_sgam shape e 0) (ends_give tt) (ends_write _ _ _))

mixed_ends : (shape : FileShape) (byte p : ℕ) → EndsAlways (of_mixed shape byte p)
mixed_ends shape byte p =
    ends_then _ _ (ends_take (resource.Extent (record { 0 = p / 8 }))) (λ a.
    ends_then (put_pfs shape p byte) _ (ends_write _ _ _) (λ b.
    ends_then _ _ (lower_ends shape (p / 8)) (λ c. ends_give p)))

free_ends : (shape : FileShape) (byte p : ℕ) → EndsAlways (of_free shape byte p)
free_ends shape byte p =
    ends_then (put_gam shape (p / 8) 0) _ (ends_write _ _ _) (λ a.
    ends_then (put_sgam shape (p / 8) 1) _ (ends_write _ _ _) (λ b. mixed_ends shape byte p))

single_ends : (shape : FileShape) (byte : ℕ) → EndsAlways (single_page shape byte)
single_ends shape byte =
    either_ends _ _
    (ends_then _ _ (search_ends shape (is_shared shape) (spare_page shape)) (λ found. found_ends found (of_mixed shape byte) (mixed_ends shape byte)))
    (ends_then _ _ (search_ends shape (is_unused shape) (first_page_of shape)) (λ found. found_ends found (of_free shape byte) (free_ends shape byte)))

none_ends : (A : Type 0) (shape : FileShape) → EndsAlways (no_page {A = A} shape)
none_ends A shape =
    ends_then _ _ (ends_each (λ e. unless_held (resource.Extent (record { 0 = e }))) (extents_of shape) (λ e. ends_held (resource.Extent (record { 0 = e })))) (λ u. ends_refuse A no_room room_numbered)

taken_ends : (standing : List ℕ) (p : ℕ) → EndsAlways (page_taken standing p)
taken_ends standing p =
    ends_then _ _ (ends_look (resource.Page (record { 0 = p })) p) (λ bytes.
    ends_then _ _ (ends_good _ p) (λ u. ends_give p))

new_chain_ends : (shape : FileShape) (id : ℕ) → EndsAlways (new_chain shape id)
new_chain_ends shape id =
    ends_then _ _ (single_ends shape (expected kinds.Iam 0)) (λ found.
    ends_then _ _ (ends_found found (no_page shape) (none_ends ℕ shape)) (λ q.
    ends_then _ _ (taken_ends [] q) (λ u.
    ends_then _ _ (ends_write _ _ _) (λ s. ends_give q))))

-- ---- what is given back

bits_end : (shape : FileShape) (e : ℕ) (in_use : Bool) → EndsAlways (put_bits shape e in_use)
bits_end shape e in_use =
    ends_if in_use (put_sgam shape e 1) _ (ends_write _ _ _) (ends_then (put_sgam shape e 0) _ (ends_write _ _ _) (λ u. ends_write _ _ _))

shared_ends : (shape : FileShape) (p : ℕ) → EndsAlways (shared_freed shape p)
shared_ends shape p =
    ends_then _ _ (map_ends _ _) (λ a.
    ends_then _ _ (ends_take (resource.Extent (record { 0 = p / 8 }))) (λ b.
    ends_then _ _ (map_ends _ _) (λ c.
    ends_then _ _ (map_ends _ _) (λ d.
    ends_then (put_pfs shape p 0) _ (ends_write _ _ _) (λ e.
    ends_then _ _ (ends_sees (is_in_use shape (p / 8))) (λ in_use. bits_end shape (p / 8) in_use))))))

extent_ends : (shape : FileShape) (e : ℕ) (in_use : Bool) → EndsAlways (extent_freed shape e in_use)
extent_ends shape e in_use =
    ends_if in_use _ _ (ends_then _ _ (map_ends _ _) (λ a. map_ends _ _))
    (ends_then _ _ (ends_take (resource.Extent (record { 0 = e }))) (λ a.
    ends_then _ _ (map_ends _ _) (λ b.
    ends_then _ _ (map_ends _ _) (λ c. ends_write _ _ _))))

marked_ends : (shape : FileShape) (p : ℕ) → EndsAlways (marked_freed shape p)
marked_ends shape p =
    ends_then _ _ (map_ends _ _) (λ a.
    ends_then (put_pfs shape p 0) _ (ends_write _ _ _) (λ b.
    ends_then _ _ (ends_sees (is_in_use shape (p / 8))) (λ in_use.
    ends_then _ _ (extent_ends shape (p / 8) in_use) (λ c. ends_give in_use))))

dropped_ends : (shape : FileShape) (chain : List ℕ) (p : ℕ) → EndsAlways (page_dropped shape chain p)
dropped_ends shape chain p =
    ends_then _ _ (ends_sees (is_shared_page chain p)) (λ shared.
    ends_if shared (shared_freed shape p) _ (shared_ends shape p) (ends_then _ _ (marked_ends shape p) (λ u. ends_give tt)))

left_ends : (shape : FileShape) (e : ℕ) → EndsAlways (left_freed shape e)
left_ends shape e =
    ends_then _ _ (ends_take (resource.Extent (record { 0 = e }))) (λ a.
    ends_then _ _ (map_ends _ _) (λ b. ends_write _ _ _))

chain_now_ends : (shape : FileShape) (row : CatalogRow) → EndsAlways (chain_now shape row)
chain_now_ends shape row =
    ends_then _ _ (chain_of_ends shape row) (λ chain.
    ends_then _ _ (ends_sees (byte_pages shape chain)) (λ pages.
    ends_then _ _ (bytes_ends shape pages) (λ u. ends_give chain)))

pages_dropped_ends : (shape : FileShape) (row : CatalogRow) → EndsAlways (pages_dropped shape row)
pages_dropped_ends shape row =
    ends_then _ _ (chain_now_ends shape row) (λ chain.
    ends_then _ _ (ends_sees (object_pages shape chain)) (λ pages.
    ends_then _ _ (ends_each (λ p. where_good (is_ordinary shape.geometry p) p) pages (λ p. ends_good (is_ordinary shape.geometry p) p)) (λ a.
    ends_then _ _ (ends_each (page_dropped shape chain) pages (dropped_ends shape chain)) (λ b.
    ends_then _ _ (ends_each (shared_freed shape) chain (shared_ends shape)) (λ c.
    ends_then _ _ (ends_sees (left_extents shape chain)) (λ extents. ends_each (left_freed shape) extents (left_ends shape)))))))

-- ---- CREATE and DROP

same_numbered : (name : List ℕ) → IsNumbered (same_name name)
same_numbered name = (omega arith, (λ e. omega (arith, e)), (λ e. omega (arith, e)))

many_numbered : IsNumbered too_many_tables
many_numbered = (omega arith, (λ e. omega (arith, e)), (λ e. omega (arith, e)))

named_ends : (boot name : List ℕ) → EndsAlways (unless_named boot name)
named_ends boot name = ends_if (is_some (named_among (rows_of boot) name)) (refuse (same_name name)) (give tt) (ends_refuse _ (same_name name) (same_numbered name)) (ends_give tt)

pub create_ends : (shape : FileShape) (name : List ℕ) → EndsAlways (create_plan shape name)
create_ends shape name =
    ends_then _ _ (ends_look resource.Catalog 9) (λ boot.
    ends_then _ _ (ends_good (is_catalog boot) 9) (λ a.
    ends_then _ _ (named_ends boot name) (λ b.
    ends_then _ _ (ends_found (free_id boot) (refuse too_many_tables) (ends_refuse _ too_many_tables many_numbered)) (λ id.
    ends_then _ _ (ends_found (free_entry boot) (refuse too_many_tables) (ends_refuse _ too_many_tables many_numbered)) (λ i.
    ends_then _ _ (ends_take (resource.Table (record { 0 = id }))) (λ c.
    ends_then _ _ (new_chain_ends shape id) (λ q.
    ends_then _ _ (ends_write _ _ _) (λ d. ends_give Done))))))))

pub drop_ends : (shape : FileShape) (name : List ℕ) → EndsAlways (drop_plan shape name)
drop_ends shape name =
    ends_then _ _ (table_ends name) (λ row.
    ends_then _ _ (ends_take (resource.Table (record { 0 = row.id }))) (λ a.
    ends_then _ _ (pages_dropped_ends shape row) (λ b.
    ends_then _ _ (ends_take resource.Catalog) (λ c.
    ends_then _ _ (ends_sees (λ view. entry_of (page view.now 9) row.id)) (λ entry.
    ends_then _ _ (found_ends entry entry_emptied (λ i. ends_write _ _ _)) (λ d. ends_give Done))))))
