-- The statements on heaps, in the words of plans (this project's own).
use Rattle.std.specs.Prelude.{ℕ, ◌+◌, ◌-◌, ◌%◌, ◌==◌, ◌&&◌, if◌then◌else◌, List, [], length, sum_by, flat_map, Option, Some, None}
use Rattle.spec_file.specs.declared.data.Resource.TheVariants as resource
use Rattle.spec_file.specs.Image.{page}
use Rattle.spec_file.specs.Pfs.{fullness_of}
use Rattle.spec_file.specs.CatalogRows.{CatalogRow}
use Rattle.spec_file.specs.Roles.{is_ordinary}
use Rattle.spec_chain.specs.Uses.{pfs_byte}
use Rattle.spec_rows.specs.Slots.{slot_count}
use Rattle.spec_script.specs.declared.reply.Reply.{Reply}
use Rattle.spec_script.specs.declared.reply.Reply.TheVariants.{Rows}
use Rattle.spec_plan.specs.Refusals.{no_room}
use Rattle.spec_plan.specs.Rows.{passes_page, has_room_for, heap_row, with_row, free_count, payloads_of, with_fullness}
use Rattle.spec_words.specs.NetChanges.{FileShape}
use Rattle.spec_words.specs.Views.{Plan}
use Rattle.spec_words.specs.Words.{◌then◌, give, refuse, sees, where_good, look, take, put_pfs, put_page, found_or, first_of, all_of}
use Rattle.spec_words.specs.Orders.{in_rising_order}
use Rattle.spec_words.specs.Tables.{table_of, table_pages}

-- page p of the object: 1222, and 824 where it isn't an ordinary page that passes its test as one of a heap
abbrev pub heap_page : FileShape → CatalogRow → ℕ → Plan (List ℕ)
heap_page shape row p =
    look (resource.Page (record { 0 = p })) p then (λ bytes.
    where_good (is_ordinary shape.geometry p && passes_page p row.id bytes) p then (λ _.
    give bytes))

-- COUNT reads all pages of the object, rising
abbrev pub count_plan : FileShape → List ℕ → Plan Reply
count_plan shape name =
    table_of name then (λ row.
    table_pages shape row then (λ pages.
    all_of (heap_page shape row) pages then (λ found.
    give (Rows (sum_by slot_count found) []))))

-- so many rows were found, with these payloads
abbrev pub rows_found : List (List ℕ) → Reply
rows_found payloads = Rows (length payloads) payloads

-- SELECT reads all pages of the object, rising, and answers the payloads of the rows that have this key, in rising order
abbrev pub select_plan : FileShape → List ℕ → ℕ → Plan Reply
select_plan shape name key =
    table_of name then (λ row.
    table_pages shape row then (λ pages.
    all_of (heap_page shape row) pages then (λ found.
    give (rows_found (in_rising_order (flat_map (payloads_of key) found))))))

-- page p, where it has room for so many bytes. One that is full by its PFS byte isn't read; one that isn't ordinary is
-- 824 whatever its PFS byte says
abbrev pub room_on : FileShape → CatalogRow → ℕ → ℕ → Plan (Option ℕ)
room_on shape row size p =
    sees (λ view. is_ordinary shape.geometry p && (pfs_byte shape.geometry view.now p % 8 == 4)) then (λ full.
    if full then give None
    else (heap_page shape row p then (λ bytes.
    give (if has_room_for bytes size then Some p else None))))

-- a row goes behind the last of page p, and its PFS byte says how full the page is
abbrev pub row_put : FileShape → ℕ → List ℕ → Plan (Unit {0})
row_put shape p row =
    sees (λ view. pfs_byte shape.geometry view.now p) then (λ byte.
    sees (λ view. page view.now p) then (λ bytes.
    put_pfs shape p (with_fullness byte (fullness_of (free_count bytes - (length row + 2)))) then (λ _.
    put_page p (with_row bytes row))))

-- INSERT takes the table, and puts the row on the first page with room, rising. Where no page has room, none is allocated
-- yet
abbrev pub insert_plan : FileShape → List ℕ → ℕ → List ℕ → Plan Reply
insert_plan shape name key payload =
    table_of name then (λ row.
    table_pages shape row then (λ pages.
    take (resource.Table (record { 0 = row.id })) then (λ _.
    first_of (room_on shape row (length (heap_row key payload))) pages then (λ found.
    found_or found (refuse no_room) then (λ p.
    row_put shape p (heap_row key payload) then (λ _.
    give (Rows 1 [])))))))
