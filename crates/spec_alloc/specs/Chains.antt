-- What allocation reads of an object's chain, and writes to its pages (the layout is this project's own).
use Rattle.std.specs.Prelude.{ℕ, ◌+◌, ◌-◌, ◌*◌, ◌/◌, ◌%◌, ◌==◌, not, List, [], ◌∷◌, ◌++◌, filter, replicate, slice_index}
use Rattle.std.specs.List.{list_any, range_with_len}
use Rattle.byteorder.specs.Endian.{little_bytes}
use Rattle.spec_file.specs.declared.data.Resource.TheVariants as resource
use Rattle.spec_file.specs.declared.page_type.TheConstants.{IAM_TYPE}
use Rattle.spec_file.specs.Image.{page, page_size}
use Rattle.spec_file.specs.Places.{interval_size}
use Rattle.spec_file.specs.CatalogRows.{CatalogRow}
use Rattle.spec_file.specs.Iam.{single_slot_count, iam_slot}
use Rattle.spec_log.specs.declared.item.Cell.TheVariants.{Bytes}
use Rattle.spec_log.specs.Cells.{with_bit}
use Rattle.spec_plan.specs.Reading.{first_page}
use Rattle.spec_words.specs.NetChanges.{FileShape}
use Rattle.spec_words.specs.Views.{View, Plan}
use Rattle.spec_words.specs.Words.{◌then◌, give, sees, where_good, look, write}
use Rattle.spec_words.specs.Tables.{chain_of, bytes_read, byte_pages}

-- the chain and its PFS bytes are read again before a page is taken or given back, as they then stand
abbrev pub chain_now : FileShape → CatalogRow → Plan (List ℕ)
chain_now shape row =
    chain_of shape row then (λ chain.
    sees (byte_pages shape chain) then (λ pages.
    bytes_read shape pages then (λ _.
    give chain)))

-- page p is taken. It is read, under no test but that it is none of the pages that the statement stands on: of the chain
-- or of its path
abbrev pub page_taken : List ℕ → ℕ → Plan ℕ
page_taken standing p =
    look (resource.Page (record { 0 = p })) p then (λ bytes.
    where_good (not (list_any (λ q. q == p) standing)) p then (λ _.
    give p))

-- bytes of IAM page q, from one on
abbrev pub put_iam : ℕ → ℕ → List ℕ → Plan (Unit {0})
put_iam q at bytes = write (resource.Page (record { 0 = q })) (Bytes (record { 0 = q }) at) bytes

-- single-page slot i of the chain holds page p, 0 for none
abbrev pub put_slot : List ℕ → ℕ → ℕ → Plan (Unit {0})
put_slot chain p i = put_iam (first_page chain) (104 + 4 * i) (little_bytes 4 p)

-- the single-page slots of the chain that hold page p, rising
abbrev pub slots_with : List ℕ → ℕ → View → List ℕ
slots_with chain p view = filter (λ i. iam_slot (page view.now (first_page chain)) i == p) (range_with_len 0 single_slot_count)

-- the byte of an IAM page in which the mark of extent e stands
abbrev pub mark_at : FileShape → ℕ → ℕ
mark_at shape e = 136 + e % interval_size shape.geometry / 8

-- IAM page q marks extent e, by 1, or no more, by 0
abbrev pub put_mark : FileShape → ℕ → ℕ → ℕ → Plan (Unit {0})
put_mark shape e value q =
    sees (λ view. slice_index (page view.now q) (mark_at shape e)) then (λ byte.
    put_iam q (mark_at shape e) (with_bit byte (e % interval_size shape.geometry % 8) value ∷ []))

-- the next page of page q
abbrev pub put_next : ℕ → ℕ → Plan (Unit {0})
put_next q next = put_iam q 16 (little_bytes 4 next)

-- a new IAM page q of the object: all zeros but for its header, its interval and its sequence
abbrev pub new_iam_page : ℕ → ℕ → ℕ → ℕ → ℕ → List ℕ
new_iam_page id q prev interval sequence =
    1 ∷ IAM_TYPE ∷ 0 ∷ 0 ∷ little_bytes 4 q ++ (little_bytes 4 id ++ (little_bytes 4 prev ++ (replicate 80 0
    ++ (little_bytes 4 interval ++ (little_bytes 4 sequence ++ replicate (page_size - 104) 0)))))
