use Rattle.std.proofs.Common.{◌+◌, ℕ, length, ap, subst, ◌∙◌, arith}
use Rattle.std.specs.Prelude.{◌==◌, IsErr}
use Rattle.std.proofs.lemmas.Bool.{leb-true, eqb-true, cond-false}
use Rattle.spec_file.specs.declared.data.Kind.TheVariants.{Heap}
use Rattle.spec_file.specs.declared.header.Header.{Header}
use Rattle.spec_file.specs.Header.{page_type}
use Rattle.spec_rows.specs.Rows.{is_leaf_row, is_index_row}
use Rattle.spec_rows.specs.Slots.{has_index_rows}
use Rattle.spec_rows.proofs.RowLaws.{data_is_leaf}
use Rattle.spec_rows.specs.Changes.{IsInserted, MeetsTest}
use Rattle.spec_plan.specs.Rows.{free_count}
use Rattle.law_rows.proofs.Passes.{test_from, test_into}
use Rattle.law_rows.proofs.Inserted.{row_inserted}
use Rattle.heap_page.proofs.Answered.{on_ok}
use Rattle.heap_page.proofs.page.put_row.Goals as goal

pub insert_at-put-requires-clause-holds : goal.insert_at-put-requires-clause-holds
insert_at-put-requires-clause-holds c = (test_from _ _ _ c.requires.heap.2).rest.holds

pub insert_at-put-requires-clause-fits : goal.insert_at-put-requires-clause-fits
insert_at-put-requires-clause-fits c =
    let bytes = c.args.page.now.bytes in
    let row = c.args.row.now in
    let leaf = ap (λ (t : ℕ). t == 2) (eqb-true (page_type bytes) 1 (test_from _ _ _ c.requires.heap.2).rest.holds.type) in
    cond-false (has_index_rows bytes) (is_index_row row) (is_leaf_row Heap row) leaf ∙ data_is_leaf Heap row c.requires.row

pub returns-clause-row : goal.returns-clause-row
returns-clause-row c =
    let old = c.args.page.now.bytes in
    let new = c.insert_at-put.new.page.bytes in
    let row = c.args.row.now in
    let enough = leb-true (length row + 2) (free_count old) c.requires.room in
    let room : IsErr c.insert_at-put.result → ⊥ = λ err. omega (arith, enough, c.insert_at-put.ensures.full.0 err) in
    let inserted = on_ok c.insert_at-put.result _ c.insert_at-put.ensures.inserted room in
    let last = ap (λ (h : Header). h.slots) c.read_header-last.ensures in
    row_inserted old new row c.is_whole.ensures.bytes c.is_whole-2.ensures.bytes c.is_whole.ensures.long (test_from _ _ _ c.requires.heap.2).rest.holds enough
    (subst (λ (i : ℕ). IsInserted i row old new) last inserted)

pub returns-clause-test : goal.returns-clause-test
returns-clause-test c =
    let old = c.args.page.now.bytes in
    let new = c.insert_at-put.new.page.bytes in
    let row = c.args.row.now in
    let enough = leb-true (length row + 2) (free_count old) c.requires.room in
    let room : IsErr c.insert_at-put.result → ⊥ = λ err. omega (arith, enough, c.insert_at-put.ensures.full.0 err) in
    let meets = on_ok c.insert_at-put.result (MeetsTest Heap old new) c.insert_at-put.ensures.test room in
    λ p o passes. test_into p o new (meets p o (test_from p o old passes).rest)
