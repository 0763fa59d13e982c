use Rattle.std.proofs.Common.{◌≡◌, ℕ, List, [], ◌∷◌, ◌++◌, map, arith, ap, sym, ◌∙◌, Vec, Global}
use Rattle.spec_file.specs.Catalog.{entry_at, is_zeros}
use Rattle.spec_file.specs.CatalogRows.{CatalogRow, row_of_entry, rows_before, rows_of}
use Rattle.db_cat.specs.Rows.{row_of}
use Rattle.db_cat.specs.declared.rows.CatRow.{CatRow}
use Rattle.db_cat.proofs.RowSteps.{rows_used, rows_empty}
use Rattle.db_cat.proofs.rows.used_rows.Goals as goal
use Rattle.db_cat.proofs.rows.used_rows.Goals.{then-not-is_zeros+in_ok-push_row, else-not-is_zeros}

pub loop-i-preserved : goal.loop-i-preserved
loop-i-preserved c =
    let boot = c.args.page.now.bytes in
    let i = c.loop-i.i in
    let here = c.entry_at-entry.ensures.entry in
    let empty : is_zeros (entry_at boot i) ≡ c.is_zeros.result = sym (ap is_zeros here) ∙ sym c.is_zeros.ensures in
    elim c.if-not-is_zeros.branch [
      | then-not-is_zeros+in_ok-push_row w ↦
          ap (λ (rows : Vec CatRow Global). map row_of rows.items) w.rows-is
          ∙ w.in_ok-push_row.ensures
          ∙ ap (λ (rows : List CatalogRow). rows ++ row_of_entry c.entry_at-entry.result.now ∷ []) c.loop-i.invariant
          ∙ ap (λ (entry : List ℕ). rows_before boot i ++ row_of_entry entry ∷ []) here
          ∙ sym (rows_used boot i (empty ∙ w.if-not-is_zeros.true))
      | else-not-is_zeros w ↦
          ap (λ (rows : Vec CatRow Global). map row_of rows.items) w.rows-is
          ∙ c.loop-i.invariant ∙ sym (rows_empty boot i (empty ∙ w.if-not-is_zeros.false))
    ]

pub returns : goal.returns
unfolding rows_of
returns c =
    let all : c.loop-i.i ≡ 128 = omega arith in
    c.loop-i.invariant ∙ ap (rows_before c.args.page.now.bytes) all
