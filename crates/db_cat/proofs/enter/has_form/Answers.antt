use Rattle.std.proofs.Common.{◌≡◌, List, ℕ, ◌<◌, sym, ap, ◌∙◌, subst, length, arith}
use Rattle.std.specs.Prelude.{nat_le}
use Rattle.db_cat.specs.Rows.{row_of}
use Rattle.db_cat.proofs.ChangeSteps.{long_name}
use Rattle.db_cat.proofs.enter.has_form.Goals as goal

pub returns-else-as_str-le18 : goal.returns-else-as_str-le18
returns-else-as_str-le18 c =
    let named = c.as_str.ensures.value in
    let long = c.if-as_str-le18.false in
    ap (λ (name : List ℕ). nat_le (length name) 18) named ∙ long_name (row_of c.args.row.now) (subst (λ (name : List ℕ). 18 < length name) named (omega (arith, long)))
