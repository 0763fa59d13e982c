use Rattle.std.proofs.Common.{◌≡◌, ◌∙◌, ap, List, ℕ, ◌++◌, ◌+◌, ◌≤◌, arith}
use Rattle.std.proofs.lemmas.List.{take-replicate}
use Rattle.db_cat.proofs.bytes.push_zeros.Goals as goal

pub returns-clause-bytes : goal.returns-clause-bytes
returns-clause-bytes c =
    let room : c.args.n ≤ 40 = omega (arith, c.requires) in
    c.push_bytes.ensures.bytes ∙ ap (λ (zeros : List ℕ). c.args.entry.now.items ++ zeros) (take-replicate c.args.n 40 0 room)
