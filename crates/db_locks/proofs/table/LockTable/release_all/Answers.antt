use Rattle.std.proofs.Common.{rules, ap, ◌∙◌}
use Rattle.std.proofs.lemmas.Map.Made.{filter_same_pairs}
use Rattle.std.proofs.lemmas.Map.Entries.{lookup-filter-values}
use Rattle.std.specs.Map.{lookup}
use Rattle.db_locks.specs.Keys.{key_of, is_same_key}
use Rattle.db_locks.proofs.SameKeys.{key_equivalence}
use Rattle.db_locks.proofs.Freed.{is_other, released-filter}
use Rattle.db_locks.proofs.table.LockTable.release_all.Goals as goal

pub returns-clause-released : goal.returns-clause-released
returns-clause-released c = λ r.
    ap (λ entries. lookup (is_same_key (key_of r)) entries) (filter_same_pairs _ (λ e. is_other c.args.by e.1) _ (λ k v b w f t. search rules) _ _ c.retain.ensures.filtered)
    ∙ lookup-filter-values key_equivalence (is_other c.args.by) (key_of r) _ c.retain.ensures.was_unique
    ∙ released-filter c.args.by _
