use Rattle.std.proofs.Common.{◌≡◌, sym, subst, false}
use Rattle.db_locks.specs.declared.key.ResourceKey.{ResourceKey}
use Rattle.db_locks.specs.Keys.{key_of, is_same_key}
use Rattle.db_locks.proofs.SameKeys.{other_key, where_ok}
use Rattle.db_locks.proofs.table.LockTable.put.Goals as goal

pub returns-clause-others : goal.returns-clause-others
returns-clause-others c = λ other ne.
    (where_ok c.insert.result (c.insert.ensures.succeeds c.requires) c.insert.ensures.updates).2 (key_of other)
    (subst (λ (k : ResourceKey). is_same_key k (key_of other) ≡ false) (sym c.key.ensures) (other_key c.args.r other ne))
