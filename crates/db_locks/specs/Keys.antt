-- By what the holder of a resource is found.
use Rattle.std.specs.Prelude.{Bool, ◌==◌, ◌&&◌}
use Rattle.spec_file.specs.declared.data.Resource.{Resource}
use Rattle.spec_log.specs.Items.{grain_of, number_of}
use Rattle.db_locks.specs.declared.key.ResourceKey.{ResourceKey}

abbrev pub key_of : Resource → ResourceKey
key_of r = record { grain = grain_of r; number = number_of r }

abbrev pub is_same_key : ResourceKey → ResourceKey → Bool
is_same_key a b = (a.grain == b.grain) && (a.number == b.number)
