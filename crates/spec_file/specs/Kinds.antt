-- Kinds of tables (this project's own).
use Rattle.std.specs.Prelude.{Bool, true, false}
use Rattle.spec_file.specs.declared.data.Kind.{Kind}
use Rattle.spec_file.specs.declared.data.Kind.TheVariants.{Heap, Clustered}

-- the rows of a clustered table stand in a tree, by their keys
abbrev pub is_clustered : Kind → Bool
is_clustered Heap = false
is_clustered Clustered = true
