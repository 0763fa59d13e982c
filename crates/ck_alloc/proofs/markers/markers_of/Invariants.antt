use Rattle.std.proofs.Common.{◌≡◌, ◌≤◌, length}
use Rattle.ck_facts.specs.MapOf.{ids_of}
use Rattle.ck_alloc.specs.Held.{marked_ids}
use Rattle.ck_alloc.proofs.markers.markers_of.Given as goal

abbrev pub invariant-loop-i : goal.invariant-loop-i
invariant-loop-i l = (l.ids.items ≡ marked_ids (ids_of l.objects) l.extent l.i) × (length l.ids.items ≤ l.i)
