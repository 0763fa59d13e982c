use Rattle.std.proofs.Common.{arith}
use Rattle.db_heap.proofs.RowSteps.{free_few, room_holds}
use Rattle.db_heap.proofs.write.byte_after.Goals as goal

pub overflow_add-size : goal.overflow_add-size
overflow_add-size c =
    let room = room_holds _ _ c.requires.room in
    let few = free_few _ _ _ c.requires.heap.2 in
    omega (arith, room, few)

pub byte_with-requires : goal.byte_with-requires
byte_with-requires c =
    let room = room_holds _ _ c.requires.room in
    let few = free_few _ _ _ c.requires.heap.2 in
    let free = c.free_bytes.ensures in
    omega arith
