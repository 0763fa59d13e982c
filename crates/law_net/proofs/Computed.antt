-- The examples, computed.
use Rattle.std.proofs.Common.{[], ◌∷◌, ◌++◌, replicate, refl, ap}
use Rattle.spec_file.specs.Image.{number_at}
use Rattle.spec_words.specs.NetChanges.{differing}
use Rattle.law_net.specs.Examples.{maps_file, bytes_change, RunsStayInExtents, CellsGoToTheLast, SlotsBeginByTheGreater, PagesBecomeAllocated, OthersDoNot, TakesAreInOrder, ChangesAreListedOnce}
use Rattle.law_net.proofs.Covered.{part_none}

pub runs_stay : RunsStayInExtents
runs_stay = refl

pub cells_go : CellsGoToTheLast
unfolding differing
cells_go = refl

pub slots_begin : SlotsBeginByTheGreater
unfolding number_at
slots_begin = (refl, refl)

pub pages_become : PagesBecomeAllocated
pages_become = (refl, refl)

pub others_do_not : OthersDoNot
others_do_not = (refl, refl, refl)

pub takes_in_order : TakesAreInOrder
takes_in_order = refl

pub listed_once : ChangesAreListedOnce
listed_once =
    ap (λ boot. bytes_change 1 104 (0 ∷ 0 ∷ []) (1 ∷ 2 ∷ []) ∷ (boot ++ []))
    (part_none (maps_file (replicate 24 0) []) (maps_file (replicate 8 0 ++ 1 ∷ 2 ∷ []) []) 9 0 8192 refl)
