-- The numbers of an item are below what the types of its fields hold: a contract sees them as numbers without a bound.
-- What the form of an item bounds closer isn't asked again (this project's own).
use Rattle.std.specs.Prelude.{◌^◌, ◌<◌, List, [], ◌∷◌}
use Rattle.spec_file.specs.declared.data.Resource.{Resource}
use Rattle.spec_log.specs.declared.item.Record.{Record}
use Rattle.spec_log.specs.declared.item.Record.TheVariants.{Start, Change, Undo, Commit, Abort, Snap, Failed, CheckEnd}
use Rattle.spec_log.specs.Items.{number_of}
use Rattle.spec_log.specs.Images.{page_of_cell}

abbrev pub ResourcesFit : List Resource → Type 0
ResourcesFit [] = Unit {0}
ResourcesFit (resource ∷ resources) = (number_of resource < 2 ^ 32) × ResourcesFit resources

abbrev pub ItemFits : Record → Type 0
ItemFits (Start session index tran number changes size takes) =
    (session < 2 ^ 16) × (index < 2 ^ 32) × (tran.0 < 2 ^ 64) × (number < 2 ^ 16) × ResourcesFit takes
ItemFits (Change tran cell before after) = (tran.0 < 2 ^ 64) × (page_of_cell cell < 2 ^ 32)
ItemFits (Undo tran change) = (tran.0 < 2 ^ 64) × (change.0 < 2 ^ 64)
ItemFits (Commit tran) = tran.0 < 2 ^ 64
ItemFits (Abort tran) = tran.0 < 2 ^ 64
ItemFits (Snap session index) = (session < 2 ^ 16) × (index < 2 ^ 32)
ItemFits (Failed session index page) = (session < 2 ^ 16) × (index < 2 ^ 32) × (page.0 < 2 ^ 32)
ItemFits (CheckEnd session index outcome) = (session < 2 ^ 16) × (index < 2 ^ 32)

-- the numbers of each item
abbrev pub ItemsFit : List Record → Type 0
ItemsFit [] = Unit {0}
ItemsFit (x ∷ older) = ItemFits x × ItemsFit older
