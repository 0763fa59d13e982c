-- Facts of all pages that are seen, whatever their order and however they are cut, show the errors of trees.
use Rattle.std.specs.Prelude.{◌≡◌, List}
use Rattle.spec_file.specs.Image.{Image}
use Rattle.spec_check.specs.declared.report.CheckError.{CheckError}
use Rattle.spec_check.specs.Errors.{Lists}
use Rattle.spec_tree.specs.Trees.{IsTreeError}
use Rattle.spec_tables.specs.KnownPages.{known_of_image}
use Rattle.ck_facts.specs.declared.facts.Fact.{Fact}
use Rattle.ck_facts.specs.declared.map.AllocMap.{AllocMap}
use Rattle.ck_facts.specs.Facts.{AreFactsOf}
use Rattle.ck_facts.specs.Maps.{HasNoSystemErrors}
use Rattle.ck_facts.specs.MapOf.{IsMapOf}
use Rattle.ck_merge.specs.declared.parts.Parts.{Parts}
use Rattle.ck_merge.specs.Held.{Holds, ListsTrees, roots_in, roots_of}

-- parts, of any number, that hold exactly the facts of an image and know the tables of its map: what they list is what
-- the rules of trees say of the image
abbrev pub PartsShowTrees : Type 0
PartsShowTrees = (image : Image) (m : AllocMap) (parts : Parts) (facts : List Fact) (errors : List CheckError)
    → IsMapOf image m → HasNoSystemErrors m → AreFactsOf m.geometry image facts → Holds parts facts
    → roots_in parts ≡ roots_of m.objects.items → ListsTrees parts errors
    → Lists errors (IsTreeError (known_of_image m.geometry image))
