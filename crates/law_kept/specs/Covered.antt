-- Where two images of a file differ only under some resources, all else that a check reads is the same.
use Rattle.std.specs.Prelude.{◌≡◌, ◌⊎◌, true, List}
use Rattle.spec_file.specs.declared.data.Resource.{Resource}
use Rattle.spec_file.specs.declared.data.Resource.TheVariants as resource
use Rattle.spec_file.specs.Image.{Image}
use Rattle.spec_words.specs.NetChanges.{FileShape}
use Rattle.spec_words.specs.Takes.{is_among}
use Rattle.spec_steps.specs.AtMost.{Changed, AtMost}
use Rattle.law_net.specs.Files.{IsImageOf, DifferUnder}

-- what these resources guard: the bits of extents, PFS bytes, pages that objects may own, and page 9
abbrev pub guarded_by : List Resource → Changed
guarded_by taken = record {
  free = λ e. is_among taken (resource.Extent (record { 0 = e })) ≡ true;
  mixed = λ e. is_among taken (resource.Extent (record { 0 = e })) ≡ true;
  bytes = λ p. is_among taken (resource.Byte (record { 0 = p })) ≡ true;
  pages = λ q. (is_among taken (resource.Page (record { 0 = q })) ≡ true) ⊎ ((q ≡ 9) × (is_among taken resource.Catalog ≡ true));
}

-- so what changes under them is at most that
abbrev pub CoveredIsAtMost : Type 0
CoveredIsAtMost = (shape : FileShape) (taken : List Resource) (start now : Image) → IsImageOf shape start → IsImageOf shape now → DifferUnder shape taken start now →
    AtMost shape.geometry (guarded_by taken) start now
