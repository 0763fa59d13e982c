-- The net changes are found without looking at the whole file.
use Rattle.std.specs.Prelude.{◌≡◌, ℕ, ◌&&◌, not, List, ◌++◌, filter, map, flat_map}
use Rattle.spec_file.specs.declared.data.Resource.{Resource}
use Rattle.spec_file.specs.declared.data.Resource.TheVariants as resource
use Rattle.spec_file.specs.Image.{Image, page_size}
use Rattle.spec_file.specs.Places.{gam_place, sgam_place}
use Rattle.spec_plan.specs.declared.plan.Planned.{Planned}
use Rattle.spec_words.specs.NetChanges.{FileShape, extents_of, pages_of, is_turned, bit_change, begins_run, run_change, is_page_changed, is_iam, page_changes, part_changes, changes_of}
use Rattle.spec_words.specs.Takes.{is_among}
use Rattle.law_net.specs.Files.{IsImageOf, DifferUnder}

-- the net changes, looked for among these extents, PFS bytes and pages alone, and on page 9
abbrev pub changes_among : FileShape → List ℕ → List ℕ → List ℕ → Image → Image → List Planned
changes_among shape extents bytes pages start now =
    map (λ e. bit_change start now (gam_place shape.geometry e)) (filter (λ e. is_turned start now (gam_place shape.geometry e)) extents)
    ++ (map (λ e. bit_change start now (sgam_place shape.geometry e)) (filter (λ e. is_turned start now (sgam_place shape.geometry e)) extents)
    ++ (map (run_change shape.geometry start now) (filter (begins_run shape.geometry start now) bytes)
    ++ (flat_map (page_changes shape.geometry start now) (filter (λ p. is_page_changed shape.geometry start now p && is_iam now p) pages)
    ++ (part_changes start now 9 0 page_size
    ++ flat_map (page_changes shape.geometry start now) (filter (λ p. is_page_changed shape.geometry start now p && not (is_iam now p)) pages)))))

-- the extents, the PFS bytes and the pages of the file that were taken, rising
abbrev pub extents_taken : FileShape → List Resource → List ℕ
extents_taken shape taken = filter (λ e. is_among taken (resource.Extent (record { 0 = e }))) (extents_of shape)

abbrev pub bytes_taken : FileShape → List Resource → List ℕ
bytes_taken shape taken = filter (λ p. is_among taken (resource.Byte (record { 0 = p }))) (pages_of shape)

abbrev pub pages_taken : FileShape → List Resource → List ℕ
pages_taken shape taken = filter (λ p. is_among taken (resource.Page (record { 0 = p }))) (pages_of shape)

-- the net changes, looked for only at what was taken
abbrev pub changes_under : FileShape → List Resource → Image → Image → List Planned
changes_under shape taken start now = changes_among shape (extents_taken shape taken) (bytes_taken shape taken) (pages_taken shape taken) start now

-- where the images differ only under what was taken, these are all
abbrev pub ChangesAreUnder : Type 0
ChangesAreUnder = (shape : FileShape) (taken : List Resource) (start now : Image) → IsImageOf shape start → IsImageOf shape now → DifferUnder shape taken start now →
    changes_of shape start now ≡ changes_under shape taken start now
