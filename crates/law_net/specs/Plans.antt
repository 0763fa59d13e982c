-- Planned changes: that they find what they say, have the form of cells, and are covered.
use Rattle.std.proofs.Common.{◌≡◌, ℕ, ◌+◌, ◌<◌, ◌≤◌, true, List, [], ◌∷◌, length, None, ◌⊎◌}
use Rattle.std.specs.Prelude.{IsSomeAnd}
use Rattle.std.specs.List.{list_any}
use Rattle.spec_file.specs.declared.data.Resource.{Resource}
use Rattle.spec_file.specs.declared.geometry.Geometry.{Geometry}
use Rattle.spec_file.specs.Image.{Image}
use Rattle.spec_file.specs.Roles.{role_of}
use Rattle.spec_log.specs.declared.item.Cell.{Cell}
use Rattle.spec_log.specs.declared.item.Cell.TheVariants.{Bytes, Bit}
use Rattle.spec_log.specs.Items.{is_same, has_cell_form}
use Rattle.spec_log.specs.Cells.{read_cell, put}
use Rattle.spec_log.specs.Log.{holds}
use Rattle.spec_log.specs.Cover.{IsOfOneExtent, byte_guard, bit_guard}
use Rattle.spec_plan.specs.declared.plan.Planned.{Planned}

-- each change finds its before bytes where those before it are made
abbrev pub Find : Image → List Planned → Type 0
Find image [] = Unit {0}
Find image (c ∷ cs) = (read_cell image c.cell (length c.before) ≡ c.before) × Find (put image c.cell c.after) cs

abbrev pub HaveCells : List Planned → Type 0
HaveCells [] = Unit {0}
HaveCells (c ∷ cs) = (has_cell_form c.cell c.before c.after ≡ true) × HaveCells cs

-- each guard of the cell is one that fits
abbrev pub IsCoveredBy : (Resource → Type 0) → Geometry → ℕ → Cell → ℕ → Type 0
IsCoveredBy P g pages (Bytes p off) size = ((i : ℕ) → i < size → IsSomeAnd (byte_guard g pages p.0 (off + i)) P) × IsOfOneExtent (role_of g p.0) p.0 off size
IsCoveredBy P g pages (Bit p n) size = IsSomeAnd (bit_guard g pages p.0 n) P

abbrev pub AreCoveredBy : (Resource → Type 0) → Geometry → ℕ → List Planned → Type 0
AreCoveredBy P g pages [] = Unit {0}
AreCoveredBy P g pages (c ∷ cs) = IsCoveredBy P g pages c.cell (length c.after) × AreCoveredBy P g pages cs
