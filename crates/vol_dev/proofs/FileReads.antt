-- Calls that only read a data file, one after another.
use Rattle.std.proofs.Common.{◌∙◌}
use Rattle.pg_base.proofs.FaultLaws.{counts_then, counts_as}
use Rattle.vol_dev.specs.declared.device.Volume.{Ghosts}
use Rattle.vol_dev.specs.Files.{ReadsFile}

module _ {X : Type 0} (v : Ghosts X) where
  -- a call behind others
  pub reads_file_then : (a b c : X) (P Q : Type 0) → ReadsFile v a b P → ReadsFile v b c Q → ReadsFile v a c Q
  reads_file_then a b c P Q p q = record { contents = q.contents ∙ p.contents; faults = counts_then P Q _ _ _ p.faults q.faults }

  -- the same blame, said otherwise
  pub reads_file_as : (a b : X) (P Q : Type 0) → (Q → P) → ReadsFile v a b P → ReadsFile v a b Q
  reads_file_as a b P Q so p = record { contents = p.contents; faults = counts_as P Q _ _ so p.faults }
