use Rattle.std.proofs.Common.{◌+◌, ◌∙◌, arith}
use Rattle.std.proofs.lemmas.List.{take-set-le}
use Rattle.spec_make.specs.NewMaps.{new_pfs_byte}
use Rattle.db_make.proofs.PfsBytes.{bytes_more, behind_more}
use Rattle.db_make.proofs.maps.fill_pfs.Goals as goal

pub loop-i-preserved : goal.loop-i-preserved
loop-i-preserved c =
    let xs = c.loop-i.into.bytes in
    let i = c.loop-i.i in
    let kept = c.loop-i.invariant in
    record {
      header = take-set-le 96 xs (96 + i) c.pfs_byte.result (omega arith) ∙ kept.header;
      bytes = bytes_more (λ k. new_pfs_byte c.args.g (c.args.first + k)) xs i c.pfs_byte.result (omega arith) c.pfs_byte.ensures kept.bytes;
      behind = behind_more xs c.args.into.now.bytes i c.pfs_byte.result kept.behind;
    }
