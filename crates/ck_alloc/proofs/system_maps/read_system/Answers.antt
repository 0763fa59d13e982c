use Rattle.ck_alloc.proofs.SystemSaid.{maps_read}
use Rattle.ck_alloc.proofs.system_maps.read_system.Goals as goal

pub returns-clause-maps : goal.returns-clause-maps
returns-clause-maps g c =
    let one = c.in_ok-free.ensures.reads in
    let two = c.in_ok-mixed.ensures.reads in
    let three = c.in_ok-pfs.ensures.reads in
    maps_read c.args.g c.args.pages (g.R.SnapReader.image c.args.reader.now) _ c.requires.shape (rw c.requires.count at (g.met.R.SnapReader.whole c.args.reader.now)) (record {
      none = c.new-errors.result.items;
      one = c.read_bits.new.errors.items;
      two = c.read_bits-2.new.errors.items;
      three = c.read_bytes.new.errors.items;
      empty = c.new-errors.ensures.items;
      gam = c.in_ok-free.ensures.said;
      sgam = rw one.image at c.in_ok-mixed.ensures.said;
      pfs = rw (two.image, one.image) at c.in_ok-pfs.ensures.said;
      boot = rw (three.image, two.image, one.image) at c.in_ok-boot.ensures.page;
      last = c.in_ok-boot.ensures.errors;
    })
