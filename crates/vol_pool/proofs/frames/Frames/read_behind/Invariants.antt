use Rattle.std.proofs.Common.{◌≡◌, length, take, IfSome, None}
use Rattle.spec_file.specs.Image.{page, pages_of}
use Rattle.spec_log.specs.Cells.{HasWholePages}
use Rattle.vol_pool.specs.Reading.{ReadsPages}
use Rattle.vol_pool.proofs.frames.Frames.read_behind.Given as goal

abbrev pub invariant-loop-p : goal.invariant-loop-p
invariant-loop-p g l = record {
  count : length l.frames ≡ l.p;
  whole : HasWholePages l.frames;
  pages : IfSome (g.V.Volume.contents l.fn.volume) (λ bytes. l.frames ≡ take l.p (pages_of bytes));
  reads : ReadsPages g.V.Volume l.pages l.fn.volume l.volume None;
  first : page l.frames 0 ≡ l.fn.first.value.bytes;
}
