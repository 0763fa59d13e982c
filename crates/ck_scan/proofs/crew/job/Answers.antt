use Rattle.std.proofs.Common.{refl, ◌∙◌}
use Rattle.ck_scan.proofs.OnceLaws.{found_first}
use Rattle.ck_scan.proofs.SumLaws.{max_one}
use Rattle.ck_scan.proofs.crew.job.Goals as goal

pub returns : goal.returns
returns c = record {
  is = record {
    of = c.requires.of;
    one = c.requires.one;
    found = record {
      lines = c.in_ok-begin-2.ensures.lines;
      roots = c.in_ok-begin-2.ensures.roots;
      count = c.in_ok-begin-2.ensures.parts ∙ (max_one c.args.workers c.requires.some ∙ c.requires.workers);
    };
  };
  going = refl;
  holds = λ image. (found_first image c.args.map.now c.args.seat.draws c.in_ok-begin-2.field-0 c.requires.draws (c.in_ok-begin-2.ensures.found image), c.in_ok-begin.ensures image);
}
