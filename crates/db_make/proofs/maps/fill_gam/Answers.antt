use Rattle.std.proofs.Common.{ℕ, ◌+◌, ◌*◌, ap, ◌∙◌, arith}
use Rattle.spec_make.specs.NewMaps.{is_new_free}
use Rattle.db_make.proofs.MapBytes.{bits_more, bits_all}
use Rattle.db_make.proofs.maps.fill_gam.Goals as goal

pub loop-n-preserved : goal.loop-n-preserved
loop-n-preserved c =
    let xs = c.loop-n.into.bytes in
    let ys = c.set_bit.new.page.bytes in
    let n = c.loop-n.n in
    let kept = c.loop-n.invariant in
    let set = c.set_bit.ensures in
    record {
      header = λ i low. set.other_bytes i (λ same. omega (arith, same, low)) ∙ kept.header i low;
      bits = bits_more c.args.g (is_new_free c.args.g c.args.pages) c.args.m n c.is_free.result xs ys (omega arith)
          (c.is_free.ensures ∙ ap (λ (size : ℕ). is_new_free c.args.g c.args.pages (size * c.args.m + n)) c.interval_size-size.ensures) set.bit set.other_bits kept.bits;
      behind = λ k past. set.other_bits k (λ same. omega (arith, same, past)) ∙ kept.behind k (omega (arith, past));
    }

pub returns-clause-bits : goal.returns-clause-bits
returns-clause-bits c =
    let kept = c.loop-n.invariant in
    bits_all c.args.g (is_new_free c.args.g c.args.pages) c.args.m c.loop-n.n c.loop-n.into.bytes (omega arith) (omega arith) kept.bits kept.behind
