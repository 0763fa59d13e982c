use Rattle.std.proofs.Common.{◌≡◌, ℕ, ◌+◌, ◌-◌, ◌*◌, List, ap, sym, ◌∙◌, arith}
use borrow.Rule.Slice.PartMut.{put_mid}
use Rattle.spec_file.proofs.EntryLaws.{as_put}
use Rattle.db_cat.proofs.change.put_entry.Goals as goal

pub returns-clause-bytes : goal.returns-clause-bytes
returns-clause-bytes c =
    let at = 96 + 40 * c.args.i in
    let bytes = c.args.page.now.bytes in
    let size : 96 + 40 * c.args.i + 40 - (96 + 40 * c.args.i) ≡ 40 = omega arith in
    ap (λ (k : ℕ). put_mid at k bytes c.copy_from_slice.new.self) size
    ∙ ap (put_mid at 40 bytes) c.copy_from_slice.ensures.after
    ∙ sym (as_put c.args.i c.args.entry.now bytes)
