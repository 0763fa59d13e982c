use Rattle.std.proofs.Common.{◌≡◌, ℕ, List, take, drop, slice_index, arith, ap, sym, ◌∙◌}
use Rattle.std.proofs.lemmas.List.{drop-take}
use Rattle.pg_base.proofs.NumberLaws.{front_stays, back_stays, number_stays, same_byte, same_back}
use Rattle.pg_base.specs.Zeros.{zero_page}
use Rattle.pg_base.proofs.HeaderLaws.{same_header}
use Rattle.pg_iam.proofs.write.make_iam.Goals as goal

kept : (c : goal.After-put_u32-2) → take 96 c.put_u32-2.new.page.bytes ≡ take 96 c.write_header.new.page.bytes
kept c = front_stays 96 _ _ _ _ _ c.put_u32-2.ensures (omega arith) ∙ front_stays 96 _ _ _ _ _ c.put_u32.ensures (omega arith)

zeros : (c : goal.After-put_u32-2) → drop 28 c.write_header.new.page.bytes ≡ drop 28 zero_page
zeros c = c.write_header.ensures.behind ∙ ap (drop 28) c.clear.ensures

pub returns-clause-header : goal.returns-clause-header
returns-clause-header c =
    same_header c.put_u32-2.new.page.bytes c.write_header.new.page.bytes (kept c) ∙ c.write_header.ensures.read

pub returns-clause-version : goal.returns-clause-version
returns-clause-version c =
    same_byte 0 96 c.put_u32-2.new.page.bytes c.write_header.new.page.bytes (kept c) (omega arith) ∙ c.write_header.ensures.version

pub returns-clause-interval : goal.returns-clause-interval
returns-clause-interval c = number_stays 4 96 _ _ _ _ _ c.put_u32-2.ensures (omega arith) ∙ c.put_u32.ensures.number

pub returns-clause-unused : goal.returns-clause-unused
returns-clause-unused c =
    same_byte 3 96 c.put_u32-2.new.page.bytes c.write_header.new.page.bytes (kept c) (omega arith)
    ∙ c.write_header.ensures.unused ∙ ap (λ (bytes : List ℕ). slice_index bytes 3) c.clear.ensures

pub returns-clause-between : goal.returns-clause-between
returns-clause-between c =
    ap (drop 28) (kept c) ∙ drop-take 28 68 c.write_header.new.page.bytes ∙ ap (take 68) (zeros c) ∙ sym (drop-take 28 68 zero_page)

pub returns-clause-behind : goal.returns-clause-behind
returns-clause-behind c =
    back_stays 104 _ _ _ _ _ c.put_u32-2.ensures (omega arith) ∙ back_stays 104 _ _ _ _ _ c.put_u32.ensures (omega arith)
    ∙ same_back 104 28 c.write_header.new.page.bytes zero_page (zeros c) (omega arith)
