use Rattle.std.proofs.Common.{◌≡◌, ◌∙◌, drop, slice_index, arith, refl}
use Rattle.spec_file.specs.Image.{number_at}
use Rattle.pg_base.proofs.FirstBytes.{with_first, first_byte, second_byte, third_byte, fourth_byte, bytes_behind}
use Rattle.pg_base.proofs.NumberLaws.{same_number, same_byte, same_back}
use Rattle.pg_base.proofs.header.write_header.Goals as goal

pub returns-clause-read : goal.returns-clause-read
returns-clause-read c =
    let kept = c.write_counts.ensures.before in
    let first = c.write_numbers.ensures.before in
    let page_type : slice_index c.write_counts.new.page.bytes 1 ≡ c.args.header.now.page_type =
    same_byte 1 20 _ _ kept (omega arith) ∙ same_byte 1 4 _ _ first (omega arith) ∙ second_byte c.args.page.now.bytes 1 c.args.header.now.page_type c.args.header.now.level (omega arith) in
    let level : slice_index c.write_counts.new.page.bytes 2 ≡ c.args.header.now.level =
    same_byte 2 20 _ _ kept (omega arith) ∙ same_byte 2 4 _ _ first (omega arith) ∙ third_byte c.args.page.now.bytes 1 c.args.header.now.page_type c.args.header.now.level (omega arith) in
    let page_id : number_at 4 4 c.write_counts.new.page.bytes ≡ c.args.header.now.page_id.0 =
    same_number 4 4 20 _ _ kept (omega arith) ∙ c.write_numbers.ensures.page_id in
    let object : number_at 4 8 c.write_counts.new.page.bytes ≡ c.args.header.now.object.0 =
    same_number 4 8 20 _ _ kept (omega arith) ∙ c.write_numbers.ensures.object in
    let prev : number_at 4 12 c.write_counts.new.page.bytes ≡ c.args.header.now.prev.0 =
    same_number 4 12 20 _ _ kept (omega arith) ∙ c.write_numbers.ensures.prev in
    let next : number_at 4 16 c.write_counts.new.page.bytes ≡ c.args.header.now.next.0 =
    same_number 4 16 20 _ _ kept (omega arith) ∙ c.write_numbers.ensures.next in
    let counts = c.write_counts.ensures in
    rw (page_type, level, page_id, object, prev, next, counts.slots, counts.free_count, counts.free_from, counts.ghosts) refl

pub returns-clause-version : goal.returns-clause-version
returns-clause-version c =
    same_byte 0 20 _ _ c.write_counts.ensures.before (omega arith) ∙ same_byte 0 4 _ _ c.write_numbers.ensures.before (omega arith)
    ∙ first_byte c.args.page.now.bytes 1 c.args.header.now.page_type c.args.header.now.level (omega arith)

pub returns-clause-unused : goal.returns-clause-unused
returns-clause-unused c =
    same_byte 3 20 _ _ c.write_counts.ensures.before (omega arith) ∙ same_byte 3 4 _ _ c.write_numbers.ensures.before (omega arith)
    ∙ fourth_byte c.args.page.now.bytes 1 c.args.header.now.page_type c.args.header.now.level

pub returns-clause-behind : goal.returns-clause-behind
returns-clause-behind c =
    let numbers : drop 28 c.write_numbers.new.page.bytes ≡ drop 28 (with_first c.args.page.now.bytes 1 c.args.header.now.page_type c.args.header.now.level) =
    same_back 28 20 c.write_numbers.new.page.bytes (with_first c.args.page.now.bytes 1 c.args.header.now.page_type c.args.header.now.level) c.write_numbers.ensures.behind (omega arith) in
    c.write_counts.ensures.behind ∙ numbers ∙ bytes_behind 28 c.args.page.now.bytes 1 c.args.header.now.page_type c.args.header.now.level (omega arith)
