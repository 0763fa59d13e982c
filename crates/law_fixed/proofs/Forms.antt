-- What the form of an item says of its numbers.
use Rattle.std.proofs.Common.{◌≡◌, ℕ, ◌+◌, ◌<◌, ◌≤◌, ◌==◌, true, List, length, slice_index, arith}
use Rattle.std.specs.Prelude.{nat_lt, nat_le}
use Rattle.std.proofs.lemmas.Bool.{and_parts, eqb-true, leb-true, ltb-true}
use Rattle.spec_file.specs.declared.data.Resource.{Resource}
use Rattle.spec_file.specs.declared.data.PageNo.{PageNo}
use Rattle.spec_file.specs.declared.data.Tran.{Tran}
use Rattle.spec_log.specs.declared.item.Cell.TheVariants.{Bytes, Bit}
use Rattle.spec_log.specs.declared.item.Record.TheVariants.{Start}
use Rattle.spec_log.specs.Items.{has_form, has_cell_form}

pub record IsStartSmall (changes size : ℕ) (takes : List Resource) : Type 0 where
  pub few_changes : changes ≤ 8192
  pub few_bytes : size ≤ 134381568
  pub few_takes : length takes < 4294967296

pub start_small : (session index : ℕ) (tran : Tran) (number changes size : ℕ) (takes : List Resource) →
    has_form (Start session index tran number changes size takes) ≡ true → IsStartSmall changes size takes
start_small session index tran number changes size takes form =
    let a = and_parts _ (nat_lt (length takes) 4294967296) form in
    let b = and_parts _ (nat_le size 134381568) a.0 in
    let c = and_parts _ (nat_le changes 8192) b.0 in
    record {
      few_changes = leb-true changes 8192 c.1;
      few_bytes = leb-true size 134381568 b.1;
      few_takes = ltb-true (length takes) 4294967296 a.1;
    }

-- a cell's change is as long before as after, and the offset, or the bit, is small
pub record IsChangeSmall (place : ℕ) (before after : List ℕ) : Type 0 where
  pub near : place < 65536
  pub many : length after < 65536
  pub as_many : length before ≡ length after

pub bytes_small : (page : PageNo) (off : ℕ) (before after : List ℕ) → has_cell_form (Bytes page off) before after ≡ true → IsChangeSmall off before after
bytes_small page off before after form =
    let a = and_parts _ (length before == length after) form in
    let b = and_parts _ (nat_le (off + length after) 8192) a.0 in
    let within = leb-true (off + length after) 8192 b.1 in
    record {
      near = omega (arith, within);
      many = omega (arith, within);
      as_many = eqb-true (length before) (length after) a.1;
    }

pub bit_small : (page : PageNo) (n : ℕ) (before after : List ℕ) → has_cell_form (Bit page n) before after ≡ true → IsChangeSmall n before after
bit_small page n before after form =
    let a = and_parts _ (slice_index before 0 + slice_index after 0 == 1) form in
    let b = and_parts _ (length after == 1) a.0 in
    let c = and_parts (nat_lt n 63904) (length before == 1) b.0 in
    let one = eqb-true (length before) 1 c.1 in
    let one' = eqb-true (length after) 1 b.1 in
    let within = ltb-true n 63904 c.0 in
    record {
      near = omega (arith, within);
      many = omega (arith, one');
      as_many = omega (arith, one, one');
    }
