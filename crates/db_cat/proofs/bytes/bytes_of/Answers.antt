use Rattle.std.proofs.Common.{◌≡◌, refl, List, ℕ, ap, sym, ◌∙◌, arith, length, ◌∷◌, [], ◌++◌, ◌-◌, replicate}
use Rattle.byteorder.specs.Endian.{little_bytes}
use Rattle.spec_file.specs.CatalogBytes.{kind_byte}
use Rattle.spec_file.specs.CatalogRows.{row_of_entry}
use Rattle.spec_file.proofs.EntryLaws.{entry_size, row_back}
use Rattle.db_cat.specs.Rows.{row_of}
use Rattle.db_cat.proofs.EntrySteps.{entry_made}
use Rattle.db_cat.proofs.bytes.bytes_of.Goals as goal

pub returns : goal.returns
returns c =
    let row = row_of c.args.row.now in
    let named = c.as_str-name.ensures.value in
    let head = c.head_of-entry.ensures.bytes ∙ ap (λ (n : ℕ). little_bytes 4 row.id ++ (kind_byte row.kind ∷ n ∷ [])) (ap length named) in
    let name = c.push_name.ensures.bytes ∙ ap (λ (name : List ℕ). c.head_of-entry.result.items ++ (name ++ replicate (18 - length name) 0)) named in
    let whole = entry_made row _ _ _ _ _ head name c.push_u32.ensures.bytes c.push_u32-2.ensures.bytes c.push_zeros.ensures.bytes in
    record {
      bytes = whole;
      size = ap length whole ∙ entry_size row c.requires;
      row = ap row_of_entry whole ∙ row_back row (record { id = c.head_of-entry.ensures.fits; name = c.requires; first_iam = c.push_u32.ensures.fits; root = c.push_u32-2.ensures.fits });
    }
