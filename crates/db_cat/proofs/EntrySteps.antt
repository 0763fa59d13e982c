-- The bytes of an entry, part by part.
use Rattle.std.proofs.Common.{◌≡◌, refl, ℕ, ◌-◌, List, [], ◌∷◌, ◌++◌, length, replicate, ap, sym, ◌∙◌, append_assoc}
use Rattle.byteorder.specs.Endian.{little_bytes}
use Rattle.spec_file.specs.CatalogRows.{CatalogRow}
use Rattle.spec_file.specs.CatalogBytes.{kind_byte, entry_bytes}

joined : (h a b c d e : List ℕ) → (((h ++ (a ++ b)) ++ c) ++ d) ++ e ≡ h ++ (a ++ (b ++ (c ++ (d ++ e))))
joined h a b c d e = simp append_assoc refl

pub entry_made : (row : CatalogRow) (head name iam root all : List ℕ) → head ≡ little_bytes 4 row.id ++ (kind_byte row.kind ∷ length row.name ∷ [])
    → name ≡ head ++ (row.name ++ replicate (18 - length row.name) 0) → iam ≡ name ++ little_bytes 4 row.first_iam → root ≡ iam ++ little_bytes 4 row.root
    → all ≡ root ++ replicate 8 0 → all ≡ entry_bytes row
unfolding entry_bytes
entry_made row head name iam root all a b c d e =
    let pad = replicate (18 - length row.name) 0 in
    e ∙ ap (λ (xs : List ℕ). xs ++ replicate 8 0) (d ∙ ap (λ (xs : List ℕ). xs ++ little_bytes 4 row.root) (c ∙ ap (λ (xs : List ℕ). xs ++ little_bytes 4 row.first_iam) b))
    ∙ joined head row.name pad (little_bytes 4 row.first_iam) (little_bytes 4 row.root) (replicate 8 0)
    ∙ ap (λ (xs : List ℕ). xs ++ (row.name ++ (pad ++ (little_bytes 4 row.first_iam ++ (little_bytes 4 row.root ++ replicate 8 0))))) a
