-- The bytes of resources fix them.
use Rattle.std.proofs.Common.{◌≡◌, ℕ, ◌<◌, ◌^◌, List, [], ◌∷◌, ◌++◌, length, refl, sym, ap, ◌∙◌, arith, ◌==◌}
use Rattle.std.specs.Prelude.{flat_map, if◌then◌else◌}
use Rattle.std.proofs.lemmas.List.{append_assoc}
use Rattle.byteorder.specs.Endian.{little_bytes}
use Rattle.spec_file.specs.declared.data.Resource.{Resource}
use Rattle.spec_file.specs.declared.data.Resource.TheVariants.{Catalog, Table, Extent, Byte, Page}
use Rattle.spec_log.specs.Items.{grain_of, number_of}
use Rattle.spec_log.specs.Bytes.{resource_bytes}
use Rattle.law_fixed.specs.Widths.{ResourcesFit}
use Rattle.law_fixed.proofs.Numbers.{split, head_same}

-- the resource with this grain and number
abbrev of_grain : ℕ → ℕ → Resource
of_grain grain n =
    if grain == 1 then Catalog else if grain == 2 then Table (record { 0 = n }) else if grain == 3 then Extent (record { 0 = n })
    else if grain == 4 then Byte (record { 0 = n }) else Page (record { 0 = n })

read_back : (r : Resource) → of_grain (grain_of r) (number_of r) ≡ r
read_back Catalog = refl
read_back (Table o) = refl
read_back (Extent e) = refl
read_back (Byte p) = refl
read_back (Page p) = refl

resource_same : (r s : Resource) → grain_of r ≡ grain_of s → number_of r ≡ number_of s → r ≡ s
resource_same r s grain number = sym (read_back r) ∙ ap (λ g. of_grain g (number_of r)) grain ∙ ap (of_grain (grain_of s)) number ∙ read_back s

pub resource_split : (r s : Resource) (xs ys : List ℕ) → number_of r < 2 ^ 32 → number_of s < 2 ^ 32 →
    resource_bytes r ++ xs ≡ resource_bytes s ++ ys → (r ≡ s) × (xs ≡ ys)
resource_split r s xs ys fr fs same =
    let head = head_same (grain_of r) (grain_of s) (little_bytes 4 (number_of r) ++ xs) (little_bytes 4 (number_of s) ++ ys) same in
    let rest = split 4 (number_of r) (number_of s) xs ys fr fs head.1 in
    (resource_same r s head.0 rest.0, rest.1)

cons_same : (r s : Resource) (rs ss : List Resource) → r ≡ s → rs ≡ ss → r ∷ rs ≡ s ∷ ss
cons_same r s rs ss h t = cc

pub resources_split : (rs ss : List Resource) (xs ys : List ℕ) → ResourcesFit rs → ResourcesFit ss → length rs ≡ length ss →
    flat_map resource_bytes rs ++ xs ≡ flat_map resource_bytes ss ++ ys → (rs ≡ ss) × (xs ≡ ys)
resources_split [] [] xs ys fr fs many same = (refl, same)
resources_split [] (s ∷ ss) xs ys fr fs many same = absurd (omega (arith, many))
resources_split (r ∷ rs) [] xs ys fr fs many same = absurd (omega (arith, many))
resources_split (r ∷ rs) (s ∷ ss) xs ys fr fs many same =
    let whole : resource_bytes r ++ (flat_map resource_bytes rs ++ xs) ≡ resource_bytes s ++ (flat_map resource_bytes ss ++ ys) =
    sym (append_assoc (resource_bytes r) (flat_map resource_bytes rs) xs) ∙ same ∙ append_assoc (resource_bytes s) (flat_map resource_bytes ss) ys in
    let first = resource_split r s _ _ fr.0 fs.0 whole in
    let rest = resources_split rs ss xs ys fr.1 fs.1 (omega (arith, many)) first.1 in
    (cons_same r s rs ss first.0 rest.0, rest.1)
