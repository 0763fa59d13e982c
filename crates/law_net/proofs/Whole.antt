-- The net changes are a cut of all that differs.
use Rattle.std.proofs.Common.{◌≡◌, ℕ, Bool, ◌+◌, ◌/◌, ◌%◌, ◌<◌, true, not, ◌&&◌, inl, inr, sym, ◌∙◌, subst, arith}
use Rattle.std.specs.Prelude.{filter, flat_map}
use Rattle.std.specs.List.{range_with_len}
use Rattle.std.proofs.lemmas.Bool.{and_parts, not-true, both_ways}
use Rattle.spec_file.specs.declared.geometry.Geometry.{Geometry}
use Rattle.spec_file.specs.declared.geometry.Geometry.TheVariants.{Standard, Small}
use Rattle.spec_file.specs.declared.data.Resource.{Resource}
use Rattle.spec_file.specs.Image.{Image}
use Rattle.spec_file.specs.Places.{interval_size, gam_place, sgam_place, pfs_page}
use Rattle.spec_file.specs.Roles.{is_ordinary}
use Rattle.law_cover.proofs.Pages.{pfs_inside}
use Rattle.spec_words.specs.NetChanges.{FileShape, is_page_changed, is_iam, page_changes, part_changes, bit_changes, run_changes, iam_changes, other_changes, changes_of}
use Rattle.law_net.proofs.Cuts.{Zone, Or, IsCut, InRange, cut_both, cut_range, made_is, cut_finds}
use Rattle.law_net.specs.NetLaw.{made}
use Rattle.law_net.specs.Plans.{Find}
use Rattle.law_net.proofs.Cells.{IsSpan, cut_bits}
use Rattle.law_net.proofs.Parts.{cut_part, cut_page}
use Rattle.law_net.proofs.Runs.{cut_runs}
use Rattle.law_net.specs.Files.{DifferOnlyAt}
use Rattle.law_net.proofs.Images.{AreImages, whole_page, same_shape}
use Rattle.law_net.proofs.Zones.{Bits, Pfs, Iams, Others, AnyPart, BitGuarded, ByteGuarded, bits_and_bytes, same_grain, same_byte_number, same_bit_number, gam_bit, sgam_bit, run_byte, page_byte, boot_byte, no_both_maps, all_in_zones}

low_bit : (g : Geometry) (e : ℕ) → e % interval_size g < 63904
low_bit Standard e = omega arith
low_bit Small e = omega arith

upper : (p n : ℕ) → p < 0 + n → p < n
upper p n lt = omega (arith, lt)

-- what guards each part
pub record SomeByte (g : Geometry) (pages p i k : ℕ) : Type 0 where
  pub n : ℕ
  pub guarded : ByteGuarded g pages p i k n

gams_guarded : (shape : FileShape) (start now : Image) → AreImages shape start now → (p i j : ℕ) → (z : Bits (gam_place shape.geometry) shape start now p i j) →
    BitGuarded shape.geometry shape.pages p i j z.at
gams_guarded shape start now images p i j z = gam_bit shape images.file z.at p i j (upper z.at (shape.pages / 8) z.high) z.in_zone

sgams_guarded : (shape : FileShape) (start now : Image) → AreImages shape start now → (p i j : ℕ) → (z : Bits (sgam_place shape.geometry) shape start now p i j) →
    BitGuarded shape.geometry shape.pages p i j z.at
sgams_guarded shape start now images p i j z = sgam_bit shape images.file z.at p i j (upper z.at (shape.pages / 8) z.high) z.in_zone

runs_guarded : (shape : FileShape) (start now : Image) → AreImages shape start now → (p i j : ℕ) → Pfs shape start now p i j → SomeByte shape.geometry shape.pages p i 4
runs_guarded shape start now images p i j z =
    let r = run_byte shape start now images.file z.at p i j (upper z.at shape.pages z.high) z.in_zone in record { n = r.0; guarded = r.1 }

iams_guarded : (shape : FileShape) (start now : Image) (p i j : ℕ) → (z : Iams shape start now p i j) → ByteGuarded shape.geometry shape.pages p i 5 z.at
iams_guarded shape start now p i j z =
    page_byte shape z.at p i j (upper z.at shape.pages z.high) (and_parts (is_ordinary shape.geometry z.at) _ (and_parts (is_page_changed shape.geometry start now z.at) _ z.passes).0).0 z.in_zone

others_guarded : (shape : FileShape) (start now : Image) (p i j : ℕ) → (z : Others shape start now p i j) → ByteGuarded shape.geometry shape.pages p i 5 z.at
others_guarded shape start now p i j z =
    page_byte shape z.at p i j (upper z.at shape.pages z.high) (and_parts (is_ordinary shape.geometry z.at) _ (and_parts (is_page_changed shape.geometry start now z.at) _ z.passes).0).0 z.in_zone

-- what is in a page of the last four parts
abbrev Bytes : FileShape → Image → Image → Zone
Bytes shape start now = Or (Pfs shape start now) (Or (Iams shape start now) (Or (IsSpan 9 0 8192) (Others shape start now)))

bytes_guarded : (shape : FileShape) (start now : Image) → AreImages shape start now → (p i j : ℕ) → Bytes shape start now p i j → (k : ℕ) × SomeByte shape.geometry shape.pages p i k
bytes_guarded shape start now images p i j (inl z) = (4, runs_guarded shape start now images p i j z)
bytes_guarded shape start now images p i j (inr (inl z)) = (5, record { n = z.at; guarded = iams_guarded shape start now p i j z })
bytes_guarded shape start now images p i j (inr (inr (inl z))) = (1, record { n = 0; guarded = boot_byte shape images.file p i j z })
bytes_guarded shape start now images p i j (inr (inr (inr z))) = (5, record { n = z.at; guarded = others_guarded shape start now p i j z })

-- the pages of one kind
cut_pages : (shape : FileShape) (start now : Image) → AreImages shape start now → (test : ℕ → Bool) →
    IsCut start now (InRange test (λ p. IsSpan p 0 8192) shape.pages 0) (flat_map (page_changes shape.geometry start now) (filter test (range_with_len 0 shape.pages)))
cut_pages shape start now images test =
    cut_range start now (page_changes shape.geometry start now) test (λ p. IsSpan p 0 8192) shape.pages 0
    (λ p low high passes. cut_page shape.geometry start now p (whole_page shape start now images p (upper p shape.pages high)))
    (λ x y p i j a b c d s t u v. sym u.page ∙ v.page)

pub cut_all : (shape : FileShape) (start now : Image) → AreImages shape start now → IsCut start now (AnyPart shape start now) (changes_of shape start now)
cut_all shape start now images =
    let g = shape.geometry in
    let n = shape.pages in
    let file = images.file in
    let low = file.low in
    cut_both start now (Bits (gam_place g) shape start now) (Or (Bits (sgam_place g) shape start now) (Bytes shape start now))
    (bit_changes shape (gam_place g) start now) _
    (cut_bits shape (gam_place g) start now (low_bit g)
    (λ e f p i j a b s t. same_bit_number g n p i j e f (gam_bit shape file e p i j a s) (gam_bit shape file f p i j b t)))
    (cut_both start now (Bits (sgam_place g) shape start now) (Bytes shape start now) (bit_changes shape (sgam_place g) start now) _
    (cut_bits shape (sgam_place g) start now (low_bit g)
    (λ e f p i j a b s t. same_bit_number g n p i j e f (sgam_bit shape file e p i j a s) (sgam_bit shape file f p i j b t)))
    (cut_both start now (Pfs shape start now) (Or (Iams shape start now) (Or (IsSpan 9 0 8192) (Others shape start now))) (run_changes shape start now) _
    (cut_runs shape start now (λ p lt. whole_page shape start now images (pfs_page g p) (pfs_inside g n p file.low lt)))
    (cut_both start now (Iams shape start now) (Or (IsSpan 9 0 8192) (Others shape start now)) (iam_changes shape start now) _
    (cut_pages shape start now images (λ p. is_page_changed g start now p && is_iam now p))
    (cut_both start now (IsSpan 9 0 8192) (Others shape start now) (part_changes start now 9 0 8192) (other_changes shape start now)
    (cut_part start now 9 0 8192 (whole_page shape start now images 9 (omega (arith, low))) (omega arith) (omega arith))
    (cut_pages shape start now images (λ p. is_page_changed g start now p && not (is_iam now p)))
    (λ p i j a b. boot_other p i (same_grain g n p i 1 5 _ _ (boot_byte shape file p i j a) (others_guarded shape start now p i j b))))
    (λ p i j a z. elim z [
      | inl b ↦ boot_other p i (same_grain g n p i 1 5 _ _ (boot_byte shape file p i j b) (iams_guarded shape start now p i j a))
      | inr b ↦
          let same : a.at ≡ b.at = same_byte_number g n p i 5 5 a.at b.at (iams_guarded shape start now p i j a) (others_guarded shape start now p i j b) in
          both_ways (is_iam now b.at) (not-true (is_iam now b.at) (and_parts (is_page_changed g start now b.at) _ b.passes).1)
          (subst (λ q. is_iam now q ≡ true) same (and_parts (is_page_changed g start now a.at) (is_iam now a.at) a.passes).1)
    ]))
    (λ p i j a z. elim z [
      | inl b ↦ pfs_other p i (same_grain g n p i 4 5 _ _ (runs_guarded shape start now images p i j a).guarded (iams_guarded shape start now p i j b))
      | inr (inl b) ↦ pfs_boot p i (same_grain g n p i 4 1 _ _ (runs_guarded shape start now images p i j a).guarded (boot_byte shape file p i j b))
      | inr (inr b) ↦ pfs_other p i (same_grain g n p i 4 5 _ _ (runs_guarded shape start now images p i j a).guarded (others_guarded shape start now p i j b))
    ]))
    (λ p i j a z.
    let b = bytes_guarded shape start now images p i j z in bits_and_bytes g n p i j a.at b.0 b.1.n (sgams_guarded shape start now images p i j a) b.1.guarded))
    (λ p i j a z. elim z [
      | inl b ↦ no_both_maps g (a.at / interval_size g) (b.at / interval_size g) (let s = a.in_zone in let t = b.in_zone in sym s.page ∙ t.page)
      | inr y ↦ let b = bytes_guarded shape start now images p i j y in bits_and_bytes g n p i j a.at b.0 b.1.n (gams_guarded shape start now images p i j a) b.1.guarded
    ])
  where
    boot_other : (p i : ℕ) → ◌≡◌ {A = ℕ} 1 5 → ⊥
    boot_other p i e = omega (arith, e)

    pfs_other : (p i : ℕ) → ◌≡◌ {A = ℕ} 4 5 → ⊥
    pfs_other p i e = omega (arith, e)

    pfs_boot : (p i : ℕ) → ◌≡◌ {A = ℕ} 4 1 → ⊥
    pfs_boot p i e = omega (arith, e)

-- (a) the net changes make the one image from the other
pub changes_make : (P : Resource → Type 0) (shape : FileShape) (start now : Image) → AreImages shape start now → DifferOnlyAt P shape start now → made start (changes_of shape start now) ≡ now
changes_make P shape start now images differ =
    made_is start now (AnyPart shape start now) (changes_of shape start now) (same_shape shape start now images) (cut_all shape start now images) (all_in_zones P shape start now images differ)

-- (b) each finds its bytes
pub changes_find : (shape : FileShape) (start now : Image) → AreImages shape start now → Find start (changes_of shape start now)
changes_find shape start now images = cut_finds start now (AnyPart shape start now) (changes_of shape start now) (cut_all shape start now images)
