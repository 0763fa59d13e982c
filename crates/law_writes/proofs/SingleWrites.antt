-- The writes of a step on a single page, one after another.
use Rattle.std.proofs.Common.{◌≡◌, ◌≢◌, ◌⊎◌, ℕ, ◌/◌, ◌<◌, length, true, sym, subst, ◌∙◌, inr, ⊎_elim, arith}
use Rattle.spec_file.specs.declared.geometry.Geometry.{Geometry}
use Rattle.spec_file.specs.Image.{Image, page}
use Rattle.spec_file.specs.Places.{HasShape, extent_count, is_free, is_mixed}
use Rattle.spec_file.specs.Roles.{is_ordinary}
use Rattle.spec_chain.specs.Uses.{pfs_byte}
use Rattle.spec_steps.specs.AtMost.{IsWhole, AtMost, free_bit, mixed_bit, byte_of, page_of, either, maps_of}
use Rattle.spec_steps.specs.Writes.{Single, WritesSingle}
use Rattle.law_writes.specs.Laws.{HasWritten, WritesChangeTheirs}
use Rattle.law_writes.proofs.WritesAtMost.{word_free, word_mixed, word_byte, word_page, at_most_both}

moved : (g : Geometry) (m n : ℕ) → n ≡ m → HasShape g m → HasShape g n
moved g m n same shape = subst (HasShape g) (sym same) shape

neither : ⊥ ⊎ ⊥ → ⊥
neither h = ⊎_elim (λ x. x) (λ x. x) h

module _ (g : Geometry) (image image' : Image) (p q : ℕ) (single : Single) (shape : HasShape g (length image)) (inside : p < length image) (ordinary : is_ordinary g p ≡ true)
    (inside_q : q < length image) (whole : IsWhole g q) (apart : p ≢ q) (words : WritesSingle g p q single image image') where
  in_extent : p / 8 < extent_count image
  in_extent = let b = shape.whole in omega (arith, inside, b)

  one : AtMost g (free_bit (p / 8)) image words.after_free × (is_free g words.after_free (p / 8) ≡ single.free)
  one = word_free g image shape words.after_free (p / 8) single.free in_extent words.free

  shape_one : HasShape g (length words.after_free)
  shape_one = moved g (length image) (length words.after_free) one.0.size shape

  extent_one : p / 8 < extent_count words.after_free
  extent_one = subst (λ n. p / 8 < n / 8) (sym one.0.size) in_extent

  two : AtMost g (mixed_bit (p / 8)) words.after_free words.after_mixed × (is_mixed g words.after_mixed (p / 8) ≡ single.mixed)
  two = word_mixed g words.after_free shape_one words.after_mixed (p / 8) single.mixed extent_one words.mixed

  shape_two : HasShape g (length words.after_mixed)
  shape_two = moved g (length words.after_free) (length words.after_mixed) two.0.size shape_one

  extent_two : p / 8 < extent_count words.after_mixed
  extent_two = subst (λ n. p / 8 < n / 8) (sym two.0.size) extent_one

  inside_two : p < length words.after_mixed
  inside_two = subst (λ n. p < n) (sym (two.0.size ∙ one.0.size)) inside

  three : AtMost g (byte_of p) words.after_mixed words.after_byte × (pfs_byte g words.after_byte p ≡ single.byte)
  three = word_byte g words.after_mixed shape_two words.after_byte p single.byte inside_two words.byte

  rest : AtMost g (either (mixed_bit (p / 8)) (byte_of p)) words.after_free words.after_byte
  rest = at_most_both g (mixed_bit (p / 8)) (byte_of p) words.after_free words.after_mixed words.after_byte two.0 three.0

  maps : AtMost g (maps_of p) image words.after_byte
  maps = at_most_both g (free_bit (p / 8)) (either (mixed_bit (p / 8)) (byte_of p)) image words.after_free words.after_byte one.0 rest

  shape_three : HasShape g (length words.after_byte)
  shape_three = moved g (length image) (length words.after_byte) maps.size shape

  four : AtMost g (page_of p) words.after_byte words.after_own × (page words.after_own p ≡ single.own)
  four = word_page g words.after_byte shape_three words.after_own p single.own (subst (λ n. p < n) (sym maps.size) inside) (inr ordinary) words.own

  shape_four : HasShape g (length words.after_own)
  shape_four = moved g (length words.after_byte) (length words.after_own) four.0.size shape_three

  five : AtMost g (page_of q) words.after_own image' × (page image' q ≡ single.other)
  five = word_page g words.after_own shape_four image' q single.other (subst (λ n. q < n) (sym (four.0.size ∙ maps.size)) inside_q) whole words.other

  pages : AtMost g (either (page_of p) (page_of q)) words.after_byte image'
  pages = at_most_both g (page_of p) (page_of q) words.after_byte words.after_own image' four.0 five.0

  extent_three : p / 8 < extent_count words.after_byte
  extent_three = subst (λ n. p / 8 < n / 8) (sym maps.size) in_extent

  pub has_written : HasWritten g p q single image image'
  has_written = record {
    most = at_most_both g (maps_of p) (either (page_of p) (page_of q)) image words.after_byte image' maps pages;
    free = pages.free (p / 8) extent_three neither ∙ rest.free (p / 8) extent_one neither ∙ one.1;
    mixed = pages.mixed (p / 8) extent_three neither ∙ three.0.mixed (p / 8) extent_two (λ x. x) ∙ two.1;
    byte = pages.bytes p (subst (λ n. p < n) (sym maps.size) inside) neither ∙ three.1;
    own = five.0.pages p (inr ordinary) apart ∙ four.1;
    other = five.1;
  }

pub writes_change_theirs : WritesChangeTheirs
writes_change_theirs g image image' p q single shape inside ordinary inside_q whole apart words = has_written g image image' p q single shape inside ordinary inside_q whole apart words
