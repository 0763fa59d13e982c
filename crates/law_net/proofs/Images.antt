-- Two images of a file, and where they may differ.
use Rattle.std.proofs.Common.{◌≡◌, ℕ, ◌<◌, ◌≤◌, [], length, inl, inr, sym, ap, ◌∙◌, subst}
use Rattle.std.proofs.lemmas.Bool.{cases_lt}
use Rattle.std.proofs.lemmas.List.{get_or_past}
use Rattle.spec_file.specs.Image.{Image, AreBytes, page, page_size}
use Rattle.spec_file.specs.Places.{HasShape}
use Rattle.spec_log.specs.Cells.{HasWholePages}
use Rattle.law_undo.proofs.Reading.{IsInside, SameShape}
use Rattle.spec_words.specs.NetChanges.{FileShape}
use Rattle.law_net.specs.Files.{IsImageOf}
use Rattle.law_net.proofs.Cuts.{place}
use Rattle.law_net.proofs.Cells.{IsWhole}

-- two images of one file: as many whole pages of bytes
pub record AreImages (shape : FileShape) (start now : Image) : Type 0 where
  pub file : HasShape shape.geometry shape.pages
  pub old_pages : length start ≡ shape.pages
  pub new_pages : length now ≡ shape.pages
  pub old_whole : HasWholePages start
  pub new_whole : HasWholePages now
  pub old_bytes : (p : ℕ) → AreBytes (page start p)
  pub new_bytes : (p : ℕ) → AreBytes (page now p)

pub are_images : (shape : FileShape) (start now : Image) → IsImageOf shape start → IsImageOf shape now → AreImages shape start now
are_images shape start now a b = record { file = a.file; old_pages = a.pages; new_pages = b.pages; old_whole = a.whole; new_whole = b.whole; old_bytes = a.bytes; new_bytes = b.bytes }

pub whole_page : (shape : FileShape) (start now : Image) → AreImages shape start now → (p : ℕ) → p < shape.pages → IsWhole start now p
whole_page shape start now images p lt = record {
  old = images.old_whole p [] (subst (λ n. p < n) (sym images.old_pages) lt);
  new = images.new_whole p [] (subst (λ n. p < n) (sym images.new_pages) lt);
}

pub same_shape : (shape : FileShape) (start now : Image) → AreImages shape start now → SameShape start now
same_shape shape start now images = record {
  pages = images.new_pages ∙ sym images.old_pages;
  bytes = λ p. elim (cases_lt p shape.pages) [
    | inl lt ↦ (whole_page shape start now images p lt).new ∙ sym (whole_page shape start now images p lt).old
    | inr ge ↦ ap length (get_or_past now p [] (subst (λ n. n ≤ p) (sym images.new_pages) ge) ∙ sym (get_or_past start p [] (subst (λ n. n ≤ p) (sym images.old_pages) ge)))
  ];
}

-- a bit of a byte of a page of the file is one that each of the images has
pub inside_image : (shape : FileShape) (image : Image) → IsImageOf shape image → (p i j : ℕ) → p < shape.pages → i < page_size → IsInside (place p i j) image
inside_image shape image is p i j lt low = let here = subst (λ n. p < n) (sym is.pages) lt in record { page_in = here; byte_in = subst (λ n. i < n) (sym (is.whole p [] here)) low }
