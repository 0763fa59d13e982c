-- What writing the pages of an image leaves of its file.
use Rattle.std.specs.Prelude.{◌≡◌, ℕ, ◌+◌, ◌*◌, ◌<◌, Bool, true, false, List, ◌∷◌, ◌++◌, length, take, drop, slice_index_or, slice_set, Option, Some, None, option_map, refl}
use Rattle.std.proofs.Common.{sym, ap, ◌∙◌}
use Rattle.std.proofs.lemmas.Option.{same_Some}
use Rattle.spec_file.specs.Image.{Image, page, page_size, pages_of}
use Rattle.spec_file.specs.Image.{bytes_of}
use Rattle.spec_file.proofs.ImageLaws.{bytes_of-pages_of}

-- the file, where it is told, keeps its length, and its pages are what this makes of those before
pub record Leaves (after : Image → Image) (old new : Option (List ℕ)) : Type 0 where
  pub pages : option_map pages_of new ≡ option_map (λ bytes. after (pages_of bytes)) old
  pub size : option_map length new ≡ option_map length old

-- the place of page p holds some bytes of a page's length, and all else is as before
pub record Spoils (p : ℕ) (old new : Option (List ℕ)) : Type 0 where
  pub held : List ℕ
  pub size : length held ≡ page_size
  pub left : Leaves (λ before. slice_set before p held) old new

-- page p is marked
abbrev pub is_marked : List Bool → ℕ → Bool
is_marked marks p = slice_index_or marks p false

-- the pages that aren't marked are the same in both images
abbrev pub SameUnmarked : List Bool → Image → Image → Type 0
SameUnmarked marks image before = (p : ℕ) → p < length image → is_marked marks p ≡ false → page before p ≡ page image p

-- the write of a marked page failed: those before it are written, it may hold any bytes, and all others are as before
pub record StopsWriting (marks : List Bool) (image : Image) (old new : Option (List ℕ)) : Type 0 where
  pub at : ℕ
  pub held : List ℕ
  pub below : at < length image
  pub marked : is_marked marks at ≡ true
  pub size : length held ≡ page_size
  pub left : Leaves (λ before. take at image ++ held ∷ drop (at + 1) before) old new

-- one write after another
pub Leaves-then : (f g : Image → Image) (a b c : Option (List ℕ)) → Leaves f a b → Leaves g b c → Leaves (λ before. g (f before)) a c
Leaves-then f g None None None p q = record { pages = refl; size = refl }
Leaves-then f g None None (Some c) p q = let no_ = q.size in cc
Leaves-then f g None (Some b) c p q = let no_ = p.size in cc
Leaves-then f g (Some a) None c p q = let no_ = p.size in cc
Leaves-then f g (Some a) (Some b) None p q = let no_ = q.size in cc
Leaves-then f g (Some a) (Some b) (Some c) p q = record {
  pages = q.pages ∙ ap (λ image. Some (g image)) (same_Some (pages_of b) (f (pages_of a)) p.pages);
  size = q.size ∙ p.size;
}

-- a told file of whole pages whose pages are all written has the bytes of the image
pub written_bytes : (image : Image) (old new : List ℕ) → length old ≡ page_size * length image → Leaves (λ before. image) (Some old) (Some new)
    → new ≡ bytes_of image
written_bytes image old new whole left =
    let size : length new ≡ page_size * length image = same_Some (length new) (length old) left.size ∙ whole in
    sym (bytes_of-pages_of new (length image) size) ∙ ap bytes_of (same_Some (pages_of new) image left.pages)
