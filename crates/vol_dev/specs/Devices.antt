-- What calls of a device do to the bytes that it tells of.
use Rattle.std.specs.Prelude.{◌≡◌, ◌⊎◌, ℕ, ◌+◌, ◌*◌, ◌≤◌, Bool, true, false, List, ◌++◌, length, take, drop, Option, option_map}
use Rattle.std.specs.Io.KnownBytes.{append_known}
use Rattle.spec_file.specs.Image.{page_size}

-- told bytes have grown by a front of these
pub record WroteFront (old new : Option (List ℕ)) (bytes : List ℕ) : Type 0 where
  pub front : List ℕ
  pub rest : List ℕ
  pub parts : bytes ≡ front ++ rest
  pub grown : new ≡ append_known old front

-- told bytes have grown by these; where the call failed, by a front of them
abbrev pub Grows : Option (List ℕ) → Option (List ℕ) → List ℕ → Bool → Type 0
Grows old new bytes false = new ≡ append_known old bytes
Grows old new bytes true = WroteFront old new bytes

-- page p lies inside the bytes
abbrev pub HasPage : ℕ → List ℕ → Type 0
HasPage p bytes = page_size * p + page_size ≤ length bytes

-- p is at most the number of whole pages of the bytes
abbrev pub FitsPage : ℕ → List ℕ → Type 0
FitsPage p bytes = page_size * p ≤ length bytes

-- the bytes with this page in the place of page p
abbrev pub with_page : List ℕ → ℕ → List ℕ → List ℕ
with_page bytes p page = take (page_size * p) bytes ++ page ++ drop (page_size * p + page_size) bytes

-- the same of told bytes
abbrev pub with_known_page : Option (List ℕ) → ℕ → List ℕ → Option (List ℕ)
with_known_page told p page = option_map (λ bytes. with_page bytes p page) told

-- the place of page p holds some bytes of a page's length, and all else is as before
pub record SpoiledPage (old new : Option (List ℕ)) (p : ℕ) : Type 0 where
  pub held : List ℕ
  pub size : length held ≡ page_size
  pub spoiled : new ≡ with_known_page old p held

-- a write of page p that failed left all as before, or spoiled that page alone
abbrev pub MayHaveSpoiled : Option (List ℕ) → Option (List ℕ) → ℕ → Type 0
MayHaveSpoiled old new p = (new ≡ old) ⊎ SpoiledPage old new p
