-- Extents that an object marks besides.
use Rattle.std.specs.Prelude.{◌≡◌, ◌≢◌, ◌⊎◌, ◌↔◌, ℕ, ◌+◌, ◌<◌, IsTrue, List, length, slice_get, Some}
use Rattle.spec_file.specs.Iam.{iam_mark}
use Rattle.ck_facts.specs.declared.map.ExtentMap.{ExtentMap}
use Rattle.ck_facts.specs.Maps.{has_mark}

-- y is x, marked by the i-th object besides where B holds
pub record IsMarkedAs (i : ℕ) (B : Type 0) (x y : ExtentMap) : Type 0 where
  pub free : y.free ≡ x.free
  pub mixed : y.mixed ≡ x.mixed
  pub others : (k : ℕ) → k ≢ i → has_mark y k ≡ has_mark x k
  pub mark : IsTrue (has_mark y i) ↔ (IsTrue (has_mark x i) ⊎ B)

-- each extent e is as before, marked by the i-th object besides where B e holds
pub record AreMarkedAs (i : ℕ) (B : ℕ → Type 0) (old new : List ExtentMap) : Type 0 where
  pub count : length new ≡ length old
  pub each : (e : ℕ) (x y : ExtentMap) → slice_get old e ≡ Some x → slice_get new e ≡ Some y → IsMarkedAs i (B e) x y

-- one of the first n marks of an IAM page is that of extent e, where the page's interval begins at `start`
abbrev pub MarksFront : List ℕ → ℕ → ℕ → ℕ → Type 0
MarksFront bytes start n e = (k : ℕ) × (k < n) × (e ≡ start + k) × IsTrue (iam_mark bytes k)
