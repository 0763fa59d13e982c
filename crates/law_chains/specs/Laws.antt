-- What a statement reads of an object is what the check finds of it.
use Rattle.std.specs.Prelude.{◌≡◌, ◌↔◌, ◌<◌, ℕ, IsTrue, List, None, length, map, Contains}
use Rattle.std.specs.List.{range_with_len}
use Rattle.std.specs.List.Sorted.{IsStrictlySortedBy}
use Rattle.std.specs.Ordering.{nat_cmp}
use Rattle.spec_file.specs.declared.data.Resource.TheVariants as resource
use Rattle.spec_file.specs.declared.geometry.Geometry.{Geometry}
use Rattle.spec_file.specs.Image.{Image}
use Rattle.spec_file.specs.CatalogRows.{CatalogRow}
use Rattle.spec_script.specs.declared.reply.Refusal.{Refusal}
use Rattle.spec_chain.specs.declared.end.ChainEnd.TheVariants as end
use Rattle.spec_chain.specs.Chains.{pointer, end_at, HasLength}
use Rattle.spec_chain.specs.Uses.{IsAllocatedTo}
use Rattle.spec_plan.specs.Reading.{are_slots_inside}
use Rattle.spec_words.specs.Views.{View, End, Gives, Stops}
use Rattle.spec_words.specs.Tables.{chain_of, object_pages}

-- the first n pages of the object's chain, in their order
abbrev pub chain_pages : Image → CatalogRow → ℕ → List ℕ
chain_pages image row n = map (pointer image row) (range_with_len 0 n)

-- the chain has n pages
pub record IsWhole (g : Geometry) (image : Image) (row : CatalogRow) (n : ℕ) : Type 0 where
  pub pages : HasLength g image row n
  pub whole : end_at g image row n ≡ end.Whole

-- a statement may read the chain, which has n pages: the single-page slots of the first hold pages of the
-- file, and nobody else holds one of them
pub record IsReadable (view : View) (row : CatalogRow) (n : ℕ) : Type 0 where
  pub chain : IsWhole view.shape.geometry view.now row n
  pub slots : IsTrue (are_slots_inside view.now row.first_iam)
  pub free : (k : ℕ) → k < n → view.other (resource.Page (record { 0 = pointer view.now row k })) ≡ None

-- what comes of reading a chain
pub data Reads (view : View) (row : CatalogRow) (read : End (List ℕ)) : Type 0 where
  Goes : (n : ℕ) → IsReadable view row n → read ≡ Gives (chain_pages view.now row n) view → Reads view row read
  Refuses : (r : Refusal) → ((n : ℕ) → IsReadable view row n → ⊥) → read ≡ Stops r → Reads view row read

-- reading a chain gives the object's pages where it may be read, and else refuses
abbrev pub ChainIsRead : Type 0
ChainIsRead = (view : View) (row : CatalogRow) → 0 < view.shape.pages → length view.now ≡ view.shape.pages → Reads view row (chain_of view.shape row view).ending

-- the pages that a statement reads are those allocated to the object
abbrev pub PagesAreAllocated : Type 0
PagesAreAllocated = (view : View) (row : CatalogRow) (n p : ℕ) → length view.now ≡ view.shape.pages → IsWhole view.shape.geometry view.now row n
    → Contains (object_pages view.shape (chain_pages view.now row n) view) p ↔ IsAllocatedTo view.shape.geometry view.now row p

abbrev pub PagesRise : Type 0
PagesRise = (view : View) (chain : List ℕ) → IsStrictlySortedBy nat_cmp (object_pages view.shape chain view)
