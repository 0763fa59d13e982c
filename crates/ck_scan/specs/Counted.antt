-- How lines count pages and their rows.
use Rattle.std.specs.Prelude.{◌≡◌, ℕ, ◌+◌, ◌^◌, ◌<◌, List, length, map, Contains, Some, slice_get, slice_set, slice_index_or}
use Rattle.std.specs.List.{sum_by}
use Rattle.std.specs.List.Sorted.{IsStrictlySortedBy}
use Rattle.std.specs.Ordering.{nat_cmp}
use Rattle.spec_file.specs.declared.geometry.Geometry.{Geometry}
use Rattle.spec_file.specs.Image.{Image, page}
use Rattle.spec_file.specs.CatalogRows.{CatalogRow}
use Rattle.spec_check.specs.declared.report.TableLine.{TableLine}
use Rattle.spec_tables.specs.Seen.{IsSeen, rows_on}
use Rattle.ck_facts.specs.declared.map.AllocMap.{AllocMap}
use Rattle.ck_facts.specs.MapOf.{ids_of}
use Rattle.ck_facts.specs.Owners.{Owned, owned, IsObjectAt}

-- there is a rising list of exactly the pages that are taken; the line has its length and its rows
pub record IsCountOf (Taken : ℕ → Type 0) (rows_of : ℕ → ℕ) (line : TableLine) : Type 0 where
  pub taken : List ℕ
  pub sorted : IsStrictlySortedBy nat_cmp taken
  pub sound : (p : ℕ) → Contains taken p → Taken p
  pub complete : (p : ℕ) → Taken p → Contains taken p
  pub pages : line.pages ≡ length taken
  pub rows : line.rows ≡ sum_by rows_of taken

-- the line has one page more, with so many rows, where its counts have room for them
pub record IsOneMore (old new : TableLine) (n : ℕ) : Type 0 where
  pub object : new.object ≡ old.object
  pub pages : old.pages + 1 < 2 ^ 64 → new.pages ≡ old.pages + 1
  pub rows : old.rows + n < 2 ^ 64 → new.rows ≡ old.rows + n

-- the line adds the counts of two, where its counts have room for them
pub record IsSumOf (one two now : TableLine) : Type 0 where
  pub object : now.object ≡ one.object
  pub pages : one.pages + two.pages < 2 ^ 64 → now.pages ≡ one.pages + two.pages
  pub rows : one.rows + two.rows < 2 ^ 64 → now.rows ≡ one.rows + two.rows

-- each line adds the counts of the two at its place
pub record AreSums (one two now : List TableLine) : Type 0 where
  pub long : length now ≡ length one
  pub same : length two ≡ length one
  pub each : (i : ℕ) (d : TableLine) → i < length one → IsSumOf (slice_index_or one i d) (slice_index_or two i d) (slice_index_or now i d)

-- the line at place i counts a page with so many rows, and the others stay
pub record CountsPage (old new : List TableLine) (i rows : ℕ) : Type 0 where
  pub before : TableLine
  pub after : TableLine
  pub at : slice_get old i ≡ Some before
  pub more : IsOneMore before after rows
  pub is : new ≡ slice_set old i after

-- the object's pages that are met and seen
abbrev pub IsMetOf : Geometry → Image → (Owned → Type 0) → CatalogRow → ℕ → Type 0
IsMetOf g image Met row p = Met (owned p row.id) × IsSeen g image row p

-- each object's line, at its place, counts its pages that are met and seen
pub record AreCounts (image : Image) (m : AllocMap) (Met : Owned → Type 0) (lines : List TableLine) : Type 0 where
  pub ids : map (λ line. line.object) lines ≡ ids_of m.objects.items
  pub each : (i : ℕ) (row : CatalogRow) (line : TableLine) → IsObjectAt m i row → slice_get lines i ≡ Some line
      → IsCountOf (IsMetOf m.geometry image Met row) (λ p. rows_on (page image p)) line
