-- The lines of a report: a line for each object, and where the catalog passes its test no two objects share
-- one.
use Rattle.std.proofs.Common.{◌≡◌, ℕ, ◌<◌, ◌≤◌, List, [], Contains, length, map, filter, true, false, refl, sym, subst, ap, ◌∙◌, inr, ⊎_elim}
use Rattle.std.specs.List.{sum_by, range_with_len}
use Rattle.std.specs.Prelude.{◌+◌, ◌*◌, slice_range}
use Rattle.std.specs.Ordering.{nat_cmp, on}
use Rattle.std.proofs.lemmas.List.{get_or_past}
use Rattle.std.proofs.Math.Seq.{take-nil, drop-nil}
use Rattle.std.proofs.lemmas.Bool.{true≢false, cases_order, cases_lt, not-true}
use Rattle.std.proofs.lemmas.Cmp.{nat_cmp_total, on_total}
use Rattle.spec_file.specs.declared.geometry.Geometry.{Geometry}
use Rattle.spec_file.specs.Image.{Image, page}
use Rattle.spec_file.specs.Catalog.{PassesCatalog, IsUsed, entry_count, entry_at, entry_id, is_zeros}
use Rattle.spec_file.specs.CatalogRows.{CatalogRow, row_of_entry, is_used, rows_before, rows_of}
use Rattle.spec_chain.specs.Chains.{IsObject}
use Rattle.spec_check.proofs.Members.{map_from, filter_from, range_from}
use Rattle.spec_check.specs.declared.report.TableLine.{TableLine}
use Rattle.spec_check.specs.System.{IsSystemSound}
use Rattle.spec_tables.specs.Seen.{IsSeen, rows_on}
use Rattle.spec_tables.specs.Lines.{IsLineOf, AreTables}
use Rattle.law_check.proofs.ReportLaw.{one_line}
use Rattle.law_report.proofs.Listings.{Listing, only, among}
use Rattle.law_report.proofs.Sorting.{Ordered, ordered, numbers_apart}
use Rattle.law_report.proofs.Chains.{objects}
use Rattle.law_report.proofs.System.{dec_catalog}
use Rattle.law_report.proofs.KnownPages.{seen}

-- the entry of a catalog's object
record EntryOf (boot : List ℕ) (row : CatalogRow) : Type 0 where
  place : ℕ
  within : place < entry_count
  used : IsUsed boot place
  is : row_of_entry (entry_at boot place) ≡ row

entry_within : (boot : List ℕ) (n : ℕ) (row : CatalogRow) → Contains (rows_before boot n) row
    → (i : ℕ) × (i < n) × IsUsed boot i × (row_of_entry (entry_at boot i) ≡ row)
entry_within boot n row h =
    let entry = map_from row_of_entry (filter is_used (map (entry_at boot) (range_with_len 0 n))) row h in
    let kept = filter_from is_used (map (entry_at boot) (range_with_len 0 n)) entry.0 entry.1 in
    let place = map_from (entry_at boot) (range_with_len 0 n) entry.0 kept.0 in (
      place.0,
      range_from n place.0 place.1,
      subst (λ e. is_zeros e ≡ false) (sym place.2) (not-true (is_zeros entry.0) kept.1),
      ap row_of_entry place.2 ∙ entry.2,
    )

entry_of : (boot : List ℕ) (row : CatalogRow) → Contains (rows_of boot) row → EntryOf boot row
unfolding rows_of
entry_of boot row h = let entry = entry_within boot entry_count row h in record { place = entry.0; within = entry.1; used = entry.2; is = entry.3 }

-- objects of one id are the same
one_object : (boot : List ℕ) (a b : CatalogRow) → PassesCatalog boot → Contains (rows_of boot) a → Contains (rows_of boot) b → a.id ≡ b.id → a ≡ b
one_object boot a b passes h k same =
    let first = entry_of boot a h in
    let second = entry_of boot b k in
    let ids : entry_id (entry_at boot first.place) ≡ entry_id (entry_at boot second.place) =
    ap (λ (r : CatalogRow). r.id) first.is ∙ same ∙ sym (ap (λ (r : CatalogRow). r.id) second.is) in
    ⊎_elim (λ e. sym first.is ∙ ap (λ i. row_of_entry (entry_at boot i)) e ∙ second.is)
    (λ apart. ⊎_elim
    (λ less. absurd (passes.ids second.place first.place less second.within second.used first.used (sym ids)))
    (λ more. absurd (passes.ids first.place second.place more first.within first.used second.used ids)) apart)
    (cases_order first.place second.place)

-- the catalog of an image with sound system pages passes its test; an image too short for a catalog has none
no_zeros : (a b : ℕ) → is_zeros (slice_range [] a b) ≡ true
no_zeros a b = rw (drop-nil, take-nil) refl

no_entry : (i : ℕ) → IsUsed [] i → ⊥
unfolding entry_at
no_entry i used = absurd (true≢false (sym (no_zeros (96 + 40 * i) (136 + 40 * i)) ∙ used))

no_page : (image : Image) (p : ℕ) → length image ≤ p → page image p ≡ []
no_page image p short = get_or_past image p [] short

or_absurd : {A : Type 0} → Dec A → ((A → ⊥) → ⊥) → A
or_absurd (yes a) never = a
or_absurd (no h) never = absurd (never h)

catalog_passes : (g : Geometry) (image : Image) → IsSystemSound g image → PassesCatalog (page image 9)
catalog_passes g image sound = ⊎_elim
    (λ there. or_absurd (dec_catalog (page image 9)) (λ fails. sound 9 there (inr (refl, fails))))
    (λ short. subst PassesCatalog (sym (no_page image 9 short)) (record {
      rows = λ i low used. absurd (no_entry i used);
      ids = λ i j less low used used'. absurd (no_entry i used);
      names = λ i j less low used used'. absurd (no_entry i used);
    }))
    (cases_lt 9 (length image))

seen_list : (g : Geometry) (image : Image) (row : CatalogRow) → Ordered nat_cmp (IsSeen g image row)
seen_list g image row = ordered nat_cmp nat_cmp_total (seen g image row) (λ x y h k. numbers_apart x y)

-- the line of an object
record HasLine (g : Geometry) (image : Image) (row : CatalogRow) : Type 0 where
  line : TableLine
  is : IsLineOf g image row line

its_line : (g : Geometry) (image : Image) (row : CatalogRow) → HasLine g image row
its_line g image row = let all = seen_list g image row in record {
  line = record { object = row.id; rows = sum_by (λ p. rows_on (page image p)) all.members; pages = length all.members };
  is = record {
    object = refl;
    seen = all.members;
    are_seen = record { sorted = all.sorted; sound = all.sound; complete = all.complete };
    pages = refl;
    rows = refl;
  };
}

abbrev IsLine : Geometry → Image → TableLine → Type 0
IsLine g image line = (row : CatalogRow) × IsObject image row × IsLineOf g image row line

lines : (g : Geometry) (image : Image) → Listing (IsLine g image)
lines g image = among (objects image) (λ row object.
    let its = its_line g image row in only its.line its.is (λ line is. one_line g image row line its.line is its.is))

lines_apart : (g : Geometry) (image : Image) → PassesCatalog (page image 9) → (a b : TableLine) → IsLine g image a → IsLine g image b
    → a.object ≡ b.object → a ≡ b
lines_apart g image passes a b first second same =
    let object : first.0 ≡ second.0 = one_object (page image 9) first.0 second.0 passes first.1 second.1 (sym first.2.object ∙ same ∙ second.2.object) in
    one_line g image second.0 a b (subst (λ row. IsLineOf g image row a) object first.2) second.2

pub record HasTables (g : Geometry) (image : Image) : Type 0 where
  pub lines : List TableLine
  pub are : AreTables g image lines

pub its_tables : (g : Geometry) (image : Image) → IsSystemSound g image → HasTables g image
its_tables g image sound =
    let passes = catalog_passes g image sound in
    let all = ordered (on (λ (line : TableLine). line.object) nat_cmp) (on_total (λ line. line.object) nat_cmp_total) (lines g image)
    (λ a b h k tied. lines_apart g image passes a b h k (numbers_apart a.object b.object tied)) in
    record {
      lines = all.members;
      are = record {
        sorted = all.sorted;
        sound = all.sound;
        complete = λ row object. let its = its_line g image row in (its.line, all.complete its.line (row, object, its.is), its.is);
      };
    }
