-- Keys rise on a page exactly where no slot's key fails to be above that of the slot before.
use Rattle.std.proofs.Common.{◌≢◌, ◌≡◌, ℕ, zero, suc, ◌+◌, ◌<◌, ◌≤◌, Option, Some, None, List, [], ◌∷◌, length, map, Contains, IsTrue, refl, sym, ap, ◌∙◌, subst, ⊎_elim, arith}
use Rattle.std.specs.Prelude.{nat_lt}
use Rattle.std.proofs.lemmas.Bool.{cases_Bool, cases_lt, lt-ltb, ltb-true}
use Rattle.std.proofs.lemmas.List.Elements.{Contains-append_cases}
use Rattle.spec_check.proofs.Members.{nothing_there, cons_cases, map_from}
use Rattle.spec_file.specs.declared.geometry.Geometry.{Geometry}
use Rattle.spec_file.specs.Image.{Image, page}
use Rattle.spec_file.specs.CatalogRows.{CatalogRow}
use Rattle.spec_file.specs.Roles.{is_ordinary}
use Rattle.spec_rows.specs.Rows.{row_key}
use Rattle.spec_rows.specs.Slots.{slot_count, page_row, has_index_rows}
use Rattle.spec_tables.specs.Heads.{key_at}
use Rattle.spec_tables.specs.PageRules.{wrong_order}
use Rattle.spec_levels.specs.Levels.{Row, Node, Index, Leaf, Rises, keys_of, rows_of, IsUnder, IsIndexUnder, AreUnder, AreLevels}
use Rattle.spec_levels.specs.Pages.{Page, page_of, keys_on, level_pages}
use Rattle.law_trees.specs.Read.{leaf_row, child_row, page_read, pages_read}
use Rattle.law_trees.proofs.Ranges.{made}
use Rattle.law_trees.proofs.Heads.{picked, passed, index_read, leaf_read, index_level, some_row}
use Rattle.law_trees.proofs.KnownImage.{page_is, read_from, read_in, nonzero_page, from_index}
use Rattle.law_levels.specs.Known.{AreWellFormed}
use Rattle.law_trees.specs.Laws.{IsOrdered}
use Rattle.law_trees.proofs.Tables.{IsTableOf}

rises_made : {V : Type 0} (f : ℕ → Row V) (low a n : ℕ) → ((i : ℕ) → a ≤ i → i + 1 < a + n → (f i).key < (f (i + 1)).key) → (0 < n → low ≤ (f a).key)
    → Rises low None (keys_of (made f a n))
rises_made f low a zero up first = tt
rises_made f low a (suc n) up first = (
  first (omega arith),
  tt,
  rises_made f (suc (f a).key) (a + 1) n (λ i at within. up i (omega (arith, at)) (omega (arith, within)))
      (λ some. let less = up a (omega arith) (omega (arith, some)) in omega (arith, less)),
)

adjacent : {V : Type 0} (f : ℕ → Row V) (low a n i : ℕ) → Rises low None (keys_of (made f a n)) → i + 1 < n → (f (a + i)).key < (f (a + i + 1)).key
adjacent f low a zero i r within = absurd (omega (arith, within))
adjacent f low a (suc zero) i r within = absurd (omega (arith, within))
adjacent f low a (suc (suc n)) zero r within =
    let at : a ≡ a + 0 = omega arith in
    let above = r.2.0 in
    subst (λ k. (f k).key < (f (k + 1)).key) at (omega (arith, above))
adjacent f low a (suc (suc n)) (suc i) r within =
    let at : a + 1 + i ≡ a + suc i = omega arith in
    subst (λ k. (f k).key < (f (k + 1)).key) at (adjacent f (suc (f a).key) (a + 1) (suc n) i r.2 (omega (arith, within)))

-- the keys of a page that is read
abbrev key_on : List ℕ → ℕ → ℕ
key_on bytes i = row_key (page_row bytes i)

pub page_rises : (p : ℕ) (bytes : List ℕ) → ((i : ℕ) → i + 1 < slot_count bytes → key_on bytes i < key_on bytes (i + 1)) → Rises 0 None (keys_on (page_read p bytes))
page_rises p bytes up = ⊎_elim
    (λ index. subst (λ q. Rises 0 None (keys_on q)) (sym (index_read p bytes index))
    (rises_made (child_row bytes) 0 0 (slot_count bytes) (λ i at within. up i (omega (arith, within))) (λ some. omega arith)))
    (λ leaf. subst (λ q. Rises 0 None (keys_on q)) (sym (leaf_read p bytes leaf))
    (rises_made (leaf_row bytes) 0 0 (slot_count bytes) (λ i at within. up i (omega (arith, within))) (λ some. omega arith)))
    (cases_Bool (has_index_rows bytes))

pub rises_page : (p : ℕ) (bytes : List ℕ) → Rises 0 None (keys_on (page_read p bytes)) → (i : ℕ) → i + 1 < slot_count bytes → key_on bytes i < key_on bytes (i + 1)
rises_page p bytes rises i within =
    let at : 0 + i ≡ i = omega arith in
    subst (λ k. key_on bytes k < key_on bytes (k + 1)) at (⊎_elim
    (λ index. adjacent (child_row bytes) 0 0 (slot_count bytes) i (subst (λ q. Rises 0 None (keys_on q)) (index_read p bytes index) rises) within)
    (λ leaf. adjacent (leaf_row bytes) 0 0 (slot_count bytes) i (subst (λ q. Rises 0 None (keys_on q)) (leaf_read p bytes leaf) rises) within)
    (cases_Bool (has_index_rows bytes)))

key_there : (bytes : List ℕ) (i : ℕ) → i < slot_count bytes → key_at bytes i ≡ Some (key_on bytes i)
key_there bytes i within = picked (nat_lt i (slot_count bytes)) (Some (key_on bytes i)) None (lt-ltb i (slot_count bytes) within)

key_within : (bytes : List ℕ) (i key : ℕ) → key_at bytes i ≡ Some key → (i < slot_count bytes) × (key_on bytes i ≡ key)
key_within bytes i key is = ⊎_elim
    (λ within. let e : Some (key_on bytes i) ≡ Some key = sym (picked (nat_lt i (slot_count bytes)) (Some (key_on bytes i)) None within) ∙ is in
    (ltb-true i (slot_count bytes) within, some_same (key_on bytes i) key e))
    (λ past. let e : None ≡ Some key = sym (passed (nat_lt i (slot_count bytes)) (Some (key_on bytes i)) None past) ∙ is in absurd (cc))
    (cases_Bool (nat_lt i (slot_count bytes)))
  where
    some_same : (a b : ℕ) → Some a ≡ Some b → a ≡ b
    some_same a b e = cc

pub ordered_rises : (g : Geometry) (image : Image) (row : CatalogRow) (ps : List ℕ) → IsTableOf g image row ps → IsOrdered g image row → (q : ℕ) → Contains ps q
    → Rises 0 None (keys_on (page_read q (page image q)))
ordered_rises g image row ps t ordered q i =
    let bytes = page image q in
    let seen = t.seen.sound q i in
    page_rises q bytes (λ slot within. ⊎_elim (λ less. less)
    (λ falls. absurd (ordered q (wrong_order row.id q (slot + 1) (key_on bytes (slot + 1))) seen (record {
      before = slot;
      low = key_on bytes slot;
      key = key_on bytes (slot + 1);
      clustered = t.clustered;
      passes = seen.passes;
      first = key_there bytes slot (omega (arith, within));
      second = key_there bytes (slot + 1) within;
      falls = falls;
      is = refl;
    }))) (cases_lt (key_on bytes slot) (key_on bytes (slot + 1))))

pub rises_ordered : (g : Geometry) (image : Image) (row : CatalogRow) (ps : List ℕ) → IsTableOf g image row ps
    → ((p : Page) → Contains (pages_read image ps) p → Rises 0 None (keys_on p)) → IsOrdered g image row
rises_ordered g image row ps t rises p x seen h =
    let bytes = page image p in
    let first = key_within bytes h.before h.low h.first in
    let second = key_within bytes (h.before + 1) h.key h.second in
    let less = rises_page p bytes (rises (page_read p bytes) (read_in image ps p (t.seen.complete p seen))) h.before second.0 in
    let falls = h.falls in
    let one = first.1 in
    let two = second.1 in
    omega (arith, less, falls, one, two)

-- what else is known of pages that are read
pub are_pages : (g : Geometry) (image : Image) (row : CatalogRow) (ps : List ℕ) → IsTableOf g image row ps
    → ((p : Page) → Contains (pages_read image ps) p → Rises 0 None (keys_on p)) → AreWellFormed (pages_read image ps)
are_pages g image row ps t rises = record {
  once = λ p q i j same.
      let a = read_from image ps p i in
      let b = read_from image ps q j in
      let at : a.0 ≡ b.0 = sym (page_is a.0 (page image a.0)) ∙ (ap page_of a.2 ∙ (same ∙ (sym (ap page_of b.2) ∙ page_is b.0 (page image b.0)))) in
      sym a.2 ∙ (ap (λ n. page_read n (page image n)) at ∙ b.2);
  nonzero = λ p i none.
      let a = read_from image ps p i in
      let at : a.0 ≡ 0 = sym (page_is a.0 (page image a.0)) ∙ (ap page_of a.2 ∙ none) in
      nonzero_page g (subst (λ n. IsTrue (is_ordinary g n)) at (t.seen.sound a.0 a.1).ordinary);
  levels = λ l n i. let f = from_index image ps l n i in
      subst (λ k. (0 < k) × (k ≤ 15)) f.level (index_level f.q row.id row.kind (page image f.q) (t.seen.sound f.q f.on).passes f.index);
  some_row = λ l n i.
      let f = from_index image ps l n i in
      subst (λ (m : Index). m.rows ≢ []) f.node
      (some_made (child_row (page image f.q)) (slot_count (page image f.q)) (some_row f.q row.id row.kind (page image f.q) (t.seen.sound f.q f.on).passes f.index));
  rises = rises;
} where
  some_made : (f : ℕ → Row ℕ) (n : ℕ) → 0 < n → made f 0 n ≢ []
  some_made f zero some = absurd (omega (arith, some))
  some_made f (suc n) some = λ e. cc

-- the keys of each page of a tree rise
weaken : (low : ℕ) (high : Option ℕ) (keys : List ℕ) → Rises low high keys → Rises low None keys
weaken low high [] r = tt
weaken low high (key ∷ keys) r = (r.0, tt, weaken (suc key) high keys r.2)

from_zero : (low : ℕ) (keys : List ℕ) → Rises low None keys → Rises 0 None keys
from_zero low [] r = tt
from_zero low (key ∷ keys) r = (omega arith, tt, r.2)

under_rises : {V : Type 0} (Is : Row ℕ → Option ℕ → Node V → Type 0) → ((row : Row ℕ) (end : Option ℕ) (n : Node V) → Is row end n → Rises row.key end (keys_of n.rows))
    → (rows : List (Row ℕ)) (nodes : List (Node V)) → AreUnder Is rows nodes → (n : Node V) → Contains nodes n → Rises 0 None (keys_of n.rows)
under_rises Is keys [] [] under n i = absurd (nothing_there n i)
under_rises Is keys [] (m ∷ nodes) under n i = absurd under
under_rises Is keys (row ∷ rows) [] under n i = absurd under
under_rises {V = V} Is keys (row ∷ rows) (m ∷ nodes) under n i = ⊎_elim
    (λ e. subst (λ (x : Node V). Rises 0 None (keys_of x.rows)) e (from_zero row.key (keys_of m.rows) (weaken row.key _ (keys_of m.rows) (keys row _ m under.0))))
    (λ t. under_rises Is keys rows nodes under.1 n t) (cons_cases m nodes n i)

pub tree_rises : (rows : List (Row ℕ)) (above : List (List Index)) (leaves : List Leaf) → AreLevels rows above leaves → (p : Page) → Contains (level_pages above leaves) p
    → Rises 0 None (keys_on p)
tree_rises rows [] leaves levels p i =
    let n = map_from Page.LeafPage leaves p i in
    subst (λ q. Rises 0 None (keys_on q)) n.2 (under_rises IsUnder (λ r e m is. is.keys) rows leaves levels.0 n.0 n.1)
tree_rises rows (nodes ∷ more) leaves levels p i =
    let level = suc (length more) in
    ⊎_elim (λ here. let n = map_from (Page.IndexPage level) nodes p here in
    subst (λ q. Rises 0 None (keys_on q)) n.2 (under_rises IsIndexUnder (λ r e m is. is.under.keys) rows nodes levels.0 n.0 n.1))
    (λ there. tree_rises (rows_of nodes) more leaves levels.2 p there)
    (Contains-append_cases (map (Page.IndexPage level) nodes) (level_pages more leaves) p i)
