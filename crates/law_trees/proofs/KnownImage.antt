-- What is known of an image, at one clustered table, is what its pages are as nodes.
use Rattle.std.proofs.Common.{true, ◌≡◌, ◌≢◌, ◌⊎◌, ℕ, suc, ◌+◌, ◌-◌, ◌<◌, List, [], ◌∷◌, ◌++◌, length, Contains, IsTrue, refl, sym, ap, ◌∙◌, subst, inl, inr, ⊎_elim, arith}
use Rattle.std.proofs.lemmas.Bool.{cases_Bool, cases_eq, eqb-true}
use Rattle.spec_check.proofs.Members.{nothing_there, cons_cases, cons_here, cons_there, map_from, map_in}
use Rattle.spec_file.specs.declared.geometry.Geometry.{Geometry}
use Rattle.spec_file.specs.Header.{header_of}
use Rattle.spec_file.specs.Image.{Image, page}
use Rattle.spec_file.specs.CatalogRows.{CatalogRow, rows_of}
use Rattle.spec_file.specs.Roles.{is_ordinary}
use Rattle.spec_rows.specs.Slots.{slot_count, has_index_rows}
use Rattle.spec_tree.specs.declared.known.Root.{Root}
use Rattle.spec_tree.specs.declared.known.PageHead.{PageHead}
use Rattle.spec_tree.specs.declared.known.Link.{Link}
use Rattle.spec_tree.specs.declared.known.IndexRow.{IndexRow}
use Rattle.spec_tree.specs.Known.{IsPage, IsUnseenOf, IsUnseen, IsSeenElsewhere}
use Rattle.spec_tables.specs.Heads.{head_of, link_of, index_row, index_rows}
use Rattle.spec_tables.specs.Seen.{IsSeen, AreSeen}
use Rattle.spec_tables.specs.KnownPages.{root_of, IsHeadIn, IsIndexRowIn, known_of_image}
use Rattle.spec_levels.specs.Levels.{Row, Index}
use Rattle.spec_levels.specs.Pages.{Page, page_of, level_of}
use Rattle.law_levels.proofs.Facts.{IsKnownOf}
use Rattle.law_trees.specs.Read.{leaf_row, child_row, node_of, page_read, pages_read}
use Rattle.law_trees.proofs.Ranges.{made, split_made, slot_made}
use Rattle.law_trees.proofs.Heads.{picked, passed, head_read, row_read, index_read, leaf_read}
use Rattle.law_levels.specs.Known.{Parent, head_on, row_on, parent_row}
use Rattle.law_trees.proofs.Tables.{IsTableOf}

-- the number of a page is that of what is read
pub page_is : (p : ℕ) (bytes : List ℕ) → page_of (page_read p bytes) ≡ p
page_is p bytes = ⊎_elim (λ index. ap page_of (index_read p bytes index)) (λ leaf. ap page_of (leaf_read p bytes leaf)) (cases_Bool (has_index_rows bytes))

pub read_from : (image : Image) (ps : List ℕ) (p : Page) → Contains (pages_read image ps) p → (q : ℕ) × Contains ps q × (page_read q (page image q) ≡ p)
read_from image ps p i = map_from (λ q. page_read q (page image q)) ps p i

pub read_in : (image : Image) (ps : List ℕ) (q : ℕ) → Contains ps q → Contains (pages_read image ps) (page_read q (page image q))
read_in image ps q i = map_in (λ k. page_read k (page image k)) ps q i

head_in : (g : Geometry) (image : Image) (row : CatalogRow) (ps : List ℕ) → IsTableOf g image row ps → (q : ℕ) → Contains ps q
    → IsHeadIn g image (head_on row.id (page_read q (page image q)))
head_in g image row ps t q i =
    let seen = t.seen.sound q i in
    record { row = row; number = q; object = t.object; seen = seen; is = sym (head_read q row.id row.kind (page image q) seen.passes) }

head_from : (g : Geometry) (image : Image) (row : CatalogRow) (ps : List ℕ) → IsTableOf g image row ps → (s : PageHead) → IsHeadIn g image s → s.object.0 ≡ row.id
    → (p : Page) × Contains (pages_read image ps) p × (s ≡ head_on row.id p)
head_from g image row ps t s h at =
    let same = t.one h.row h.object (ap (λ (x : PageHead). x.object.0) (sym h.is) ∙ at) in
    let q = h.number in
    let seen = subst (λ r. IsSeen g image r q) same h.seen in (
      page_read q (page image q),
      read_in image ps q (t.seen.complete q seen),
      h.is ∙ (ap (λ (r : CatalogRow). head_of r.id q (page image q)) same ∙ head_read q row.id row.kind (page image q) seen.passes),
    )

-- what an index page is read from
pub record FromIndex (image : Image) (ps : List ℕ) (l : ℕ) (n : Index) : Type 0 where
  pub q : ℕ
  pub on : Contains ps q
  pub index : has_index_rows (page image q) ≡ true
  pub level : (header_of (page image q)).level ≡ l
  pub node : node_of child_row q (page image q) ≡ n

abbrev node_or : Index → Page → Index
node_or other (Page.LeafPage n) = other
node_or other (Page.IndexPage l n) = n

pub from_index : (image : Image) (ps : List ℕ) (l : ℕ) (n : Index) → Contains (pages_read image ps) (Page.IndexPage l n) → FromIndex image ps l n
from_index image ps l n i =
    let r = read_from image ps (Page.IndexPage l n) i in
    let bytes = page image r.0 in
    ⊎_elim (λ index. let e : Page.IndexPage (header_of bytes).level (node_of child_row r.0 bytes) ≡ Page.IndexPage l n = sym (index_read r.0 bytes index) ∙ r.2 in
    record { q = r.0; on = r.1; index = index; level = ap level_of e; node = ap (node_or n) e })
    (λ leaf. let e : Page.LeafPage (node_of leaf_row r.0 bytes) ≡ Page.IndexPage l n = sym (leaf_read r.0 bytes leaf) ∙ r.2 in absurd (cc))
    (cases_Bool (has_index_rows bytes))

row_same : (o l l' : ℕ) (n n' : Index) (f f' : List (Row ℕ)) (r r' : Row ℕ) (b b' : List (Row ℕ)) → l ≡ l' → n ≡ n' → f ≡ f' → r ≡ r' → b ≡ b'
    → row_on o l n f r b ≡ row_on o l' n' f' r' b'
row_same o l l' n n' f f' r r' b b' e1 e2 e3 e4 e5 =
    ap (λ x. row_on o x n f r b) e1 ∙ (ap (λ x. row_on o l' x f r b) e2 ∙ (ap (λ x. row_on o l' n' x r b) e3 ∙ (ap (λ x. row_on o l' n' f' x b) e4 ∙ ap (λ x. row_on o l' n' f' r' x) e5)))

row_in : (g : Geometry) (image : Image) (row : CatalogRow) (ps : List ℕ) → IsTableOf g image row ps → (k : ℕ) (a : Parent (pages_read image ps) k)
    → IsIndexRowIn g image (parent_row row.id (pages_read image ps) k a)
row_in g image row ps t k a =
    let f = from_index image ps a.level a.node a.on in
    let bytes = page image f.q in
    let rows : made (child_row bytes) 0 (slot_count bytes) ≡ a.front ++ a.row ∷ a.back = ap (λ (n : Index). n.rows) f.node ∙ a.rows in
    let s = slot_made (child_row bytes) 0 (slot_count bytes) a.front a.row a.back rows in
    let i = length a.front in
    let count = s.count in
    let at : 0 + i ≡ i = omega arith in
    let after : 0 + i + 1 ≡ i + 1 = omega arith in
    record {
      row = row;
      number = f.q;
      slot = i;
      object = t.object;
      seen = t.seen.sound f.q f.on;
      stands = subst (λ n. i < n) (sym (picked (has_index_rows bytes) (slot_count bytes) 0 f.index)) (omega (arith, count));
      is = row_same row.id a.level (header_of bytes).level a.node (node_of child_row f.q bytes) a.front (made (child_row bytes) 0 i) a.row (child_row bytes i)
          a.back (made (child_row bytes) (i + 1) s.after) (sym f.level) (sym f.node) s.before_is (s.is ∙ ap (child_row bytes) at)
          (s.after_is ∙ ap (λ n. made (child_row bytes) n s.after) after)
          ∙ sym (row_read row.id f.q bytes i s.after count);
    }

row_from : (g : Geometry) (image : Image) (row : CatalogRow) (ps : List ℕ) → IsTableOf g image row ps → (c : IndexRow) → IsIndexRowIn g image c → c.object.0 ≡ row.id
    → (a : Parent (pages_read image ps) c.child.0) × (c ≡ parent_row row.id (pages_read image ps) c.child.0 a)
row_from g image row ps t c h mine =
    let same = t.one h.row h.object (ap (λ (x : IndexRow). x.object.0) (sym h.is) ∙ mine) in
    let q = h.number in
    let bytes = page image q in
    let i = h.slot in
    let on = t.seen.complete q (subst (λ r. IsSeen g image r q) same h.seen) in
    let is : c ≡ index_row row.id q bytes i = h.is ∙ ap (λ (r : CatalogRow). index_row r.id q bytes i) same in
    let index = has_rows bytes i h.stands in
    let m = slot_count bytes - (i + 1) in
    let within = index.1 in
    let count : slot_count bytes ≡ i + suc m = omega (arith, within) in
    let read = row_read row.id q bytes i m count in
    let at : 0 + i ≡ i = omega arith in
    let after : 0 + i + 1 ≡ i + 1 = omega arith in (
      record {
        level = (header_of bytes).level;
        node = node_of child_row q bytes;
        front = made (child_row bytes) 0 i;
        row = child_row bytes i;
        back = made (child_row bytes) (i + 1) m;
        on = subst (Contains (pages_read image ps)) (index_read q bytes index.0) (read_in image ps q on);
        rows = ap (made (child_row bytes) 0) count ∙ (split_made (child_row bytes) 0 i m
            ∙ (ap (λ n. made (child_row bytes) 0 i ++ child_row bytes n ∷ made (child_row bytes) (0 + i + 1) m) at
            ∙ ap (λ n. made (child_row bytes) 0 i ++ child_row bytes i ∷ made (child_row bytes) n m) after));
        names = ap (λ (x : IndexRow). x.child.0) (sym is);
      },
      is ∙ read,
    )
  where
    has_rows : (bytes : List ℕ) (i : ℕ) → i < index_rows bytes → (has_index_rows bytes ≡ true) × (i < slot_count bytes)
    has_rows bytes i stands = ⊎_elim (λ index. (index, subst (λ n. i < n) (picked (has_index_rows bytes) (slot_count bytes) 0 index) stands))
        (λ leaf. let none = passed (has_index_rows bytes) (slot_count bytes) 0 leaf in absurd (omega (arith, stands, none)))
        (cases_Bool (has_index_rows bytes))

-- a page is seen of one object at most
header_object : (g : Geometry) (image : Image) (row : CatalogRow) (p : ℕ) → IsSeen g image row p → (header_of (page image p)).object.0 ≡ row.id
header_object g image row p seen = eqb-true (header_of (page image p)).object.0 row.id seen.passes.rest.object

seen_object : (g : Geometry) (image : Image) (w k : ℕ) (s : PageHead) → IsPage (known_of_image g image) w k s → (header_of (page image k)).object.0 ≡ w
seen_object g image w k s h =
    let at : h.known.number ≡ k = ap (λ (x : PageHead). x.page.0) (sym h.known.is) ∙ h.page in
    ap (λ n. (header_of (page image n)).object.0) (sym at) ∙ (header_object g image h.known.row h.known.number h.known.seen
    ∙ (ap (λ (x : PageHead). x.object.0) (sym h.known.is) ∙ h.object))

alone : (g : Geometry) (image : Image) (row : CatalogRow) (ps : List ℕ) → IsTableOf g image row ps → (p : Page) → Contains (pages_read image ps) p → (w : ℕ) (s : PageHead)
    → IsPage (known_of_image g image) w (page_of p) s → w ≡ row.id
alone g image row ps t p i w s h =
    let r = read_from image ps p i in
    let at : page_of p ≡ r.0 = ap page_of (sym r.2) ∙ page_is r.0 (page image r.0) in
    sym (seen_object g image w (page_of p) s h) ∙ (ap (λ n. (header_of (page image n)).object.0) at ∙ header_object g image row r.0 (t.seen.sound r.0 r.1))

pub nonzero_page : (g : Geometry) → IsTrue (is_ordinary g 0) → ⊥
nonzero_page g e = cc

no_zero : (g : Geometry) (image : Image) → IsUnseen (known_of_image g image) 0
no_zero g image w s h =
    let at : h.known.number ≡ 0 = ap (λ (x : PageHead). x.page.0) (sym h.known.is) ∙ h.page in
    nonzero_page g (subst (λ n. IsTrue (is_ordinary g n)) at h.known.seen.ordinary)

-- whether another object has a page
number_found : (qs : List ℕ) (k : ℕ) → Contains qs k ⊎ (Contains qs k → ⊥)
number_found [] k = inr (λ i. nothing_there k i)
number_found (q ∷ qs) k = ⊎_elim (λ e. inl (subst (Contains (q ∷ qs)) e (cons_here q qs)))
    (λ differs. ⊎_elim (λ t. inl (cons_there q qs k t)) (λ none. inr (λ i. ⊎_elim (λ e. differs e) (λ t. none t) (cons_cases q qs k i))) (number_found qs k)) (cases_eq q k)

record Other (g : Geometry) (image : Image) (o k : ℕ) (rs : List CatalogRow) : Type 0 where
  row : CatalogRow
  on : Contains rs row
  another : row.id ≢ o
  seen : IsSeen g image row k

other_found : (g : Geometry) (image : Image) (o k : ℕ) (rs : List CatalogRow) → ((r : CatalogRow) → Contains rs r → (qs : List ℕ) × AreSeen g image r qs)
    → Other g image o k rs ⊎ (Other g image o k rs → ⊥)
other_found g image o k [] all = inr (λ h. nothing_there h.row h.on)
other_found g image o k (r ∷ rs) all = ⊎_elim
    (λ h. inl (record { row = h.row; on = cons_there r rs h.row h.on; another = h.another; seen = h.seen }))
    (λ none. let qs = all r (cons_here r rs) in
    let later : (h : Other g image o k (r ∷ rs)) → (r ≡ h.row → ⊥) → ⊥ = λ h never. ⊎_elim (λ e. never e)
    (λ t. none (record { row = h.row; on = t; another = h.another; seen = h.seen })) (cons_cases r rs h.row h.on) in
    ⊎_elim (λ mine. inr (λ h. later h (λ e. h.another (ap (λ (x : CatalogRow). x.id) (sym e) ∙ mine))))
    (λ differs. ⊎_elim (λ i. inl (record { row = r; on = cons_here r rs; another = differs; seen = qs.1.sound k i }))
    (λ out. inr (λ h. later h (λ e. out (qs.1.complete k (subst (λ x. IsSeen g image x k) (sym e) h.seen))))) (number_found qs.0 k)) (cases_eq r.id o))
    (other_found g image o k rs (λ x i. all x (cons_there r rs x i)))

elsewhere : (g : Geometry) (image : Image) (row : CatalogRow) (ps : List ℕ) → IsTableOf g image row ps → (k : ℕ)
    → ((w : ℕ) × IsSeenElsewhere (known_of_image g image) row.id k w) ⊎ ((w : ℕ) → w ≢ row.id → IsUnseenOf (known_of_image g image) w k)
elsewhere g image row ps t k = ⊎_elim
    (λ h. inl (
      h.row.id,
      record {
        head = head_of h.row.id k (page image k);
        page = record { known = record { row = h.row; number = k; object = h.on; seen = h.seen; is = refl }; object = refl; page = refl };
        another = h.another;
        lowest = λ v s at differs less. let mine = seen_object g image v k s at in
            let his = header_object g image h.row k h.seen in omega (arith, mine, his, less);
      },
    ))
    (λ none. inr (λ w differs s h.
    let at : h.known.number ≡ k = ap (λ (x : PageHead). x.page.0) (sym h.known.is) ∙ h.page in
    let id : h.known.row.id ≡ w = ap (λ (x : PageHead). x.object.0) (sym h.known.is) ∙ h.object in
    none (record { row = h.known.row; on = h.known.object; another = λ e. differs (sym id ∙ e); seen = subst (IsSeen g image h.known.row) at h.known.seen })))
    (other_found g image row.id k (rows_of (page image 9)) t.others)

pub image_known : (g : Geometry) (image : Image) (row : CatalogRow) (ps : List ℕ) → IsTableOf g image row ps
    → IsKnownOf (known_of_image g image) row.id row.root (pages_read image ps)
image_known g image row ps t = record {
  table = record { root = root_of row; known = record { row = row; object = t.object; clustered = t.clustered; is = refl }; object = refl; page = refl };
  one_table = λ r h. let same = t.one h.known.row h.known.object (ap (λ (x : Root). x.object.0) (sym h.known.is) ∙ h.object) in
      sym h.page ∙ (ap (λ (x : Root). x.page.0) h.known.is ∙ ap (λ (x : CatalogRow). x.root) same);
  head = λ p i. let r = read_from image ps p i in subst (λ q. IsHeadIn g image (head_on row.id q)) r.2 (head_in g image row ps t r.0 r.1);
  is_head = head_from g image row ps t;
  link = λ p i. let r = read_from image ps p i in
      record { head = head_on row.id p; known = subst (λ q. IsHeadIn g image (head_on row.id q)) r.2 (head_in g image row ps t r.0 r.1); is = refl };
  is_link = λ l h at. let r = head_from g image row ps t h.head h.known (ap (λ (x : Link). x.object.0) (sym h.is) ∙ at) in
      (r.0, r.1, h.is ∙ ap link_of r.2);
  row = row_in g image row ps t;
  is_row = row_from g image row ps t;
  alone = alone g image row ps t;
  nonzero = no_zero g image;
  elsewhere = elsewhere g image row ps t;
}
