-- What a statement reads of a table before it gives its pages back; and what it does to each of a list.
use Rattle.std.proofs.Common.{◌≡◌, ℕ, ◌<◌, Bool, true, false, List, [], ◌∷◌, length, Contains, Some, None, refl, sym, ap, subst, ◌∙◌, ⊎_elim}
use Rattle.std.specs.Prelude.{bytes_eq, if◌then◌else◌}
use Rattle.std.proofs.lemmas.Slice.Eq.{bytes_eq-Decides}
use Rattle.spec_file.specs.declared.data.Resource.TheVariants as resource
use Rattle.spec_file.specs.declared.page_type.TheConstants.{PFS_TYPE}
use Rattle.spec_file.specs.CatalogRows.{CatalogRow, rows_of}
use Rattle.spec_file.specs.Header.{says}
use Rattle.spec_file.specs.Image.{page}
use Rattle.spec_file.specs.Places.{pfs_page}
use Rattle.spec_chain.specs.Chains.{IsObject}
use Rattle.spec_check.proofs.Members.{nothing_there, cons_cases, cons_here, cons_there}
use Rattle.spec_plan.specs.Reading.{is_catalog, named_among}
use Rattle.spec_plan.specs.Refusals.{no_table}
use Rattle.spec_words.specs.NetChanges.{FileShape}
use Rattle.spec_words.specs.Views.{View, End, Plan}
use Rattle.spec_words.specs.Words.{◌then◌, give, refuse, sees, unless_held, where_good, look, found_or, for_each}
use Rattle.spec_words.specs.Tables.{table_of, chain_of, bytes_read, byte_pages}
use Rattle.spec_alloc.specs.Chains.{chain_now}
use Rattle.law_chains.specs.Laws as laws
use Rattle.law_chains.specs.Laws.{chain_pages, IsWhole}
use Rattle.law_chains.proofs.ReadChains.{chain_is_read}
use Rattle.law_net.specs.GoodViews.{IfGives, Leads}
use Rattle.law_net.proofs.WordLaws.{leads_then, leads_give, leads_refuse, leads_good, leads_held, leads_look, leads_found, leads_weaker}
use Rattle.law_net.proofs.ReadingLeaves.{Reads}
use Rattle.law_alloc.proofs.Searches.{sees_reads, give_reads, reads_then}

-- ---- each of a list

-- what each does stays done by those behind it
pub each_does : (each : ℕ → Plan (Unit {0})) (xs : List ℕ) (Keeps : View → Type 0) (Done : ℕ → View → Type 0) (v : View)
    → ((x : ℕ) (w : View) → Contains xs x → Keeps w → Leads (each x) w (λ u y. Keeps y × Done x y × ((z : ℕ) → Done z w → Done z y))) → Keeps v
    → Leads (for_each each xs) v (λ u w. Keeps w × ((x : ℕ) → Contains xs x → Done x w) × ((z : ℕ) → Done z v → Done z w))
unfolding for_each
each_does each [] Keeps Done v does h = leads_give tt v _ (h, (λ x there. absurd (nothing_there x there)), (λ z d. d))
each_does each (x ∷ xs) Keeps Done v does h =
    leads_then (each x) (λ u. for_each each xs) v _ (leads_weaker (each x) v _ _ (λ u y k.
    leads_weaker (for_each each xs) y _ _ (λ s w l. (
      l.0,
      (λ z there. ⊎_elim (λ here. subst (λ r. Done r w) here (l.2 x k.1)) (λ later. l.1 z later) (cons_cases x xs z there)),
      (λ z d. l.2 z (k.2 z d)),
    ))
    (each_does each xs Keeps Done y (λ z w there. does z w (cons_there x xs z there)) k.0))
    (does x v (cons_here x xs) h))

-- each passes a test that reads nothing
pub each_tested : (test : ℕ → Bool) (at : ℕ → ℕ) (xs : List ℕ) (v : View) → Reads (for_each (λ p. where_good (test p) (at p)) xs) v (λ u. (p : ℕ) → Contains xs p → test p ≡ true)
unfolding for_each
each_tested test at [] v = leads_give tt v _ (refl, (λ p there. absurd (nothing_there p there)))
each_tested test at (x ∷ xs) v =
    leads_then (where_good (test x) (at x)) (λ u. for_each (λ p. where_good (test p) (at p)) xs) v _ (leads_good (test x) (at x) v _ (λ good.
    leads_weaker (for_each (λ p. where_good (test p) (at p)) xs) v _ _ (λ u w h. (h.0, (λ p there. ⊎_elim (λ here. subst (λ r. test r ≡ true) here good) (λ later. h.1 p later) (cons_cases x xs p there))))
    (each_tested test at xs v)))

-- ---- the chain and its PFS bytes

abbrev pub byte_looked : FileShape → ℕ → Plan (Unit {0})
byte_looked shape p =
    look (resource.Byte (record { 0 = p })) (pfs_page shape.geometry p) then (λ bytes. where_good (says PFS_TYPE (pfs_page shape.geometry p) bytes) (pfs_page shape.geometry p))

pub bytes_unheld : (shape : FileShape) (xs : List ℕ) (v : View) → Reads (for_each (byte_looked shape) xs) v (λ u. (p : ℕ) → Contains xs p → v.other (resource.Byte (record { 0 = p })) ≡ None)
unfolding for_each
bytes_unheld shape [] v = leads_give tt v _ (refl, (λ p there. absurd (nothing_there p there)))
bytes_unheld shape (x ∷ xs) v =
    leads_then (byte_looked shape x) (λ u. for_each (byte_looked shape) xs) v _
    (leads_then (look (resource.Byte (record { 0 = x })) (pfs_page shape.geometry x)) _ v _ (leads_look (resource.Byte (record { 0 = x })) (pfs_page shape.geometry x) v _ (λ free.
    leads_good (says PFS_TYPE (pfs_page shape.geometry x) (page v.now (pfs_page shape.geometry x))) (pfs_page shape.geometry x) v _ (λ good.
    leads_weaker (for_each (byte_looked shape) xs) v _ _
    (λ u w h. (h.0, (λ p there. ⊎_elim (λ here. subst (λ r. v.other (resource.Byte (record { 0 = r })) ≡ None) here free) (λ later. h.1 p later) (cons_cases x xs p there))))
    (bytes_unheld shape xs v)))))

-- the whole chain is read, and nobody else holds a PFS byte of its pages
pub record IsReadChain (v : View) (row : CatalogRow) (chain : List ℕ) : Type 0 where
  pub count : ℕ
  pub whole : IsWhole v.shape.geometry v.now row count
  pub is : chain ≡ chain_pages v.now row count
  pub unheld : (p : ℕ) → Contains (byte_pages v.shape chain v) p → v.other (resource.Byte (record { 0 = p })) ≡ None

abbrev pub IsChain : View → CatalogRow → List ℕ → Type 0
IsChain v row chain = (n : ℕ) × IsWhole v.shape.geometry v.now row n × (chain ≡ chain_pages v.now row n)

pub chain_reads : (row : CatalogRow) (v : View) → 0 < v.shape.pages → length v.now ≡ v.shape.pages → Reads (chain_of v.shape row) v (IsChain v row)
chain_reads row v some long = by_end (chain_of v.shape row v).ending (chain_is_read v row some long)
  where
    by_end : (read : End (List ℕ)) → laws.Reads v row read → IfGives (λ chain w. (w ≡ v) × IsChain v row chain) read
    by_end read (laws.Goes n readable is) = subst (IfGives (λ chain w. (w ≡ v) × IsChain v row chain)) (sym is) (refl, (n, readable.chain, refl))
    by_end read (laws.Refuses r none is) = subst (IfGives (λ chain w. (w ≡ v) × IsChain v row chain)) (sym is) tt

pub chain_now_reads : (row : CatalogRow) (v : View) → 0 < v.shape.pages → length v.now ≡ v.shape.pages → Reads (chain_now v.shape row) v (IsReadChain v row)
chain_now_reads row v some long =
    reads_then (chain_of v.shape row) _ v (IsChain v row) (IsReadChain v row) (chain_reads row v some long) (λ chain is.
    reads_then (sees (byte_pages v.shape chain)) _ v (λ ps. ps ≡ byte_pages v.shape chain v) (IsReadChain v row) (sees_reads (byte_pages v.shape chain) v (λ ps. ps ≡ byte_pages v.shape chain v) refl) (λ ps same.
    reads_then (bytes_read v.shape ps) (λ _. give chain) v (λ u. (p : ℕ) → Contains ps p → v.other (resource.Byte (record { 0 = p })) ≡ None) (IsReadChain v row) (bytes_unheld v.shape ps v) (λ u unheld.
    give_reads chain v (IsReadChain v row) (record { count = is.0; whole = is.1; is = is.2; unheld = (λ p there. unheld p (subst (λ l. Contains l p) (sym same) there)) }))))

-- ---- the table

one_some : (a b : CatalogRow) → Some a ≡ Some b → a ≡ b
one_some a b e = cc

by_first : (first : CatalogRow) (rows : List CatalogRow) (name : List ℕ) (row : CatalogRow) (b : Bool) → bytes_eq first.name name ≡ b → named_among (first ∷ rows) name ≡ Some row
    → (named_among rows name ≡ Some row → Contains rows row × (row.name ≡ name)) → Contains (first ∷ rows) row × (row.name ≡ name)
by_first first rows name row true e is rest =
    let same : first ≡ row = one_some first row (rw e at is) in
    (subst (Contains (first ∷ rows)) same (cons_here first rows), ap (λ (r : CatalogRow). r.name) (sym same) ∙ (bytes_eq-Decides first.name name).0 e)
by_first first rows name row false e is rest = let found = rest (rw e at is) in (cons_there first rows row found.0, found.1)

named_from : (rows : List CatalogRow) (name : List ℕ) (row : CatalogRow) → named_among rows name ≡ Some row → Contains rows row × (row.name ≡ name)
named_from [] name row is = absurd (cc)
named_from (first ∷ rows) name row is = by_first first rows name row (bytes_eq first.name name) refl is (named_from rows name row)

pub table_found : (name : List ℕ) (v : View) → Reads (table_of name) v (λ row. IsObject v.now row × (row.name ≡ name))
table_found name v =
    let K : CatalogRow → Type 0 = λ row. IsObject v.now row × (row.name ≡ name) in
    let boot = page v.now 9 in
    leads_then (look resource.Catalog 9) _ v _ (leads_look resource.Catalog 9 v _ (λ free.
    leads_then (where_good (is_catalog boot) 9) _ v _ (leads_good (is_catalog boot) 9 v _ (λ good.
    leads_then (found_or (named_among (rows_of boot) name) (refuse (no_table name))) _ v _ (leads_found (named_among (rows_of boot) name) (refuse (no_table name)) v _
    (λ row e. leads_then (unless_held (resource.Table (record { 0 = row.id }))) _ v _ (leads_held (resource.Table (record { 0 = row.id })) v _ (λ unheld. give_reads row v K (named_from (rows_of boot) name row e))))
    (λ e. leads_refuse (no_table name) v _))))))
