-- Where what is known of pages can be listed, so can what the rules of trees ask of it.
use Rattle.std.proofs.Common.{◌≡◌, ◌≢◌, ℕ, ◌<◌, Contains, refl, sym, subst, ap, ◌∙◌, inl, inr}
use Rattle.std.specs.Cmp.{IsTotalOrder}
use Rattle.std.specs.Ordering.{nat_cmp, on}
use Rattle.std.proofs.lemmas.Cmp.{nat_cmp_total, then_total, on_total}
use Rattle.spec_tree.specs.declared.known.Root.{Root}
use Rattle.spec_tree.specs.declared.known.PageHead.{PageHead}
use Rattle.spec_tree.specs.declared.known.Link.{Link}
use Rattle.spec_tree.specs.declared.known.IndexRow.{IndexRow}
use Rattle.spec_tree.specs.declared.known.RowPlace.{RowPlace}
use Rattle.spec_tree.specs.Known.{Known, IsTable, IsPage, IsLink, IsRow, IsUnseenOf, IsUnseen, HasNoLink, HasNoRow, IsSeenElsewhere, IsIndexPage}
use Rattle.spec_tree.specs.Parents.{place_cmp, place_of, ArePlaces, HasNoParent, HasParent, High, Before}
use Rattle.law_report.proofs.Decisions.{dec_like, dec_not, dec_and, dec_and3, dec_or, dec_if, dec_none, dec_eq, dec_ne, dec_lt}
use Rattle.law_report.proofs.Listings.{Listing, like, only, one, either, when, among, such, numbers, there_may_be, dec_some, dec_none_is, dec_every}
use Rattle.law_report.proofs.Sorting.{ordered, one_ordered, Apart, numbers_apart, both_ranks}

-- lists of all that is known
pub record KnownLists (K : Known) : Type 0 where
  pub roots : Listing K.roots
  pub pages : Listing K.pages
  pub links : Listing K.links
  pub rows : Listing K.rows

-- Things of which each stands in a relation to two numbers of its own.

abbrev Triple : Type 0 → Type 0
Triple X = ℕ × ℕ × X

triple_same : {X : Type 0} (a b c d : ℕ) (x : X) → a ≡ c → b ≡ d → (t : Triple X) → t ≡ (c, d, x) → t ≡ (a, b, x)
triple_same {X} a b c d x first second t is = is ∙ ap (λ n. let u : Triple X = (n, d, x) in u) (sym first) ∙ ap (λ n. let u : Triple X = (a, n, x) in u) (sym second)

record Names {X : Type 0} (P : X → Type 0) (f h : X → ℕ) (o p : ℕ) (x : X) : Type 0 where
  known : P x
  first : f x ≡ o
  second : h x ≡ p

triples : {X : Type 0} {P : X → Type 0} (f h : X → ℕ) (R : ℕ → ℕ → X → Type 0) → Listing P → ((x : X) → P x → R (f x) (h x) x)
    → ((o p : ℕ) (x : X) → R o p x → Names P f h o p x) → Listing (λ (t : Triple X). R t.0 t.1 t.2)
triples {X} {P} f h R a into from = like (among a (λ x k. one (f x, h x, x))) to back where
  to : (t : Triple X) → ((x : X) × P x × (t ≡ (f x, h x, x))) → R t.0 t.1 t.2
  to t k = subst (λ (s : Triple X). R s.0 s.1 s.2) (sym k.2) (into k.0 k.1)

  back : (t : Triple X) → R t.0 t.1 t.2 → (x : X) × P x × (t ≡ (f x, h x, x))
  back t k = let names = from t.0 t.1 t.2 k in (t.2, names.known, triple_same (f t.2) (h t.2) t.0 t.1 t.2 names.first names.second t refl)

-- of these, those of two numbers
at_numbers : {X : Type 0} (R : ℕ → ℕ → X → Type 0) → Listing (λ (t : Triple X). R t.0 t.1 t.2) → (o p : ℕ) → Listing (R o p)
at_numbers {X} R a o p = like (among a (λ t k. when (dec_and (dec_eq t.0 o) (dec_eq t.1 p)) (one t.2)))
    to (λ x k. let t : Triple X = (o, p, x) in (t, k, ((refl, refl), refl))) where
      to : (x : X) → ((t : Triple X) × R t.0 t.1 t.2 × (((t.0 ≡ o) × (t.1 ≡ p)) × (x ≡ t.2))) → R o p x
      to x k = subst (R o p) (sym k.2.1) (subst (λ n. R o n k.0.2) k.2.0.1 (subst (λ n. R n k.0.1 k.0.2) k.2.0.0 k.1))

pub tables : (K : Known) → KnownLists K → Listing (λ (t : ℕ × ℕ). IsTable K t.0 t.1)
tables K lists = like (among lists.roots (λ root known. one (root.object.0, root.page.0))) to from where
  to : (t : ℕ × ℕ) → ((root : Root) × K.roots root × (t ≡ (root.object.0, root.page.0))) → IsTable K t.0 t.1
  to t h = subst (λ (s : ℕ × ℕ). IsTable K s.0 s.1) (sym h.2) (record { root = h.0; known = h.1; object = refl; page = refl })

  from : (t : ℕ × ℕ) → IsTable K t.0 t.1 → (root : Root) × K.roots root × (t ≡ (root.object.0, root.page.0))
  from t h = (h.root, h.known, ap (λ n. let u : ℕ × ℕ = (n, t.1) in u) (sym h.object) ∙ ap (λ n. let u : ℕ × ℕ = (h.root.object.0, n) in u) (sym h.page))

pub tables_of : (K : Known) → KnownLists K → (o : ℕ) → Listing (IsTable K o)
tables_of K lists o = like (among (tables K lists) (λ t is. when (dec_eq t.0 o) (one t.1)))
    (λ r h. subst (IsTable K o) (sym h.2.1) (subst (λ n. IsTable K n h.0.1) h.2.0 h.1)) (λ r h. ((o, r), h, (refl, refl)))

pub pages : (K : Known) → KnownLists K → Listing (λ (t : ℕ × ℕ × PageHead). IsPage K t.0 t.1 t.2)
pages K lists = triples (λ s. s.object.0) (λ s. s.page.0) (IsPage K) lists.pages
    (λ s known. record { known = known; object = refl; page = refl }) (λ o p s is. record { known = is.known; first = is.object; second = is.page })

links : (K : Known) → KnownLists K → Listing (λ (t : ℕ × ℕ × Link). IsLink K t.0 t.1 t.2)
links K lists = triples (λ l. l.object.0) (λ l. l.next.0) (IsLink K) lists.links
    (λ l known. record { known = known; object = refl; next = refl }) (λ o p l is. record { known = is.known; first = is.object; second = is.next })

rows : (K : Known) → KnownLists K → Listing (λ (t : ℕ × ℕ × IndexRow). IsRow K t.0 t.1 t.2)
rows K lists = triples (λ c. c.object.0) (λ c. c.child.0) (IsRow K) lists.rows
    (λ c known. record { known = known; object = refl; child = refl }) (λ o p c is. record { known = is.known; first = is.object; second = is.child })

pub pages_at : (K : Known) → KnownLists K → (o p : ℕ) → Listing (IsPage K o p)
pages_at K lists = at_numbers (IsPage K) (pages K lists)

pub links_at : (K : Known) → KnownLists K → (o p : ℕ) → Listing (IsLink K o p)
links_at K lists = at_numbers (IsLink K) (links K lists)

pub rows_at : (K : Known) → KnownLists K → (o p : ℕ) → Listing (IsRow K o p)
rows_at K lists = at_numbers (IsRow K) (rows K lists)

-- What isn't there.

pub dec_unseen_of : (K : Known) → KnownLists K → (o p : ℕ) → Dec (IsUnseenOf K o p)
dec_unseen_of K lists o p = dec_none_is (pages_at K lists o p)

pub dec_unseen : (K : Known) → KnownLists K → (p : ℕ) → Dec (IsUnseen K p)
dec_unseen K lists p = dec_like
    (λ none o s is. let t : ℕ × ℕ × PageHead = (o, p, s) in none t is refl)
    (λ none t is same. none t.0 t.2 (subst (λ n. IsPage K t.0 n t.2) same is))
    (dec_every (pages K lists) (λ t is. dec_not (dec_eq t.1 p)))

pub dec_no_link : (K : Known) → KnownLists K → (o p : ℕ) → Dec (HasNoLink K o p)
dec_no_link K lists o p = dec_none_is (links_at K lists o p)

pub dec_no_row : (K : Known) → KnownLists K → (o p : ℕ) → Dec (HasNoRow K o p)
dec_no_row K lists o p = dec_none_is (rows_at K lists o p)

pub dec_no_parent : (K : Known) → KnownLists K → (o r p : ℕ) → Dec (HasNoParent K o r p)
dec_no_parent K lists o r p = dec_like (λ h. record { not_root = h.0; no_row = h.1 }) (λ h. (h.not_root, h.no_row))
    (dec_and (dec_ne p r) (dec_no_row K lists o p))

pub dec_has_parent : (K : Known) → KnownLists K → (o r p : ℕ) → Dec (HasParent K o r p)
dec_has_parent K lists o r p = dec_or (dec_eq p r) (dec_some (rows_at K lists o p))

-- the lowest other object of which a page is seen
pub elsewhere : (K : Known) → KnownLists K → (o p : ℕ) → Listing (IsSeenElsewhere K o p)
elsewhere K lists o p = like
    (among (pages K lists) (λ t is. when (dec_and3 (dec_eq t.1 p) (dec_ne t.0 o) (dec_lowest t.0)) (one t.0)))
    (λ w h. subst (IsSeenElsewhere K o p) (sym h.2.1)
    (record { head = h.0.2; page = subst (λ n. IsPage K h.0.0 n h.0.2) h.2.0.0 h.1; another = h.2.0.1; lowest = h.2.0.2 }))
    (λ w h. let t : ℕ × ℕ × PageHead = (w, p, h.head) in (t, h.page, ((refl, h.another, h.lowest), refl))) where
      dec_lowest : (w : ℕ) → Dec ((v : ℕ) (s : PageHead) → IsPage K v p s → v ≢ o → v < w → ⊥)
      dec_lowest w = dec_like (λ h v s is other low. h v low other s is) (λ h v low other s is. h v s is other low)
          (dec_every (numbers w) (λ v low. dec_if (dec_ne v o) (λ other. dec_unseen_of K lists v p)))

-- Parents.

place_total : IsTotalOrder place_cmp
place_total = then_total (on_total (λ x. x.page.0) nat_cmp_total) (on_total (λ x. x.slot) nat_cmp_total)

abbrev place_from : ℕ → ℕ → RowPlace
place_from p slot = record { page = record { 0 = p }; slot = slot }

places_apart : Apart place_cmp
places_apart x y h =
    let ranks = both_ranks (on (λ (w : RowPlace). w.page.0) nat_cmp) (on (λ (w : RowPlace). w.slot) nat_cmp) x y h in
    ap (λ p. place_from p x.slot) (numbers_apart x.page.0 y.page.0 ranks.0) ∙ ap (place_from y.page.0) (numbers_apart x.slot y.slot ranks.1)

abbrev IsPlaceOf : Known → ℕ → ℕ → RowPlace → Type 0
IsPlaceOf K o p q = (c : IndexRow) × IsRow K o p c × (place_of c ≡ q)

places : (K : Known) → KnownLists K → (o p : ℕ) → Listing (IsPlaceOf K o p)
places K lists o p = like (among (rows_at K lists o p) (λ c is. one (place_of c))) (λ q h. (h.0, h.1, sym h.2)) (λ q h. (h.0, h.1, sym h.2))

-- the list of the places of the rows that name a page
pub place_lists : (K : Known) → KnownLists K → (o p : ℕ) → Listing (ArePlaces K o p)
place_lists K lists o p =
    let all = ordered place_cmp place_total (places K lists o p) (λ x y h k. places_apart x y) in
    only all.members (record { sorted = all.sorted; sound = all.sound; complete = λ c row. all.complete (place_of c) (c, row, refl) })
    (λ list are. one_ordered place_cmp (IsPlaceOf K o p) place_total all list are.sorted are.sound
    (λ q h. subst (Contains list) h.2 (are.complete h.0 h.1)))

index_pages : (K : Known) → KnownLists K → (o p : ℕ) → Listing (IsIndexPage K o p)
index_pages K lists o p = like (such (pages_at K lists o p) (λ m is. dec_lt 0 m.level))
    (λ m h. record { page = h.0; index = h.1 }) (λ m h. (h.page, h.index))

pub highs : (K : Known) → KnownLists K → (c : IndexRow) → Listing (High K c)
highs K lists c = like
    (either (there_may_be c.next_key) (when (dec_none c.next_key) (among (index_pages K lists c.object.0 c.parent_next.0) (λ m is. there_may_be m.first))))
    (λ w h. elim h [ inl within ↦ High.Within within | inr beyond ↦ High.Beyond beyond.1.0 beyond.0 beyond.1.1 beyond.1.2 ])
    (λ w h. elim h [ High.Within within ↦ inl within | High.Beyond m none is first ↦ inr (none, (m, is, first)) ])

pub befores : (K : Known) → KnownLists K → (c : IndexRow) → Listing (Before K c)
befores K lists c = like
    (either (when (dec_lt 0 c.slot) (one c.before.0))
    (either (when (dec_and (dec_eq c.slot 0) (dec_eq c.parent_prev.0 0)) (one 0))
    (when (dec_and (dec_eq c.slot 0) (dec_ne c.parent_prev.0 0)) (among (index_pages K lists c.object.0 c.parent_prev.0) (λ m is. one m.last_child.0)))))
    (λ w h. elim h [
      | inl within ↦ Before.Within within.0 (sym within.1)
      | inr (inl left) ↦ Before.Leftmost left.0.0 left.0.1 left.1
      | inr (inr beyond) ↦ Before.Beyond beyond.1.0 beyond.0.0 beyond.0.1 beyond.1.1 (sym beyond.1.2)
    ])
    (λ w h. elim h [
      | Before.Within some is ↦ inl (some, sym is)
      | Before.Leftmost slot prev is ↦ inr (inl ((slot, prev), is))
      | Before.Beyond m slot prev page is ↦ inr (inr ((slot, prev), (m, page, sym is)))
    ])
