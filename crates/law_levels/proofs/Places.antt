-- The places of the rows that name a page, in their order.
use Rattle.std.proofs.Common.{◌≡◌, ◌⊎◌, ℕ, suc, ◌+◌, List, [], ◌∷◌, ◌++◌, length, Contains, refl, sym, ap, ◌∙◌, subst, inl, inr, ⊎_elim, arith}
use Rattle.std.specs.List.{AllByRecursion}
use Rattle.std.specs.List.Sorted.{IsStrictlySortedBy}
use Rattle.std.proofs.lemmas.List.Elements.{Contains-append_left, Contains-append_right, Contains-append_cases, All-from_recursion, All-contains}
use Rattle.std.specs.Cmp.{IsTotalOrder}
use Rattle.std.specs.Ordering.{nat_cmp, on, then_cmp, ordering_reverse, MatchOrdering}
use Rattle.std.specs.declared.cmp.Ordering.{Ordering}
use Rattle.std.specs.declared.cmp.Ordering.TheVariants.{Less, Equal, Greater}
use Rattle.std.proofs.lemmas.Cmp.{nat_cmp_total, then_total, on_total, ranked}
use Rattle.std.proofs.lemmas.Bool.{cases_eq}
use Rattle.std.proofs.lemmas.List.{append_assoc, length-append}
use Rattle.spec_check.proofs.Members.{nothing_there, cons_cases, cons_here, cons_there}
use Rattle.spec_levels.specs.Levels.{Row, Index}
use Rattle.spec_tree.specs.declared.known.IndexRow.{IndexRow}
use Rattle.spec_tree.specs.Known.{Known, IsRow}
use Rattle.spec_tree.specs.Parents.{ArePlaces, place_of}
use Rattle.spec_levels.specs.Pages.{Page}
use Rattle.law_levels.specs.Known.{Parent, parent_row}
use Rattle.law_levels.proofs.Fit.{parent_at}
use Rattle.law_levels.proofs.Facts.{IsKnownOf}
use Rattle.spec_tree.specs.declared.known.RowPlace.{RowPlace}
use Rattle.spec_tree.specs.Parents.{place_cmp}

-- a list in strict order with the members of another
all_from : {X : Type 0} (P : X → Type 0) (xs : List X) → ((x : X) → Contains xs x → P x) → AllByRecursion P xs
all_from P [] h = tt
all_from P (x ∷ xs) h = (h x (cons_here x xs), all_from P xs (λ y i. h y (cons_there x xs y i)))

sorted_cons : {K : Type 0} (R : K → K → Ordering) (x : K) (xs : List K) → ((y : K) → Contains xs y → R x y ≡ Less) → IsStrictlySortedBy R xs → IsStrictlySortedBy R (x ∷ xs)
unfolding IsStrictlySortedBy
sorted_cons R x xs below s = (all_from (λ y. R x y ≡ Less) xs below, s)

pub sorted_parts : {K : Type 0} (R : K → K → Ordering) (x : K) (xs : List K) → IsStrictlySortedBy R (x ∷ xs) → ((y : K) → Contains xs y → R x y ≡ Less) × IsStrictlySortedBy R xs
unfolding IsStrictlySortedBy
sorted_parts R x xs s = (λ y i. All-contains (λ z. R x z ≡ Less) xs y (All-from_recursion (λ z. R x z ≡ Less) xs s.0) i, s.1)

sorted_nil : {K : Type 0} (R : K → K → Ordering) → IsStrictlySortedBy R []
unfolding IsStrictlySortedBy
sorted_nil R = tt

record Ordered {K : Type 0} (R : K → K → Ordering) (P : K → Type 0) : Type 0 where
  list : List K
  sorted : IsStrictlySortedBy R list
  sound : (y : K) → Contains list y → P y
  complete : (y : K) → P y → Contains list y

ordering_cases : (r : Ordering) → (r ≡ Less) ⊎ ((r ≡ Equal) ⊎ (r ≡ Greater))
ordering_cases Less = inl refl
ordering_cases Equal = inr (inl refl)
ordering_cases Greater = inr (inr refl)

insert : {K : Type 0} (R : K → K → Ordering) → IsTotalOrder R → ((x y : K) → R x y ≡ Equal → x ≡ y) → (x : K) (ys : List K) → IsStrictlySortedBy R ys
    → Ordered R (λ w. (x ≡ w) ⊎ Contains ys w)
insert R o tied x [] s = record {
  list = x ∷ [];
  sorted = sorted_cons R x [] (λ y i. absurd (nothing_there y i)) s;
  sound = λ y i. cons_cases x [] y i;
  complete = λ y h. ⊎_elim (λ e. subst (Contains (x ∷ [])) e (cons_here x [])) (λ none. absurd (nothing_there y none)) h;
}
insert {K = K} R o tied x (y ∷ ys) s =
    let parts = sorted_parts R y ys s in
    ⊎_elim (λ less. record {
      list = x ∷ (y ∷ ys);
      sorted = sorted_cons R x (y ∷ ys) (λ z i. ⊎_elim (λ e. subst (λ (w : K). R x w ≡ Less) e less) (λ t. o.trans x y z less (parts.0 z t)) (cons_cases y ys z i)) s;
      sound = λ z i. cons_cases x (y ∷ ys) z i;
      complete = λ z h. ⊎_elim (λ e. subst (Contains (x ∷ (y ∷ ys))) e (cons_here x (y ∷ ys))) (λ t. cons_there x (y ∷ ys) z t) h;
    })
    (λ more. ⊎_elim (λ equal. let same = tied x y equal in record {
      list = y ∷ ys;
      sorted = s;
      sound = λ z i. inr i;
      complete = λ z h. ⊎_elim (λ e. subst (Contains (y ∷ ys)) (sym same ∙ e) (cons_here y ys)) (λ t. t) h;
    })
    (λ greater. let r = insert R o tied x ys parts.1 in
    let back : R y x ≡ Less = o.antisymm y x ∙ ap ordering_reverse greater in
    record {
      list = y ∷ r.list;
      sorted = sorted_cons R y r.list (λ z i. ⊎_elim (λ e. subst (λ (w : K). R y w ≡ Less) e back) (λ t. parts.0 z t) (r.sound z i)) r.sorted;
      sound = λ z i. ⊎_elim (λ e. inr (subst (Contains (y ∷ ys)) e (cons_here y ys)))
          (λ t. ⊎_elim (λ e. inl e) (λ u. inr (cons_there y ys z u)) (r.sound z t)) (cons_cases y r.list z i);
      complete = λ z h. ⊎_elim (λ e. cons_there y r.list z (r.complete z (inl e)))
          (λ t. ⊎_elim (λ e. subst (Contains (y ∷ r.list)) e (cons_here y r.list)) (λ u. cons_there y r.list z (r.complete z (inr u))) (cons_cases y ys z t)) h;
    }) more) (ordering_cases (R x y))

sort : {K : Type 0} (R : K → K → Ordering) → IsTotalOrder R → ((x y : K) → R x y ≡ Equal → x ≡ y) → (xs : List K) → Ordered R (Contains xs)
sort R o tied [] = record { list = []; sorted = sorted_nil R; sound = λ y i. i; complete = λ y i. i }
sort R o tied (x ∷ xs) =
    let rest = sort R o tied xs in
    let r = insert R o tied x rest.list rest.sorted in
    record {
      list = r.list;
      sorted = r.sorted;
      sound = λ y i. ⊎_elim (λ e. subst (Contains (x ∷ xs)) e (cons_here x xs)) (λ t. cons_there x xs y (rest.sound y t)) (r.sound y i);
      complete = λ y i. ⊎_elim (λ e. r.complete y (inl e)) (λ t. r.complete y (inr (rest.complete y t))) (cons_cases x xs y i);
    }

pub place_total : IsTotalOrder place_cmp
place_total = then_total (on_total (λ x. x.page.0) nat_cmp_total) (on_total (λ x. x.slot) nat_cmp_total)

nat_equal : (x y : ℕ) → nat_cmp x y ≡ Equal → x ≡ y
nat_equal x y e = ranked x y Equal (sym e)

abbrev pub place : ℕ → ℕ → RowPlace
place page slot = record { page = record { 0 = page }; slot = slot }

then_equal : (a b : Ordering) → Rattle.std.specs.Ordering.ordering_then a b ≡ Equal → (a ≡ Equal) × (b ≡ Equal)
then_equal Less b e = absurd (cc)
then_equal Equal b e = (refl, e)
then_equal Greater b e = absurd (cc)

place_tied : (x y : RowPlace) → place_cmp x y ≡ Equal → x ≡ y
place_tied x y e =
    let both = then_equal (nat_cmp x.page.0 y.page.0) (nat_cmp x.slot y.slot) e in
    ap (λ p. place p x.slot) (nat_equal x.page.0 y.page.0 both.0) ∙ ap (place y.page.0) (nat_equal x.slot y.slot both.1)

abbrev pub place_at : (seen : List Page) (k : ℕ) → Parent seen k → RowPlace
place_at seen k a = place a.node.page (length a.front)

-- the places of the rows of some rows of a node that name page k
pub record Spots (seen : List Page) (k : ℕ) (node : Index) (start : ℕ) (rest : List (Row ℕ)) : Type 0 where
  list : List RowPlace
  sound : (q : RowPlace) → Contains list q → (a : Parent seen k) × (place_at seen k a ≡ q)
  complete : (f : List (Row ℕ)) (row : Row ℕ) (b : List (Row ℕ)) → rest ≡ f ++ row ∷ b → row.value ≡ k → Contains list (place node.page (start + length f))

-- where a row stands among rows: first, or later
no_split : (front : List (Row ℕ)) (row : Row ℕ) (back : List (Row ℕ)) → [] ≡ front ++ row ∷ back → ⊥
no_split [] row back e = absurd (cc)
no_split (f ∷ front) row back e = absurd (cc)

after_first : (seen : List Page) (k : ℕ) (node : Index) (start : ℕ) (x : Row ℕ) (rest : List (Row ℕ)) (list : List RowPlace)
    → ((f : List (Row ℕ)) (row : Row ℕ) (b : List (Row ℕ)) → rest ≡ f ++ row ∷ b → row.value ≡ k → Contains list (place node.page (start + 1 + length f)))
    → (x.value ≡ k → Contains list (place node.page start)) → (f : List (Row ℕ)) (row : Row ℕ) (b : List (Row ℕ)) → x ∷ rest ≡ f ++ row ∷ b → row.value ≡ k
    → Contains list (place node.page (start + length f))
after_first seen k node start x rest list later here [] row b e names =
    let head : x ≡ row = cc in
    let at : start ≡ start + 0 = omega arith in
    subst (λ n. Contains list (place node.page n)) at (here (ap (λ (r : Row ℕ). r.value) head ∙ names))
after_first seen k node start x rest list later here (y ∷ f) row b e names =
    let tail : rest ≡ f ++ row ∷ b = cc in
    let at : start + 1 + length f ≡ start + suc (length f) = omega arith in
    subst (λ n. Contains list (place node.page n)) at (later f row b tail names)

spots : (seen : List Page) (k level : ℕ) (node : Index) → Contains seen (Page.IndexPage level node) → (start : ℕ) (front rest : List (Row ℕ)) → node.rows ≡ front ++ rest
    → start ≡ length front → Spots seen k node start rest
spots seen k level node on start front [] rows at = record {
  list = [];
  sound = λ q i. absurd (nothing_there q i);
  complete = λ f row b e names. absurd (no_split f row b e);
}
spots seen k level node on start front (x ∷ rest) rows at =
    let next = spots seen k level node on (start + 1) (front ++ x ∷ []) rest (rows ∙ sym (append_assoc front (x ∷ []) rest)) (omega (arith, at, length-append front (x ∷ []))) in
    ⊎_elim (λ names. record {
      list = place node.page start ∷ next.list;
      sound = λ q i. ⊎_elim (λ e. (parent_at seen level k node front x rest on rows names, ap (place node.page) (sym at) ∙ e)) (next.sound q)
          (cons_cases (place node.page start) next.list q i);
      complete = after_first seen k node start x rest (place node.page start ∷ next.list)
          (λ f row b e is. cons_there (place node.page start) next.list (place node.page (start + 1 + length f)) (next.complete f row b e is))
          (λ is. cons_here (place node.page start) next.list);
    })
    (λ no. record { list = next.list; sound = next.sound; complete = after_first seen k node start x rest next.list next.complete (λ is. absurd (no is)) })
    (cases_eq x.value k)

-- the places of the rows of some pages that name page k
record Found (seen pages : List Page) (k : ℕ) : Type 0 where
  list : List RowPlace
  sound : (q : RowPlace) → Contains list q → (a : Parent seen k) × (place_at seen k a ≡ q)
  complete : (a : Parent seen k) → Contains pages (Page.IndexPage a.level a.node) → Contains list (place_at seen k a)

abbrev node_or : Index → Page → Index
node_or other (Page.LeafPage n) = other
node_or other (Page.IndexPage l n) = n

found_step : (seen : List Page) (x : Page) (pages : List Page) (k : ℕ) → Contains seen x → Found seen pages k → Found seen (x ∷ pages) k
found_step seen (Page.LeafPage n) pages k on rest = record {
  list = rest.list;
  sound = rest.sound;
  complete = λ a i. ⊎_elim (λ e. absurd (cc)) (λ t. rest.complete a t) (cons_cases (Page.LeafPage n) pages (Page.IndexPage a.level a.node) i);
}
found_step seen (Page.IndexPage l n) pages k on rest =
    let here = spots seen k l n on 0 [] n.rows refl refl in
    record {
      list = here.list ++ rest.list;
      sound = λ q i. ⊎_elim (here.sound q) (rest.sound q) (Contains-append_cases here.list rest.list q i);
      complete = λ a i. ⊎_elim
          (λ e. let node : n ≡ a.node = ap (node_or n) e in
          let at : place n.page (0 + length a.front) ≡ place_at seen k a = ap (place n.page) (omega arith) ∙ ap (λ (m : Index). place m.page (length a.front)) node in
          Contains-append_left here.list rest.list (place_at seen k a)
          (subst (Contains here.list) at (here.complete a.front a.row a.back (ap (λ (m : Index). m.rows) node ∙ a.rows) a.names)))
          (λ t. Contains-append_right here.list rest.list (place_at seen k a) (rest.complete a t))
          (cons_cases (Page.IndexPage l n) pages (Page.IndexPage a.level a.node) i);
    }

found : (seen pages : List Page) (k : ℕ) → ((p : Page) → Contains pages p → Contains seen p) → Found seen pages k
found seen [] k on = record { list = []; sound = λ q i. absurd (nothing_there q i); complete = λ a i. absurd (nothing_there (Page.IndexPage a.level a.node) i) }
found seen (x ∷ pages) k on = found_step seen x pages k (on x (cons_here x pages)) (found seen pages k (λ p i. on p (cons_there x pages p i)))

abbrev pub to_parent : (seen : List Page) (j k : ℕ) → Parent seen j → j ≡ k → Parent seen k
to_parent seen j k a e = parent_at seen a.level k a.node a.front a.row a.back a.on a.rows (a.names ∙ e)

pub row_is : (K : Known) (o root : ℕ) (seen : List Page) → IsKnownOf K o root seen → (k : ℕ) (a : Parent seen k) → IsRow K o k (parent_row o seen k a)
row_is K o root seen is k a = record { known = is.row k a; object = refl; child = a.names }

pub row_from : (K : Known) (o root : ℕ) (seen : List Page) → IsKnownOf K o root seen → (k : ℕ) (c : IndexRow) → IsRow K o k c
    → (a : Parent seen k) × (c ≡ parent_row o seen k a)
row_from K o root seen is k c h =
    let r = is.is_row c h.known h.object in (to_parent seen c.child.0 k r.0 h.child, r.1)

pub places_of : (K : Known) (o root : ℕ) (seen : List Page) → IsKnownOf K o root seen → (k : ℕ) → (places : List RowPlace) × ArePlaces K o k places
places_of K o root seen is k =
    let all = found seen seen k (λ p i. i) in
    let s = sort place_cmp place_total place_tied all.list in (
      s.list,
      record {
        sorted = s.sorted;
        sound = λ q i. let a = all.sound q (s.sound q i) in (parent_row o seen k a.0, row_is K o root seen is k a.0, a.1);
        complete = λ c h. let r = row_from K o root seen is k c h in
            subst (Contains s.list) (sym (ap place_of r.1)) (s.complete (place_at seen k r.0) (all.complete r.0 r.0.on));
      },
    )
