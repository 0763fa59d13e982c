-- Lists of pages with their owners, which grow page by page.
use Rattle.std.proofs.Common.{◌≡◌, ◌⊎◌, ℕ, ◌+◌, ◌<◌, ◌≤◌, Bool, true, false, IsTrue, List, [], ◌∷◌, ◌++◌, Contains, cond, filter, length, map, slice_index, arith, rules, sym, subst, ap, ◌∙◌, refl, inl, inr, ⊎_elim, append-nil, append_assoc, Ordering}
use Rattle.std.specs.Cmp.{IsTotalOrder}
use Rattle.std.specs.List.{AllByRecursion, range_with_len}
use Rattle.std.specs.List.Sorted.{IsStrictlySortedBy}
use Rattle.std.specs.Ordering.{nat_cmp, on, ordering_then}
use Rattle.std.specs.declared.cmp.Ordering.TheVariants.{Less, Equal}
use Rattle.std.proofs.lemmas.Cmp.{nat_cmp_total, tied_itself, ranked, by_ranked, then_total, on_total}
use Rattle.std.proofs.lemmas.List.{map-id, map-append}
use Rattle.std.proofs.lemmas.List.Elements.{Contains-append_left, Contains-append_right, Contains-append_cases}
use Rattle.std.proofs.lemmas.List.FromFn.{filter_of_map_range_with_len_more}
use Rattle.std.proofs.lemmas.Map.Keys.{Less-from_sorted}
use Rattle.ck_facts.specs.declared.map.AllocMap.{AllocMap}
use Rattle.ck_facts.specs.declared.map.PageUse.{PageUse}
use Rattle.spec_check.proofs.Members.{nothing_there, cons_here, cons_there, map_from, map_in, filter_from, filter_in, range_from, range_in, range_sorted, sorted_none, sorted_map}
use Rattle.ck_facts.specs.MapOf.{ids_of}
use Rattle.ck_facts.specs.Owners.{Owned, owned_cmp, StandById}
use Rattle.ck_facts.specs.OwnedBy.{is_owned_by, owned_at, owners_of}
use Rattle.ck_facts.specs.PageUses.{uses_between}

-- the i-th object owns page p, by the maps
abbrev pub owns : AllocMap → ℕ → ℕ → Bool
owns m p i = is_owned_by m (uses_between p (p + 1) m.uses.items) p i

-- one of the map's first n objects owns a page from low up to p
pub record IsOwned (m : AllocMap) (n low p : ℕ) (u : Owned) : Type 0 where
  pub page : ℕ
  pub place : ℕ
  pub from : low ≤ page
  pub before : page < p
  pub object : place < n
  pub owns : IsTrue (owns m page place)
  pub is : owned_at m page place ≡ u

-- all of them, in order where the objects are
pub record AreOwned (m : AllocMap) (n low p : ℕ) (owners : List Owned) : Type 0 where
  pub sorted : StandById m → IsStrictlySortedBy owned_cmp owners
  pub sound : (u : Owned) → Contains owners u → IsOwned m n low p u
  pub complete : (u : Owned) → IsOwned m n low p u → Contains owners u

-- what a filter keeps of a sorted list, and two sorted lists of which the second stands above
all_step : {X : Type 0} (P : X → Type 0) (x : X) (kept : List X) (b : Bool) → P x → AllByRecursion P kept → AllByRecursion P (cond b (x ∷ kept) kept)
all_step P x kept true here h = (here, h)
all_step P x kept false here h = h

kept_all : {X : Type 0} (P : X → Type 0) (f : X → Bool) (xs : List X) → AllByRecursion P xs → AllByRecursion P (filter f xs)
kept_all P f [] h = tt
kept_all P f (x ∷ xs) h = all_step P x (filter f xs) (f x) h.0 (kept_all P f xs h.1)

sorted_step : {X : Type 0} (R : X → X → Ordering) (x : X) (kept : List X) (b : Bool) → AllByRecursion (λ y. R x y ≡ Less) kept → IsStrictlySortedBy R kept
    → IsStrictlySortedBy R (cond b (x ∷ kept) kept)
unfolding IsStrictlySortedBy
sorted_step R x kept true here s = (here, s)
sorted_step R x kept false here s = s

sorted_filter : {X : Type 0} (R : X → X → Ordering) (f : X → Bool) (xs : List X) → IsStrictlySortedBy R xs → IsStrictlySortedBy R (filter f xs)
unfolding IsStrictlySortedBy
sorted_filter R f [] s = tt
sorted_filter R f (x ∷ xs) s = sorted_step R x (filter f xs) (f x) (kept_all (λ y. R x y ≡ Less) f xs s.0) (sorted_filter R f xs s.1)

all_both : {X : Type 0} (P : X → Type 0) (xs ys : List X) → AllByRecursion P xs → ((y : X) → Contains ys y → P y) → AllByRecursion P (xs ++ ys)
all_both P [] [] h k = tt
all_both P [] (y ∷ ys) h k = (k y (cons_here y ys), all_both P [] ys tt (λ z c. k z (cons_there y ys z c)))
all_both P (x ∷ xs) ys h k = (h.0, all_both P xs ys h.1 k)

sorted_both : {X : Type 0} (R : X → X → Ordering) (xs ys : List X) → IsStrictlySortedBy R xs → IsStrictlySortedBy R ys
    → ((x y : X) → Contains xs x → Contains ys y → R x y ≡ Less) → IsStrictlySortedBy R (xs ++ ys)
unfolding IsStrictlySortedBy
sorted_both R [] ys s t above = t
sorted_both R (x ∷ xs) ys s t above = (
  all_both (λ y. R x y ≡ Less) xs ys s.0 (λ y c. above x y (cons_here x xs) c),
  sorted_both R xs ys s.1 t (λ z y c d. above z y (cons_there x xs z c) d),
)

-- the order of owned pages
less_of : (a b : ℕ) → a < b → nat_cmp a b ≡ Less
less_of a b h = by_ranked (a < b) (a ≡ b) (b < a) (nat_cmp a b) (ranked a b (nat_cmp a b) refl)
    (λ is less. is) (λ is same. absurd (omega (arith, same, h))) (λ is more. absurd (omega (arith, more, h)))

less_first : (o r : Ordering) → o ≡ Less → ordering_then o r ≡ Less
less_first o r h = subst (λ t. ordering_then t r ≡ Less) (sym h) refl

less_second : (o r : Ordering) → o ≡ Equal → r ≡ Less → ordering_then o r ≡ Less
less_second o r tied h = subst (λ t. ordering_then t r ≡ Less) (sym tied) h

owned_total : IsTotalOrder owned_cmp
owned_total = then_total (on_total (λ u. u.0.0) nat_cmp_total) (on_total (λ u. u.1.0) nat_cmp_total)

page_before : (u v : Owned) → u.0.0 < v.0.0 → owned_cmp u v ≡ Less
page_before u v h = less_first (nat_cmp u.0.0 v.0.0) (nat_cmp u.1.0 v.1.0) (less_of u.0.0 v.0.0 h)

-- the owners of one page
on_page : (m : AllocMap) (uses : List PageUse) (p n : ℕ) (u : Owned) → Contains (owners_of m uses p n) u
    → (i : ℕ) × (i < n) × IsTrue (is_owned_by m uses p i) × (owned_at m p i ≡ u)
on_page m uses p n u c =
    let at = map_from (owned_at m p) (filter (is_owned_by m uses p) (range_with_len 0 n)) u c in
    let kept = filter_from (is_owned_by m uses p) (range_with_len 0 n) at.0 at.1 in
    (at.0, range_from n at.0 kept.0, kept.1, at.2)

of_page : (m : AllocMap) (uses : List PageUse) (p n i : ℕ) → i < n → IsTrue (is_owned_by m uses p i) → Contains (owners_of m uses p n) (owned_at m p i)
of_page m uses p n i below owned =
    map_in (owned_at m p) (filter (is_owned_by m uses p) (range_with_len 0 n)) i
    (filter_in (is_owned_by m uses p) (range_with_len 0 n) i (range_in n i below) owned)

page_sorted : (m : AllocMap) (uses : List PageUse) (p n : ℕ) → StandById m → n ≡ length (ids_of m.objects.items) → IsStrictlySortedBy owned_cmp (owners_of m uses p n)
page_sorted m uses p n by many = sorted_map (owned_at m p) owned_cmp (filter (is_owned_by m uses p) (range_with_len 0 n))
    (sorted_filter (on (owned_at m p) owned_cmp) (is_owned_by m uses p) (range_with_len 0 n)
    (range_sorted (on (owned_at m p) owned_cmp) (on_total (owned_at m p) owned_total) n (λ k inside.
    let ids = ids_of m.objects.items in
    less_second (nat_cmp p p) (nat_cmp (slice_index ids k) (slice_index ids (k + 1))) (tied_itself nat_cmp_total p)
    (Less-from_sorted nat_cmp ids k (k + 1) 0 by (omega arith) (omega (arith, inside, many))))))

-- the owners of a page, one object more
range_more : (f : ℕ → Bool) (n : ℕ) → filter f (range_with_len 0 (n + 1)) ≡ filter f (range_with_len 0 n) ++ cond (f n) (n ∷ []) []
range_more f n =
    let more = filter_of_map_range_with_len_more f (λ i. i) 0 n n (omega arith) in
    subst (λ l. filter f l ≡ filter f (range_with_len 0 n) ++ cond (f n) (n ∷ []) []) (map-id (range_with_len 0 (n + 1)))
    (subst (λ l. filter f (map (λ i. i) (range_with_len 0 (n + 1))) ≡ filter f l ++ cond (f n) (n ∷ []) []) (map-id (range_with_len 0 n)) more)

owners_step : (m : AllocMap) (uses : List PageUse) (p i : ℕ) (b : Bool) → is_owned_by m uses p i ≡ b
    → owners_of m uses p (i + 1) ≡ owners_of m uses p i ++ map (owned_at m p) (cond b (i ∷ []) [])
owners_step m uses p i b told =
    ap (map (owned_at m p)) (range_more (is_owned_by m uses p) i ∙ ap (λ (b : Bool). filter (is_owned_by m uses p) (range_with_len 0 i) ++ cond b (i ∷ []) []) told)
    ∙ map-append (owned_at m p) (filter (is_owned_by m uses p) (range_with_len 0 i)) (cond b (i ∷ []) [])

-- a list that has the owners by the first i objects, one object more
pub owners_more : (m : AllocMap) (uses : List PageUse) (p i : ℕ) (old now next : List Owned) (u : Owned) → is_owned_by m uses p i ≡ true
    → now ≡ old ++ owners_of m uses p i → next ≡ now ++ u ∷ [] → u ≡ owned_at m p i → next ≡ old ++ owners_of m uses p (i + 1)
owners_more m uses p i old now next u told is pushed same =
    pushed ∙ (ap (λ l. l ++ u ∷ []) is ∙ (append_assoc old (owners_of m uses p i) (u ∷ [])
    ∙ (ap (λ v. old ++ (owners_of m uses p i ++ v ∷ [])) same ∙ ap (λ l. old ++ l) (sym (owners_step m uses p i true told)))))

pub owners_skip : (m : AllocMap) (uses : List PageUse) (p i : ℕ) (old now : List Owned) → is_owned_by m uses p i ≡ false
    → now ≡ old ++ owners_of m uses p i → now ≡ old ++ owners_of m uses p (i + 1)
owners_skip m uses p i old now told is =
    is ∙ ap (λ l. old ++ l) (sym (owners_step m uses p i false told ∙ append-nil (owners_of m uses p i)))

-- no page is passed
pub owned_none : (m : AllocMap) (n low : ℕ) → AreOwned m n low low []
owned_none m n low = record {
  sorted = λ by. sorted_none owned_cmp;
  sound = λ u c. absurd (nothing_there u c);
  complete = λ u h. let from = h.from in let before = h.before in absurd (omega (arith, from, before));
}

-- nobody owns a page
pub owned_nowhere : (m : AllocMap) (n low p : ℕ) → ((q i : ℕ) → low ≤ q → q < p → IsTrue (owns m q i) → ⊥) → AreOwned m n low p []
owned_nowhere m n low p never = record {
  sorted = λ by. sorted_none owned_cmp;
  sound = λ u c. absurd (nothing_there u c);
  complete = λ u h. absurd (never h.page h.place h.from h.before h.owns);
}

upto : (a b : ℕ) → a < b + 1 → (a < b) ⊎ (a ≡ b)
upto a b h = search (rules, arith)

-- one page more
pub owned_next : (m : AllocMap) (n low p : ℕ) (uses : List PageUse) (old new : List Owned) → uses ≡ uses_between p (p + 1) m.uses.items
    → n ≡ length (ids_of m.objects.items) → low ≤ p → AreOwned m n low p old → new ≡ old ++ owners_of m uses p n → AreOwned m n low (p + 1) new
owned_next m n low p uses old new of many from h is = subst (AreOwned m n low (p + 1)) (sym is) (record {
  sorted = λ by. sorted_both owned_cmp old (owners_of m uses p n) (h.sorted by) (page_sorted m uses p n by many)
      (λ u v c d. let s = h.sound u c in let t = on_page m uses p n v d in
      let before = s.before in
      page_before u v (subst (λ (w : Owned). u.0.0 < w.0.0) t.3 (subst (λ (w : Owned). w.0.0 < p) s.is before)));
  sound = λ u c. ⊎_elim
      (λ was. let s = h.sound u was in let before = s.before in record { page = s.page; place = s.place; from = s.from; before = omega (arith, before); object = s.object; owns = s.owns; is = s.is })
      (λ now. let t = on_page m uses p n u now in
      record { page = p; place = t.0; from = from; before = omega arith; object = t.1; owns = subst (λ l. IsTrue (is_owned_by m l p t.0)) of t.2; is = t.3 })
      (Contains-append_cases old (owners_of m uses p n) u c);
  complete = λ u s. ⊎_elim
      (λ less. Contains-append_left old (owners_of m uses p n) u
      (h.complete u (record { page = s.page; place = s.place; from = s.from; before = less; object = s.object; owns = s.owns; is = s.is })))
      (λ same. Contains-append_right old (owners_of m uses p n) u (subst (Contains (owners_of m uses p n)) (ap (λ q. owned_at m q s.place) (sym same) ∙ s.is)
      (of_page m uses p n s.place s.object (subst (λ l. IsTrue (is_owned_by m l p s.place)) (sym of) (subst (λ q. IsTrue (owns m q s.place)) same s.owns)))))
      (upto s.page p s.before);
})
