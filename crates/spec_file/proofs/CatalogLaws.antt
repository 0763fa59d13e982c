-- A catalog of which one entry is put: that it passes still, and its rows.
use Rattle.std.proofs.Common.{◌≡◌, ◌≢◌, refl, ℕ, zero, suc, ◌+◌, ◌-◌, ◌*◌, ◌<◌, ◌≤◌, ◌==◌, ◌||◌, Bool, true, false, not, IsTrue, List, [], ◌∷◌, ◌++◌, length, take, drop, map, filter, ap, sym, ◌∙◌, subst, arith, append_assoc, inl, inr}
use Rattle.std.specs.List.{list_any, range_with_len}
use Rattle.std.proofs.lemmas.Bool.{cases_eq, false≢true, ne_eqb, eq-eqb, cases_lt}
use Rattle.std.proofs.lemmas.List.{drop_at, take_at, map-append}
use Rattle.std.proofs.lemmas.List.Elements.{filter-append}
use Rattle.spec_file.specs.Catalog.{entry_count, entry_at, entry_id, entry_name, is_row, is_zeros, IsUsed, PassesCatalog}
use Rattle.spec_file.specs.CatalogRows.{CatalogRow, is_used, row_of_entry, rows_of, rows_before}
use Rattle.spec_file.specs.CatalogBytes.{with_entry}
use Rattle.spec_file.proofs.EntryLaws.{entry_here, entry_else}

-- ---- the test

-- entry i is put where it is empty, or is a row whose id and name no other entry has
pub record IsNewAt (boot : List ℕ) (i : ℕ) (entry : List ℕ) : Type 0 where
  pub row : is_zeros entry ≡ false → IsTrue (is_row entry)
  pub id : is_zeros entry ≡ false → (k : ℕ) → k < entry_count → IsUsed boot k → k ≢ i → entry_id (entry_at boot k) ≢ entry_id entry
  pub name : is_zeros entry ≡ false → (k : ℕ) → k < entry_count → IsUsed boot k → k ≢ i → entry_name (entry_at boot k) ≢ entry_name entry

pub passes_put : (boot : List ℕ) (i : ℕ) (entry : List ℕ) → PassesCatalog boot → 136 + 40 * i ≤ length boot → length entry ≡ 40 → IsNewAt boot i entry → PassesCatalog (with_entry i entry boot)
passes_put boot i entry old within size new = record {
  rows = λ k lt used. elim (cases_eq k i) [
    | inl e ↦ subst (λ (xs : List ℕ). IsTrue (is_row xs)) (sym (here k e)) (new.row (is_put k e used))
    | inr ne ↦ subst (λ (xs : List ℕ). IsTrue (is_row xs)) (sym (else k ne)) (old.rows k lt (is_old k ne used))
  ];
  ids = λ a b less lt ua ub same. apart entry_id (λ s k lt used ne. new.id s k lt used ne) old.ids a b less lt ua ub same;
  names = λ a b less lt ua ub same. apart entry_name (λ s k lt used ne. new.name s k lt used ne) old.names a b less lt ua ub same;
}
  where
    now : List ℕ
    now = with_entry i entry boot

    here : (k : ℕ) → k ≡ i → entry_at (with_entry i entry boot) k ≡ entry
    here k e = ap (entry_at (with_entry i entry boot)) e ∙ entry_here i entry boot within size

    else : (k : ℕ) → k ≢ i → entry_at (with_entry i entry boot) k ≡ entry_at boot k
    else k ne = entry_else i k entry boot ne within size

    is_put : (k : ℕ) → k ≡ i → IsUsed (with_entry i entry boot) k → is_zeros entry ≡ false
    is_put k e used = ap is_zeros (sym (here k e)) ∙ used

    is_old : (k : ℕ) → k ≢ i → IsUsed (with_entry i entry boot) k → IsUsed boot k
    is_old k ne used = ap is_zeros (sym (else k ne)) ∙ used

    apart : {X : Type 0} (part : List ℕ → X)
        → (is_zeros entry ≡ false → (k : ℕ) → k < entry_count → IsUsed boot k → k ≢ i → part (entry_at boot k) ≢ part entry)
        → ((a b : ℕ) → b < a → a < entry_count → IsUsed boot a → IsUsed boot b → part (entry_at boot a) ≢ part (entry_at boot b))
        → (a b : ℕ) → b < a → a < entry_count → IsUsed (with_entry i entry boot) a → IsUsed (with_entry i entry boot) b
        → part (entry_at (with_entry i entry boot) a) ≢ part (entry_at (with_entry i entry boot) b)
    apart part fresh olds a b less lt ua ub same = elim (cases_eq a i) [
      | inl ea ↦
          let other : b ≢ i = λ e. absurd (omega (arith, less, ea, e)) in
          fresh (is_put a ea ua) b (omega (arith, less, lt)) (is_old b other ub) other (sym (ap part (else b other)) ∙ sym same ∙ ap part (here a ea))
      | inr na ↦ elim (cases_eq b i) [
        | inl eb ↦ fresh (is_put b eb ub) a lt (is_old a na ua) na (sym (ap part (else a na)) ∙ same ∙ ap part (here b eb))
        | inr nb ↦ olds a b less lt (is_old a na ua) (is_old b nb ub) (sym (ap part (else a na)) ∙ same ∙ ap part (else b nb))
      ]
    ]

-- an entry of zeros may stand anywhere
pub empty_is_new : (boot : List ℕ) (i : ℕ) (entry : List ℕ) → is_zeros entry ≡ true → IsNewAt boot i entry
empty_is_new boot i entry none = record {
  row = λ some. absurd (false≢true (sym some ∙ none));
  id = λ some. absurd (false≢true (sym some ∙ none));
  name = λ some. absurd (false≢true (sym some ∙ none));
}

-- ---- the rows

rows_at : List ℕ → List CatalogRow
rows_at entry = map row_of_entry (filter is_used (entry ∷ []))

abbrev rows_in : (ℕ → List ℕ) → ℕ → ℕ → List CatalogRow
rows_in entry a n = map row_of_entry (filter is_used (map entry (range_with_len a n)))

rows_cons : (entry : ℕ → List ℕ) (a n : ℕ) → rows_in entry a (suc n) ≡ rows_at (entry a) ++ rows_in entry (a + 1) n
unfolding rows_at
rows_cons entry a n =
    ap (map row_of_entry) (filter-append is_used (entry a ∷ []) (map entry (range_with_len (a + 1) n)))
    ∙ map-append row_of_entry (filter is_used (entry a ∷ [])) (filter is_used (map entry (range_with_len (a + 1) n)))

rows_split : (entry : ℕ → List ℕ) (a i n : ℕ) → rows_in entry a (i + suc n) ≡ rows_in entry a i ++ (rows_at (entry (a + i)) ++ rows_in entry (a + i + 1) n)
rows_split entry a zero n =
    let first : 0 + suc n ≡ suc n = omega arith in
    let here : a ≡ a + 0 = omega arith in
    ap (rows_in entry a) first ∙ rows_cons entry a n ∙ ap (λ k. rows_at (entry k) ++ rows_in entry (k + 1) n) here
rows_split entry a (suc i) n =
    let first : suc i + suc n ≡ suc (i + suc n) = omega arith in
    let here : a + 1 + i ≡ a + suc i = omega arith in
    ap (rows_in entry a) first ∙ rows_cons entry a (i + suc n)
    ∙ ap (λ rows. rows_at (entry a) ++ rows) (rows_split entry (a + 1) i n)
    ∙ sym (append_assoc (rows_at (entry a)) (rows_in entry (a + 1) i) (rows_at (entry (a + 1 + i)) ++ rows_in entry (a + 1 + i + 1) n))
    ∙ ap (λ rows. rows ++ (rows_at (entry (a + 1 + i)) ++ rows_in entry (a + 1 + i + 1) n)) (sym (rows_cons entry a i))
    ∙ ap (λ k. rows_in entry a (suc i) ++ (rows_at (entry k) ++ rows_in entry (k + 1) n)) here

same_entries : (f g : ℕ → List ℕ) (a n : ℕ) → ((k : ℕ) → a ≤ k → k < a + n → f k ≡ g k) → map f (range_with_len a n) ≡ map g (range_with_len a n)
same_entries f g a zero same = refl
same_entries f g a (suc n) same =
    ap (λ x. x ∷ map f (range_with_len (a + 1) n)) (same a (omega arith) (omega arith))
    ∙ ap (λ xs. g a ∷ xs) (same_entries f g (a + 1) n (λ k low high. same k (omega (arith, low)) (omega (arith, high))))

same_rows : (f g : ℕ → List ℕ) (a n : ℕ) → ((k : ℕ) → a ≤ k → k < a + n → f k ≡ g k) → rows_in f a n ≡ rows_in g a n
same_rows f g a n same = ap (λ xs. map row_of_entry (filter is_used xs)) (same_entries f g a n same)

one_row : (entry : List ℕ) → is_zeros entry ≡ false → rows_at entry ≡ row_of_entry entry ∷ []
unfolding rows_at
one_row entry used = rw used refl

no_row : (entry : List ℕ) → is_zeros entry ≡ true → rows_at entry ≡ []
unfolding rows_at
no_row entry none = rw none refl

-- where all entries are used there are as many rows
full_rows : (f : ℕ → List ℕ) (a n : ℕ) → ((k : ℕ) → a ≤ k → k < a + n → is_zeros (f k) ≡ false) → length (rows_in f a n) ≡ n
full_rows f a zero used = refl
full_rows f a (suc n) used =
    let more : rows_in f a (suc n) ≡ row_of_entry (f a) ∷ rows_in f (a + 1) n =
    rows_cons f a n ∙ ap (λ rows. rows ++ rows_in f (a + 1) n) (one_row (f a) (used a (omega arith) (omega arith))) in
    let rest = full_rows f (a + 1) n (λ k low high. used k (omega (arith, low)) (omega (arith, high))) in
    ap length more ∙ ap suc rest

abbrev pub is_other : ℕ → CatalogRow → Bool
is_other id row = not (row.id == id)

others_at : (id : ℕ) (entry : List ℕ) → (is_zeros entry ≡ false → entry_id entry ≢ id) → filter (is_other id) (rows_at entry) ≡ rows_at entry
others_at id entry other = by_test (is_zeros entry) refl
  where
    by_test : (b : Bool) → is_zeros entry ≡ b → filter (is_other id) (rows_at entry) ≡ rows_at entry
    by_test true e = rw (no_row entry e) refl
    by_test false e = rw (one_row entry e, ne_eqb (entry_id entry) id (other e)) refl

-- the rows of entries that don't have the id
other_rows : (id : ℕ) (f : ℕ → List ℕ) (a n : ℕ) → ((k : ℕ) → a ≤ k → k < a + n → is_zeros (f k) ≡ false → entry_id (f k) ≢ id) → filter (is_other id) (rows_in f a n) ≡ rows_in f a n
other_rows id f a zero other = refl
other_rows id f a (suc n) other =
    ap (filter (is_other id)) (rows_cons f a n)
    ∙ filter-append (is_other id) (rows_at (f a)) (rows_in f (a + 1) n)
    ∙ ap (λ rows. rows ++ filter (is_other id) (rows_in f (a + 1) n)) (others_at id (f a) (other a (omega arith) (omega arith)))
    ∙ ap (λ rows. rows_at (f a) ++ rows) (other_rows id f (a + 1) n (λ k low high. other k (omega (arith, low)) (omega (arith, high))))
    ∙ sym (rows_cons f a n)

-- the rows before entry i, of it, and behind it
rows_around : (boot : List ℕ) (i n : ℕ) → i + suc n ≡ 128 → rows_of boot ≡ rows_in (entry_at boot) 0 i ++ (rows_at (entry_at boot (0 + i)) ++ rows_in (entry_at boot) (0 + i + 1) n)
unfolding rows_of
rows_around boot i n all = ap (rows_before boot) (sym all) ∙ rows_split (entry_at boot) 0 i n

before_same : (boot : List ℕ) (i : ℕ) (entry : List ℕ) → 136 + 40 * i ≤ length boot → length entry ≡ 40 → rows_in (entry_at (with_entry i entry boot)) 0 i ≡ rows_in (entry_at boot) 0 i
before_same boot i entry within size =
    same_rows (entry_at (with_entry i entry boot)) (entry_at boot) 0 i (λ k low high. entry_else i k entry boot (λ e. absurd (omega (arith, high, e))) within size)

behind_same : (boot : List ℕ) (i : ℕ) (entry : List ℕ) (n : ℕ) → 136 + 40 * i ≤ length boot → length entry ≡ 40
    → rows_in (entry_at (with_entry i entry boot)) (0 + i + 1) n ≡ rows_in (entry_at boot) (0 + i + 1) n
behind_same boot i entry n within size =
    same_rows (entry_at (with_entry i entry boot)) (entry_at boot) (0 + i + 1) n (λ k low high. entry_else i k entry boot (λ e. absurd (omega (arith, low, e))) within size)

-- the rows where entry i is put
rows_put : (boot : List ℕ) (i : ℕ) (entry : List ℕ) (n : ℕ) → i + suc n ≡ 128 → 136 + 40 * i ≤ length boot → length entry ≡ 40
    → rows_of (with_entry i entry boot) ≡ rows_in (entry_at boot) 0 i ++ (rows_at entry ++ rows_in (entry_at boot) (0 + i + 1) n)
rows_put boot i entry n all within size =
    let here : entry_at (with_entry i entry boot) (0 + i) ≡ entry = ap (entry_at (with_entry i entry boot)) (omega arith) ∙ entry_here i entry boot within size in
    rows_around (with_entry i entry boot) i n all
    ∙ ap (λ rows. rows ++ (rows_at (entry_at (with_entry i entry boot) (0 + i)) ++ rows_in (entry_at (with_entry i entry boot)) (0 + i + 1) n)) (before_same boot i entry within size)
    ∙ ap (λ e. rows_in (entry_at boot) 0 i ++ (rows_at e ++ rows_in (entry_at (with_entry i entry boot)) (0 + i + 1) n)) here
    ∙ ap (λ rows. rows_in (entry_at boot) 0 i ++ (rows_at entry ++ rows)) (behind_same boot i entry n within size)

-- the lowest empty entry gets a row: it stands behind the rows of the entries before
pub rows_added : (boot : List ℕ) (i : ℕ) (entry : List ℕ) → i < entry_count → 136 + 40 * i ≤ length boot → length entry ≡ 40
    → is_zeros (entry_at boot i) ≡ true → ((k : ℕ) → k < i → is_zeros (entry_at boot k) ≡ false) → is_zeros entry ≡ false
    → rows_of (with_entry i entry boot) ≡ take i (rows_of boot) ++ row_of_entry entry ∷ drop i (rows_of boot)
rows_added boot i entry lt within size none used some =
    let n = 127 - i in
    let all : i + suc n ≡ 128 = omega (arith, lt) in
    let a = rows_in (entry_at boot) 0 i in
    let b = rows_in (entry_at boot) (0 + i + 1) n in
    let count : length a ≡ i = full_rows (entry_at boot) 0 i (λ k low high. used k (omega (arith, high))) in
    let same : 0 + i ≡ i = omega arith in
    let before : rows_of boot ≡ a ++ b =
    rows_around boot i n all ∙ ap (λ rows. a ++ (rows ++ b)) (no_row (entry_at boot (0 + i)) (ap (λ k. is_zeros (entry_at boot k)) same ∙ none)) in
    rows_put boot i entry n all within size
    ∙ ap (λ rows. a ++ (rows ++ b)) (one_row entry some)
    ∙ ap (λ rows. rows ++ row_of_entry entry ∷ b) (sym (ap (take i) before ∙ take_at a b i count))
    ∙ ap (λ rows. take i (rows_of boot) ++ row_of_entry entry ∷ rows) (sym (ap (drop i) before ∙ drop_at a b i count))

-- the entry of an id is emptied: its row goes
pub rows_removed : (boot : List ℕ) (i : ℕ) (entry : List ℕ) → i < entry_count → 136 + 40 * i ≤ length boot → length entry ≡ 40 → is_zeros entry ≡ true
    → PassesCatalog boot → IsUsed boot i
    → rows_of (with_entry i entry boot) ≡ filter (is_other (entry_id (entry_at boot i))) (rows_of boot)
rows_removed boot i entry lt within size none passes used =
    let n = 127 - i in
    let all : i + suc n ≡ 128 = omega (arith, lt) in
    let id = entry_id (entry_at boot i) in
    let a = rows_in (entry_at boot) 0 i in
    let b = rows_in (entry_at boot) (0 + i + 1) n in
    let gone : filter (is_other id) (row_of_entry (entry_at boot i) ∷ []) ≡ [] = rw (eq-eqb id id refl) refl in
    let same : 0 + i ≡ i = omega arith in
    let before : rows_of boot ≡ a ++ ((row_of_entry (entry_at boot i) ∷ []) ++ b) =
    rows_around boot i n all ∙ ap (λ k. a ++ (rows_at (entry_at boot k) ++ b)) same ∙ ap (λ rows. a ++ (rows ++ b)) (one_row (entry_at boot i) used) in
    let low : filter (is_other id) a ≡ a = other_rows id (entry_at boot) 0 i (λ k from to some e. passes.ids i k (omega (arith, to)) lt used some (sym e)) in
    let high : filter (is_other id) b ≡ b = other_rows id (entry_at boot) (0 + i + 1) n (λ k from to some e. passes.ids k i (omega (arith, from)) (omega (arith, to, all)) some used e) in
    rows_put boot i entry n all within size
    ∙ ap (λ rows. a ++ (rows ++ b)) (no_row entry none)
    ∙ ap (λ rows. a ++ rows) (sym high)
    ∙ ap (λ rows. rows ++ filter (is_other id) b) (sym low)
    ∙ ap (λ rows. filter (is_other id) a ++ (rows ++ filter (is_other id) b)) (sym gone)
    ∙ ap (λ rows. filter (is_other id) a ++ rows) (sym (filter-append (is_other id) (row_of_entry (entry_at boot i) ∷ []) b))
    ∙ sym (filter-append (is_other id) a ((row_of_entry (entry_at boot i) ∷ []) ++ b))
    ∙ ap (filter (is_other id)) (sym before)

-- no entry has the id: no row goes
pub rows_stay : (boot : List ℕ) (id : ℕ) → ((k : ℕ) → k < entry_count → IsUsed boot k → entry_id (entry_at boot k) ≢ id) → rows_of boot ≡ filter (is_other id) (rows_of boot)
unfolding rows_of
rows_stay boot id none = sym (other_rows id (entry_at boot) 0 entry_count (λ k low high used. none k (omega (arith, high)) used))

-- ---- what holds of no row holds of no entry that is used

by_first : {X : Type 0} (has : X → Bool) (x : X) (xs ys : List X) (b : Bool) → has x ≡ b → list_any has (x ∷ (xs ++ ys)) ≡ false
    → (list_any has (xs ++ ys) ≡ false → (list_any has xs ≡ false) × (list_any has ys ≡ false)) → (list_any has (x ∷ xs) ≡ false) × (list_any has ys ≡ false)
by_first has x xs ys true e none rest = absurd (false≢true (sym (rw e at none)))
by_first has x xs ys false e none rest = let parts = rest (rw e at none) in (rw e parts.0, parts.1)

only_one : {X : Type 0} (has : X → Bool) (x : X) → list_any has (x ∷ []) ≡ false → has x ≡ false
only_one has x none = by_value (has x) none
  where
    by_value : (b : Bool) → (b || false) ≡ false → b ≡ false
    by_value true e = e
    by_value false e = refl

any_two : {X : Type 0} (has : X → Bool) (xs ys : List X) → list_any has (xs ++ ys) ≡ false → (list_any has xs ≡ false) × (list_any has ys ≡ false)
any_two has [] ys none = (refl, none)
any_two has (x ∷ xs) ys none = by_first has x xs ys (has x) refl none (any_two has xs ys)

used_in : (has : CatalogRow → Bool) (entry : ℕ → List ℕ) (a n k : ℕ) → a ≤ k → k < a + n → is_zeros (entry k) ≡ false → list_any has (rows_in entry a n) ≡ false
    → has (row_of_entry (entry k)) ≡ false
used_in has entry a zero k low high used none = absurd (omega (arith, low, high))
used_in has entry a (suc n) k low high used none =
    let parts = any_two has (rows_at (entry a)) (rows_in entry (a + 1) n) (ap (list_any has) (sym (rows_cons entry a n)) ∙ none) in elim (cases_lt a k) [
      | inl less ↦ used_in has entry (a + 1) n k (omega (arith, less)) (omega (arith, high)) used parts.1
      | inr not_less ↦
          let same : k ≡ a = omega (arith, low, not_less) in
          let here : rows_at (entry a) ≡ row_of_entry (entry k) ∷ [] = ap (λ i. rows_at (entry i)) (sym same) ∙ one_row (entry k) used in
          only_one has (row_of_entry (entry k)) (ap (list_any has) (sym here) ∙ parts.0)
    ]

pub used_row : (has : CatalogRow → Bool) (boot : List ℕ) (k : ℕ) → k < entry_count → IsUsed boot k → list_any has (rows_of boot) ≡ false → has (row_of_entry (entry_at boot k)) ≡ false
unfolding rows_of
used_row has boot k lt used none = used_in has (entry_at boot) 0 entry_count k (omega arith) (omega (arith, lt)) used none
