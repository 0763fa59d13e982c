-- Lists: what is last, what is distinct, and keys that rise.
use Rattle.std.proofs.Common.{◌≡◌, ◌≢◌, ℕ, suc, ◌≤◌, Option, Some, None, List, [], ◌∷◌, ◌++◌, Contains, refl, sym, ap, subst, ⊎_elim, arith}
use Rattle.std.proofs.lemmas.List.Elements.{Contains-append_left, Contains-append_right, Contains-append_cases}
use Rattle.std.specs.List.{flat_map}
use Rattle.spec_check.proofs.Members.{nothing_there, cons_cases, cons_here, cons_there}
use Rattle.spec_levels.specs.Levels.{Row, AreDistinct, IsBelow, Rises}
use Rattle.law_levels.specs.Known.{last_value, last_in, first_in}

-- one row more at the end is the last
pub last_push : (front : List (Row ℕ)) (row : Row ℕ) → last_value (front ++ row ∷ []) ≡ row.value
last_push [] row = refl
last_push (a ∷ []) row = refl
last_push (a ∷ (b ∷ front)) row = last_push (b ∷ front) row

pub distinct_append : (xs ys : List ℕ) → AreDistinct xs → AreDistinct ys → ((x : ℕ) → Contains xs x → Contains ys x → ⊥) → AreDistinct (xs ++ ys)
distinct_append [] ys a b apart = b
distinct_append (x ∷ xs) ys a b apart = (
  λ there. ⊎_elim a.0 (apart x (cons_here x xs)) (Contains-append_cases xs ys x there),
  distinct_append xs ys a.1 b (λ y i j. apart y (cons_there x xs y i) j),
)

-- keys that rise keep within what their first and their last keep within
raise : (low low' : ℕ) (keys : List ℕ) → Rises low None keys → ((key : ℕ) → first_in keys ≡ Some key → low' ≤ key) → Rises low' None keys
raise low low' [] r first = tt
raise low low' (key ∷ keys) r first = (first key refl, tt, r.2)

below_trans : (a b : ℕ) (high : Option ℕ) → a ≤ b → IsBelow b high → IsBelow a high
below_trans a b None h below = tt
below_trans a b (Some high) h below = omega (arith, h, below)

-- a first key below the last is below what the last is below
first_below : (low : ℕ) (high : Option ℕ) (key : ℕ) (keys : List ℕ) → Rises low high (key ∷ keys) → low ≤ key
first_below low high key keys r = r.0

lower : (low : ℕ) (high : Option ℕ) (keys : List ℕ) → Rises low None keys → ((key : ℕ) → last_in keys ≡ Some key → IsBelow key high) → Rises low high keys
lower low high [] r last = tt
lower low high (key ∷ []) r last = (r.0, last key refl, tt)
lower low high (key ∷ (next ∷ keys)) r last =
    let rest = lower (suc key) high (next ∷ keys) r.2 last in
    (r.0, below_trans key next high (omega (arith, rest.0)) rest.1, rest)

pub rises_between : (low : ℕ) (high : Option ℕ) (keys : List ℕ) → Rises 0 None keys → ((key : ℕ) → first_in keys ≡ Some key → low ≤ key)
    → ((key : ℕ) → last_in keys ≡ Some key → IsBelow key high) → Rises low high keys
rises_between low high keys r first last = lower low high keys (raise 0 low keys r first) last

-- a member stands between what is before it and what is after it
pub record At {X : Type 0} (xs : List X) (x : X) : Type 0 where
  pub front : List X
  pub back : List X
  pub is : xs ≡ front ++ x ∷ back

pub part : {X : Type 0} (xs : List X) (x : X) → Contains xs x → At xs x
part [] x h = absurd (nothing_there x h)
part {X = X} (y ∷ xs) x h = ⊎_elim (λ e. record { front = []; back = xs; is = ap (λ (z : X). z ∷ xs) e })
    (λ t. let rest = part xs x t in record { front = y ∷ rest.front; back = rest.back; is = ap (λ (zs : List X). y ∷ zs) rest.is }) (cons_cases y xs x h)

pub part_in : {X : Type 0} (xs front : List X) (x : X) (back : List X) → xs ≡ front ++ x ∷ back → Contains xs x
part_in {X = X} xs front x back is =
    subst (λ (zs : List X). Contains zs x) (sym is) (Contains-append_right front (x ∷ back) x (cons_here x back))

-- members of lists joined end to end
pub flat_in : {X Y : Type 0} (f : X → List Y) (xs : List X) (x : X) (y : Y) → Contains xs x → Contains (f x) y → Contains (flat_map f xs) y
flat_in f [] x y i j = absurd (nothing_there x i)
flat_in {X = X} f (z ∷ xs) x y i j = ⊎_elim (λ e. Contains-append_left (f z) (flat_map f xs) y (subst (λ (w : X). Contains (f w) y) (sym e) j))
    (λ t. Contains-append_right (f z) (flat_map f xs) y (flat_in f xs x y t j)) (cons_cases z xs x i)

pub flat_from : {X Y : Type 0} (f : X → List Y) (xs : List X) (y : Y) → Contains (flat_map f xs) y → (x : X) × Contains xs x × Contains (f x) y
flat_from f [] y h = absurd (nothing_there y h)
flat_from f (z ∷ xs) y h = ⊎_elim (λ here. (z, cons_here z xs, here))
    (λ t. let rest = flat_from f xs y t in (rest.0, cons_there z xs rest.0 rest.1, rest.2)) (Contains-append_cases (f z) (flat_map f xs) y h)

-- rows that aren't none are a first one and others
pub some_rows : (rows : List (Row ℕ)) → rows ≢ [] → (row : Row ℕ) × (rest : List (Row ℕ)) × (rows ≡ row ∷ rest)
some_rows [] some = absurd (some refl)
some_rows (row ∷ rows) some = (row, rows, refl)
