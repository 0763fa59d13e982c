-- The pages near those of a table hold all of its own.
use Rattle.std.proofs.Common.{◌≡◌, ℕ, zero, suc, ◌+◌, ◌-◌, ◌*◌, ◌/◌, ◌%◌, ◌^◌, ◌<◌, ◌≤◌, min, true, false, not, Bool, List, [], ◌∷◌, ◌++◌, length, get_or, All, Contains, ◌⊎◌, ◌↔◌, inl, inr, ap, sym, ◌∙◌, subst, arith, eqb, ◌||◌, filter}
use Rattle.std.specs.Prelude.{slice_index}
use Rattle.std.specs.Int.{bit_at}
use Rattle.std.specs.List.{list_any, range_with_len}
use Rattle.std.specs.List.Sorted.{IsStrictlyIncreasing}
use Rattle.std.proofs.lemmas.Bool.{cases_lt, and_parts, or_cases, eqb-true, eq-eqb, false≢true}
use Rattle.std.proofs.lemmas.List.{get_or_default}
use Rattle.std.proofs.lemmas.List.Elements.{Contains-append_left, Contains-push, All-append}
use Rattle.std.proofs.lemmas.List.Folds.{Any-from_list_any, list_any_at}
use Rattle.std.proofs.lemmas.Nat.Bits.{bit_at-zero}
use Rattle.spec_file.specs.declared.geometry.Geometry.{Geometry}
use Rattle.spec_file.specs.declared.geometry.Geometry.TheVariants.{Standard, Small}
use Rattle.spec_file.specs.Iam.{iam_interval}
use Rattle.spec_file.specs.Places.{interval_size}
use Rattle.law_net.proofs.Touched.{RiseIn, filter_touched}
use Rattle.std.specs.Prelude.{Box, IfOk, Result, Ok, Err}
use Rattle.std.specs.Global.{Global}
use Rattle.std.proofs.Math.ListN.{get_or-map}
use Rattle.std.proofs.lemmas.List.{length-map}
use Rattle.spec_file.specs.declared.data.PageNo.{PageNo}
use Rattle.pg_base.specs.declared.page.Page.{Page}
use Rattle.db_alloc.specs.Tables.{numbers, bytes_of}
use Rattle.db_alloc.specs.Marks.{marks, is_in_slot, first_slots, has_byte}
use Rattle.db_alloc.specs.Near.{Includes, IsInByte, IsInBytes, AreNear}

-- ---- one kind of pages after another

pub includes_none : (pages : ℕ) (Is : ℕ → Type 0) (xs : List ℕ) → ((p : ℕ) → p < pages → Is p → ⊥) → Includes pages Is xs xs
includes_none pages Is xs none = record {
  kept = λ p h. h;
  inside = λ h. h;
  all = λ p below is. absurd (none p below is);
}

pub includes_both : (pages : ℕ) (Is Next Both : ℕ → Type 0) (xs ys zs : List ℕ) → Includes pages Is xs ys → Includes pages Next ys zs
    → ((p : ℕ) → p < pages → Both p → Is p ⊎ Next p) → Includes pages Both xs zs
includes_both pages Is Next Both xs ys zs a b split = record {
  kept = λ p h. b.kept p (a.kept p h);
  inside = λ h. b.inside (a.inside h);
  all = λ p below both. elim (split p below both) [
    | inl is ↦ b.kept p (a.all p below is)
    | inr is ↦ b.all p below is
  ];
}

pub includes_as : (pages : ℕ) (Is Other : ℕ → Type 0) (xs ys : List ℕ) → Includes pages Is xs ys → ((p : ℕ) → p < pages → Other p → Is p) → Includes pages Other xs ys
includes_as pages Is Other xs ys a same = record {
  kept = a.kept;
  inside = a.inside;
  all = λ p below is. a.all p below (same p below is);
}

one_inside : (pages p : ℕ) → p < pages → All (λ q. q < pages) (p ∷ [])
one_inside pages p below zero d lt = below
one_inside pages p below (suc k) d lt = absurd (omega (arith, lt))

pub includes_one : (pages p : ℕ) (xs ys : List ℕ) → ys ≡ xs ++ p ∷ [] → p < pages → Includes pages (λ q. q ≡ p) xs ys
includes_one pages p xs ys e below = record {
  kept = λ q h. subst (λ zs. Contains zs q) (sym e) (Contains-append_left xs (p ∷ []) q h);
  inside = λ h. subst (All (λ q. q < pages)) (sym e) (All-append (λ q. q < pages) xs (p ∷ []) h (one_inside pages p below));
  all = λ q less is. subst (λ zs. Contains zs q) (sym e) (subst (Contains (xs ++ p ∷ [])) (sym is) (Contains-push xs p));
}

-- ---- the eight pages of an extent

-- pages from `first` to before p are there
abbrev pub Between : ℕ → ℕ → ℕ → Type 0
Between first p q = (first ≤ q) × (q < p)

pub between_more : (pages first p : ℕ) (xs ys zs : List ℕ) → Includes pages (Between first p) xs ys → zs ≡ ys ++ p ∷ [] → p < pages → Includes pages (Between first (p + 1)) xs zs
between_more pages first p xs ys zs before e below =
    includes_both pages (Between first p) (λ q. q ≡ p) (Between first (p + 1)) xs ys zs before (includes_one pages p ys zs e below) (λ q less b. split q b)
  where
    split : (q : ℕ) → Between first (p + 1) q → Between first p q ⊎ (q ≡ p)
    split q b = elim (cases_lt q p) [
      | inl lt ↦ inl (b.0, lt)
      | inr le ↦ let high = b.1 in inr (omega (arith, le, high))
    ]

pub extent_between : (pages e first end : ℕ) (xs ys : List ℕ) → first ≡ 8 * e → first ≤ pages → end ≡ first + min (pages - first) 8 → Includes pages (Between first end) xs ys → Includes pages (λ p. p / 8 ≡ e) xs ys
extent_between pages e first end xs ys from some to includes = includes_as pages (Between first end) (λ p. p / 8 ≡ e) xs ys includes (λ p below is. (omega (arith, from, is), omega (arith, from, to, is, below, some)))

pub extent_outside : (pages e p : ℕ) → pages / 8 < e → p < pages → p / 8 ≡ e → ⊥
extent_outside pages e p high below is = omega (arith, high, below, is)

-- ---- a byte of marks

pub byte_none : (byte e p : ℕ) → byte ≡ 0 → IsInByte byte e p → ⊥
byte_none byte e p none is = let no : bit_at byte (p / 8 - e) ≡ 0 = ap (λ b. bit_at b (p / 8 - e)) none ∙ bit_at-zero (p / 8 - e) in let yes = is.2 in omega (arith, no, yes)

-- the extents of the first n bits
abbrev pub IsInBits : ℕ → ℕ → ℕ → ℕ → Type 0
IsInBits byte e n p = IsInByte byte e p × (p / 8 < e + n)

pub bits_all : (pages byte e n : ℕ) (xs ys : List ℕ) → 8 ≤ n → Includes pages (IsInBits byte e n) xs ys → Includes pages (IsInByte byte e) xs ys
bits_all pages byte e n xs ys all includes = includes_as pages (IsInBits byte e n) (IsInByte byte e) xs ys includes (λ p below is. (is, let high = is.1 in omega (arith, all, high)))

split_bits : (byte e n p : ℕ) → IsInBits byte e (n + 1) p → IsInBits byte e n p ⊎ ((p / 8 ≡ e + n) × (bit_at byte n ≡ 1))
split_bits byte e n p is = elim (cases_lt (p / 8) (e + n)) [
  | inl lt ↦ inl (is.0, lt)
  | inr le ↦
      let high = is.1 in
      let same : p / 8 ≡ e + n = omega (arith, le, high) in
      let bit : p / 8 - e ≡ n = omega (arith, same) in
      inr (same, subst (λ i. bit_at byte i ≡ 1) bit is.0.2)
]

pub bit_set : (pages byte e n : ℕ) (xs ys zs : List ℕ) → Includes pages (IsInBits byte e n) xs ys → Includes pages (λ p. p / 8 ≡ e + n) ys zs → Includes pages (IsInBits byte e (n + 1)) xs zs
bit_set pages byte e n xs ys zs before here = includes_both pages (IsInBits byte e n) (λ p. p / 8 ≡ e + n) (IsInBits byte e (n + 1)) xs ys zs before here (λ p below is. elim (split_bits byte e n p is) [
  | inl is ↦ inl is
  | inr here ↦ inr here.0
])

pub bit_clear : (pages byte e n : ℕ) (xs ys : List ℕ) → eqb (bit_at byte n) 1 ≡ false → Includes pages (IsInBits byte e n) xs ys → Includes pages (IsInBits byte e (n + 1)) xs ys
bit_clear pages byte e n xs ys clear before = includes_as pages (IsInBits byte e n) (IsInBits byte e (n + 1)) xs ys before (λ p below is. elim (split_bits byte e n p is) [
  | inl is ↦ is
  | inr here ↦ absurd (false≢true (sym clear ∙ eq-eqb (bit_at byte n) 1 here.1))
])

pub bits_first : (pages byte e : ℕ) (xs : List ℕ) → Includes pages (IsInBits byte e 0) xs xs
bits_first pages byte e xs = includes_none pages (IsInBits byte e 0) xs (λ p below is. let low = is.0.0 in let high = is.1 in omega (arith, low, high))

-- ---- the bytes of marks

pub bytes_first : (pages first : ℕ) (bytes xs : List ℕ) → Includes pages (IsInBytes bytes first 0) xs xs
bytes_first pages first bytes xs = includes_none pages (IsInBytes bytes first 0) xs (λ p below is. let none = is.1 in omega (arith, none))

pub bytes_more : (pages first n byte : ℕ) (bytes xs ys zs : List ℕ) → byte ≡ slice_index bytes (136 + n) → Includes pages (IsInBytes bytes first n) xs ys → Includes pages (IsInByte byte (first + 8 * n)) ys zs
    → Includes pages (IsInBytes bytes first (n + 1)) xs zs
bytes_more pages first n byte bytes xs ys zs is before here = includes_both pages (IsInBytes bytes first n) (IsInByte byte (first + 8 * n)) (IsInBytes bytes first (n + 1)) xs ys zs before here (λ p below all. split p all)
  where
    split : (p : ℕ) → IsInBytes bytes first (n + 1) p → IsInBytes bytes first n p ⊎ IsInByte byte (first + 8 * n) p
    split p (m, lt, at) = elim (cases_lt m n) [
      | inl less ↦ inl (m, less, at)
      | inr le ↦
          let same : m ≡ n = omega (arith, lt, le) in
          inr (subst (λ b. IsInByte b (first + 8 * n) p) (sym is) (subst (λ k. IsInByte (slice_index bytes (136 + k)) (first + 8 * k) p) same at))
    ]

-- ---- an IAM page

pub marked_bytes : (g : Geometry) (p : ℕ) (bytes : List ℕ) → marks g p bytes ≡ true → IsInBytes bytes (iam_interval bytes * interval_size g) (interval_size g / 8) p
marked_bytes Standard p bytes h =
    let parts = and_parts _ _ h in
    let same : iam_interval bytes ≡ p / 511232 = eqb-true _ _ parts.0 in
    let bit = eqb-true _ 1 parts.1 in
    let r = (p / 8) % 63904 in
    let at : p / 8 - (iam_interval bytes * 63904 + 8 * (r / 8)) ≡ r % 8 = omega (arith, same) in
    (r / 8, omega arith, (omega (arith, same), omega (arith, same), subst (λ i. bit_at (slice_index bytes (136 + r / 8)) i ≡ 1) (sym at) bit))
marked_bytes Small p bytes h =
    let parts = and_parts _ _ h in
    let same : iam_interval bytes ≡ p / 512 = eqb-true _ _ parts.0 in
    let bit = eqb-true _ 1 parts.1 in
    let r = (p / 8) % 64 in
    let at : p / 8 - (iam_interval bytes * 64 + 8 * (r / 8)) ≡ r % 8 = omega (arith, same) in
    (r / 8, omega arith, (omega (arith, same), omega (arith, same), subst (λ i. bit_at (slice_index bytes (136 + r / 8)) i ≡ 1) (sym at) bit))

-- none is of the file, where the interval isn't
pub interval_outside : (g : Geometry) (pages p : ℕ) (bytes : List ℕ) → pages / (8 * interval_size g) < iam_interval bytes → p < pages → marks g p bytes ≡ true → ⊥
interval_outside Standard pages p bytes high below h = let same : iam_interval bytes ≡ p / 511232 = eqb-true _ _ (and_parts _ _ h).0 in omega (arith, high, below, same)
interval_outside Small pages p bytes high below h = let same : iam_interval bytes ≡ p / 512 = eqb-true _ _ (and_parts _ _ h).0 in omega (arith, high, below, same)

-- the interval is of the file
pub interval_low : (g : Geometry) (pages interval : ℕ) → pages < 2 ^ 32 → interval ≤ pages / (8 * interval_size g) → interval * interval_size g + 63904 ≤ 2 ^ 32
interval_low Standard pages interval few le = omega (arith, few, le)
interval_low Small pages interval few le = omega (arith, few, le)

-- ---- a chain, and its slots

-- one of the first n of these lists of bytes passes the test
abbrev pub IsInFirst : (List ℕ → ℕ → Bool) → List (List ℕ) → ℕ → ℕ → Type 0
IsInFirst test all n p = (k : ℕ) × (x : List ℕ) × (k < n) × (get_or all k x ≡ x) × (test x p ≡ true)

pub chain_first : (pages : ℕ) (test : List ℕ → ℕ → Bool) (all : List (List ℕ)) (xs : List ℕ) → Includes pages (IsInFirst test all 0) xs xs
chain_first pages test all xs = includes_none pages (IsInFirst test all 0) xs (λ p below is. let none = is.2 in omega (arith, none))

pub chain_more : (pages n : ℕ) (test : List ℕ → ℕ → Bool) (all : List (List ℕ)) (bytes xs ys zs : List ℕ) → ((d : List ℕ) → get_or all n d ≡ bytes) → Includes pages (IsInFirst test all n) xs ys
    → Includes pages (λ p. test bytes p ≡ true) ys zs → Includes pages (IsInFirst test all (n + 1)) xs zs
chain_more pages n test all bytes xs ys zs is before here = includes_both pages (IsInFirst test all n) (λ p. test bytes p ≡ true) (IsInFirst test all (n + 1)) xs ys zs before here (λ p below first. split p first)
  where
    split : (p : ℕ) → IsInFirst test all (n + 1) p → IsInFirst test all n p ⊎ (test bytes p ≡ true)
    split p (k, x, lt, at, passes) = elim (cases_lt k n) [
      | inl less ↦ inl (k, x, less, at, passes)
      | inr le ↦
          let same : k ≡ n = omega (arith, lt, le) in
          let here : x ≡ bytes = sym at ∙ ap (λ i. get_or all i x) same ∙ is x in
          inr (subst (λ b. test b p ≡ true) here passes)
    ]

pub chain_all : (pages n : ℕ) (test : List ℕ → ℕ → Bool) (all : List (List ℕ)) (xs ys : List ℕ) → length all ≤ n → Includes pages (IsInFirst test all n) xs ys
    → Includes pages (λ p. list_any (λ x. test x p) all ≡ true) xs ys
chain_all pages n test all xs ys end includes = includes_as pages (IsInFirst test all n) (λ p. list_any (λ x. test x p) all ≡ true) xs ys includes (λ p below yes.
    let found = Any-from_list_any (λ x. test x p) all yes in
    let low = found.2 in
    (found.0, found.1, omega (arith, low, end), found.3, found.4))

-- page p is in one of the first n slots
abbrev pub IsInSlots : List ℕ → ℕ → ℕ → Type 0
IsInSlots slots n p = (k : ℕ) × (k < n) × (get_or slots k p ≡ p)

pub slots_first : (pages : ℕ) (slots xs : List ℕ) → Includes pages (IsInSlots slots 0) xs xs
slots_first pages slots xs = includes_none pages (IsInSlots slots 0) xs (λ p below is. let none = is.1 in omega (arith, none))

split_slots : (slots : List ℕ) (n q p : ℕ) → ((d : ℕ) → get_or slots n d ≡ q) → IsInSlots slots (n + 1) p → IsInSlots slots n p ⊎ (p ≡ q)
split_slots slots n q p is (k, lt, at) = elim (cases_lt k n) [
  | inl less ↦ inl (k, less, at)
  | inr le ↦ let same : k ≡ n = omega (arith, lt, le) in inr (sym at ∙ ap (λ i. get_or slots i p) same ∙ is p)
]

pub slot_inside : (pages n q : ℕ) (slots xs ys zs : List ℕ) → ((d : ℕ) → get_or slots n d ≡ q) → Includes pages (IsInSlots slots n) xs ys → zs ≡ ys ++ q ∷ [] → q < pages → Includes pages (IsInSlots slots (n + 1)) xs zs
slot_inside pages n q slots xs ys zs is before e below = includes_both pages (IsInSlots slots n) (λ p. p ≡ q) (IsInSlots slots (n + 1)) xs ys zs before (includes_one pages q ys zs e below) (λ p less at. split_slots slots n q p is at)

pub slot_outside : (pages n q : ℕ) (slots xs ys : List ℕ) → ((d : ℕ) → get_or slots n d ≡ q) → Includes pages (IsInSlots slots n) xs ys → pages ≤ q → Includes pages (IsInSlots slots (n + 1)) xs ys
slot_outside pages n q slots xs ys is before high = includes_as pages (IsInSlots slots n) (IsInSlots slots (n + 1)) xs ys before (λ p below at. elim (split_slots slots n q p is at) [
  | inl is ↦ is
  | inr here ↦ absurd (omega (arith, below, high, here))
])

pub slots_all : (pages n : ℕ) (slots xs ys : List ℕ) → length slots ≤ n → Includes pages (IsInSlots slots n) xs ys → Includes pages (λ p. is_in_slot slots p ≡ true) xs ys
slots_all pages n slots xs ys end includes = includes_as pages (IsInSlots slots n) (λ p. is_in_slot slots p ≡ true) xs ys includes (λ p below yes.
    let found = Any-from_list_any (λ q. eqb q p) slots (and_parts (not (eqb p 0)) _ yes).1 in
    let low = found.2 in
    let same = eqb-true found.1 p found.4 in
    (found.0, omega (arith, low, end), subst (λ x. get_or slots found.0 x ≡ x) same found.3))

-- ---- all in order

all_same : (n : ℕ) (xs ys : List ℕ) → ((p : ℕ) → Contains ys p → Contains xs p) → All (λ p. p < n) xs → All (λ p. p < n) ys
all_same n xs ys from all k d lt =
    let x = get_or ys k d in
    let there = from x (k, lt, get_or_default ys k x d lt) in
    subst (λ y. y < n) there.2 (all there.0 x there.1)

pub are_near : (pages : ℕ) (test : ℕ → Bool) (found near : List ℕ) → Includes pages (λ p. test p ≡ true) [] found → IsStrictlyIncreasing near → ((p : ℕ) → Contains near p ↔ Contains found p) → AreNear pages test near
are_near pages test found near includes rise same = record {
  rise = rise;
  inside = all_same pages found near (λ p. (same p).0) (includes.inside (λ k d lt. absurd (omega (arith, lt))));
  all = λ p below yes. (same p).1 (includes.all p below yes);
}

pub rise_in : (lo hi : ℕ) (ts : List ℕ) → IsStrictlyIncreasing ts → All (λ t. t < hi) ts → (0 < length ts → lo ≤ get_or ts 0 0) → RiseIn lo hi ts
rise_in lo hi [] up all low = tt
rise_in lo hi (t ∷ ts) up all low = (
  low (omega arith),
  all 0 0 (omega arith),
  rise_in (t + 1) hi ts (λ k l. let e : suc k + 1 ≡ suc (k + 1) = omega arith in subst (λ n. get_or ts k 0 < get_or (t ∷ ts) n 0) e (up (suc k) (omega (arith, l)))) (λ k d l. all (suc k) d (omega (arith, l))) (λ some. let first : t < get_or (t ∷ ts) (0 + 1) 0 = up 0 (omega (arith, some)) in let e : 0 + 1 ≡ suc 0 = omega arith in let next : t < get_or ts 0 0 = subst (λ n. t < get_or (t ∷ ts) n 0) e first in omega (arith, next)),
)

pub filter_near : (pages : ℕ) (test : ℕ → Bool) (near : List ℕ) → AreNear pages test near → filter test near ≡ filter test (range_with_len 0 pages)
filter_near pages test near are =
    sym (filter_touched test pages 0 pages near (omega arith) (rise_in 0 pages near are.rise are.inside (λ some. omega arith))
    (λ x low below yes. let there = are.all x below yes in list_any_at (λ t. eqb t x) near there.0 x there.1 (eq-eqb _ x there.2)))

-- pages of slots, and pages of marked extents
pub near_of : (pages : ℕ) (g : Geometry) (slots : List ℕ) (iams : List (List ℕ)) (empty single found near : List ℕ) → empty ≡ [] → Includes pages (λ p. is_in_slot slots p ≡ true) empty single
    → Includes pages (λ p. list_any (marks g p) iams ≡ true) single found → slots ≡ first_slots iams → IsStrictlyIncreasing near → ((p : ℕ) → Contains near p ↔ Contains found p) → AreNear pages (has_byte g iams) near
near_of pages g slots iams empty single found near none a b are rise same =
    are_near pages (has_byte g iams) found near
    (subst (λ xs. Includes pages (λ p. has_byte g iams p ≡ true) xs found) none
    (includes_both pages (λ p. is_in_slot slots p ≡ true) (λ p. list_any (marks g p) iams ≡ true) (λ p. has_byte g iams p ≡ true) empty single found a b
    (λ p below yes. or_cases (is_in_slot slots p) (list_any (marks g p) iams) (subst (λ s. (is_in_slot s p || list_any (marks g p) iams) ≡ true) (sym are) yes))))
    rise same

-- ---- what the code reads

pub ok_weaker : {T E : Type 0} (r : Result T E) (P Q : T → Type 0) → ((t : T) → P t → Q t) → IfOk r P → IfOk r Q
ok_weaker (Ok t) P Q f h = f t h
ok_weaker (Err e) P Q f h = h

pub bytes_at : (iams : List (Box Page Global)) (n : ℕ) (x : Box Page Global) → n < length iams → x ≡ get_or iams n x → (d : List ℕ) → get_or (bytes_of iams) n d ≡ x.value.bytes
bytes_at iams n x lt is d =
    let below : n < length (bytes_of iams) = subst (λ m. n < m) (sym (length-map iams (λ (page : Box Page Global). page.value.bytes))) lt in
    get_or_default (bytes_of iams) n d x.value.bytes below ∙ get_or-map (λ (page : Box Page Global). page.value.bytes) iams n x ∙ ap (λ (page : Box Page Global). page.value.bytes) (sym is)

pub number_at : (slots : List PageNo) (n : ℕ) (q : PageNo) → n < length slots → (d : ℕ) → get_or (numbers slots) n d ≡ (get_or slots n q).0
number_at slots n q lt d =
    let below : n < length (numbers slots) = subst (λ m. n < m) (sym (length-map slots (λ (p : PageNo). p.0))) lt in
    get_or_default (numbers slots) n d q.0 below ∙ get_or-map (λ (p : PageNo). p.0) slots n q

pub marked_as : (g : Geometry) (p interval size : ℕ) (bytes : List ℕ) → interval ≡ iam_interval bytes → size ≡ interval_size g → marks g p bytes ≡ true → IsInBytes bytes (interval * size) (size / 8) p
marked_as g p interval size bytes same_interval same_size h =
    subst (λ s. IsInBytes bytes (interval * s) (s / 8) p) (sym same_size)
    (subst (λ i. IsInBytes bytes (i * interval_size g) (interval_size g / 8) p) (sym same_interval) (marked_bytes g p bytes h))
