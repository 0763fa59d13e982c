-- What a statement takes: each once, in the order of grains and rising, none that its transaction holds, and each of
-- those that it took.
use Rattle.std.proofs.Common.{◌≡◌, ◌<◌, Bool, true, false, eqb, ltb, not, ◌||◌, ◌&&◌, List, [], ◌∷◌, ◌⊎◌, inl, inr, refl, sym, ap, ◌∙◌, subst, arith}
use Rattle.std.specs.Prelude.{if◌then◌else◌, filter}
use Rattle.std.specs.List.{list_any}
use Rattle.std.proofs.lemmas.Bool.{cases_Bool, cases_order, cond_both, and_parts, and_from, or_cases, or_parts, or_left, or_right, eqb-true, eq-eqb, ltb-true, lt-ltb, not-true, not_from_false, both_ways}
use Rattle.spec_file.specs.declared.data.Resource.{Resource}
use Rattle.spec_file.specs.declared.data.Resource.TheVariants as resource
use Rattle.spec_file.specs.Image.{Image}
use Rattle.spec_log.specs.Items.{is_same, grain_of, number_of}
use Rattle.spec_words.specs.NetChanges.{FileShape}
use Rattle.spec_words.specs.Takes.{is_among, comes_before, with_resource, in_order, counts, takes_of}
use Rattle.law_net.specs.NetLaw.{IsHeldOrTaken}

-- a resource is the same as another where grain and number are
pub same_resource : (r s : Resource) → is_same r s ≡ true → r ≡ s
same_resource r s h = by_case r s (eqb-true (grain_of r) (grain_of s) a.0) (eqb-true (number_of r) (number_of s) a.1)
  where
    a : (eqb (grain_of r) (grain_of s) ≡ true) × (eqb (number_of r) (number_of s) ≡ true)
    a = and_parts (eqb (grain_of r) (grain_of s)) (eqb (number_of r) (number_of s)) h

    by_case : (r s : Resource) → grain_of r ≡ grain_of s → number_of r ≡ number_of s → r ≡ s
    by_case resource.Catalog resource.Catalog e n = refl
    by_case (resource.Table o) (resource.Table q) e n = ap (λ k. resource.Table (record { 0 = k })) n
    by_case (resource.Extent o) (resource.Extent q) e n = ap (λ k. resource.Extent (record { 0 = k })) n
    by_case (resource.Byte o) (resource.Byte q) e n = ap (λ k. resource.Byte (record { 0 = k })) n
    by_case (resource.Page o) (resource.Page q) e n = ap (λ k. resource.Page (record { 0 = k })) n
    by_case resource.Catalog (resource.Table q) e n = absurd (omega (arith, e))
    by_case resource.Catalog (resource.Extent q) e n = absurd (omega (arith, e))
    by_case resource.Catalog (resource.Byte q) e n = absurd (omega (arith, e))
    by_case resource.Catalog (resource.Page q) e n = absurd (omega (arith, e))
    by_case (resource.Table o) resource.Catalog e n = absurd (omega (arith, e))
    by_case (resource.Table o) (resource.Extent q) e n = absurd (omega (arith, e))
    by_case (resource.Table o) (resource.Byte q) e n = absurd (omega (arith, e))
    by_case (resource.Table o) (resource.Page q) e n = absurd (omega (arith, e))
    by_case (resource.Extent o) resource.Catalog e n = absurd (omega (arith, e))
    by_case (resource.Extent o) (resource.Table q) e n = absurd (omega (arith, e))
    by_case (resource.Extent o) (resource.Byte q) e n = absurd (omega (arith, e))
    by_case (resource.Extent o) (resource.Page q) e n = absurd (omega (arith, e))
    by_case (resource.Byte o) resource.Catalog e n = absurd (omega (arith, e))
    by_case (resource.Byte o) (resource.Table q) e n = absurd (omega (arith, e))
    by_case (resource.Byte o) (resource.Extent q) e n = absurd (omega (arith, e))
    by_case (resource.Byte o) (resource.Page q) e n = absurd (omega (arith, e))
    by_case (resource.Page o) resource.Catalog e n = absurd (omega (arith, e))
    by_case (resource.Page o) (resource.Table q) e n = absurd (omega (arith, e))
    by_case (resource.Page o) (resource.Extent q) e n = absurd (omega (arith, e))
    by_case (resource.Page o) (resource.Byte q) e n = absurd (omega (arith, e))

pub itself : (r : Resource) → is_same r r ≡ true
itself r = and_from (eqb (grain_of r) (grain_of r)) (eqb (number_of r) (number_of r)) (eq-eqb (grain_of r) (grain_of r) refl) (eq-eqb (number_of r) (number_of r) refl)

-- the order of takes
abbrev pub AllOf : (Resource → Type 0) → List Resource → Type 0
AllOf P [] = Unit {0}
AllOf P (r ∷ rs) = P r × AllOf P rs

-- rising, so that each is there once
abbrev pub Rise : List Resource → Type 0
Rise [] = Unit {0}
Rise (r ∷ rs) = AllOf (λ s. comes_before r s ≡ true) rs × Rise rs

pub all_weaker : (P Q : Resource → Type 0) (rs : List Resource) → ((r : Resource) → P r → Q r) → AllOf P rs → AllOf Q rs
all_weaker P Q [] w h = tt
all_weaker P Q (r ∷ rs) w h = (w r h.0, all_weaker P Q rs w h.1)

pub all_filter : (P : Resource → Type 0) (keep : Resource → Bool) (rs : List Resource) → AllOf P rs → AllOf P (filter keep rs)
all_filter P keep [] h = tt
all_filter P keep (r ∷ rs) h =
    cond_both (keep r) (r ∷ filter keep rs) (filter keep rs) (AllOf P) (λ e. (h.0, all_filter P keep rs h.1)) (λ e. all_filter P keep rs h.1)

rising_filter : (keep : Resource → Bool) (rs : List Resource) → Rise rs → Rise (filter keep rs)
rising_filter keep [] h = tt
rising_filter keep (r ∷ rs) h =
    cond_both (keep r) (r ∷ filter keep rs) (filter keep rs) Rise (λ e. (all_filter (λ s. comes_before r s ≡ true) keep rs h.0, rising_filter keep rs h.1)) (λ e. rising_filter keep rs h.1)

filter_keeps : (keep : Resource → Bool) (rs : List Resource) → AllOf (λ r. keep r ≡ true) (filter keep rs)
filter_keeps keep [] = tt
filter_keeps keep (r ∷ rs) = cond_both (keep r) (r ∷ filter keep rs) (filter keep rs) (AllOf (λ r. keep r ≡ true)) (λ e. (e, filter_keeps keep rs)) (λ e. filter_keeps keep rs)

-- the order is one
abbrev pub Before : Resource → Resource → Type 0
Before r s = (grain_of r < grain_of s) ⊎ ((grain_of r ≡ grain_of s) × (number_of r < number_of s))

pub before_from : (r s : Resource) → comes_before r s ≡ true → Before r s
before_from r s h = elim (or_cases (ltb (grain_of r) (grain_of s)) (eqb (grain_of r) (grain_of s) && ltb (number_of r) (number_of s)) h) [
  | inl e ↦ inl (ltb-true (grain_of r) (grain_of s) e)
  | inr e ↦ let p = and_parts (eqb (grain_of r) (grain_of s)) (ltb (number_of r) (number_of s)) e in inr (eqb-true (grain_of r) (grain_of s) p.0, ltb-true (number_of r) (number_of s) p.1)
]

before_to : (r s : Resource) → Before r s → comes_before r s ≡ true
before_to r s (inl lt) = or_left (ltb (grain_of r) (grain_of s)) (eqb (grain_of r) (grain_of s) && ltb (number_of r) (number_of s)) (lt-ltb (grain_of r) (grain_of s) lt)
before_to r s (inr p) =
    or_right (ltb (grain_of r) (grain_of s)) (eqb (grain_of r) (grain_of s) && ltb (number_of r) (number_of s))
    (and_from (eqb (grain_of r) (grain_of s)) (ltb (number_of r) (number_of s)) (eq-eqb (grain_of r) (grain_of s) p.0) (lt-ltb (number_of r) (number_of s) p.1))

before_trans : (r s t : Resource) → comes_before r s ≡ true → comes_before s t ≡ true → comes_before r t ≡ true
before_trans r s t a b = before_to r t (joined (before_from r s a) (before_from s t b))
  where
    joined : Before r s → Before s t → Before r t
    joined (inl x) (inl y) = inl (omega (arith, x, y))
    joined (inl x) (inr y) = let e = y.0 in inl (omega (arith, x, e))
    joined (inr x) (inl y) = let e = x.0 in inl (omega (arith, y, e))
    joined (inr x) (inr y) = let a = x.1 in let b = y.1 in inr (x.0 ∙ y.0, omega (arith, a, b))

-- neither before nor the same: behind
behind : (r s : Resource) → comes_before r s ≡ false → is_same r s ≡ false → comes_before s r ≡ true
behind r s a b =
    let p = or_parts (ltb (grain_of r) (grain_of s)) (eqb (grain_of r) (grain_of s) && ltb (number_of r) (number_of s)) a in
    before_to s r (elim (cases_order (grain_of r) (grain_of s)) [
      | inl e ↦ elim (cases_order (number_of r) (number_of s)) [
        | inl n ↦ absurd (both_ways (is_same r s) b
            (and_from (eqb (grain_of r) (grain_of s)) (eqb (number_of r) (number_of s)) (eq-eqb (grain_of r) (grain_of s) e) (eq-eqb (number_of r) (number_of s) n)))
        | inr (inl lt) ↦ absurd (both_ways (eqb (grain_of r) (grain_of s) && ltb (number_of r) (number_of s)) p.1
            (and_from (eqb (grain_of r) (grain_of s)) (ltb (number_of r) (number_of s)) (eq-eqb (grain_of r) (grain_of s) e) (lt-ltb (number_of r) (number_of s) lt)))
        | inr (inr gt) ↦ inr (sym e, gt)
      ]
      | inr (inl lt) ↦ absurd (both_ways (ltb (grain_of r) (grain_of s)) p.0 (lt-ltb (grain_of r) (grain_of s) lt))
      | inr (inr gt) ↦ inl gt
    ])

all_with : (P : Resource → Type 0) (r : Resource) (rs : List Resource) → P r → AllOf P rs → AllOf P (with_resource r rs)
all_with P r [] h all = (h, tt)
all_with P r (s ∷ rest) h all =
    cond_both (comes_before r s) (r ∷ (s ∷ rest)) (if is_same r s then s ∷ rest else s ∷ with_resource r rest) (AllOf P) (λ e. (h, all))
    (λ e. cond_both (is_same r s) (s ∷ rest) (s ∷ with_resource r rest) (AllOf P) (λ f. all) (λ f. (all.0, all_with P r rest h all.1)))

rising_with : (r : Resource) (rs : List Resource) → Rise rs → Rise (with_resource r rs)
rising_with r [] h = (tt, tt)
rising_with r (s ∷ rest) h =
    cond_both (comes_before r s) (r ∷ (s ∷ rest)) (if is_same r s then s ∷ rest else s ∷ with_resource r rest) Rise
    (λ e. ((e, all_weaker (λ t. comes_before s t ≡ true) (λ t. comes_before r t ≡ true) rest (λ t f. before_trans r s t e f) h.0), h))
    (λ e. cond_both (is_same r s) (s ∷ rest) (s ∷ with_resource r rest) Rise (λ f. h) (λ f. (all_with (λ t. comes_before s t ≡ true) r rest (behind r s e f) h.0, rising_with r rest h.1)))

pub rising_order : (rs : List Resource) → Rise (in_order rs)
rising_order [] = tt
rising_order (r ∷ rs) = rising_with r (in_order rs) (rising_order rs)

all_order : (P : Resource → Type 0) (rs : List Resource) → AllOf P rs → AllOf P (in_order rs)
all_order P [] h = tt
all_order P (r ∷ rs) h = all_with P r (in_order rs) h.0 (all_order P rs h.1)

-- (e) each once, in the order of grains, rising, none that is held, each one that was taken
pub takes_rise : (shape : FileShape) (own : Resource → Bool) (taken : List Resource) (start now : Image) → Rise (takes_of shape own taken start now)
takes_rise shape own taken start now = rising_filter (λ r. not (own r) && counts shape start now r) (in_order taken) (rising_order taken)

pub takes_new : (shape : FileShape) (own : Resource → Bool) (taken : List Resource) (start now : Image) → AllOf (λ r. own r ≡ false) (takes_of shape own taken start now)
takes_new shape own taken start now =
    all_weaker (λ r. (not (own r) && counts shape start now r) ≡ true) (λ r. own r ≡ false) (takes_of shape own taken start now)
    (λ r e. not-true (own r) (and_parts (not (own r)) (counts shape start now r) e).0)
    (filter_keeps (λ r. not (own r) && counts shape start now r) (in_order taken))

pub among_all : (rs : List Resource) → AllOf (λ r. is_among rs r ≡ true) rs
among_all [] = tt
among_all (r ∷ rs) = (
  or_left (is_same r r) (list_any (is_same r) rs) (itself r),
  all_weaker (λ s. is_among rs s ≡ true) (λ s. is_among (r ∷ rs) s ≡ true) rs (λ s h. or_right (is_same s r) (list_any (is_same s) rs) h) (among_all rs),
)

pub takes_taken : (shape : FileShape) (own : Resource → Bool) (taken : List Resource) (start now : Image) → AllOf (λ r. is_among taken r ≡ true) (takes_of shape own taken start now)
takes_taken shape own taken start now =
    all_filter (λ r. is_among taken r ≡ true) (λ r. not (own r) && counts shape start now r) (in_order taken) (all_order (λ r. is_among taken r ≡ true) taken (among_all taken))

among_with : (r s : Resource) (rs : List Resource) → (is_same r s || is_among rs r) ≡ true → is_among (with_resource s rs) r ≡ true
among_with r s [] h = h
among_with r s (t ∷ rest) h =
    cond_both (comes_before s t) (s ∷ (t ∷ rest)) (if is_same s t then t ∷ rest else t ∷ with_resource s rest) (λ xs. is_among xs r ≡ true) (λ e. h)
    (λ e. cond_both (is_same s t) (t ∷ rest) (t ∷ with_resource s rest) (λ xs. is_among xs r ≡ true)
    (λ f. elim (or_cases (is_same r s) (is_among (t ∷ rest) r) h) [
      | inl a ↦ or_left (is_same r t) (list_any (is_same r) rest) (subst (λ q. is_same q t ≡ true) (sym (same_resource r s a)) f)
      | inr a ↦ a
    ])
    (λ f. elim (or_cases (is_same r s) (is_among (t ∷ rest) r) h) [
      | inl a ↦ or_right (is_same r t) (list_any (is_same r) (with_resource s rest)) (among_with r s rest (or_left (is_same r s) (is_among rest r) a))
      | inr a ↦ elim (or_cases (is_same r t) (is_among rest r) a) [
        | inl b ↦ or_left (is_same r t) (list_any (is_same r) (with_resource s rest)) b
        | inr b ↦ or_right (is_same r t) (list_any (is_same r) (with_resource s rest)) (among_with r s rest (or_right (is_same r s) (is_among rest r) b))
      ]
    ]))

pub among_order : (rs : List Resource) (r : Resource) → is_among rs r ≡ true → is_among (in_order rs) r ≡ true
among_order [] r h = h
among_order (s ∷ rs) r h = among_with r s (in_order rs) (elim (or_cases (is_same r s) (is_among rs r) h) [
  | inl a ↦ or_left (is_same r s) (is_among (in_order rs) r) a
  | inr a ↦ or_right (is_same r s) (is_among (in_order rs) r) (among_order rs r a)
])

among_filter : (keep : Resource → Bool) (rs : List Resource) (r : Resource) → is_among rs r ≡ true → keep r ≡ true → is_among (filter keep rs) r ≡ true
among_filter keep [] r h k = h
among_filter keep (s ∷ rs) r h k = elim (or_cases (is_same r s) (is_among rs r) h) [
  | inl a ↦ subst (λ b. is_among (if b then s ∷ filter keep rs else filter keep rs) r ≡ true) (sym (subst (λ q. keep q ≡ true) (same_resource r s a) k))
      (or_left (is_same r s) (list_any (is_same r) (filter keep rs)) a)
  | inr a ↦ cond_both (keep s) (s ∷ filter keep rs) (filter keep rs) (λ xs. is_among xs r ≡ true)
      (λ e. or_right (is_same r s) (list_any (is_same r) (filter keep rs)) (among_filter keep rs r a k)) (λ e. among_filter keep rs r a k)
]

abbrev pub Mine : FileShape → (Resource → Bool) → List Resource → Image → Image → Resource → Type 0
Mine shape own taken start now = IsHeldOrTaken own (takes_of shape own taken start now)

pub mine : (shape : FileShape) (own : Resource → Bool) (taken : List Resource) (start now : Image) (r : Resource) → is_among taken r ≡ true →
    counts shape start now r ≡ true → Mine shape own taken start now r
mine shape own taken start now r among h = elim (cases_Bool (own r)) [
  | inl e ↦ inl e
  | inr e ↦ inr (among_filter (λ s. not (own s) && counts shape start now s) (in_order taken) r (among_order taken r among)
      (and_from (not (own r)) (counts shape start now r) (not_from_false (own r) e) h))
]
