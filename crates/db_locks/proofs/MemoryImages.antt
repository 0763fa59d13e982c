-- What puts leave of the pages of a view in memory.
use Rattle.std.proofs.Common.{◌≡◌, ◌⊎◌, ℕ, ◌<◌, ◌≤◌, ◌==◌, nat_lt, Bool, true, false, List, [], ◌∷◌, length, Contains, refl, zero, suc, subst, sym, ap, ◌∙◌, arith, inl, inr, get_or, get_or-set_same, get_or-set_other, length-set, All}
use Rattle.std.specs.Prelude.{slice_set, slice_index, if◌then◌else◌, filter, not}
use Rattle.std.proofs.lemmas.Bool.{cases_eq, cases_lt, eqb-true, and_parts, and_from}
use Rattle.std.proofs.lemmas.Bool.Decides.{nat_tests}
use Rattle.std.proofs.lemmas.List.{ext_get_or, get_or_past, length-map}
use Rattle.std.proofs.lemmas.List.FromFn.{length-map-range_with_len, get_or-map-range_with_len}
use Rattle.std.proofs.lemmas.List.Elements.{All-set, Contains-append_left, Contains-append_right, Contains-append_cases, Contains-push, Contains-push_cases}
use Rattle.spec_file.specs.declared.data.PageNo.{PageNo}
use Rattle.spec_file.specs.declared.data.Resource.{Resource}
use Rattle.spec_file.specs.declared.geometry.Geometry.{Geometry}
use Rattle.spec_file.specs.Image.{Image, AreBytes, page, page_size}
use Rattle.spec_file.specs.Places.{HasShape}
use Rattle.pg_base.specs.declared.page.Page.{Page}
use Rattle.spec_words.specs.NetChanges.{FileShape}
use Rattle.law_net.specs.Files.{IsImageOf}
use Rattle.db_locks.specs.Guards.{carried}
use Rattle.db_locks.specs.States.{begins_above, are_rising, with_page}
use Rattle.db_locks.specs.MemImages.{shape_of, image_of, DifferWherePut}
use Rattle.db_locks.proofs.PageLaws.{turned, turned_at}

-- a page that is shown as it is seen, once it is put, is seen as it was put
pub carried_whole : (seen after : List ℕ) → length after ≡ length seen → carried seen after seen ≡ after
unfolding carried
carried_whole seen after same =
    ext_get_or 0 (carried seen after seen) after (length-map-range_with_len (turned_at seen after seen) 0 (length seen) ∙ sym same)
    (λ i lt.
    let here : i < length seen = subst (λ n. i < n) (length-map-range_with_len (turned_at seen after seen) 0 (length seen)) lt in
    get_or-map-range_with_len (turned_at seen after seen) 0 (length seen) i i 0 here (omega arith) ∙ turned (slice_index seen i) (slice_index after i))

-- page p of an image with one page put
put_cases : (P : List ℕ → Type 0) (image : Image) (p q : ℕ) (bytes : List ℕ) → (p < length image → P bytes) → P (page image q) → P (page (slice_set image p bytes) q)
put_cases P image p q bytes new old = elim (cases_eq q p) [
  | inl e ↦ elim (cases_lt p (length image)) [
    | inl lt ↦ subst P (sym (ap (λ k. get_or (slice_set image p bytes) k []) e ∙ get_or-set_same image p bytes [] lt)) (new lt)
    | inr ge ↦
        let past = subst (λ k. length image ≤ k) (sym e) ge in
        subst P (get_or_past image q [] past ∙ sym (get_or_past (slice_set image p bytes) q [] (subst (λ n. n ≤ q) (sym (length-set image p bytes)) past))) old
  ]
  | inr ne ↦ subst P (sym (get_or-set_other image p q bytes [] ne)) old
]

pub image_put : (shape : FileShape) (image : Image) (p : ℕ) (bytes : List ℕ) → length bytes ≡ page_size → AreBytes bytes → IsImageOf shape image → IsImageOf shape (slice_set image p bytes)
image_put shape image p bytes long low is = record {
  file = is.file;
  pages = length-set image p bytes ∙ is.pages;
  whole = All-set (λ page. length page ≡ page_size) image p bytes long is.whole;
  bytes = λ q. put_cases AreBytes image p q bytes (λ lt. low) (is.bytes q);
}

pub none_passed_over : (rs : List Resource) → filter (λ r. not false) rs ≡ rs
none_passed_over [] = refl
none_passed_over (r ∷ rs) = ap (λ l. r ∷ l) (none_passed_over rs)

-- ---- the pages that were put

pub Contains-head : {X : Type 0} (x : X) (xs : List X) → Contains (x ∷ xs) x
Contains-head x xs = Contains-append_left (x ∷ []) xs x (Contains-push [] x)

pub Contains-tail : {X : Type 0} (x : X) (xs : List X) (y : X) → Contains xs y → Contains (x ∷ xs) y
Contains-tail x xs y h = Contains-append_right (x ∷ []) xs y h

pub Contains-cons_cases : {X : Type 0} (x : X) (xs : List X) (y : X) → Contains (x ∷ xs) y → (x ≡ y) ⊎ Contains xs y
Contains-cons_cases x xs y h = elim (Contains-append_cases (x ∷ []) xs y h) [
  | inl a ↦ elim (Contains-push_cases [] x y a) [ inl n ↦ absurd (omega (arith, n.1)) | inr e ↦ inl e ]
  | inr b ↦ inr b
]

same_page : (p q : PageNo) → p.0 ≡ q.0 → p ≡ q
same_page p q e = ap (λ (k : ℕ). record { 0 = k }) e

-- p is there, and with it all that was there, and nothing else
put_at : (p q : PageNo) (xs rest : List PageNo) (b c : Bool) → (b ≡ true → p ≡ q) → Contains rest p → Contains (if b then q ∷ xs else (if c then p ∷ (q ∷ xs) else q ∷ rest)) p
put_at p q xs rest true c same h = subst (λ (y : PageNo). Contains (q ∷ xs) y) (sym (same refl)) (Contains-head q xs)
put_at p q xs rest false true same h = Contains-head p (q ∷ xs)
put_at p q xs rest false false same h = Contains-tail q rest p h

pub with_page-same : (p : PageNo) (xs : List PageNo) → Contains (with_page p xs) p
with_page-same p [] = Contains-head p []
with_page-same p (q ∷ xs) = put_at p q xs (with_page p xs) (p.0 == q.0) (nat_lt p.0 q.0) (λ e. same_page p q (eqb-true p.0 q.0 e)) (with_page-same p xs)

cases_at : (p q y : PageNo) (xs rest : List PageNo) (b c : Bool) → (Contains rest y → (p ≡ y) ⊎ Contains xs y)
    → Contains (if b then q ∷ xs else (if c then p ∷ (q ∷ xs) else q ∷ rest)) y → (p ≡ y) ⊎ Contains (q ∷ xs) y
cases_at p q y xs rest true c f h = inr h
cases_at p q y xs rest false true f h = Contains-cons_cases p (q ∷ xs) y h
cases_at p q y xs rest false false f h = elim (Contains-cons_cases q rest y h) [
  | inl e ↦ inr (subst (λ (z : PageNo). Contains (q ∷ xs) z) e (Contains-head q xs))
  | inr r ↦ elim (f r) [ inl e ↦ inl e | inr s ↦ inr (Contains-tail q xs y s) ]
]

pub with_page-cases : (p : PageNo) (xs : List PageNo) (y : PageNo) → Contains (with_page p xs) y → (p ≡ y) ⊎ Contains xs y
with_page-cases p [] y h = Contains-cons_cases p [] y h
with_page-cases p (q ∷ xs) y h = cases_at p q y xs (with_page p xs) (p.0 == q.0) (nat_lt p.0 q.0) (with_page-cases p xs y) h

old_at : (p q y : PageNo) (xs rest : List PageNo) (b c : Bool) → (Contains xs y → Contains rest y) → Contains (q ∷ xs) y
    → Contains (if b then q ∷ xs else (if c then p ∷ (q ∷ xs) else q ∷ rest)) y
old_at p q y xs rest true c f h = h
old_at p q y xs rest false true f h = Contains-tail p (q ∷ xs) y h
old_at p q y xs rest false false f h = elim (Contains-cons_cases q xs y h) [
  | inl e ↦ subst (λ (z : PageNo). Contains (q ∷ rest) z) e (Contains-head q rest)
  | inr r ↦ Contains-tail q rest y (f r)
]

pub with_page-old : (p : PageNo) (xs : List PageNo) (y : PageNo) → Contains xs y → Contains (with_page p xs) y
with_page-old p [] y h = Contains-tail p [] y h
with_page-old p (q ∷ xs) y h = old_at p q y xs (with_page p xs) (p.0 == q.0) (nat_lt p.0 q.0) (with_page-old p xs y) h

-- one page more keeps them rising
above_at : (n : ℕ) (p x : PageNo) (xs rest : List PageNo) (b c : Bool) → nat_lt n x.0 ≡ true → nat_lt n p.0 ≡ true
    → begins_above n (if b then x ∷ xs else (if c then p ∷ (x ∷ xs) else x ∷ rest)) ≡ true
above_at n p x xs rest true c old new = old
above_at n p x xs rest false true old new = new
above_at n p x xs rest false false old new = old

above_put : (n : ℕ) (p : PageNo) (xs : List PageNo) → begins_above n xs ≡ true → nat_lt n p.0 ≡ true → begins_above n (with_page p xs) ≡ true
above_put n p [] old new = new
above_put n p (x ∷ xs) old new = above_at n p x xs (with_page p xs) (p.0 == x.0) (nat_lt p.0 x.0) old new

rise_at : (p q : PageNo) (xs rest : List PageNo) (b c : Bool) → (p.0 == q.0) ≡ b → nat_lt p.0 q.0 ≡ c → are_rising (q ∷ xs) ≡ true
    → (nat_lt q.0 p.0 ≡ true → begins_above q.0 rest ≡ true) → are_rising rest ≡ true → are_rising (if b then q ∷ xs else (if c then p ∷ (q ∷ xs) else q ∷ rest)) ≡ true
rise_at p q xs rest true c e f h above r = h
rise_at p q xs rest false true e f h above r = and_from (nat_lt p.0 q.0) (are_rising (q ∷ xs)) f h
rise_at p q xs rest false false e f h above r = and_from (begins_above q.0 rest) (are_rising rest) (above (grind (arith, nat_tests, e, f))) r

pub rise_put : (p : PageNo) (xs : List PageNo) → are_rising xs ≡ true → are_rising (with_page p xs) ≡ true
rise_put p [] h = refl
rise_put p (q ∷ xs) h =
    let parts = and_parts (begins_above q.0 xs) (are_rising xs) h in
    rise_at p q xs (with_page p xs) (p.0 == q.0) (nat_lt p.0 q.0) refl refl h (λ more. above_put q.0 p xs parts.0 more) (rise_put p xs parts.1)

-- one page more was put
pub differ_put : (put : List PageNo) (first now : Image) (p : PageNo) (bytes : List ℕ) → p.0 < length now → DifferWherePut put first now
    → DifferWherePut (with_page p put) first (slice_set now p.0 bytes)
differ_put put first now p bytes lt h = record {
  inside = λ q c. let l : length (slice_set now p.0 bytes) ≡ length now = length-set now p.0 bytes in elim (with_page-cases p put q c) [
    | inl e ↦ let e' = ap (λ (k : PageNo). k.0) e in omega (arith, l, e', lt)
    | inr d ↦ let m = h.inside q d in omega (arith, l, m)
  ];
  others = λ q none. elim (cases_eq q.0 p.0) [
    | inl e ↦ absurd (none (subst (λ (z : PageNo). Contains (with_page p put) z) (sym (same_page q p e)) (with_page-same p put)))
    | inr ne ↦ h.others q (λ c. none (with_page-old p put q c)) ∙ sym (get_or-set_other now p.0 q.0 bytes [] ne)
  ];
}

-- the number of pages stays
pub image_of_more : (shape : FileShape) (image : Image) (pages : ℕ) → pages ≡ shape.pages → IsImageOf shape image → IsImageOf (record { geometry = shape.geometry; version = shape.version; pages = pages }) image
image_of_more shape image pages same is = subst (λ n. IsImageOf (record { geometry = shape.geometry; version = shape.version; pages = n }) image) (sym same) is

-- ---- the pages at the beginning

abbrev pub IsWholePage : Page → Type 0
IsWholePage p = (length p.bytes ≡ page_size) × AreBytes p.bytes

rest_whole : (p : Page) (pages : List Page) → All IsWholePage (p ∷ pages) → All IsWholePage pages
rest_whole p pages whole k d lt = whole (suc k) d (omega (arith, lt))

images_whole : (pages : List Page) → All IsWholePage pages → All (λ (bytes : List ℕ). length bytes ≡ page_size) (image_of pages)
images_whole [] whole k d lt = absurd (omega (arith, lt))
images_whole (p ∷ pages) whole zero d lt = (whole 0 p (omega arith)).0
images_whole (p ∷ pages) whole (suc k) d lt = images_whole pages (rest_whole p pages whole) k d (omega (arith, lt))

no_bytes : AreBytes []
no_bytes i = subst (λ x. x < 256) (sym (get_or_past [] i 0 (omega arith))) (omega arith)

images_low : (pages : List Page) (p : ℕ) → All IsWholePage pages → AreBytes (page (image_of pages) p)
images_low [] p whole = subst AreBytes (sym (get_or_past [] p [] (omega arith))) no_bytes
images_low (q ∷ pages) zero whole = (whole 0 q (omega arith)).1
images_low (q ∷ pages) (suc p) whole = images_low pages p (rest_whole q pages whole)

pub image_begins : (geometry : Geometry) (version : ℕ) (pages : List Page) → HasShape geometry (length pages) → All IsWholePage pages → IsImageOf (shape_of geometry version pages) (image_of pages)
image_begins geometry version pages file whole = record {
  file = file;
  pages = length-map pages (λ (p : Page). p.bytes);
  whole = images_whole pages whole;
  bytes = λ p. images_low pages p whole;
}

pub none_put : (image : Image) → DifferWherePut [] image image
none_put image = record { inside = λ p none. absurd (omega (arith, none.1)); others = λ p none. refl }
