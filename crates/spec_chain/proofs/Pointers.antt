-- What a pointer says with which a chain goes on or ends.
use Rattle.std.specs.Prelude.{◌≡◌, ◌≢◌, ℕ, ◌<◌, ◌==◌, ◌&&◌, Bool, true, false, not, nat_lt, if◌then◌else◌, unwrap_or, Option, Some, None, length}
use Rattle.std.proofs.Common.{refl, ◌∙◌, sym, subst, inl, inr}
use Rattle.std.proofs.lemmas.Bool.{and_parts, ltb-true, eqb-true, cases_Bool}
use Rattle.spec_file.specs.declared.geometry.Geometry.{Geometry}
use Rattle.spec_file.specs.Image.{Image, page}
use Rattle.spec_file.specs.Header.{says}
use Rattle.spec_file.specs.Places.{is_inside}
use Rattle.spec_file.specs.Roles.{is_ordinary}
use Rattle.spec_file.specs.CatalogRows.{CatalogRow}
use Rattle.spec_file.specs.Iam.{iam_interval, has_interval}
use Rattle.spec_chain.specs.declared.end.ChainEnd.{ChainEnd}
use Rattle.spec_chain.specs.declared.end.ChainEnd.TheVariants as end
use Rattle.spec_chain.specs.Chains.{object_of, pointer, or_else, is_last, fault_of_number, fault_of_bytes, first_fault, end_at, GoesOn}

-- a number without a fault is that of an ordinary page of the file
number_parts : (inside last ordinary : Bool)
    → (if not inside then Some (if last then end.Whole else end.Outside) else (if not ordinary then Some end.NotIam else None)) ≡ None
    → (inside ≡ true) × (ordinary ≡ true)
number_parts true last true h = (refl, refl)
number_parts true last false h = cc
number_parts false true ordinary h = cc
number_parts false false ordinary h = cc

number_good : (g : Geometry) (pages n q : ℕ) → fault_of_number g pages n q ≡ None → (is_inside pages q ≡ true) × (is_ordinary g q ≡ true)
number_good g pages n q h = number_parts (is_inside pages q) (is_last n q) (is_ordinary g q) h

pub inside_below : (pages q : ℕ) → is_inside pages q ≡ true → q < pages
inside_below pages q h = ltb-true q pages (and_parts (not (q == 0)) (nat_lt q pages) h).1

not_zero : (zero_ inside : Bool) → (not zero_ && inside) ≡ true → zero_ ≡ false
not_zero false inside h = refl
not_zero true inside h = cc

pub inside_nonzero : (pages q : ℕ) → is_inside pages q ≡ true → q ≢ 0
inside_nonzero pages q h here =
    let is = not_zero (q == 0) (nat_lt q pages) h in
    let other : (0 == 0) ≡ false = subst (λ k. (k == 0) ≡ false) here is in
    cc

pub goes_inside : (g : Geometry) (pages n q : ℕ) → fault_of_number g pages n q ≡ None → q < pages
goes_inside g pages n q h = inside_below pages q (number_good g pages n q h).0

pub goes_nonzero : (g : Geometry) (pages n q : ℕ) → fault_of_number g pages n q ≡ None → q ≢ 0
goes_nonzero g pages n q h = inside_nonzero pages q (number_good g pages n q h).0

parts_of : (a b : Option ChainEnd) → or_else a b ≡ None → (a ≡ None) × (b ≡ None)
parts_of (Some x) b h = cc
parts_of None b h = (refl, h)

-- a pointer with which the chain goes on
pub record IsGood (g : Geometry) (image : Image) (row : CatalogRow) (q : ℕ) : Type 0 where
  pub inside : is_inside (length image) q ≡ true
  pub ordinary : is_ordinary g q ≡ true
  pub bytes : fault_of_bytes g (length image) row.id q (page image q) ≡ None

pub goes_good : (g : Geometry) (image : Image) (row : CatalogRow) (k : ℕ) → GoesOn g image row k → IsGood g image row (pointer image row k)
goes_good g image row k on =
    let q = pointer image row k in
    let parts = parts_of (fault_of_number g (length image) k q) (fault_of_bytes g (length image) row.id q (page image q)) on.0 in
    let number = number_good g (length image) k q parts.0 in
    record { inside = number.0; ordinary = number.1; bytes = parts.1 }

pub good_fault : (g : Geometry) (image : Image) (row : CatalogRow) (k : ℕ) → IsGood g image row (pointer image row k) → first_fault g image row k ≡ None
good_fault g image row k good = rw (good.inside, good.ordinary, good.bytes) refl

-- the end of a whole chain is a pointer 0 behind a page
bytes_end : (says own of_file : Bool)
    → unwrap_or (if not says then Some end.NotIam else (if not own then Some end.OtherObject else (if not of_file then Some end.WrongInterval else None))) end.Met ≡ end.Whole → ⊥
bytes_end true true true h = cc
bytes_end true true false h = cc
bytes_end true false of_file h = cc
bytes_end false own of_file h = cc

whole_end : (inside last ordinary : Bool) (bytes : Option ChainEnd) → (unwrap_or bytes end.Met ≡ end.Whole → ⊥)
    → unwrap_or (or_else (if not inside then Some (if last then end.Whole else end.Outside) else (if not ordinary then Some end.NotIam else None)) bytes) end.Met ≡ end.Whole
    → last ≡ true
whole_end false true ordinary bytes other h = refl
whole_end false false ordinary bytes other h = cc
whole_end true last false bytes other h = cc
whole_end true last true bytes other h = absurd (other h)

pub whole_last : (g : Geometry) (image : Image) (row : CatalogRow) (k : ℕ) → end_at g image row k ≡ end.Whole → is_last k (pointer image row k) ≡ true
whole_last g image row k h =
    let q = pointer image row k in
    let bytes = page image q in
    whole_end (is_inside (length image) q) (is_last k q) (is_ordinary g q) (fault_of_bytes g (length image) row.id q bytes)
    (bytes_end (says 10 q bytes) (object_of bytes == row.id) (has_interval g (length image) (iam_interval bytes))) h

pub last_parts : (k q : ℕ) → is_last k q ≡ true → (q ≡ 0) × (k ≢ 0)
last_parts k q h =
    let parts = and_parts (q == 0) (not (k == 0)) h in
    (eqb-true q 0 parts.0, λ none. let no : not (0 == 0) ≡ true = subst (λ n. not (n == 0) ≡ true) none parts.1 in cc)

last_outside : (pages k q : ℕ) → is_last k q ≡ true → is_inside pages q ≡ false
last_outside pages k q h = elim (cases_Bool (is_inside pages q)) [
  | inl inside ↦ absurd (inside_nonzero pages q inside (last_parts k q h).0)
  | inr outside ↦ outside
]

pub last_whole : (g : Geometry) (image : Image) (row : CatalogRow) (k : ℕ) → is_last k (pointer image row k) ≡ true
    → (end_at g image row k ≡ end.Whole) × (GoesOn g image row k → ⊥)
last_whole g image row k last =
    let q = pointer image row k in
    let outside = last_outside (length image) k q last in
    let fault : first_fault g image row k ≡ Some end.Whole = rw (outside, last) refl in
    (rw fault refl, λ on. let both : None ≡ Some end.Whole = sym on.0 ∙ fault in cc)
