-- A cut of what differs: changes that have what was and what is, in cells that are apart and have each difference.
-- Applied in order they make the one image from the other, and each finds its bytes.
use Rattle.std.proofs.Common.{◌≡◌, ℕ, zero, suc, ◌+◌, ◌<◌, ◌≤◌, ext_get_or, Bool, true, false, eqb, ltb, leb, ◌&&◌, List, [], ◌∷◌, ◌++◌, length, ◌⊎◌, inl, inr, refl, sym, ap, ◌∙◌, subst, arith}
use Rattle.std.specs.Prelude.{if◌then◌else◌, slice_index, flat_map, filter}
use Rattle.std.specs.List.{range_with_len}
use Rattle.std.proofs.lemmas.Bool.{false≢true, cases_Bool, and_parts, eqb-true}
use Rattle.std.proofs.lemmas.Nat.Bits.{same_from_bits}
use Rattle.spec_file.specs.declared.data.Resource.TheVariants as resource
use Rattle.spec_file.specs.Image.{Image, page}
use Rattle.spec_log.specs.declared.item.Cell.{Cell}
use Rattle.spec_log.specs.declared.item.Cell.TheVariants.{Bytes, Bit}
use Rattle.spec_log.specs.Items.{has_cell_form}
use Rattle.spec_log.specs.Cells.{read_cell, put}
use Rattle.law_undo.proofs.Atoms.{Atom, read, has_atom, bit_in}
use Rattle.law_undo.proofs.Reading.{IsInside, SameShape, MayPut, shape_put, shape_trans, shape_refl, read_put, inside_shape}
use Rattle.law_undo.proofs.CellAtoms.{cell_atom, same_cell}
use Rattle.law_undo.proofs.Shapes.{shape_sym}
use Rattle.spec_plan.specs.declared.plan.Planned.{Planned}
use Rattle.law_net.specs.Plans.{Find}
use Rattle.law_net.specs.NetLaw.{made}

-- one bit of one byte
abbrev pub place : ℕ → ℕ → ℕ → Atom
place p i j = record { page = p; byte = i; bit = j; guard = resource.Catalog }

-- some places
abbrev pub Zone : Type 1
Zone = ℕ → ℕ → ℕ → Type 0

abbrev pub Each : (Planned → Type 0) → List Planned → Type 0
Each P [] = Unit {0}
Each P (c ∷ cs) = P c × Each P cs

abbrev pub has : Planned → ℕ → ℕ → ℕ → Bool
has c p i j = has_atom c.cell (length c.after) (place p i j)

-- some change has the place
abbrev pub SomeHas : List Planned → ℕ → ℕ → ℕ → Type 0
SomeHas [] p i j = ⊥
SomeHas (c ∷ cs) p i j = (has c p i j ≡ true) ⊎ SomeHas cs p i j

abbrev pub AreApart : List Planned → Type 0
AreApart [] = Unit {0}
AreApart (c ∷ cs) = ((p i j : ℕ) → has c p i j ≡ true → SomeHas cs p i j → ⊥) × AreApart cs

-- a change has what was and what is
pub record IsNet (start now : Image) (c : Planned) : Type 0 where
  pub form : has_cell_form c.cell c.before c.after ≡ true
  pub was : read_cell start c.cell (length c.before) ≡ c.before
  pub is : read_cell now c.cell (length c.after) ≡ c.after

abbrev pub IsWithin : Zone → Planned → Type 0
IsWithin Z c = (p i j : ℕ) → has c p i j ≡ true → Z p i j

-- a cut of what differs in a zone
pub record IsCut (start now : Image) (Z : Zone) (cs : List Planned) : Type 0 where
  pub nets : Each (IsNet start now) cs
  pub within : (p i j : ℕ) → SomeHas cs p i j → Z p i j
  pub covers : (p i j : ℕ) → Z p i j → IsInside (place p i j) start → (read start (place p i j) ≡ read now (place p i j)) ⊎ SomeHas cs p i j
  pub apart : AreApart cs

-- the form of a cell
pub form_lengths : (cell : Cell) (before after : List ℕ) → has_cell_form cell before after ≡ true → length before ≡ length after
form_lengths (Bytes page off) before after h =
    eqb-true (length before) (length after) (and_parts (ltb 0 (length after) && leb (off + length after) 8192) (eqb (length before) (length after)) h).1
form_lengths (Bit page n) before after h =
    let a = (and_parts (ltb n 63904 && eqb (length before) 1 && eqb (length after) 1) (eqb (slice_index before 0 + slice_index after 0) 1) h).0 in
    let b = and_parts (ltb n 63904 && eqb (length before) 1) (eqb (length after) 1) a in
    eqb-true (length before) 1 (and_parts (ltb n 63904) (eqb (length before) 1) b.0).1 ∙ sym (eqb-true (length after) 1 b.1)

pub form_put : (cell : Cell) (before after : List ℕ) → has_cell_form cell before after ≡ true → MayPut cell after
form_put (Bytes page off) before after h = tt
form_put (Bit page n) before after h =
    let s = eqb-true (slice_index before 0 + slice_index after 0) 1
    (and_parts (ltb n 63904 && eqb (length before) 1 && eqb (length after) 1) (eqb (slice_index before 0 + slice_index after 0) 1) h).1 in
    omega (arith, s)

-- what is after a change
after_one : (start now image : Image) (c : Planned) (p i j : ℕ) → IsNet start now c → IsInside (place p i j) image →
    read (put image c.cell c.after) (place p i j) ≡ (if has c p i j then read now (place p i j) else read image (place p i j))
after_one start now image c p i j net inside =
    read_put image c.cell c.after (place p i j) (form_put c.cell c.before c.after net.form) inside
    ∙ by_test (has c p i j) refl
  where
    by_test : (b : Bool) → has c p i j ≡ b → (if b then bit_in c.cell c.after (place p i j) else read image (place p i j)) ≡ (if b then read now (place p i j) else read image (place p i j))
    by_test true e = sym (cell_atom now c.cell c.after (length c.after) (place p i j) refl net.is e)
    by_test false e = refl

-- two images with the same at each place are one
pub same_image : (x y : Image) → SameShape x y → ((p i j : ℕ) → IsInside (place p i j) x → read x (place p i j) ≡ read y (place p i j)) → x ≡ y
same_image x y shape same =
    ext_get_or [] x y (sym shape.pages) (λ p lt.
    ext_get_or 0 (page x p) (page y p) (sym (shape.bytes p)) (λ i less.
    same_from_bits (slice_index (page x p) i) (slice_index (page y p) i) (λ j. same p i j (record { page_in = lt; byte_in = less }))))

-- the changes make what is
made_reads : (start now image : Image) (cs : List Planned) (p i j : ℕ) → Each (IsNet start now) cs → IsInside (place p i j) image →
    (read image (place p i j) ≡ read now (place p i j)) ⊎ SomeHas cs p i j → read (made image cs) (place p i j) ≡ read now (place p i j)
made_reads start now image [] p i j nets inside (inl e) = e
made_reads start now image [] p i j nets inside (inr h) = absurd h
made_reads start now image (c ∷ cs) p i j nets inside known =
    let next = put image c.cell c.after in
    let after = after_one start now image c p i j nets.0 inside in
    made_reads start now next cs p i j nets.1 (inside_shape (place p i j) image next (shape_put image c.cell c.after) inside)
    (elim (cases_Bool (has c p i j)) [
      | inl e ↦ inl (after ∙ ap (λ b. if b then read now (place p i j) else read image (place p i j)) e)
      | inr e ↦ elim known [
        | inl same ↦ inl (after ∙ ap (λ b. if b then read now (place p i j) else read image (place p i j)) e ∙ same)
        | inr (inl here) ↦ absurd (false≢true (sym e ∙ here))
        | inr (inr there) ↦ inr there
      ]
    ])

made_shape : (image : Image) (cs : List Planned) → SameShape image (made image cs)
made_shape image [] = shape_refl image
made_shape image (c ∷ cs) =
    shape_trans image (put image c.cell c.after) (made (put image c.cell c.after) cs) (shape_put image c.cell c.after) (made_shape (put image c.cell c.after) cs)

pub made_is : (start now : Image) (Z : Zone) (cs : List Planned) → SameShape start now → IsCut start now Z cs →
    ((p i j : ℕ) → IsInside (place p i j) start → (read start (place p i j) ≡ read now (place p i j)) ⊎ Z p i j) → made start cs ≡ now
made_is start now Z cs shape cut all =
    same_image (made start cs) now (shape_trans (made start cs) start now (shape_sym start (made start cs) (made_shape start cs)) shape) (λ p i j inside.
    let here : IsInside (place p i j) start = inside_shape (place p i j) (made start cs) start (shape_sym start (made start cs) (made_shape start cs)) inside in
    made_reads start now start cs p i j cut.nets here (elim (all p i j here) [
      | inl e ↦ inl e
      | inr z ↦ cut.covers p i j z here
    ]))

-- each finds its bytes
finds_in : (start now image : Image) (cs : List Planned) → SameShape image start → Each (IsNet start now) cs → AreApart cs →
    ((p i j : ℕ) → IsInside (place p i j) image → SomeHas cs p i j → read image (place p i j) ≡ read start (place p i j)) → Find image cs
finds_in start now image [] shape nets apart same = tt
finds_in start now image (c ∷ cs) shape nets apart same = (
  same_cell image start c.cell (length c.before) (λ p i j. resource.Catalog) shape
      (λ p i j inside h. same p i j inside (inl (subst (λ n. has_atom c.cell n (place p i j) ≡ true) (form_lengths c.cell c.before c.after nets.0.form) h)))
      ∙ nets.0.was,
  finds_in start now (put image c.cell c.after) cs
      (shape_trans (put image c.cell c.after) image start (shape_sym image (put image c.cell c.after) (shape_put image c.cell c.after)) shape) nets.1 apart.1
      (λ p i j inside later.
      let here : IsInside (place p i j) image =
      inside_shape (place p i j) (put image c.cell c.after) image (shape_sym image (put image c.cell c.after) (shape_put image c.cell c.after)) inside in
      after_one start now image c p i j nets.0 here
      ∙ elim (cases_Bool (has c p i j)) [
        | inl e ↦ absurd (apart.0 p i j e later)
        | inr e ↦ ap (λ b. if b then read now (place p i j) else read image (place p i j)) e ∙ same p i j here (inr later)
      ]),
)

pub cut_finds : (start now : Image) (Z : Zone) (cs : List Planned) → IsCut start now Z cs → Find start cs
cut_finds start now Z cs cut = finds_in start now start cs (shape_refl start) cut.nets cut.apart (λ p i j inside h. refl)

-- cuts put together
pub each_append : (P : Planned → Type 0) (xs ys : List Planned) → Each P xs → Each P ys → Each P (xs ++ ys)
each_append P [] ys a b = b
each_append P (x ∷ xs) ys a b = (a.0, each_append P xs ys a.1 b)

some_left : (xs ys : List Planned) (p i j : ℕ) → SomeHas xs p i j → SomeHas (xs ++ ys) p i j
some_left [] ys p i j h = absurd h
some_left (x ∷ xs) ys p i j (inl h) = inl h
some_left (x ∷ xs) ys p i j (inr h) = inr (some_left xs ys p i j h)

some_right : (xs ys : List Planned) (p i j : ℕ) → SomeHas ys p i j → SomeHas (xs ++ ys) p i j
some_right [] ys p i j h = h
some_right (x ∷ xs) ys p i j h = inr (some_right xs ys p i j h)

some_cases : (xs ys : List Planned) (p i j : ℕ) → SomeHas (xs ++ ys) p i j → SomeHas xs p i j ⊎ SomeHas ys p i j
some_cases [] ys p i j h = inr h
some_cases (x ∷ xs) ys p i j (inl h) = inl (inl h)
some_cases (x ∷ xs) ys p i j (inr h) = elim (some_cases xs ys p i j h) [ inl a ↦ inl (inr a) | inr b ↦ inr b ]

apart_append : (xs ys : List Planned) → AreApart xs → AreApart ys → ((p i j : ℕ) → SomeHas xs p i j → SomeHas ys p i j → ⊥) → AreApart (xs ++ ys)
apart_append [] ys a b n = b
apart_append (x ∷ xs) ys a b n = (
  (λ p i j h later. elim (some_cases xs ys p i j later) [ inl l ↦ a.0 p i j h l | inr r ↦ n p i j (inl h) r ]),
  apart_append xs ys a.1 b (λ p i j l r. n p i j (inr l) r),
)

abbrev pub Or : Zone → Zone → Zone
Or X Y p i j = X p i j ⊎ Y p i j

pub cut_none : (start now : Image) (Z : Zone) → ((p i j : ℕ) → Z p i j → IsInside (place p i j) start → read start (place p i j) ≡ read now (place p i j)) → IsCut start now Z []
cut_none start now Z same = record { nets = tt; within = λ p i j h. absurd h; covers = λ p i j z inside. inl (same p i j z inside); apart = tt }

pub cut_one : (start now : Image) (Z : Zone) (c : Planned) → IsNet start now c → IsWithin Z c →
    ((p i j : ℕ) → Z p i j → IsInside (place p i j) start → (read start (place p i j) ≡ read now (place p i j)) ⊎ (has c p i j ≡ true)) → IsCut start now Z (c ∷ [])
cut_one start now Z c net within covers = record {
  nets = (net, tt);
  within = λ p i j h. elim h [ inl a ↦ within p i j a | inr b ↦ absurd b ];
  covers = λ p i j z inside. elim (covers p i j z inside) [ inl a ↦ inl a | inr b ↦ inr (inl b) ];
  apart = ((λ p i j h later. later), tt);
}

pub cut_both : (start now : Image) (X Y : Zone) (xs ys : List Planned) → IsCut start now X xs → IsCut start now Y ys → ((p i j : ℕ) → X p i j → Y p i j → ⊥) →
    IsCut start now (Or X Y) (xs ++ ys)
cut_both start now X Y xs ys a b n = record {
  nets = each_append (IsNet start now) xs ys a.nets b.nets;
  within = λ p i j h. elim (some_cases xs ys p i j h) [ inl l ↦ inl (a.within p i j l) | inr r ↦ inr (b.within p i j r) ];
  covers = λ p i j z inside. elim z [
    | inl x ↦ elim (a.covers p i j x inside) [ inl e ↦ inl e | inr s ↦ inr (some_left xs ys p i j s) ]
    | inr y ↦ elim (b.covers p i j y inside) [ inl e ↦ inl e | inr s ↦ inr (some_right xs ys p i j s) ]
  ];
  apart = apart_append xs ys a.apart b.apart (λ p i j l r. n p i j (a.within p i j l) (b.within p i j r));
}

-- the same cut of a zone that says the same, or more where nothing differs
pub cut_as : (start now : Image) (X Y : Zone) (xs : List Planned) → ((p i j : ℕ) → X p i j → Y p i j) →
    ((p i j : ℕ) → Y p i j → IsInside (place p i j) start → (read start (place p i j) ≡ read now (place p i j)) ⊎ X p i j) → IsCut start now X xs → IsCut start now Y xs
cut_as start now X Y xs to from a = record {
  nets = a.nets;
  within = λ p i j h. to p i j (a.within p i j h);
  covers = λ p i j y inside. elim (from p i j y inside) [ inl e ↦ inl e | inr x ↦ a.covers p i j x inside ];
  apart = a.apart;
}

-- the zones of the numbers from lo on, n of them, that pass a test
pub record InRange (test : ℕ → Bool) (Z : ℕ → Zone) (n lo : ℕ) (p i j : ℕ) : Type 0 where
  pub at : ℕ
  pub low : lo ≤ at
  pub high : at < lo + n
  pub passes : test at ≡ true
  pub in_zone : Z at p i j

pub cut_range : (start now : Image) (f : ℕ → List Planned) (test : ℕ → Bool) (Z : ℕ → Zone) (n lo : ℕ) →
    ((x : ℕ) → lo ≤ x → x < lo + n → test x ≡ true → IsCut start now (Z x) (f x)) →
    ((x y p i j : ℕ) → lo ≤ x → x < lo + n → lo ≤ y → y < lo + n → test x ≡ true → test y ≡ true → Z x p i j → Z y p i j → x ≡ y) →
    IsCut start now (InRange test Z n lo) (flat_map f (filter test (range_with_len lo n)))
cut_range start now f test Z zero lo each one = cut_none start now (InRange test Z zero lo) (λ p i j z inside. absurd (none z.at z.low z.high))
  where
    none : (x : ℕ) → lo ≤ x → x < lo + 0 → ⊥
    none x a b = omega (arith, a, b)
cut_range start now f test Z (suc n) lo each one =
    let ih = cut_range start now f test Z n (lo + 1) (λ x low high. each x (omega (arith, low)) (omega (arith, high)))
    (λ x y p i j a b c d. one x y p i j (omega (arith, a)) (omega (arith, b)) (omega (arith, c)) (omega (arith, d))) in
    by_test (test lo) refl ih
  where
    up : (p i j : ℕ) → InRange test Z n (lo + 1) p i j → InRange test Z (suc n) lo p i j
    up p i j z = record { at = z.at; low = (let a = z.low in omega (arith, a)); high = (let b = z.high in omega (arith, b)); passes = z.passes; in_zone = z.in_zone }

    down : (p i j : ℕ) → (z : InRange test Z (suc n) lo p i j) → (z.at ≡ lo) ⊎ InRange test Z n (lo + 1) p i j
    down p i j z = elim (cases_Bool (eqb z.at lo)) [
      | inl e ↦ inl (eqb-true z.at lo e)
      | inr e ↦ inr (record { at = z.at; low = above z.at z.low (λ s. false≢true (sym e ∙ same z.at lo s)); high = (let b = z.high in omega (arith, b)); passes = z.passes; in_zone = z.in_zone })
    ]
      where
        above : (x : ℕ) → lo ≤ x → (x ≡ lo → ⊥) → lo + 1 ≤ x
        above x a n = omega (arith, a, n)

        same : (x y : ℕ) → x ≡ y → eqb x y ≡ true
        same x y e = subst (λ z. eqb x z ≡ true) e (it x)
          where
            it : (x : ℕ) → eqb x x ≡ true
            it x = search arith

    by_test : (b : Bool) → test lo ≡ b → IsCut start now (InRange test Z n (lo + 1)) (flat_map f (filter test (range_with_len (lo + 1) n))) →
        IsCut start now (InRange test Z (suc n) lo) (flat_map f (if b then lo ∷ filter test (range_with_len (lo + 1) n) else filter test (range_with_len (lo + 1) n)))
    by_test true e ih =
        let rest = flat_map f (filter test (range_with_len (lo + 1) n)) in
        cut_as start now (Or (Z lo) (InRange test Z n (lo + 1))) (InRange test Z (suc n) lo) (f lo ++ rest)
        (λ p i j z. elim z [ inl a ↦ record { at = lo; low = omega arith; high = omega arith; passes = e; in_zone = a } | inr b ↦ up p i j b ])
        (λ p i j z inside. elim (down p i j z) [ inl s ↦ inr (inl (subst (λ x. Z x p i j) s z.in_zone)) | inr r ↦ inr (inr r) ])
        (cut_both start now (Z lo) (InRange test Z n (lo + 1)) (f lo) rest (each lo (omega arith) (omega arith) e) ih
        (λ p i j a z. let b = z.low in let c = z.high in below z.at z.low (one lo z.at p i j (omega arith) (omega arith) (omega (arith, b)) (omega (arith, c)) e z.passes a z.in_zone)))
      where
        below : (x : ℕ) → lo + 1 ≤ x → lo ≡ x → ⊥
        below x a s = omega (arith, a, s)
    by_test false e ih =
        cut_as start now (InRange test Z n (lo + 1)) (InRange test Z (suc n) lo) (flat_map f (filter test (range_with_len (lo + 1) n))) up
        (λ p i j z inside. elim (down p i j z) [ inl s ↦ absurd (false≢true (sym e ∙ subst (λ x. test x ≡ true) s z.passes)) | inr r ↦ inr r ]) ih
