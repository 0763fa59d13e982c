-- Cuts of PFS bytes.
use Rattle.std.proofs.Common.{◌≡◌, ℕ, zero, suc, ◌+◌, ◌-◌, ◌*◌, ◌/◌, ◌%◌, ◌<◌, ◌≤◌, Bool, true, false, eqb, not, ◌||◌, [], ◌∷◌, inl, inr, refl, sym, ap, ◌∙◌, subst, arith}
use Rattle.std.specs.Prelude.{if◌then◌else◌, filter}
use Rattle.std.specs.List.{range_with_len}
use Rattle.std.proofs.lemmas.Bool.{cases_Bool, cases_eq, cases_order, cond_both, and_parts, and_from, or_cases, or_parts, or_left, eqb-true, eqb-false, eq-eqb, ne_eqb, not-true, not-false, both_ways}
use Rattle.std.proofs.lemmas.List.Concat.{flat_map_single}
use Rattle.spec_file.specs.declared.geometry.Geometry.{Geometry}
use Rattle.spec_file.specs.declared.geometry.Geometry.TheVariants.{Standard, Small}
use Rattle.spec_file.specs.Image.{Image}
use Rattle.spec_file.specs.Places.{pfs_page, pfs_place}
use Rattle.spec_log.specs.Cover.{paged_at}
use Rattle.spec_words.specs.NetChanges.{FileShape, is_byte_changed, run_length, begins_run, run_change, run_changes}
use Rattle.law_net.proofs.Cuts.{IsCut, InRange, cut_range}
use Rattle.law_net.proofs.Cells.{IsSpan, IsWhole, cut_bytes}

-- a byte of a PFS page speaks of the page whose byte it is
pub paged_place : (g : Geometry) (p : ℕ) → paged_at (pfs_place g p).page (pfs_place g p).at ≡ p
paged_place Standard p = elim (cases_eq (p / 8088) 0) [
  | inl none ↦ ap (λ b. (if eqb (if b then 1 else 8088 * (p / 8088)) 1 then 0 else (if b then 1 else 8088 * (p / 8088))) + (96 + p % 8088 - 96)) (eq-eqb (p / 8088) 0 none) ∙ omega (arith, none)
  | inr some ↦
      ap (λ b. (if eqb (if b then 1 else 8088 * (p / 8088)) 1 then 0 else (if b then 1 else 8088 * (p / 8088))) + (96 + p % 8088 - 96)) (ne_eqb (p / 8088) 0 some)
      ∙ ap (λ b. (if b then 0 else 8088 * (p / 8088)) + (96 + p % 8088 - 96)) (ne_eqb (8088 * (p / 8088)) 1 (λ e. omega (arith, e))) ∙ omega arith
]
paged_place Small p = elim (cases_eq (p / 88) 0) [
  | inl none ↦ ap (λ b. (if eqb (if b then 1 else 88 * (p / 88)) 1 then 0 else (if b then 1 else 88 * (p / 88))) + (96 + p % 88 - 96)) (eq-eqb (p / 88) 0 none) ∙ omega (arith, none)
  | inr some ↦
      ap (λ b. (if eqb (if b then 1 else 88 * (p / 88)) 1 then 0 else (if b then 1 else 88 * (p / 88))) + (96 + p % 88 - 96)) (ne_eqb (p / 88) 0 some)
      ∙ ap (λ b. (if b then 0 else 88 * (p / 88)) + (96 + p % 88 - 96)) (ne_eqb (88 * (p / 88)) 1 (λ e. omega (arith, e))) ∙ omega arith
]

-- the PFS bytes of an extent's pages stand side by side
pub record Beside (g : Geometry) (p k : ℕ) : Type 0 where
  pub page : pfs_page g (p + k) ≡ pfs_page g p
  pub at : (pfs_place g (p + k)).at ≡ (pfs_place g p).at + k

pub beside : (g : Geometry) (p k : ℕ) → p % 8 + k < 8 → Beside g p k
beside Standard p k lt =
    let same : (p + k) / 8088 ≡ p / 8088 = omega (arith, lt) in
    record { page = ap (λ n. if eqb n 0 then 1 else 8088 * n) same; at = omega (arith, lt) }
beside Small p k lt =
    let same : (p + k) / 88 ≡ p / 88 = omega (arith, lt) in
    record { page = ap (λ n. if eqb n 0 then 1 else 88 * n) same; at = omega (arith, lt) }

pub low_place : (g : Geometry) (p : ℕ) → (pfs_place g p).at + (8 - p % 8) ≤ 8192
low_place Standard p = omega arith
low_place Small p = omega arith

-- what a run has
pub run_few : (g : Geometry) (start now : Image) (n p : ℕ) → run_length g start now n p ≤ n
run_few g start now zero p = omega arith
run_few g start now (suc n) p =
    let ih = run_few g start now n (p + 1) in
    cond_both (is_byte_changed g start now p) (1 + run_length g start now n (p + 1)) 0 (λ r. r ≤ suc n) (λ b. omega (arith, ih)) (λ b. omega arith)

pub run_changed : (g : Geometry) (start now : Image) (n p k : ℕ) → k < run_length g start now n p → is_byte_changed g start now (p + k) ≡ true
run_changed g start now zero p k lt = absurd (omega (arith, lt))
run_changed g start now (suc n) p k lt = by_test (is_byte_changed g start now p) refl lt (λ h. run_changed g start now n (p + 1) (k - 1) h)
  where
    at : (p k : ℕ) → (k ≡ 0 → ⊥) → p + 1 + (k - 1) ≡ p + k
    at p k n = omega (arith, n)

    here : (p k : ℕ) → k ≡ 0 → p ≡ p + k
    here p k e = omega (arith, e)

    by_test : (b : Bool) → is_byte_changed g start now p ≡ b → k < (if b then 1 + run_length g start now n (p + 1) else 0) →
        (k - 1 < run_length g start now n (p + 1) → is_byte_changed g start now (p + 1 + (k - 1)) ≡ true) → is_byte_changed g start now (p + k) ≡ true
    by_test false e h ih = absurd (omega (arith, h))
    by_test true e h ih = elim (cases_eq k 0) [
      | inl first ↦ subst (λ q. is_byte_changed g start now q ≡ true) (here p k first) e
      | inr later ↦ subst (λ q. is_byte_changed g start now q ≡ true) (at p k later) (ih (omega (arith, h, later)))
    ]

-- a run has all that change side by side
pub run_long : (g : Geometry) (start now : Image) (n p k : ℕ) → k < n → ((m : ℕ) → m ≤ k → is_byte_changed g start now (p + m) ≡ true) → k < run_length g start now n p
run_long g start now zero p k lt all = absurd (omega (arith, lt))
run_long g start now (suc n) p k lt all =
    cond_both (is_byte_changed g start now p) (1 + run_length g start now n (p + 1)) 0 (λ r. k < r)
    (λ b. elim (cases_eq k 0) [
      | inl first ↦ omega (arith, first)
      | inr later ↦
          let ih = run_long g start now n (p + 1) (k - 1) (omega (arith, lt, later)) (λ m le. subst (λ q. is_byte_changed g start now q ≡ true) (step p m) (all (m + 1) (up k m later le))) in
          omega (arith, ih, later)
    ])
    (λ b. absurd (both_ways (is_byte_changed g start now p) b (subst (λ q. is_byte_changed g start now q ≡ true) (none p) (all 0 (omega arith)))))
  where
    step : (p m : ℕ) → p + (m + 1) ≡ p + 1 + m
    step p m = omega arith

    up : (k m : ℕ) → (k ≡ 0 → ⊥) → m ≤ k - 1 → m + 1 ≤ k
    up k m n le = omega (arith, n, le)

    none : (p : ℕ) → p + 0 ≡ p
    none p = omega arith

-- the run of page p
abbrev pub run_of : Geometry → Image → Image → ℕ → ℕ
run_of g start now p = run_length g start now (8 - p % 8) p

abbrev pub IsRun : Geometry → Image → Image → ℕ → ℕ → ℕ → ℕ → Type 0
IsRun g start now p = IsSpan (pfs_place g p).page (pfs_place g p).at ((pfs_place g p).at + run_of g start now p)

-- the page of which a byte of a run speaks
pub record Speaks (g : Geometry) (start now : Image) (p q i : ℕ) : Type 0 where
  pub of : ℕ
  pub low : p ≤ of
  pub extent : of / 8 ≡ p / 8
  pub page : q ≡ pfs_page g of
  pub at : i ≡ (pfs_place g of).at
  pub all : (m : ℕ) → p ≤ m → m ≤ of → is_byte_changed g start now m ≡ true

pub speaks : (g : Geometry) (start now : Image) (p q i j : ℕ) → IsRun g start now p q i j → Speaks g start now p q i
speaks g start now p q i j z =
    let k = i - (pfs_place g p).at in
    let low = z.low in
    let high = z.high in
    let few = run_few g start now (8 - p % 8) p in
    let inside : k < run_of g start now p = omega (arith, low, high) in
    let lt : p % 8 + k < 8 = omega (arith, inside, few) in
    let b = beside g p k lt in
    let at = b.at in
    record {
      of = p + k;
      low = omega arith;
      extent = omega (arith, lt);
      page = z.page ∙ sym b.page;
      at = sym (at ∙ back i (pfs_place g p).at low);
      all = λ m from upto. subst (λ r. is_byte_changed g start now r ≡ true) (whole p m from) (run_changed g start now (8 - p % 8) p (m - p) (less p m k (run_of g start now p) from upto inside));
    }
  where
    back : (i a : ℕ) → a ≤ i → a + (i - a) ≡ i
    back i a le = omega (arith, le)

    whole : (p m : ℕ) → p ≤ m → p + (m - p) ≡ m
    whole p m le = omega (arith, le)

    less : (p m k r : ℕ) → p ≤ m → m ≤ p + k → k < r → m - p < r
    less p m k r a b c = omega (arith, a, b, c)

pub same_page : (g : Geometry) (a b : ℕ) → pfs_page g a ≡ pfs_page g b → (pfs_place g a).at ≡ (pfs_place g b).at → a ≡ b
same_page g a b e f = sym (paged_place g a) ∙ ap (λ q. paged_at q (pfs_place g a).at) e ∙ ap (paged_at (pfs_page g b)) f ∙ paged_place g b

-- a run begins nowhere inside another
no_later : (g : Geometry) (start now : Image) (p q r : ℕ) → p < q → q ≤ r → r / 8 ≡ p / 8 → r / 8 ≡ q / 8 → ((m : ℕ) → p ≤ m → m ≤ r → is_byte_changed g start now m ≡ true) →
    begins_run g start now q ≡ true → ⊥
no_later g start now p q r lt le e f all begins =
    elim (or_cases (eqb (q % 8) 0) (not (is_byte_changed g start now (q - 1))) (and_parts (is_byte_changed g start now q) _ begins).1) [
      | inl first ↦ let z = eqb-true (q % 8) 0 first in omega (arith, z, lt, le, e, f)
      | inr other ↦ both_ways (is_byte_changed g start now (q - 1)) (not-true (is_byte_changed g start now (q - 1)) other) (all (q - 1) (omega (arith, lt)) (omega (arith, le)))
    ]

one_run : (g : Geometry) (start now : Image) (x y p i j : ℕ) → begins_run g start now x ≡ true → begins_run g start now y ≡ true →
    IsRun g start now x p i j → IsRun g start now y p i j → x ≡ y
one_run g start now x y p i j bx by zx zy =
    let a = speaks g start now x p i j zx in
    let b = speaks g start now y p i j zy in
    let one : a.of ≡ b.of = same_page g a.of b.of (sym a.page ∙ b.page) (sym a.at ∙ b.at) in
    elim (cases_order x y) [
      | inl e ↦ e
      | inr (inl lt) ↦ absurd (no_later g start now x y a.of lt (let l = b.low in omega (arith, l, one)) a.extent (ap (λ n. n / 8) one ∙ b.extent) a.all by)
      | inr (inr lt) ↦ absurd (no_later g start now y x b.of lt (let l = a.low in omega (arith, l, one)) b.extent (ap (λ n. n / 8) (sym one) ∙ a.extent) b.all bx)
    ]

pub cut_run : (g : Geometry) (start now : Image) (p : ℕ) → IsWhole start now (pfs_page g p) → begins_run g start now p ≡ true → IsCut start now (IsRun g start now p) (run_change g start now p ∷ [])
cut_run g start now p whole begins =
    let at = (pfs_place g p).at in
    let run = run_of g start now p in
    let few = run_few g start now (8 - p % 8) p in
    let low = low_place g p in
    cut_bytes start now (pfs_page g p) at (at + run) at run whole
    (run_long g start now (8 - p % 8) p 0 (omega arith) (λ m le. subst (λ q. is_byte_changed g start now q ≡ true) (first p m le) (and_parts (is_byte_changed g start now p) _ begins).0))
    (omega arith) (omega arith) (omega (arith, few, low)) (λ i a b. inr (a, b))
  where
    first : (p m : ℕ) → m ≤ 0 → p ≡ p + m
    first p m le = omega (arith, le)

pub cut_runs : (shape : FileShape) (start now : Image) → ((p : ℕ) → p < shape.pages → IsWhole start now (pfs_page shape.geometry p)) →
    IsCut start now (InRange (begins_run shape.geometry start now) (IsRun shape.geometry start now) shape.pages 0) (run_changes shape start now)
cut_runs shape start now whole =
    let g = shape.geometry in
    let test = begins_run g start now in
    subst (IsCut start now (InRange test (IsRun g start now) shape.pages 0)) (flat_map_single (run_change g start now) (filter test (range_with_len 0 shape.pages)))
    (cut_range start now (λ p. run_change g start now p ∷ []) test (IsRun g start now) shape.pages 0
    (λ p low high begins. cut_run g start now p (whole p (upper p shape.pages high)) begins) (λ x y p i j a b c d. one_run g start now x y p i j))
  where
    upper : (p n : ℕ) → p < 0 + n → p < n
    upper p n lt = omega (arith, lt)

-- a PFS byte that changes is in a run
pub record Begun (g : Geometry) (start now : Image) (p : ℕ) : Type 0 where
  pub first : ℕ
  pub low : first ≤ p
  pub extent : first / 8 ≡ p / 8
  pub begins : begins_run g start now first ≡ true
  pub all : (m : ℕ) → first ≤ m → m ≤ p → is_byte_changed g start now m ≡ true

begun_here : (g : Geometry) (start now : Image) (p : ℕ) → is_byte_changed g start now p ≡ true → (eqb (p % 8) 0 || not (is_byte_changed g start now (p - 1))) ≡ true → Begun g start now p
begun_here g start now p changes e =
    record {
      first = p;
      low = omega arith;
      extent = refl;
      begins = and_from (is_byte_changed g start now p) _ changes e;
      all = λ m a b. subst
          (λ q. is_byte_changed g start now q ≡ true) (it p m a b) changes;
    }
  where
    it : (p m : ℕ) → p ≤ m → m ≤ p → p ≡ m
    it p m a b = omega (arith, a, b)

begun_from : (g : Geometry) (start now : Image) (n p : ℕ) → p % 8 ≤ n → is_byte_changed g start now p ≡ true → Begun g start now p
begun_from g start now zero p le changes = begun_here g start now p changes (or_left (eqb (p % 8) 0) (not (is_byte_changed g start now (p - 1))) (eq-eqb (p % 8) 0 (omega (arith, le))))
begun_from g start now (suc n) p le changes = elim (cases_Bool (eqb (p % 8) 0 || not (is_byte_changed g start now (p - 1)))) [
  | inl e ↦ begun_here g start now p changes e
  | inr e ↦
      let parts = or_parts (eqb (p % 8) 0) (not (is_byte_changed g start now (p - 1))) e in
      let some = eqb-false (p % 8) 0 parts.0 in
      let ih = begun_from g start now n (p - 1) (omega (arith, le, some)) (not-false (is_byte_changed g start now (p - 1)) parts.1) in
      let low = ih.low in
      let extent = ih.extent in
      record {
        first = ih.first;
        low = omega (arith, low);
        extent = omega (arith, extent, some);
        begins = ih.begins;
        all = λ m a b. elim (cases_eq m p) [
          | inl same ↦ subst (λ q. is_byte_changed g start now q ≡ true) (sym same) changes
          | inr other ↦ ih.all m a (omega (arith, b, other))
        ];
      }
]

pub begun : (g : Geometry) (start now : Image) (p : ℕ) → is_byte_changed g start now p ≡ true → Begun g start now p
begun g start now p changes = begun_from g start now (p % 8) p (omega arith) changes

pub in_run : (g : Geometry) (start now : Image) (p j : ℕ) (b : Begun g start now p) → IsRun g start now b.first (pfs_page g p) (pfs_place g p).at j
in_run g start now p j b =
    let low = b.low in
    let extent = b.extent in
    let k = p - b.first in
    let e : b.first + k ≡ p = omega (arith, low) in
    let near = beside g b.first k (omega (arith, low, extent)) in
    let run = run_long g start now (8 - b.first % 8) b.first k (omega (arith, low, extent)) (λ m le. b.all (b.first + m) (omega arith) (omega (arith, le, low))) in
    let at : (pfs_place g p).at ≡ (pfs_place g b.first).at + k = subst (λ q. (pfs_place g q).at ≡ (pfs_place g b.first).at + k) e near.at in
    record { page = subst (λ q. pfs_page g q ≡ pfs_page g b.first) e near.page; low = omega (arith, at); high = omega (arith, at, run) }
