-- The net changes are found by looking only at what was touched.
use Rattle.std.proofs.Common.{◌≡◌, ℕ, zero, suc, ◌+◌, ◌/◌, ◌<◌, ◌≤◌, Bool, true, eqb, not, ◌&&◌, List, [], ◌∷◌, ◌++◌, inl, inr, refl, sym, ap, ◌∙◌, subst, arith}
use Rattle.std.specs.Prelude.{if◌then◌else◌, ◌==◌, filter, map, flat_map}
use Rattle.std.specs.List.{list_any, range_with_len}
use Rattle.std.proofs.lemmas.Bool.{cases_eq, cond_both, and_parts, or_cases, or_left, or_right, eqb-true, eq-eqb, false≢true, false_from_ne_true}
use Rattle.spec_file.specs.declared.data.Resource.TheVariants as resource
use Rattle.spec_words.specs.Takes.{is_among}
use Rattle.law_net.specs.Touched.{changes_among, extents_taken, bytes_taken, pages_taken, ChangesAreUnder}
use Rattle.law_net.proofs.Images.{are_images}
use Rattle.law_net.proofs.Under.{taken_byte, taken_page, taken_gam, taken_sgam}
use Rattle.spec_file.specs.Image.{Image}
use Rattle.spec_file.specs.Places.{gam_place, sgam_place}
use Rattle.spec_plan.specs.declared.plan.Planned.{Planned}
use Rattle.spec_words.specs.NetChanges.{FileShape, is_turned, bit_change, is_byte_changed, begins_run, run_change, is_page_changed, is_iam, page_changes, part_changes, changes_of}

-- rising numbers from lo to before hi
abbrev pub RiseIn : ℕ → ℕ → List ℕ → Type 0
RiseIn lo hi [] = Unit {0}
RiseIn lo hi (t ∷ ts) = (lo ≤ t) × (t < hi) × RiseIn (t + 1) hi ts

abbrev pub is_in : List ℕ → ℕ → Bool
is_in ts x = list_any (λ t. t == x) ts

-- all that pass the test are among them
abbrev pub Has : (ℕ → Bool) → ℕ → ℕ → List ℕ → Type 0
Has test lo hi ts = (x : ℕ) → lo ≤ x → x < hi → test x ≡ true → is_in ts x ≡ true

not_below : (x lo hi : ℕ) (ts : List ℕ) → x < lo → RiseIn lo hi ts → is_in ts x ≡ true → ⊥
not_below x lo hi [] lt r h = false≢true h
not_below x lo hi (t ∷ ts) lt r h = elim (or_cases (eqb t x) (is_in ts x) h) [
  | inl e ↦ let s = eqb-true t x e in let a = r.0 in omega (arith, s, a, lt)
  | inr e ↦ let a = r.0 in not_below x (t + 1) hi ts (omega (arith, lt, a)) r.2 e
]

pub filter_touched : (test : ℕ → Bool) (n lo hi : ℕ) (ts : List ℕ) → lo + n ≡ hi → RiseIn lo hi ts → Has test lo hi ts → filter test (range_with_len lo n) ≡ filter test ts
filter_touched test zero lo hi [] e r all = refl
filter_touched test zero lo hi (t ∷ ts) e r all = let a = r.0 in let b = r.1 in absurd (omega (arith, e, a, b))
filter_touched test (suc n) lo hi [] e r all =
    ap (λ b. if b then lo ∷ filter test (range_with_len (lo + 1) n) else filter test (range_with_len (lo + 1) n))
    (false_from_ne_true (test lo) (λ h. false≢true (all lo (omega arith) (omega (arith, e)) h)))
    ∙ filter_touched test n (lo + 1) hi [] (omega (arith, e)) tt (λ x low high h. all x (omega (arith, low)) high h)
filter_touched test (suc n) lo hi (t ∷ ts) e r all = elim (cases_eq t lo) [
  | inl same ↦
      ap (λ zs. if test lo then lo ∷ zs else zs)
      (filter_touched test n (lo + 1) hi ts (omega (arith, e)) (subst (λ k. RiseIn (k + 1) hi ts) same r.2) (λ x low high h. later x same low (all x (omega (arith, low)) high h)))
      ∙ ap (λ k. if test k then k ∷ filter test ts else filter test ts) (sym same)
  | inr other ↦
      let low = r.0 in
      ap (λ b. if b then lo ∷ filter test (range_with_len (lo + 1) n) else filter test (range_with_len (lo + 1) n))
      (false_from_ne_true (test lo) (λ h. not_below lo t hi (t ∷ ts) (omega (arith, low, other)) (omega arith, r.1, r.2) (all lo (omega arith) (omega (arith, e)) h)))
      ∙ filter_touched test n (lo + 1) hi (t ∷ ts) (omega (arith, e)) (omega (arith, low, other), r.1, r.2) (λ x a high h. all x (omega (arith, a)) high h)
]
  where
    later : (x : ℕ) → t ≡ lo → lo + 1 ≤ x → is_in (t ∷ ts) x ≡ true → is_in ts x ≡ true
    later x same low h = elim (or_cases (eqb t x) (is_in ts x) h) [
      | inl s ↦ let q = eqb-true t x s in absurd (omega (arith, q, same, low))
      | inr s ↦ s
    ]

-- what was touched: rising, and all that differs is among it
pub record AreTouched (shape : FileShape) (extents bytes pages : List ℕ) (start now : Image) : Type 0 where
  pub extents_rise : RiseIn 0 (shape.pages / 8) extents
  pub bytes_rise : RiseIn 0 shape.pages bytes
  pub pages_rise : RiseIn 0 shape.pages pages
  pub gams : Has (λ e. is_turned start now (gam_place shape.geometry e)) 0 (shape.pages / 8) extents
  pub sgams : Has (λ e. is_turned start now (sgam_place shape.geometry e)) 0 (shape.pages / 8) extents
  pub changed_bytes : Has (is_byte_changed shape.geometry start now) 0 shape.pages bytes
  pub changed_pages : Has (is_page_changed shape.geometry start now) 0 shape.pages pages

-- so the net changes are found there
pub changes_are_among : (shape : FileShape) (extents bytes pages : List ℕ) (start now : Image) → AreTouched shape extents bytes pages start now →
    changes_of shape start now ≡ changes_among shape extents bytes pages start now
changes_are_among shape extents bytes pages start now t =
    let g = shape.geometry in
    let n = shape.pages in
    let iam : ℕ → Bool = λ p. is_page_changed g start now p && is_iam now p in
    let other : ℕ → Bool = λ p. is_page_changed g start now p && not (is_iam now p) in
    let a = filter_touched (λ e. is_turned start now (gam_place g e)) (n / 8) 0 (n / 8) extents (omega arith) t.extents_rise t.gams in
    let b = filter_touched (λ e. is_turned start now (sgam_place g e)) (n / 8) 0 (n / 8) extents (omega arith) t.extents_rise t.sgams in
    let c = filter_touched (begins_run g start now) n 0 n bytes (omega arith) t.bytes_rise (λ x low high h. t.changed_bytes x low high (and_parts (is_byte_changed g start now x) _ h).0) in
    let d = filter_touched iam n 0 n pages (omega arith) t.pages_rise (λ x low high h. t.changed_pages x low high (and_parts (is_page_changed g start now x) (is_iam now x) h).0) in
    let e = filter_touched other n 0 n pages (omega arith) t.pages_rise (λ x low high h. t.changed_pages x low high (and_parts (is_page_changed g start now x) (not (is_iam now x)) h).0) in
    put_together (λ xs. map (λ k. bit_change start now (gam_place g k)) xs) (λ xs. map (λ k. bit_change start now (sgam_place g k)) xs) (map (run_change g start now))
    (flat_map (page_changes g start now)) (part_changes start now 9 0 8192) _ _ _ _ _ _ _ _ _ _ a b c d e
  where
    put_together : (f h k l : List ℕ → List Planned) (m : List Planned) (a a' b b' c c' d d' e e' : List ℕ) → a ≡ a' → b ≡ b' → c ≡ c' → d ≡ d' → e ≡ e' →
        (f a ++ (h b ++ (k c ++ (l d ++ (m ++ l e))))) ≡ (f a' ++ (h b' ++ (k c' ++ (l d' ++ (m ++ l e')))))
    put_together f h k l m a a' b b' c c' d d' e e' p q r s t =
        ap (λ x. f x ++ (h b ++ (k c ++ (l d ++ (m ++ l e))))) p ∙ ap (λ x. f a' ++ (h x ++ (k c ++ (l d ++ (m ++ l e))))) q ∙ ap (λ x. f a' ++ (h b' ++ (k x ++ (l d ++ (m ++ l e))))) r
        ∙ ap (λ x. f a' ++ (h b' ++ (k c' ++ (l x ++ (m ++ l e))))) s ∙ ap (λ x. f a' ++ (h b' ++ (k c' ++ (l d' ++ (m ++ l x))))) t

-- the numbers of a range that pass a test rise, and are all of these
rise_higher : (lo up hi : ℕ) (ts : List ℕ) → lo ≤ up → RiseIn up hi ts → RiseIn lo hi ts
rise_higher lo up hi [] le r = tt
rise_higher lo up hi (t ∷ ts) le r = (let a = r.0 in omega (arith, a, le), r.1, r.2)

rise_filter : (test : ℕ → Bool) (n lo hi : ℕ) → lo + n ≡ hi → RiseIn lo hi (filter test (range_with_len lo n))
rise_filter test zero lo hi e = tt
rise_filter test (suc n) lo hi e =
    let rest = filter test (range_with_len (lo + 1) n) in
    let ih = rise_filter test n (lo + 1) hi (omega (arith, e)) in
    cond_both (test lo) (lo ∷ rest) rest (RiseIn lo hi) (λ b. (omega arith, omega (arith, e), ih)) (λ b. rise_higher lo (lo + 1) hi rest (omega arith) ih)

in_filter : (test : ℕ → Bool) (n lo hi x : ℕ) → lo + n ≡ hi → lo ≤ x → x < hi → test x ≡ true → is_in (filter test (range_with_len lo n)) x ≡ true
in_filter test zero lo hi x e low high h = absurd (omega (arith, e, low, high))
in_filter test (suc n) lo hi x e low high h = elim (cases_eq lo x) [
  | inl same ↦ subst (λ b. is_in (if b then lo ∷ rest else rest) x ≡ true) (sym (subst (λ k. test k ≡ true) (sym same) h)) (or_left (eqb lo x) (is_in rest x) (eq-eqb lo x same))
  | inr other ↦
      let ih = in_filter test n (lo + 1) hi x (omega (arith, e)) (omega (arith, low, other)) high h in
      cond_both (test lo) (lo ∷ rest) rest (λ xs. is_in xs x ≡ true) (λ b. or_right (eqb lo x) (is_in rest x) ih) (λ b. ih)
]
  where
    rest : List ℕ
    rest = filter test (range_with_len (lo + 1) n)

pub changes_are_under : ChangesAreUnder
changes_are_under shape taken start now a b under =
    let images = are_images shape start now a b in
    let n = shape.pages in
    let extent : ℕ → Bool = λ e. is_among taken (resource.Extent (record { 0 = e })) in
    let byte : ℕ → Bool = λ p. is_among taken (resource.Byte (record { 0 = p })) in
    let one_page : ℕ → Bool = λ p. is_among taken (resource.Page (record { 0 = p })) in
    changes_are_among shape (extents_taken shape taken) (bytes_taken shape taken) (pages_taken shape taken) start now (record {
      extents_rise = rise_filter extent (n / 8) 0 (n / 8) (omega arith);
      bytes_rise = rise_filter byte n 0 n (omega arith);
      pages_rise = rise_filter one_page n 0 n (omega arith);
      gams = λ e low lt h. in_filter extent (n / 8) 0 (n / 8) e (omega arith) low lt (taken_gam shape taken start now images under e lt h);
      sgams = λ e low lt h. in_filter extent (n / 8) 0 (n / 8) e (omega arith) low lt (taken_sgam shape taken start now images under e lt h);
      changed_bytes = λ p low lt h. in_filter byte n 0 n p (omega arith) low lt (taken_byte shape taken start now images under p lt h);
      changed_pages = λ p low lt h. in_filter one_page n 0 n p (omega arith) low lt (taken_page shape taken start now images under p lt h);
    })
