-- Cuts of a page, or of a part of it.
use Rattle.std.proofs.Common.{◌≡◌, ℕ, zero, suc, ◌+◌, ◌-◌, ◌<◌, ◌≤◌, Bool, true, eqb, not, ◌||◌, List, [], ◌∷◌, ◌++◌, ◌⊎◌, inl, inr, sym, ap, ◌∙◌, subst, arith}
use Rattle.std.specs.Prelude.{slice_index, filter}
use Rattle.std.specs.List.{range_with_len}
use Rattle.std.specs.Int.{bit_at}
use Rattle.std.proofs.lemmas.Bool.{cases_Bool, cases_eq, cases_lt, cond_both, eqb-true, not-false, false≢true}
use Rattle.spec_file.specs.declared.geometry.Geometry.{Geometry}
use Rattle.spec_file.specs.Image.{Image, page}
use Rattle.spec_plan.specs.Changes.{last_of}
use Rattle.spec_words.specs.NetChanges.{differing, cell_over, part_changes, page_changes, slots_start, is_iam, becomes_allocated}
use Rattle.law_undo.proofs.Atoms.{read}
use Rattle.law_net.proofs.Cuts.{place, IsCut, Or, cut_none, cut_both, cut_as}
use Rattle.law_net.proofs.Cells.{IsSpan, IsWhole, SameByte, cut_bytes}

-- rising numbers within bounds
abbrev Within : ℕ → ℕ → List ℕ → Type 0
Within lo hi [] = Unit {0}
Within lo hi (i ∷ is) = (lo ≤ i) × (i ≤ last_of i is) × (last_of i is < hi)

within_more : (lo hi : ℕ) (ds : List ℕ) → Within (lo + 1) hi ds → Within lo hi ds
within_more lo hi [] w = tt
within_more lo hi (i ∷ is) w = (let a = w.0 in omega (arith, a), w.1, w.2)

within_cons : (lo hi : ℕ) (ds : List ℕ) → lo < hi → Within (lo + 1) hi ds → Within lo hi (lo ∷ ds)
within_cons lo hi [] lt w = (omega arith, omega arith, lt)
within_cons lo hi (i ∷ is) lt w = (omega arith, (let a = w.0 in let b = w.1 in omega (arith, a, b)), w.2)

filter_within : (f : ℕ → Bool) (n lo hi : ℕ) → lo + n ≡ hi → Within lo hi (filter f (range_with_len lo n))
filter_within f zero lo hi e = tt
filter_within f (suc n) lo hi e =
    let rest = filter f (range_with_len (lo + 1) n) in
    let ih = filter_within f n (lo + 1) hi (omega (arith, e)) in
    cond_both (f lo) (lo ∷ rest) rest (Within lo hi) (λ b. within_cons lo hi rest (omega (arith, e)) ih) (λ b. within_more lo hi rest ih)

-- a number stands between the first and the last of them
abbrev Encloses : ℕ → List ℕ → Type 0
Encloses k [] = ⊥
Encloses k (i ∷ is) = (i ≤ k) × (k ≤ last_of i is)

encloses_cons : (k lo : ℕ) (ds : List ℕ) → lo ≤ k → Encloses k ds → Encloses k (lo ∷ ds)
encloses_cons k lo [] le h = absurd h
encloses_cons k lo (i ∷ is) le h = (le, h.1)

encloses_first : (lo hi : ℕ) (ds : List ℕ) → lo < hi → Within (lo + 1) hi ds → Encloses lo (lo ∷ ds)
encloses_first lo hi ds lt w = (omega arith, (within_cons lo hi ds lt w).1)

filter_encloses : (f : ℕ → Bool) (n lo hi k : ℕ) → lo + n ≡ hi → lo ≤ k → k < hi → f k ≡ true → Encloses k (filter f (range_with_len lo n))
filter_encloses f zero lo hi k e low high h = absurd (omega (arith, e, low, high))
filter_encloses f (suc n) lo hi k e low high h = elim (cases_eq k lo) [
  | inl same ↦ cond_both (f lo) (lo ∷ rest) rest (Encloses k)
      (λ b. subst (λ x. Encloses x (lo ∷ rest)) (sym same) (encloses_first lo hi rest (omega (arith, e)) (filter_within f n (lo + 1) hi (omega (arith, e)))))
      (λ b. absurd (false≢true (sym b ∙ subst (λ x. f x ≡ true) same h)))
  | inr other ↦
      let ih = filter_encloses f n (lo + 1) hi k (omega (arith, e)) (omega (arith, low, other)) high h in
      cond_both (f lo) (lo ∷ rest) rest (Encloses k) (λ b. encloses_cons k lo rest low ih) (λ b. ih)
]
  where
    rest : List ℕ
    rest = filter f (range_with_len (lo + 1) n)

-- a cell from the first to the last
over : (start now : Image) (p lo hi : ℕ) (ds : List ℕ) → IsWhole start now p → hi ≤ 8192 → Within lo hi ds →
    ((i : ℕ) → lo ≤ i → i < hi → SameByte start now p i ⊎ Encloses i ds) → IsCut start now (IsSpan p lo hi) (cell_over start now p ds)
over start now p lo hi [] whole top w all = cut_none start now (IsSpan p lo hi) (λ q i j z inside.
    subst (λ r. read start (place r i j) ≡ read now (place r i j)) (sym z.page) (elim (all i z.low z.high) [ inl s ↦ ap (λ v. bit_at v j) s | inr n ↦ absurd n ]))
over start now p lo hi (d ∷ ds) whole top w all =
    let a = w.0 in
    let b = w.1 in
    let c = w.2 in
    cut_bytes start now p lo hi d (last_of d ds + 1 - d) whole (omega (arith, b)) a (omega (arith, b, c)) top
    (λ i low high. elim (all i low high) [ inl s ↦ inl s | inr e ↦ inr (e.0, (let x = e.1 in omega (arith, x, b))) ])

pub cut_part : (start now : Image) (p lo hi : ℕ) → IsWhole start now p → lo ≤ hi → hi ≤ 8192 → IsCut start now (IsSpan p lo hi) (part_changes start now p lo hi)
unfolding differing
cut_part start now p lo hi whole order top =
    let f = λ (i : ℕ). not (eqb (slice_index (page start p) i) (slice_index (page now p) i)) in
    over start now p lo hi (differing start now p lo hi) whole top (filter_within f (hi - lo) lo hi (omega (arith, order)))
    (λ i low high. elim (cases_Bool (f i)) [
      | inl e ↦ inr (filter_encloses f (hi - lo) lo hi i (omega (arith, order)) low high e)
      | inr e ↦ inl (eqb-true (slice_index (page start p) i) (slice_index (page now p) i) (not-false (eqb (slice_index (page start p) i) (slice_index (page now p) i)) e))
    ])

-- a page, cut in any of the two ways
pub cut_page : (g : Geometry) (start now : Image) (p : ℕ) → IsWhole start now p → IsCut start now (IsSpan p 0 8192) (page_changes g start now p)
cut_page g start now p whole =
    let s = slots_start start now p in
    let low : 96 ≤ s = omega arith in
    let high : s ≤ 8192 = omega arith in
    cond_both (is_iam now p || becomes_allocated g start now p) (part_changes start now p 0 8192)
    (part_changes start now p 96 s ++ (part_changes start now p s 8192 ++ part_changes start now p 0 96)) (IsCut start now (IsSpan p 0 8192))
    (λ b. cut_part start now p 0 8192 whole (omega arith) (omega arith))
    (λ b. cut_as start now (Or (IsSpan p 96 s) (Or (IsSpan p s 8192) (IsSpan p 0 96))) (IsSpan p 0 8192) _
    (λ q i j z. elim z [
      | inl a ↦ record { page = a.page; low = omega arith; high = (let h = a.high in omega (arith, h, high)) }
      | inr (inl a) ↦ record { page = a.page; low = omega arith; high = a.high }
      | inr (inr a) ↦ record { page = a.page; low = omega arith; high = (let h = a.high in omega (arith, h)) }
    ])
    (λ q i j z inside. inr (elim (cases_lt i 96) [
      | inl header ↦ inr (inr (record { page = z.page; low = omega arith; high = header }))
      | inr behind ↦ elim (cases_lt i s) [
        | inl rows ↦ inl (record { page = z.page; low = behind; high = rows })
        | inr slots ↦ inr (inl (record { page = z.page; low = slots; high = z.high }))
      ]
    ]))
    (cut_both start now (IsSpan p 96 s) (Or (IsSpan p s 8192) (IsSpan p 0 96)) (part_changes start now p 96 s) (part_changes start now p s 8192 ++ part_changes start now p 0 96)
    (cut_part start now p 96 s whole low high)
    (cut_both start now (IsSpan p s 8192) (IsSpan p 0 96) (part_changes start now p s 8192) (part_changes start now p 0 96)
    (cut_part start now p s 8192 whole high (omega arith)) (cut_part start now p 0 96 whole (omega arith) (omega arith))
    (λ q i j a b. let x = a.low in let y = b.high in absurd (omega (arith, x, y, low))))
    (λ q i j a z. elim z [
      | inl b ↦ let x = a.high in let y = b.low in absurd (omega (arith, x, y))
      | inr b ↦ let x = a.low in let y = b.high in absurd (omega (arith, x, y))
    ])))
