-- A single page comes into a slot of a chain.
use Rattle.std.proofs.Common.{◌≡◌, refl, ℕ, zero, suc, ◌+◌, ◌<◌, ◌≤◌, ◌==◌, Bool, true, false, List, [], ◌∷◌, length, map, filter, get_or, All, Contains, sym, ap, ◌∙◌, subst, arith}
use Rattle.std.specs.Prelude.{slice_index}
use Rattle.std.specs.List.{range_with_len}
use Rattle.std.proofs.lemmas.Bool.{eq-eqb, ne_eqb}
use Rattle.std.proofs.lemmas.List.{length-map}
use Rattle.std.proofs.lemmas.List.FromFn.{length-map-range_with_len, get_or-map-range_with_len}
use Rattle.spec_file.specs.declared.data.PageNo.{PageNo}
use Rattle.spec_file.specs.Iam.{iam_slot, iam_slots}
use Rattle.spec_file.specs.Image.{page}
use Rattle.spec_plan.specs.Reading.{first_page}
use Rattle.spec_words.specs.Views.{View}
use Rattle.spec_alloc.specs.Search.{first_in}
use Rattle.spec_alloc.specs.Chains.{slots_with}
use Rattle.db_alloc.specs.Marks.{first_slots}
use Rattle.db_alloc.specs.Tables.{numbers}
use Rattle.db_alloc.proofs.NearPages.{number_at}

-- ---- the first page of a chain

pub first_has : (P : ℕ → Type 0) (chain : List ℕ) → 1 ≤ length chain → All P chain → P (first_page chain)
first_has P [] some all = absurd (omega (arith, some))
first_has P (p ∷ chain) some all = all 0 p (omega arith)

pub some_numbers : (chain : List PageNo) → 1 ≤ length chain → 1 ≤ length (numbers chain)
some_numbers chain some = subst (λ (n : ℕ). 1 ≤ n) (sym (length-map chain (λ (p : PageNo). p.0))) some

pub first_contained : (chain : List ℕ) → 1 ≤ length chain → Contains chain (first_page chain)
first_contained [] some = absurd (omega (arith, some))
first_contained (p ∷ chain) some = (0, omega arith, refl)

-- ---- its slots

pub slot_hit : (p : ℕ) (slots : List PageNo) (i : ℕ) (d : PageNo) → i < length slots → (get_or slots i d).0 ≡ p → (slice_index (numbers slots) i == p) ≡ true
slot_hit p slots i d lt e = ap (λ (n : ℕ). n == p) (number_at slots i d lt 0) ∙ eq-eqb (get_or slots i d).0 p e

pub slot_miss : (p : ℕ) (slots : List PageNo) (i : ℕ) (d : PageNo) → i < length slots → ((get_or slots i d).0 ≡ p → ⊥) → (slice_index (numbers slots) i == p) ≡ false
slot_miss p slots i d lt ne = ap (λ (n : ℕ). n == p) (number_at slots i d lt 0) ∙ ne_eqb (get_or slots i d).0 p ne

slots_of : (f : ℕ → List ℕ) (chain : List ℕ) → 1 ≤ length chain → first_slots (map f chain) ≡ iam_slots (f (first_page chain))
slots_of f [] some = absurd (omega (arith, some))
slots_of f (p ∷ chain) some = refl

filter_step : (f g : ℕ → Bool) (x : ℕ) (xs ys : List ℕ) → filter f xs ≡ filter g ys → (b : Bool) → f x ≡ b → g x ≡ b → filter f (x ∷ xs) ≡ filter g (x ∷ ys)
filter_step f g x xs ys same true e h = rw (e, h) (ap (λ zs. x ∷ zs) same)
filter_step f g x xs ys same false e h = rw (e, h) same

-- the same of a range by tests that agree on it
filter_range : (f g : ℕ → Bool) (n lo : ℕ) → ((i : ℕ) → lo ≤ i → i < lo + n → f i ≡ g i) → filter f (range_with_len lo n) ≡ filter g (range_with_len lo n)
filter_range f g zero lo same = refl
filter_range f g (suc n) lo same =
    filter_step f g lo (range_with_len (lo + 1) n) (range_with_len (lo + 1) n) (filter_range f g n (lo + 1) (λ i low high. same i (omega (arith, low)) (omega (arith, high)))) (f lo) refl
    (sym (same lo (omega arith) (omega arith)))

-- the slots that hold page p, as they were read
pub slots_told : (p : ℕ) (view : View) (chain : List ℕ) (slots : List PageNo) → 1 ≤ length chain → numbers slots ≡ first_slots (map (page view.now) chain)
    → filter (λ i. slice_index (numbers slots) i == p) (range_with_len 0 (length slots)) ≡ slots_with chain p view
slots_told p view chain slots some is =
    let bytes = page view.now (first_page chain) in
    let all = is ∙ slots_of (page view.now) chain some in
    let long = sym (length-map slots (λ (p : PageNo). p.0)) ∙ ap (λ (xs : List ℕ). length xs) all ∙ length-map-range_with_len (iam_slot bytes) 0 8 in
    ap (λ (n : ℕ). filter (λ i. slice_index (numbers slots) i == p) (range_with_len 0 n)) long
    ∙ filter_range (λ i. slice_index (numbers slots) i == p) (λ i. iam_slot bytes i == p) 8 0 (λ i low high.
    ap (λ (n : ℕ). n == p) (ap (λ (xs : List ℕ). slice_index xs i) all ∙ get_or-map-range_with_len (iam_slot bytes) 0 8 i i 0 high (omega arith)))

pub free_told : (view : View) (chain : List ℕ) (slots : List PageNo) → 1 ≤ length chain → numbers slots ≡ first_slots (map (page view.now) chain)
    → first_in (filter (λ i. slice_index (numbers slots) i == 0) (range_with_len 0 (length slots))) ≡ first_in (slots_with chain 0 view)
free_told view chain slots some is = ap first_in (slots_told 0 view chain slots some is)
