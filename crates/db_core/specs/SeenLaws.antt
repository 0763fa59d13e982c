-- Laws of what is shown and seen: of pages that are put, and of the bits that they turn.
use Rattle.std.proofs.Common.{◌≡◌, ℕ, ◌+◌, ◌%◌, ◌<◌, ◌≤◌, List, [], ◌∷◌, length, refl, subst, sym, ap, ◌∙◌, arith, inl, inr, get_or-set_same, get_or-set_other, length-set}
use Rattle.std.specs.Prelude.{slice_set, slice_index}
use Rattle.std.specs.Int.{bit_at}
use Rattle.std.specs.Int.Bits.{bit_xor, xor_assoc}
use Rattle.std.proofs.lemmas.Bool.{cases_eq, cases_lt}
use Rattle.std.proofs.lemmas.Nat.{xor_of_8}
use Rattle.std.proofs.lemmas.Nat.Bits.{bit_at_xor, bit_at-lt}
use Rattle.std.proofs.lemmas.List.{ext_get_or, get_or_past}
use Rattle.std.proofs.lemmas.List.FromFn.{length-map-range_with_len, get_or-map-range_with_len}
use Rattle.spec_file.specs.declared.data.Resource.{Resource}
use Rattle.spec_file.specs.Image.{Image, AreBytes, page, page_size}
use Rattle.spec_words.specs.NetChanges.{FileShape}
use Rattle.law_net.specs.Files.{IsImageOf, DifferUnder}
use Rattle.db_locks.specs.Guards.{AgreeUnder, carried}
use Rattle.db_locks.proofs.PageLaws.{turned, kept, turned_at}
use Rattle.db_core.specs.SeenPages.{seen_pages}

-- ---- bytes that are carried over

pub carried_long : (before after seen : List ℕ) → length (carried before after seen) ≡ length seen
unfolding carried
carried_long before after seen = length-map-range_with_len (turned_at before after seen) 0 (length seen)

pub carried_at : (before after seen : List ℕ) (i : ℕ) → i < length seen → slice_index (carried before after seen) i ≡ turned_at before after seen i
unfolding carried
carried_at before after seen i lt = get_or-map-range_with_len (turned_at before after seen) 0 (length seen) i i 0 lt (omega arith)

-- where nothing is put, all is seen as it was
pub carried_same : (shown seen : List ℕ) → carried shown shown seen ≡ seen
carried_same shown seen = ext_get_or 0 (carried shown shown seen) seen (carried_long shown shown seen) (λ i lt.
    carried_at shown shown seen i (subst (λ n. i < n) (carried_long shown shown seen) lt) ∙ kept (slice_index seen i) (slice_index shown i))

four : (s f h n : ℕ) → bit_xor (bit_xor s (bit_xor f h)) (bit_xor h n) ≡ bit_xor s (bit_xor f n)
four s f h n = xor_assoc s (bit_xor f h) (bit_xor h n) ∙ ap (bit_xor s) (xor_assoc f h (bit_xor h n) ∙ ap (bit_xor f) (turned h n))

-- one put after others
pub carried_on : (first shown from seen : List ℕ) → carried shown from (carried first shown seen) ≡ carried first from seen
carried_on first shown from seen =
    let once = carried first shown seen in
    ext_get_or 0 (carried shown from once) (carried first from seen)
    (carried_long shown from once ∙ carried_long first shown seen ∙ sym (carried_long first from seen))
    (λ i lt.
    let there : i < length once = subst (λ n. i < n) (carried_long shown from once) lt in
    let here : i < length seen = subst (λ n. i < n) (carried_long first shown seen) there in
    carried_at shown from once i there
    ∙ ap (λ x. bit_xor x (bit_xor (slice_index shown i) (slice_index from i))) (carried_at first shown seen i here)
    ∙ four (slice_index seen i) (slice_index first i) (slice_index shown i) (slice_index from i)
    ∙ sym (carried_at first from seen i here))

pub carried_low : (before after seen : List ℕ) → AreBytes before → AreBytes after → AreBytes seen → AreBytes (carried before after seen)
carried_low before after seen b a s i = elim (cases_lt i (length seen)) [
  | inl lt ↦ subst (λ x. x < 256) (sym (carried_at before after seen i lt))
      (xor_of_8 (slice_index seen i) (bit_xor (slice_index before i) (slice_index after i)) (s i) (xor_of_8 (slice_index before i) (slice_index after i) (b i) (a i)))
  | inr ge ↦ subst (λ x. x < 256) (sym (get_or_past (carried before after seen) i 0 (subst (λ n. n ≤ i) (sym (carried_long before after seen)) ge))) (omega arith)
]

-- a byte on which the file and the view agreed is seen as it is shown
pub byte_shown : (first shown seen : List ℕ) (i : ℕ) → i < length seen → slice_index first i ≡ slice_index seen i → slice_index shown i ≡ slice_index (carried first shown seen) i
byte_shown first shown seen i lt same =
    sym (carried_at first shown seen i lt ∙ ap (λ x. bit_xor (slice_index seen i) (bit_xor x (slice_index shown i))) same ∙ turned (slice_index seen i) (slice_index shown i))

turned_bits : (s f h j : ℕ) → bit_at (bit_xor s (bit_xor f h)) j ≡ (bit_at s j + (bit_at f j + bit_at h j) % 2) % 2
turned_bits s f h j = bit_at_xor s (bit_xor f h) j ∙ ap (λ x. (bit_at s j + x) % 2) (bit_at_xor f h j)

shown_bit : (f h : ℕ) → f < 2 → h < 2 → (f + (f + h) % 2) % 2 ≡ h
shown_bit f h a b = omega (arith, a, b)

kept_bit : (s f : ℕ) → s < 2 → (s + (f + f) % 2) % 2 ≡ s
kept_bit s f a = omega (arith, a)

-- and so is a bit
pub bit_shown : (first shown seen : List ℕ) (i j : ℕ) → i < length seen → bit_at (slice_index first i) j ≡ bit_at (slice_index seen i) j →
    bit_at (slice_index shown i) j ≡ bit_at (slice_index (carried first shown seen) i) j
bit_shown first shown seen i j lt same =
    let s = slice_index seen i in
    let f = slice_index first i in
    let h = slice_index shown i in
    sym (ap (λ x. bit_at x j) (carried_at first shown seen i lt) ∙ turned_bits s f h j
    ∙ ap (λ x. (x + (bit_at f j + bit_at h j) % 2) % 2) (sym same) ∙ shown_bit (bit_at f j) (bit_at h j) (bit_at-lt f j) (bit_at-lt h j))

-- a bit that is shown as at first is seen as at first
pub bit_kept : (first shown seen : List ℕ) (i j : ℕ) → i < length seen → bit_at (slice_index first i) j ≡ bit_at (slice_index shown i) j →
    bit_at (slice_index (carried first shown seen) i) j ≡ bit_at (slice_index seen i) j
bit_kept first shown seen i j lt same =
    let s = slice_index seen i in
    let f = slice_index first i in
    let h = slice_index shown i in
    ap (λ x. bit_at x j) (carried_at first shown seen i lt) ∙ turned_bits s f h j
    ∙ ap (λ x. (bit_at s j + (bit_at f j + x) % 2) % 2) (sym same) ∙ kept_bit (bit_at s j) (bit_at f j) (bit_at-lt s j)

-- ---- the pages that are seen

pub seen_long : (first shown start : Image) → length (seen_pages first shown start) ≡ length start
seen_long first shown start = length-map-range_with_len (λ p. carried (page first p) (page shown p) (page start p)) 0 (length start)

nothing_left : (xs : List ℕ) → length xs ≡ 0 → xs ≡ []
nothing_left [] e = refl
nothing_left (x ∷ xs) e = absurd (omega (arith, e))

pub seen_page : (first shown start : Image) (p : ℕ) → page (seen_pages first shown start) p ≡ carried (page first p) (page shown p) (page start p)
seen_page first shown start p = elim (cases_lt p (length start)) [
  | inl lt ↦ get_or-map-range_with_len (λ p. carried (page first p) (page shown p) (page start p)) 0 (length start) p p [] lt (omega arith)
  | inr ge ↦
      get_or_past (seen_pages first shown start) p [] (subst (λ n. n ≤ p) (sym (seen_long first shown start)) ge)
      ∙ sym (nothing_left (carried (page first p) (page shown p) (page start p))
      (carried_long (page first p) (page shown p) (page start p) ∙ ap length (get_or_past start p [] ge)))
]

pub seen_first : (first start : Image) → seen_pages first first start ≡ start
seen_first first start =
    ext_get_or [] (seen_pages first first start) start (seen_long first first start)
    (λ p lt. seen_page first first start p ∙ carried_same (page first p) (page start p))

-- a page is put, and the view has what that turns
pub seen_put : (first shown start : Image) (p : ℕ) (from : List ℕ) → p < length start → length shown ≡ length start →
    seen_pages first (slice_set shown p from) start
    ≡ slice_set (seen_pages first shown start) p (carried (page shown p) from (page (seen_pages first shown start) p))
seen_put first shown start p from inside same =
    let old = seen_pages first shown start in
    let bytes = carried (page shown p) from (page old p) in
    let old_long = seen_long first shown start in
    ext_get_or [] (seen_pages first (slice_set shown p from) start) (slice_set old p bytes)
    (seen_long first (slice_set shown p from) start ∙ sym (length-set old p bytes ∙ old_long))
    (λ q lt. seen_page first (slice_set shown p from) start q ∙ elim (cases_eq q p) [
      | inl e ↦
          ap (λ k. carried (page first q) (page (slice_set shown p from) k) (page start q)) e
          ∙ ap (λ bs. carried (page first q) bs (page start q)) (get_or-set_same shown p from [] (subst (λ n. p < n) (sym same) inside))
          ∙ ap (λ k. carried (page first k) from (page start k)) e
          ∙ sym (carried_on (page first p) (page shown p) from (page start p))
          ∙ ap (carried (page shown p) from) (sym (seen_page first shown start p))
          ∙ sym (ap (λ k. page (slice_set old p bytes) k) e ∙ get_or-set_same old p bytes [] (subst (λ n. p < n) (sym old_long) inside))
      | inr ne ↦
          ap (λ bs. carried (page first q) bs (page start q)) (get_or-set_other shown p q from [] ne)
          ∙ sym (seen_page first shown start q)
          ∙ sym (get_or-set_other old p q bytes [] ne)
    ])

-- ---- images of one file

pub page_long : (shape : FileShape) (image : Image) (p : ℕ) → IsImageOf shape image → p < shape.pages → length (page image p) ≡ page_size
page_long shape image p is lt = is.whole p [] (subst (λ n. p < n) (sym is.pages) lt)

pub seen_image : (shape : FileShape) (first shown start : Image) → IsImageOf shape first → IsImageOf shape shown → IsImageOf shape start → IsImageOf shape (seen_pages first shown start)
seen_image shape first shown start f h s = record {
  file = s.file;
  pages = seen_long first shown start ∙ s.pages;
  whole = λ p d lt.
      let inside : p < length start = subst (λ n. p < n) (seen_long first shown start) lt in
      ap length (get_or-map-range_with_len (λ p. carried (page first p) (page shown p) (page start p)) 0 (length start) p p d inside (omega arith))
      ∙ carried_long (page first p) (page shown p) (page start p) ∙ s.whole p [] inside;
  bytes = λ p. subst AreBytes (sym (seen_page first shown start p)) (carried_low (page first p) (page shown p) (page start p) (f.bytes p) (h.bytes p) (s.bytes p));
}

-- what the file and the view agreed on is seen as it is shown
pub seen_agrees : (shape : FileShape) (r : Resource) (first shown start : Image) (p : ℕ) → IsImageOf shape shown → IsImageOf shape start →
    AgreeUnder r shape p (page first p) (page start p) → AgreeUnder r shape p (page shown p) (page (seen_pages first shown start) p)
seen_agrees shape r first shown start p h s agree i j here low guarded = elim (cases_lt p shape.pages) [
  | inl inside ↦
      bit_shown (page first p) (page shown p) (page start p) i j (subst (λ n. i < n) (sym (page_long shape start p s inside)) here) (agree i j here low guarded)
      ∙ ap (λ bytes. bit_at (slice_index bytes i) j) (sym (seen_page first shown start p))
  | inr past ↦ ap (λ bytes. bit_at (slice_index bytes i) j)
      (get_or_past shown p [] (subst (λ n. n ≤ p) (sym h.pages) past)
      ∙ sym (get_or_past (seen_pages first shown start) p [] (subst (λ n. n ≤ p) (sym (seen_long first shown start ∙ s.pages)) past)))
]

-- what is seen differs only where what is shown does
pub seen_differs : (shape : FileShape) (taken : List Resource) (first shown start : Image) → IsImageOf shape start → DifferUnder shape taken first shown →
    DifferUnder shape taken start (seen_pages first shown start)
seen_differs shape taken first shown start s differ p i j inside here low other = differ p i j inside here low (λ same. other (
    sym (ap (λ bytes. bit_at (slice_index bytes i) j) (seen_page first shown start p)
    ∙ bit_kept (page first p) (page shown p) (page start p) i j (subst (λ n. i < n) (sym (page_long shape start p s inside)) here) same)))
