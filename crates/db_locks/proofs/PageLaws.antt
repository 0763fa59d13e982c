-- Bytes of pages: what a look tells of them, and what a put changes.
use Rattle.std.proofs.Common.{◌≡◌, ◌≢◌, ℕ, ◌+◌, ◌-◌, ◌<◌, leb, ltb, ◌&&◌, true, List, [], ◌∷◌, length, Option, Some, get_or-set_same, get_or-set_other, inl, inr, refl, sym, ap, ◌∙◌, subst, arith}
use Rattle.std.specs.Prelude.{slice_index, slice_set, IsSomeAnd, ◌⊎◌}
use Rattle.std.specs.Int.{bit_at}
use Rattle.std.specs.Int.Bits.{bit_xor, xor_self, xor_zero_l, xor_zero_r, xor_assoc}
use Rattle.std.proofs.lemmas.Bool.{cases_eq, cond_both}
use Rattle.std.proofs.lemmas.Bool.Decides.{nat_tests}
use Rattle.std.proofs.lemmas.List.{ext_get_or}
use Rattle.std.proofs.lemmas.List.FromFn.{length-map-range_with_len, get_or-map-range_with_len}
use Rattle.std.proofs.lemmas.Nat.Bits.{same_from_bits_below}
use Rattle.spec_file.specs.declared.data.Resource.{Resource}
use Rattle.spec_file.specs.declared.data.Resource.TheVariants as resource
use Rattle.spec_file.specs.declared.geometry.Geometry.{Geometry}
use Rattle.spec_file.specs.declared.geometry.Geometry.TheVariants.{Standard, Small}
use Rattle.spec_file.specs.Image.{AreBytes, page_size}
use Rattle.spec_file.specs.Places.{HasShape, pfs_place}
use Rattle.spec_file.specs.Roles.{is_ordinary}
use Rattle.spec_log.specs.Cells.{with_bytes, byte_with}
use Rattle.spec_log.specs.Cover.{byte_guard}
use Rattle.law_cover.proofs.Places.{pages_guard_bytes}
use Rattle.law_cover.proofs.Pages.{pages_guard_themselves, catalog_guards_boot}
use Rattle.spec_words.specs.NetChanges.{FileShape}
use Rattle.spec_words.specs.Takes.{is_among}
use Rattle.law_net.specs.Files.{IsGuardedBy}
use Rattle.db_locks.specs.Guards.{AgreeUnder, DifferOnPage, carried}

-- ---- what a put changes

pub turned : (s a : ℕ) → bit_xor s (bit_xor s a) ≡ a
turned s a = sym (xor_assoc s s a) ∙ ap (λ z. bit_xor z a) (xor_self s) ∙ xor_zero_l a

pub kept : (s b : ℕ) → bit_xor s (bit_xor b b) ≡ s
kept s b = ap (λ z. bit_xor s z) (xor_self b) ∙ xor_zero_r s

abbrev pub turned_at : List ℕ → List ℕ → List ℕ → ℕ → ℕ
turned_at before after seen i = bit_xor (slice_index seen i) (bit_xor (slice_index before i) (slice_index after i))

-- what is carried over is known by its bytes
pub carried_bytes : (before after seen : List ℕ) (off : ℕ) (bytes : List ℕ) → ((i : ℕ) → i < length seen → turned_at before after seen i ≡ byte_with seen off bytes i)
    → carried before after seen ≡ with_bytes seen off bytes
unfolding carried
carried_bytes before after seen off bytes same =
    ext_get_or 0 (carried before after seen) (with_bytes seen off bytes) (length-map-range_with_len (turned_at before after seen) 0 (length seen) ∙ sym (length-map-range_with_len (byte_with seen off bytes) 0 (length seen)))
    (λ i lt.
    let here : i < length seen = subst (λ n. i < n) (length-map-range_with_len (turned_at before after seen) 0 (length seen)) lt in
    get_or-map-range_with_len (turned_at before after seen) 0 (length seen) i i 0 here (omega arith)
    ∙ same i here
    ∙ sym (get_or-map-range_with_len (byte_with seen off bytes) 0 (length seen) i i 0 here (omega arith)))

-- one byte of a page is put, on which what was shown and what is seen agree
pub carried_byte : (before seen : List ℕ) (at byte : ℕ) → at < length before → slice_index before at ≡ slice_index seen at
    → carried before (slice_set before at byte) seen ≡ with_bytes seen at (byte ∷ [])
carried_byte before seen at byte lt same = carried_bytes before (slice_set before at byte) seen at (byte ∷ []) (λ i here.
    cond_both (leb at i && ltb i (at + 1)) (slice_index (byte ∷ []) (i - at)) (slice_index seen i) (λ z. turned_at before (slice_set before at byte) seen i ≡ z)
    (λ e. inside i (grind (arith, nat_tests, e)))
    (λ e. outside i (λ s. absurd (grind (arith, nat_tests, e, s)))))
  where
    inside : (i : ℕ) → at ≡ i → turned_at before (slice_set before at byte) seen i ≡ slice_index (byte ∷ []) (i - at)
    inside i s = subst (λ (k : ℕ). turned_at before (slice_set before at byte) seen k ≡ slice_index (byte ∷ []) (k - at)) s (here ∙ ap (λ k. slice_index (byte ∷ []) k) none)
      where
        none : 0 ≡ at - at
        none = omega arith

        here : turned_at before (slice_set before at byte) seen at ≡ byte
        here = ap (λ y. bit_xor (slice_index seen at) (bit_xor (slice_index before at) y)) (get_or-set_same before at byte 0 lt)
            ∙ ap (λ y. bit_xor (slice_index seen at) (bit_xor y byte)) same ∙ turned (slice_index seen at) byte

    outside : (i : ℕ) → at ≢ i → turned_at before (slice_set before at byte) seen i ≡ slice_index seen i
    outside i ne = ap (λ y. bit_xor (slice_index seen i) (bit_xor (slice_index before i) y)) (get_or-set_other before at i byte 0 (λ s. ne (sym s))) ∙ kept (slice_index seen i) (slice_index before i)

-- a whole page is put, which was shown as it is seen
pub carried_page : (seen after : List ℕ) → length after ≡ length seen → carried seen after seen ≡ with_bytes seen 0 after
carried_page seen after same = carried_bytes seen after seen 0 after (λ i lt.
    turned (slice_index seen i) (slice_index after i)
    ∙ cond_both (leb 0 i && ltb i (0 + length after)) (slice_index after (i - 0)) (slice_index seen i) (λ z. slice_index after i ≡ z)
    (λ e. let none : i ≡ i - 0 = omega arith in ap (λ k. slice_index after k) none)
    (λ e. absurd (grind (arith, nat_tests, e, lt, same))))

-- ---- what a look tells

pub fits_some : (o : Option Resource) (r : Resource) (Fits : Resource → Type 0) → o ≡ Some r → Fits r → IsSomeAnd o Fits
fits_some o r Fits e h = subst (λ (o : Option Resource). IsSomeAnd o Fits) (sym e) h

-- a PFS byte stands inside its page
pub low_offset : (g : Geometry) (p : ℕ) → (pfs_place g p).at < page_size
low_offset Standard p = omega arith
low_offset Small p = omega arith

pub inside_page : (g : Geometry) (p at : ℕ) (bytes : List ℕ) → at ≡ (pfs_place g p).at → length bytes ≡ page_size → at < length bytes
inside_page g p at bytes e long = subst (λ k. k < length bytes) (sym e) (subst (λ n. (pfs_place g p).at < n) (sym long) (low_offset g p))

-- the resource of a page's PFS byte guards its bits
byte_guarded : (shape : FileShape) (p j : ℕ) (Fits : Resource → Type 0) → HasShape shape.geometry shape.pages → p < shape.pages → Fits (resource.Byte (record { 0 = p }))
    → IsGuardedBy Fits shape (pfs_place shape.geometry p).page (pfs_place shape.geometry p).at j
byte_guarded shape p j Fits file lt h =
    inl (fits_some (byte_guard shape.geometry shape.pages (pfs_place shape.geometry p).page (pfs_place shape.geometry p).at) (resource.Byte (record { 0 = p })) Fits (pages_guard_bytes shape.geometry shape.pages p file.low lt) h)

-- an ordinary page guards its bits
page_guarded : (shape : FileShape) (p i j : ℕ) (Fits : Resource → Type 0) → p < shape.pages → is_ordinary shape.geometry p ≡ true → Fits (resource.Page (record { 0 = p })) → IsGuardedBy Fits shape p i j
page_guarded shape p i j Fits lt ordinary h = inl (fits_some (byte_guard shape.geometry shape.pages p i) (resource.Page (record { 0 = p })) Fits (pages_guard_themselves shape.geometry shape.pages p i lt ordinary) h)

-- a look under a PFS byte's resource tells the byte
pub told_byte : (shape : FileShape) (p : ℕ) (shown seen : List ℕ) → HasShape shape.geometry shape.pages → p < shape.pages → AreBytes shown → AreBytes seen
    → AgreeUnder (resource.Byte (record { 0 = p })) shape (pfs_place shape.geometry p).page shown seen
    → slice_index shown (pfs_place shape.geometry p).at ≡ slice_index seen (pfs_place shape.geometry p).at
told_byte shape p shown seen file lt a b agree =
    let at = (pfs_place shape.geometry p).at in
    same_from_bits_below 8 (slice_index shown at) (slice_index seen at) (a at) (b at)
    (λ j low. agree at j (low_offset shape.geometry p) low (byte_guarded shape p j (λ s. s ≡ resource.Byte (record { 0 = p })) file lt refl))

-- a look under an ordinary page's resource tells the page
pub told_page : (shape : FileShape) (p : ℕ) (shown seen : List ℕ) → p < shape.pages → is_ordinary shape.geometry p ≡ true → AreBytes shown → AreBytes seen → length shown ≡ page_size → length seen ≡ page_size
    → AgreeUnder (resource.Page (record { 0 = p })) shape p shown seen → shown ≡ seen
told_page shape p shown seen lt ordinary a b long long' agree = ext_get_or 0 shown seen (long ∙ sym long') (λ i here.
    same_from_bits_below 8 (slice_index shown i) (slice_index seen i) (a i) (b i)
    (λ j low. agree i j (subst (λ n. i < n) long here) low (page_guarded shape p i j (λ s. s ≡ resource.Page (record { 0 = p })) lt ordinary refl)))

-- a look under the catalog's resource tells page 9
pub told_catalog : (shape : FileShape) (shown seen : List ℕ) → 9 < shape.pages → AreBytes shown → AreBytes seen → length shown ≡ page_size → length seen ≡ page_size
    → AgreeUnder resource.Catalog shape 9 shown seen → shown ≡ seen
told_catalog shape shown seen lt a b long long' agree =
    ext_get_or 0 shown seen (long ∙ sym long')
    (λ i here. same_from_bits_below 8 (slice_index shown i) (slice_index seen i) (a i) (b i)
    (λ j low. agree i j (subst (λ n. i < n) long here) low
    (inl (fits_some (byte_guard shape.geometry shape.pages 9 i) resource.Catalog (λ s. s ≡ resource.Catalog) (catalog_guards_boot shape.geometry shape.pages i lt) refl))))

-- ---- what may be put

pub byte_differs : (shape : FileShape) (p byte : ℕ) (taken : List Resource) (shown : List ℕ) → HasShape shape.geometry shape.pages → p < shape.pages → is_among taken (resource.Byte (record { 0 = p })) ≡ true
    → DifferOnPage taken shape (pfs_place shape.geometry p).page shown (slice_set shown (pfs_place shape.geometry p).at byte)
byte_differs shape p byte taken shown file lt mine i j here low ne = by_case (cases_eq i (pfs_place shape.geometry p).at)
  where
    by_case : (i ≡ (pfs_place shape.geometry p).at) ⊎ (i ≢ (pfs_place shape.geometry p).at) → IsGuardedBy (λ r. is_among taken r ≡ true) shape (pfs_place shape.geometry p).page i j
    by_case (inl e) = subst (λ (k : ℕ). IsGuardedBy (λ r. is_among taken r ≡ true) shape (pfs_place shape.geometry p).page k j) (sym e)
        (byte_guarded shape p j (λ r. is_among taken r ≡ true) file lt mine)
    by_case (inr other) = absurd (ne (ap (λ x. bit_at x j) (sym (get_or-set_other shown (pfs_place shape.geometry p).at i byte 0 other))))

pub page_differs : (shape : FileShape) (p : ℕ) (taken : List Resource) (shown after : List ℕ) → p < shape.pages → is_ordinary shape.geometry p ≡ true → is_among taken (resource.Page (record { 0 = p })) ≡ true
    → DifferOnPage taken shape p shown after
page_differs shape p taken shown after lt ordinary mine i j here low ne = page_guarded shape p i j (λ r. is_among taken r ≡ true) lt ordinary mine
