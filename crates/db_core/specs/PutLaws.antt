-- Pages that were put, rising, and what they make of an image.
use Rattle.std.proofs.Common.{◌≡◌, ℕ, zero, suc, ◌+◌, ◌<◌, ◌≤◌, true, false, eqb, ltb, List, [], ◌∷◌, take, drop, length, Contains, refl, subst, sym, ap, ◌∙◌, arith, inl, inr, get_or-set_same, get_or-set_other, length-set, All}
use Rattle.std.specs.Prelude.{slice_set, if◌then◌else◌, slice_index_or, Result, Ok, Err, OnOk, OnErr}
use Rattle.std.proofs.lemmas.List.Elements.{All-append, All-cons, All-take, All-drop}
use Rattle.std.specs.List.{insert}
use Rattle.std.proofs.lemmas.Bool.{and_parts, eq-eqb, ne_eqb, lt-ltb, le-ltb, ltb-true, ltb-false}
use Rattle.std.proofs.lemmas.List.{set_comm}
use Rattle.spec_file.specs.declared.data.PageNo.{PageNo}
use Rattle.spec_file.specs.Image.{Image, page}
use Rattle.pg_base.specs.declared.page.Page.{Page}
use Rattle.spec_words.specs.NetChanges.{FileShape}
use Rattle.law_net.specs.Files.{IsImageOf}
use Rattle.db_locks.specs.States.{begins_above, are_rising, with_page}
use Rattle.db_locks.proofs.MemoryImages.{Contains-head, Contains-tail, Contains-cons_cases, image_put}
use Rattle.db_core.specs.SeenPages.{with_pages, IsWholePage, StandsAt, FitsAt}

pub stands_inside : (p : PageNo) (put : List PageNo) (k : ℕ) → StandsAt p put k → k < length put
stands_inside p [] k s = absurd s
stands_inside p (q ∷ rest) zero s = omega arith
stands_inside p (q ∷ rest) (suc k) s = let i = stands_inside p rest k s.1 in omega (arith, i)

pub fits_inside : (p : PageNo) (put : List PageNo) (k : ℕ) → FitsAt p put k → k ≤ length put
fits_inside p [] zero s = omega arith
fits_inside p [] (suc k) s = absurd s
fits_inside p (q ∷ rest) zero s = omega arith
fits_inside p (q ∷ rest) (suc k) s = let i = fits_inside p rest k s.1 in omega (arith, i)

-- ---- with one page more

different : (q p : PageNo) → q.0 < p.0 → eqb p.0 q.0 ≡ false
different q p lt = ne_eqb p.0 q.0 (λ e. omega (arith, lt, e))

not_below : (q p : PageNo) → q.0 < p.0 → ltb p.0 q.0 ≡ false
not_below q p lt = le-ltb p.0 q.0 (omega (arith, lt))

behind_lower : (p q : PageNo) (rest : List PageNo) → q.0 < p.0 → with_page p (q ∷ rest) ≡ q ∷ with_page p rest
behind_lower p q rest lt =
    ap (λ b. if b then q ∷ rest else (if ltb p.0 q.0 then p ∷ (q ∷ rest) else q ∷ with_page p rest)) (different q p lt)
    ∙ ap (λ b. if b then p ∷ (q ∷ rest) else q ∷ with_page p rest) (not_below q p lt)

pub put_again : (p : PageNo) (put : List PageNo) (k : ℕ) → StandsAt p put k → with_page p put ≡ put
put_again p [] k s = absurd s
put_again p (q ∷ rest) zero s = ap (λ b. if b then q ∷ rest else (if ltb p.0 q.0 then p ∷ (q ∷ rest) else q ∷ with_page p rest)) (eq-eqb p.0 q.0 (sym s))
put_again p (q ∷ rest) (suc k) s = behind_lower p q rest s.0 ∙ ap (λ l. q ∷ l) (put_again p rest k s.1)

pub put_new : (p : PageNo) (put : List PageNo) (k : ℕ) → FitsAt p put k → with_page p put ≡ insert put k p
put_new p [] zero s = refl
put_new p [] (suc k) s = absurd s
put_new p (q ∷ rest) zero s =
    ap (λ b. if b then q ∷ rest else (if ltb p.0 q.0 then p ∷ (q ∷ rest) else q ∷ with_page p rest)) (ne_eqb p.0 q.0 (λ e. omega (arith, s, e)))
    ∙ ap (λ b. if b then p ∷ (q ∷ rest) else q ∷ with_page p rest) (lt-ltb p.0 q.0 s)
put_new p (q ∷ rest) (suc k) s = behind_lower p q rest s.0 ∙ ap (λ l. q ∷ l) (put_new p rest k s.1)

-- ---- the image

pub with_long : (put : List PageNo) (pages : List Page) (image : Image) → length (with_pages put pages image) ≡ length image
with_long [] pages image = refl
with_long (p ∷ put) [] image = refl
with_long (p ∷ put) (x ∷ pages) image = length-set (with_pages put pages image) p.0 x.bytes ∙ with_long put pages image

set_twice : (image : Image) (n : ℕ) (a b : List ℕ) → slice_set image n b ≡ slice_set (slice_set image n a) n b
set_twice [] n a b = refl
set_twice (x ∷ image) zero a b = refl
set_twice (x ∷ image) (suc n) a b = ap (λ l. x ∷ l) (set_twice image n a b)

moved : (image : Image) (q p : PageNo) (a b : List ℕ) → q.0 < p.0 → slice_set (slice_set image p.0 b) q.0 a ≡ slice_set (slice_set image q.0 a) p.0 b
moved image q p a b lt = set_comm image p.0 q.0 b a (λ e. omega (arith, lt, e))

pub with_again : (p : PageNo) (put : List PageNo) (k : ℕ) (pages : List Page) (x : Page) (image : Image) → StandsAt p put k → length pages ≡ length put →
    with_pages put (slice_set pages k x) image ≡ slice_set (with_pages put pages image) p.0 x.bytes
with_again p [] k pages x image s same = absurd s
with_again p (q ∷ rest) k [] x image s same = absurd (omega (arith, same))
with_again p (q ∷ rest) zero (y ∷ pages) x image s same =
    ap (λ n. slice_set (with_pages rest pages image) n x.bytes) s
    ∙ set_twice (with_pages rest pages image) p.0 y.bytes x.bytes
    ∙ ap (λ n. slice_set (slice_set (with_pages rest pages image) n y.bytes) p.0 x.bytes) (sym s)
with_again p (q ∷ rest) (suc k) (y ∷ pages) x image s same =
    ap (λ m. slice_set m q.0 y.bytes) (with_again p rest k pages x image s.1 (omega (arith, same)))
    ∙ moved (with_pages rest pages image) q p y.bytes x.bytes s.0

pub with_new : (p : PageNo) (put : List PageNo) (k : ℕ) (pages : List Page) (x : Page) (image : Image) → FitsAt p put k → length pages ≡ length put →
    with_pages (insert put k p) (insert pages k x) image ≡ slice_set (with_pages put pages image) p.0 x.bytes
with_new p [] zero [] x image s same = refl
with_new p [] zero (y ∷ pages) x image s same = absurd (omega (arith, same))
with_new p [] (suc k) pages x image s same = absurd s
with_new p (q ∷ rest) k [] x image s same = absurd (omega (arith, same))
with_new p (q ∷ rest) zero (y ∷ pages) x image s same = refl
with_new p (q ∷ rest) (suc k) (y ∷ pages) x image s same =
    ap (λ m. slice_set m q.0 y.bytes) (with_new p rest k pages x image s.1 (omega (arith, same)))
    ∙ moved (with_pages rest pages image) q p y.bytes x.bytes s.0

-- ---- what is shown

pub shown_put : (p : PageNo) (put : List PageNo) (k : ℕ) (pages : List Page) (d : Page) (image : Image) → StandsAt p put k → length pages ≡ length put → p.0 < length image →
    page (with_pages put pages image) p.0 ≡ (slice_index_or pages k d).bytes
shown_put p [] k pages d image s same inside = absurd s
shown_put p (q ∷ rest) k [] d image s same inside = absurd (omega (arith, same))
shown_put p (q ∷ rest) zero (y ∷ pages) d image s same inside =
    ap (λ n. page (slice_set (with_pages rest pages image) n y.bytes) p.0) s
    ∙ get_or-set_same (with_pages rest pages image) p.0 y.bytes [] (subst (λ n. p.0 < n) (sym (with_long rest pages image)) inside)
shown_put p (q ∷ rest) (suc k) (y ∷ pages) d image s same inside =
    get_or-set_other (with_pages rest pages image) q.0 p.0 y.bytes [] (λ e. let lt = s.0 in omega (arith, lt, e))
    ∙ shown_put p rest k pages d image s.1 (omega (arith, same)) inside

-- higher than the first is each of the others
above_all : (n : ℕ) (rest : List PageNo) (y : PageNo) → begins_above n rest ≡ true → are_rising rest ≡ true → Contains rest y → n < y.0
above_all n [] y above rising h = absurd (omega (arith, h.1))
above_all n (q ∷ rest) y above rising h =
    let first = ltb-true n q.0 above in
    let parts = and_parts (begins_above q.0 rest) (are_rising rest) rising in
    elim (Contains-cons_cases q rest y h) [
      | inl e ↦ subst (λ (z : PageNo). n < z.0) e first
      | inr r ↦ let later = above_all q.0 rest y parts.0 parts.1 r in omega (arith, first, later)
    ]

pub not_put : (p : PageNo) (put : List PageNo) (k : ℕ) → are_rising put ≡ true → FitsAt p put k → Contains put p → ⊥
not_put p [] k rising s h = absurd (omega (arith, h.1))
not_put p (q ∷ rest) zero rising s h =
    let parts = and_parts (begins_above q.0 rest) (are_rising rest) rising in
    elim (Contains-cons_cases q rest p h) [
      | inl e ↦ (let same = ap (λ (z : PageNo). z.0) e in omega (arith, s, same))
      | inr r ↦ (let later = above_all q.0 rest p parts.0 parts.1 r in omega (arith, s, later))
    ]
not_put p (q ∷ rest) (suc k) rising s h =
    let parts = and_parts (begins_above q.0 rest) (are_rising rest) rising in
    let lt = s.0 in
    elim (Contains-cons_cases q rest p h) [
      | inl e ↦ (let same = ap (λ (z : PageNo). z.0) e in omega (arith, lt, same))
      | inr r ↦ not_put p rest k parts.1 s.1 r
    ]

-- a page that wasn't put is shown as it was
pub shown_other : (p : PageNo) (put : List PageNo) (pages : List Page) (image : Image) → (Contains put p → ⊥) → page (with_pages put pages image) p.0 ≡ page image p.0
shown_other p [] pages image other = refl
shown_other p (q ∷ rest) [] image other = refl
shown_other p (q ∷ rest) (y ∷ pages) image other =
    get_or-set_other (with_pages rest pages image) q.0 p.0 y.bytes [] (λ e. other (subst (λ (z : PageNo). Contains (q ∷ rest) z) (sym (ap (λ n. record { 0 = n }) e)) (Contains-head q rest)))
    ∙ shown_other p rest pages image (λ h. other (Contains-tail q rest p h))

rest_whole : (x : Page) (pages : List Page) → All IsWholePage (x ∷ pages) → All IsWholePage pages
rest_whole x pages whole k d lt = whole (suc k) d (omega (arith, lt))

pub image_with : (shape : FileShape) (put : List PageNo) (pages : List Page) (image : Image) → All IsWholePage pages → IsImageOf shape image → IsImageOf shape (with_pages put pages image)
image_with shape [] pages image whole is = is
image_with shape (p ∷ put) [] image whole is = is
image_with shape (p ∷ put) (x ∷ pages) image whole is =
    let first = whole 0 x (omega arith) in
    image_put shape (with_pages put pages image) p.0 x.bytes first.0 first.1 (image_with shape put pages image (rest_whole x pages whole) is)

-- ---- where a page stands, from a search

rises_next : (put : List PageNo) → are_rising put ≡ true → (k : ℕ) (d : PageNo) → suc k < length put → (slice_index_or put k d).0 ≤ (slice_index_or put (suc k) d).0
rises_next [] rising k d lt = absurd (omega (arith, lt))
rises_next (q ∷ []) rising k d lt = absurd (omega (arith, lt))
rises_next (q ∷ (u ∷ rest)) rising zero d lt =
    let first = ltb-true q.0 u.0 (and_parts (ltb q.0 u.0) (are_rising (u ∷ rest)) rising).0 in
    omega (arith, first)
rises_next (q ∷ (u ∷ rest)) rising (suc k) d lt =
    rises_next (u ∷ rest) (and_parts (ltb q.0 u.0) (are_rising (u ∷ rest)) rising).1 k d (omega (arith, lt))

pub rises : (put : List PageNo) → are_rising put ≡ true → (k : ℕ) (d : PageNo) → k + 1 < length put → (slice_index_or put k d).0 ≤ (slice_index_or put (k + 1) d).0
rises put rising k d lt =
    let next : suc k ≡ k + 1 = omega arith in
    subst (λ n. (slice_index_or put k d).0 ≤ (slice_index_or put n d).0) next (rises_next put rising k d (omega (arith, lt)))

abbrev Below : PageNo → List PageNo → ℕ → Type 0
Below p put k = (i : ℕ) (d : PageNo) → 0 ≤ i → i < k → ltb (slice_index_or put i d).0 p.0 ≡ true

below_rest : (p q : PageNo) (rest : List PageNo) (k : ℕ) → Below p (q ∷ rest) (suc k) → Below p rest k
below_rest p q rest k below i d low lt = below (suc i) d (omega arith) (omega (arith, lt))

pub stands_from : (p : PageNo) (put : List PageNo) (k : ℕ) (d : PageNo) → Below p put k → k < length put → (slice_index_or put k d).0 ≡ p.0 → StandsAt p put k
stands_from p [] k d below inside at = omega (arith, inside)
stands_from p (q ∷ rest) zero d below inside at = at
stands_from p (q ∷ rest) (suc k) d below inside at = (
  ltb-true q.0 p.0 (below 0 q (omega arith) (omega arith)),
  stands_from p rest k d (below_rest p q rest k below) (omega (arith, inside)) at,
)

pub fits_from : (p : PageNo) (put : List PageNo) (k : ℕ) (d : PageNo) → Below p put k → k ≤ length put → (k < length put → p.0 < (slice_index_or put k d).0) → FitsAt p put k
fits_from p [] zero d below inside above = tt
fits_from p [] (suc k) d below inside above = omega (arith, inside)
fits_from p (q ∷ rest) zero d below inside above = above (omega arith)
fits_from p (q ∷ rest) (suc k) d below inside above = (
  ltb-true q.0 p.0 (below 0 q (omega arith) (omega arith)),
  fits_from p rest k d (below_rest p q rest k below) (omega (arith, inside)) (λ lt. above (omega (arith, lt))),
)

pub fits_behind : (p : PageNo) (put : List PageNo) (k : ℕ) (d : PageNo) → Below p put k → ((i : ℕ) (d : PageNo) → k ≤ i → i < length put → ltb (slice_index_or put i d).0 p.0 ≡ false) →
    k ≤ length put → ((slice_index_or put k d).0 ≡ p.0 → ⊥) → FitsAt p put k
fits_behind p put k d below behind inside differ = fits_from p put k d below inside (λ lt.
    let low = ltb-false (slice_index_or put k d).0 p.0 (behind k d (omega arith) lt) in
    omega (arith, low, differ))

-- ---- a page is put for the first time, or there was no memory

pub put_or_not : {T E : Type 0} (result : Result T E) (p : PageNo) (put : List PageNo) (k : ℕ) (after : List PageNo) → FitsAt p put k →
    OnOk result (after ≡ insert put k p) → OnOk result (after ≡ with_page p put)
put_or_not (Ok _) p put k after fits is = is ∙ sym (put_new p put k fits)
put_or_not (Err _) p put k after fits is = tt

pub image_or_not : {T E : Type 0} (result : Result T E) (p : PageNo) (put : List PageNo) (k : ℕ) (pages : List Page) (x : Page) (after : List PageNo) (shown : List Page) → FitsAt p put k →
    length pages ≡ length put → OnOk result (after ≡ insert put k p) → OnOk result (shown ≡ insert pages k x) →
    OnOk result ((image : Image) → with_pages after shown image ≡ slice_set (with_pages put pages image) p.0 x.bytes)
image_or_not (Ok _) p put k pages x after shown fits long is are = λ image.
    ap (λ l. with_pages l shown image) is ∙ ap (λ l. with_pages (insert put k p) l image) are ∙ with_new p put k pages x image fits long
image_or_not (Err _) p put k pages x after shown fits long is are = tt

pub whole_or_not : {T E : Type 0} (result : Result T E) (k : ℕ) (pages : List Page) (x : Page) (shown : List Page) → IsWholePage x →
    OnOk result (shown ≡ insert pages k x) → OnErr result (shown ≡ pages) → All IsWholePage pages → All IsWholePage shown
whole_or_not (Ok _) k pages x shown whole are same all =
    subst (λ l. All IsWholePage l) (sym are)
    (All-append IsWholePage (take k pages) (x ∷ drop k pages) (All-take IsWholePage k pages all) (All-cons IsWholePage x (drop k pages) whole (All-drop IsWholePage k pages all)))
whole_or_not (Err _) k pages x shown whole are same all = subst (λ l. All IsWholePage l) (sym same) all
