-- What a statement may take is no more than the file has.
use Rattle.std.proofs.Common.{◌≡◌, ℕ, ◌+◌, ◌*◌, ◌/◌, ◌<◌, ◌≤◌, true, List, [], ◌∷◌, length, ◌⊎◌, inl, inr, sym, ap, ◌∙◌, subst, arith}
use Rattle.spec_file.specs.declared.data.ObjId.{ObjId}
use Rattle.spec_file.specs.declared.data.Resource.{Resource}
use Rattle.spec_file.specs.declared.data.Resource.TheVariants as resource
use Rattle.spec_file.specs.declared.geometry.Geometry.{Geometry}
use Rattle.spec_file.specs.declared.geometry.Geometry.TheVariants.{Standard, Small}
use Rattle.spec_file.specs.Places.{HasShape, page_limit}
use Rattle.spec_log.specs.Items.{grain_of, number_of}
use Rattle.spec_words.specs.NetChanges.{FileShape}
use Rattle.spec_words.specs.Takes.{is_among, comes_before, takes_at}
use Rattle.spec_words.specs.Views.{View}
use Rattle.law_net.specs.GoodViews.{MayTake, IsGoodView}
use Rattle.law_net.proofs.Takes.{AllOf, Rise, Before, all_weaker, before_from, takes_rise, takes_taken}

-- the place of a resource among all of a file, in the order of takes, where all tables have one
abbrev rank : FileShape → Resource → ℕ
rank shape resource.Catalog = 0
rank shape (resource.Table o) = 1
rank shape (resource.Extent e) = 2 + e.0
rank shape (resource.Byte p) = 2 + shape.pages / 8 + p.0
rank shape (resource.Page p) = 2 + shape.pages / 8 + shape.pages + p.0

abbrev rank_limit : FileShape → ℕ
rank_limit shape = 2 + shape.pages / 8 + 2 * shape.pages

-- it was taken, and might be
abbrev IsTaken : View → Resource → Type 0
IsTaken view r = (is_among view.taken r ≡ true) × MayTake view r

rank_low : (view : View) (r : Resource) → MayTake view r → rank view.shape r < rank_limit view.shape
rank_low view resource.Catalog may = omega arith
rank_low view (resource.Table o) may = omega arith
rank_low view (resource.Extent e) may = omega (arith, may)
rank_low view (resource.Byte p) may = omega (arith, may)
rank_low view (resource.Page p) may = omega (arith, may)

within : (a x y : ℕ) → (a < a) ⊎ ((a ≡ a) × (x < y)) → x < y
within a x y (inl lt) = absurd (omega (arith, lt))
within a x y (inr h) = h.1

never : (a b x y : ℕ) → b < a → (a < b) ⊎ ((a ≡ b) × (x < y)) → ⊥
never a b x y gt (inl lt) = omega (arith, gt, lt)
never a b x y gt (inr h) = let e = h.0 in omega (arith, gt, e)

-- ranks rise in the order of takes
rank_rises : (view : View) (r s : Resource) → Before r s → IsTaken view r → IsTaken view s → rank view.shape r < rank view.shape s
rank_rises view resource.Catalog resource.Catalog b x y = let lt = within 1 0 0 b in absurd (omega (arith, lt))
rank_rises view resource.Catalog (resource.Table o) b x y = omega arith
rank_rises view resource.Catalog (resource.Extent e) b x y = omega arith
rank_rises view resource.Catalog (resource.Byte p) b x y = omega arith
rank_rises view resource.Catalog (resource.Page p) b x y = omega arith
rank_rises view (resource.Table o) resource.Catalog b x y = absurd (never 2 1 o.0 0 (omega arith) b)
rank_rises view (resource.Table o) (resource.Table q) b x y =
    let lt = within 2 o.0 q.0 b in
    let same : o.0 ≡ q.0 = ap (λ (i : ObjId). i.0) (y.1 o x.0) in
    absurd (omega (arith, lt, same))
rank_rises view (resource.Table o) (resource.Extent e) b x y = omega arith
rank_rises view (resource.Table o) (resource.Byte p) b x y = omega arith
rank_rises view (resource.Table o) (resource.Page p) b x y = omega arith
rank_rises view (resource.Extent e) resource.Catalog b x y = absurd (never 3 1 e.0 0 (omega arith) b)
rank_rises view (resource.Extent e) (resource.Table q) b x y = absurd (never 3 2 e.0 q.0 (omega arith) b)
rank_rises view (resource.Extent e) (resource.Extent q) b x y = let lt = within 3 e.0 q.0 b in omega (arith, lt)
rank_rises view (resource.Extent e) (resource.Byte p) b x y = let in_file = x.1 in omega (arith, in_file)
rank_rises view (resource.Extent e) (resource.Page p) b x y = let in_file = x.1 in omega (arith, in_file)
rank_rises view (resource.Byte p) resource.Catalog b x y = absurd (never 4 1 p.0 0 (omega arith) b)
rank_rises view (resource.Byte p) (resource.Table q) b x y = absurd (never 4 2 p.0 q.0 (omega arith) b)
rank_rises view (resource.Byte p) (resource.Extent e) b x y = absurd (never 4 3 p.0 e.0 (omega arith) b)
rank_rises view (resource.Byte p) (resource.Byte q) b x y = let lt = within 4 p.0 q.0 b in omega (arith, lt)
rank_rises view (resource.Byte p) (resource.Page q) b x y = let in_file = x.1 in omega (arith, in_file)
rank_rises view (resource.Page p) resource.Catalog b x y = absurd (never 5 1 p.0 0 (omega arith) b)
rank_rises view (resource.Page p) (resource.Table q) b x y = absurd (never 5 2 p.0 q.0 (omega arith) b)
rank_rises view (resource.Page p) (resource.Extent e) b x y = absurd (never 5 3 p.0 e.0 (omega arith) b)
rank_rises view (resource.Page p) (resource.Byte q) b x y = absurd (never 5 4 p.0 q.0 (omega arith) b)
rank_rises view (resource.Page p) (resource.Page q) b x y = let lt = within 5 p.0 q.0 b in omega (arith, lt)

both : (P Q : Resource → Type 0) (rs : List Resource) → AllOf P rs → AllOf Q rs → AllOf (λ r. P r × Q r) rs
both P Q [] p q = tt
both P Q (r ∷ rs) p q = ((p.0, q.0), both P Q rs p.1 q.1)

-- so many rising numbers below a limit are no more than the limit
few_between : (view : View) (rs : List Resource) (low : ℕ) → Rise rs → AllOf (IsTaken view) rs → AllOf (λ r. low ≤ rank view.shape r) rs → low ≤ rank_limit view.shape →
    length rs + low ≤ rank_limit view.shape
few_between view [] low rise taken above le = omega (arith, le)
few_between view (r ∷ rs) low rise taken above le =
    let here = rank view.shape r in
    let lt = rank_low view r taken.0.1 in
    let at = above.0 in
    let rest = few_between view rs (here + 1) rise.1 taken.1
    (all_weaker (λ s. (comes_before r s ≡ true) × IsTaken view s) (λ s. here + 1 ≤ rank view.shape s) rs
    (λ s h. let up = rank_rises view r s (before_from r s h.0) taken.0 h.1 in omega (arith, up)) (both _ (IsTaken view) rs rise.0 taken.1)) (omega (arith, lt)) in
    omega (arith, at, rest)

pub limit_low : (g : Geometry) (pages : ℕ) → pages ≤ page_limit g → pages ≤ 524288
limit_low Standard pages le = le
limit_low Small pages le = omega (arith, le)

pub takes_few : (view : View) → IsGoodView view → HasShape view.shape.geometry view.shape.pages → length (takes_at view) < 4294967296
takes_few view good file =
    let rs = takes_at view in
    let among = takes_taken view.shape view.own view.taken view.start view.now in
    let low = limit_low view.shape.geometry view.shape.pages file.high in
    let n = few_between view rs 0 (takes_rise view.shape view.own view.taken view.start view.now)
    (all_weaker (λ r. is_among view.taken r ≡ true) (IsTaken view) rs (λ r h. (h, good.known r h)) among)
    (all_weaker (λ r. is_among view.taken r ≡ true) (λ r. 0 ≤ rank view.shape r) rs (λ r h. omega arith) among) (omega arith) in
    omega (arith, n, low)
