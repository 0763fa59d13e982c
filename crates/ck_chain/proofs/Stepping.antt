-- A walk goes on by one page of the chain.
use Rattle.std.proofs.Common.{◌≡◌, ◌≢◌, ◌⊎◌, ◌↔◌, ℕ, suc, ◌+◌, ◌<◌, ◌==◌, true, false, IsTrue, if◌then◌else◌, List, length, set, get_or, arith, rules, sym, subst, ap, inl, inr, ⊎_elim, refl, ◌∙◌}
use Rattle.std.proofs.lemmas.Bool.{cases_eq, ne_eqb}
use Rattle.std.proofs.lemmas.List.{get_or-set_other, get_or-set_same, length-set}
use Rattle.spec_file.specs.Image.{Image, page}
use Rattle.spec_file.specs.CatalogRows.{CatalogRow}
use Rattle.spec_file.specs.Iam.{iam_interval}
use Rattle.spec_chain.specs.Chains.{pointer, holder, next_of, IsMet}
use Rattle.spec_check.specs.Chains.{before, interval_at}
use Rattle.ck_chain.specs.declared.walk.Walk.{Walk}
use Rattle.ck_chain.specs.declared.walk.Owner.{Owner}
use Rattle.ck_chain.specs.Walks.{IsWalk, IsFirstBefore, GoesOnBehind}
use Rattle.ck_chain.proofs.Looking.{IsOwner}

upto : (j k : ℕ) → j < k + 1 → (j < k) ⊎ (j ≡ k)
upto j k h = search (rules, arith)

more : (k : ℕ) → suc k ≡ k + 1
more k = omega arith

-- the first page of an interval behind the k-th page
first_more : (image : Image) (row : CatalogRow) (k m f : ℕ) → pointer image row k ≢ 0 → IsFirstBefore image row k m f
    → ((interval_at image row k ≡ m) → IsFirstBefore image row (k + 1) m (if f == 0 then pointer image row k else f))
    × ((interval_at image row k ≢ m) → IsFirstBefore image row (k + 1) m f)
first_more image row k m f there h = (
  λ same. ⊎_elim
      (λ (zero_, none). subst (λ n. IsFirstBefore image row (k + 1) m (if n == 0 then pointer image row k else n)) (sym zero_)
      (inr (there, k, omega arith, (record { is = same; first = none }), refl)))
      (λ (found, j, less, is, at). subst (IsFirstBefore image row (k + 1) m) (sym (rw (ne_eqb f 0 found) refl))
      (inr (found, j, omega (arith, less), is, at))) h,
  λ other. ⊎_elim
      (λ (zero_, none). inl (zero_, λ j less. ⊎_elim (λ old. none j old) (λ here. subst (λ i. interval_at image row i ≢ m) (sym here) other) (upto j k less)))
      (λ (found, j, less, is, at). inr (found, j, omega (arith, less), is, at)) h,
)

pub step_walk : (owner : Owner) (image : Image) (row : CatalogRow) (k : ℕ) (walk new : Walk) (bytes : List ℕ) → IsOwner image row owner walk k
    → length walk.firsts ≡ 8 → pointer image row k ≢ 0 → bytes ≡ page image (pointer image row k) → walk.link.page < length walk.met.items
    → GoesOnBehind walk bytes new → IsWalk image row (k + 1) new
step_walk owner image row k walk new bytes o eight there is inside g = record {
  page = ap (λ l. l.page) g.link ∙ ap next_of is ∙ ap (pointer image row) (more k);
  holder = ap (λ l. l.holder) g.link ∙ o.stands.page ∙ ap (holder image row) (more k);
  before = ap (λ l. l.before) g.link ∙ o.stands.page ∙ ap (before image row) (more k);
  count = ap (λ l. l.count) g.link ∙ ap (λ n. n + 1) o.stands.count;
  met = λ p below. ⊎_elim (met_here p below) (met_other p below) (cases_eq p walk.link.page);
  firsts = λ m low. ⊎_elim (first_here m low) (first_other m low) (cases_eq m (iam_interval bytes));
} where
  was_set : (p : ℕ) → get_or new.met.items p false ≡ get_or (set walk.met.items walk.link.page true) p false
  was_set p = ap (λ l. get_or l p false) g.met

  met_here : (p : ℕ) → p < length new.met.items → p ≡ walk.link.page → IsTrue (get_or new.met.items p false) ↔ IsMet image row (k + 1) p
  met_here p below here = (
    λ t. (k, omega arith, sym o.stands.page ∙ sym here),
    λ met. was_set p ∙ ap (λ i. get_or (set walk.met.items walk.link.page true) i false) here ∙ get_or-set_same walk.met.items walk.link.page true false inside,
  )

  met_other : (p : ℕ) → p < length new.met.items → p ≢ walk.link.page → IsTrue (get_or new.met.items p false) ↔ IsMet image row (k + 1) p
  met_other p below other =
      let same : get_or new.met.items p false ≡ get_or walk.met.items p false = was_set p ∙ get_or-set_other walk.met.items walk.link.page p true false other in
      let low : p < length walk.met.items = subst (λ n. p < n) (ap length g.met ∙ length-set walk.met.items walk.link.page true) below in (
        λ t. let (j, less, at) = (o.stands.met p low).0 (sym same ∙ t) in (j, omega (arith, less), at),
        λ (j, less, at). ⊎_elim (λ old. same ∙ (o.stands.met p low).1 (j, old, at))
            (λ here. absurd (other (sym at ∙ ap (pointer image row) here ∙ sym o.stands.page))) (upto j k less),
      )

  bytes_interval : interval_at image row k ≡ iam_interval bytes
  bytes_interval = ap iam_interval (sym is)

  first_here : (m : ℕ) → m < 8 → m ≡ iam_interval bytes → IsFirstBefore image row (k + 1) m (get_or new.firsts m 0)
  first_here m low here =
      let low_bytes : iam_interval bytes < length walk.firsts = subst (λ n. iam_interval bytes < n) (sym eight) (subst (λ n. n < 8) here low) in
      let became : get_or new.firsts m 0 ≡ (if get_or walk.firsts m 0 == 0 then pointer image row k else get_or walk.firsts m 0) =
      ap (λ l. get_or l m 0) g.firsts ∙ ap (λ i. get_or (set walk.firsts (iam_interval bytes) (if get_or walk.firsts (iam_interval bytes) 0 == 0 then walk.link.page else get_or walk.firsts (iam_interval bytes) 0)) i 0) here
      ∙ get_or-set_same walk.firsts (iam_interval bytes) _ 0 low_bytes
      ∙ rw (o.stands.page, ← here) refl in
      subst (IsFirstBefore image row (k + 1) m) (sym became)
      ((first_more image row k m (get_or walk.firsts m 0) there (o.stands.firsts m low)).0 (bytes_interval ∙ sym here))

  first_other : (m : ℕ) → m < 8 → m ≢ iam_interval bytes → IsFirstBefore image row (k + 1) m (get_or new.firsts m 0)
  first_other m low other =
      let same : get_or new.firsts m 0 ≡ get_or walk.firsts m 0 = ap (λ l. get_or l m 0) g.firsts ∙ get_or-set_other walk.firsts (iam_interval bytes) m _ 0 other in
      subst (IsFirstBefore image row (k + 1) m) (sym same)
      ((first_more image row k m (get_or walk.firsts m 0) there (o.stands.firsts m low)).1 (λ e. other (sym e ∙ bytes_interval)))
