-- Lines that grow as pages are counted.
use Rattle.std.proofs.Common.{◌≡◌, ◌⊎◌, ℕ, ◌+◌, ◌*◌, ◌^◌, ◌<◌, ◌≤◌, List, [], Contains, length, arith, sym, subst, ap, ◌∙◌, ⊎_elim}
use Rattle.std.specs.List.{sum_by}
use Rattle.std.specs.List.Sorted.{IsStrictlySortedBy}
use Rattle.std.specs.Ordering.{nat_cmp}
use Rattle.spec_check.specs.declared.report.TableLine.{TableLine}
use Rattle.ck_scan.specs.Counted.{IsCountOf, IsOneMore, IsSumOf}
use Rattle.spec_check.proofs.Members.{nothing_there}
use Rattle.ck_scan.proofs.Rising.{put, put_cases, put_kept, put_here, put_length, put_sum, put_sorted, none_sorted, short, few_rows, both, both_cases, both_first, both_second, both_length, both_sum, both_sorted}

pub count_none : (Taken : ℕ → Type 0) (rows_of : ℕ → ℕ) (t : TableLine) → ((p : ℕ) → Taken p → ⊥) → t.pages ≡ 0 → t.rows ≡ 0 → IsCountOf Taken rows_of t
count_none Taken rows_of t never pages rows = record {
  taken = [];
  sorted = none_sorted;
  sound = λ p c. absurd (nothing_there p c);
  complete = λ p taken. absurd (never p taken);
  pages = pages;
  rows = rows;
}

pub count_as : (Taken Other : ℕ → Type 0) (rows_of : ℕ → ℕ) (t : TableLine) → ((p : ℕ) → Taken p → Other p) → ((p : ℕ) → Other p → Taken p)
    → IsCountOf Taken rows_of t → IsCountOf Other rows_of t
count_as Taken Other rows_of t there back h = record {
  taken = h.taken;
  sorted = h.sorted;
  sound = λ p c. there p (h.sound p c);
  complete = λ p o. h.complete p (back p o);
  pages = h.pages;
  rows = h.rows;
}

-- what can be counted: numbers of pages of a file, with at most so many rows
pub record IsCountable (Taken : ℕ → Type 0) (rows_of : ℕ → ℕ) : Type 0 where
  pub each : (p : ℕ) → Taken p → (p < 1048576) × (rows_of p ≤ 4048)

-- one page more is taken
pub record TakesMore (Taken Other : ℕ → Type 0) (n : ℕ) : Type 0 where
  pub sound : (p : ℕ) → Other p → Taken p ⊎ (n ≡ p)
  pub kept : (p : ℕ) → Taken p → Other p
  pub here : Other n
  pub new : Taken n → ⊥

-- a rising list of pages has few of them, and few rows
few_pages : (Taken : ℕ → Type 0) (rows_of : ℕ → ℕ) (xs : List ℕ) → IsStrictlySortedBy nat_cmp xs → ((p : ℕ) → Contains xs p → Taken p)
    → IsCountable Taken rows_of → (length xs ≤ 1048576) × (sum_by rows_of xs ≤ 4048 * length xs)
few_pages Taken rows_of xs sorted sound fits = (
  (let many = short xs 0 1048576 sorted (λ p c. (omega arith, (fits.each p (sound p c)).0)) (omega arith) in omega (arith, many)),
  few_rows rows_of xs 4048 (λ p c. (fits.each p (sound p c)).1),
)

pub count_put : (Taken Other : ℕ → Type 0) (rows_of : ℕ → ℕ) (n : ℕ) (old now : TableLine) → IsCountOf Taken rows_of old
    → IsCountable Other rows_of → TakesMore Taken Other n → IsOneMore old now (rows_of n) → IsCountOf Other rows_of now
count_put Taken Other rows_of n old now h fits takes more =
    let few = few_pages Other rows_of h.taken h.sorted (λ p c. takes.kept p (h.sound p c)) fits in
    let pages_few = few.0 in
    let rows_few = few.1 in
    let here : rows_of n ≤ 4048 = (fits.each n takes.here).1 in
    let pages_fit : old.pages + 1 < 2 ^ 64 = omega (arith, h.pages, pages_few) in
    let rows_fit : old.rows + rows_of n < 2 ^ 64 = omega (arith, h.rows, pages_few, rows_few, here) in
    record {
      taken = put n h.taken;
      sorted = put_sorted n h.taken h.sorted (λ c. takes.new (h.sound n c));
      sound = λ p c. ⊎_elim (λ was. takes.kept p (h.sound p was)) (λ e. subst Other e takes.here) (put_cases n h.taken p c);
      complete = λ p o. ⊎_elim (λ was. put_kept n h.taken p (h.complete p was))
          (λ e. subst (Contains (put n h.taken)) e (put_here n h.taken)) (takes.sound p o);
      pages = more.pages pages_fit ∙ (ap (λ k. k + 1) h.pages ∙ sym (put_length n h.taken));
      rows = more.rows rows_fit ∙ (ap (λ k. k + rows_of n) h.rows ∙ sym (put_sum rows_of n h.taken));
    }

-- all pages are of one of two kinds, and none is of both
pub record AreApart (First Second All : ℕ → Type 0) : Type 0 where
  pub sound : (p : ℕ) → All p → First p ⊎ Second p
  pub first : (p : ℕ) → First p → All p
  pub second : (p : ℕ) → Second p → All p
  pub never : (p : ℕ) → First p → Second p → ⊥

pub count_both : (First Second All : ℕ → Type 0) (rows_of : ℕ → ℕ) (one two now : TableLine) → IsCountOf First rows_of one → IsCountOf Second rows_of two
    → IsCountable All rows_of → AreApart First Second All → IsSumOf one two now → IsCountOf All rows_of now
count_both First Second All rows_of one two now h k fits apart sum =
    let few = few_pages All rows_of h.taken h.sorted (λ p c. apart.first p (h.sound p c)) fits in
    let few_too = few_pages All rows_of k.taken k.sorted (λ p c. apart.second p (k.sound p c)) fits in
    let a = few.0 in
    let b = few.1 in
    let c = few_too.0 in
    let d = few_too.1 in
    let pages_fit : one.pages + two.pages < 2 ^ 64 = omega (arith, h.pages, k.pages, a, c) in
    let rows_fit : one.rows + two.rows < 2 ^ 64 = omega (arith, h.rows, k.rows, a, b, c, d) in
    record {
      taken = both h.taken k.taken;
      sorted = both_sorted h.taken k.taken h.sorted k.sorted (λ p x y. apart.never p (h.sound p x) (k.sound p y));
      sound = λ p x. ⊎_elim (λ u. apart.first p (h.sound p u)) (λ v. apart.second p (k.sound p v)) (both_cases h.taken k.taken p x);
      complete = λ p x. ⊎_elim (λ u. both_first h.taken k.taken p (h.complete p u)) (λ v. both_second h.taken k.taken p (k.complete p v)) (apart.sound p x);
      pages = omega (arith, sum.pages pages_fit, h.pages, k.pages, both_length h.taken k.taken);
      rows = omega (arith, sum.rows rows_fit, h.rows, k.rows, both_sum rows_of h.taken k.taken);
    }
