-- The bits of maps and the PFS bytes, page by page.
use Rattle.std.proofs.Common.{◌≡◌, ℕ, zero, suc, ◌+◌, ◌-◌, ◌*◌, ◌/◌, ◌%◌, ◌<◌, ◌≤◌, min, Bool, true, false, eqb, not, ◌&&◌, ◌||◌, List, ◌++◌, refl, sym, ap, ◌∙◌, subst, arith}
use Rattle.std.proofs.Math.Nat.{mul-le-mul_left}
use Rattle.std.proofs.lemmas.Bool.{eqb-false, or_left}
use Rattle.std.proofs.lemmas.Grind.{div_ceil_times}
use Rattle.std.specs.Prelude.{if◌then◌else◌, slice_index, slice_range}
use Rattle.std.specs.Int.{div_ceil}
use Rattle.spec_file.specs.declared.geometry.Geometry.{Geometry}
use Rattle.spec_file.specs.declared.geometry.Geometry.TheVariants.{Standard, Small}
use Rattle.spec_file.specs.Image.{page, maps_start}
use Rattle.spec_file.specs.Places.{Place, interval_size, gam_page, sgam_page, pfs_span, pfs_place, page_limit, HasShape}
use Rattle.spec_log.specs.declared.item.Cell.TheVariants.{Bytes}
use Rattle.spec_plan.specs.declared.plan.Planned.{Planned}
use Rattle.spec_words.specs.NetChanges.{is_turned, bit_change, is_byte_changed, run_length, begins_run, run_change}
use Rattle.db_locks.specs.States.{PlanState}
use Rattle.net_changes.specs.declared.maps.Map.{Map}
use Rattle.net_changes.specs.declared.maps.Map.TheVariants.{Gam, Sgam}
use Rattle.net_changes.specs.Bytes.{is_bit_turned, bit_between, bits_between, is_differing, differing_length, begins_at, run_between, runs_between}
use Rattle.net_changes.specs.Shown.{map_place, bits_shown, runs_shown}
use Rattle.net_changes.proofs.BitLaws.{with_part, nothing}
use Rattle.net_changes.proofs.Ranges.{map_ranges, map_parts}

-- ---- parts of so many: part m begins below n

part_below : (m size n parts : ℕ) → 0 < size → parts ≡ div_ceil n size → m < parts → m * size < n
part_below m size n parts some e lt =
    let most = (div_ceil_times n size some).1 in
    let next : size * (m + 1) ≤ size * div_ceil n size = mul-le-mul_left size (omega (arith, e, lt)) in
    below (m * size) (size * (m + 1)) (size * div_ceil n size) (div_ceil n size * size) size n (omega arith) next (omega arith) most
  where
    below : (a b c d size n : ℕ) → b ≡ a + size → b ≤ c → c ≡ d → d < n + size → a < n
    below a b c d size n e le f lt = omega (arith, e, le, f, lt)

parts_whole : (m size n parts : ℕ) → 0 < size → parts ≡ div_ceil n size → parts ≤ m → min (m * size) n ≡ n
parts_whole m size n parts some e le =
    let all = (div_ceil_times n size some).0 in
    let more : size * div_ceil n size ≤ size * m = mul-le-mul_left size (omega (arith, e, le)) in
    whole (m * size) (size * m) (size * div_ceil n size) (div_ceil n size * size) n (omega arith) more (omega arith) all
  where
    whole : (a b c d n : ℕ) → a ≡ b → c ≤ b → d ≡ c → n ≤ d → min a n ≡ n
    whole a b c d n e le f h = omega (arith, e, le, f, h)

some_extents : (g : Geometry) → 0 < interval_size g
some_extents Standard = omega arith
some_extents Small = omega arith

some_pages : (g : Geometry) → 0 < pfs_span g
some_pages Standard = omega arith
some_pages Small = omega arith

-- ---- bits

in_interval : (g : Geometry) (m k : ℕ) → k < interval_size g → ((m * interval_size g + k) / interval_size g ≡ m) × ((m * interval_size g + k) % interval_size g ≡ k) × (m * interval_size g / interval_size g ≡ m)
in_interval Standard m k lt = (omega (arith, lt), omega (arith, lt), omega arith)
in_interval Small m k lt = (omega (arith, lt), omega (arith, lt), omega arith)

map_at : (map : Map) (g : Geometry) (m k : ℕ) → k < interval_size g → map_place map g (m * interval_size g + k) ≡ record { page = (map_place map g (m * interval_size g)).page; at = k }
map_at Gam g m k lt =
    let here = in_interval g m k lt in
    ap (λ j. record { page = gam_page g j; at = (m * interval_size g + k) % interval_size g }) (here.0 ∙ sym here.2)
    ∙ ap (λ j. record { page = gam_page g (m * interval_size g / interval_size g); at = j }) here.1
map_at Sgam g m k lt =
    let here = in_interval g m k lt in
    ap (λ j. record { page = sgam_page g j; at = (m * interval_size g + k) % interval_size g }) (here.0 ∙ sym here.2)
    ∙ ap (λ j. record { page = sgam_page g (m * interval_size g / interval_size g); at = j }) here.1

bits_of_interval : (s : PlanState) (map : Map) (g : Geometry) (m n q : ℕ) → n ≤ interval_size g → q ≡ (map_place map g (m * interval_size g)).page →
    bits_shown s (map_place map g) (m * interval_size g) n ≡ bits_between q (page s.first q) (page s.shown q) 0 n
unfolding bits_shown bits_between
bits_of_interval s map g m n q few here =
    map_ranges (λ e. is_turned s.first s.shown (map_place map g e)) (is_bit_turned (page s.first q) (page s.shown q)) (λ e. bit_change s.first s.shown (map_place map g e))
    (bit_between q (page s.first q) (page s.shown q)) n (m * interval_size g) 0
    (λ k x y lt e d.
    let at : map_place map g x ≡ record { page = q; at = y } =
    ap (map_place map g) e ∙ map_at map g m k (omega (arith, lt, few)) ∙ ap (λ j. record { page = j; at = k }) (sym here) ∙ ap (λ j. record { page = q; at = j }) (counted k y d) in
    record { test = ap (is_turned s.first s.shown) at; made = λ turned. ap (bit_change s.first s.shown) at })
  where
    counted : (k y : ℕ) → y ≡ 0 + k → k ≡ y
    counted k y d = omega (arith, d)

interval_parts : (s : PlanState) (place : ℕ → Place) (low m n : ℕ) → bits_shown s place low (m + n) ≡ bits_shown s place low m ++ bits_shown s place (low + m) n
unfolding bits_shown
interval_parts s place low m n = map_parts (λ e. is_turned s.first s.shown (place e)) (λ e. bit_change s.first s.shown (place e)) low m n

least_part : (size n : ℕ) → min (0 * size) n ≡ 0
least_part size n = omega arith

pub no_bits : (s : PlanState) (place : ℕ → Place) (size n : ℕ) (olds : List Planned) → olds ≡ olds ++ bits_shown s place 0 (min (0 * size) n)
unfolding bits_shown
no_bits s place size n olds = nothing olds (bits_shown s place 0 (min (0 * size) n)) (ap (bits_shown s place 0) (least_part size n))

-- those of one interval behind those of the intervals before it
interval_step : (s : PlanState) (map : Map) (g : Geometry) (m n q : ℕ) (all before olds : List Planned) → m * interval_size g < n → q ≡ (map_place map g (m * interval_size g)).page →
    before ≡ olds ++ bits_shown s (map_place map g) 0 (min (m * interval_size g) n) →
    all ≡ before ++ bits_between q (page s.first q) (page s.shown q) 0 (min (interval_size g) (n - m * interval_size g)) →
    all ≡ olds ++ bits_shown s (map_place map g) 0 (min ((m + 1) * interval_size g) n)
interval_step s map g m n q all before olds lt here e f =
    let size = interval_size g in
    let z = m * size in
    let more = min size (n - z) in
    with_part all before olds (bits_shown s (map_place map g) 0 z) (bits_between q (page s.first q) (page s.shown q) 0 more)
    (e ∙ ap (λ k. olds ++ bits_shown s (map_place map g) 0 k) (lower z n lt)) f
    ∙ ap (λ xs. olds ++ xs)
    (ap (λ xs. bits_shown s (map_place map g) 0 z ++ xs) (sym (bits_of_interval s map g m more q (least size (n - z)) here))
    ∙ ap (λ k. bits_shown s (map_place map g) 0 z ++ bits_shown s (map_place map g) k more) (none z)
    ∙ sym (interval_parts s (map_place map g) 0 z more)
    ∙ ap (bits_shown s (map_place map g) 0) (next z size n ((m + 1) * size) lt (omega arith)))
  where
    lower : (z n : ℕ) → z < n → min z n ≡ z
    lower z n lt = omega (arith, lt)

    least : (a b : ℕ) → min a b ≤ a
    least a b = omega arith

    none : (z : ℕ) → z ≡ 0 + z
    none z = omega arith

    next : (z size n y : ℕ) → z < n → y ≡ z + size → z + min size (n - z) ≡ min y n
    next z size n y lt e = omega (arith, lt, e)

pub interval_loop : (s : PlanState) (map : Map) (g : Geometry) (m n size parts q count : ℕ) (all before olds : List Planned) → size ≡ interval_size g → parts ≡ div_ceil n size → m < parts →
    q ≡ (map_place map g (m * size)).page → count ≡ min size (n - m * size) →
    before ≡ olds ++ bits_shown s (map_place map g) 0 (min (m * interval_size g) n) → all ≡ before ++ bits_between q (page s.first q) (page s.shown q) 0 count →
    all ≡ olds ++ bits_shown s (map_place map g) 0 (min ((m + 1) * interval_size g) n)
interval_loop s map g m n size parts q count all before olds e f lt here few inv added =
    interval_step s map g m n q all before olds (part_below m (interval_size g) n parts (some_extents g) (f ∙ ap (div_ceil n) e) lt)
    (here ∙ ap (λ z. (map_place map g (m * z)).page) e) inv
    (added ∙ ap (λ j. before ++ bits_between q (page s.first q) (page s.shown q) 0 j) (few ∙ ap (λ z. min z (n - m * z)) e))

pub interval_below : (g : Geometry) (m n size parts : ℕ) → size ≡ interval_size g → parts ≡ div_ceil n size → m < parts → m * size < n
interval_below g m n size parts e f lt = part_below m size n parts (subst (λ z. 0 < z) (sym e) (some_extents g)) f lt

pub intervals_whole : (s : PlanState) (map : Map) (g : Geometry) (m n size parts : ℕ) (all olds : List Planned) → size ≡ interval_size g → parts ≡ div_ceil n size → parts ≤ m →
    all ≡ olds ++ bits_shown s (map_place map g) 0 (min (m * interval_size g) n) → all ≡ olds ++ bits_shown s (map_place map g) 0 n
intervals_whole s map g m n size parts all olds e f le inv =
    inv ∙ ap (λ k. olds ++ bits_shown s (map_place map g) 0 k) (parts_whole m (interval_size g) n parts (some_extents g) (f ∙ ap (div_ceil n) e) le)

-- ---- runs

in_span : (g : Geometry) (m k : ℕ) → k < pfs_span g →
    ((m * pfs_span g + k) / pfs_span g ≡ m) × ((m * pfs_span g + k) % pfs_span g ≡ k) × (m * pfs_span g / pfs_span g ≡ m) × ((m * pfs_span g + k) % 8 ≡ k % 8)
in_span Standard m k lt = (omega (arith, lt), omega (arith, lt), omega arith, omega (arith, lt))
in_span Small m k lt = (omega (arith, lt), omega (arith, lt), omega arith, omega (arith, lt))

whole_span : (g : Geometry) (k : ℕ) → k < pfs_span g → k + (8 - k % 8) ≤ pfs_span g
whole_span Standard k lt = omega (arith, lt)
whole_span Small k lt = omega (arith, lt)

-- the PFS byte of a page of the span
byte_place : (g : Geometry) (m k q : ℕ) → k < pfs_span g → q ≡ (pfs_place g (m * pfs_span g)).page → pfs_place g (m * pfs_span g + k) ≡ record { page = q; at = maps_start + k }
byte_place g m k q lt here =
    let at = in_span g m k lt in
    ap (λ j. record { page = if eqb j 0 then 1 else pfs_span g * j; at = maps_start + (m * pfs_span g + k) % pfs_span g }) (at.0 ∙ sym at.2)
    ∙ ap (λ j. record { page = j; at = maps_start + (m * pfs_span g + k) % pfs_span g }) (sym here)
    ∙ ap (λ j. record { page = q; at = maps_start + j }) at.1

changed_there : (s : PlanState) (m k q : ℕ) → k < pfs_span s.view.shape.geometry → q ≡ (pfs_place s.view.shape.geometry (m * pfs_span s.view.shape.geometry)).page →
    is_byte_changed s.view.shape.geometry s.first s.shown (m * pfs_span s.view.shape.geometry + k) ≡ is_differing (page s.first q) (page s.shown q) (maps_start + k)
changed_there s m k q lt here =
    ap (λ (c : Place). not (eqb (slice_index (page s.first c.page) c.at) (slice_index (page s.shown c.page) c.at))) (byte_place s.view.shape.geometry m k q lt here)

length_there : (s : PlanState) (m q n k : ℕ) → k + n ≤ pfs_span s.view.shape.geometry → q ≡ (pfs_place s.view.shape.geometry (m * pfs_span s.view.shape.geometry)).page →
    run_length s.view.shape.geometry s.first s.shown n (m * pfs_span s.view.shape.geometry + k) ≡ differing_length (page s.first q) (page s.shown q) n (maps_start + k)
length_there s m q zero k room here = refl
length_there s m q (suc n) k room here =
    let g = s.view.shape.geometry in
    let old = page s.first q in
    let new = page s.shown q in
    ap (λ b. if b then 1 + run_length g s.first s.shown n (m * pfs_span g + k + 1) else 0) (changed_there s m k q (omega (arith, room)) here)
    ∙ ap (λ p. if is_differing old new (maps_start + k) then 1 + run_length g s.first s.shown n p else 0) (next (m * pfs_span g) k)
    ∙ ap (λ r. if is_differing old new (maps_start + k) then 1 + r else 0) (length_there s m q n (k + 1) (omega (arith, room)) here)
    ∙ ap (λ i. if is_differing old new (maps_start + k) then 1 + differing_length old new n i else 0) (sym (next maps_start k))
  where
    next : (a k : ℕ) → a + k + 1 ≡ a + (k + 1)
    next a k = omega arith

-- a run begins there where one begins in the page
begins_there : (s : PlanState) (m k q : ℕ) → k < pfs_span s.view.shape.geometry → q ≡ (pfs_place s.view.shape.geometry (m * pfs_span s.view.shape.geometry)).page →
    begins_run s.view.shape.geometry s.first s.shown (m * pfs_span s.view.shape.geometry + k) ≡ begins_at (page s.first q) (page s.shown q) k
begins_there s m k q lt here =
    let g = s.view.shape.geometry in
    let p = m * pfs_span g + k in
    let old = page s.first q in
    let new = page s.shown q in
    let first = (in_span g m k lt).3 in
    ap (λ b. b && (eqb (p % 8) 0 || not (is_byte_changed g s.first s.shown (p - 1)))) (changed_there s m k q lt here)
    ∙ ap (λ n. is_differing old new (maps_start + k) && (eqb n 0 || not (is_byte_changed g s.first s.shown (p - 1)))) first
    ∙ ap (λ b. is_differing old new (maps_start + k) && b) (by_first (eqb (k % 8) 0) refl)
  where
    before : (a k : ℕ) → (k % 8 ≡ 0 → ⊥) → a + k - 1 ≡ a + (k - 1)
    before a k some = omega (arith, some)

    before_there : (k : ℕ) → (k % 8 ≡ 0 → ⊥) → maps_start + (k - 1) ≡ maps_start + k - 1
    before_there k some = omega (arith, some)

    by_first : (b : Bool) → eqb (k % 8) 0 ≡ b →
        (eqb (k % 8) 0 || not (is_byte_changed s.view.shape.geometry s.first s.shown (m * pfs_span s.view.shape.geometry + k - 1)))
        ≡ (eqb (k % 8) 0 || not (is_differing (page s.first q) (page s.shown q) (maps_start + k - 1)))
    by_first true e =
        or_left (eqb (k % 8) 0) (not (is_byte_changed s.view.shape.geometry s.first s.shown (m * pfs_span s.view.shape.geometry + k - 1))) e
        ∙ sym (or_left (eqb (k % 8) 0) (not (is_differing (page s.first q) (page s.shown q) (maps_start + k - 1))) e)
    by_first false e =
        let some = eqb-false (k % 8) 0 e in
        ap (λ p. eqb (k % 8) 0 || not (is_byte_changed s.view.shape.geometry s.first s.shown p)) (before (m * pfs_span s.view.shape.geometry) k some)
        ∙ ap (λ b. eqb (k % 8) 0 || not b) (changed_there s m (k - 1) q (omega (arith, lt)) here)
        ∙ ap (λ i. eqb (k % 8) 0 || not (is_differing (page s.first q) (page s.shown q) i)) (before_there k some)

run_there : (s : PlanState) (m k q : ℕ) → k < pfs_span s.view.shape.geometry → q ≡ (pfs_place s.view.shape.geometry (m * pfs_span s.view.shape.geometry)).page →
    run_change s.view.shape.geometry s.first s.shown (m * pfs_span s.view.shape.geometry + k) ≡ run_between q (page s.first q) (page s.shown q) k
run_there s m k q lt here =
    let g = s.view.shape.geometry in
    let p = m * pfs_span g + k in
    let size : run_length g s.first s.shown (8 - p % 8) p ≡ differing_length (page s.first q) (page s.shown q) (8 - k % 8) (maps_start + k) =
    ap (λ n. run_length g s.first s.shown (8 - n) p) (in_span g m k lt).3 ∙ length_there s m q (8 - k % 8) k (whole_span g k lt) here in
    ap (λ (c : Place). cell_there c (run_length g s.first s.shown (8 - p % 8) p)) (byte_place g m k q lt here) ∙ ap (cell_there (record { page = q; at = maps_start + k })) size
  where
    cell_there : Place → ℕ → Planned
    cell_there c n = record { cell = Bytes (record { 0 = c.page }) c.at; before = slice_range (page s.first c.page) c.at (c.at + n); after = slice_range (page s.shown c.page) c.at (c.at + n) }

runs_of_page : (s : PlanState) (m n q : ℕ) → n ≤ pfs_span s.view.shape.geometry → q ≡ (pfs_place s.view.shape.geometry (m * pfs_span s.view.shape.geometry)).page →
    runs_shown s (m * pfs_span s.view.shape.geometry) n ≡ runs_between q (page s.first q) (page s.shown q) 0 n
unfolding runs_shown runs_between
runs_of_page s m n q few here =
    let g = s.view.shape.geometry in
    map_ranges (begins_run g s.first s.shown) (begins_at (page s.first q) (page s.shown q)) (run_change g s.first s.shown) (run_between q (page s.first q) (page s.shown q)) n (m * pfs_span g) 0
    (λ k x y lt e d.
    let inside : k < pfs_span g = omega (arith, lt, few) in
    record {
      test = ap (begins_run g s.first s.shown) e ∙ begins_there s m k q inside here ∙ ap (begins_at (page s.first q) (page s.shown q)) (counted k y d);
      made = λ begins. ap (run_change g s.first s.shown) e ∙ run_there s m k q inside here ∙ ap (run_between q (page s.first q) (page s.shown q)) (counted k y d);
    })
  where
    counted : (k y : ℕ) → y ≡ 0 + k → k ≡ y
    counted k y d = omega (arith, d)

runs_parts : (s : PlanState) (low m n : ℕ) → runs_shown s low (m + n) ≡ runs_shown s low m ++ runs_shown s (low + m) n
unfolding runs_shown
runs_parts s low m n = map_parts (begins_run s.view.shape.geometry s.first s.shown) (run_change s.view.shape.geometry s.first s.shown) low m n

pub no_runs : (s : PlanState) (size n : ℕ) (olds : List Planned) → olds ≡ olds ++ runs_shown s 0 (min (0 * size) n)
unfolding runs_shown
no_runs s size n olds = nothing olds (runs_shown s 0 (min (0 * size) n)) (ap (runs_shown s 0) (least_part size n))

-- those of one PFS page behind those of the pages before it
span_step : (s : PlanState) (g : Geometry) (m n q : ℕ) (all before olds : List Planned) → g ≡ s.view.shape.geometry → m * pfs_span g < n → q ≡ (pfs_place g (m * pfs_span g)).page →
    before ≡ olds ++ runs_shown s 0 (min (m * pfs_span g) n) →
    all ≡ before ++ runs_between q (page s.first q) (page s.shown q) 0 (min (pfs_span g) (n - m * pfs_span g)) →
    all ≡ olds ++ runs_shown s 0 (min ((m + 1) * pfs_span g) n)
span_step s g m n q all before olds same lt here e f =
    let size = pfs_span g in
    let z = m * size in
    let more = min size (n - z) in
    with_part all before olds (runs_shown s 0 z) (runs_between q (page s.first q) (page s.shown q) 0 more) (e ∙ ap (λ k. olds ++ runs_shown s 0 k) (lower z n lt)) f
    ∙ ap (λ xs. olds ++ xs)
    (ap (λ xs. runs_shown s 0 z ++ xs) (sym (of_page s m more q same (least size (n - z)) here))
    ∙ ap (λ k. runs_shown s 0 z ++ runs_shown s k more) (none z)
    ∙ sym (runs_parts s 0 z more)
    ∙ ap (runs_shown s 0) (next z size n ((m + 1) * size) lt (omega arith)))
  where
    of_page : (s : PlanState) (m n q : ℕ) → g ≡ s.view.shape.geometry → n ≤ pfs_span g → q ≡ (pfs_place g (m * pfs_span g)).page → runs_shown s (m * pfs_span g) n ≡ runs_between q (page s.first q) (page s.shown q) 0 n
    of_page s m n q same few here =
        ap (λ h. runs_shown s (m * pfs_span h) n) same
        ∙ runs_of_page s m n q (subst (λ h. n ≤ pfs_span h) same few) (here ∙ ap (λ h. (pfs_place h (m * pfs_span h)).page) same)

    lower : (z n : ℕ) → z < n → min z n ≡ z
    lower z n lt = omega (arith, lt)

    least : (a b : ℕ) → min a b ≤ a
    least a b = omega arith

    none : (z : ℕ) → z ≡ 0 + z
    none z = omega arith

    next : (z size n y : ℕ) → z < n → y ≡ z + size → z + min size (n - z) ≡ min y n
    next z size n y lt e = omega (arith, lt, e)

pub span_loop : (s : PlanState) (g : Geometry) (m n size parts q count : ℕ) (all before olds : List Planned) → g ≡ s.view.shape.geometry → size ≡ pfs_span g → parts ≡ div_ceil n size → m < parts →
    q ≡ (pfs_place g (m * size)).page → count ≡ min size (n - m * size) →
    before ≡ olds ++ runs_shown s 0 (min (m * pfs_span g) n) → all ≡ before ++ runs_between q (page s.first q) (page s.shown q) 0 count →
    all ≡ olds ++ runs_shown s 0 (min ((m + 1) * pfs_span g) n)
span_loop s g m n size parts q count all before olds same e f lt here few inv added =
    span_step s g m n q all before olds same (part_below m (pfs_span g) n parts (some_pages g) (f ∙ ap (div_ceil n) e) lt)
    (here ∙ ap (λ z. (pfs_place g (m * z)).page) e) inv
    (added ∙ ap (λ j. before ++ runs_between q (page s.first q) (page s.shown q) 0 j) (few ∙ ap (λ z. min z (n - m * z)) e))

pub span_below : (g : Geometry) (m n size parts : ℕ) → size ≡ pfs_span g → parts ≡ div_ceil n size → m < parts → m * size < n
span_below g m n size parts e f lt = part_below m size n parts (subst (λ z. 0 < z) (sym e) (some_pages g)) f lt

pub spans_whole : (s : PlanState) (g : Geometry) (m n size parts : ℕ) (all olds : List Planned) → size ≡ pfs_span g → parts ≡ div_ceil n size → parts ≤ m →
    all ≡ olds ++ runs_shown s 0 (min (m * pfs_span g) n) → all ≡ olds ++ runs_shown s 0 n
spans_whole s g m n size parts all olds e f le inv = inv ∙ ap (λ k. olds ++ runs_shown s 0 k) (parts_whole m (pfs_span g) n parts (some_pages g) (f ∙ ap (div_ceil n) e) le)

-- the file's pages are inside its geometry's limit
pub in_limit : (g h : Geometry) (a pages count : ℕ) → g ≡ h → pages ≡ count → HasShape h count → a < pages → a < page_limit g
in_limit g h a pages count e f file lt =
    let high = file.high in
    subst (λ k. a < page_limit k) (sym e) (omega (arith, high, f, lt))
