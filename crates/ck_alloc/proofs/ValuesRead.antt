-- One system place more of a kind: its errors and the values that it holds.
use Rattle.std.proofs.Common.{◌≡◌, ◌≢◌, ℕ, zero, suc, ◌+◌, ◌-◌, ◌*◌, ◌/◌, ◌%◌, ◌<◌, ◌≤◌, min, Bool, List, [], ◌∷◌, ◌++◌, Option, Some, None, IfSome, length, map, arith, refl, sym, subst, ap, ◌∙◌, append-nil}
use Rattle.std.specs.List.{range_with_len}
use Rattle.std.proofs.lemmas.List.FromFn.{map-range_with_len_more}
use Rattle.std.proofs.lemmas.List.{append_assoc}
use Rattle.std.proofs.Math.ListN.{get_or-append}
use Rattle.std.proofs.Math.Seq.{get_or-append_seam}
use Rattle.spec_file.specs.declared.geometry.Geometry.{Geometry}
use Rattle.spec_file.specs.declared.geometry.Geometry.TheVariants.{Standard, Small}
use Rattle.spec_file.specs.Image.{Image, page, bit}
use Rattle.spec_file.specs.Places.{interval_size, pfs_span, HasShape}
use Rattle.spec_check.specs.declared.report.CheckError.{CheckError}
use Rattle.ck_error.specs.Gathered.{Adds, Below}
use Rattle.ck_error.proofs.GatheringLaws.{adds_as, adds_below_none, adds_below_more}
use Rattle.ck_alloc.specs.declared.places.SystemKind.{SystemKind}
use Rattle.ck_alloc.specs.declared.places.SystemKind.TheVariants.{Pfs, Gam, Sgam}
use Rattle.ck_alloc.specs.SystemPlaces.{size_of, value_count, rest_of, place_of, place_count, places_of_image, bit_in}
use Rattle.ck_alloc.specs.SystemMaps.{GivesError, GivesErrorAt, IsErrorOfKind, IsPlaceRead, SaysValues}
use Rattle.ck_alloc.proofs.Ranges.{same_values}

-- the values of a function at the first a + n numbers
range_parts : {X : Type 0} (f : ℕ → X) (a n : ℕ) → map f (range_with_len 0 (a + n)) ≡ map f (range_with_len 0 a) ++ map (λ i. f (a + i)) (range_with_len 0 n)
range_parts {X} f a zero =
    let none : a + 0 ≡ a = omega arith in
    ap (λ k. map f (range_with_len 0 k)) none ∙ sym (append-nil (map f (range_with_len 0 a)))
range_parts {X} f a (suc n) =
    let next : a + suc n ≡ (a + n) + 1 = omega arith in
    let one : suc n ≡ n + 1 = omega arith in
    ap (λ k. map f (range_with_len 0 k)) next ∙ map-range_with_len_more f 0 (a + n) (a + n) (omega arith)
    ∙ ap (λ l. l ++ f (a + n) ∷ []) (range_parts f a n)
    ∙ append_assoc (map f (range_with_len 0 a)) (map (λ i. f (a + i)) (range_with_len 0 n)) (f (a + n) ∷ [])
    ∙ ap (λ l. map f (range_with_len 0 a) ++ l) (sym (map-range_with_len_more (λ i. f (a + i)) 0 n n (omega arith)))
    ∙ ap (λ k. map f (range_with_len 0 a) ++ map (λ i. f (a + i)) (range_with_len 0 k)) (sym one)

-- the values that pages of so many hold, one after another
abbrev pub value_in : {X : Type 0} → (List ℕ → ℕ → X) → ℕ → List (List ℕ) → ℕ → X
value_in {X} v size found e = v (page found (e / size)) (e % size)

-- division by the size of a span
pub record Divides (size k : ℕ) : Type 0 where
  pub before : (e : ℕ) → e < size * k → e / size < k
  pub behind : (i : ℕ) → i < size → ((size * k + i) / size ≡ k) × ((size * k + i) % size ≡ i)

divides_interval : (g : Geometry) (k : ℕ) → Divides (interval_size g) k
divides_interval Standard k = record { before = λ e h. omega (arith, h); behind = λ i h. (omega (arith, h), omega (arith, h)) }
divides_interval Small k = record { before = λ e h. omega (arith, h); behind = λ i h. (omega (arith, h), omega (arith, h)) }

divides_span : (g : Geometry) (k : ℕ) → Divides (pfs_span g) k
divides_span Standard k = record { before = λ e h. omega (arith, h); behind = λ i h. (omega (arith, h), omega (arith, h)) }
divides_span Small k = record { before = λ e h. omega (arith, h); behind = λ i h. (omega (arith, h), omega (arith, h)) }

values_more : {X : Type 0} (v : List ℕ → ℕ → X) (size k n : ℕ) (found : List (List ℕ)) (b : List ℕ) (xs ys : List X) → length found ≡ k
    → Divides size k → n ≤ size → xs ≡ map (value_in v size found) (range_with_len 0 (size * k)) → ys ≡ xs ++ map (v b) (range_with_len 0 n)
    → ys ≡ map (value_in v size (found ++ b ∷ [])) (range_with_len 0 (size * k + n))
values_more {X} v size k n found b xs ys many d few old grown =
    grown ∙ ap (λ l. l ++ map (v b) (range_with_len 0 n)) (old ∙ front) ∙ ap (λ l. map (value_in v size (found ++ b ∷ [])) (range_with_len 0 (size * k)) ++ l) back
    ∙ sym (range_parts (value_in v size (found ++ b ∷ [])) (size * k) n) where
      last : page (found ++ b ∷ []) k ≡ b
      last = ap (λ j. page (found ++ b ∷ []) j) (sym many) ∙ get_or-append_seam found b [] []

      front : map (value_in v size found) (range_with_len 0 (size * k)) ≡ map (value_in v size (found ++ b ∷ [])) (range_with_len 0 (size * k))
      front = same_values _ _ (size * k) (λ e below.
          let low : e / size < length found = subst (λ j. e / size < j) (sym many) (d.before e below) in
          ap (λ l. v l (e % size)) (sym (get_or-append found (b ∷ []) [] (e / size) low)))

      back : map (v b) (range_with_len 0 n) ≡ map (λ i. value_in v size (found ++ b ∷ []) (size * k + i)) (range_with_len 0 n)
      back = same_values _ _ n (λ i below.
          let at = d.behind i (omega (arith, below, few)) in
          sym (ap (λ j. v (page (found ++ b ∷ []) j) ((size * k + i) % size)) at.0 ∙ ap (λ j. v (page (found ++ b ∷ []) k) j) at.1 ∙ ap (λ l. v l i) last))

errors_more : (kind : SystemKind) (g : Geometry) (k : ℕ) (found : List (List ℕ)) (b : List ℕ) (old mid new : List CheckError) → length found ≡ k
    → Adds old mid (IsErrorOfKind kind g found) → Adds mid new (GivesError g (place_of kind g k) b) → Adds old new (IsErrorOfKind kind g (found ++ b ∷ []))
errors_more kind g k found b old mid new many before here =
    subst (λ n. Adds old new (Below n (GivesErrorAt kind g (found ++ b ∷ [])))) (sym (longer found))
    (adds_below_more old mid new (length found) (GivesErrorAt kind g (found ++ b ∷ []))
    (adds_as old mid (IsErrorOfKind kind g found) (Below (length found) (GivesErrorAt kind g (found ++ b ∷ [])))
    (λ x (i, low, is). (i, low, subst (λ l. GivesError g (place_of kind g i) l x) (sym (get_or-append found (b ∷ []) [] i low)) is))
    (λ x (i, low, is). (i, low, subst (λ l. GivesError g (place_of kind g i) l x) (get_or-append found (b ∷ []) [] i low) is)) before)
    (subst (λ l. Adds mid new (GivesError g (place_of kind g (length found)) l)) (sym (get_or-append_seam found b [] []))
    (subst (λ i. Adds mid new (GivesError g (place_of kind g i) b)) (sym many) here))) where
      longer : (xs : List (List ℕ)) → length (xs ++ b ∷ []) ≡ length xs + 1
      longer [] = refl
      longer (x ∷ xs) = let less = longer xs in omega (arith, less)

-- none was read yet
says_none : {X : Type 0} (kind : SystemKind) (g : Geometry) (value : List (List ℕ) → ℕ → X) (count : ℕ) (told : Option Image) (errors : List CheckError)
    (xs : List X) → xs ≡ [] → count ≡ 0 → SaysValues kind g value 0 count told errors errors xs
says_none {X} kind g value count told errors xs empty none = record {
  found = [];
  are = nothing told;
  size = refl;
  errors = adds_below_none errors (GivesErrorAt kind g []);
  values_are = empty ∙ ap (λ n. map (value []) (range_with_len 0 n)) (sym none);
} where
  nothing : (t : Option Image) → IfSome t (λ image. [] ≡ places_of_image kind g image 0)
  nothing None = tt
  nothing (Some image) = refl

says_more : {X : Type 0} (kind : SystemKind) (g : Geometry) (v : List ℕ → ℕ → X) (size k n count next p : ℕ) (told now : Option Image)
    (old mid new : List CheckError) (b : List ℕ) (xs ys : List X) → Divides size k → n ≤ size → count ≡ size * k → next ≡ size * k + n
    → now ≡ told → p ≡ place_of kind g k
    → SaysValues kind g (value_in v size) k count told old mid xs → IfSome now (λ image. b ≡ page image p)
    → Adds mid new (GivesError g p b) → ys ≡ xs ++ map (v b) (range_with_len 0 n)
    → SaysValues kind g (value_in v size) (k + 1) next told old new ys
says_more {X} kind g v size k n count next p told now old mid new b xs ys d few begins ends same place s read errors grown = record {
  found = s.found ++ b ∷ [];
  are = told_then told now same s.are read;
  size = let many = s.size in longer s.found many;
  errors = errors_more kind g k s.found b old mid new s.size s.errors (subst (λ q. Adds mid new (GivesError g q b)) place errors);
  values_are = values_more v size k n s.found b xs ys s.size d few (s.values_are ∙ ap (λ c. map (value_in v size s.found) (range_with_len 0 c)) begins) grown
      ∙ ap (λ c. map (value_in v size (s.found ++ b ∷ [])) (range_with_len 0 c)) (sym ends);
} where
  longer : (l : List (List ℕ)) → length l ≡ k → length (l ++ b ∷ []) ≡ k + 1
  longer l many = let one = snoc l in omega (arith, one, many) where
    snoc : (l : List (List ℕ)) → length (l ++ b ∷ []) ≡ length l + 1
    snoc [] = refl
    snoc (x ∷ l) = let less = snoc l in omega (arith, less)

  told_then : (t u : Option Image) → u ≡ t → IfSome t (λ image. s.found ≡ places_of_image kind g image k) → IfSome u (λ image. b ≡ page image p)
      → IfSome t (λ image. (s.found ++ b ∷ []) ≡ places_of_image kind g image (k + 1))
  told_then None u e a r = tt
  told_then (Some image) None e a r = cc
  told_then (Some image) (Some other) e a r =
      let here : other ≡ image = cc in
      let is : b ≡ page image (place_of kind g k) = r ∙ ap (λ i. page i p) here ∙ ap (page image) place in
      ap (λ l. l ++ b ∷ []) a ∙ ap (λ l. places_of_image kind g image k ++ l ∷ []) is
      ∙ sym (map-range_with_len_more (λ i. page image (place_of kind g i)) 0 k k (omega arith))

-- all places of a kind were read
says_all : {X : Type 0} (kind : SystemKind) (g : Geometry) (value : List (List ℕ) → ℕ → X) (k n count all : ℕ) (told : Option Image)
    (old new : List CheckError) (xs : List X) → k ≡ n → count ≡ all → SaysValues kind g value k count told old new xs
    → SaysValues kind g value n all told old new xs
says_all {X} kind g value k n count all told old new xs same ends s =
    subst (λ a. SaysValues kind g value n a told old new xs) ends (subst (λ i. SaysValues kind g value i count told old new xs) same s)

-- where the k-th place begins, and what is left behind it
pub begins : (kind : SystemKind) (g : Geometry) (pages k : ℕ) → HasShape g pages → k < place_count kind g pages → size_of kind g * k ≤ value_count kind pages
begins Pfs Standard pages k shape below = omega (arith, below)
begins Pfs Small pages k shape below = omega (arith, below)
begins Gam Standard pages k shape below = omega (arith, below)
begins Gam Small pages k shape below = omega (arith, below)
begins Sgam Standard pages k shape below = omega (arith, below)
begins Sgam Small pages k shape below = omega (arith, below)

pub ends : (kind : SystemKind) (g : Geometry) (pages : ℕ) → min (value_count kind pages) (size_of kind g * place_count kind g pages) ≡ value_count kind pages
ends Pfs Standard pages = omega arith
ends Pfs Small pages = omega arith
ends Gam Standard pages = omega arith
ends Gam Small pages = omega arith
ends Sgam Standard pages = omega arith
ends Sgam Small pages = omega arith

next : (size all k : ℕ) → size * k ≤ all
    → (min all (size * k) ≡ size * k) × (min all (size * (k + 1)) ≡ size * k + min (all - size * k) size)
next size all k h =
    let more : size * (k + 1) ≡ size * k + size = grind arith in
    (omega (arith, h), omega (arith, h, more))

divides : (kind : SystemKind) (g : Geometry) (k : ℕ) → Divides (size_of kind g) k
divides Pfs g k = divides_span g k
divides Gam g k = divides_interval g k
divides Sgam g k = divides_interval g k

-- so many values fit into a page of this kind
pub bits_fit : (kind : SystemKind) (g : Geometry) (pages k n : ℕ) → kind ≢ Pfs → n ≡ rest_of kind g pages k → n ≤ 63904
bits_fit Pfs g pages k n other is = absurd (other refl)
bits_fit Gam Standard pages k n other is = omega (arith, is)
bits_fit Gam Small pages k n other is = omega (arith, is)
bits_fit Sgam Standard pages k n other is = omega (arith, is)
bits_fit Sgam Small pages k n other is = omega (arith, is)

pub bytes_fit : (g : Geometry) (pages k n : ℕ) → n ≡ rest_of Pfs g pages k → n ≤ 8088
bytes_fit Standard pages k n is = omega (arith, is)
bytes_fit Small pages k n is = omega (arith, is)

-- the first k places of a kind were read
abbrev pub SaysFirst : {X : Type 0} → (kind : SystemKind) (g : Geometry) (v : List ℕ → ℕ → X) (pages k : ℕ) → Option Image → List CheckError → List CheckError → List X → Type 0
SaysFirst {X} kind g v pages k told old new xs =
    SaysValues kind g (value_in v (size_of kind g)) k (min (value_count kind pages) (size_of kind g * k)) told old new xs

pub first_none : {X : Type 0} (kind : SystemKind) (g : Geometry) (v : List ℕ → ℕ → X) (pages : ℕ) (told : Option Image) (errors : List CheckError) (xs : List X)
    → xs ≡ [] → SaysFirst kind g v pages 0 told errors errors xs
first_none {X} kind g v pages told errors xs empty =
    says_none kind g (value_in v (size_of kind g)) (min (value_count kind pages) (size_of kind g * 0)) told errors xs empty (omega arith)

pub first_more : {X : Type 0} (kind : SystemKind) (g : Geometry) (v : List ℕ → ℕ → X) (pages k n : ℕ) (told now : Option Image) (old mid new : List CheckError)
    (b : List ℕ) (xs ys : List X) → HasShape g pages → k < place_count kind g pages → now ≡ told → SaysFirst kind g v pages k told old mid xs
    → IsPlaceRead kind g pages k now mid new b n → ys ≡ xs ++ map (v b) (range_with_len 0 n) → SaysFirst kind g v pages (k + 1) told old new ys
first_more {X} kind g v pages k n told now old mid new b xs ys shape below same s p grown =
    let size = size_of kind g in
    let all = value_count kind pages in
    let at = next size all k (begins kind g pages k shape below) in
    let rest : n ≡ min (all - size * k) size = p.rest in
    says_more kind g v size k n (min all (size * k)) (min all (size * (k + 1))) (place_of kind g k) told now old mid new b xs ys
    (divides kind g k) (omega (arith, rest)) at.0 (at.1 ∙ ap (λ (r : ℕ). size * k + r) (sym rest)) same refl s p.is p.errors grown

-- all of them
pub first_all : {X : Type 0} (kind : SystemKind) (g : Geometry) (v : List ℕ → ℕ → X) (pages k : ℕ) (told : Option Image) (old new : List CheckError) (xs : List X)
    → k ≡ place_count kind g pages → SaysFirst kind g v pages k told old new xs
    → SaysValues kind g (value_in v (size_of kind g)) (place_count kind g pages) (value_count kind pages) told old new xs
first_all {X} kind g v pages k told old new xs is s =
    says_all kind g (value_in v (size_of kind g)) k (place_count kind g pages) (min (value_count kind pages) (size_of kind g * k)) (value_count kind pages) told old new xs is
    (ap (λ (i : ℕ). min (value_count kind pages) (size_of kind g * i)) is ∙ ends kind g pages) s

-- the values of bits in the words of GAM and SGAM pages
pub of_bits : (kind : SystemKind) (g : Geometry) (pages : ℕ) (told : Option Image) (old new : List CheckError) (xs : List Bool) → kind ≢ Pfs
    → SaysValues kind g (value_in bit (size_of kind g)) (place_count kind g pages) (value_count kind pages) told old new xs
    → SaysValues kind g (bit_in g) (place_count kind g pages) (pages / 8) told old new xs
of_bits Pfs g pages told old new xs other s = absurd (other refl)
of_bits Gam g pages told old new xs other s = s
of_bits Sgam g pages told old new xs other s = s

-- one value more of a page
pub pushed_more : {X : Type 0} (f : ℕ → X) (n : ℕ) (old now new : List X) (v : X) → now ≡ old ++ map f (range_with_len 0 n) → new ≡ now ++ v ∷ []
    → v ≡ f n → new ≡ old ++ map f (range_with_len 0 (n + 1))
pushed_more {X} f n old now new v before grown is =
    grown ∙ ap (λ l. l ++ v ∷ []) before ∙ append_assoc old (map f (range_with_len 0 n)) (v ∷ [])
    ∙ ap (λ w. old ++ (map f (range_with_len 0 n) ++ w ∷ [])) is ∙ ap (λ l. old ++ l) (sym (map-range_with_len_more f 0 n n (omega arith)))
