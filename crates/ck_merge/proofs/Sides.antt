-- Buckets that are sorted and matched side by side.
use Rattle.std.proofs.Common.{◌≡◌, ℕ, ◌<◌, List, All, Contains, Ok, Err, length, arith, sym, subst, get_or}
use Rattle.std.proofs.lemmas.List.{get_or_default}
use Rattle.spec_check.specs.declared.report.CheckError.{CheckError}
use Rattle.spec_tree.specs.declared.known.Root.{Root}
use Rattle.ck_facts.specs.declared.facts.Fact.{Fact}
use Rattle.ck_error.specs.Gathered.{Adds}
use Rattle.ck_error.proofs.GatheringLaws.{adds_as}
use Rattle.ck_merge.specs.declared.bucket.Bucket.{Bucket}
use Rattle.ck_merge.specs.Buckets.{IsBucket, AllFiled, AreOwn, AreSorted, BucketErrors}
use Rattle.ck_merge.specs.Filing.{IsOf, IsOwn}
use Rattle.ck_merge.specs.Runs.{IsSorted}
use Rattle.ck_merge.specs.Sides.{SortsTo, EachSortsTo, Matched, IsMatched, AddsFound}

before : (old new : List Bucket) (b : ℕ) (u : Bucket) → EachSortsTo old new → IsBucket new b u → (o : Bucket) × IsBucket old b o × SortsTo o u
before old new b u sides at =
    let long = sides.long in
    let within = at.inside in
    let inside : b < length old = omega (arith, long, within) in
    (get_or old b u, record { inside = inside; is = get_or_default old b (get_or old b u) u inside }, subst (SortsTo (get_or old b u)) at.is (sides.each b u inside))

pub own_together : (n : ℕ) (old new : List Bucket) → EachSortsTo old new → AreOwn n old → AreOwn n new
own_together n old new sides own = record { each = λ b u low at. let o = before old new b u sides at in o.2.own n b (own.each b o.0 low o.1) }

pub filed_together : (n : ℕ) (held : List Fact) (old new : List Bucket) → EachSortsTo old new → AllFiled n held old → AllFiled n held new
filed_together n held old new sides filed = record { each = λ b u low at. let o = before old new b u sides at in o.2.files n b held (filed.each b o.0 low o.1) }

pub sorted_together : (n : ℕ) (old new : List Bucket) → EachSortsTo old new → AreSorted n new
sorted_together n old new sides = record { each = λ b u low at. (before old new b u sides at).2.sorted }

own_from : (n b : ℕ) (u : Bucket) → IsOf n b u → IsOwn u
own_from n b u h = subst (λ k. IsOf k u.share.index u) (sym h.count) (subst (λ j. IsOf n j u) (sym h.index) h)

bucket_at : (xs : List Bucket) (k : ℕ) (d : Bucket) → k < length xs → IsBucket xs k (get_or xs k d)
bucket_at xs k d low = record { inside = low; is = get_or_default xs k (get_or xs k d) d low }

pub all_own : (n : ℕ) (xs : List Bucket) → length xs ≡ n → AreOwn n xs → All IsOwn xs
all_own n xs long own = λ k d low. own_from n k (get_or xs k d) (own.each k (get_or xs k d) (omega (arith, long, low)) (bucket_at xs k d low))

pub all_in_order : (n : ℕ) (xs : List Bucket) → length xs ≡ n → AreSorted n xs → All IsSorted xs
all_in_order n xs long sorted = λ k d low. sorted.each k (get_or xs k d) (omega (arith, long, low)) (bucket_at xs k d low)

-- what was found for a bucket is what stands at its pages
pub adds_found : (roots : List Root) (u : Bucket) (found : Matched) (old new : List CheckError) → IsMatched roots u found → AddsFound old found new
    → Adds old new (BucketErrors roots u)
adds_found roots u (Ok more) old new h a = adds_as old new (Contains more.items) (BucketErrors roots u) h.sound h.complete a
adds_found roots u (Err stop) old new h a = absurd a
