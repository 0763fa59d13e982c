-- What the tests of a file say of its bytes.
use Rattle.std.proofs.Common.{◌≡◌, ℕ, ◌/◌, Bool, true, false, IsTrue, List, Option, Some, None, IfSome, length, sym, ap, subst, ◌∙◌, refl, ⊎_elim, not, if◌then◌else◌}
use Rattle.spec_file.specs.Image.{Image, page_size, pages_of, page}
use Rattle.spec_file.proofs.ImageLaws.{length-pages_of}
use Rattle.spec_file.specs.FileForm.{size_passes}
use Rattle.spec_start.specs.declared.why.FileWhy.{FileWhy}
use Rattle.spec_start.specs.declared.why.FileWhy.TheVariants as why
use Rattle.spec_start.specs.Files.{opening_fault, file_fault, has_clustered_table, AreAllPages, IsRefusedForRun, IsRunFile, IsRunImage, PassesTests}

first_of : (size : Bool) (fault : Option FileWhy) → size ≡ true → (if not size then Some why.Size else fault) ≡ fault
first_of size fault passes = rw passes refl

-- once the size has passed, page 0 decides
pub after_size : (bytes : List ℕ) → IsTrue (size_passes (length bytes))
    → opening_fault (length (pages_of bytes)) (page (pages_of bytes) 0) ≡ file_fault bytes
after_size bytes passes =
    ap (λ n. opening_fault n (page (pages_of bytes) 0)) (length-pages_of bytes)
    ∙ sym (first_of (size_passes (length bytes)) (opening_fault (length bytes / page_size) (page (pages_of bytes) 0)) passes)

-- the size that a file told is the one that was tested
pub told_passes : (told : Option (List ℕ)) (size : ℕ) (passed : Bool) → IfSome told (λ bytes. size ≡ length bytes)
    → passed ≡ size_passes size → passed ≡ true → IfSome told (λ bytes. IsTrue (size_passes (length bytes)))
told_passes None size passed is tested yes_ = tt
told_passes (Some bytes) size passed is tested yes_ = rw (← is) (sym tested ∙ yes_)

-- a file passes its tests where its pages in memory do
pub no_fault : (image : Image) (bytes : List ℕ) → IsTrue (size_passes (length bytes)) → PassesTests image → image ≡ pages_of bytes → file_fault bytes ≡ None
no_fault image bytes size tested same = sym (after_size bytes size) ∙ subst (λ i. opening_fault (length i) (page i 0) ≡ None) same tested.first

-- pages in memory that a run takes are those of a file that it takes
pub run_file : (image : Image) (told : Option (List ℕ)) → IsRunImage image → IfSome told (AreAllPages image) → IfSome told IsRunFile
run_file image None run pages = tt
run_file image (Some bytes) run pages = (
  no_fault image bytes (ap size_passes pages.0 ∙ run.0.size) run.0 pages.1,
  subst (λ i. has_clustered_table (page i 9) ≡ false) pages.1 run.1,
)

same_why : (fault : Option FileWhy) (w v : FileWhy) → fault ≡ Some w → fault ≡ Some v → w ≡ v
same_why fault w v a b = let same : Some w ≡ Some v = sym a ∙ b in cc

no_why : (fault : Option FileWhy) (w : FileWhy) → fault ≡ Some w → fault ≡ None → ⊥
no_why fault w a b = let same : Some w ≡ None = sym a ∙ b in cc

-- a file is refused for one reason
pub one_refusal : (bytes : List ℕ) (w v : FileWhy) → IsRefusedForRun w bytes → IsRefusedForRun v bytes → w ≡ v
one_refusal bytes w v a b =
    ⊎_elim (λ first. ⊎_elim (λ other. same_why (file_fault bytes) w v first other) (λ later. absurd (no_why (file_fault bytes) w first later.1)) b)
    (λ later. ⊎_elim (λ other. absurd (no_why (file_fault bytes) v other later.1)) (λ again. later.0 ∙ sym again.0) b) a

never_both : (has : Bool) → has ≡ true → has ≡ false → ⊥
never_both has a b = let same : true ≡ false = sym a ∙ b in cc

-- and none that a run takes is refused
pub not_refused : (bytes : List ℕ) (w : FileWhy) → IsRunFile bytes → IsRefusedForRun w bytes → ⊥
not_refused bytes w file refused =
    ⊎_elim (λ first. no_why (file_fault bytes) w first file.0) (λ later. never_both (has_clustered_table (page (pages_of bytes) 9)) later.2 file.1) refused
