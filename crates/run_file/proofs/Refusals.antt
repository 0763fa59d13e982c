-- From what page 0 or the pages in memory fail to what their file is refused for.
use Rattle.std.proofs.Common.{◌≡◌, ℕ, ◌*◌, ◌/◌, ◌<◌, ◌≤◌, true, IsTrue, List, Option, Some, None, IfSome, IfErr, Result, Ok, Err, length, refl, sym, ap, ◌∙◌, subst, arith, inl, inr}
use Rattle.std.specs.Option.{ForSome}
use Rattle.spec_file.specs.Image.{Image, page, page_at, pages_of}
use Rattle.spec_file.proofs.ImageLaws.{length-pages_of, page-pages_of}
use Rattle.spec_file.specs.FileForm.{size_passes}
use Rattle.spec_log.specs.Cells.{HasWholePages}
use Rattle.run_file.specs.declared.why.FileStop.{FileStop}
use Rattle.run_file.specs.declared.why.FileStop.TheVariants.{Refused, Failed, NoMemory}
use Rattle.spec_start.specs.declared.why.FileWhy.{FileWhy}
use Rattle.spec_start.specs.Files.{opening_fault, file_fault, has_clustered_table, IsRefusedForRun, AreAllPages, PassesTests}
use Rattle.run_file.specs.Opening.{IsLater, FileFault, HasPages}
use Rattle.run_file.proofs.OpeningLaws.{after_size, no_fault}

-- page 0 of a told file decides
page_decides : (bytes first : List ℕ) (pages : ℕ) (fault : Option FileWhy) → HasPages pages bytes → 16 ≤ pages → first ≡ page_at bytes 0
    → opening_fault pages first ≡ fault → file_fault bytes ≡ fault
page_decides bytes first pages fault has low is said =
    let count : length bytes / 8192 ≡ pages = omega (arith, has.0) in
    let inside : 0 < length bytes / 8192 = omega (arith, count, low) in
    sym (after_size bytes has.1)
    ∙ ap (λ n. opening_fault n (page (pages_of bytes) 0)) (length-pages_of bytes ∙ count)
    ∙ ap (opening_fault pages) (page-pages_of bytes 0 inside ∙ sym is) ∙ said

-- page 0 of a told file fails a test
pub told_first_fails : (told : Option (List ℕ)) (first : List ℕ) (pages : ℕ) (w : FileWhy) → ForSome told (HasPages pages) → 16 ≤ pages
    → IfSome told (λ bytes. first ≡ page_at bytes 0) → opening_fault pages first ≡ Some w → IfSome told (IsRefusedForRun w)
told_first_fails None first pages w has low is fails = tt
told_first_fails (Some bytes) first pages w has low is fails = inl (page_decides bytes first pages (Some w) (has bytes refl) low is fails)

-- all pages are in memory behind a page 0 that passes
pub tested_file : (image : Image) (first : List ℕ) (pages : ℕ) → HasWholePages image → IsTrue (size_passes (8192 * pages)) → opening_fault pages first ≡ None
    → length image ≡ pages → page image 0 ≡ first → PassesTests image
tested_file image first pages whole size passes count is = record {
  whole = whole;
  size = subst (λ n. IsTrue (size_passes (8192 * n))) (sym count) size;
  first = ap (λ n. opening_fault n (page image 0)) count ∙ ap (opening_fault pages) is ∙ passes;
}

-- pages that pass and have a clustered table are of a file for later
told_later : (told : Option (List ℕ)) (image : Image) (w : FileWhy) → IfSome told (λ bytes. IsTrue (size_passes (length bytes)))
    → PassesTests image → IfSome told (AreAllPages image) → IsLater image (Refused w) → IfSome told (IsRefusedForRun w)
told_later None image w passes tested all later = tt
told_later (Some bytes) image w passes tested all later =
    inr (later.0, no_fault image bytes passes tested all.1, subst (λ i. has_clustered_table (page i 9) ≡ true) all.1 later.1)

pub later_file : {T : Type 0} (told : Option (List ℕ)) (image : Image) (r : Result T FileStop)
    → IfSome told (λ bytes. IsTrue (size_passes (length bytes))) → PassesTests image → IfSome told (AreAllPages image) → IfErr r (IsLater image)
    → FileFault told r
later_file told image (Ok value) passes tested all later = tt
later_file told image (Err (Refused w)) passes tested all later = told_later told image w passes tested all later
later_file told image (Err Failed) passes tested all later = absurd later
later_file told image (Err NoMemory) passes tested all later = passes
