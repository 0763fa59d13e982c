-- The pages that were read so far.
use Rattle.std.proofs.Common.{◌≡◌, ℕ, ◌+◌, ◌*◌, ◌/◌, ◌<◌, List, [], ◌∷◌, ◌++◌, length, take, Option, Some, None, IfSome, refl, sym, ap, ◌∙◌, subst, arith}
use Rattle.std.specs.Option.{ForSome}
use Rattle.std.proofs.lemmas.List.{take_more}
use Rattle.std.proofs.lemmas.List.Elements.{All-push}
use Rattle.std.proofs.Math.Seq.{take-length}
use Rattle.spec_file.specs.Image.{Image, page_at, pages_of}
use Rattle.spec_file.proofs.ImageLaws.{length-pages_of, page-pages_of}
use Rattle.spec_log.specs.Cells.{HasWholePages}
use Rattle.pg_base.specs.declared.reader.ReadStop.{ReadStop}
use Rattle.pg_base.specs.declared.reader.ReadStop.TheVariants.{Fault, Ended, NoMemory}
use Rattle.vol_dev.specs.declared.device.Volume.{Ghosts}
use Rattle.pg_base.proofs.FaultLaws.{counts_none}
use Rattle.vol_dev.proofs.FileReads.{reads_file_then}
use Rattle.vol_pool.specs.Reading.{IsFault, IsWithin, ReadsPages}

more_within : (p pages : ℕ) (end : Option ReadStop) → p < pages → IsWithin (p + 1) end → IsWithin pages end
more_within p pages None below w = tt
more_within p pages (Some (Fault q)) below w = omega (arith, below, w)
more_within p pages (Some Ended) below w = w
more_within p pages (Some NoMemory) below w = tt

module _ {X : Type 0} (v : Ghosts X) (pages : ℕ) where
  -- no page was read
  pub reads_no_page : (a : X) → ReadsPages v pages a a None
  reads_no_page a = record { reads = record { contents = refl; faults = counts_none (IsFault None) (v.faults a) (λ is. is) }; within = tt }

  -- page p was read behind others
  pub reads_one_more : (p : ℕ) (a b c : X) (end : Option ReadStop) → p < pages → ReadsPages v pages a b None → ReadsPages v (p + 1) b c end
      → ReadsPages v pages a c end
  reads_one_more p a b c end below q r = record {
    reads = reads_file_then v a b c (IsFault None) (IsFault end) q.reads r.reads;
    within = more_within p pages end below r.within;
  }

has_pages : (bytes : List ℕ) (pages : ℕ) → length bytes ≡ 8192 * pages → length bytes / 8192 ≡ pages
has_pages bytes pages whole = omega (arith, whole)

-- one page more
pub more_read : (old told : Option (List ℕ)) (frames new : Image) (p pages : ℕ) → told ≡ old → ForSome old (λ bytes. length bytes ≡ 8192 * pages)
    → p < pages → IfSome old (λ bytes. frames ≡ take p (pages_of bytes)) → IfSome told (λ bytes. new ≡ frames ++ page_at bytes p ∷ [])
    → IfSome old (λ bytes. new ≡ take (p + 1) (pages_of bytes))
more_read None told frames new p pages same whole below so_far is = tt
more_read (Some bytes) told frames new p pages same whole below so_far is =
    let inside : p < length bytes / 8192 = omega (arith, below, has_pages bytes pages (whole bytes refl)) in
    let within : p < length (pages_of bytes) = subst (λ n. p < n) (sym (length-pages_of bytes)) inside in
    let here : new ≡ frames ++ page_at bytes p ∷ [] = subst (λ t. IfSome t (λ b. new ≡ frames ++ page_at b p ∷ [])) same is in
    here ∙ ap (λ l. l ++ page_at bytes p ∷ []) so_far
    ∙ ap (λ x. take p (pages_of bytes) ++ x ∷ []) (sym (page-pages_of bytes p inside))
    ∙ sym (take_more (pages_of bytes) p [] within)

-- one page alone
pub one_page : (frames : Image) (first : List ℕ) → frames ≡ first ∷ [] → length first ≡ 8192 → HasWholePages frames
one_page frames first same long =
    subst HasWholePages (sym same) (All-push (λ l. length l ≡ 8192) [] first (λ k d below. absurd (omega (arith, below))) long)

-- page 0 was read first
pub first_read : (old : Option (List ℕ)) (frames : Image) (first : List ℕ) (pages : ℕ) → ForSome old (λ bytes. length bytes ≡ 8192 * pages) → 0 < pages
    → IfSome old (λ bytes. first ≡ page_at bytes 0) → frames ≡ first ∷ [] → IfSome old (λ bytes. frames ≡ take 1 (pages_of bytes))
first_read None frames first pages whole some is same = tt
first_read (Some bytes) frames first pages whole some is same =
    more_read (Some bytes) (Some bytes) [] frames 0 pages refl whole some refl (same ∙ ap (λ x. x ∷ []) is)

-- all pages are read
pub all_read : (old : Option (List ℕ)) (frames : Image) (pages : ℕ) → ForSome old (λ bytes. length bytes ≡ 8192 * pages)
    → IfSome old (λ bytes. frames ≡ take pages (pages_of bytes)) → IfSome old (λ bytes. frames ≡ pages_of bytes)
all_read None frames pages whole so_far = tt
all_read (Some bytes) frames pages whole so_far =
    let count : length (pages_of bytes) ≡ pages = length-pages_of bytes ∙ has_pages bytes pages (whole bytes refl) in
    so_far ∙ ap (λ n. take n (pages_of bytes)) (sym count) ∙ take-length (pages_of bytes)
