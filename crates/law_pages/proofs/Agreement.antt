-- The file has what a transaction sees, bit by bit under a resource that nobody else holds.
use Rattle.std.proofs.Common.{◌≡◌, ℕ, ◌+◌, ◌-◌, ◌*◌, ◌/◌, ◌<◌, List, ◌++◌, length, Option, Some, None, inl, inr, refl, sym, ap, ◌∙◌, subst, arith}
use Rattle.std.specs.Prelude.{MatchOption, IsSomeAnd, slice_index}
use Rattle.std.specs.Int.{bit_at}
use Rattle.spec_file.specs.declared.data.Resource.{Resource}
use Rattle.spec_file.specs.declared.geometry.Geometry.{Geometry}
use Rattle.spec_file.specs.Image.{Image, page, maps_start}
use Rattle.spec_log.specs.declared.item.Record.{Record}
use Rattle.spec_log.specs.Log.{holder_of, IsFreeFor}
use Rattle.spec_log.specs.Cover.{byte_guard, bit_guard}
use Rattle.spec_log.specs.Images.{view_of, final_image}
use Rattle.spec_log.specs.Sound.{IsSound}
use Rattle.law_undo.specs.Laws.{IsOngoing}
use Rattle.law_undo.proofs.Guards.{first_guard, guard_of, no_byte_guard}
use Rattle.law_undo.proofs.HolderLaws.{none_other}
use Rattle.law_undo.proofs.Law.{shows_at, same_bit, file_shows_bytes}
use Rattle.law_undo.proofs.Shapes.{final_shape, view_shape}
use Rattle.law_undo.proofs.Unguarded.{unguarded_stay}
use Rattle.law_net.specs.Files.{IsGuardedBy}
use Rattle.spec_run.specs.Begun.{Setting, shape_of}
use Rattle.law_pages.specs.Laws.{FileAgreesUnder, HeadersAreShown}

some_is : (o : Option Resource) (r : Resource) → IsSomeAnd o (λ s. s ≡ r) → o ≡ Some r
some_is None r h = elim h [ ]
some_is (Some s) r h = ap Some h

-- the resource is the first guard there
guard_is : (run : Setting) (p i j : ℕ) (r : Resource) → IsGuardedBy (λ s. s ≡ r) (shape_of run) p i j → guard_of run.geometry (length run.image) p i j ≡ r
guard_is run p i j r (inl h) =
    let g = run.geometry in
    let pages = length run.image in
    ap (λ o. first_guard o (bit_guard g pages p (8 * (i - maps_start) + j))) (some_is (byte_guard g pages p i) r h)
guard_is run p i j r (inr h) =
    let g = run.geometry in
    let pages = length run.image in
    let n = 8 * (i - maps_start) + j in
    let e = some_is (bit_guard g pages p n) r h.1 in
    ap (λ o. first_guard o (bit_guard g pages p n)) (no_byte_guard g pages p n i r e) ∙ ap (first_guard None) e

pub file_agrees_under : FileAgreesUnder
file_agrees_under run log t r p i j s ongoing free guarded =
    let g = run.geometry in
    let b = run.image in
    sym (same_bit b (view_of t run.opened log b) (final_image run.opened log b) p i j (view_shape g run.opened log b t s) (final_shape run.opened log b)
    (λ lt lt2. shows_at g run.opened log b t p i j (record { page_in = lt; byte_in = lt2 }) s ongoing
    (subst (IsFreeFor (log ++ run.opened) t) (sym (guard_is run p i j r guarded)) (none_other (log ++ run.opened) r t free))))

pub headers_are_shown : HeadersAreShown
headers_are_shown run log t r p at s ongoing free low only = by_guard (byte_guard g (length b) p at) refl only
  where
    g : Geometry
    g = run.geometry

    b : Image
    b = run.image

    by_guard : (o : Option Resource) → byte_guard g (length b) p at ≡ o → MatchOption o (Unit {0}) (λ s. s ≡ r) →
        slice_index (page (final_image run.opened log b) p) at ≡ slice_index (page (view_of t run.opened log b) p) at
    by_guard None e only =
        let stay = unguarded_stay g run.opened log b t p at s e (λ n here. absurd (omega (arith, here, low))) in
        stay.1 ∙ sym stay.0
    by_guard (Some u) e only = sym (file_shows_bytes g run.opened log b t p at r s ongoing (e ∙ ap Some only) (none_other (log ++ run.opened) r t free))
