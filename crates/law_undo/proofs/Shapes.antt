-- Every view, and the file as it stands, has as many pages as the file had, each as long.
use Rattle.std.proofs.Common.{◌≡◌, ℕ, zero, suc, ◌<◌, true, get_or, List, [], ◌∷◌, length, refl, sym, ◌∙◌, subst, arith}
use Rattle.spec_file.specs.declared.geometry.Geometry.{Geometry}
use Rattle.spec_file.specs.Image.{Image}
use Rattle.spec_log.specs.declared.item.Record.{Record}
use Rattle.spec_log.specs.Cells.{HasWholePages}
use Rattle.spec_log.specs.Images.{view_of, final_image}
use Rattle.spec_log.specs.Sound.{IsSound}
use Rattle.law_undo.proofs.Reading.{SameShape, shape_trans}
use Rattle.law_undo.proofs.ReadLogs.{shape_applied}
use Rattle.law_undo.proofs.Views.{sound_commits, shape_view}

pub shape_sym : (x y : Image) → SameShape x y → SameShape y x
shape_sym x y s = record { pages = sym s.pages; bytes = λ p. sym (s.bytes p) }

pub view_shape : (g : Geometry) (opened log : List Record) (b : Image) (t : ℕ) → IsSound g (length b) opened b log → SameShape b (view_of t opened log b)
view_shape g opened log b t s = shape_view t opened log b (sound_commits g (length b) opened b log s)

pub final_shape : (opened log : List Record) (b : Image) → SameShape b (final_image opened log b)
final_shape opened log b = shape_applied (λ t. true) opened log b

pub view_final_shape : (g : Geometry) (opened log : List Record) (b : Image) (t : ℕ) → IsSound g (length b) opened b log → SameShape (view_of t opened log b) (final_image opened log b)
view_final_shape g opened log b t s =
    shape_trans (view_of t opened log b) b (final_image opened log b) (shape_sym b (view_of t opened log b) (view_shape g opened log b t s)) (final_shape opened log b)

pub whole_shape : (image other : Image) → SameShape image other → HasWholePages image → HasWholePages other
whole_shape image other shape whole k d lt =
    let inside : k < length image = subst (λ n. k < n) shape.pages lt in
    default_free other k d [] lt ∙ shape.bytes k ∙ whole k [] inside
  where
    default_free : (xs : Image) (i : ℕ) (a b : List ℕ) → i < length xs → length (get_or xs i a) ≡ length (get_or xs i b)
    default_free [] i a b h = absurd (omega (arith, h))
    default_free (x ∷ xs) zero a b h = refl
    default_free (x ∷ xs) (suc i) a b h = default_free xs i a b (omega (arith, h))
