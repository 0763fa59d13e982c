-- What words leave of a view: its file's form, who holds what, and all but a few places of its image.
use Rattle.std.proofs.Common.{◌≡◌, ℕ, ◌/◌, ◌<◌, true, length, refl, sym, subst, ◌∙◌, arith}
use Rattle.spec_file.specs.declared.data.Resource.{Resource}
use Rattle.spec_file.specs.Image.{Image}
use Rattle.spec_file.specs.Places.{HasShape, extent_count}
use Rattle.spec_log.specs.Cells.{HasWholePages}
use Rattle.spec_words.specs.NetChanges.{FileShape}
use Rattle.spec_words.specs.Takes.{is_among}
use Rattle.spec_words.specs.Views.{View}
use Rattle.spec_steps.specs.AtMost.{Changed, AtMost, either}
use Rattle.spec_file.specs.declared.geometry.Geometry.{Geometry}
use Rattle.law_writes.proofs.WritesAtMost.{at_most_both}

-- an image of so many whole pages
pub record IsFile (shape : FileShape) (image : Image) : Type 0 where
  pub file : HasShape shape.geometry shape.pages
  pub pages : length image ≡ shape.pages
  pub whole : HasWholePages image

pub file_shape : (shape : FileShape) (image : Image) → IsFile shape image → HasShape shape.geometry (length image)
file_shape shape image f = subst (HasShape shape.geometry) (sym f.pages) f.file

pub page_in : (shape : FileShape) (image : Image) (p : ℕ) → IsFile shape image → p < shape.pages → p < length image
page_in shape image p f inside = subst (λ n. p < n) (sym f.pages) inside

pub extent_in : (shape : FileShape) (image : Image) (e : ℕ) → IsFile shape image → e < shape.pages / 8 → e < extent_count image
extent_in shape image e f inside = subst (λ n. e < n / 8) (sym f.pages) inside

pub nine_inside : (shape : FileShape) (image : Image) → IsFile shape image → 9 < shape.pages
nine_inside shape image f = let file = f.file in let low = file.low in omega (arith, low)

-- the statement has taken the resource
abbrev pub Took : View → Resource → Type 0
Took v r = is_among v.taken r ≡ true

-- from one view to a later one of the same statement
pub record Goes (shape : FileShape) (changed : Changed) (v w : View) : Type 0 where
  pub file : IsFile shape w.now
  pub same : w.shape ≡ v.shape
  pub other : w.other ≡ v.other
  pub most : AtMost shape.geometry changed v.now w.now
  pub taken : (r : Resource) → Took v r → Took w r

pub goes_both : (shape : FileShape) (a b : Changed) (v w x : View) → Goes shape a v w → Goes shape b w x → Goes shape (either a b) v x
goes_both shape a b v w x first second = record {
  file = second.file;
  same = second.same ∙ first.same;
  other = second.other ∙ first.other;
  most = at_most_both shape.geometry a b v.now w.now x.now first.most second.most;
  taken = λ r took. second.taken r (first.taken r took);
}

-- what one changes at most, the other does too
pub record IsWithin (a b : Changed) : Type 0 where
  pub free : (e : ℕ) → a.free e → b.free e
  pub mixed : (e : ℕ) → a.mixed e → b.mixed e
  pub bytes : (p : ℕ) → a.bytes p → b.bytes p
  pub pages : (q : ℕ) → a.pages q → b.pages q

most_within : (g : Geometry) (a b : Changed) (image image' : Image) → IsWithin a b → AtMost g a image image' → AtMost g b image image'
most_within g a b image image' within most = record {
  size = most.size;
  free = λ e low other. most.free e low (λ h. other (within.free e h));
  mixed = λ e low other. most.mixed e low (λ h. other (within.mixed e h));
  bytes = λ p low other. most.bytes p low (λ h. other (within.bytes p h));
  pages = λ q whole other. most.pages q whole (λ h. other (within.pages q h));
  system = λ q type low other is. most.system q type low (λ h. other (within.pages q h)) is;
}

pub goes_within : (shape : FileShape) (a b : Changed) (v w : View) → IsWithin a b → Goes shape a v w → Goes shape b v w
goes_within shape a b v w within goes = record {
  file = goes.file;
  same = goes.same;
  other = goes.other;
  most = most_within shape.geometry a b v.now w.now within goes.most;
  taken = goes.taken;
}

-- nothing changes
abbrev pub nothing : Changed
nothing = record { free = λ e. ⊥; mixed = λ e. ⊥; bytes = λ p. ⊥; pages = λ q. ⊥ }

pub nothing_within : (changed : Changed) → IsWithin nothing changed
nothing_within changed = record { free = λ e c. absurd c; mixed = λ e c. absurd c; bytes = λ p c. absurd c; pages = λ q c. absurd c }

pub goes_nowhere : (shape : FileShape) (v : View) → IsFile shape v.now → Goes shape nothing v v
goes_nowhere shape v f = record {
  file = f;
  same = refl;
  other = refl;
  most = record {
    size = refl;
    free = λ e low other. refl;
    mixed = λ e low other. refl;
    bytes = λ p low other. refl;
    pages = λ q whole other. refl;
    system = λ q type low other is. refl;
  };
  taken = λ r took. took;
}
