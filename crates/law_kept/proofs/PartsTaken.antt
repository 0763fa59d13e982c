-- What a step leaves to parts, told by what the statement has taken.
use Rattle.std.proofs.Common.{◌≡◌, ◌⊎◌, ℕ, ◌/◌, ◌<◌, length, sym, subst, ◌∙◌, inl, inr, ⊎_elim}
use Rattle.spec_file.specs.declared.data.Resource.{Resource}
use Rattle.spec_file.specs.declared.data.Resource.TheVariants as resource
use Rattle.spec_file.specs.declared.geometry.Geometry.{Geometry}
use Rattle.spec_file.specs.Image.{Image}
use Rattle.spec_file.specs.Places.{extent_count}
use Rattle.spec_chain.specs.Marks.{IsMarker}
use Rattle.spec_words.specs.Views.{View}
use Rattle.spec_steps.specs.Acts.{Acts}
use Rattle.spec_steps.specs.PartsRead.{ReadsSameExtent, ReadsSame, LeavesParts, LeavesAllParts}
use Rattle.law_steps.proofs.LeftParts.{tables_left}
use Rattle.law_kept.proofs.Steps.{Took}

-- the extents that the statement has taken
abbrev pub taken_extents : View → ℕ → Type 0
taken_extents w e = Took w (resource.Extent (record { 0 = e }))

-- more extents may be touched
pub parts_wider : (g : Geometry) (image image' : Image) (o : ℕ) (touched more : ℕ → Type 0) → ((e : ℕ) → e < extent_count image → touched e → more e) → LeavesParts g image image' o touched
    → LeavesParts g image image' o more
parts_wider g image image' o touched more wider parts = record { extents = λ e low none. parts.extents e low (λ t. none (wider e low t)); tables = parts.tables }

pub all_wider : (g : Geometry) (image image' : Image) (o : ℕ) (touched more : ℕ → Type 0) → ((e : ℕ) → touched e → more e) → LeavesAllParts g image image' o touched
    → LeavesAllParts g image image' o more
all_wider g image image' o touched more wider all = record { parts = parts_wider g image image' o touched more (λ e low. wider e) all.parts; catalog = all.catalog }

-- an extent whose part reads the same twice, reads the same
extent_both : (g : Geometry) (image image' image'' : Image) (e : ℕ) → ReadsSameExtent g image image' e → ReadsSameExtent g image' image'' e → ReadsSameExtent g image image'' e
extent_both g image image' image'' e first second = record {
  free = second.free ∙ first.free;
  mixed = second.mixed ∙ first.mixed;
  uses = λ p at u. (λ h. (first.uses p at u).0 ((second.uses p at u).0 h), λ h. (second.uses p at u).1 ((first.uses p at u).1 h));
  marks = λ o. (λ h. (first.marks o).0 ((second.marks o).0 h), λ h. (second.marks o).1 ((first.marks o).1 h));
  bytes = λ p at of. second.bytes p at (⊎_elim (λ strange. inl strange) (λ none. inr (
    λ used. none.0 (used.0, (first.uses p at used.0).0 used.1),
    λ marked. none.1 (marked.0, subst (λ f. IsMarker g image f marked.0) (sym at) ((first.marks marked.0).0 (subst (λ f. IsMarker g image' f marked.0) at marked.1))),
  )) of) ∙ first.bytes p at of;
}

-- two steps on one object touch what either does
pub all_both : (g : Geometry) (image image' image'' : Image) (o : ℕ) (a b : ℕ → Type 0) → length image' ≡ length image → Acts g image image'' o → LeavesAllParts g image image' o a
    → LeavesAllParts g image' image'' o b → LeavesAllParts g image image'' o (λ e. a e ⊎ b e)
all_both g image image' image'' o a b size acts first second =
    let one = first.parts in
    let two = second.parts in
    let old = first.catalog in
    let new = second.catalog in record {
      parts = record {
        extents = λ e low none. extent_both g image image' image'' e (one.extents e low (λ t. none (inl t))) (two.extents e (subst (λ n. e < n / 8) (sym size) low) (λ t. none (inr t)));
        tables = tables_left g image image'' o acts;
      };
      catalog = record { boot = new.boot ∙ old.boot; system = acts.system };
    }

-- the part of a resource that isn't taken reads the same
abbrev pub ReadsSameUntaken : Geometry → Image → View → Type 0
ReadsSameUntaken g image w = (r : Resource) → (Took w r → ⊥) → ReadsSame g image w.now r

-- so it is where extents and tables are touched that are taken, and the catalog is taken
pub untaken_reads : (g : Geometry) (image : Image) (w : View) (o : ℕ) → LeavesParts g image w.now o (taken_extents w) → Took w (resource.Table (record { 0 = o })) → Took w resource.Catalog
    → ReadsSameUntaken g image w
untaken_reads g image w o parts table catalog resource.Catalog none = absurd (none catalog)
untaken_reads g image w o parts table catalog (resource.Extent e) none = λ low. parts.extents e.0 low none
untaken_reads g image w o parts table catalog (resource.Table n) none = parts.tables n.0 (λ same. none (subst (λ m. Took w (resource.Table (record { 0 = m }))) (sym same) table))
untaken_reads g image w o parts table catalog (resource.Byte p) none = tt
untaken_reads g image w o parts table catalog (resource.Page p) none = tt

-- or where it reads the same
pub all_untaken : (g : Geometry) (image : Image) (w : View) (o : ℕ) → LeavesAllParts g image w.now o (taken_extents w) → Took w (resource.Table (record { 0 = o })) → ReadsSameUntaken g image w
all_untaken g image w o all table resource.Catalog none = all.catalog
all_untaken g image w o all table (resource.Extent e) none = let parts = all.parts in λ low. parts.extents e.0 low none
all_untaken g image w o all table (resource.Table n) none = let parts = all.parts in parts.tables n.0 (λ same. none (subst (λ m. Took w (resource.Table (record { 0 = m }))) (sym same) table))
all_untaken g image w o all table (resource.Byte p) none = tt
all_untaken g image w o all table (resource.Page p) none = tt
