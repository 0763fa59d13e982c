-- What a part of a clean file reads changes only where the part's resource is taken.
use Rattle.std.specs.Prelude.{◌≡◌, true}
use Rattle.spec_file.specs.declared.data.Resource.{Resource}
use Rattle.spec_words.specs.Takes.{is_among}
use Rattle.spec_words.specs.Views.{View}
use Rattle.spec_steps.specs.PartsRead.{ReadsSame}

-- the part of a resource that isn't taken reads the same, as the view stands after
abbrev pub ChangesTaken : View → View → Type 0
ChangesTaken view after =
    (r : Resource) → (is_among after.taken r ≡ true → ⊥) → ReadsSame view.shape.geometry view.now after.now r
