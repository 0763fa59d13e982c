-- What a view stands for while a statement is planned on it.
use Rattle.std.specs.Prelude.{◌≡◌, ◌&&◌, ℕ, nat_lt, ◌==◌, Bool, true, if◌then◌else◌, List, [], ◌∷◌}
use Rattle.spec_file.specs.declared.data.PageNo.{PageNo}
use Rattle.spec_file.specs.declared.data.Resource.{Resource}
use Rattle.spec_file.specs.Image.{Image, page}
use Rattle.spec_words.specs.Takes.{is_among}
use Rattle.spec_words.specs.Views.{View}
use Rattle.law_net.specs.Files.{IsImageOf, DifferUnder}
use Rattle.db_locks.specs.Guards.{AgreeUnder}

-- the device's failures so far; what the statement's transaction sees, holds and takes; the pages as they are shown, which
-- may have what other transactions wrote; the pages as they were shown before each one's first put; and the pages that
-- were put, rising. told: what is seen and shown is known. The shape, the holders and what was taken are known always
pub record PlanState : Type 0 where
  pub told : Bool
  pub faults : ℕ
  pub view : View
  pub shown : Image
  pub first : Image
  pub put : List PageNo

-- the pages that are told are those of the file; what the statement took is shown as it is seen, now and before; and
-- neither what is seen nor what is shown changed but where it took what guards it
pub record AreImages (state : PlanState) : Type 0 where
  pub start : IsImageOf state.view.shape state.view.start
  pub now : IsImageOf state.view.shape state.view.now
  pub first : IsImageOf state.view.shape state.first
  pub shown : IsImageOf state.view.shape state.shown
  pub taken : (r : Resource) → is_among state.view.taken r ≡ true → (p : ℕ) → AgreeUnder r state.view.shape p (page state.shown p) (page state.view.now p)
  pub before : (r : Resource) → is_among state.view.taken r ≡ true → (p : ℕ) → AgreeUnder r state.view.shape p (page state.first p) (page state.view.start p)
  pub moved : ∥ DifferUnder state.view.shape state.view.taken state.view.start state.view.now ∥₁
  pub written : ∥ DifferUnder state.view.shape state.view.taken state.first state.shown ∥₁

-- pages that rise, with one more
abbrev pub with_page : PageNo → List PageNo → List PageNo
with_page p [] = p ∷ []
with_page p (q ∷ rest) = if p.0 == q.0 then q ∷ rest else (if nat_lt p.0 q.0 then p ∷ (q ∷ rest) else q ∷ with_page p rest)

-- the first of these, if there is one, is above n
abbrev pub begins_above : ℕ → List PageNo → Bool
begins_above n [] = true
begins_above n (p ∷ rest) = nat_lt n p.0

-- each is above the one before it
abbrev pub are_rising : List PageNo → Bool
are_rising [] = true
are_rising (p ∷ rest) = begins_above p.0 rest && are_rising rest

-- what is shown stays
pub record KeepsShown (old new : PlanState) : Type 0 where
  pub shown : new.shown ≡ old.shown
  pub first : new.first ≡ old.first
  pub put : new.put ≡ old.put
