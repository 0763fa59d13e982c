-- What a statement is planned on, and what comes of a plan.
use Rattle.std.specs.Prelude.{ℕ, Bool, List, [], Option}
use Rattle.spec_file.specs.declared.data.Resource.{Resource}
use Rattle.spec_file.specs.Image.{Image}
use Rattle.spec_script.specs.declared.reply.Refusal.{Refusal}
use Rattle.spec_words.specs.NetChanges.{FileShape}

-- the file as the statement's transaction saw it when the statement began, and as it sees it now; which other
-- transaction holds a resource, what its own holds, and what the statement has taken
pub record View : Type 0 where
  pub shape : FileShape
  pub start : Image
  pub now : Image
  pub other : Resource → Option ℕ
  pub own : Resource → Bool
  pub taken : List Resource

-- a statement begins where nothing is written and nothing taken
abbrev pub beginning : FileShape → Image → (Resource → Option ℕ) → (Resource → Bool) → View
beginning shape image other own = record { shape = shape; start = image; now = image; other = other; own = own; taken = [] }

-- a plan gives something, with the view as it then stands, or stops at a refusal
pub data End (A : Type 0) : Type 0 where
  Gives : A → View → End A
  Stops : Refusal → End A

-- the pages that a plan reaches, in their order, and how it ends. A fault of the device may be told of these alone
pub record Outcome (A : Type 0) : Type 0 where
  pub reached : List ℕ
  pub ending : End A

abbrev pub Plan : Type 0 → Type 0
Plan A = View → Outcome A
