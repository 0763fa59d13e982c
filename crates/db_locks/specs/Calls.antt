-- What the calls of a view leave and name.
use Rattle.std.specs.Prelude.{◌≡◌, ℕ, List, not, filter}
use Rattle.spec_file.specs.declared.data.Resource.{Resource}
use Rattle.spec_words.specs.Takes.{in_order}
use Rattle.spec_words.specs.Views.{View}
use Rattle.db_locks.specs.declared.plan_pages.PageStop.{PageStop}
use Rattle.db_locks.specs.declared.plan_pages.PageStop.TheVariants.{Held, Fault, Bad, NoMemory}

-- a call at page p, or under a resource, names no other page and no other resource, and doesn't judge the page
abbrev pub NamesPage : ℕ → PageStop → Type 0
NamesPage p (Held r t) = ⊥
NamesPage p (Fault q) = q.0 ≡ p
NamesPage p (Bad q) = ⊥
NamesPage p NoMemory = Unit {0}

abbrev pub NamesResource : Resource → PageStop → Type 0
NamesResource r (Held s t) = s ≡ r
NamesResource r (Fault q) = ⊥
NamesResource r (Bad q) = ⊥
NamesResource r NoMemory = Unit {0}

-- a look may meet either
abbrev pub NamesBoth : ℕ → Resource → PageStop → Type 0
NamesBoth p r (Held s t) = s ≡ r
NamesBoth p r (Fault q) = q.0 ≡ p
NamesBoth p r (Bad q) = ⊥
NamesBoth p r NoMemory = Unit {0}

-- what the statement took and its transaction didn't hold, in the order of takes
abbrev pub newly_taken : View → List Resource
newly_taken view = filter (λ r. not (view.own r)) (in_order view.taken)
