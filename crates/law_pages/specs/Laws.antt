-- What a statement may take from the file and from the sessions, in place of the log's images and holders.
use Rattle.std.specs.Prelude.{◌≡◌, ◌≢◌, ◌<◌, ◌≤◌, ◌↔◌, ◌==◌, ◌&&◌, not, MatchOption, ℕ, Bool, true, List, ◌++◌, length, slice_index, Contains, find, Option, Some, None, option_map}
use Rattle.std.specs.Int.{bit_at}
use Rattle.spec_file.specs.declared.data.Resource.{Resource}
use Rattle.spec_file.specs.declared.geometry.Geometry.{Geometry}
use Rattle.spec_file.specs.Image.{page, maps_start}
use Rattle.spec_log.specs.declared.item.Record.{Record}
use Rattle.spec_log.specs.Log.{is_unfinished, holds, holder_of}
use Rattle.spec_log.specs.Cover.{byte_guard}
use Rattle.spec_log.specs.Images.{view_of, final_image}
use Rattle.spec_log.specs.Rules.{KeepsRules}
use Rattle.spec_log.specs.Sound.{IsSound}
use Rattle.law_undo.specs.Laws.{IsOngoing}
use Rattle.law_net.specs.Files.{IsGuardedBy}
use Rattle.spec_run.specs.Begun.{Setting, shape_of}

-- a resource that nobody else holds: the file has each bit that it guards as the transaction sees it
abbrev pub FileAgreesUnder : Type 0
FileAgreesUnder = (run : Setting) (log : List Record) (t : ℕ) (r : Resource) (p i j : ℕ) → IsSound run.geometry (length run.image) run.opened run.image log →
    IsOngoing run.opened log t → holder_of (log ++ run.opened) r t ≡ None → IsGuardedBy (λ s. s ≡ r) (shape_of run) p i j →
    bit_at (slice_index (page (final_image run.opened log run.image) p) i) j ≡ bit_at (slice_index (page (view_of t run.opened log run.image) p) i) j

-- and so a byte of a page's header that nothing else guards
abbrev pub HeadersAreShown : Type 0
HeadersAreShown = (run : Setting) (log : List Record) (t : ℕ) (r : Resource) (p at : ℕ) → IsSound run.geometry (length run.image) run.opened run.image log →
    IsOngoing run.opened log t → holder_of (log ++ run.opened) r t ≡ None → at < maps_start →
    MatchOption (byte_guard run.geometry (length run.image) p at) (Unit {0}) (λ s. s ≡ r) →
    slice_index (page (final_image run.opened log run.image) p) at ≡ slice_index (page (view_of t run.opened log run.image) p) at

-- the log names u beside t exactly where u isn't t and holds the resource
abbrev pub HolderIsExact : Type 0
HolderIsExact = (g : Geometry) (pages : ℕ) (log : List Record) (r : Resource) (t u : ℕ) → KeepsRules g pages log →
    (holder_of log r t ≡ Some u) ↔ ((u ≢ t) × (holds log u r ≡ true))

-- a list, as that of the sessions, has every unfinished transaction of the log, and tells exactly what the
-- transactions in it hold; 0, which stands for none, may be in it and holds nothing
pub record ListsHolders {A : Type 0} (log : List Record) (tran : A → ℕ) (held : A → Resource → Bool) (xs : List A) : Type 0 where
  pub exact : (x : A) → Contains xs x → (r : Resource) → held x r ≡ holds log (tran x) r
  pub whole : (u : ℕ) → is_unfinished log u ≡ true → (x : A) × Contains xs x × (tran x ≡ u)

-- one that isn't t and holds the resource is in the list, or there is none
abbrev pub IsHolderAmong : {A : Type 0} → (A → ℕ) → (A → Resource → Bool) → List A → Resource → ℕ → Option ℕ → Type 0
IsHolderAmong {A = A} tran held xs r t found =
    MatchOption found ((x : A) → Contains xs x → held x r ≡ true → tran x ≡ t)
    (λ u. (x : A) × Contains xs x × (tran x ≡ u) × (u ≢ t) × (held x r ≡ true))

-- such a search finds whom the log names
abbrev pub HolderIsSession : Type 0 → Type 0
HolderIsSession A = (g : Geometry) (pages : ℕ) (log : List Record) (tran : A → ℕ) (held : A → Resource → Bool) (xs : List A) (r : Resource) (t : ℕ) (found : Option ℕ) →
    KeepsRules g pages log → ListsHolders log tran held xs → IsHolderAmong tran held xs r t found → holder_of log r t ≡ found

-- the first in the list that isn't t and holds the resource is found by such a search
abbrev pub FirstIsAmong : Type 0 → Type 0
FirstIsAmong A = (tran : A → ℕ) (held : A → Resource → Bool) (xs : List A) (r : Resource) (t : ℕ) →
    IsHolderAmong tran held xs r t (option_map tran (find (λ x. held x r && not (tran x == t)) xs))
