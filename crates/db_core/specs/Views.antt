-- What the transactions of sessions hold, and which are open.
use Rattle.std.specs.Prelude.{ℕ, ◌==◌, ◌&&◌, not, Bool, List, map, filter, slice_get, Option, Some, None}
use Rattle.std.specs.List.{list_any}
use Rattle.spec_file.specs.declared.data.Resource.{Resource}
use Rattle.spec_log.specs.Items.{is_same}
use Rattle.db_core.specs.declared.session.Session.{Session}

abbrev pub tran_of_session : Option Session → ℕ
tran_of_session None = 0
tran_of_session (Some x) = x.tran

-- the open transaction of session `at`, counted from 0; 0 stands for none
abbrev pub tran_at : List Session → ℕ → ℕ
tran_at sessions at = tran_of_session (slice_get sessions at)

-- the session's transaction holds the resource; a session with none holds nothing
abbrev pub has_held : Session → Resource → Bool
has_held x r = not (x.tran == 0) && list_any (is_same r) x.held.items

-- another session's transaction holds the resource
abbrev pub holds_beside : Resource → ℕ → Session → Bool
holds_beside r t x = has_held x r && not (x.tran == t)

-- the open transactions
abbrev pub open_trans : List Session → List ℕ
open_trans sessions = map (λ (x : Session). x.tran) (filter (λ (x : Session). not (x.tran == 0)) sessions)
