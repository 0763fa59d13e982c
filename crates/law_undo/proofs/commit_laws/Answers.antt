use Rattle.law_undo.proofs.Commits.{commit_shows_view, commit_changes_own, silent_items_change_nothing}
use Rattle.law_undo.proofs.commit_laws.Goals as goal

pub returns : goal.returns
returns c = record { view = commit_shows_view; own = commit_changes_own; silent = silent_items_change_nothing }
