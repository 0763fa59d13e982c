-- What a view's statement changes and takes is what is shown otherwise than before it.
use Rattle.std.proofs.Common.{◌≡◌, ℕ, ◌≤◌, false, not, ◌∙◌}
use Rattle.std.specs.Prelude.{filter}
use Rattle.spec_words.specs.NetChanges.{changes_of}
use Rattle.spec_words.specs.Takes.{in_order, changes_at, takes_at}
use Rattle.law_net.proofs.Images.{are_images}
use Rattle.db_locks.specs.Calls.{newly_taken}
use Rattle.db_locks.specs.States.{PlanState, AreImages}
use Rattle.net_changes.specs.Shown.{is_byte_shown, counts_shown}
use Rattle.net_changes.proofs.Alike.{AreBoth}
use Rattle.net_changes.proofs.AlikePages.{changes_same}
use Rattle.net_changes.proofs.AlikeTakes.{takes_same, past_byte}
use Rattle.net_changes.proofs.Ranges.{filter_both}

are_both : (state : PlanState) → AreImages state → AreBoth state.view.shape state.view.taken state.view.start state.view.now state.first state.shown
are_both state images = record {
  seen = are_images state.view.shape state.view.start state.view.now images.start images.now;
  told = are_images state.view.shape state.first state.shown images.first images.shown;
  moved = images.moved;
  written = images.written;
  before = images.before;
  after = images.taken;
}

pub changes_are_shown : (state : PlanState) → AreImages state → changes_at state.view ≡ changes_of state.view.shape state.first state.shown
changes_are_shown state images = changes_same state.view.shape state.view.taken state.view.start state.view.now state.first state.shown (are_both state images)

pub takes_are_shown : (state : PlanState) → AreImages state → takes_at state.view ≡ filter (counts_shown state) (newly_taken state.view)
takes_are_shown state images =
    takes_same state.view.shape state.view.own state.view.taken state.view.start state.view.now state.first state.shown (are_both state images)
    ∙ filter_both (λ r. not (state.view.own r)) (counts_shown state) (in_order state.view.taken)

-- the PFS byte of a page behind the file is shown as before
pub past_is_shown : (state : PlanState) → AreImages state → (p : ℕ) → state.view.shape.pages ≤ p → is_byte_shown state p ≡ false
past_is_shown state images p past =
    past_byte state.view.shape state.view.taken state.first state.shown (are_images state.view.shape state.first state.shown images.first images.shown) images.written p past
