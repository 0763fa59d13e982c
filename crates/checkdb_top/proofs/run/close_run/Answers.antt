use Rattle.std.proofs.Common.{◌∙◌, [], map}
use Rattle.std.proofs.lemmas.List.{length-map}
use Rattle.spec_run.specs.Entries.{items_of}
use Rattle.law_shape.proofs.Items.{whole_is_served}
use Rattle.law_shape.proofs.Marking.{turns_are_legal}
use Rattle.checkdb_top.specs.Runs.{replies_to}
use Rattle.checkdb_top.proofs.RunCompleteness.{none_without}
use Rattle.checkdb_top.proofs.Closings.{closed, close_of, items_order, may_write}
use Rattle.checkdb_top.proofs.run.close_run.Goals as goal

pub write_run-requires-clause-may : goal.write_run-requires-clause-may
write_run-requires-clause-may g c =
    let core = c.args.core.now in
    let order = items_order c.items-items.result.now (items_of core.entries) c.items-items.ensures.items in
    may_write core.run core.entries c.items-items.result.now c.in_ok-close.close c.frames-2.result.now _ c.requires.opened c.frames-2.ensures order
    (close_of core.run core.entries c.items-items.result.now c.in_ok-close.close c.count.result c.frames.result.now c.requires.opened c.frames.ensures c.count.ensures c.in_ok-close.ensures)
    c.requires.start.shape c.requires.file

pub returns-clause-closes : goal.returns-clause-closes
returns-clause-closes g c =
    let core = c.args.core.now in
    let order = items_order c.items-items.result.now (items_of core.entries) c.items-items.ensures.items in
    let of = close_of core.run core.entries c.items-items.result.now c.in_ok-close.close c.count.result c.frames.result.now c.requires.opened c.frames.ensures c.count.ensures c.in_ok-close.ensures in
    closed core.run core.entries c.items-items.result.now c.in_ok-close.close (map (λ r. r.now) c.in_ok-replies.replies.items) c.ended-known.result _ _ _ _ _ _ c.write_run.result
    c.requires.opened order of (length-map c.in_ok-replies.replies.items (λ r. r.now) ∙ c.in_ok-replies.ensures.count)
    (turns_are_legal core.run c.requires.made.0 [] core.entries (replies_to (map (λ r. r.now) c.in_ok-replies.replies.items)) c.requires.start c.items-items.ensures.legal tt
    c.requires.made.1 c.in_ok-replies.ensures.told)
    (λ s mine. (whole_is_served core.run core.entries c.requires.start c.items-items.ensures.legal c.requires.whole s mine).0) (rw (c.deref.ensures.value) at c.ended-known.ensures)
    (rw (c.frames-2.ensures, c.deref-2.ensures.value) at c.write_run.ensures.writes)

pub ended-known-requires-clause-none : goal.ended-known-requires-clause-none
ended-known-requires-clause-none g c =
    let core = c.args.core.now in
    rw (c.deref.ensures.value) (none_without core.run (items_of core.entries) (map (λ r. r.now) c.in_ok-replies.replies.items) c.requires.opened
    (length-map c.in_ok-replies.replies.items (λ r. r.now) ∙ c.in_ok-replies.ensures.count) c.in_ok-replies.ensures.told)
