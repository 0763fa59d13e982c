use Rattle.std.proofs.Common.{IsTrue, Some, None, refl, sym, ap, ◌∙◌}
use Rattle.std.proofs.lemmas.List.Elements.{Contains-append_left}
use Rattle.spec_file.specs.declared.data.Resource.TheVariants as resource
use Rattle.spec_file.specs.Image.{page}
use Rattle.spec_script.specs.declared.reply.Reply.TheVariants.{Done}
use Rattle.spec_words.specs.Words.{give}
use Rattle.spec_alloc.specs.Objects.{entry_of}
use Rattle.db_locks.specs.Does.{stop_of}
use Rattle.db_locks.proofs.PlanLaws.{does_after, does_more, does_stop, does_give, does_see}
use Rattle.db_cat.proofs.ChangeSteps.{of_within}
use Rattle.db_alloc.proofs.MapReads.{look_again, does_behind, behind_exit}
use Rattle.db_table.specs.Drops.{entry_removed}
use Rattle.db_table.proofs.Steps.{boot_seen}
use Rattle.db_table.proofs.Places.{own_entry_is}
use Rattle.db_table.proofs.Removals.{emptied_then}
use Rattle.db_table.proofs.drop.remove_entry.Goals as goal

pub returns-in_err-look_catalog : goal.returns-in_err-look_catalog
returns-in_err-look_catalog g c = λ looked before.
    behind_exit (entry_removed c.args.id.0) _ _
    (look_again looked 9 resource.Catalog c.requires.own before (does_stop {meaning = stop_of} stop_of (λ _. give tt) c.in_err-look_catalog.field-0.0 refl (does_more looked c.in_err-look_catalog.ensures.does)))
    c.from_residual.ensures.1

pub returns-in-Some : goal.returns-in-Some
returns-in-Some g c = λ looked before.
    let b = g.P.PlanPages.state c.look_catalog.new.view in
    let id = c.args.id.0 in
    let again = look_again looked 9 resource.Catalog c.requires.own before (does_after (λ _. give tt) (does_more looked c.in_ok-look_catalog.ensures.does) (does_give _ b tt)) in
    let seen = λ (told : IsTrue b.told). sym (c.in-Some.is) ∙ c.entry_of.ensures ∙ own_entry_is _ id ∙ ap (λ bytes. entry_of bytes id) (boot_seen _ c.in_ok-look_catalog.ensures.does c.in_ok-look_catalog.ensures.view told) in
    does_behind again
    (does_after _ (does_see looked b (λ view. entry_of (page view.now 9) id) (Some c.in-Some.i) seen)
    (emptied_then c.in-Some.i c.empty_entry.result
    (c.empty_entry.ensures _ (λ told. Contains-append_left looked _ 9 (before (sym c.in_ok-look_catalog.ensures.does.stays.told ∙ told))))))

pub returns-in-None : goal.returns-in-None
returns-in-None g c = λ looked before.
    let b = g.P.PlanPages.state c.look_catalog.new.view in
    let id = c.args.id.0 in
    let again = look_again looked 9 resource.Catalog c.requires.own before (does_after (λ _. give tt) (does_more looked c.in_ok-look_catalog.ensures.does) (does_give _ b tt)) in
    let seen = λ (told : IsTrue b.told). sym (c.in-None.is) ∙ c.entry_of.ensures ∙ own_entry_is _ id ∙ ap (λ bytes. entry_of bytes id) (boot_seen _ c.in_ok-look_catalog.ensures.does c.in_ok-look_catalog.ensures.view told) in
    does_behind again
    (does_after _ (does_see looked b (λ view. entry_of (page view.now 9) id) None seen)
    (does_after _ (does_give _ b None) (does_give _ b Done)))

pub empty_entry-requires : goal.empty_entry-requires
empty_entry-requires g c = record { within = of_within c.look_catalog.new.into.bytes c.args.id.0 c.in-Some.i (sym c.entry_of.ensures ∙ c.in-Some.is) }
