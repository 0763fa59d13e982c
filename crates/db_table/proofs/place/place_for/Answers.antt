use Rattle.std.proofs.Common.{[], map, refl, sym, ap, ◌∙◌}
use Rattle.std.specs.Prelude.{is_some}
use Rattle.spec_plan.specs.Reading.{named_among}
use Rattle.spec_plan.specs.Refusals.{too_many_tables}
use Rattle.spec_words.specs.Words.{refuse}
use Rattle.spec_alloc.specs.Objects.{free_id, free_entry}
use Rattle.db_cat.specs.Rows.{row_of}
use Rattle.db_cat.proofs.ChangeSteps.{free_within}
use Rattle.db_locks.proofs.PlanLaws.{does_then, does_stop, does_give}
use Rattle.db_alloc.specs.declared.single.AllocStop.TheVariants.{Page}
use Rattle.db_alloc.proofs.Steps.{does_ok, does_exit_as, found_some}
use Rattle.db_table.specs.declared.place.CreateStop.TheVariants.{Alloc, SameName}
use Rattle.db_table.specs.Creates.{create_stop, place_of}
use Rattle.db_table.proofs.Places.{entry_is, id_is, few_rows, name_there, name_free, no_place}
use Rattle.db_table.proofs.place.place_for.Goals as goal

pub returns-in_err-rows-clause-does : goal.returns-in_err-rows-clause-does
returns-in_err-rows-clause-does c = λ a. does_exit_as _ place_of (Alloc (Page c.in_err-rows.field-0.0)) _ refl (c.in_err-rows.ensures.does a) c.from_residual.ensures.1

pub returns-then-is_named-clause-does : goal.returns-then-is_named-clause-does
returns-then-is_named-clause-does c = λ a.
    let name = c.args.name.now in
    let boot = c.args.boot.now.bytes in
    let rows = ap (map row_of) c.deref.ensures.value ∙ c.in_ok-rows.ensures.rows in
    let there = ap (λ n. is_some (named_among (map row_of c.deref.result.now) n)) (sym c.as_str.ensures) ∙ sym c.is_named.ensures ∙ c.if-is_named.true in
    does_then _ (does_ok (c.in_ok-rows.ensures.does a)) (does_stop {meaning = create_stop name} (create_stop name) _ SameName refl (name_there name [] a boot (map row_of c.deref.result.now) rows there))

pub free_id-requires : goal.free_id-requires
free_id-requires c = few_rows c.args.boot.now.bytes c.deref-in-Some.result.now (ap (map row_of) c.deref-in-Some.ensures.value ∙ c.in_ok-rows.ensures.rows)

pub returns-in-Some-clause-does : goal.returns-in-Some-clause-does
returns-in-Some-clause-does c = λ a.
    let name = c.args.name.now in
    let boot = c.args.boot.now.bytes in
    let rows = ap (map row_of) c.deref.ensures.value ∙ c.in_ok-rows.ensures.rows in
    let same = ap (map row_of) c.deref-in-Some.ensures.value ∙ c.in_ok-rows.ensures.rows in
    let free = ap (λ n. is_some (named_among (map row_of c.deref.result.now) n)) (sym c.as_str.ensures) ∙ sym c.is_named.ensures ∙ c.if-is_named.false in
    let id = sym (c.free_id.ensures ∙ id_is boot (map row_of c.deref-in-Some.result.now) same) in
    let entry = sym (entry_is boot) ∙ sym c.free_entry.ensures ∙ c.in-Some.is in
    does_then _ (does_ok (c.in_ok-rows.ensures.does a))
    (does_then _ (name_free name [] a boot (map row_of c.deref.result.now) rows free)
    (does_then _ (found_some [] a (free_id boot) c.free_id.result.0 (refuse too_many_tables) id)
    (does_then _ (found_some [] a (free_entry boot) c.in-Some.entry (refuse too_many_tables) entry)
    (does_give [] a (c.free_id.result.0, c.in-Some.entry)))))

pub returns-in-Some-clause-within : goal.returns-in-Some-clause-within
returns-in-Some-clause-within c = free_within c.args.boot.now.bytes c.in-Some.entry (sym c.free_entry.ensures ∙ c.in-Some.is)

pub returns-clause-does : goal.returns-clause-does
returns-clause-does c = λ a.
    let name = c.args.name.now in
    let boot = c.args.boot.now.bytes in
    let rows = ap (map row_of) c.deref.ensures.value ∙ c.in_ok-rows.ensures.rows in
    let free = ap (λ n. is_some (named_among (map row_of c.deref.result.now) n)) (sym c.as_str.ensures) ∙ sym c.is_named.ensures ∙ c.if-is_named.false in
    let none = sym (entry_is boot) ∙ sym c.free_entry.ensures ∙ c.in-None.is in
    does_then _ (does_ok (c.in_ok-rows.ensures.does a))
    (does_then _ (name_free name [] a boot (map row_of c.deref.result.now) rows free)
    (no_place name a (free_id boot) (free_entry boot) none))
