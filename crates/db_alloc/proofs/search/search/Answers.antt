use Rattle.std.proofs.Common.{◌≡◌, ℕ, ◌+◌, ◌-◌, ◌/◌, ◌<◌, ◌≤◌, [], arith, refl, sym, ap, ◌∙◌, subst}
use Rattle.std.specs.Prelude.{IfSome}
use Rattle.std.specs.List.{range_with_len}
use Rattle.spec_words.specs.NetChanges.{FileShape}
use Rattle.spec_words.specs.Views.{View}
use Rattle.spec_words.specs.Words.{first_of}
use Rattle.spec_alloc.specs.Search.{search, search_at}
use Rattle.db_locks.specs.Does.{stop_of}
use Rattle.db_locks.proofs.LoopLaws.{leads_none, first_end}
use Rattle.db_alloc.specs.Maps.{IsOwnable}
use Rattle.db_alloc.specs.Searches.{fits_of, find_of, AreRead}
use Rattle.db_alloc.proofs.Chains.{leads_plan}
use Rattle.db_alloc.proofs.SearchSteps.{extents_first, extents_end, search_more, search_found, search_stop}
use Rattle.db_alloc.proofs.Steps.{does_plan}
use Rattle.db_alloc.proofs.search.search.Goals as goal

pub search_at-requires-clause-reader : goal.search_at-requires-clause-reader
search_at-requires-clause-reader g c = record {
  geometry = c.requires.reader.geometry ∙ ap (λ (v : View). v.shape.geometry) (sym c.loop-e.invariant.view);
  pages = c.requires.reader.pages ∙ ap (λ (v : View). v.shape.pages) (sym c.loop-e.invariant.view);
  own = ap (λ (v : View). v.other c.args.reader.own) c.loop-e.invariant.view ∙ c.requires.reader.own;
}

pub search_at-requires-clause-inside : goal.search_at-requires-clause-inside
search_at-requires-clause-inside g c =
    subst (λ (n : ℕ). c.loop-e.e < n / 8) (c.requires.reader.pages ∙ ap (λ (v : View). v.shape.pages) (sym c.loop-e.invariant.view)) c.loop-e-test.true

pub search_at-requires-clause-read : goal.search_at-requires-clause-read
search_at-requires-clause-read g c = λ told.
    subst (λ (v : View). AreRead v c.loop-e.maps) (sym c.loop-e.invariant.view) (c.loop-e.invariant.told (sym c.loop-e.invariant.leads.stays.told ∙ told))

all_left : (n : ℕ) → n ≡ n - 0
all_left n = omega arith

pub loop-e-init : goal.loop-e-init
loop-e-init g c =
    let a = g.P.PlanPages.state c.args.v.now in
    record {
      leads = leads_plan (ap (λ (n : ℕ). first_of (search_at a.view.shape (fits_of c.args.wanted a.view.shape) (find_of c.args.wanted a.view.shape)) (range_with_len 0 n)) (all_left (a.view.shape.pages / 8))) (leads_none stop_of [] a (search a.view.shape (fits_of c.args.wanted a.view.shape) (find_of c.args.wanted a.view.shape)));
      told = λ told. tt;
      view = refl;
    }

pub loop-e-preserved : goal.loop-e-preserved
loop-e-preserved g c =
    let a = g.P.PlanPages.state c.args.v.now in
    let try = λ (shape : FileShape). search_at shape (fits_of c.args.wanted shape) (find_of c.args.wanted shape) in
    let lt = subst (λ (n : ℕ). c.loop-e.e < n / 8) c.requires.reader.pages c.loop-e-test.true in
    record {
      leads = search_more (try a.view.shape) c.loop-e.e (range_with_len (c.loop-e.e + 1) (a.view.shape.pages / 8 - (c.loop-e.e + 1))) c.in_ok-found.found (sym c.is_some.ensures ∙ c.if-is_some.false)
          (leads_plan (ap (first_of (try a.view.shape)) (extents_first c.loop-e.e (a.view.shape.pages / 8) lt)) c.loop-e.invariant.leads)
          (does_plan (ap (λ (v : View). try v.shape c.loop-e.e) c.loop-e.invariant.view) c.in_ok-found.ensures.does);
      told = λ told. subst (λ (v : View). AreRead v c.search_at.new.maps) c.loop-e.invariant.view (c.in_ok-found.ensures.told (c.loop-e.invariant.leads.stays.told ∙ told));
      view = c.search_at.ensures.view ∙ c.loop-e.invariant.view;
    }

pub returns-in_err-found-clause-does : goal.returns-in_err-found-clause-does
returns-in_err-found-clause-does g c =
    let a = g.P.PlanPages.state c.args.v.now in
    let try = λ (shape : FileShape). search_at shape (fits_of c.args.wanted shape) (find_of c.args.wanted shape) in
    let lt = subst (λ (n : ℕ). c.loop-e.e < n / 8) c.requires.reader.pages c.loop-e-test.true in
    search_stop (try a.view.shape) c.loop-e.e (range_with_len (c.loop-e.e + 1) (a.view.shape.pages / 8 - (c.loop-e.e + 1))) _
    (leads_plan (ap (first_of (try a.view.shape)) (extents_first c.loop-e.e (a.view.shape.pages / 8) lt)) c.loop-e.invariant.leads)
    (does_plan (ap (λ (v : View). try v.shape c.loop-e.e) c.loop-e.invariant.view) c.in_err-found.ensures.does)
    c.from_residual.ensures.1

pub returns-then-is_some-clause-does : goal.returns-then-is_some-clause-does
returns-then-is_some-clause-does g c =
    let a = g.P.PlanPages.state c.args.v.now in
    let try = λ (shape : FileShape). search_at shape (fits_of c.args.wanted shape) (find_of c.args.wanted shape) in
    let lt = subst (λ (n : ℕ). c.loop-e.e < n / 8) c.requires.reader.pages c.loop-e-test.true in
    search_found (try a.view.shape) c.loop-e.e (range_with_len (c.loop-e.e + 1) (a.view.shape.pages / 8 - (c.loop-e.e + 1))) c.in_ok-found.found (sym c.is_some.ensures ∙ c.if-is_some.true)
    (leads_plan (ap (first_of (try a.view.shape)) (extents_first c.loop-e.e (a.view.shape.pages / 8) lt)) c.loop-e.invariant.leads)
    (does_plan (ap (λ (v : View). try v.shape c.loop-e.e) c.loop-e.invariant.view) c.in_ok-found.ensures.does)

pub returns-then-is_some-clause-ownable : goal.returns-then-is_some-clause-ownable
returns-then-is_some-clause-ownable g c = subst (λ (v : View). IfSome c.in_ok-found.found (λ p. IsOwnable v.shape p.0)) c.loop-e.invariant.view c.in_ok-found.ensures.ownable

pub returns-clause-does : goal.returns-clause-does
returns-clause-does g c =
    let a = g.P.PlanPages.state c.args.v.now in
    let try = λ (shape : FileShape). search_at shape (fits_of c.args.wanted shape) (find_of c.args.wanted shape) in
    let le = subst (λ (n : ℕ). n / 8 ≤ c.loop-e.e) c.requires.reader.pages c.loop-e-test.false in
    first_end (try a.view.shape) (leads_plan (ap (first_of (try a.view.shape)) (extents_end c.loop-e.e (a.view.shape.pages / 8) le)) c.loop-e.invariant.leads)
