use Rattle.std.proofs.Common.{ℕ, List, filter, sym, ap, ◌∙◌, subst}
use Rattle.std.specs.Prelude.{◌&&◌, Box}
use Rattle.std.specs.Global.{Global}
use Rattle.std.specs.List.{list_any}
use Rattle.pg_base.specs.declared.page.Page.{Page}
use Rattle.spec_alloc.specs.Search.{first_in, is_spare}
use Rattle.spec_alloc.specs.ObjectPages as spec
use Rattle.db_alloc.specs.Marks.{marks, has_byte}
use Rattle.db_alloc.specs.Near.{AreNear}
use Rattle.db_alloc.specs.Tables.{numbers, bytes_of}
use Rattle.db_alloc.proofs.MarkedSteps.{lowest_as, reach_marked, seen_found}
use Rattle.db_alloc.proofs.NearPages.{ok_weaker}
use Rattle.db_alloc.proofs.marked.lowest_marked.Goals as goal

pub returns-clause-does : goal.returns-clause-does
returns-clause-does g c = λ looked read.
    let a = g.P.PlanPages.state c.args.v.now in
    let chain = numbers c.args.chain.now.numbers.items in
    let iams = bytes_of c.args.chain.now.pages.items in
    let same = ap (λ (ps : List (Box Page Global)). bytes_of ps) c.deref-3.ensures.value in
    let near = subst (λ (ps : List (Box Page Global)). AreNear c.args.table.now.pages (has_byte c.args.table.now.geometry (bytes_of ps)) c.in_ok-near.near.items) c.deref-2.ensures.value c.in_ok-near.ensures.near in
    let done = c.first_had.ensures.does looked (λ told p inside marked. reach_marked looked a.view chain _ c.args.table.now.geometry p (read told) (same ∙ c.requires.chain.read told) c.requires.geometry inside marked) in
    let test : List (List ℕ) → ℕ → _ = λ bytes p. list_any (marks c.args.table.now.geometry p) bytes && is_spare a.view.shape a.view p in
    seen_found looked (spec.lowest_marked a.view.shape chain) c.first_had.result done
    (ok_weaker c.first_had.result _ _ (λ found first told.
    let begun = sym done.stays.told ∙ told in
    first begun
    ∙ ap (λ (ps : List ℕ). first_in (filter (test (bytes_of c.deref-3.result.now)) ps)) c.deref-4.ensures.value
    ∙ ap (λ (bytes : List (List ℕ)). first_in (filter (test bytes) c.in_ok-near.near.items)) same
    ∙ lowest_as a.view.shape a.view chain iams c.args.table.now.geometry c.args.table.now.pages c.in_ok-near.near.items (c.requires.chain.read begun) c.requires.geometry c.requires.pages near
    ∙ ap (spec.lowest_marked a.view.shape chain) (sym c.first_had.ensures.view))
    c.first_had.ensures.first)
