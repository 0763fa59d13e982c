use Rattle.std.proofs.Common.{◌∙◌, ap, subst, refl, List, ℕ, filter}
use Rattle.std.specs.Prelude.{Box}
use Rattle.std.specs.Global.{Global}
use Rattle.pg_base.specs.declared.page.Page.{Page}
use Rattle.db_alloc.specs.Marks.{has_byte}
use Rattle.db_alloc.specs.Near.{AreNear}
use Rattle.db_alloc.specs.Tables.{bytes_of}
use Rattle.db_alloc.proofs.Lists.{all_filtered, few_filtered}
use Rattle.db_alloc.proofs.NearPages.{ok_weaker, filter_near}
use Rattle.db_alloc.proofs.marks.byte_pages.Goals as goal

pub returns-clause-pages : goal.returns-clause-pages
returns-clause-pages c =
    let g = c.args.table.now.geometry in
    let iams = c.args.chain.now.pages.items in
    let are : AreNear c.args.table.now.pages (has_byte g (bytes_of iams)) c.in_ok-near.near.items =
    subst (λ (ps : List (Box Page Global)). AreNear c.args.table.now.pages (has_byte g (bytes_of ps)) c.in_ok-near.near.items) c.deref-2.ensures.value c.in_ok-near.ensures.near in
    ok_weaker c.with_bytes.result _ _ (λ pages e.
    e ∙ ap (λ (ps : List (Box Page Global)). filter (has_byte g (bytes_of ps)) c.deref-5.result.now) c.deref-4.ensures.value
    ∙ ap (λ (ps : List ℕ). filter (has_byte g (bytes_of iams)) ps) c.deref-5.ensures.value
    ∙ filter_near c.args.table.now.pages (has_byte g (bytes_of iams)) c.in_ok-near.near.items are)
    c.with_bytes.ensures.pages

pub returns-clause-inside : goal.returns-clause-inside
returns-clause-inside c = ok_weaker c.with_bytes.result _ _ (λ pages e. all_filtered _ _ _ _ e refl) (returns-clause-pages c)

pub returns-clause-few : goal.returns-clause-few
returns-clause-few c = ok_weaker c.with_bytes.result _ _ (λ pages e. few_filtered _ pages.items _ e) (returns-clause-pages c)
