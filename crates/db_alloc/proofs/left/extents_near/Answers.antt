use Rattle.std.proofs.Common.{◌*◌, ◌/◌, ◌∙◌, List, ℕ, ap, sym, subst}
use Rattle.std.specs.Prelude.{Box}
use Rattle.std.specs.Global.{Global}
use Rattle.std.specs.List.{list_any}
use Rattle.pg_base.specs.declared.page.Page.{Page}
use Rattle.db_alloc.specs.Marks.{marks, has_byte}
use Rattle.db_alloc.specs.Near.{AreNear, whole_extents}
use Rattle.db_alloc.specs.Tables.{bytes_of}
use Rattle.db_alloc.proofs.NearPages.{ok_weaker}
use Rattle.db_alloc.proofs.NearExtents.{wholes_near}
use Rattle.db_alloc.proofs.left.extents_near.Goals as goal

pub returns-clause-near : goal.returns-clause-near
returns-clause-near c =
    let g = c.args.table.now.geometry in
    let pages = c.args.table.now.pages in
    let iams = c.args.chain.now.pages.items in
    let are : AreNear pages (has_byte g (bytes_of iams)) c.in_ok-near.near.items =
    subst (λ (ps : List (Box Page Global)). AreNear pages (has_byte g (bytes_of ps)) c.in_ok-near.near.items) c.deref-2.ensures.value c.in_ok-near.ensures.near in
    ok_weaker c.first_extents.result _ _ (λ found e.
    subst (AreNear (pages / 8) (λ (k : ℕ). list_any (marks g (8 * k)) (bytes_of iams))) (sym (e ∙ ap (whole_extents pages) c.deref-3.ensures.value))
    (wholes_near pages g (bytes_of iams) c.in_ok-near.near.items are))
    c.first_extents.ensures.extents
