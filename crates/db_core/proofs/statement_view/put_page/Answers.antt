use Rattle.std.proofs.Common.{arith, List, length, subst, sym, ap, ◌∙◌}
use Rattle.pg_base.specs.declared.page.Page.{Page}
use Rattle.db_core.specs.SeenPages.{with_pages, StandsAt, FitsAt}
use Rattle.db_core.specs.PutLaws.{stands_inside, fits_inside, put_again, with_again, put_or_not, image_or_not, whole_or_not}
use Rattle.db_core.proofs.statement_view.put_page.Goals as goal

pub replace-requires : goal.replace-requires
replace-requires c =
    let inside = stands_inside c.args.p c.deref.result.now c.in-Ok.at c.in-Ok.ensures in
    let read = ap length c.deref.ensures.value in
    let long = c.requires.long in
    let size = c.args.pages.now.ok.0 in
    omega (arith, inside, read, long, size)

pub insert_page-requires-clause-put : goal.insert_page-requires-clause-put
insert_page-requires-clause-put c =
    let inside = fits_inside c.args.p c.deref.result.now c.in-Err.at c.in-Err.ensures in
    let read = ap length c.deref.ensures.value in
    let size = c.args.put.now.ok.0 in
    omega (arith, inside, read, size)

pub insert_page-requires-clause-pages : goal.insert_page-requires-clause-pages
insert_page-requires-clause-pages c =
    let inside = fits_inside c.args.p c.deref.result.now c.in-Err.at c.in-Err.ensures in
    let read = ap length c.deref.ensures.value in
    let long = c.requires.long in
    let size = c.args.pages.now.ok.0 in
    omega (arith, inside, read, long, size)

pub returns-in-Ok-clause-put : goal.returns-in-Ok-clause-put
returns-in-Ok-clause-put c = sym (put_again c.args.p c.args.put.now.items c.in-Ok.at (subst (λ xs. StandsAt c.args.p xs c.in-Ok.at) c.deref.ensures.value c.in-Ok.ensures))

pub returns-in-Ok-clause-image : goal.returns-in-Ok-clause-image
returns-in-Ok-clause-image c = λ image.
    ap (λ (ps : List Page). with_pages c.args.put.now.items ps image) c.replace.ensures.items
    ∙ with_again c.args.p c.args.put.now.items c.in-Ok.at c.args.pages.now.items (record { bytes = c.args.from.now.bytes }) image
    (subst (λ xs. StandsAt c.args.p xs c.in-Ok.at) c.deref.ensures.value c.in-Ok.ensures) c.requires.long

pub returns-in-Err-clause-put : goal.returns-in-Err-clause-put
returns-in-Err-clause-put c =
    put_or_not c.insert_page.result c.args.p c.args.put.now.items c.in-Err.at c.insert_page.new.put.items
    (subst (λ xs. FitsAt c.args.p xs c.in-Err.at) c.deref.ensures.value c.in-Err.ensures) c.insert_page.ensures.put

pub returns-in-Err-clause-image : goal.returns-in-Err-clause-image
returns-in-Err-clause-image c =
    image_or_not c.insert_page.result c.args.p c.args.put.now.items c.in-Err.at c.args.pages.now.items (record { bytes = c.args.from.now.bytes }) c.insert_page.new.put.items c.insert_page.new.pages.items
    (subst (λ xs. FitsAt c.args.p xs c.in-Err.at) c.deref.ensures.value c.in-Err.ensures) c.requires.long c.insert_page.ensures.put c.insert_page.ensures.pages

pub returns-in-Err-clause-whole : goal.returns-in-Err-clause-whole
returns-in-Err-clause-whole c =
    whole_or_not c.insert_page.result c.in-Err.at c.args.pages.now.items (record { bytes = c.args.from.now.bytes }) c.insert_page.new.pages.items
    c.insert_page.ensures.whole c.insert_page.ensures.pages c.insert_page.ensures.same_pages
