use Rattle.std.proofs.Common.{◌≡◌, List, [], length, arith, All, ap, sym, subst, ◌∙◌}
use Rattle.std.proofs.lemmas.List.{take_all}
use Rattle.std.proofs.lemmas.Grind.{merely}
use Rattle.spec_file.specs.declared.data.PageNo.{PageNo}
use Rattle.spec_file.specs.declared.data.Resource.{Resource}
use Rattle.spec_words.specs.Takes.{in_order}
use Rattle.pg_base.specs.declared.page.Page.{Page}
use Rattle.law_net.specs.Files.{IsImageOf, DifferUnder}
use Rattle.db_locks.specs.MemImages.{shape_of, image_of, DifferWherePut}
use Rattle.db_locks.specs.States.{are_rising}
use Rattle.db_locks.proofs.Differing.{none_differ}
use Rattle.db_locks.proofs.MemoryImages.{IsWholePage, image_begins, none_put}
use Rattle.db_locks.proofs.memory.MemView.begin.Goals as goal

pub invariant_of-result : goal.invariant_of-result
invariant_of-result c =
    let pages = c.args.pages.items in
    let all : c.loop-page.first.items ≡ pages = c.loop-page.invariant.same ∙ take_all c.loop-page.page-index pages (let read = ap length c.deref-page-items.ensures.value in omega (arith, read, c.loop-page-test.false)) in
    let is = image_begins c.args.geometry c.args.version pages c.requires (subst (λ (ps : List Page). All IsWholePage ps) all c.loop-page.invariant.whole) in
    record {
      now = is;
      began = subst (λ (ps : List Page). IsImageOf (shape_of c.args.geometry c.args.version pages) (image_of ps)) (sym all) is;
      only = merely (subst (λ (ps : List Page). DifferUnder (shape_of c.args.geometry c.args.version pages) c.new-2.result.items (image_of ps) (image_of pages)) (sym all)
          (none_differ (shape_of c.args.geometry c.args.version pages) c.new-2.result.items (image_of pages)));
      differ = subst (λ (put : List PageNo). DifferWherePut put (image_of c.loop-page.first.items) (image_of pages)) (sym c.new.ensures.items)
          (subst (λ (ps : List Page). DifferWherePut [] (image_of ps) (image_of pages)) (sym all) (none_put (image_of pages)));
      rising = ap are_rising c.new.ensures.items;
      ordered = c.new-3.ensures.items ∙ ap (λ (taken : List Resource). in_order taken) (sym c.new-2.ensures.items);
    }
