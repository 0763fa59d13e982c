use Rattle.std.proofs.Common.{ℕ, ◌<◌, List, length, arith, refl, ap, sym, subst, ◌∙◌}
use Rattle.std.specs.Prelude.{slice_set}
use Rattle.std.proofs.lemmas.List.{length-map}
use Rattle.std.proofs.Math.Logic.{∥∥₁_map}
use Rattle.spec_file.specs.declared.data.PageNo.{PageNo}
use Rattle.spec_file.specs.Image.{Image, page}
use Rattle.pg_base.specs.declared.page.Page.{Page}
use Rattle.law_net.specs.Files.{IsImageOf, DifferUnder}
use Rattle.db_locks.specs.MemImages.{shape_of, image_of, DifferWherePut}
use Rattle.db_locks.specs.Memory.{state_of}
use Rattle.db_locks.proofs.CellSteps.{seen_long}
use Rattle.db_locks.proofs.ViewLaws.{page_put}
use Rattle.db_locks.proofs.Differing.{page_differs}
use Rattle.db_locks.proofs.MemoryImages.{carried_whole, image_put, image_of_more, differ_put, rise_put}
use Rattle.db_locks.specs.States.{are_rising}
use Rattle.db_locks.proofs.memory.MemViewPlanPages.put.Goals as goal

pub invariant_of-self-in-Ok : goal.invariant_of-self-in-Ok
invariant_of-self-in-Ok c =
    let old = c.args.self.now in
    let shape = shape_of old.geometry old.version old.pages.items in
    let size = length-map old.pages.items (λ (p : Page). p.bytes) in
    let inside = c.requires.inside in
    let here : c.args.p.0 < length (image_of old.pages.items) = omega (arith, size, inside) in
    record {
      now = image_of_more shape _ _ c.replace.ensures.len (subst (λ (m : Image). IsImageOf shape m) (sym c.replace.ensures.image) (image_put shape (image_of old.pages.items) c.args.p.0 c.args.from.now.bytes c.is_whole.ensures.long c.is_whole.ensures.bytes old.now));
      began = image_of_more shape _ _ c.replace.ensures.len old.began;
      only = ∥∥₁_map old.only (λ differ.
          subst (λ n. DifferUnder (record { geometry = old.geometry; version = old.version; pages = n }) old.taken.items (image_of old.first.items) (image_of c.replace.new.pages.items)) (sym c.replace.ensures.len)
          (subst (λ (m : Image). DifferUnder shape old.taken.items (image_of old.first.items) m) (sym c.replace.ensures.image)
          (page_differs shape old.taken.items (image_of old.first.items) (image_of old.pages.items) c.args.p.0 c.args.from.now.bytes here differ (c.requires.guarded refl))));
      differ = subst (λ (m : Image). DifferWherePut c.add_page.new.list.items (image_of old.first.items) m) (sym c.replace.ensures.image)
          (subst (λ (put : List PageNo). DifferWherePut put (image_of old.first.items) (slice_set (image_of old.pages.items) c.args.p.0 c.args.from.now.bytes)) (sym c.in-Ok.ensures.ok)
          (differ_put old.put.items (image_of old.first.items) (image_of old.pages.items) c.args.p c.args.from.now.bytes here old.differ));
      rising = ap are_rising c.in-Ok.ensures.ok ∙ rise_put c.args.p old.put.items old.rising;
      ordered = old.ordered;
    }

pub returns-in-Ok-clause-put : goal.returns-in-Ok-clause-put
returns-in-Ok-clause-put c =
    let old = c.args.self.now in
    let a = state_of old in
    let seen = page (image_of old.pages.items) c.args.p.0 in
    let long = seen_long a.view.shape a.view.now c.args.p.0 old.now c.requires.inside in
    page_put a _ c.args.p.0 seen c.args.from.now.bytes
    (ap (λ (n : ℕ). record a.view { shape = record { geometry = old.geometry; version = old.version; pages = n }; now = image_of c.replace.new.pages.items }) c.replace.ensures.len
    ∙ ap (λ (m : Image). record a.view { now = m })
    (c.replace.ensures.image ∙ ap (λ (bytes : List ℕ). slice_set (image_of old.pages.items) c.args.p.0 bytes) (sym (carried_whole seen c.args.from.now.bytes (c.is_whole.ensures.long ∙ sym long)))))
    (record { told = refl; shape = ap (λ n. record { geometry = old.geometry; version = old.version; pages = n }) c.replace.ensures.len; start = refl; other = refl; own = refl; faults = omega arith })
