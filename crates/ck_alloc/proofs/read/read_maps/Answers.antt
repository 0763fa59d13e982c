use Rattle.std.proofs.Common.{◌≡◌, ◌<◌, arith, ◌∙◌, sym, refl, ap, length, vec_len, []}
use Rattle.std.proofs.lemmas.Bool.Decides.{nat_tests}
use Rattle.std.proofs.lemmas.List.{length-map}
use Rattle.db_cat.specs.Rows.{row_of}
use Rattle.ck_alloc.specs.SystemMaps.{AreSystemMaps}
use Rattle.ck_alloc.proofs.ReadMaps.{whole_map, error_map, told_if, told_at, none_before}
use Rattle.ck_alloc.proofs.read.read_maps.Goals as goal

pub returns-then-not-is_empty-clause-map : goal.returns-then-not-is_empty-clause-map
returns-then-not-is_empty-clause-map g c = (
  c.map_of_errors.ensures.geometry,
  c.map_of_errors.ensures.pages,
  told_if _ _ (λ x at.
      error_map x _ c.in_ok-maps.maps (g.met.R.SnapReader.whole c.args.reader.now x at ∙ c.requires.count ∙ sym c.map_of_errors.ensures.pages)
      (rw c.map_of_errors.ensures.geometry (told_at _ x (AreSystemMaps c.args.g c.in_ok-maps.maps) at c.in_ok-maps.ensures.maps.said))
      (rw c.map_of_errors.ensures.system c.in_order-system.ensures.sorted)
      (rw c.map_of_errors.ensures.system c.in_order-system.ensures.same)
      (λ none.
      let some : 0 < vec_len c.in_order-system.result = grind (arith, nat_tests) in
      let empty : c.in_order-system.result.items ≡ [] = rw c.map_of_errors.ensures.system at none in
      let size = ap length empty in let held = c.in_order-system.result.ok.0 in omega (arith, some, size, held))),
)

pub objects_of-requires : goal.objects_of-requires
objects_of-requires g c =
    let empty : vec_len c.in_order-system.result ≡ 0 = grind (arith, nat_tests) in
    let none : length c.in_order-system.result.items ≡ 0 = sym c.in_order-system.result.ok.0 ∙ empty in
    rw c.deref.ensures (c.in_ok-maps.ensures.maps.boot (none_before _ _ c.in_order-system.ensures.same none))

pub returns-clause-map : goal.returns-clause-map
returns-clause-map g c = (
  refl,
  refl,
  told_if _ _ (λ x at.
      whole_map x _ c.in_ok-maps.maps c.in_ok-found.found (g.met.R.SnapReader.whole c.args.reader.now x at ∙ c.requires.count)
      (told_at _ x (AreSystemMaps c.args.g c.in_ok-maps.maps) at c.in_ok-maps.ensures.maps.said)
      (record {
        sorted = c.in_order-system.ensures.sorted;
        same = c.in_order-system.ensures.same;
        by_id = c.in_ok-objects.ensures.sorted;
        rows = rw c.deref.ensures at c.in_ok-objects.ensures.same;
        few = let few = c.in_ok-objects.ensures.few in let size = length-map c.in_ok-objects.objects.items row_of in
            let held = c.in_ok-objects.objects.ok.0 in omega (arith, few, size, held);
        chains = refl;
        uses_sorted = c.uses_in_order.ensures.sorted;
        uses_same = c.uses_in_order.ensures.same;
        extents = refl;
        pfs = refl;
      })
      (rw (c.deref-2.ensures.value, c.deref-3.ensures.value, c.deref-4.ensures.value) at (c.in_ok-found.ensures.read x (c.in_ok-maps.ensures.reads.image ∙ at)))),
)
