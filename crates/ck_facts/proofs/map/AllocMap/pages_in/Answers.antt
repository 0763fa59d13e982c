use Rattle.std.proofs.Common.{◌≡◌, ◌+◌, ◌*◌, ◌<◌, arith, subst, vec_len, length, sym, ◌∙◌}
use Rattle.std.proofs.lemmas.List.{length-map}
use Rattle.std.proofs.lemmas.List.Elements.{All-append, All-nil}
use Rattle.ck_facts.specs.Owners.{Owned}
use Rattle.ck_facts.specs.OwnedBy.{owners_of}
use Rattle.ck_facts.proofs.OwnerLists.{AreOwned, owned_none, owned_nowhere, owned_next}
use Rattle.ck_facts.proofs.MapLaws.{uses_by_page}
use Rattle.ck_facts.proofs.OwnerLaws.{owners_are, never_owned, uses_found, all_owners}
use Rattle.ck_facts.proofs.map.AllocMap.pages_in.Goals as goal

pub returns-then-is_unowned-clause-owners : goal.returns-then-is_unowned-clause-owners
returns-then-is_unowned-clause-owners c = λ image of.
    let m = c.args.self.now in
    let e = c.args.e.0 in
    let sorted = uses_by_page image m of c.requires.sound in
    let never = never_owned m e c.uses_between-uses.result.now (c.is_unowned.ensures c.if-is_unowned.true)
    ((rw c.deref.ensures.value at c.uses_between-uses.ensures) sorted) in
    owners_are image m e (vec_len m.objects) c.new-owners.result.items of c.requires.sound m.objects.ok.0 c.requires.inside
    (rw c.new-owners.ensures.items (owned_nowhere m (vec_len m.objects) (8 * e) (8 * e + 8) never))

pub loop-p-init : goal.loop-p-init
loop-p-init c =
    let m = c.args.self.now in
    record {
      pages = rw c.new-owners.ensures.items (All-nil (λ (u : Owned). u.0.0 < m.pages));
      owners = λ sorted. rw c.new-owners.ensures.items (owned_none m (vec_len m.objects) (8 * c.args.e.0));
    }

pub loop-p-preserved : goal.loop-p-preserved
loop-p-preserved c =
    let m = c.args.self.now in
    let n = vec_len m.objects in
    let p = c.loop-p.p in
    let low = 8 * c.args.e.0 in
    let uses = c.uses_between.result.now in
    let old = c.loop-p.owners.items in
    let high = c.loop-p-test.true in
    record {
      pages = rw c.in_ok-push_owners.ensures (All-append (λ (u : Owned). u.0.0 < m.pages) old (owners_of m uses p n) c.loop-p.invariant.pages
          (all_owners m uses p n (omega (arith, high, c.requires.inside))));
      owners = λ sorted. owned_next m n low p uses old c.push_owners.new.owners.items
          (uses_found m low p c.uses_between-uses.result.now uses sorted (rw c.deref.ensures.value at c.uses_between-uses.ensures) c.uses_between.ensures c.loop-p.auto.p high)
          (omega (arith, m.objects.ok.0, length-map m.objects.items (λ row. row.id.0))) c.loop-p.auto.p (c.loop-p.invariant.owners sorted) c.in_ok-push_owners.ensures;
    }

pub returns-clause-owners : goal.returns-clause-owners
returns-clause-owners c = λ image of.
    let m = c.args.self.now in
    let e = c.args.e.0 in
    let end : c.loop-p.p ≡ 8 * e + 8 = omega (arith, c.loop-p-test.false, c.loop-p.auto.p-end) in
    owners_are image m e (vec_len m.objects) c.loop-p.owners.items of c.requires.sound m.objects.ok.0 c.requires.inside
    (subst (λ q. AreOwned m (vec_len m.objects) (8 * e) q c.loop-p.owners.items) end (c.loop-p.invariant.owners (uses_by_page image m of c.requires.sound)))
