-- What an insert or a delete writes depends on the pages that it reads, and on the page that is written.
use Rattle.std.proofs.Common.{◌≡◌, ℕ, zero, suc, ◌==◌, Bool, true, false, List, [], ◌∷◌, ◌++◌, length, Option, Some, None, refl, ap, ◌∙◌, subst}
use Rattle.std.specs.Prelude.{if◌then◌else◌}
use Rattle.std.proofs.lemmas.List.Elements.{Contains-push, Contains-append_left, Contains-append_right}
use Rattle.spec_levels.specs.Levels.{Payload, Row, Node, Index, Leaf}
use Rattle.spec_ways.specs.Insert.{first_fresh}
use Rattle.spec_ways.specs.Ways.{Way, way_pages}
use Rattle.spec_ways.specs.Climbs.{Step, Stays, Grows, Splits, Climb}
use Rattle.spec_ways.specs.Sinks.{Loss, Untouched, Keeps, Goes, Sink, freed_below_root}
use Rattle.spec_levels.specs.Pages.{Page, LeafPage, IndexPage}
use Rattle.spec_ways.specs.Pages.{Pages, with_page, AgreeOn}
use Rattle.spec_ways.specs.InsertWrites.{page_with_prev, prev_written, step_written, steps_written, halves_written, raise_written, insert_written, split_next, split_nexts, insert_reads}
use Rattle.spec_ways.specs.DeleteWrites.{page_with_next, page_with_edge, loss_written, losses_written, first_child, first_children, edge_from, left_edge, edge_key, edge_written, sink_written, only_child, last_from, last_only_child, page_as_root, delete_written, neighbours, all_neighbours, only_children_from, only_children, collapsed_children}
use Rattle.spec_ways.specs.Rows.{first_value}
use Rattle.law_ways.specs.InsertLaws.{InsertIsLocal}
use Rattle.law_ways.specs.DeleteLaws.{DeleteIsLocal}

on_left : (xs ys : List ℕ) (a b : Pages) → AgreeOn (xs ++ ys) a b → AgreeOn xs a b
on_left xs ys a b agree p has = agree p (Contains-append_left xs ys p has)

on_right : (xs ys : List ℕ) (a b : Pages) → AgreeOn (xs ++ ys) a b → AgreeOn ys a b
on_right xs ys a b agree p has = agree p (Contains-append_right xs ys p has)

-- agreement is kept wherever it is
abbrev pub Keep : Pages → Pages → Pages → Pages → Type 0
Keep a b a' b' = (p : ℕ) → a p ≡ b p → a' p ≡ b' p

kept_on : (xs : List ℕ) (a b a' b' : Pages) → Keep a b a' b' → AgreeOn xs a b → AgreeOn xs a' b'
kept_on xs a b a' b' keep agree p has = keep p (agree p has)

pub page_kept : (p : ℕ) (x y : Page) (a b : Pages) → x ≡ y → Keep a b (with_page p x a) (with_page p y b)
page_kept p x y a b same q e = ap (λ (z : Page). if q == p then z else a q) same ∙ ap (λ (z : Page). if q == p then y else z) e

-- a change of a page that is there
changed_kept : (change : Page → Page) (p : ℕ) (a b : Pages) → AgreeOn (if p == 0 then [] else p ∷ []) a b
    → Keep a b (if p == 0 then a else with_page p (change (a p)) a) (if p == 0 then b else with_page p (change (b p)) b)
changed_kept change p a b agree q e = by_test (p == 0) agree
  where
    by_test : (t : Bool) → AgreeOn (if t then [] else p ∷ []) a b → (if t then a else with_page p (change (a p)) a) q ≡ (if t then b else with_page p (change (b p)) b) q
    by_test true agree = e
    by_test false agree = page_kept p (change (a p)) (change (b p)) a b (ap change (agree p (Contains-push [] p))) q e

module _ {V : Type 0} (kind : Node V → Page) where
  step_kept : (n : Node V) (step : Step V) (a b : Pages) → AgreeOn (split_next step n) a b → Keep a b (step_written kind n step a) (step_written kind n step b)
  step_kept n Stays a b agree q e = e
  step_kept n (Grows rows) a b agree q e = let x = kind (record { page = n.page; prev = n.prev; next = n.next; rows = rows }) in page_kept n.page x x a b refl q e
  step_kept n (Splits rows right more) a b agree q e =
      let x = kind (record { page = n.page; prev = n.prev; next = right; rows = rows }) in
      let y = kind (record { page = right; prev = n.page; next = n.next; rows = more }) in
      let one = page_kept n.page x x a b refl in
      let two = page_kept right y y (with_page n.page x a) (with_page n.page x b) refl in
      changed_kept (page_with_prev right) n.next (with_page right y (with_page n.page x a)) (with_page right y (with_page n.page x b))
      (λ p has. two p (one p (agree p has))) q (two q (one q e))

  halves_kept : (level root right : ℕ) (step : Step V) (a b : Pages) → Keep a b (halves_written kind level root right step a) (halves_written kind level root right step b)
  halves_kept level root right Stays a b q e = e
  halves_kept level root right (Grows rows) a b q e = e
  halves_kept level root right (Splits rows left more) a b q e =
      let x = kind (record { page = left; prev = 0; next = right; rows = rows }) in
      let y = kind (record { page = right; prev = left; next = 0; rows = more }) in
      page_kept root _ _ (with_page right y (with_page left x a)) (with_page right y (with_page left x b)) refl q
      (page_kept right y y (with_page left x a) (with_page left x b) refl q (page_kept left x x a b refl q e))

  loss_kept : (n : Node V) (loss : Loss V) (a b : Pages) → AgreeOn (neighbours loss n) a b → Keep a b (loss_written kind n loss a) (loss_written kind n loss b)
  loss_kept n Untouched a b agree q e = e
  loss_kept n (Keeps rows below) a b agree q e = let x = kind (record { page = n.page; prev = n.prev; next = n.next; rows = rows }) in page_kept n.page x x a b refl q e
  loss_kept n Goes a b agree q e =
      let prevs = if n.prev == 0 then [] else n.prev ∷ [] in
      let nexts = if n.next == 0 then [] else n.next ∷ [] in
      let one = changed_kept (page_with_prev n.prev) n.next a b (on_right prevs nexts a b agree) in
      changed_kept (page_with_next n.next) n.prev (prev_written n.next n.prev a) (prev_written n.next n.prev b)
      (λ p has. one p (on_left prevs nexts a b agree p has)) q (one q e)

steps_kept : (ns : List Index) (steps : List (Step ℕ)) (leaf : Leaf) (step : Step Payload) (a b : Pages) → AgreeOn (split_next step leaf) a b → AgreeOn (split_nexts ns steps) a b
    → Keep a b (steps_written ns steps leaf step a) (steps_written ns steps leaf step b)
steps_kept [] steps leaf step a b low high q e = step_kept LeafPage leaf step a b low q e
steps_kept (n ∷ ns) [] leaf step a b low high q e = e
steps_kept (n ∷ ns) (st ∷ steps) leaf step a b low high q e =
    let rest = split_nexts ns steps in
    let below = steps_kept ns steps leaf step a b low (on_left rest (split_next st n) a b high) in
    step_kept (IndexPage (suc (length ns))) n st (steps_written ns steps leaf step a) (steps_written ns steps leaf step b)
    (λ p has. below p (on_right rest (split_next st n) a b high p has)) q (below q e)

raise_kept : (root right : ℕ) (ns : List Index) (steps : List (Step ℕ)) (leaf : Leaf) (step : Step Payload) (a b : Pages) → AgreeOn (split_next step leaf) a b → AgreeOn (split_nexts ns steps) a b
    → Keep a b (raise_written root right ns steps leaf step a) (raise_written root right ns steps leaf step b)
raise_kept root right [] steps leaf step a b low high q e = halves_kept LeafPage 0 root right step a b q e
raise_kept root right (n ∷ ns) [] leaf step a b low high q e = e
raise_kept root right (n ∷ ns) (st ∷ steps) leaf step a b low high q e =
    halves_kept (IndexPage (suc (length ns))) (suc (length ns)) root right st (steps_written ns steps leaf step a) (steps_written ns steps leaf step b) q
    (steps_kept ns steps leaf step a b low (on_left (split_nexts ns steps) (split_next st n) a b high) q e)

insert_kept : (root : ℕ) (way : Way) (c : Climb) (o : Option (Row ℕ)) (a b : Pages) → AgreeOn (insert_reads way c) a b → Keep a b (insert_written root way c o a) (insert_written root way c o b)
insert_kept root way c o a b agree q e =
    let low = split_next c.leaf way.leaf in
    let high = split_nexts way.above c.above in
    let behind = on_right (way_pages way) (low ++ high) a b agree in
    by_root o (on_left low high a b behind) (on_right low high a b behind)
  where
    by_root : (o : Option (Row ℕ)) → AgreeOn (split_next c.leaf way.leaf) a b → AgreeOn (split_nexts way.above c.above) a b → insert_written root way c o a q ≡ insert_written root way c o b q
    by_root None low high = steps_kept way.above c.above way.leaf c.leaf a b low high q e
    by_root (Some u) low high = raise_kept root (first_fresh c.fresh) way.above c.above way.leaf c.leaf a b low high q e

pub insert_is_local : InsertIsLocal
insert_is_local root way c a b agree p e = insert_kept root way c c.separator a b agree p e

losses_kept : (ns : List Index) (losses : List (Loss ℕ)) (leaf : Leaf) (loss : Loss Payload) (a b : Pages) → AgreeOn (neighbours loss leaf) a b → AgreeOn (all_neighbours ns losses) a b
    → Keep a b (losses_written ns losses leaf loss a) (losses_written ns losses leaf loss b)
losses_kept [] losses leaf loss a b low high q e = loss_kept LeafPage leaf loss a b low q e
losses_kept (n ∷ ns) [] leaf loss a b low high q e = e
losses_kept (n ∷ ns) (l ∷ losses) leaf loss a b low high q e =
    let rest = all_neighbours ns losses in
    let below = losses_kept ns losses leaf loss a b low (on_left rest (neighbours l n) a b high) in
    loss_kept (IndexPage (suc (length ns))) n l (losses_written ns losses leaf loss a) (losses_written ns losses leaf loss b)
    (λ p has. below p (on_right rest (neighbours l n) a b high p has)) q (below q e)

-- along the left edge
edge_kept : (key : Option ℕ) (ps : List ℕ) (a b : Pages) → AgreeOn ps a b → Keep a b (edge_written key ps a) (edge_written key ps b)
edge_kept key [] a b agree q e = e
edge_kept key (p ∷ ps) a b agree q e =
    let one = page_kept p (page_with_edge key (a p)) (page_with_edge key (b p)) a b (ap (page_with_edge key) (agree p (Contains-append_left (p ∷ []) ps p (Contains-push [] p)))) in
    edge_kept key ps (with_page p (page_with_edge key (a p)) a) (with_page p (page_with_edge key (b p)) b) (λ r has. one r (on_right (p ∷ []) ps a b agree r has)) q (one q e)

children_alike : (m : ℕ) (a b : Pages) (p : ℕ) → AgreeOn (first_children m a p) a b → first_children m a p ≡ first_children m b p
children_alike zero a b p agree = refl
children_alike (suc m) a b p agree =
    let rest = first_children m a (first_child (a p)) in
    ap (λ l. p ∷ l) (children_alike m a b (first_child (a p)) (on_right (p ∷ []) rest a b agree)
    ∙ ap (λ x. first_children m b (first_child x)) (agree p (Contains-append_left (p ∷ []) rest p (Contains-push [] p))))

from_alike : (m : ℕ) (a b : Pages) (l : Loss ℕ) (xs ys : List ℕ) → (AgreeOn xs a b → xs ≡ ys) → AgreeOn (edge_from m a l xs) a b → edge_from m a l xs ≡ edge_from m b l ys
from_alike m a b Untouched xs ys below agree = below agree
from_alike m a b (Keeps rows None) xs ys below agree = below agree
from_alike m a b (Keeps rows (Some key)) xs ys below agree = children_alike m a b (first_value rows) agree
from_alike m a b Goes xs ys below agree = below agree

edge_alike : (a b : Pages) (ns : List Index) (losses : List (Loss ℕ)) → AgreeOn (left_edge a ns losses) a b → left_edge a ns losses ≡ left_edge b ns losses
edge_alike a b [] losses agree = refl
edge_alike a b (n ∷ ns) [] agree = refl
edge_alike a b (n ∷ ns) (l ∷ losses) agree = from_alike (length ns) a b l (left_edge a ns losses) (left_edge b ns losses) (edge_alike a b ns losses) agree

-- along index pages of one row
pub record IsAlike (p q : ℕ) (ps qs : List ℕ) (a b : Pages) : Type 0 where
  pub page : a p ≡ b q
  pub children : ps ≡ qs

pub alike_down : (m : ℕ) (a b : Pages) (p : ℕ) → a p ≡ b p → AgreeOn (only_children m a p) a b
    → IsAlike (last_only_child m a p) (last_only_child m b p) (only_children m a p) (only_children m b p) a b
alike_down zero a b p e agree = record { page = e; children = refl }
alike_down (suc m) a b p e agree =
    subst (λ o. IsAlike (last_from (last_only_child m a) p (only_child (a p))) (last_from (last_only_child m b) p o)
    (only_children_from (only_children m a) (only_child (a p))) (only_children_from (only_children m b) o) a b) (ap only_child e) (by_child (λ c. alike_down m a b c) (only_child (a p)) agree)
  where
    by_child : ((c : ℕ) → a c ≡ b c → AgreeOn (only_children m a c) a b → IsAlike (last_only_child m a c) (last_only_child m b c) (only_children m a c) (only_children m b c) a b)
        → (o : Option ℕ) → AgreeOn (only_children_from (only_children m a) o) a b
        → IsAlike (last_from (last_only_child m a) p o) (last_from (last_only_child m b) p o) (only_children_from (only_children m a) o) (only_children_from (only_children m b) o) a b
    by_child go None agree = record { page = e; children = refl }
    by_child go (Some c) agree =
        let rest = only_children m a c in
        let h = go c (agree c (Contains-append_left (c ∷ []) rest c (Contains-push [] c))) (on_right (c ∷ []) rest a b agree) in
        record { page = h.page; children = ap (λ l. c ∷ l) h.children }

-- what is left in a page, and which children go, where the key of the root's row is gone or not
record Alike (root : ℕ) (way : Way) (c : Sink) (a b : Pages) (o : Option ℕ) : Type 0 where
  written : (p : ℕ) → a p ≡ b p → delete_written root way c o a p ≡ delete_written root way c o b p
  children : collapsed_children root way c a o ≡ collapsed_children root way c b o

abbrev after : Way → Sink → Pages → Pages
after way c image = sink_written way c image

after_kept : (way : Way) (c : Sink) (a b : Pages) → AgreeOn (neighbours c.leaf way.leaf) a b → AgreeOn (all_neighbours way.above c.above) a b → AgreeOn (left_edge a way.above c.above) a b
    → Keep a b (after way c a) (after way c b)
after_kept way c a b low high edge q e =
    let losses = losses_kept way.above c.above way.leaf c.leaf a b low high in
    let key = edge_key c.above in
    let a' = losses_written way.above c.above way.leaf c.leaf a in
    let b' = losses_written way.above c.above way.leaf c.leaf b in
    edge_kept key (left_edge a way.above c.above) a' b' (kept_on (left_edge a way.above c.above) a b a' b' losses edge) q (losses q e)
    ∙ ap (λ ps. edge_written key ps b' q) (edge_alike a b way.above c.above edge)

root_alike : (root : ℕ) (way : Way) (c : Sink) (a b : Pages) (o : Option ℕ) → Keep a b (after way c a) (after way c b) → a root ≡ b root → AgreeOn (collapsed_children root way c a o) a b
    → Alike root way c a b o
root_alike root way c a b None keep at_root down =
    let h = alike_down (length way.above) (after way c a) (after way c b) root (keep root at_root) (kept_on (collapsed_children root way c a None) a b (after way c a) (after way c b) keep down) in
    record { written = λ p e. page_kept root _ _ (after way c a) (after way c b) (ap (page_as_root root) h.page) p (keep p e); children = h.children }
root_alike root way c a b (Some key) keep at_root down = record { written = λ p e. page_kept root _ _ a b refl p e; children = refl }

pub delete_is_local : DeleteIsLocal
delete_is_local root way c a b on_way agree =
    let low = neighbours c.leaf way.leaf in
    let high = all_neighbours way.above c.above in
    let edge = left_edge a way.above c.above in
    let children = collapsed_children root way c a c.gone_key in
    let behind_way = on_right (way_pages way) (low ++ (high ++ (edge ++ children))) a b agree in
    let behind_leaf = on_right low (high ++ (edge ++ children)) a b behind_way in
    let behind_all = on_right high (edge ++ children) a b behind_leaf in
    let keep = after_kept way c a b (on_left low (high ++ (edge ++ children)) a b behind_way) (on_left high (edge ++ children) a b behind_leaf) (on_left edge children a b behind_all) in
    let h = root_alike root way c a b c.gone_key keep (on_left (way_pages way) (low ++ (high ++ (edge ++ children))) a b agree root on_way) (on_right edge children a b behind_all) in
    record { written = h.written; frees = ap (λ l. freed_below_root way.above c.above way.leaf c.leaf ++ l) h.children }
