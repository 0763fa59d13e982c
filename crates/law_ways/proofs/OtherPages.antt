-- An insert or a delete leaves alone all pages but those that it reads or takes.
use Rattle.std.proofs.Common.{◌≡◌, ℕ, suc, ◌==◌, Bool, true, false, List, [], ◌∷◌, ◌++◌, map, length, Contains, Option, Some, None, refl, sym, ◌∙◌, subst}
use Rattle.std.specs.Prelude.{if◌then◌else◌}
use Rattle.std.proofs.lemmas.List.Elements.{Contains-push, Contains-append_left, Contains-append_right}
use Rattle.spec_levels.specs.Levels.{Payload, Row, Node, Index, Leaf}
use Rattle.spec_ways.specs.Insert.{first_fresh}
use Rattle.spec_ways.specs.Ways.{way_pages}
use Rattle.spec_ways.specs.Climbs.{Step, Stays, Grows, Splits, new_page, new_pages, second_page, taken_pages}
use Rattle.spec_ways.specs.Sinks.{Loss, Untouched, Keeps, Goes}
use Rattle.spec_levels.specs.Pages.{Page, LeafPage, IndexPage}
use Rattle.spec_ways.specs.Pages.{Pages, with_page}
use Rattle.spec_ways.specs.InsertWrites.{page_with_prev, prev_written, step_written, steps_written, halves_written, raise_written, insert_written, split_next, split_nexts, insert_reads}
use Rattle.spec_ways.specs.DeleteWrites.{page_with_next, page_with_edge, loss_written, losses_written, left_edge, edge_key, edge_written, sink_written, delete_written, neighbours, all_neighbours, collapsed_children}
use Rattle.law_ways.proofs.ShowLaws.{with_page_there}
use Rattle.law_ways.specs.InsertLaws.{InsertKeepsOthers}
use Rattle.law_ways.specs.DeleteLaws.{DeleteKeepsOthers}

abbrev Not : List ℕ → ℕ → Type 0
Not pages p = Contains pages p → ⊥

not_left : (xs ys : List ℕ) (p : ℕ) → Not (xs ++ ys) p → Not xs p
not_left xs ys p none has = none (Contains-append_left xs ys p has)

not_right : (xs ys : List ℕ) (p : ℕ) → Not (xs ++ ys) p → Not ys p
not_right xs ys p none has = none (Contains-append_right xs ys p has)

not_first : (x : ℕ) (xs : List ℕ) (p : ℕ) → Not (x ∷ xs) p → p ≡ x → ⊥
not_first x xs p none same = none (subst (Contains (x ∷ xs)) (sym same) (Contains-append_left (x ∷ []) xs x (Contains-push [] x)))

not_later : (x : ℕ) (xs : List ℕ) (p : ℕ) → Not (x ∷ xs) p → Not xs p
not_later x xs p none = not_right (x ∷ []) xs p none

changed_there : (change : Page → Page) (q p : ℕ) (image : Pages) → Not (if q == 0 then [] else q ∷ []) p → (if q == 0 then image else with_page q (change (image q)) image) p ≡ image p
changed_there change q p image none = by_test (q == 0) none
  where
    by_test : (t : Bool) → Not (if t then [] else q ∷ []) p → (if t then image else with_page q (change (image q)) image) p ≡ image p
    by_test true none = refl
    by_test false none = with_page_there q p (change (image q)) image (not_first q [] p none)

module _ {V : Type 0} (kind : Node V → Page) (p : ℕ) where
  step_there : (n : Node V) (step : Step V) (image : Pages) → (p ≡ n.page → ⊥) → Not (split_next step n) p → Not (new_page step) p → step_written kind n step image p ≡ image p
  step_there n Stays image other next new = refl
  step_there n (Grows rows) image other next new = with_page_there n.page p (kind (record { page = n.page; prev = n.prev; next = n.next; rows = rows })) image other
  step_there n (Splits rows right more) image other next new =
      let x = kind (record { page = n.page; prev = n.prev; next = right; rows = rows }) in
      let y = kind (record { page = right; prev = n.page; next = n.next; rows = more }) in
      changed_there (page_with_prev right) n.next p (with_page right y (with_page n.page x image)) next
      ∙ with_page_there right p y (with_page n.page x image) (not_first right [] p new) ∙ with_page_there n.page p x image other

  halves_there : (level root right : ℕ) (step : Step V) (image : Pages) → (p ≡ root → ⊥) → (p ≡ right → ⊥) → Not (new_page step) p → halves_written kind level root right step image p ≡ image p
  halves_there level root right Stays image at_root at_right new = refl
  halves_there level root right (Grows rows) image at_root at_right new = refl
  halves_there level root right (Splits rows left more) image at_root at_right new =
      let x = kind (record { page = left; prev = 0; next = right; rows = rows }) in
      let y = kind (record { page = right; prev = left; next = 0; rows = more }) in
      with_page_there root p _ (with_page right y (with_page left x image)) at_root
      ∙ with_page_there right p y (with_page left x image) at_right ∙ with_page_there left p x image (not_first left [] p new)

  loss_there : (n : Node V) (loss : Loss V) (image : Pages) → (p ≡ n.page → ⊥) → Not (neighbours loss n) p → loss_written kind n loss image p ≡ image p
  loss_there n Untouched image other none = refl
  loss_there n (Keeps rows below) image other none = with_page_there n.page p (kind (record { page = n.page; prev = n.prev; next = n.next; rows = rows })) image other
  loss_there n Goes image other none =
      let prevs = if n.prev == 0 then [] else n.prev ∷ [] in
      let nexts = if n.next == 0 then [] else n.next ∷ [] in
      changed_there (page_with_next n.next) n.prev p (prev_written n.next n.prev image) (not_left prevs nexts p none)
      ∙ changed_there (page_with_prev n.prev) n.next p image (not_right prevs nexts p none)

edge_there : (p : ℕ) (key : Option ℕ) (ps : List ℕ) (image : Pages) → Not ps p → edge_written key ps image p ≡ image p
edge_there p key [] image none = refl
edge_there p key (q ∷ ps) image none =
    edge_there p key ps (with_page q (page_with_edge key (image q)) image) (not_later q ps p none)
    ∙ with_page_there q p (page_with_edge key (image q)) image (not_first q ps p none)

abbrev pages : List Index → List ℕ
pages ns = map (λ (n : Index). n.page) ns

module _ (p : ℕ) where
  steps_there : (ns : List Index) (steps : List (Step ℕ)) (leaf : Leaf) (step : Step Payload) (image : Pages) → Not (pages ns ++ leaf.page ∷ []) p → Not (split_next step leaf) p
      → Not (split_nexts ns steps) p → Not (new_pages steps step) p → steps_written ns steps leaf step image p ≡ image p
  steps_there [] [] leaf step image way low high new = step_there LeafPage p leaf step image (not_first leaf.page [] p way) low new
  steps_there [] (st ∷ steps) leaf step image way low high new = step_there LeafPage p leaf step image (not_first leaf.page [] p way) low (leaf_new steps (not_left (new_pages steps step) (new_page st) p new))
    where
      leaf_new : (steps : List (Step ℕ)) → Not (new_pages steps step) p → Not (new_page step) p
      leaf_new [] none = none
      leaf_new (st ∷ steps) none = leaf_new steps (not_left (new_pages steps step) (new_page st) p none)
  steps_there (n ∷ ns) [] leaf step image way low high new = refl
  steps_there (n ∷ ns) (st ∷ steps) leaf step image way low high new =
      step_there (IndexPage (suc (length ns))) p n st (steps_written ns steps leaf step image) (not_first n.page (pages ns ++ leaf.page ∷ []) p way)
      (not_right (split_nexts ns steps) (split_next st n) p high) (not_right (new_pages steps step) (new_page st) p new)
      ∙ steps_there ns steps leaf step image (not_later n.page (pages ns ++ leaf.page ∷ []) p way) low (not_left (split_nexts ns steps) (split_next st n) p high)
      (not_left (new_pages steps step) (new_page st) p new)

  losses_there : (ns : List Index) (losses : List (Loss ℕ)) (leaf : Leaf) (loss : Loss Payload) (image : Pages) → Not (pages ns ++ leaf.page ∷ []) p → Not (neighbours loss leaf) p
      → Not (all_neighbours ns losses) p → losses_written ns losses leaf loss image p ≡ image p
  losses_there [] losses leaf loss image way low high = loss_there LeafPage p leaf loss image (not_first leaf.page [] p way) low
  losses_there (n ∷ ns) [] leaf loss image way low high = refl
  losses_there (n ∷ ns) (l ∷ losses) leaf loss image way low high =
      loss_there (IndexPage (suc (length ns))) p n l (losses_written ns losses leaf loss image) (not_first n.page (pages ns ++ leaf.page ∷ []) p way)
      (not_right (all_neighbours ns losses) (neighbours l n) p high)
      ∙ losses_there ns losses leaf loss image (not_later n.page (pages ns ++ leaf.page ∷ []) p way) low (not_left (all_neighbours ns losses) (neighbours l n) p high)

raise_there : (p root right : ℕ) (ns : List Index) (steps : List (Step ℕ)) (leaf : Leaf) (step : Step Payload) (image : Pages) → (p ≡ root → ⊥) → (p ≡ right → ⊥) → Not (pages ns ++ leaf.page ∷ []) p
    → Not (split_next step leaf) p → Not (split_nexts ns steps) p → Not (new_pages steps step) p → raise_written root right ns steps leaf step image p ≡ image p
raise_there p root right [] [] leaf step image at_root at_right way low high new = halves_there LeafPage p 0 root right step image at_root at_right new
raise_there p root right [] (st ∷ steps) leaf step image at_root at_right way low high new = halves_there LeafPage p 0 root right step image at_root at_right (leaf_new (st ∷ steps) new)
  where
    leaf_new : (steps : List (Step ℕ)) → Not (new_pages steps step) p → Not (new_page step) p
    leaf_new [] none = none
    leaf_new (st ∷ steps) none = leaf_new steps (not_left (new_pages steps step) (new_page st) p none)
raise_there p root right (n ∷ ns) [] leaf step image at_root at_right way low high new = refl
raise_there p root right (n ∷ ns) (st ∷ steps) leaf step image at_root at_right way low high new =
    halves_there (IndexPage (suc (length ns))) p (suc (length ns)) root right st (steps_written ns steps leaf step image) at_root at_right (not_right (new_pages steps step) (new_page st) p new)
    ∙ steps_there p ns steps leaf step image (not_later n.page (pages ns ++ leaf.page ∷ []) p way) low (not_left (split_nexts ns steps) (split_next st n) p high)
    (not_left (new_pages steps step) (new_page st) p new)

pub insert_keeps_others : InsertKeepsOthers
insert_keeps_others root way c image on_way p none =
    let low = split_next c.leaf way.leaf in
    let high = split_nexts way.above c.above in
    let reads = not_left (insert_reads way c) (taken_pages c) p none in
    let takes = not_right (insert_reads way c) (taken_pages c) p none in
    let behind = not_right (way_pages way) (low ++ high) p reads in
    by_root c.separator (not_left (way_pages way) (low ++ high) p reads) (not_left low high p behind) (not_right low high p behind)
    (not_left (new_pages c.above c.leaf) (second_page c.separator c.fresh) p takes) (not_right (new_pages c.above c.leaf) (second_page c.separator c.fresh) p takes)
  where
    by_root : (o : Option (Row ℕ)) → Not (way_pages way) p → Not (split_next c.leaf way.leaf) p → Not (split_nexts way.above c.above) p → Not (new_pages c.above c.leaf) p
        → Not (second_page o c.fresh) p
        → insert_written root way c o image p ≡ image p
    by_root None along low high new second = steps_there p way.above c.above way.leaf c.leaf image along low high new
    by_root (Some u) along low high new second =
        raise_there p root (first_fresh c.fresh) way.above c.above way.leaf c.leaf image (λ same. along (subst (Contains (way_pages way)) (sym same) on_way))
        (not_first (first_fresh c.fresh) [] p second) along low high new

pub delete_keeps_others : DeleteKeepsOthers
delete_keeps_others root way c image on_way p none =
    let low = neighbours c.leaf way.leaf in
    let high = all_neighbours way.above c.above in
    let edge = left_edge image way.above c.above in
    let children = collapsed_children root way c image c.gone_key in
    let along = not_left (way_pages way) (low ++ (high ++ (edge ++ children))) p none in
    let behind = not_right (way_pages way) (low ++ (high ++ (edge ++ children))) p none in
    let rest = not_right low (high ++ (edge ++ children)) p behind in
    by_root c.gone_key along (λ same. along (subst (Contains (way_pages way)) (sym same) on_way)) (not_left low (high ++ (edge ++ children)) p behind)
    (not_left high (edge ++ children) p rest) (not_left edge children p (not_right high (edge ++ children) p rest))
  where
    by_root : (o : Option ℕ) → Not (way_pages way) p → (p ≡ root → ⊥) → Not (neighbours c.leaf way.leaf) p → Not (all_neighbours way.above c.above) p → Not (left_edge image way.above c.above) p
        → delete_written root way c o image p ≡ image p
    by_root None along at_root low high edge =
        with_page_there root p _ (sink_written way c image) at_root
        ∙ edge_there p (edge_key c.above) (left_edge image way.above c.above) (losses_written way.above c.above way.leaf c.leaf image) edge
        ∙ losses_there p way.above c.above way.leaf c.leaf image along low high
    by_root (Some key) along at_root low high edge = with_page_there root p _ image at_root
