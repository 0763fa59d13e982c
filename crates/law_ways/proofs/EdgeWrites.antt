-- Writing the left edge page by page is the same as writing it at the nexts of the pages that go.
use Rattle.std.proofs.Common.{◌≡◌, ℕ, suc, ◌==◌, Bool, true, false, List, [], ◌∷◌, length, Option, Some, None, refl, sym, ap, ◌∙◌, subst, inl, inr}
use Rattle.std.specs.Prelude.{if◌then◌else◌}
use Rattle.std.proofs.lemmas.Bool.{cases_eq, eq-eqb, ne_eqb}
use Rattle.spec_levels.specs.Levels.{Payload, Row, Node, Index, Leaf}
use Rattle.spec_ways.specs.Rows.{without, with_first_key}
use Rattle.spec_ways.specs.Ways.{key_toward}
use Rattle.spec_ways.specs.Sinks.{Loss, Untouched, Keeps, Goes, loss_of, gone_key_of, Sink}
use Rattle.spec_levels.specs.Pages.{Page, LeafPage, IndexPage}
use Rattle.spec_ways.specs.Pages.{Pages, with_page}
use Rattle.spec_ways.specs.InsertWrites.{page_with_prev, prev_written}
use Rattle.spec_ways.specs.DeleteWrites.{page_with_next, page_with_edge, loss_written, losses_written, edge_key, edge_written}
use Rattle.law_ways.specs.DeleteLaws.{edge_nexts}
use Rattle.law_ways.proofs.ByKey.{edge_by_key, sink_through_by_key, sink_by_key}
use Rattle.law_ways.proofs.ByNext.{behind_by_next, loss_by_next, losses_by_next}
use Rattle.law_ways.proofs.ShowLaws.{with_page_there}

-- what a change of page q makes of page p
abbrev changed : ℕ → ℕ → (Page → Page) → Page → Page
changed q p change x = if q == 0 then x else (if p == q then change x else x)

page_at : (q p : ℕ) (change : Page → Page) (image : Pages) → with_page q (change (image q)) image p ≡ (if p == q then change (image p) else image p)
page_at q p change image = elim (cases_eq p q) [
  | inl same ↦
      let e = eq-eqb p q same in
      ap (λ (b : Bool). if b then change (image q) else image p) e ∙ ap (λ (r : ℕ). change (image r)) (sym same) ∙ sym (ap (λ (b : Bool). if b then change (image p) else image p) e)
  | inr other ↦
      let e = ne_eqb p q other in
      ap (λ (b : Bool). if b then change (image q) else image p) e ∙ sym (ap (λ (b : Bool). if b then change (image p) else image p) e)
]

changed_at : (q p : ℕ) (change : Page → Page) (image : Pages) → (if q == 0 then image else with_page q (change (image q)) image) p ≡ changed q p change (image p)
changed_at q p change image = by_test (q == 0)
  where
    by_test : (b : Bool) → (if b then image else with_page q (change (image q)) image) p ≡ (if b then image p else (if p == q then change (image p) else image p))
    by_test true = refl
    by_test false = page_at q p change image

abbrev edged : ℕ → Page → Page
edged key x = page_with_edge (Some key) x

-- what writing the edge makes of page p
abbrev edge_act : ℕ → List ℕ → ℕ → Page → Page
edge_act key [] p x = x
edge_act key (q ∷ ps) p x = edge_act key ps p (if p == q then edged key x else x)

edge_at : (key : ℕ) (ps : List ℕ) (image : Pages) (p : ℕ) → edge_written (Some key) ps image p ≡ edge_act key ps p (image p)
edge_at key [] image p = refl
edge_at key (q ∷ ps) image p = edge_at key ps (with_page q (edged key (image q)) image) p ∙ ap (edge_act key ps p) (page_at q p (edged key) image)

-- changes that commute with it
abbrev Commutes : ℕ → (Page → Page) → Type 0
Commutes key change = (x : Page) → edged key (change x) ≡ change (edged key x)

prev_commutes : (key b : ℕ) → Commutes key (page_with_prev b)
prev_commutes key b (LeafPage n) = refl
prev_commutes key b (IndexPage level n) = refl

next_commutes : (key b : ℕ) → Commutes key (page_with_next b)
next_commutes key b (LeafPage n) = refl
next_commutes key b (IndexPage level n) = refl

changed_commutes : (key q p : ℕ) (change : Page → Page) → Commutes key change → Commutes key (changed q p change)
changed_commutes key q p change e x = by_tests (q == 0) (p == q)
  where
    by_tests : (b c : Bool) → edged key (if b then x else (if c then change x else x)) ≡ (if b then edged key x else (if c then change (edged key x) else edged key x))
    by_tests true c = refl
    by_tests false true = e x
    by_tests false false = refl

here_commutes : (key : ℕ) (b : Bool) (change : Page → Page) → Commutes key change → (x : Page) → (if b then edged key (change x) else change x) ≡ change (if b then edged key x else x)
here_commutes key true change e x = e x
here_commutes key false change e x = refl

act_commutes : (key p : ℕ) (ps : List ℕ) (change : Page → Page) → Commutes key change → (x : Page) → edge_act key ps p (change x) ≡ change (edge_act key ps p x)
act_commutes key p [] change e x = refl
act_commutes key p (q ∷ ps) change e x = ap (edge_act key ps p) (here_commutes key (p == q) change e x) ∙ act_commutes key p ps change e (if p == q then edged key x else x)

-- the edge's page behind one that goes
abbrev at_next : ℕ → ℕ → ℕ → Page → Page
at_next key q p x = if p == q then edged key x else x

at_next_commutes : (key q p : ℕ) → Commutes key (at_next key q p)
at_next_commutes key q p x = by_test (p == q)
  where
    by_test : (b : Bool) → edged key (if b then edged key x else x) ≡ (if b then edged key (edged key x) else edged key x)
    by_test true = refl
    by_test false = refl

behind_is : (key q p b : ℕ) (x : Page) → (q ≡ 0 → ⊥) → changed q p (λ y. page_with_prev b (edged key y)) x ≡ changed q p (page_with_prev b) (at_next key q p x)
behind_is key q p b x nonzero =
    let e = ne_eqb q 0 nonzero in
    ap (λ (c : Bool). if c then x else (if p == q then page_with_prev b (edged key x) else x)) e ∙ by_test (p == q)
    ∙ sym (ap (λ (c : Bool). if c then at_next key q p x else (if p == q then page_with_prev b (at_next key q p x) else at_next key q p x)) e)
  where
    by_test : (c : Bool) → (if c then page_with_prev b (edged key x) else x) ≡ (if c then page_with_prev b (if c then edged key x else x) else (if c then edged key x else x))
    by_test true = refl
    by_test false = refl

goes_at : {V : Type 0} (kind : Node V → Page) (n : Node V) (image : Pages) (p : ℕ)
    → loss_written kind n Goes image p ≡ changed n.prev p (page_with_next n.next) (changed n.next p (page_with_prev n.prev) (image p))
goes_at kind n image p =
    changed_at n.prev p (page_with_next n.next) (prev_written n.next n.prev image) ∙ ap (changed n.prev p (page_with_next n.next)) (changed_at n.next p (page_with_prev n.prev) image)

by_next_at : {V : Type 0} (kind : Node V → Page) (n : Node V) (key : ℕ) (image : Pages) (p : ℕ)
    → loss_by_next kind n Goes (Some key) image p ≡ changed n.prev p (page_with_next n.next) (changed n.next p (λ y. page_with_prev n.prev (edged key y)) (image p))
by_next_at kind n key image p =
    changed_at n.prev p (page_with_next n.next) (behind_by_next n.next n.prev (Some key) image)
    ∙ ap (changed n.prev p (page_with_next n.next)) (changed_at n.next p (λ y. page_with_prev n.prev (edged key y)) image)

-- one page that goes
goes_same : {V : Type 0} (kind : Node V → Page) (n : Node V) (key : ℕ) (ps : List ℕ) (a b : Pages) (p : ℕ) → (n.next ≡ 0 → ⊥) → a p ≡ edge_act key ps p (b p)
    → loss_by_next kind n Goes (Some key) a p ≡ edge_act key (n.next ∷ ps) p (loss_written kind n Goes b p)
goes_same kind n key ps a b p nonzero e =
    let x = b p in
    let up = changed n.prev p (page_with_next n.next) in
    let down = changed n.next p (page_with_prev n.prev) in
    let up_commutes = changed_commutes key n.prev p (page_with_next n.next) (next_commutes key n.next) in
    let down_commutes = changed_commutes key n.next p (page_with_prev n.prev) (prev_commutes key n.prev) in
    by_next_at kind n key a p
    ∙ ap (λ y. up (changed n.next p (λ z. page_with_prev n.prev (edged key z)) y)) e
    ∙ ap up (behind_is key n.next p n.prev (edge_act key ps p x) nonzero)
    ∙ ap (λ y. up (down y)) (sym (act_commutes key p ps (at_next key n.next p) (at_next_commutes key n.next p) x))
    ∙ ap up (sym (act_commutes key p ps down down_commutes (at_next key n.next p x)))
    ∙ sym (act_commutes key p ps up up_commutes (down (at_next key n.next p x)))
    ∙ ap (edge_act key ps p) (ap up (sym (here_commutes key (p == n.next) down down_commutes x)) ∙ sym (here_commutes key (p == n.next) up up_commutes (down x)))
    ∙ ap (edge_act key (n.next ∷ ps) p) (sym (goes_at kind n b p))

-- losses of pages that all go
abbrev pub AllGo : List (Loss ℕ) → Type 0
AllGo [] = Unit {0}
AllGo (Untouched ∷ losses) = ⊥
AllGo (Keeps rows edge ∷ losses) = ⊥
AllGo (Goes ∷ losses) = AllGo losses

-- the losses of a sink: below a page that is touched all go
abbrev pub IsSinking : List (Loss ℕ) → Type 0
IsSinking [] = Unit {0}
IsSinking (Untouched ∷ losses) = IsSinking losses
IsSinking (Keeps rows edge ∷ losses) = AllGo losses
IsSinking (Goes ∷ losses) = AllGo losses

-- pages that are neither 0 nor this one
abbrev pub AreApart : ℕ → List ℕ → Type 0
AreApart p [] = Unit {0}
AreApart p (q ∷ qs) = (q ≡ 0 → ⊥) × (q ≡ p → ⊥) × AreApart p qs

-- the edge's pages are apart from the page that keeps rows
abbrev pub IsClear : List Index → List (Loss ℕ) → Type 0
IsClear [] losses = Unit {0}
IsClear (n ∷ ns) [] = Unit {0}
IsClear (n ∷ ns) (Untouched ∷ losses) = IsClear ns losses
IsClear (n ∷ ns) (Keeps rows None ∷ losses) = Unit {0}
IsClear (n ∷ ns) (Keeps rows (Some key) ∷ losses) = AreApart n.page (edge_nexts (Some key) ns losses)
IsClear (n ∷ ns) (Goes ∷ losses) = Unit {0}

loss_none : {V : Type 0} (kind : Node V → Page) (n : Node V) (loss : Loss V) (image : Pages) → loss_by_next kind n loss None image ≡ loss_written kind n loss image
loss_none kind n Untouched image = refl
loss_none kind n (Keeps rows below) image = refl
loss_none kind n Goes image = refl

go_key : (losses : List (Loss ℕ)) → AllGo losses → edge_key losses ≡ None
go_key [] go = refl
go_key (Untouched ∷ losses) go = absurd go
go_key (Keeps rows edge ∷ losses) go = absurd go
go_key (Goes ∷ losses) go = go_key losses go

go_nexts : (ns : List Index) (losses : List (Loss ℕ)) → AllGo losses → edge_nexts None ns losses ≡ []
go_nexts [] losses go = refl
go_nexts (n ∷ ns) [] go = refl
go_nexts (n ∷ ns) (Untouched ∷ losses) go = absurd go
go_nexts (n ∷ ns) (Keeps rows edge ∷ losses) go = absurd go
go_nexts (n ∷ ns) (Goes ∷ losses) go = go_nexts ns losses go

go_none : (ns : List Index) (losses : List (Loss ℕ)) (leaf : Leaf) (loss : Loss Payload) (image : Pages) → AllGo losses
    → losses_by_next None ns losses leaf loss image ≡ losses_written ns losses leaf loss image
go_none [] losses leaf loss image go = loss_none LeafPage leaf loss image
go_none (n ∷ ns) [] leaf loss image go = refl
go_none (n ∷ ns) (Untouched ∷ losses) leaf loss image go = absurd go
go_none (n ∷ ns) (Keeps rows edge ∷ losses) leaf loss image go = absurd go
go_none (n ∷ ns) (Goes ∷ losses) leaf loss image go = ap (loss_by_next (IndexPage (suc (length ns))) n Goes None) (go_none ns losses leaf loss image go)

go_same : (key q : ℕ) (ns : List Index) (losses : List (Loss ℕ)) (leaf : Leaf) (loss : Loss Payload) (image : Pages) (p : ℕ) → AllGo losses → AreApart q (edge_nexts (Some key) ns losses)
    → losses_by_next (Some key) ns losses leaf loss image p ≡ edge_act key (edge_nexts (Some key) ns losses) p (losses_written ns losses leaf loss image p)
go_same key q [] losses leaf loss image p go apart = ap (λ (i : Pages). i p) (loss_none LeafPage leaf loss image)
go_same key q (n ∷ ns) [] leaf loss image p go apart = refl
go_same key q (n ∷ ns) (Untouched ∷ losses) leaf loss image p go apart = absurd go
go_same key q (n ∷ ns) (Keeps rows edge ∷ losses) leaf loss image p go apart = absurd go
go_same key q (n ∷ ns) (Goes ∷ losses) leaf loss image p go apart =
    goes_same (IndexPage (suc (length ns))) n key (edge_nexts (Some key) ns losses) (losses_by_next (Some key) ns losses leaf loss image) (losses_written ns losses leaf loss image) p apart.0
    (go_same key q ns losses leaf loss image p go apart.2)

-- a page that isn't the edge's
act_other : (key p : ℕ) (ps : List ℕ) (x : Page) → AreApart p ps → edge_act key ps p x ≡ x
act_other key p [] x apart = refl
act_other key p (q ∷ ps) x apart =
    let e = ne_eqb p q (λ same. apart.1 (sym same)) in ap (λ (b : Bool). edge_act key ps p (if b then edged key x else x)) e ∙ act_other key p ps x apart.2

keeps_same : (key : ℕ) (q p : ℕ) (x : Page) (ps : List ℕ) (a b : Pages) → AreApart q ps → a p ≡ edge_act key ps p (b p) → with_page q x a p ≡ edge_written (Some key) ps (with_page q x b) p
keeps_same key q p x ps a b apart e = elim (cases_eq p q) [
  | inl same ↦
      let here = λ (i : Pages). ap (λ (c : Bool). if c then x else i p) (eq-eqb p q same) in
      here a ∙ sym (edge_at key ps (with_page q x b) p ∙ ap (edge_act key ps p) (here b) ∙ act_other key p ps x (subst (λ (r : ℕ). AreApart r ps) (sym same) apart))
  | inr other ↦ with_page_there q p x a other ∙ e ∙ sym (edge_at key ps (with_page q x b) p ∙ ap (edge_act key ps p) (with_page_there q p x b other))
]

-- along the whole way
pub losses_same : (ns : List Index) (losses : List (Loss ℕ)) (leaf : Leaf) (loss : Loss Payload) (image : Pages) (p : ℕ) → IsSinking losses → IsClear ns losses
    → losses_by_next None ns losses leaf loss image p ≡ edge_written (edge_key losses) (edge_nexts None ns losses) (losses_written ns losses leaf loss image) p
losses_same [] losses leaf loss image p sinking clear = ap (λ (i : Pages). i p) (loss_none LeafPage leaf loss image)
losses_same (n ∷ ns) [] leaf loss image p sinking clear = refl
losses_same (n ∷ ns) (Untouched ∷ losses) leaf loss image p sinking clear = losses_same ns losses leaf loss image p sinking clear
losses_same (n ∷ ns) (Keeps rows None ∷ losses) leaf loss image p sinking clear =
    let x = IndexPage (suc (length ns)) (record { page = n.page; prev = n.prev; next = n.next; rows = rows }) in
    ap (λ (i : Pages). with_page n.page x i p) (go_none ns losses leaf loss image sinking)
    ∙ sym (ap (λ ps. edge_written (edge_key losses) ps (with_page n.page x (losses_written ns losses leaf loss image)) p) (go_nexts ns losses sinking))
losses_same (n ∷ ns) (Keeps rows (Some key) ∷ losses) leaf loss image p sinking clear =
    let x = IndexPage (suc (length ns)) (record { page = n.page; prev = n.prev; next = n.next; rows = rows }) in
    keeps_same key n.page p x (edge_nexts (Some key) ns losses) (losses_by_next (Some key) ns losses leaf loss image) (losses_written ns losses leaf loss image) clear
    (go_same key n.page ns losses leaf loss image p sinking clear)
losses_same (n ∷ ns) (Goes ∷ losses) leaf loss image p sinking clear =
    ap (λ (i : Pages). loss_written (IndexPage (suc (length ns))) n Goes i p) (go_none ns losses leaf loss image sinking)
    ∙ sym (ap (λ ps. edge_written (edge_key losses) ps (loss_written (IndexPage (suc (length ns))) n Goes (losses_written ns losses leaf loss image)) p) (go_nexts ns losses sinking))

-- the losses of a sink are such
pub sinks_so : (j k : ℕ) (ns : List Index) (leaf : Leaf) → let c = sink_by_key j k ns leaf in IsSinking c.above × ((g : ℕ) → c.gone_key ≡ Some g → AllGo c.above)
sinks_so j k [] leaf = (tt, λ g e. tt)
sinks_so j k (n ∷ ns) leaf = by_below (sink_by_key (key_toward k n.rows) k ns leaf) (sink_by_key (key_toward k n.rows) k ns leaf).gone_key refl (sinks_so (key_toward k n.rows) k ns leaf)
  where
    by_loss : (rows : List (Row ℕ)) (edge : Option ℕ) (losses : List (Loss ℕ)) → AllGo losses
        → IsSinking (loss_of rows edge ∷ losses) × ((g : ℕ) → gone_key_of j (loss_of rows edge) ≡ Some g → AllGo (loss_of rows edge ∷ losses))
    by_loss [] edge losses go = (go, λ g e. go)
    by_loss (y ∷ ys) edge losses go = (go, λ g e. absurd (cc))

    by_below : (b : Sink) (o : Option ℕ) → b.gone_key ≡ o → IsSinking b.above × ((g : ℕ) → b.gone_key ≡ Some g → AllGo b.above)
        → let c = sink_through_by_key j n b o in IsSinking c.above × ((g : ℕ) → c.gone_key ≡ Some g → AllGo c.above)
    by_below b None is h = (h.0, λ g e. absurd (cc))
    by_below b (Some x) is h = by_loss (with_first_key j (without x n.rows)) (edge_by_key x n.rows) b.above (h.1 x is)
