-- A page leaves the slots of a chain, and an extent its marks.
use Rattle.std.proofs.Common.{◌≡◌, ◌≢◌, ◌⊎◌, ℕ, ◌/◌, ◌%◌, ◌<◌, ◌==◌, ◌&&◌, true, false, List, [], ◌∷◌, filter, Contains, refl, sym, ap, subst, ◌∙◌, inl, inr, ⊎_elim, arith}
use Rattle.std.specs.List.{range_with_len}
use Rattle.std.proofs.lemmas.Bool.{and_parts, and_from, both_ways, cases_eq, cases_Bool, eqb-true, eq-eqb, or_cases, or_left}
use Rattle.spec_file.specs.Iam.{single_slot_count, iam_interval, iam_slot, iam_mark}
use Rattle.spec_file.specs.Image.{page}
use Rattle.spec_file.specs.Places.{interval_size, interval_of_page}
use Rattle.spec_check.proofs.Members.{filter_from, filter_in, range_from, range_in}
use Rattle.spec_plan.specs.Reading.{first_page, is_marked}
use Rattle.spec_words.specs.NetChanges.{FileShape}
use Rattle.spec_words.specs.Views.{View}
use Rattle.spec_words.specs.Words.{sees, for_each}
use Rattle.spec_alloc.specs.Chains.{put_slot, slots_with, put_mark}
use Rattle.spec_alloc.specs.Freeing.{slots_emptied, marks_emptied}
use Rattle.spec_steps.specs.AtMost.{Changed, page_of, either}
use Rattle.spec_steps.specs.IamPages.{SameLinks, SameMarks, SameSlots, IsOutOfSlots, IsMarkCleared}
use Rattle.law_chains.proofs.Allocated.{intervals}
use Rattle.law_steps.proofs.InChain.{same_links}
use Rattle.law_net.specs.GoodViews.{Leads}
use Rattle.law_net.proofs.WordLaws.{leads_weaker}
use Rattle.law_alloc.proofs.Searches.{sees_reads, leads_from}
use Rattle.law_kept.proofs.Steps.{IsFile, Goes, goes_both, goes_within, nothing_within, goes_nowhere, nothing}
use Rattle.law_kept.proofs.ReadTables.{each_does}
use Rattle.law_kept.proofs.IamWords.{IsOwnPage, slot_goes, mark_goes}

links_both : (a b c : List ℕ) → SameLinks a b → SameLinks b c → SameLinks a c
links_both a b c first second = record {
  type = second.type ∙ first.type;
  number = second.number ∙ first.number;
  object = second.object ∙ first.object;
  prev = second.prev ∙ first.prev;
  next = second.next ∙ first.next;
  interval = second.interval ∙ first.interval;
  sequence = second.sequence ∙ first.sequence;
}

-- ---- slots

module _ (shape : FileShape) (first : ℕ) (own : IsOwnPage shape first) (chain : List ℕ) (is_first : first_page chain ≡ first) (p : ℕ) (v : View) (f : IsFile shape v.now) where
  -- some slots that held the page are empty
  record EmptiesSome (y : View) : Type 0 where
    goes : Goes shape (page_of first) v y
    links : SameLinks (page v.now first) (page y.now first)
    marks : SameMarks (page v.now first) (page y.now first)
    slots : (i : ℕ) → i < single_slot_count → (iam_slot (page y.now first) i ≡ iam_slot (page v.now first) i) ⊎ ((iam_slot (page v.now first) i ≡ p) × (iam_slot (page y.now first) i ≡ 0))

  abbrev IsEmpty : ℕ → View → Type 0
  IsEmpty i y = (i < single_slot_count) × (iam_slot (page y.now first) i ≡ 0)

  none_yet : EmptiesSome v
  none_yet = record {
    goes = goes_within shape nothing (page_of first) v v (nothing_within (page_of first)) (goes_nowhere shape v f);
    links = same_links (page v.now first);
    marks = λ n. refl;
    slots = λ i low. inl refl;
  }

  one_more : (i : ℕ) (y : View) → i < single_slot_count → iam_slot (page v.now first) i ≡ p → EmptiesSome y
      → Leads (put_slot chain 0 i) y (λ u z. EmptiesSome z × IsEmpty i z × ((k : ℕ) → IsEmpty k y → IsEmpty k z))
  one_more i y within held some =
      let goes = some.goes in
      leads_weaker (put_slot chain 0 i) y _ _ (λ u z h.
      let set = h.1 in (
        record {
          goes = goes_within shape (either (page_of first) (page_of first)) (page_of first) v z (record {
            free = λ e c. ⊎_elim (λ c. c) (λ c. c) c;
            mixed = λ e c. ⊎_elim (λ c. c) (λ c. c) c;
            bytes = λ q c. ⊎_elim (λ c. c) (λ c. c) c;
            pages = λ q c. ⊎_elim (λ c. c) (λ c. c) c;
          }) (goes_both shape (page_of first) (page_of first) v y z goes h.0);
          links = links_both (page v.now first) (page y.now first) (page z.now first) some.links set.links;
          marks = λ n. set.marks n ∙ some.marks n;
          slots = λ k low. ⊎_elim
              (λ here. inr (ap (iam_slot (page v.now first)) here ∙ held, ap (iam_slot (page z.now first)) here ∙ set.here))
              (λ other. ⊎_elim (λ same. inl (set.others k low other ∙ same)) (λ gone. inr (gone.0, set.others k low other ∙ gone.1)) (some.slots k low)) (cases_eq k i);
        },
        (within, set.here),
        λ k empty. (empty.0, ⊎_elim (λ here. ap (iam_slot (page z.now first)) here ∙ set.here) (λ other. set.others k empty.0 other ∙ empty.1) (cases_eq k i)),
      ))
      (slot_goes shape first own y goes.file chain 0 i is_first within (omega arith))

  pub slots_gone : Leads (slots_emptied chain p) v (λ u y. Goes shape (page_of first) v y × IsOutOfSlots p (page v.now first) (page y.now first))
  slots_gone =
      let K : Unit {0} → View → Type 0 = λ u y. Goes shape (page_of first) v y × IsOutOfSlots p (page v.now first) (page y.now first) in
      leads_from (sees (slots_with chain p)) (for_each (put_slot chain 0)) v (λ slots. slots ≡ slots_with chain p v) K (sees_reads (slots_with chain p) v (λ slots. slots ≡ slots_with chain p v) refl)
      (λ slots same.
      leads_weaker (for_each (put_slot chain 0) slots) v _ K (λ u y l.
      let some = l.0 in (
        some.goes,
        record {
          gone = λ i low held. (l.1 i (subst (λ s. Contains s i) (sym same) (holds_in i low held))).1;
          others = λ i low other. ⊎_elim (λ stays. stays) (λ gone. absurd (other gone.0)) (some.slots i low);
          links = some.links;
          marks = some.marks;
        },
      ))
      (each_does (put_slot chain 0) slots EmptiesSome IsEmpty v (λ i y there some.
      let holds = holds_from i (subst (λ s. Contains s i) same there) in one_more i y holds.0 holds.1 some) none_yet))
    where
      holds_from : (i : ℕ) → Contains (slots_with chain p v) i → (i < single_slot_count) × (iam_slot (page v.now first) i ≡ p)
      holds_from i there =
          let kept = filter_from (λ k. iam_slot (page v.now (first_page chain)) k == p) (range_with_len 0 single_slot_count) i there in
          (range_from single_slot_count i kept.0, ap (λ q. iam_slot (page v.now q) i) (sym is_first) ∙ eqb-true (iam_slot (page v.now (first_page chain)) i) p kept.1)

      holds_in : (i : ℕ) → i < single_slot_count → iam_slot (page v.now first) i ≡ p → Contains (slots_with chain p v) i
      holds_in i low held = filter_in (λ k. iam_slot (page v.now (first_page chain)) k == p) (range_with_len 0 single_slot_count) i (range_in single_slot_count i low)
          (eq-eqb (iam_slot (page v.now (first_page chain)) i) p (ap (λ q. iam_slot (page v.now q) i) is_first ∙ held))

-- ---- marks

-- all of an IAM page but mark n is as it was
record LeavesRest (n : ℕ) (old new : List ℕ) : Type 0 where
  links : SameLinks old new
  slots : SameSlots old new
  marks : (m : ℕ) → m ≢ n → iam_mark new m ≡ iam_mark old m

module _ (shape : FileShape) (chain : List ℕ) (own : (q : ℕ) → Contains chain q → IsOwnPage shape q) (p : ℕ) (v : View) (f : IsFile shape v.now) where
  -- the pages of the chain that mark the extent
  abbrev marking : List ℕ
  marking = filter (λ q. is_marked shape.geometry v.now (q ∷ []) p) chain

  abbrev changed : Changed
  changed = record { free = λ e. ⊥; mixed = λ e. ⊥; bytes = λ q. ⊥; pages = Contains (filter (λ q. is_marked shape.geometry v.now (q ∷ []) p) chain) }

  -- some marks of it are gone
  record ClearsSome (y : View) : Type 0 where
    goes : Goes shape changed v y
    rest : (q : ℕ) → Contains chain q → LeavesRest (p / 8 % interval_size shape.geometry) (page v.now q) (page y.now q)

  abbrev IsCleared : ℕ → View → Type 0
  IsCleared q y = Contains chain q × (iam_mark (page y.now q) (p / 8 % interval_size shape.geometry) ≡ false)

  none_cleared : ClearsSome v
  none_cleared = record {
    goes = goes_within shape nothing changed v v (nothing_within changed) (goes_nowhere shape v f);
    rest = λ q there. record { links = same_links (page v.now q); slots = λ i low. refl; marks = λ m other. refl };
  }

  clears_one : (r : ℕ) (y : View) → Contains marking r → ClearsSome y
      → Leads (put_mark shape (p / 8) 0 r) y (λ u z. ClearsSome z × IsCleared r z × ((k : ℕ) → IsCleared k y → IsCleared k z))
  clears_one r y there some =
      let n = p / 8 % interval_size shape.geometry in
      let goes = some.goes in
      let r_chain = (filter_from (λ q. is_marked shape.geometry v.now (q ∷ []) p) chain r there).0 in
      leads_weaker (put_mark shape (p / 8) 0 r) y _ _ (λ u z h.
      let put = h.0 in
      let set = h.1 in
      let same = λ (q : ℕ) (q_chain : Contains chain q) (other : q ≢ r). let w : page z.now q ≡ page y.now q = put.most.pages q (inr (own q q_chain).ordinary) other in w in (
        record {
          goes = goes_within shape (either changed (page_of r)) changed v z (record {
            free = λ e c. ⊎_elim (λ c. c) (λ c. c) c;
            mixed = λ e c. ⊎_elim (λ c. c) (λ c. c) c;
            bytes = λ q c. ⊎_elim (λ c. c) (λ c. c) c;
            pages = λ q c. ⊎_elim (λ c. c) (λ here. subst (Contains marking) (sym here) there) c;
          }) (goes_both shape changed (page_of r) v y z goes put);
          rest = λ q q_chain. let old = some.rest q q_chain in ⊎_elim
              (λ here. subst (λ s. LeavesRest n (page v.now s) (page z.now s)) (sym here) (let at_r = some.rest r r_chain in record {
                links = links_both (page v.now r) (page y.now r) (page z.now r) at_r.links set.links;
                slots = λ i low. set.slots i low ∙ at_r.slots i low;
                marks = λ m other. set.others m other ∙ at_r.marks m other;
              }))
              (λ other. subst (LeavesRest n (page v.now q)) (sym (same q q_chain other)) old) (cases_eq q r);
        },
        (r_chain, set.here),
        λ k cleared. (
          cleared.0,
          ⊎_elim (λ here. subst (λ s. iam_mark (page z.now s) n ≡ false) (sym here) set.here)
              (λ other. ap (λ b. iam_mark b n) (same k cleared.0 other) ∙ cleared.1) (cases_eq k r),
        ),
      ))
      (mark_goes shape r (own r r_chain) y goes.file (p / 8) false)

  -- a page of the chain marks it, where it says so
  marks_from : (q : ℕ) → is_marked shape.geometry v.now (q ∷ []) p ≡ true
      → (iam_interval (page v.now q) ≡ p / 8 / interval_size shape.geometry) × (iam_mark (page v.now q) (p / 8 % interval_size shape.geometry) ≡ true)
  marks_from q is =
      let g = shape.geometry in
      let interval = iam_interval (page v.now q) == interval_of_page g p in
      let mark = iam_mark (page v.now q) (p / 8 % interval_size g) in
      let both = and_parts interval mark (⊎_elim (λ is. is) (λ none. absurd (cc)) (or_cases (interval && mark) false is)) in
      (eqb-true (iam_interval (page v.now q)) (interval_of_page g p) both.0 ∙ intervals g p, both.1)

  marks_in : (q : ℕ) → iam_interval (page v.now q) ≡ p / 8 / interval_size shape.geometry → iam_mark (page v.now q) (p / 8 % interval_size shape.geometry) ≡ true
      → is_marked shape.geometry v.now (q ∷ []) p ≡ true
  marks_in q interval mark =
      let g = shape.geometry in
      let same = iam_interval (page v.now q) == interval_of_page g p in
      or_left (same && iam_mark (page v.now q) (p / 8 % interval_size g)) false
      (and_from same (iam_mark (page v.now q) (p / 8 % interval_size g)) (eq-eqb (iam_interval (page v.now q)) (interval_of_page g p) (interval ∙ sym (intervals g p))) mark)

  -- what is gone in the end
  pub record Clears (y : View) : Type 0 where
    pub goes : Goes shape (record { free = λ e. ⊥; mixed = λ e. ⊥; bytes = λ q. ⊥; pages = Contains chain }) v y
    pub cleared : (q : ℕ) → Contains chain q → IsMarkCleared (p / 8 / interval_size shape.geometry) (p / 8 % interval_size shape.geometry) (page v.now q) (page y.now q)

  all_cleared : (y : View) → ClearsSome y → ((q : ℕ) → Contains marking q → IsCleared q y) → Clears y
  all_cleared y some cleared =
      let n = p / 8 % interval_size shape.geometry in
      let goes = some.goes in
      let test = λ (q : ℕ). is_marked shape.geometry v.now (q ∷ []) p in
      let same = λ (q : ℕ) (there : Contains chain q) (none : Contains marking q → ⊥). let w : page y.now q ≡ page v.now q = goes.most.pages q (inr (own q there).ordinary) none in w in record {
        goes = goes_within shape changed (record { free = λ e. ⊥; mixed = λ e. ⊥; bytes = λ q. ⊥; pages = Contains chain }) v y
            (record { free = λ e c. c; mixed = λ e c. c; bytes = λ q c. c; pages = λ q c. (filter_from test chain q c).0 }) goes;
        cleared = λ q there. let rest = some.rest q there in record {
          cleared = λ interval. ⊎_elim
              (λ mark. (cleared q (filter_in test chain q there (marks_in q interval mark))).1)
              (λ none. ap (λ b. iam_mark b n) (same q there (λ in_. both_ways (iam_mark (page v.now q) n) none (marks_from q (filter_from test chain q in_).1).1)) ∙ none)
              (cases_Bool (iam_mark (page v.now q) n));
          others = λ k apart. ⊎_elim
              (λ here. ap (λ b. iam_mark b k) (same q there (λ in_. apart ((marks_from q (filter_from test chain q in_).1).0, here))))
              (λ other. rest.marks k other) (cases_eq k n);
          links = rest.links;
          slots = rest.slots;
        };
      }

  pub marks_gone : Leads (marks_emptied shape chain p) v (λ u y. Clears y)
  marks_gone =
      let K : Unit {0} → View → Type 0 = λ u y. Clears y in
      let found : View → List ℕ = λ view. filter (λ q. is_marked shape.geometry view.now (q ∷ []) p) chain in
      leads_from (sees found) (for_each (put_mark shape (p / 8) 0)) v (λ ms. ms ≡ found v) K (sees_reads found v (λ ms. ms ≡ found v) refl) (λ ms same.
      leads_weaker (for_each (put_mark shape (p / 8) 0) ms) v _ K (λ u y l. all_cleared y l.0 (λ q there. l.1 q (subst (λ m. Contains m q) (sym same) there)))
      (each_does (put_mark shape (p / 8) 0) ms ClearsSome IsCleared v (λ q y there some. clears_one q y (subst (λ m. Contains m q) same there) some) none_cleared))
