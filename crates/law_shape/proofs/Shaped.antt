-- What stands where among a statement's items.
use Rattle.std.proofs.Common.{◌≡◌, ℕ, Bool, true, false, List, [], ◌∷◌, ◌++◌, map, None, Some, refl}
use Rattle.spec_log.specs.declared.item.Record.{Record}
use Rattle.spec_log.specs.declared.item.Record.TheVariants.{Snap, Failed, CheckEnd}
use Rattle.spec_log.specs.Log.{rest_of}
use Rattle.spec_plan.specs.declared.plan.Planned.{Planned}
use Rattle.spec_run.specs.Shapes.{Shape, Refused, Faulted, Opening, Reading, Writing, Committing, RollingBack, Checking, items_by}
use Rattle.spec_run.specs.Progress.{is_short, want_after, first_of}
use Rattle.law_run.specs.Doing.{change_items, abort_items}

-- behind none of these items memory may run out
abbrev pub AreSure : List Record → Type 0
AreSure [] = Unit {0}
AreSure (x ∷ xs) = (want_after x ≡ None) × AreSure xs

-- none of these items ends its statement for want of memory
abbrev pub NoneShort : List Record → Type 0
NoneShort [] = Unit {0}
NoneShort (x ∷ xs) = (is_short x ≡ false) × NoneShort xs

-- the reads that failed, and the end of the check
abbrev pub end_items : ℕ → ℕ → List ℕ → ℕ → List Record
end_items s i failed outcome = map (λ (p : ℕ). Failed s i (record { 0 = p })) failed ++ CheckEnd s i outcome ∷ []

pub sure_later : (xs ys : List Record) → AreSure (xs ++ ys) → AreSure ys
sure_later [] ys sure = sure
sure_later (x ∷ xs) ys sure = sure_later xs ys sure.1

pub long_later : (xs ys : List Record) → NoneShort (xs ++ ys) → NoneShort ys
long_later [] ys long = long
long_later (x ∷ xs) ys long = long_later xs ys long.1

sure_changes : (t : ℕ) (changes : List Planned) (own : Bool) → AreSure (change_items t changes own)
sure_changes t [] true = (refl, tt)
sure_changes t [] false = tt
sure_changes t (c ∷ cs) own = (refl, sure_changes t cs own)

sure_undos : (t : ℕ) (left : List (ℕ × Record)) → AreSure (abort_items t left)
sure_undos t [] = (refl, tt)
sure_undos t (q ∷ left) = (refl, sure_undos t left)

sure_ends : (s i : ℕ) (failed : List ℕ) (outcome : ℕ) → AreSure (end_items s i failed outcome)
sure_ends s i [] outcome = (refl, tt)
sure_ends s i (p ∷ failed) outcome = (refl, sure_ends s i failed outcome)

-- memory may run out only behind a statement's first item
pub sure_shape : (s i : ℕ) (shape : Shape) → AreSure (rest_of (items_by s i shape))
sure_shape s i (Refused t number) = tt
sure_shape s i (Faulted t page) = (refl, tt)
sure_shape s i (Opening t) = tt
sure_shape s i (Reading t) = tt
sure_shape s i (Writing t takes changes own) = sure_changes t changes own
sure_shape s i (Committing t) = (refl, tt)
sure_shape s i (RollingBack t left) = sure_undos t left
sure_shape s i (Checking failed outcome) = sure_ends s i failed outcome

pub long_changes : (t : ℕ) (changes : List Planned) (own : Bool) → NoneShort (change_items t changes own)
long_changes t [] true = (refl, tt)
long_changes t [] false = tt
long_changes t (c ∷ cs) own = (refl, long_changes t cs own)

pub long_undos : (t : ℕ) (left : List (ℕ × Record)) → NoneShort (abort_items t left)
long_undos t [] = (refl, tt)
long_undos t (q ∷ left) = (refl, long_undos t left)

-- a statement has an item
pub some_first : (s i : ℕ) (shape : Shape) → first_of (items_by s i shape) ≡ None → ⊥
some_first s i (Refused t number) e = cc
some_first s i (Faulted t page) e = cc
some_first s i (Opening t) e = cc
some_first s i (Reading t) e = cc
some_first s i (Writing t takes changes own) e = cc
some_first s i (Committing t) e = cc
some_first s i (RollingBack t left) e = cc
some_first s i (Checking failed outcome) e = cc

-- where memory may run out behind a statement's first item, they are the items of a check that ends so
pub first_want : (s i : ℕ) (shape : Shape) (x z : Record) → first_of (items_by s i shape) ≡ Some x → want_after x ≡ Some z →
    items_by s i (Checking [] 3) ≡ x ∷ z ∷ []
first_want s i shape x z first want = by_shape shape first
  where
    none : (y : Record) → want_after y ≡ None → Some y ≡ Some x → items_by s i (Checking [] 3) ≡ x ∷ z ∷ []
    none y sure e = cc

    by_shape : (shape : Shape) → first_of (items_by s i shape) ≡ Some x → items_by s i (Checking [] 3) ≡ x ∷ z ∷ []
    by_shape (Refused t number) e = none _ refl e
    by_shape (Faulted t page) e = none _ refl e
    by_shape (Opening t) e = none _ refl e
    by_shape (Reading t) e = none _ refl e
    by_shape (Writing t takes changes own) e = none _ refl e
    by_shape (Committing t) e = none _ refl e
    by_shape (RollingBack t left) e = none _ refl e
    by_shape (Checking failed outcome) e = snap (same e)
      where
        same : Some (Snap s i) ≡ Some x → Snap s i ≡ x
        same h = cc

        snap : Snap s i ≡ x → items_by s i (Checking [] 3) ≡ x ∷ z ∷ []
        snap h = cc

-- what stands for want of memory ends its statement so
pub want_short : (x z : Record) → want_after x ≡ Some z → is_short z ≡ true
want_short x z e = by_item x e
  where
    ends : (s i : ℕ) → Some (CheckEnd s i 3) ≡ Some z → is_short z ≡ true
    ends s i h = subst_short (same h)
      where
        same : Some (CheckEnd s i 3) ≡ Some z → CheckEnd s i 3 ≡ z
        same k = cc

        subst_short : CheckEnd s i 3 ≡ z → is_short z ≡ true
        subst_short k = cc

    by_item : (y : Record) → want_after y ≡ Some z → is_short z ≡ true
    by_item (Snap session index) h = ends session index h
    by_item y h = absurd (cc)
