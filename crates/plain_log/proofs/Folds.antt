-- One item more of a fold over a log, which stands in its own order.
use Rattle.std.proofs.Common.{◌≡◌, ℕ, ◌+◌, ◌-◌, ◌<◌, ◌≤◌, Bool, true, false, List, ◌∷◌, ◌++◌, length, get_or, take, drop, take-add, get_or-drop, length-drop, reverse, sym, ap, ◌∙◌, arith}
use Rattle.std.specs.Prelude.{if◌then◌else◌, Some, Result, Ok, Err, OnOk}
use Rattle.std.proofs.lemmas.List.{reverse-append}
use Rattle.spec_file.specs.Image.{Image}
use Rattle.spec_log.specs.declared.item.Record.{Record}
use Rattle.spec_log.specs.Items.{tran_of}
use Rattle.spec_log.specs.Images.{apply, take_back, applied, taken_back, shows, page_of_item, damage_of}
use Rattle.plain_log.proofs.Reverse.{reverse_take_more}

-- the part of the log from `opened` up to i
abbrev pub part : List Record → ℕ → ℕ → List Record
part items opened i = take (i - opened) (drop opened items)

part_more : (items : List Record) (opened i : ℕ) (x : Record) → opened ≤ i → i < length items → x ≡ get_or items i x → reverse (part items opened (i + 1)) ≡ x ∷ reverse (part items opened i)
part_more items opened i x low lt e =
    let one : i + 1 - opened ≡ i - opened + 1 = omega arith in
    let inside : i - opened < length (drop opened items) = omega (arith, length-drop opened items) in
    let place : opened + (i - opened) ≡ i = omega arith in
    ap (λ n. reverse (take n (drop opened items))) one
    ∙ reverse_take_more (drop opened items) (i - opened) x inside
    ∙ ap (λ y. y ∷ reverse (part items opened i)) (get_or-drop opened items (i - opened) x ∙ ap (λ n. get_or items n x) place ∙ sym e)

-- the part and what stands before it are the whole before i
part_whole : (items : List Record) (opened i : ℕ) → opened ≤ i → reverse (part items opened i) ++ reverse (take opened items) ≡ reverse (take i items)
part_whole items opened i low =
    let place : opened + (i - opened) ≡ i = omega arith in
    sym (reverse-append (take opened items) (part items opened i)) ∙ ap reverse (sym (take-add opened (i - opened) items)) ∙ ap (λ n. reverse (take n items)) place

pub applied_more : (items : List Record) (opened i : ℕ) (x : Record) (b image next : Image) → opened ≤ i → i < length items → x ≡ get_or items i x →
    image ≡ applied (λ t. true) (reverse (take opened items)) (reverse (part items opened i)) b → next ≡ apply (reverse (take i items)) x image →
    next ≡ applied (λ t. true) (reverse (take opened items)) (reverse (part items opened (i + 1))) b
applied_more items opened i x b image next low lt e is_image is_next =
    is_next ∙ ap (apply (reverse (take i items)) x) is_image
    ∙ ap (λ older. apply older x (applied (λ t. true) (reverse (take opened items)) (reverse (part items opened i)) b)) (sym (part_whole items opened i low))
    ∙ sym (ap (λ log. applied (λ t. true) (reverse (take opened items)) log b) (part_more items opened i x low lt e))

pub taken_more : (c : ℕ → Bool) (items : List Record) (i : ℕ) (x : Record) (image : Image) → i < length items → x ≡ get_or items i x →
    taken_back c (reverse (take (i + 1) items)) image ≡ taken_back c (reverse (take i items)) (if c (tran_of x) then take_back (reverse (take i items)) x image else image)
taken_more c items i x image lt e =
    ap (λ log. taken_back c log image) (reverse_take_more items i x lt ∙ ap (λ y. y ∷ reverse (take i items)) (sym e))

-- what holds where a call answers Ok, from what the call says
pub on_ok : {T E : Type 0} (r : Result T E) (P Q : Type 0) → OnOk r P → (P → Q) → OnOk r Q
on_ok (Ok x) P Q p f = f p
on_ok (Err e) P Q p f = tt

pub kept_back : (c : ℕ → Bool) (items : List Record) (i : ℕ) (x : Record) (image : Image) → i < length items → x ≡ get_or items i x → c (tran_of x) ≡ false →
    taken_back c (reverse (take (i + 1) items)) image ≡ taken_back c (reverse (take i items)) image
kept_back c items i x image lt e h =
    taken_more c items i x image lt e ∙ ap (λ s. taken_back c (reverse (take i items)) (if s then take_back (reverse (take i items)) x image else image)) h

pub moved_back : (c : ℕ → Bool) (items : List Record) (i : ℕ) (x : Record) (image next : Image) → i < length items → x ≡ get_or items i x → c (tran_of x) ≡ true →
    next ≡ take_back (reverse (take i items)) x image → taken_back c (reverse (take (i + 1) items)) image ≡ taken_back c (reverse (take i items)) next
moved_back c items i x image next lt e h is_next =
    taken_more c items i x image lt e ∙ ap (λ s. taken_back c (reverse (take i items)) (if s then take_back (reverse (take i items)) x image else image)) h
    ∙ ap (taken_back c (reverse (take i items))) (sym is_next)

-- one item more of the search for damage
damage_more : (c : ℕ → Bool) (items : List Record) (i : ℕ) (x : Record) (image : Image) → i < length items → x ≡ get_or items i x →
    damage_of c (reverse (take (i + 1) items)) image
    ≡ (if c (tran_of x) then (if shows (reverse (take i items)) x image then damage_of c (reverse (take i items)) (take_back (reverse (take i items)) x image) else Some (page_of_item (reverse (take i items)) x)) else damage_of c (reverse (take i items)) image)
damage_more c items i x image lt e =
    ap (λ log. damage_of c log image) (reverse_take_more items i x lt ∙ ap (λ y. y ∷ reverse (take i items)) (sym e))

pub damage_kept : (c : ℕ → Bool) (items : List Record) (at i : ℕ) (x : Record) (image : Image) → at ≡ i + 1 → i < length items → x ≡ get_or items i x → c (tran_of x) ≡ false →
    damage_of c (reverse (take at items)) image ≡ damage_of c (reverse (take i items)) image
damage_kept c items at i x image place lt e h =
    ap (λ n. damage_of c (reverse (take n items)) image) place ∙ damage_more c items i x image lt e
    ∙ ap (λ s. if s then (if shows (reverse (take i items)) x image then damage_of c (reverse (take i items)) (take_back (reverse (take i items)) x image) else Some (page_of_item (reverse (take i items)) x)) else damage_of c (reverse (take i items)) image) h

pub damage_met : (c : ℕ → Bool) (items : List Record) (at i : ℕ) (x : Record) (image : Image) → at ≡ i + 1 → i < length items → x ≡ get_or items i x → c (tran_of x) ≡ true →
    shows (reverse (take i items)) x image ≡ false → damage_of c (reverse (take at items)) image ≡ Some (page_of_item (reverse (take i items)) x)
damage_met c items at i x image place lt e h s =
    ap (λ n. damage_of c (reverse (take n items)) image) place ∙ damage_more c items i x image lt e
    ∙ ap (λ s. if s then (if shows (reverse (take i items)) x image then damage_of c (reverse (take i items)) (take_back (reverse (take i items)) x image) else Some (page_of_item (reverse (take i items)) x)) else damage_of c (reverse (take i items)) image) h
    ∙ ap (λ s. if s then damage_of c (reverse (take i items)) (take_back (reverse (take i items)) x image) else Some (page_of_item (reverse (take i items)) x)) s

pub damage_moved : (c : ℕ → Bool) (items : List Record) (at i : ℕ) (x : Record) (image next : Image) → at ≡ i + 1 → i < length items → x ≡ get_or items i x → c (tran_of x) ≡ true →
    shows (reverse (take i items)) x image ≡ true → next ≡ take_back (reverse (take i items)) x image →
    damage_of c (reverse (take at items)) image ≡ damage_of c (reverse (take i items)) next
damage_moved c items at i x image next place lt e h s is_next =
    ap (λ n. damage_of c (reverse (take n items)) image) place ∙ damage_more c items i x image lt e
    ∙ ap (λ s. if s then (if shows (reverse (take i items)) x image then damage_of c (reverse (take i items)) (take_back (reverse (take i items)) x image) else Some (page_of_item (reverse (take i items)) x)) else damage_of c (reverse (take i items)) image) h
    ∙ ap (λ s. if s then damage_of c (reverse (take i items)) (take_back (reverse (take i items)) x image) else Some (page_of_item (reverse (take i items)) x)) s
    ∙ ap (damage_of c (reverse (take i items))) (sym is_next)
