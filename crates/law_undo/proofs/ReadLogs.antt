-- What an image has at an atom after the items of a log were applied or taken back.
use Rattle.std.proofs.Common.{◌≡◌, ℕ, ◌+◌, ◌<◌, ext_get_or, Bool, true, false, eqb, ltb, leb, ◌&&◌, List, [], ◌∷◌, ◌++◌, length, Option, Some, None, refl, sym, ap, ◌∙◌, subst, arith}
use Rattle.std.specs.Prelude.{if◌then◌else◌, slice_index}
use Rattle.std.proofs.lemmas.Bool.{and_parts, eqb-true, cond_both}
use Rattle.std.proofs.lemmas.Nat.Bits.{same_from_bits}
use Rattle.spec_file.specs.declared.data.Resource.{Resource}
use Rattle.spec_file.specs.Image.{Image, page}
use Rattle.spec_log.specs.declared.item.Cell.{Cell}
use Rattle.spec_log.specs.declared.item.Cell.TheVariants.{Bytes, Bit}
use Rattle.spec_log.specs.declared.item.Record.{Record}
use Rattle.spec_log.specs.declared.item.Record.TheVariants.{Start, Change, Undo, Commit, Abort, Snap, Failed, CheckEnd}
use Rattle.spec_log.specs.Items.{tran_of, has_form, has_cell_form}
use Rattle.spec_log.specs.Log.{is_unfinished, item_at}
use Rattle.spec_log.specs.Rules.{HaveForm}
use Rattle.spec_log.proofs.RulesLaws.{older_forms}
use Rattle.spec_log.specs.Cells.{put}
use Rattle.spec_log.specs.Images.{put_before, put_after, apply, take_back, applied, taken_back, start_image}
use Rattle.law_undo.proofs.Atoms.{Atom, read, has_atom, bit_in, turned, named_on, write_on, over, under, applied_at, taken_back_at}
use Rattle.law_undo.proofs.LawAtAtom.{start_at}
use Rattle.law_undo.proofs.Reading.{IsInside, SameShape, shape_refl, shape_trans, inside_shape, shape_put, MayPut, read_put}

-- what the form of a Change says of its bytes
pub record CellForm (cell : Cell) (before after : List ℕ) : Type 0 where
  pub as_long : length before ≡ length after
  pub found : MayPut cell before
  pub left : MayPut cell after

pub cell_form : (cell : Cell) (before after : List ℕ) → has_cell_form cell before after ≡ true → CellForm cell before after
cell_form (Bytes p off) before after h =
    let a = and_parts (ltb 0 (length after) && leb (off + length after) 8192) (eqb (length before) (length after)) h in
    record { as_long = eqb-true (length before) (length after) a.1; found = tt; left = tt }
cell_form (Bit p n) before after h =
    let a = and_parts (ltb n 63904 && eqb (length before) 1 && eqb (length after) 1) (eqb (slice_index before 0 + slice_index after 0) 1) h in
    let b = and_parts (ltb n 63904 && eqb (length before) 1) (eqb (length after) 1) a.0 in
    let c = and_parts (ltb n 63904) (eqb (length before) 1) b.0 in
    let sum : slice_index before 0 + slice_index after 0 ≡ 1 = eqb-true (slice_index before 0 + slice_index after 0) 1 a.1 in
    record {
      as_long = eqb-true (length before) 1 c.1 ∙ sym (eqb-true (length after) 1 b.1);
      found = small_left (slice_index before 0) (slice_index after 0) sum;
      left = small_right (slice_index before 0) (slice_index after 0) sum;
    }
  where
    small_left : (x y : ℕ) → x + y ≡ 1 → x < 2
    small_left x y e = omega arith

    small_right : (x y : ℕ) → x + y ≡ 1 → y < 2
    small_right x y e = omega arith

-- an item that is named has its form too
abbrev pub FormOf : Option Record → Type 0
FormOf None = Unit {0}
FormOf (Some x) = has_form x ≡ true

pub form_at : (log : List Record) (lsn : ℕ) → HaveForm log → FormOf (item_at log lsn)
form_at [] lsn h = tt
form_at (x ∷ older) lsn h = cond_both (eqb lsn (length older + 1)) (Some x) (item_at older lsn) FormOf (λ e. h.0) (λ e. form_at older lsn h.1)

-- choices as writes
turned_if : (s : Bool) (x y v : ℕ) → (if s then x else v) ≡ over (turned (if s then Some (x, y) else None)) v
turned_if true x y v = refl
turned_if false x y v = refl

over_if : (s : Bool) (x y v : ℕ) → (if s then y else v) ≡ over (if s then Some (x, y) else None) v
over_if true x y v = refl
over_if false x y v = refl

under_if : (s : Bool) (x y v : ℕ) → (if s then x else v) ≡ under (if s then Some (x, y) else None) v
under_if true x y v = refl
under_if false x y v = refl

under_turned : (s : Bool) (x y v : ℕ) → (if s then y else v) ≡ under (turned (if s then Some (x, y) else None)) v
under_turned true x y v = refl
under_turned false x y v = refl

-- the bytes found are put at the same atoms as those left
read_found : (image : Image) (cell : Cell) (before after : List ℕ) (k : Atom) → has_cell_form cell before after ≡ true → IsInside k image →
    read (put image cell before) k ≡ (if has_atom cell (length after) k then bit_in cell before k else read image k)
read_found image cell before after k h inside =
    let f = cell_form cell before after h in
    read_put image cell before k f.found inside ∙ ap (λ n. if has_atom cell n k then bit_in cell before k else read image k) f.as_long

read_put_before : (o : Option Record) (image : Image) (k : Atom) → FormOf o → IsInside k image → read (put_before o image) k ≡ over (turned (named_on k o)) (read image k)
read_put_before None image k f inside = refl
read_put_before (Some (Start session index tran number changes size takes)) image k f inside = refl
read_put_before (Some (Change tran cell before after)) image k f inside =
    read_found image cell before after k f inside ∙ turned_if (has_atom cell (length after) k) (bit_in cell before k) (bit_in cell after k) (read image k)
read_put_before (Some (Undo tran change)) image k f inside = refl
read_put_before (Some (Commit tran)) image k f inside = refl
read_put_before (Some (Abort tran)) image k f inside = refl
read_put_before (Some (Snap session index)) image k f inside = refl
read_put_before (Some (Failed session index page)) image k f inside = refl
read_put_before (Some (CheckEnd session index outcome)) image k f inside = refl

read_put_after : (o : Option Record) (image : Image) (k : Atom) → FormOf o → IsInside k image → read (put_after o image) k ≡ under (turned (named_on k o)) (read image k)
read_put_after None image k f inside = refl
read_put_after (Some (Start session index tran number changes size takes)) image k f inside = refl
read_put_after (Some (Change tran cell before after)) image k f inside =
    read_put image cell after k (cell_form cell before after f).left inside
    ∙ under_turned (has_atom cell (length after) k) (bit_in cell before k) (bit_in cell after k) (read image k)
read_put_after (Some (Undo tran change)) image k f inside = refl
read_put_after (Some (Commit tran)) image k f inside = refl
read_put_after (Some (Abort tran)) image k f inside = refl
read_put_after (Some (Snap session index)) image k f inside = refl
read_put_after (Some (Failed session index page)) image k f inside = refl
read_put_after (Some (CheckEnd session index outcome)) image k f inside = refl

pub read_apply : (older : List Record) (x : Record) (image : Image) (k : Atom) → HaveForm (x ∷ older) → IsInside k image →
    read (apply older x image) k ≡ over (write_on older k x) (read image k)
read_apply older (Start session index tran number changes size takes) image k f inside = refl
read_apply older (Change tran cell before after) image k f inside =
    read_put image cell after k (cell_form cell before after f.0).left inside
    ∙ over_if (has_atom cell (length after) k) (bit_in cell before k) (bit_in cell after k) (read image k)
read_apply older (Undo tran change) image k f inside = read_put_before (item_at older change.0) image k (form_at older change.0 f.1) inside
read_apply older (Commit tran) image k f inside = refl
read_apply older (Abort tran) image k f inside = refl
read_apply older (Snap session index) image k f inside = refl
read_apply older (Failed session index page) image k f inside = refl
read_apply older (CheckEnd session index outcome) image k f inside = refl

pub read_take_back : (older : List Record) (x : Record) (image : Image) (k : Atom) → HaveForm (x ∷ older) → IsInside k image →
    read (take_back older x image) k ≡ under (write_on older k x) (read image k)
read_take_back older (Start session index tran number changes size takes) image k f inside = refl
read_take_back older (Change tran cell before after) image k f inside =
    read_found image cell before after k f.0 inside
    ∙ under_if (has_atom cell (length after) k) (bit_in cell before k) (bit_in cell after k) (read image k)
read_take_back older (Undo tran change) image k f inside = read_put_after (item_at older change.0) image k (form_at older change.0 f.1) inside
read_take_back older (Commit tran) image k f inside = refl
read_take_back older (Abort tran) image k f inside = refl
read_take_back older (Snap session index) image k f inside = refl
read_take_back older (Failed session index page) image k f inside = refl
read_take_back older (CheckEnd session index outcome) image k f inside = refl

-- shapes stay
shape_put_before : (o : Option Record) (image : Image) → SameShape image (put_before o image)
shape_put_before None image = shape_refl image
shape_put_before (Some (Start session index tran number changes size takes)) image = shape_refl image
shape_put_before (Some (Change tran cell before after)) image = shape_put image cell before
shape_put_before (Some (Undo tran change)) image = shape_refl image
shape_put_before (Some (Commit tran)) image = shape_refl image
shape_put_before (Some (Abort tran)) image = shape_refl image
shape_put_before (Some (Snap session index)) image = shape_refl image
shape_put_before (Some (Failed session index page)) image = shape_refl image
shape_put_before (Some (CheckEnd session index outcome)) image = shape_refl image

shape_put_after : (o : Option Record) (image : Image) → SameShape image (put_after o image)
shape_put_after None image = shape_refl image
shape_put_after (Some (Start session index tran number changes size takes)) image = shape_refl image
shape_put_after (Some (Change tran cell before after)) image = shape_put image cell after
shape_put_after (Some (Undo tran change)) image = shape_refl image
shape_put_after (Some (Commit tran)) image = shape_refl image
shape_put_after (Some (Abort tran)) image = shape_refl image
shape_put_after (Some (Snap session index)) image = shape_refl image
shape_put_after (Some (Failed session index page)) image = shape_refl image
shape_put_after (Some (CheckEnd session index outcome)) image = shape_refl image

pub shape_apply : (older : List Record) (x : Record) (image : Image) → SameShape image (apply older x image)
shape_apply older (Start session index tran number changes size takes) image = shape_refl image
shape_apply older (Change tran cell before after) image = shape_put image cell after
shape_apply older (Undo tran change) image = shape_put_before (item_at older change.0) image
shape_apply older (Commit tran) image = shape_refl image
shape_apply older (Abort tran) image = shape_refl image
shape_apply older (Snap session index) image = shape_refl image
shape_apply older (Failed session index page) image = shape_refl image
shape_apply older (CheckEnd session index outcome) image = shape_refl image

pub shape_take_back : (older : List Record) (x : Record) (image : Image) → SameShape image (take_back older x image)
shape_take_back older (Start session index tran number changes size takes) image = shape_refl image
shape_take_back older (Change tran cell before after) image = shape_put image cell before
shape_take_back older (Undo tran change) image = shape_put_after (item_at older change.0) image
shape_take_back older (Commit tran) image = shape_refl image
shape_take_back older (Abort tran) image = shape_refl image
shape_take_back older (Snap session index) image = shape_refl image
shape_take_back older (Failed session index page) image = shape_refl image
shape_take_back older (CheckEnd session index outcome) image = shape_refl image

pub shape_applied : (c : ℕ → Bool) (opened log : List Record) (b : Image) → SameShape b (applied c opened log b)
shape_applied c opened [] b = shape_refl b
shape_applied c opened (x ∷ log) b =
    cond_both (c (tran_of x)) (apply (log ++ opened) x (applied c opened log b)) (applied c opened log b) (SameShape b)
    (λ e. shape_trans b (applied c opened log b) (apply (log ++ opened) x (applied c opened log b)) (shape_applied c opened log b) (shape_apply (log ++ opened) x (applied c opened log b)))
    (λ e. shape_applied c opened log b)

pub shape_taken_back : (c : ℕ → Bool) (log : List Record) (b : Image) → SameShape b (taken_back c log b)
shape_taken_back c [] b = shape_refl b
shape_taken_back c (x ∷ log) b =
    let next : Image = if c (tran_of x) then take_back log x b else b in
    shape_trans b next (taken_back c log next)
    (cond_both (c (tran_of x)) (take_back log x b) b (SameShape b) (λ e. shape_take_back log x b) (λ e. shape_refl b))
    (shape_taken_back c log next)

pub read_applied : (c : ℕ → Bool) (opened log : List Record) (b : Image) (k : Atom) → HaveForm (log ++ opened) → IsInside k b →
    read (applied c opened log b) k ≡ applied_at c k opened log (read b k)
read_applied c opened [] b k f inside = refl
read_applied c opened (x ∷ log) b k f inside =
    let ih = read_applied c opened log b k f.1 inside in
    by_test (c (tran_of x)) (read_apply (log ++ opened) x (applied c opened log b) k f (inside_shape k b (applied c opened log b) (shape_applied c opened log b) inside) ∙ ap (over (write_on (log ++ opened) k x)) ih) ih
  where
    by_test : (s : Bool) → read (apply (log ++ opened) x (applied c opened log b)) k ≡ over (write_on (log ++ opened) k x) (applied_at c k opened log (read b k)) →
        read (applied c opened log b) k ≡ applied_at c k opened log (read b k) →
        read (if s then apply (log ++ opened) x (applied c opened log b) else applied c opened log b) k ≡ (if s then over (write_on (log ++ opened) k x) (applied_at c k opened log (read b k)) else applied_at c k opened log (read b k))
    by_test true p q = p
    by_test false p q = q

pub read_taken_back : (c : ℕ → Bool) (log : List Record) (b : Image) (k : Atom) → HaveForm log → IsInside k b → read (taken_back c log b) k ≡ taken_back_at c k log (read b k)
read_taken_back c [] b k f inside = refl
read_taken_back c (x ∷ log) b k f inside =
    by_test (c (tran_of x))
    (read_taken_back c log (take_back log x b) k f.1 (inside_shape k b (take_back log x b) (shape_take_back log x b) inside))
    (read_taken_back c log b k f.1 inside)
  where
    by_test : (s : Bool) → read (taken_back c log (take_back log x b)) k ≡ taken_back_at c k log (read (take_back log x b) k) →
        read (taken_back c log b) k ≡ taken_back_at c k log (read b k) →
        read (taken_back c log (if s then take_back log x b else b)) k ≡ taken_back_at c k log (if s then under (write_on log k x) (read b k) else read b k)
    by_test true p q = p ∙ ap (taken_back_at c k log) (read_take_back log x b k f inside)
    by_test false p q = q

pub read_start : (opened : List Record) (b : Image) (k : Atom) → HaveForm opened → IsInside k b → read (start_image opened b) k ≡ start_at k opened (read b k)
read_start opened b k f inside = read_taken_back (is_unfinished opened) opened b k f inside

pub shape_start : (opened : List Record) (b : Image) → SameShape b (start_image opened b)
shape_start opened b = shape_taken_back (is_unfinished opened) opened b

pub read_from_start : (c : ℕ → Bool) (opened log : List Record) (b : Image) (k : Atom) → HaveForm (log ++ opened) → IsInside k b →
    read (applied c opened log (start_image opened b)) k ≡ applied_at c k opened log (start_at k opened (read b k))
read_from_start c opened log b k f inside =
    read_applied c opened log (start_image opened b) k f (inside_shape k b (start_image opened b) (shape_start opened b) inside)
    ∙ ap (applied_at c k opened log) (read_start opened b k (older_forms log opened f) inside)

-- two images of one shape that have the same at each atom are one. The guard of an atom is given by its place
pub same_images : (guard : ℕ → ℕ → ℕ → Resource) (b x y : Image) → SameShape b x → SameShape b y →
    ((p i j : ℕ) → IsInside (record { page = p; byte = i; bit = j; guard = guard p i j }) b →
    read x (record { page = p; byte = i; bit = j; guard = guard p i j }) ≡ read y (record { page = p; byte = i; bit = j; guard = guard p i j })) →
    x ≡ y
same_images guard b x y sx sy same =
    ext_get_or [] x y (sx.pages ∙ sym sy.pages) (λ p lt.
    ext_get_or 0 (page x p) (page y p) (sx.bytes p ∙ sym (sy.bytes p)) (λ i lt2.
    same_from_bits (slice_index (page x p) i) (slice_index (page y p) i) (λ j.
    same p i j (record { page_in = subst (λ n. p < n) sx.pages lt; byte_in = subst (λ n. i < n) (sx.bytes p) lt2 }))))
