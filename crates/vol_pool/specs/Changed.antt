-- The pages that a log changes.
use Rattle.std.specs.Prelude.{◌≡◌, ℕ, ◌+◌, ◌≢◌, ◌==◌, Bool, true, false, if◌then◌else◌, List, [], ◌∷◌, length, Option, Some, None, refl}
use Rattle.std.specs.List.{list_any}
use Rattle.std.proofs.Common.{sym, ap, ◌∙◌, append-nil}
use Rattle.std.proofs.lemmas.Bool.{or_parts, eq-eqb, both_ways}
use Rattle.std.proofs.lemmas.List.{get_or-set_other}
use Rattle.spec_file.specs.Image.{Image, page}
use Rattle.spec_log.specs.declared.item.Cell.{Cell}
use Rattle.spec_log.specs.declared.item.Cell.TheVariants.{Bytes, Bit}
use Rattle.spec_log.specs.declared.item.Record.{Record}
use Rattle.spec_log.specs.declared.item.Record.TheVariants.{Start, Change, Undo, Commit, Abort, Snap, Failed, CheckEnd}
use Rattle.spec_log.specs.Cells.{put}
use Rattle.spec_log.specs.Images.{page_of_cell, put_before, apply, final_image}
use Rattle.spec_log.specs.Log.{item_at}
use Rattle.spec_run.specs.ChangedPages.{changes_page}

-- the page that is named is p
abbrev pub names : ℕ → Option ℕ → Bool
names p None = false
names p (Some q) = q == p

-- what is put into a cell of another page leaves a page
put_elsewhere : (image : Image) (cell : Cell) (bytes : List ℕ) (p : ℕ) → (page_of_cell cell == p) ≡ false → page (put image cell bytes) p ≡ page image p
put_elsewhere image (Bytes q off) bytes p other =
    let apart : p ≢ q.0 = λ same. both_ways (q.0 == p) other (eq-eqb q.0 p (sym same)) in
    get_or-set_other image q.0 p _ [] apart
put_elsewhere image (Bit q n) bytes p other =
    let apart : p ≢ q.0 = λ same. both_ways (q.0 == p) other (eq-eqb q.0 p (sym same)) in
    get_or-set_other image q.0 p _ [] apart

-- so does what a Change of another page had found
item_elsewhere : (image : Image) (x : Record) (p : ℕ) → changes_page p x ≡ false → page (put_before (Some x) image) p ≡ page image p
item_elsewhere image (Change tran cell before after) p other = put_elsewhere image cell before p other
item_elsewhere image (Start session index tran number changes size takes) p other = refl
item_elsewhere image (Undo tran change) p other = refl
item_elsewhere image (Commit tran) p other = refl
item_elsewhere image (Abort tran) p other = refl
item_elsewhere image (Snap session index) p other = refl
item_elsewhere image (Failed session index q) p other = refl
item_elsewhere image (CheckEnd session index outcome) p other = refl

either : (b : Bool) (x y : Option Record) (image : Image) (p : ℕ) → page (put_before x image) p ≡ page image p
    → page (put_before y image) p ≡ page image p → page (put_before (if b then x else y) image) p ≡ page image p
either true x y image p is other = is
either false x y image p is other = other

-- and what is put back for an Undo, where no item is a Change of the page
undone_elsewhere : (image : Image) (log : List Record) (n p : ℕ) → list_any (changes_page p) log ≡ false
    → page (put_before (item_at log n) image) p ≡ page image p
undone_elsewhere image [] n p none = refl
undone_elsewhere image (x ∷ older) n p none =
    let parts = or_parts (changes_page p x) (list_any (changes_page p) older) none in
    either (n == length older + 1) (Some x) (item_at older n) image p (item_elsewhere image x p parts.0) (undone_elsewhere image older n p parts.1)

applied_elsewhere : (image : Image) (older : List Record) (x : Record) (p : ℕ) → changes_page p x ≡ false
    → list_any (changes_page p) older ≡ false → page (apply older x image) p ≡ page image p
applied_elsewhere image older (Change tran cell before after) p other none = put_elsewhere image cell after p other
applied_elsewhere image older (Undo tran change) p other none = undone_elsewhere image older change.0 p none
applied_elsewhere image older (Start session index tran number changes size takes) p other none = refl
applied_elsewhere image older (Commit tran) p other none = refl
applied_elsewhere image older (Abort tran) p other none = refl
applied_elsewhere image older (Snap session index) p other none = refl
applied_elsewhere image older (Failed session index q) p other none = refl
applied_elsewhere image older (CheckEnd session index outcome) p other none = refl

-- a page that no item of the log changes is as the log found it
pub unchanged_stays : (image : Image) (log : List Record) (p : ℕ) → list_any (changes_page p) log ≡ false
    → page (final_image [] log image) p ≡ page image p
unchanged_stays image [] p none = refl
unchanged_stays image (x ∷ older) p none =
    let parts = or_parts (changes_page p x) (list_any (changes_page p) older) none in
    ap (λ l. page (apply l x (final_image [] older image)) p) (append-nil older)
    ∙ applied_elsewhere (final_image [] older image) older x p parts.0 parts.1
    ∙ unchanged_stays image older p parts.1
