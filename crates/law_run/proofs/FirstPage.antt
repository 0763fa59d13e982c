-- No item of a log changes page 0, which nothing guards.
use Rattle.std.proofs.Common.{◌≡◌, ◌≢◌, ℕ, ◌+◌, ◌<◌, ◌≤◌, leb, ltb, eqb, true, ◌&&◌, List, [], ◌∷◌, ◌++◌, length, Option, Some, None, refl, sym, ap, ◌∙◌, subst, get_or-set_other, arith}
use Rattle.std.specs.Prelude.{if◌then◌else◌, IsSomeAnd, slice_index}
use Rattle.std.proofs.lemmas.Bool.{cond_both, and_parts, ltb-true}
use Rattle.spec_file.specs.declared.data.Resource.{Resource}
use Rattle.spec_file.specs.declared.geometry.Geometry.{Geometry}
use Rattle.spec_file.specs.Image.{Image, page}
use Rattle.spec_log.specs.declared.item.Cell.{Cell}
use Rattle.spec_log.specs.declared.item.Cell.TheVariants.{Bytes, Bit}
use Rattle.spec_log.specs.declared.item.Record.{Record}
use Rattle.spec_log.specs.declared.item.Record.TheVariants.{Start, Change, Undo, Commit, Abort, Snap, Failed, CheckEnd}
use Rattle.spec_log.specs.Items.{has_form, has_cell_form, tran_of}
use Rattle.spec_log.specs.Log.{is_unfinished, holds}
use Rattle.spec_log.specs.Cells.{put, with_bytes, with_map_bit}
use Rattle.spec_log.specs.Cover.{IsCovered, HoldsGuard, byte_guard, bit_guard, in_file}
use Rattle.spec_log.specs.Images.{take_back, view_of, final_image, committed_image}
use Rattle.spec_log.specs.Rules.{Follows, KeepsRules, HaveForm}
use Rattle.law_run.proofs.KeptByPuts.{Puts, AllPuts, final_keeps, view_keeps, back_keeps}

-- the page of a cell
abbrev pub cell_page : Cell → ℕ
cell_page (Bytes p off) = p.0
cell_page (Bit p n) = p.0

abbrev IsElsewhere : Cell → List ℕ → Type 0
IsElsewhere cell bytes = cell_page cell ≢ 0

abbrev pub HasFirst : List ℕ → Image → Type 0
HasFirst first image = page image 0 ≡ first

keep : (first : List ℕ) (image : Image) (cell : Cell) (bytes : List ℕ) → HasFirst first image → IsElsewhere cell bytes → HasFirst first (put image cell bytes)
keep first image (Bytes p off) bytes same other = get_or-set_other image p.0 0 (with_bytes (page image p.0) off bytes) [] (λ e. other (sym e)) ∙ same
keep first image (Bit p n) bytes same other = get_or-set_other image p.0 0 (with_map_bit (page image p.0) n (slice_index bytes 0)) [] (λ e. other (sym e)) ∙ same

-- page 0 has no guard
no_guard : (pages : ℕ) (log : List Record) (t : ℕ) → HoldsGuard log t (in_file pages 0 None) → ⊥
no_guard pages log t h = none (cond_both (ltb 0 pages) None None (λ guard. guard ≡ None) (λ e. refl) (λ e. refl)) h
  where
    none : {guard : Option Resource} → guard ≡ None → HoldsGuard log t guard → ⊥
    none e held = elim (subst (HoldsGuard log t) e held) [ ]

covered_elsewhere : (g : Geometry) (pages : ℕ) (log : List Record) (t : ℕ) (cell : Cell) (before after : List ℕ) → has_cell_form cell before after ≡ true →
    IsCovered g pages log t cell (length after) → cell_page cell ≢ 0
covered_elsewhere g pages log t (Bytes p off) before after form covered e =
    let some = ltb-true 0 (length after) (and_parts (ltb 0 (length after)) (leb (off + length after) 8192)
    (and_parts (ltb 0 (length after) && leb (off + length after) 8192) (eqb (length before) (length after)) form).0).0 in
    no_guard pages log t (subst (λ q. HoldsGuard log t (byte_guard g pages q (off + 0))) e (covered.0 0 some))
covered_elsewhere g pages log t (Bit p n) before after form covered e = no_guard pages log t (subst (λ q. HoldsGuard log t (bit_guard g pages q n)) e covered)

one : (g : Geometry) (pages : ℕ) (log : List Record) (x : Record) → has_form x ≡ true → Follows g pages log x → Puts IsElsewhere x
one g pages log (Change tran cell before after) form follows =
    let other = covered_elsewhere g pages log tran.0 cell before after form follows.1 in (other, other)
one g pages log (Start session index tran number changes size takes) form follows = tt
one g pages log (Undo tran change) form follows = tt
one g pages log (Commit tran) form follows = tt
one g pages log (Abort tran) form follows = tt
one g pages log (Snap session index) form follows = tt
one g pages log (Failed session index page) form follows = tt
one g pages log (CheckEnd session index outcome) form follows = tt

pub all_elsewhere : (g : Geometry) (pages : ℕ) (log : List Record) → HaveForm log → KeepsRules g pages log → AllPuts IsElsewhere log
all_elsewhere g pages [] forms rules = tt
all_elsewhere g pages (x ∷ log) forms rules = (one g pages log x forms.0 rules.0, all_elsewhere g pages log forms.1 rules.1)

-- the file as it stands has page 0 as it was found, and so has what a transaction sees
pub final_first : (g : Geometry) (opened log : List Record) (b : Image) → HaveForm (log ++ opened) → KeepsRules g (length b) (log ++ opened) → page (final_image opened log b) 0 ≡ page b 0
final_first g opened log b forms rules =
    final_keeps (HasFirst (page b 0)) IsElsewhere (keep (page b 0)) opened log b (all_elsewhere g (length b) (log ++ opened) forms rules) refl

-- an item that is taken back leaves it
pub back_first : (g : Geometry) (pages : ℕ) (older : List Record) (x : Record) (image : Image) → HaveForm (x ∷ older) → KeepsRules g pages (x ∷ older) →
    page (take_back older x image) 0 ≡ page image 0
back_first g pages older x image forms rules =
    let all = all_elsewhere g pages (x ∷ older) forms rules in
    back_keeps (HasFirst (page image 0)) IsElsewhere (keep (page image 0)) older x image all.1 all.0 refl
