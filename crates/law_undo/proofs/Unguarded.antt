-- Bytes without a guard stay as they were opened.
use Rattle.std.proofs.Common.{◌≡◌, ℕ, ◌+◌, ◌-◌, ◌/◌, ◌%◌, ◌<◌, ◌≤◌, Bool, true, false, eqb, ltb, leb, ◌&&◌, List, [], ◌∷◌, ◌++◌, length, Some, None, refl, ap, ◌∙◌, subst, arith}
use Rattle.std.specs.Prelude.{if◌then◌else◌}
use Rattle.std.proofs.lemmas.Bool.{and_parts, eqb-true, leb-true, ltb-true, cond_both, false_from_ne_true}
use Rattle.spec_file.specs.declared.geometry.Geometry.{Geometry}
use Rattle.spec_file.specs.Image.{page, maps_start}
use Rattle.spec_log.specs.declared.item.Cell.{Cell}
use Rattle.spec_log.specs.declared.item.Cell.TheVariants.{Bytes, Bit}
use Rattle.spec_log.specs.declared.item.Record.{Record}
use Rattle.spec_log.specs.declared.item.Record.TheVariants.{Start, Change, Undo, Commit, Abort, Snap, Failed, CheckEnd}
use Rattle.spec_log.specs.Items.{tran_of}
use Rattle.spec_log.specs.Log.{item_at, has_committed, is_unfinished}
use Rattle.spec_log.specs.Cover.{byte_guard, bit_guard, HoldsGuard, IsCovered}
use Rattle.spec_log.specs.Rules.{KeepsRules}
use Rattle.spec_log.specs.Images.{final_image, committed_image, view_of}
use Rattle.law_undo.proofs.Atoms.{Atom, read, has_atom, bit_in, change_on, turned, named_on, write_on, over, under, applied_at, taken_back_at}
use Rattle.law_undo.proofs.LawAtAtom.{start_at}
use Rattle.law_undo.proofs.Reading.{IsInside, inside_shape, shape_refl}
use Rattle.law_undo.proofs.ReadLogs.{read_applied, shape_applied}
use Rattle.law_undo.proofs.Guards.{atom}
use Rattle.law_undo.proofs.Views.{sound_rules, sound_forms, sound_commits, read_committed, shape_committed, shape_view}
use Rattle.law_undo.specs.Laws.{UnguardedStay}
use Rattle.law_undo.proofs.Law.{same_byte}

-- no item writes the atom
abbrev pub Unwritten : Atom → List Record → Type 0
Unwritten k [] = Unit {0}
Unwritten k (x ∷ older) = (write_on older k x ≡ None) × Unwritten k older

named_unwritten : (k : Atom) (log : List Record) (lsn : ℕ) → Unwritten k log → named_on k (item_at log lsn) ≡ None
named_unwritten k [] lsn u = refl
named_unwritten k (x ∷ older) lsn u =
    cond_both (eqb lsn (length older + 1)) (Some x) (item_at older lsn) (λ o. named_on k o ≡ None) (λ e. by_item x u.0) (λ e. named_unwritten k older lsn u.1)
  where
    by_item : (x : Record) → write_on older k x ≡ None → change_on k x ≡ None
    by_item (Start session index tran number changes size takes) w = refl
    by_item (Change tran cell before after) w = w
    by_item (Undo tran change) w = refl
    by_item (Commit tran) w = refl
    by_item (Abort tran) w = refl
    by_item (Snap session index) w = refl
    by_item (Failed session index page) w = refl
    by_item (CheckEnd session index outcome) w = refl

applied_unwritten : (c : ℕ → Bool) (k : Atom) (opened log : List Record) (v : ℕ) → Unwritten k (log ++ opened) → applied_at c k opened log v ≡ v
applied_unwritten c k opened [] v u = refl
applied_unwritten c k opened (x ∷ log) v u =
    ap (λ w. if c (tran_of x) then over w (applied_at c k opened log v) else applied_at c k opened log v) u.0
    ∙ same_both (c (tran_of x)) (applied_at c k opened log v) ∙ applied_unwritten c k opened log v u.1
  where
    same_both : (s : Bool) (v : ℕ) → (if s then v else v) ≡ v
    same_both true v = refl
    same_both false v = refl

taken_back_unwritten : (c : ℕ → Bool) (k : Atom) (log : List Record) (v : ℕ) → Unwritten k log → taken_back_at c k log v ≡ v
taken_back_unwritten c k [] v u = refl
taken_back_unwritten c k (x ∷ log) v u =
    taken_back_unwritten c k log (if c (tran_of x) then under (write_on log k x) v else v) u.1
    ∙ ap (λ w. if c (tran_of x) then under w v else v) u.0 ∙ same_both (c (tran_of x)) v
  where
    same_both : (s : Bool) (v : ℕ) → (if s then v else v) ≡ v
    same_both true v = refl
    same_both false v = refl

none_held : (g : Geometry) (pages : ℕ) (log : List Record) (t : ℕ) (cell : Cell) (size p i j : ℕ) → IsCovered g pages log t cell size →
    byte_guard g pages p i ≡ None → ((n : ℕ) → maps_start + n / 8 ≡ i → bit_guard g pages p n ≡ None) → has_atom cell size (atom g pages p i j) ≡ true → ⊥
none_held g pages log t (Bytes q off) size p i j covered none none_bits h =
    let a = and_parts (eqb q.0 p) (leb off i && ltb i (off + size)) h in
    let c = and_parts (leb off i) (ltb i (off + size)) a.1 in
    let low : off ≤ i = leb-true off i c.0 in
    let high : i < off + size = ltb-true i (off + size) c.1 in
    let less : i - off < size = omega arith in
    let place : off + (i - off) ≡ i = omega arith in
    let there : HoldsGuard log t (byte_guard g pages q.0 (off + (i - off))) = covered.0 (i - off) less in
    subst (HoldsGuard log t) none (subst (λ at. HoldsGuard log t (byte_guard g pages p at)) place (subst (λ r. HoldsGuard log t (byte_guard g pages r (off + (i - off)))) (eqb-true q.0 p a.0) there))
none_held g pages log t (Bit q n) size p i j covered none none_bits h =
    let a = and_parts (eqb q.0 p) (eqb (maps_start + n / 8) i && eqb (n % 8) j) h in
    let c = and_parts (eqb (maps_start + n / 8) i) (eqb (n % 8) j) a.1 in
    subst (HoldsGuard log t) (none_bits n (eqb-true (maps_start + n / 8) i c.0)) (subst (λ r. HoldsGuard log t (bit_guard g pages r n)) (eqb-true q.0 p a.0) covered)

unwritten : (g : Geometry) (pages : ℕ) (log : List Record) (p i j : ℕ) → KeepsRules g pages log → byte_guard g pages p i ≡ None →
    ((n : ℕ) → maps_start + n / 8 ≡ i → bit_guard g pages p n ≡ None) → Unwritten (atom g pages p i j) log
unwritten g pages [] p i j r none none_bits = tt
unwritten g pages (Start session index tran number changes size takes ∷ log) p i j r none none_bits = (refl, unwritten g pages log p i j r.1 none none_bits)
unwritten g pages (Change tran cell before after ∷ log) p i j r none none_bits = (
  ap (λ s. if s then Some (bit_in cell before (atom g pages p i j), bit_in cell after (atom g pages p i j)) else None)
      (false_from_ne_true (has_atom cell (length after) (atom g pages p i j)) (none_held g pages log tran.0 cell (length after) p i j r.0.1 none none_bits)),
  unwritten g pages log p i j r.1 none none_bits,
)
unwritten g pages (Undo tran change ∷ log) p i j r none none_bits =
    let u = unwritten g pages log p i j r.1 none none_bits in
    (ap turned (named_unwritten (atom g pages p i j) log change.0 u), u)
unwritten g pages (Commit tran ∷ log) p i j r none none_bits = (refl, unwritten g pages log p i j r.1 none none_bits)
unwritten g pages (Abort tran ∷ log) p i j r none none_bits = (refl, unwritten g pages log p i j r.1 none none_bits)
unwritten g pages (Snap session index ∷ log) p i j r none none_bits = (refl, unwritten g pages log p i j r.1 none none_bits)
unwritten g pages (Failed session index page ∷ log) p i j r none none_bits = (refl, unwritten g pages log p i j r.1 none none_bits)
unwritten g pages (CheckEnd session index outcome ∷ log) p i j r none none_bits = (refl, unwritten g pages log p i j r.1 none none_bits)

older_unwritten : (k : Atom) (opened log : List Record) → Unwritten k (log ++ opened) → Unwritten k opened
older_unwritten k opened [] u = u
older_unwritten k opened (x ∷ log) u = older_unwritten k opened log u.1

pub unguarded_stay : UnguardedStay
unguarded_stay g opened log b t p at s none none_bits =
    let forms = sound_forms g (length b) opened b log s in
    let commits_kept = sound_commits g (length b) opened b log s in
    let committed = committed_image opened log b in (
      same_byte b (view_of t opened log b) b p at (shape_view t opened log b commits_kept) (shape_refl b) (λ j lt lt2.
          let k = atom g (length b) p at j in
          let inside : IsInside k b = record { page_in = lt; byte_in = lt2 } in
          let u = unwritten g (length b) (log ++ opened) p at j (sound_rules g (length b) opened b log s) none none_bits in
          read_applied (λ v. eqb v t) opened log committed k forms (inside_shape k b committed (shape_committed opened log b commits_kept) inside)
          ∙ applied_unwritten (λ v. eqb v t) k opened log (read committed k) u
          ∙ read_committed opened log b k forms commits_kept inside
          ∙ applied_unwritten (has_committed log) k opened log (start_at k opened (read b k)) u
          ∙ taken_back_unwritten (is_unfinished opened) k opened (read b k) (older_unwritten k opened log u)),
      same_byte b (final_image opened log b) b p at (shape_applied (λ v. true) opened log b) (shape_refl b) (λ j lt lt2.
          let k = atom g (length b) p at j in
          read_applied (λ v. true) opened log b k forms (record { page_in = lt; byte_in = lt2 })
          ∙ applied_unwritten (λ v. true) k opened log (read b k) (unwritten g (length b) (log ++ opened) p at j (sound_rules g (length b) opened b log s) none none_bits)),
    )
