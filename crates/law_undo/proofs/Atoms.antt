-- What a log does to one atom of an image: one bit of one byte. Each atom has one guard.
use Rattle.std.proofs.Common.{◌≡◌, ℕ, ◌+◌, ◌-◌, ◌/◌, ◌%◌, Bool, true, false, eqb, ltb, leb, ◌&&◌, List, [], ◌∷◌, ◌++◌, length, Option, Some, None, ◌⊎◌, inl, inr, refl, sym, ap, ◌∙◌}
use Rattle.std.specs.Prelude.{if◌then◌else◌, slice_index}
use Rattle.std.specs.Int.{bit_at}
use Rattle.spec_file.specs.declared.data.Resource.{Resource}
use Rattle.spec_file.specs.Image.{Image, page, maps_start}
use Rattle.spec_log.specs.declared.item.Cell.{Cell}
use Rattle.spec_log.specs.declared.item.Cell.TheVariants.{Bytes, Bit}
use Rattle.spec_log.specs.declared.item.Record.{Record}
use Rattle.spec_log.specs.declared.item.Record.TheVariants.{Change, Undo}
use Rattle.spec_log.specs.Items.{tran_of}
use Rattle.spec_log.specs.Log.{item_at}

-- one bit of one byte of a page, and the resource that guards it
pub record Atom : Type 0 where
  pub page : ℕ
  pub byte : ℕ
  pub bit : ℕ
  pub guard : Resource

-- what an image has there
abbrev pub read : Image → Atom → ℕ
read image k = bit_at (slice_index (page image k.page) k.byte) k.bit

-- the cell, of so many bytes, has the atom
abbrev pub has_atom : Cell → ℕ → Atom → Bool
has_atom (Bytes p off) size k = eqb p.0 k.page && (leb off k.byte && ltb k.byte (off + size))
has_atom (Bit p n) size k = eqb p.0 k.page && (eqb (maps_start + n / 8) k.byte && eqb (n % 8) k.bit)

-- what the bytes of the cell have there
abbrev pub bit_in : Cell → List ℕ → Atom → ℕ
bit_in (Bytes p off) bytes k = bit_at (slice_index bytes (k.byte - off)) k.bit
bit_in (Bit p n) bytes k = slice_index bytes 0

-- what a Change finds at the atom, and what it leaves there
abbrev pub change_on : Atom → Record → Option (ℕ × ℕ)
change_on k (Change tran cell before after) = if has_atom cell (length after) k then Some (bit_in cell before k, bit_in cell after k) else None
change_on k other = None

abbrev pub turned : Option (ℕ × ℕ) → Option (ℕ × ℕ)
turned None = None
turned (Some p) = Some (p.1, p.0)

abbrev pub named_on : Atom → Option Record → Option (ℕ × ℕ)
named_on k None = None
named_on k (Some x) = change_on k x

-- the same for any item after older ones
abbrev pub write_on : List Record → Atom → Record → Option (ℕ × ℕ)
write_on older k (Change tran cell before after) = if has_atom cell (length after) k then Some (bit_in cell before k, bit_in cell after k) else None
write_on older k (Undo tran change) = turned (named_on k (item_at older change.0))
write_on older k other = None

abbrev pub over : Option (ℕ × ℕ) → ℕ → ℕ
over None v = v
over (Some p) v = p.1

abbrev pub under : Option (ℕ × ℕ) → ℕ → ℕ
under None v = v
under (Some p) v = p.0

abbrev pub applied_at : (ℕ → Bool) → Atom → List Record → List Record → ℕ → ℕ
applied_at chosen k opened [] v = v
applied_at chosen k opened (x ∷ older) v =
    if chosen (tran_of x) then over (write_on (older ++ opened) k x) (applied_at chosen k opened older v) else applied_at chosen k opened older v

abbrev pub taken_back_at : (ℕ → Bool) → Atom → List Record → ℕ → ℕ
taken_back_at chosen k [] v = v
taken_back_at chosen k (x ∷ older) v =
    taken_back_at chosen k older (if chosen (tran_of x) then under (write_on older k x) v else v)

-- no item of the transaction writes the atom
abbrev pub IsQuiet : ℕ → Atom → List Record → Type 0
IsQuiet t k [] = Unit {0}
IsQuiet t k (x ∷ older) = (tran_of x ≡ t → write_on older k x ≡ None) × IsQuiet t k older

-- two choices that differ only at quiet transactions
pub taken_back_at-same : (p q : ℕ → Bool) (k : Atom) (log : List Record) (v : ℕ) → ((t : ℕ) → (p t ≡ q t) ⊎ IsQuiet t k log) →
    taken_back_at p k log v ≡ taken_back_at q k log v
taken_back_at-same p q k [] v same = refl
taken_back_at-same p q k (x ∷ older) v same =
    taken_back_at-same p q k older (if p (tran_of x) then under (write_on older k x) v else v) (λ t. elim (same t) [ inl e ↦ inl e | inr h ↦ inr h.1 ])
    ∙ ap (taken_back_at q k older) (step_same (p (tran_of x)) (q (tran_of x)) (write_on older k x) v (elim (same (tran_of x)) [ inl e ↦ inl e | inr h ↦ inr (h.0 refl) ]))
  where
    step_same : (b c : Bool) (w : Option (ℕ × ℕ)) (v : ℕ) → (b ≡ c) ⊎ (w ≡ None) → (if b then under w v else v) ≡ (if c then under w v else v)
    step_same b c w v (inl e) = ap (λ d. if d then under w v else v) e
    step_same true true w v (inr n) = refl
    step_same true false w v (inr n) = ap (λ u. under u v) n
    step_same false true w v (inr n) = sym (ap (λ u. under u v) n)
    step_same false false w v (inr n) = refl

pub applied_at-same : (p q : ℕ → Bool) (k : Atom) (opened log : List Record) (v : ℕ) → ((t : ℕ) → (p t ≡ q t) ⊎ IsQuiet t k (log ++ opened)) →
    applied_at p k opened log v ≡ applied_at q k opened log v
applied_at-same p q k opened [] v same = refl
applied_at-same p q k opened (x ∷ older) v same =
    step_same (p (tran_of x)) (q (tran_of x)) (write_on (older ++ opened) k x) (applied_at p k opened older v) (applied_at q k opened older v)
    (applied_at-same p q k opened older v (λ t. elim (same t) [ inl e ↦ inl e | inr h ↦ inr h.1 ]))
    (elim (same (tran_of x)) [ inl e ↦ inl e | inr h ↦ inr (h.0 refl) ])
  where
    step_same : (b c : Bool) (w : Option (ℕ × ℕ)) (u v : ℕ) → u ≡ v → (b ≡ c) ⊎ (w ≡ None) → (if b then over w u else u) ≡ (if c then over w v else v)
    step_same b c w u v e (inl same) = ap (λ d. if d then over w u else u) same ∙ ap (λ z. if c then over w z else z) e
    step_same true true w u v e (inr n) = ap (over w) e
    step_same true false w u v e (inr n) = ap (λ z. over z u) n ∙ e
    step_same false true w u v e (inr n) = e ∙ sym (ap (λ z. over z v) n)
    step_same false false w u v e (inr n) = e
