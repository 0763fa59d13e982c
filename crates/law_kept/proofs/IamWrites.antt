-- An IAM page with a slot, a mark or its next put there.
use Rattle.std.proofs.Common.{◌≡◌, ◌≢◌, ℕ, ◌+◌, ◌-◌, ◌*◌, ◌/◌, ◌%◌, ◌^◌, ◌<◌, ◌≤◌, ◌==◌, if◌then◌else◌, Bool, List, [], ◌∷◌, length, refl, sym, ap, ◌∙◌, ⊎_elim, arith, eq-eqb, ne_eqb}
use Rattle.std.specs.Prelude.{slice_index}
use Rattle.std.specs.Int.{bit_at}
use Rattle.std.proofs.lemmas.Bool.{cases_eq}
use Rattle.byteorder.specs.Endian.{little_bytes}
use Rattle.byteorder.specs.Numbers.{little_number-reads_back}
use Rattle.spec_file.specs.Iam.{single_slot_count, iam_mark}
use Rattle.spec_file.specs.Image.{number_at}
use Rattle.spec_log.specs.Cells.{with_bytes, with_bit}
use Rattle.spec_steps.specs.IamPages.{SameLinks, SameMarks, SameSlots, IsSlotSet, IsNextSet}
use Rattle.law_writes.specs.Laws.{bit_number}
use Rattle.law_writes.proofs.Puts.{bit_with, small, is_bit}
use Rattle.law_kept.proofs.EntryPages.{byte_here, byte_else, number_same}

-- ---- numbers of four bytes

read_back : (p : ℕ) → p < 256 ^ 4 → number_at 4 0 (little_bytes 4 p) ≡ p
unfolding number_at
read_back p low = little_number-reads_back 4 p [] low

number_here : (old : List ℕ) (off p : ℕ) → off + 4 ≤ length old → p < 256 ^ 4 → number_at 4 off (with_bytes old off (little_bytes 4 p)) ≡ p
number_here old off p within low =
    let four : length (little_bytes 4 p) ≡ 4 = refl in
    number_same off 0 (with_bytes old off (little_bytes 4 p)) (little_bytes 4 p) (λ k few.
    let place : off + k - off ≡ 0 + k = omega arith in
    byte_here old off (little_bytes 4 p) (off + k) (omega (arith, within, few)) (omega arith) (omega (arith, few, four)) ∙ ap (slice_index (little_bytes 4 p)) place)
    ∙ read_back p low

number_else : (old : List ℕ) (off : ℕ) (bytes : List ℕ) (at : ℕ) → ((k : ℕ) → k < 4 → off ≤ at + k → at + k < off + length bytes → ⊥) → number_at 4 at (with_bytes old off bytes) ≡ number_at 4 at old
number_else old off bytes at apart = number_same at at (with_bytes old off bytes) old (λ k few. byte_else old off bytes (at + k) (λ from to. apart k few from to))

-- ---- what stays

-- bytes from the slots on leave the links
links_before : (old : List ℕ) (off : ℕ) (bytes : List ℕ) → 104 ≤ off → SameLinks old (with_bytes old off bytes)
links_before old off bytes behind = record {
  type = byte_else old off bytes 1 (λ from to. omega (arith, behind, from));
  number = number_else old off bytes 4 (λ k few from to. omega (arith, behind, from, few));
  object = number_else old off bytes 8 (λ k few from to. omega (arith, behind, from, few));
  prev = number_else old off bytes 12 (λ k few from to. omega (arith, behind, from, few));
  next = number_else old off bytes 16 (λ k few from to. omega (arith, behind, from, few));
  interval = number_else old off bytes 96 (λ k few from to. omega (arith, behind, from, few));
  sequence = number_else old off bytes 100 (λ k few from to. omega (arith, behind, from, few));
}

-- bytes before the marks leave them
marks_behind : (old : List ℕ) (off : ℕ) (bytes : List ℕ) → off + length bytes ≤ 136 → SameMarks old (with_bytes old off bytes)
marks_behind old off bytes before n = ap (λ b. bit_at b (n % 8) == 1) (byte_else old off bytes (136 + n / 8) (λ from to. omega (arith, before, to)))

-- ---- what is put

pub slot_set : (i p : ℕ) (old : List ℕ) → i < single_slot_count → p < 256 ^ 4 → length old ≡ 8192 → IsSlotSet i p old (with_bytes old (104 + 4 * i) (little_bytes 4 p))
slot_set i p old within low long =
    let four : length (little_bytes 4 p) ≡ 4 = refl in record {
      here = number_here old (104 + 4 * i) p (omega (arith, within, long)) low;
      others = λ j few other. number_else old (104 + 4 * i) (little_bytes 4 p) (104 + 4 * j) (λ k less from to. other (omega (arith, less, from, to, four)));
      links = links_before old (104 + 4 * i) (little_bytes 4 p) (omega arith);
      marks = marks_behind old (104 + 4 * i) (little_bytes 4 p) (omega (arith, within, four));
    }

pub next_set : (p : ℕ) (old : List ℕ) → p < 256 ^ 4 → length old ≡ 8192 → IsNextSet p old (with_bytes old 16 (little_bytes 4 p))
next_set p old low long =
    let four : length (little_bytes 4 p) ≡ 4 = refl in record {
      here = number_here old 16 p (omega (arith, long)) low;
      type = byte_else old 16 (little_bytes 4 p) 1 (λ from to. omega (arith, from));
      number = number_else old 16 (little_bytes 4 p) 4 (λ k few from to. omega (arith, few, from));
      object = number_else old 16 (little_bytes 4 p) 8 (λ k few from to. omega (arith, few, from));
      prev = number_else old 16 (little_bytes 4 p) 12 (λ k few from to. omega (arith, few, from));
      interval = number_else old 16 (little_bytes 4 p) 96 (λ k few from to. omega (arith, to, four));
      sequence = number_else old 16 (little_bytes 4 p) 100 (λ k few from to. omega (arith, to, four));
      marks = marks_behind old 16 (little_bytes 4 p) (omega (arith, four));
      slots = λ i within. number_else old 16 (little_bytes 4 p) (104 + 4 * i) (λ k few from to. omega (arith, to, four));
    }

-- mark n of the page is the value, all else stays
pub record PutsMark (n : ℕ) (value : Bool) (old new : List ℕ) : Type 0 where
  pub here : iam_mark new n ≡ value
  pub others : (m : ℕ) → m ≢ n → iam_mark new m ≡ iam_mark old m
  pub links : SameLinks old new
  pub slots : SameSlots old new

-- the bits of a byte with one that is set
bit_here : (byte i : ℕ) (value : Bool) → (bit_at (with_bit byte i (bit_number value)) i == 1) ≡ value
bit_here byte i value =
    ap (λ w. w == 1) (bit_with byte i (bit_number value) i (small value) ∙ ap (λ c. if c then bit_number value else bit_at byte i) (eq-eqb i i refl)) ∙ is_bit value

bit_else : (byte i j : ℕ) (value : Bool) → i ≢ j → bit_at (with_bit byte i (bit_number value)) j ≡ bit_at byte j
bit_else byte i j value other = bit_with byte i (bit_number value) j (small value) ∙ ap (λ c. if c then bit_number value else bit_at byte j) (ne_eqb i j other)

pub mark_put : (n : ℕ) (value : Bool) (old : List ℕ) → n < 63904 → length old ≡ 8192
    → PutsMark n value old (with_bytes old (136 + n / 8) (with_bit (slice_index old (136 + n / 8)) (n % 8) (bit_number value) ∷ []))
mark_put n value old low long =
    let k = 136 + n / 8 in
    let byte = with_bit (slice_index old k) (n % 8) (bit_number value) in
    let none : k - k ≡ 0 = omega arith in
    let at : slice_index (with_bytes old k (byte ∷ [])) k ≡ byte = byte_here old k (byte ∷ []) k (omega (arith, low, long)) (omega arith) (omega arith) ∙ ap (slice_index (byte ∷ [])) none in record {
      here = ap (λ b. bit_at b (n % 8) == 1) at ∙ bit_here (slice_index old k) (n % 8) value;
      others = λ m other. ⊎_elim
          (λ same. ap (λ i. bit_at (slice_index (with_bytes old k (byte ∷ [])) i) (m % 8) == 1) same
          ∙ ap (λ b. bit_at b (m % 8) == 1) at
          ∙ ap (λ b. b == 1) (bit_else (slice_index old k) (n % 8) (m % 8) value (λ bit. other (omega (arith, same, bit))))
          ∙ ap (λ i. bit_at (slice_index old i) (m % 8) == 1) (sym same))
          (λ differ. ap (λ b. bit_at b (m % 8) == 1) (byte_else old k (byte ∷ []) (136 + m / 8) (λ from to. differ (omega (arith, from, to)))))
          (cases_eq (136 + m / 8) k);
      links = links_before old k (byte ∷ []) (omega arith);
      slots = λ i within. number_else old k (byte ∷ []) (104 + 4 * i) (λ j few from to. omega (arith, within, few, from));
    }
