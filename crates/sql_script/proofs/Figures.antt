-- Numbers, names and payloads as words of a line.
use Rattle.std.specs.Prelude.{◌≡◌, ℕ, ◌^◌, ◌<◌, ◌&&◌, ◌||◌, ◌==◌, Bool, IsTrue, not, nat_lt, nat_le, List, [], ◌∷◌, ◌++◌, length, get_or, codes, decimal, Some, None, true, false}
use Rattle.std.specs.List.{list_all}
use Rattle.std.specs.Str.Parse.{digits_value}
use Rattle.std.proofs.Common.{refl, ap, sym, ◌∙◌, arith, cond, subst, ⊎_elim}
use Rattle.std.proofs.lemmas.Bool.{and_parts, and_from, lt-ltb, ltb-true, true≢false, eqb-true, eq-eqb, ne_eqb, cases_eq}
use Rattle.std.proofs.lemmas.Bool.Decides.{nat_tests}
use Rattle.std.proofs.lemmas.Option.{cond_some}
use Rattle.std.proofs.lemmas.Fmt.{digits_decimal, digits_value-decimal, decimal-digits_value, decimal_nonempty, decimal_digit, first_decimal}
use Rattle.spec_file.specs.Catalog.{is_name, is_name_byte}
use Rattle.spec_script.specs.Lines.{is_payload}
use Rattle.sql_script.specs.Reading.{◌>>=◌, is_space, are_digits, is_numeral, number_of, number_within, name_of, payload_of, after, before}
use Rattle.spec_file.proofs.NameLaws.{name_bytes}
use Rattle.sql_script.proofs.Numbers.{own, numeral_digits}
use Rattle.sql_script.proofs.Spelling.{HasNoSpace, bind_ok, after_spelled, after_parts, before_spelled, before_parts}

-- a test that implies another
pub weaken : (p q : ℕ → Bool) → ((b : ℕ) → p b ≡ true → q b ≡ true) → (bytes : List ℕ) → list_all p bytes ≡ true → list_all q bytes ≡ true
weaken p q h [] all = refl
weaken p q h (b ∷ bytes) all =
    let parts = and_parts (p b) (list_all p bytes) all in
    and_from (q b) (list_all q bytes) (h b parts.0) (weaken p q h bytes parts.1)

digit_no_space : (b : ℕ) → (nat_le 48 b && nat_le b 57) ≡ true → not (is_space b) ≡ true
digit_no_space b h = grind (arith, nat_tests)

name_byte_no_space : (b : ℕ) → is_name_byte b ≡ true → not (is_space b) ≡ true
name_byte_no_space b h = grind (arith, nat_tests)

pub decimal_no_space : (n : ℕ) → n < 2 ^ 64 → HasNoSpace (decimal n)
decimal_no_space n h = weaken (λ b. nat_le 48 b && nat_le b 57) (λ b. not (is_space b)) digit_no_space (decimal n) (digits_decimal own n h)

pub name_no_space : (name : List ℕ) → IsTrue (is_name name) → HasNoSpace name
name_no_space name h = weaken is_name_byte (λ b. not (is_space b)) name_byte_no_space name (name_bytes name h)

or_true : (t : Bool) → (t || true) ≡ true
or_true true = refl
or_true false = refl

numeral_from : (ds : List ℕ) → are_digits ds ≡ true → 0 < length ds → (get_or ds 0 0 ≡ 48 → length ds ≡ 1) → is_numeral ds ≡ true
numeral_from [] digits full first = absurd (omega (arith, full))
numeral_from (d ∷ ds) digits full first =
    and_from (not (d == 48) || (length ds == 0)) (are_digits (d ∷ ds))
    (⊎_elim (λ e. ap (λ (t : Bool). not (d == 48) || t) (eq-eqb (length ds) 0 (omega (arith, first e))) ∙ or_true (not (d == 48)))
    (λ e. ap (λ (t : Bool). not t || (length ds == 0)) (ne_eqb d 48 e)) (cases_eq d 48))
    digits

numeral_first : (ds : List ℕ) → is_numeral ds ≡ true → get_or ds 0 0 ≡ 48 → length ds ≡ 1
numeral_first [] h e = absurd (true≢false (sym h))
numeral_first (d ∷ ds) h e =
    let parts = and_parts (not (d == 48) || (length ds == 0)) (are_digits (d ∷ ds)) h in
    let zero : (length ds == 0) ≡ true = sym (ap (λ (t : Bool). not t || (length ds == 0)) (eq-eqb d 48 e)) ∙ parts.0 in
    omega (arith, eqb-true (length ds) 0 zero)

pub number_spelled : (n : ℕ) → n < 2 ^ 64 → number_of (decimal n) ≡ Some n
unfolding number_of
number_spelled n h =
    let ds = decimal n in
    let first : get_or ds 0 0 ≡ 48 → length ds ≡ 1 = λ e. ⊎_elim
    (λ (zero : n ≡ 0). subst (λ k. length (decimal k) ≡ 1) (sym zero) (ap length (decimal_digit 0 (omega arith))))
    (λ more. absurd (omega (arith, e, first_decimal n (omega (arith, more)) h))) (cases_eq n 0) in
    let numeral : is_numeral ds ≡ true = numeral_from ds (digits_decimal own n h) (decimal_nonempty n h) first in
    ap (λ (v : ℕ). cond (is_numeral ds && nat_lt v (2 ^ 64)) (Some v) None) (digits_value-decimal own n h)
    ∙ ap (λ (t : Bool). cond t (Some n) None) (and_from (is_numeral ds) (nat_lt n (2 ^ 64)) numeral (lt-ltb n (2 ^ 64) h))

pub number_parts : (ds : List ℕ) (n : ℕ) → number_of ds ≡ Some n → (ds ≡ decimal n) × (n < 2 ^ 64)
unfolding number_of
number_parts ds n e =
    let parts = cond_some (is_numeral ds && nat_lt (digits_value 10 ds) (2 ^ 64)) (digits_value 10 ds) n e in
    let tests = and_parts (is_numeral ds) (nat_lt (digits_value 10 ds) (2 ^ 64)) parts.0 in
    let below = ltb-true (digits_value 10 ds) (2 ^ 64) tests.1 in
    let digits = numeral_digits ds tests.0 in
    (sym (decimal-digits_value own ds digits.0 digits.1 (numeral_first ds tests.0) below) ∙ ap decimal parts.1, omega (arith, below, parts.1))

pub within_spelled : (least most n : ℕ) → n < 2 ^ 64 → (nat_le least n && nat_le n most) ≡ true → number_within least most (decimal n) ≡ Some n
unfolding number_within
within_spelled least most n h test = rw (number_spelled n h, test) refl

pub within_parts : (least most : ℕ) (ds : List ℕ) (n : ℕ) → number_within least most ds ≡ Some n → (ds ≡ decimal n) × (n < 2 ^ 64) × ((nat_le least n && nat_le n most) ≡ true)
unfolding number_within
within_parts least most ds n e =
    let bound = bind_ok (number_of ds) (λ k. cond (nat_le least k && nat_le k most) (Some k) None) n e in
    let test = cond_some (nat_le least bound.0 && nat_le bound.0 most) bound.0 n bound.2 in
    let number = number_parts ds bound.0 bound.1 in
    (number.0 ∙ ap decimal test.1, omega (arith, number.1, test.1), subst (λ k. (nat_le least k && nat_le k most) ≡ true) test.1 test.0)

pub name_spelled : (name : List ℕ) → IsTrue (is_name name) → name_of name ≡ Some name
unfolding name_of
name_spelled name h = rw h refl

pub name_parts : (word name : List ℕ) → name_of word ≡ Some name → (word ≡ name) × IsTrue (is_name name)
unfolding name_of
name_parts word name e =
    let parts = cond_some (is_name word) word name e in
    (parts.1, subst (λ w. IsTrue (is_name w)) parts.1 parts.0)

pub payload_spelled : (payload : List ℕ) → is_payload payload ≡ true → payload_of (codes "'" ++ (payload ++ codes "'")) ≡ Some payload
unfolding payload_of
payload_spelled payload h = rw (after_spelled (codes "'") (payload ++ codes "'"), before_spelled payload (codes "'"), h) refl

pub payload_parts : (quoted payload : List ℕ) → payload_of quoted ≡ Some payload → (quoted ≡ codes "'" ++ (payload ++ codes "'")) × (is_payload payload ≡ true)
unfolding payload_of
payload_parts quoted payload e =
    let tested = λ (p : List ℕ). cond (is_payload p) (Some p) None in
    let rest = bind_ok (after (codes "'") quoted) (λ r. before (codes "'") r >>= tested) payload e in
    let inside = bind_ok (before (codes "'") rest.0) tested payload rest.2 in
    let test = cond_some (is_payload inside.0) inside.0 payload inside.2 in (
      after_parts (codes "'") quoted rest.0 rest.1 ∙ ap (λ l. codes "'" ++ l) (before_parts (codes "'") rest.0 inside.0 inside.1)
          ∙ ap (λ l. codes "'" ++ (l ++ codes "'")) test.1,
      subst (λ p. is_payload p ≡ true) test.1 test.0,
    )
