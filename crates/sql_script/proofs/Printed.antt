-- Statements that are printed are read again.
use Rattle.std.specs.Prelude.{◌≡◌, ℕ, zero, suc, ◌-◌, ◌<◌, ◌^◌, ◌==◌, ◌&&◌, ◌||◌, Bool, IsTrue, not, nat_lt, nat_le, List, [], ◌∷◌, ◌++◌, length, take, drop, get_or, map, flat_map, codes, decimal, slice_index, true, false}
use Rattle.std.specs.List.{All, list_all, slice_split}
use Rattle.std.specs.Str.Lines.{lines, lines_of_parts, strip_carriage_return}
use Rattle.std.proofs.Common.{refl, ap, sym, ◌∙◌, arith, cond, append_assoc, subst, inl}
use Rattle.std.proofs.lemmas.Bool.{and_parts, and_from, ne_eqb, ltb-true, leb-true}
use Rattle.std.proofs.lemmas.Bool.Decides.{nat_tests}
use Rattle.std.proofs.lemmas.List.Folds.{list_all-append}
use Rattle.std.proofs.lemmas.List.Splits.{slice_split_at, length-slice_split}
use Rattle.std.proofs.lemmas.Fmt.{digits_decimal}
use Rattle.spec_file.specs.Catalog.{is_name, is_name_byte}
use Rattle.spec_script.specs.Lines.{is_printable, is_payload, is_payload_byte, is_statement, statement_line, IsStatementLine}
use Rattle.spec_script.specs.Texts.{AreLines, kept, is_skipped}
use Rattle.spec_script.specs.declared.statement.Statement.{Statement}
use Rattle.spec_script.specs.declared.statement.Statement.TheVariants.{Begin, Commit, Rollback, CreateHeap, Drop, Insert, Count, Select, Check}
use Rattle.sql_script.specs.Laws.{IsReadAgain, printed}
use Rattle.spec_file.proofs.NameLaws.{name_bytes}
use Rattle.sql_script.proofs.Numbers.{own}
use Rattle.sql_script.proofs.FirstLines.{first_of_parts}
use Rattle.sql_script.proofs.Figures.{weaken}

-- each byte of a plain line prints
plain_at : (l : List ℕ) → list_all is_printable l ≡ true → (k d : ℕ) → k < length l → is_printable (get_or l k d) ≡ true
plain_at [] h k d inside = absurd (omega (arith, inside))
plain_at (b ∷ l) h zero d inside = (and_parts (is_printable b) (list_all is_printable l) h).0
plain_at (b ∷ l) h (suc k) d inside = plain_at l (and_parts (is_printable b) (list_all is_printable l) h).1 k d (omega (arith, inside))

plain_both : (xs ys : List ℕ) → list_all is_printable xs ≡ true → list_all is_printable ys ≡ true → list_all is_printable (xs ++ ys) ≡ true
plain_both xs ys p q = list_all-append is_printable xs ys ∙ and_from (list_all is_printable xs) (list_all is_printable ys) p q

digit_prints : (b : ℕ) → (nat_le 48 b && nat_le b 57) ≡ true → is_printable b ≡ true
digit_prints b h = grind (arith, nat_tests)

name_byte_prints : (b : ℕ) → is_name_byte b ≡ true → is_printable b ≡ true
name_byte_prints b h = grind (arith, nat_tests)

payload_byte_prints : (b : ℕ) → is_payload_byte b ≡ true → is_printable b ≡ true
payload_byte_prints b h = (and_parts (is_printable b) (not (b == 39)) h).0

plain_decimal : (n : ℕ) → n < 2 ^ 64 → list_all is_printable (decimal n) ≡ true
plain_decimal n h = weaken (λ b. nat_le 48 b && nat_le b 57) is_printable digit_prints (decimal n) (digits_decimal own n h)

plain_name : (name : List ℕ) → IsTrue (is_name name) → list_all is_printable name ≡ true
plain_name name h = weaken is_name_byte is_printable name_byte_prints name (name_bytes name h)

plain_payload : (payload : List ℕ) → is_payload payload ≡ true → list_all is_printable payload ≡ true
plain_payload payload h =
    weaken is_payload_byte is_printable payload_byte_prints payload (and_parts (list_all is_payload_byte payload) (nat_le (length payload) 1013) h).0

-- a statement's line has printable bytes alone
plain_line : (s : Statement) → IsTrue (is_statement s) → list_all is_printable (statement_line s) ≡ true
plain_line Begin h = refl
plain_line Commit h = refl
plain_line Rollback h = refl
plain_line (CreateHeap table) h = plain_name table h
plain_line (Drop table) h = plain_name table h
plain_line (Insert table key payload) h =
    let parts = and_parts (is_name table && nat_lt key (2 ^ 64)) (is_payload payload) h in
    let front = and_parts (is_name table) (nat_lt key (2 ^ 64)) parts.0 in
    let quoted = plain_both payload (codes "'") (plain_payload payload parts.1) refl in
    let numbered = plain_both (decimal key) (codes " '" ++ (payload ++ codes "'")) (plain_decimal key (ltb-true key (2 ^ 64) front.1)) quoted in
    plain_both table (codes " " ++ (decimal key ++ (codes " '" ++ (payload ++ codes "'")))) (plain_name table front.0) numbered
plain_line (Count table) h = plain_name table h
plain_line (Select table key) h =
    let parts = and_parts (is_name table) (nat_lt key (2 ^ 64)) h in
    plain_both table (codes " " ++ decimal key) (plain_name table parts.0) (plain_decimal key (ltb-true key (2 ^ 64) parts.1))
plain_line (Check workers) h = plain_decimal workers (omega (arith, leb-true workers 16 (and_parts (nat_le 1 workers) (nat_le workers 16) h).1))

-- a line that begins with a letter is not skipped
begins_shown : (b : ℕ) (l : List ℕ) → (length (b ∷ l) == 0) ≡ false
begins_shown b l = ne_eqb (length (b ∷ l)) 0 (λ e. omega (arith, e))

shown_line : (s : Statement) → not (is_skipped (statement_line s)) ≡ true
shown_line Begin = refl
shown_line Commit = refl
shown_line Rollback = refl
shown_line (CreateHeap table) = ap (λ (t : Bool). not (t || false)) (begins_shown 67 (drop 1 (statement_line (CreateHeap table))))
shown_line (Drop table) = ap (λ (t : Bool). not (t || false)) (begins_shown 68 (drop 1 (statement_line (Drop table))))
shown_line (Insert table key payload) = ap (λ (t : Bool). not (t || false)) (begins_shown 73 (drop 1 (statement_line (Insert table key payload))))
shown_line (Count table) = ap (λ (t : Bool). not (t || false)) (begins_shown 67 (drop 1 (statement_line (Count table))))
shown_line (Select table key) = ap (λ (t : Bool). not (t || false)) (begins_shown 83 (drop 1 (statement_line (Select table key))))
shown_line (Check workers) = ap (λ (t : Bool). not (t || false)) (begins_shown 68 (drop 1 (statement_line (Check workers))))

prints_no_end : (b : ℕ) → is_printable b ≡ true → ((b == 10) ≡ false) × ((b == 13) ≡ false)
prints_no_end b h = let low = leb-true 32 b (and_parts (nat_le 32 b) (nat_le b 126) h).0 in
    (ne_eqb b 10 (λ e. omega (arith, low, e)), ne_eqb b 13 (λ e. omega (arith, low, e)))

plain_has_no_end : (l : List ℕ) → list_all is_printable l ≡ true → All (λ b. (b == 10) ≡ false) l
plain_has_no_end l h k d inside = (prints_no_end (get_or l k d) (plain_at l h k d inside)).0

-- a plain line has no CR at its end
plain_stays : (l : List ℕ) → list_all is_printable l ≡ true → strip_carriage_return l ≡ l
plain_stays [] h = refl
plain_stays (b ∷ l) h =
    let last = prints_no_end (slice_index (b ∷ l) (length (b ∷ l) - 1)) (plain_at (b ∷ l) h (length (b ∷ l) - 1) 0 (omega arith)) in
    ap (λ (t : Bool). cond t (take (length (b ∷ l) - 1) (b ∷ l)) (b ∷ l)) last.1

-- a plain line before an LF is the first line
plain_first : (l rest : List ℕ) → list_all is_printable l ≡ true → lines (l ++ 10 ∷ rest) ≡ l ∷ lines rest
plain_first l rest h =
    let is_end = λ (b : ℕ). b == 10 in
    ap lines_of_parts (slice_split_at is_end l 10 rest (plain_has_no_end l h) refl)
    ∙ first_of_parts l (slice_split is_end rest) (omega (arith, length-slice_split is_end rest))
    ∙ ap (λ x. x ∷ lines rest) (plain_stays l h)

lines_printed : (ss : List Statement) → list_all is_statement ss ≡ true → lines (flat_map printed ss) ≡ map statement_line ss
lines_printed [] h = refl
lines_printed (s ∷ ss) h =
    let parts = and_parts (is_statement s) (list_all is_statement ss) h in
    ap lines (append_assoc (statement_line s) (codes "\n") (flat_map printed ss))
    ∙ plain_first (statement_line s) (flat_map printed ss) (plain_line s parts.0)
    ∙ ap (λ l. statement_line s ∷ l) (lines_printed ss parts.1)

kept_printed : (ss : List Statement) → kept (map statement_line ss) ≡ map statement_line ss
kept_printed [] = refl
kept_printed (s ∷ ss) =
    ap (λ (t : Bool). cond t (statement_line s ∷ kept (map statement_line ss)) (kept (map statement_line ss))) (shown_line s)
    ∙ ap (λ l. statement_line s ∷ l) (kept_printed ss)

are_printed : (ss : List Statement) → list_all is_statement ss ≡ true → AreLines IsStatementLine (map statement_line ss) ss
are_printed [] h = tt
are_printed (s ∷ ss) h =
    let parts = and_parts (is_statement s) (list_all is_statement ss) h in
    (record { allowed = parts.0; spelled = inl refl }, are_printed ss parts.1)

pub read_again : (ss : List Statement) → IsReadAgain ss
read_again ss h few short = record {
  size = short;
  said = subst (λ l. AreLines IsStatementLine l ss) (sym (ap kept (lines_printed ss h) ∙ kept_printed ss)) (are_printed ss h);
  count = few;
}
