-- How a line is taken apart, from the left. That this reads the lines of the language and no others is a law.
use Rattle.std.specs.Prelude.{ℕ, ◌+◌, ◌-◌, ◌^◌, ◌==◌, ◌&&◌, ◌||◌, Bool, false, not, nat_lt, nat_le, if◌then◌else◌, List, [], ◌∷◌, length, take, drop, codes, bytes_eq, Option, Some, None, option_map}
use Rattle.std.specs.List.{list_all, position}
use Rattle.std.specs.Str.Parse.{digits_value}
use Rattle.spec_file.specs.Catalog.{is_name}
use Rattle.spec_script.specs.Lines.{is_payload}
use Rattle.spec_script.specs.declared.limits.TheConstants.{MOST_WORKERS, USUAL_WORKERS, MOST_TURNS}
use Rattle.spec_script.specs.declared.statement.Statement.{Statement}
use Rattle.spec_script.specs.declared.statement.Statement.TheVariants.{Begin, Commit, Rollback, CreateHeap, Drop, Insert, Count, Select, Check}

infixl 10 ◌>>=◌
abbrev pub ◌>>=◌ : {A B : Type 0} → Option A → (A → Option B) → Option B
(Some x) >>= f = f x
None >>= f = None

-- what follows the front
unfoldable pub after : List ℕ → List ℕ → Option (List ℕ)
after front line = if bytes_eq (take (length front) line) front then Some (drop (length front) line) else None

-- what stands before the back
unfoldable pub before : List ℕ → List ℕ → Option (List ℕ)
before back line =
    if bytes_eq (drop (length line - length back) line) back then Some (take (length line - length back) line) else None

abbrev pub is_space : ℕ → Bool
is_space b = b == 32

-- what stands before the first space, and behind it
unfoldable pub cut_at_space : List ℕ → Option (List ℕ × List ℕ)
cut_at_space line = option_map (λ i. (take i line, drop (i + 1) line)) (position is_space line)

abbrev pub are_digits : List ℕ → Bool
are_digits digits = list_all (λ b. nat_le 48 b && nat_le b 57) digits

-- digits without leading zeros
abbrev pub is_numeral : List ℕ → Bool
is_numeral [] = false
is_numeral (d ∷ ds) = (not (d == 48) || (length ds == 0)) && are_digits (d ∷ ds)

-- the number below 2^64 that has these digits
unfoldable pub number_of : List ℕ → Option ℕ
number_of digits = if is_numeral digits && nat_lt (digits_value 10 digits) (2 ^ 64) then Some (digits_value 10 digits) else None

-- the number from `least` to `most` that has these digits
unfoldable pub number_within : ℕ → ℕ → List ℕ → Option ℕ
number_within least most digits = number_of digits >>= λ n. if nat_le least n && nat_le n most then Some n else None

unfoldable pub name_of : List ℕ → Option (List ℕ)
name_of word = if is_name word then Some word else None

-- a payload in its quotes
unfoldable pub payload_of : List ℕ → Option (List ℕ)
payload_of quoted =
    after (codes "'") quoted >>= λ rest. before (codes "'") rest >>= λ payload. if is_payload payload then Some payload else None

-- table, key and payload of a row
unfoldable pub row_of : List ℕ → Option (List ℕ × ℕ × List ℕ)
row_of words =
    cut_at_space words >>= λ first. cut_at_space first.1 >>= λ second.
    name_of first.0 >>= λ table. number_of second.0 >>= λ key. payload_of second.1 >>= λ payload. Some (table, key, payload)

unfoldable pub turns_of : ℕ → List ℕ → Option (ℕ × ℕ)
turns_of sessions line =
    cut_at_space line >>= λ words. number_within 1 sessions words.0 >>= λ session.
    number_within 1 MOST_TURNS words.1 >>= λ count. Some (session, count)

-- a statement of one line alone
unfoldable pub keyword_of : List ℕ → Option Statement
keyword_of line =
    if bytes_eq line (codes "BEGIN") then Some Begin
    else (if bytes_eq line (codes "COMMIT") then Some Commit
    else (if bytes_eq line (codes "ROLLBACK") then Some Rollback
    else (if bytes_eq line (codes "DBCC CHECKDB") then Some (Check USUAL_WORKERS) else None)))

unfoldable pub create_of : List ℕ → Option Statement
create_of word = option_map (λ table. CreateHeap table) (name_of word)

unfoldable pub drop_of : List ℕ → Option Statement
drop_of word = option_map (λ table. Drop table) (name_of word)

unfoldable pub insert_of : List ℕ → Option Statement
insert_of words = option_map (λ row. Insert row.0 row.1 row.2) (row_of words)

unfoldable pub count_of : List ℕ → Option Statement
count_of word = option_map (λ table. Count table) (name_of word)

-- table and key
unfoldable pub select_of : List ℕ → Option Statement
select_of words =
    cut_at_space words >>= λ parts. name_of parts.0 >>= λ table. number_of parts.1 >>= λ key. Some (Select table key)

unfoldable pub check_of : List ℕ → Option Statement
check_of digits = option_map (λ workers. Check workers) (number_within 1 MOST_WORKERS digits)

-- what the rest says where there is one, else the other
abbrev pub said : {A : Type 0} → Option A → (A → Option Statement) → Option Statement → Option Statement
said (Some x) f other = f x
said None f other = other

-- a statement that isn't about rows
unfoldable pub other_of : List ℕ → Option Statement
other_of line =
    said (after (codes "CREATE HEAP ") line) create_of
    (said (after (codes "DROP ") line) drop_of
    (said (after (codes "DBCC CHECKDB WITH MAXDOP = ") line) check_of (keyword_of line)))

-- the statement of a line
unfoldable pub statement_of : List ℕ → Option Statement
statement_of line =
    said (after (codes "INSERT ") line) insert_of
    (said (after (codes "COUNT ") line) count_of
    (said (after (codes "SELECT ") line) select_of (other_of line)))
