-- The lines of the script language (this project's own): words parted by one space.
use Rattle.std.specs.Prelude.{◌≡◌, ◌⊎◌, ℕ, ◌^◌, ◌==◌, ◌&&◌, Bool, IsTrue, not, true, nat_lt, nat_le, List, ◌++◌, length, codes, decimal}
use Rattle.std.specs.List.{list_all}
use Rattle.spec_file.specs.Catalog.{is_name}
use Rattle.spec_file.specs.declared.sizes.TheConstants.{PAYLOAD_LIMIT}
use Rattle.spec_script.specs.declared.limits.TheConstants.{MOST_WORKERS, USUAL_WORKERS, MOST_TURNS}
use Rattle.spec_script.specs.declared.statement.Statement.{Statement}
use Rattle.spec_script.specs.declared.statement.Statement.TheVariants.{Begin, Commit, Rollback, CreateHeap, Drop, Insert, Count, Select, Check}

-- a byte from 0x20 to 0x7E
abbrev pub is_printable : ℕ → Bool
is_printable b = nat_le 32 b && nat_le b 126

-- a printable byte other than `'`
abbrev pub is_payload_byte : ℕ → Bool
is_payload_byte b = is_printable b && not (b == 39)

-- few enough of these
abbrev pub is_payload : List ℕ → Bool
is_payload payload = list_all is_payload_byte payload && nat_le (length payload) PAYLOAD_LIMIT

-- a statement that a line can have: a name of the catalog, a key of 64 bits, some workers
abbrev pub is_statement : Statement → Bool
is_statement Begin = true
is_statement Commit = true
is_statement Rollback = true
is_statement (CreateHeap table) = is_name table
is_statement (Drop table) = is_name table
is_statement (Insert table key payload) = is_name table && nat_lt key (2 ^ 64) && is_payload payload
is_statement (Count table) = is_name table
is_statement (Select table key) = is_name table && nat_lt key (2 ^ 64)
is_statement (Check workers) = nat_le 1 workers && nat_le workers MOST_WORKERS

-- the line of a statement; numbers are decimal without leading zeros
abbrev pub statement_line : Statement → List ℕ
statement_line Begin = codes "BEGIN"
statement_line Commit = codes "COMMIT"
statement_line Rollback = codes "ROLLBACK"
statement_line (CreateHeap table) = codes "CREATE HEAP " ++ table
statement_line (Drop table) = codes "DROP " ++ table
statement_line (Insert table key payload) =
    codes "INSERT " ++ (table ++ (codes " " ++ (decimal key ++ (codes " '" ++ (payload ++ codes "'")))))
statement_line (Count table) = codes "COUNT " ++ table
statement_line (Select table key) = codes "SELECT " ++ (table ++ (codes " " ++ decimal key))
statement_line (Check workers) = codes "DBCC CHECKDB WITH MAXDOP = " ++ decimal workers

-- the line is that of the statement; a check whose workers aren't named has the usual number
pub record IsStatementLine (line : List ℕ) (statement : Statement) : Type 0 where
  pub allowed : IsTrue (is_statement statement)
  pub spelled : (line ≡ statement_line statement) ⊎ ((line ≡ codes "DBCC CHECKDB") × (statement ≡ Check USUAL_WORKERS))

-- the line of a schedule: a session and how many turns it has
abbrev pub turns_line : ℕ × ℕ → List ℕ
turns_line turns = decimal turns.0 ++ (codes " " ++ decimal turns.1)

-- a session of so many, and some turns
pub record IsTurnsLine (sessions : ℕ) (line : List ℕ) (turns : ℕ × ℕ) : Type 0 where
  pub session : IsTrue (nat_le 1 turns.0 && nat_le turns.0 sessions)
  pub count : IsTrue (nat_le 1 turns.1 && nat_le turns.1 MOST_TURNS)
  pub spelled : line ≡ turns_line turns
