-- The refusals (numbers are chosen after those of SQL Server; what each means is this project's own).
use Rattle.std.specs.Prelude.{ℕ, List, [], Some, None}
use Rattle.spec_file.specs.declared.data.Resource.{Resource}
use Rattle.spec_script.specs.declared.limits.TheConstants.{IS_OPEN, NOTHING_TO_COMMIT, NOTHING_TO_UNDO, NO_TABLE, SAME_NAME, TOO_MANY_TABLES, HELD, BAD_PAGE, NO_ROOM, LOG_FULL, NO_MEMORY}
use Rattle.spec_script.specs.declared.reply.Refusal.{Refusal}
use Rattle.spec_script.specs.Refusals.{plain_refusal}

-- BEGIN where a transaction is open; COMMIT and ROLLBACK where none is
abbrev pub is_open : Refusal
is_open = plain_refusal IS_OPEN

abbrev pub nothing_to_commit : Refusal
nothing_to_commit = plain_refusal NOTHING_TO_COMMIT

abbrev pub nothing_to_undo : Refusal
nothing_to_undo = plain_refusal NOTHING_TO_UNDO

-- no object has the name
abbrev pub no_table : List ℕ → Refusal
no_table name = record { number = NO_TABLE; name = name; key = 0; page = record { 0 = 0 }; resource = None; by = record { 0 = 0 } }

-- an object has the name already
abbrev pub same_name : List ℕ → Refusal
same_name name = record { number = SAME_NAME; name = name; key = 0; page = record { 0 = 0 }; resource = None; by = record { 0 = 0 } }

-- the catalog has no entry for one more table
abbrev pub too_many_tables : Refusal
too_many_tables = plain_refusal TOO_MANY_TABLES

-- transaction t holds the resource
abbrev pub held_by : Resource → ℕ → Refusal
held_by r t = record { number = HELD; name = []; key = 0; page = record { 0 = 0 }; resource = Some r; by = record { 0 = t } }

-- the page isn't what its place asks for
abbrev pub bad_page : ℕ → Refusal
bad_page p = record { number = BAD_PAGE; name = []; key = 0; page = record { 0 = p }; resource = None; by = record { 0 = 0 } }

-- no page is to be had
abbrev pub no_room : Refusal
no_room = plain_refusal NO_ROOM

-- a limit of the log is passed
abbrev pub log_full : Refusal
log_full = plain_refusal LOG_FULL

abbrev pub out_of_memory : Refusal
out_of_memory = plain_refusal NO_MEMORY
