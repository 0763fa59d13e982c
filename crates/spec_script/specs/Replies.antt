-- The bytes of replies (all texts are this project's own).
use Rattle.std.specs.Prelude.{ℕ, ◌+◌, ◌/◌, ◌%◌, ◌==◌, ◌&&◌, ◌||◌, Bool, not, nat_lt, if◌then◌else◌, List, [], ◌∷◌, ◌++◌, codes, decimal, flat_map, Option, Some, None}
use Rattle.spec_file.specs.declared.data.Resource.{Resource}
use Rattle.spec_file.specs.declared.data.Resource.TheVariants.{Catalog, Table, Extent, Byte, Page}
use Rattle.spec_check.specs.Text.{report_text}
use Rattle.spec_script.specs.declared.limits.TheConstants.{NO_TABLE, SAME_NAME, SAME_KEY, HELD, READ_FAULT, BAD_PAGE}
use Rattle.spec_script.specs.declared.reply.Reply.{Reply}
use Rattle.spec_script.specs.declared.reply.Reply.TheVariants.{Done, Rows, Report, Terminated, Refused}
use Rattle.spec_script.specs.declared.reply.Cause.{Cause}
use Rattle.spec_script.specs.declared.reply.Cause.TheVariants.{Fault, Damaged}
use Rattle.spec_script.specs.declared.reply.Refusal.{Refusal}
use Rattle.spec_script.specs.Lines.{is_printable}

-- a digit of base 16, in lower case
abbrev pub hex_digit : ℕ → ℕ
hex_digit n = if nat_lt n 10 then 48 + n else 87 + n

-- these bytes stand for themselves
abbrev pub is_plain : ℕ → Bool
is_plain b = is_printable b && not ((b == 39) || (b == 92))

-- a byte of a payload: printable ones stand for themselves, but for `'` and `\`; others are `\` and two digits
abbrev pub shown_byte : ℕ → List ℕ
shown_byte b =
    if is_plain b then b ∷ [] else 92 ∷ hex_digit (b / 16) ∷ hex_digit (b % 16) ∷ []

-- a line for each payload that was found
unfoldable pub payload_line : List ℕ → List ℕ
payload_line payload = codes "  '" ++ flat_map shown_byte payload ++ codes "'\n"

-- what is held
abbrev pub resource_text : Resource → List ℕ
resource_text Catalog = codes "CATALOG"
resource_text (Table o) = codes "TABLE " ++ decimal o.0
resource_text (Extent e) = codes "EXTENT " ++ decimal e.0
resource_text (Byte p) = codes "BYTE " ++ decimal p.0
resource_text (Page p) = codes "PAGE " ++ decimal p.0

-- a resource and its holder
abbrev pub holder_text : Option Resource → ℕ → List ℕ
holder_text None by = []
holder_text (Some r) by = codes " " ++ resource_text r ++ codes " TRAN " ++ decimal by

-- these refusals name an object
abbrev pub is_named : ℕ → Bool
is_named number = (number == NO_TABLE) || (number == SAME_NAME)

-- the key, the resource or the page of a refusal
abbrev pub place_text : Refusal → List ℕ
place_text refusal =
    if refusal.number == SAME_KEY then codes " " ++ decimal refusal.key
    else (if refusal.number == HELD then holder_text refusal.resource refusal.by.0
    else (if (refusal.number == READ_FAULT) || (refusal.number == BAD_PAGE) then codes " PAGE " ++ decimal refusal.page.0 else []))

-- what a refusal says behind its number
abbrev pub detail_text : Refusal → List ℕ
detail_text refusal = if is_named refusal.number then codes " " ++ refusal.name else place_text refusal

unfoldable pub refusal_line : Refusal → List ℕ
refusal_line refusal = codes "MSG " ++ decimal refusal.number ++ detail_text refusal ++ codes "\n"

unfoldable pub cause_line : Cause → List ℕ
cause_line (Fault p) = codes "MSG 8921 FAULT PAGE " ++ decimal p.0 ++ codes "\n"
cause_line (Damaged p) = codes "MSG 8921 DAMAGED PAGE " ++ decimal p.0 ++ codes "\n"

unfoldable pub rows_line : ℕ → List ℕ
rows_line count = codes "ROWS " ++ decimal count ++ codes "\n"

unfoldable pub lsn_line : ℕ → List ℕ
lsn_line lsn = codes "DBCC LSN " ++ decimal lsn ++ codes "\n"

-- what a reply says behind its session and statement
abbrev pub answer_text : Reply → List ℕ
answer_text Done = codes "OK\n"
answer_text (Rows count payloads) = rows_line count ++ flat_map payload_line payloads
answer_text (Report lsn report) = lsn_line lsn.0 ++ report_text report
answer_text (Terminated cause) = cause_line cause
answer_text (Refused refusal) = refusal_line refusal

-- the session and the statement of a reply, both counted from 1
unfoldable pub place_of_reply : ℕ → ℕ → List ℕ
place_of_reply session index = decimal session ++ codes "." ++ decimal index ++ codes " "

-- the reply to a statement of a session
unfoldable pub reply_text : ℕ → ℕ → Reply → List ℕ
reply_text session index reply = place_of_reply session index ++ answer_text reply

-- the replies of a session in order, from statement `index` on
abbrev pub session_text : ℕ → ℕ → List Reply → List ℕ
session_text session index [] = []
session_text session index (reply ∷ replies) = reply_text session index reply ++ session_text session (index + 1) replies

-- those of all sessions, session by session, from session `session` on
abbrev pub texts_from : ℕ → List (List Reply) → List ℕ
texts_from session [] = []
texts_from session (replies ∷ more) = session_text session 1 replies ++ texts_from (session + 1) more

-- the text of the replies of all sessions
abbrev pub text_of : List (List Reply) → List ℕ
text_of sessions = texts_from 1 sessions
