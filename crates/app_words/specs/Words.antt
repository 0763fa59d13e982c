-- The words of the commands (this project's own). `check` names a data file. `page` names a data file and the number
-- of a page. `replay` names a data file, a log, a schedule, and one to sixteen scripts.
use Rattle.std.specs.Prelude.{◌≡◌, ◌⊎◌, ℕ, zero, suc, ◌+◌, ◌==◌, Bool, false, not, nat_lt, if◌then◌else◌, is_some, List, [], ◌∷◌, drop, Option, Some, None, option_map, codes, bytes_eq, slice_get, slice_index_or, unwrap_or}
use Rattle.sql_script.specs.Reading.{number_within}
use Rattle.spec_file.specs.declared.data.PageNo.{PageNo}
use Rattle.app_words.specs.declared.command.Command.{Command}
use Rattle.app_words.specs.declared.command.Command.TheVariants.{Check, ShowPage, Replay}
use Rattle.app_words.specs.declared.command.Verb.{Verb}
use Rattle.app_words.specs.declared.command.Verb.TheVariants as verb

-- a word that begins with `-` or is empty names no file
abbrev pub names_file : List ℕ → Bool
names_file [] = false
names_file (c ∷ rest) = not (c == 45)

-- a word is there and names a file
abbrev pub is_file : Option (List ℕ) → Bool
is_file None = false
is_file (Some word) = names_file word

-- a word is there and names none
abbrev pub is_no_file : Option (List ℕ) → Bool
is_no_file None = false
is_no_file (Some word) = not (names_file word)

-- the number below 2^32 that the word is, in decimal without leading zeros
abbrev pub page_of : List ℕ → Option ℕ
page_of word = number_within 0 4294967295 word

-- a word is there and is such a number
abbrev pub is_page : Option (List ℕ) → Bool
is_page None = false
is_page (Some word) = is_some (page_of word)

-- what the first word asks to be done
abbrev pub verb_of : Option (List ℕ) → Option Verb
verb_of None = None
verb_of (Some word) =
    if bytes_eq word (codes "check") then Some verb.Check
    else (if bytes_eq word (codes "page") then Some verb.Page
    else (if bytes_eq word (codes "replay") then Some verb.Replay else None))

-- the word at a place behind the first, counted from 0, is wrong: one that must be there and names a file, or a page,
-- isn't or doesn't, one that may be there names none, or there is one too many
abbrev pub is_wrong_at : Verb → List (List ℕ) → ℕ → Bool
is_wrong_at verb.Check words i = if nat_lt i 2 then not (is_file (slice_get words i)) else is_some (slice_get words i)
is_wrong_at verb.Page words i =
    if nat_lt i 2 then not (is_file (slice_get words i))
    else (if nat_lt i 3 then not (is_page (slice_get words i)) else is_some (slice_get words i))
is_wrong_at verb.Replay words i =
    if nat_lt i 5 then not (is_file (slice_get words i))
    else (if nat_lt i 20 then is_no_file (slice_get words i) else is_some (slice_get words i))

-- how many places are looked at behind the first
abbrev pub places_of : Verb → ℕ
places_of verb.Check = 2
places_of verb.Page = 3
places_of verb.Replay = 20

-- the least of n numbers from k on that passes
abbrev pub least : (ℕ → Bool) → ℕ → ℕ → Option ℕ
least passes zero k = None
least passes (suc n) k = if passes k then Some k else least passes n (k + 1)

-- a place that is counted from 1
abbrev pub from_one : Option ℕ → Option ℕ
from_one None = None
from_one (Some i) = Some (i + 1)

abbrev pub wrong_behind : List (List ℕ) → Option Verb → Option ℕ
wrong_behind words None = Some 1
wrong_behind words (Some verb) = from_one (least (is_wrong_at verb words) (places_of verb) 1)

-- the place of the first wrong or missing word, from 1
abbrev pub first_wrong : List (List ℕ) → Option ℕ
first_wrong words = wrong_behind words (verb_of (slice_get words 0))

-- the number of a page that the word is, where it is there and is one
abbrev pub page_or_none : Option (List ℕ) → ℕ
page_or_none None = 0
page_or_none (Some word) = unwrap_or (page_of word) 0

abbrev pub page_asked : List (List ℕ) → ℕ
page_asked words = page_or_none (slice_get words 2)

-- the command that right words ask for
abbrev pub command_of : List (List ℕ) → Verb → Command
command_of words verb.Check = Check
command_of words verb.Page = ShowPage (record { 0 = page_asked words })
command_of words verb.Replay = Replay

-- the words ask for this command
abbrev pub Asks : Command → List (List ℕ) → Type 0
Asks command words = (option_map (command_of words) (verb_of (slice_get words 0)) ≡ Some command) × (first_wrong words ≡ None)

-- the words ask for something of a still file
abbrev pub AsksStill : List (List ℕ) → Type 0
AsksStill words = Asks Check words ⊎ ((p : PageNo) × Asks (ShowPage p) words)

-- the files that right words name
abbrev pub volume_name : List (List ℕ) → List ℕ
volume_name words = slice_index_or words 1 []

abbrev pub log_name : Command → List (List ℕ) → List ℕ
log_name Check words = []
log_name (ShowPage p) words = []
log_name Replay words = slice_index_or words 2 []

abbrev pub source_names : Command → List (List ℕ) → List (List ℕ)
source_names Check words = []
source_names (ShowPage p) words = []
source_names Replay words = drop 3 words
