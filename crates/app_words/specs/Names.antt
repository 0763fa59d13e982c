-- The files that the words of a command name.
use Rattle.std.specs.Prelude.{◌≡◌, ◌≢◌, ℕ, List, [], map, string_bytes, None}
use Rattle.app_words.specs.declared.command.Command.{Command}
use Rattle.app_words.specs.declared.names.Names.{Names}
use Rattle.app_words.specs.Words.{first_wrong, Asks, volume_name, log_name, source_names}

pub record AreNames (words : List (List ℕ)) (names : Names) : Type 0 where
  pub volume : (command : Command) → Asks command words → string_bytes names.volume ≡ volume_name words
  pub log : (command : Command) → Asks command words → string_bytes names.log ≡ log_name command words
  pub sources : (command : Command) → Asks command words → map string_bytes names.sources.items ≡ source_names command words
  pub none : first_wrong words ≢ None → (string_bytes names.volume ≡ []) × (string_bytes names.log ≡ []) × (names.sources.items ≡ [])
