use Rattle.std.proofs.Common.{map, string_bytes, subst}
use Rattle.std.proofs.lemmas.List.{length-map}
use Rattle.app_words.specs.Words.{Asks}
use Rattle.app_words.proofs.Counts.{sources_count}
use Rattle.app_words.proofs.names.names_of.Goals as goal

pub returns-in_ok-sources_of-in-Ok-Replay-clause-some : goal.returns-in_ok-sources_of-in-Ok-Replay-clause-some
returns-in_ok-sources_of-in-Ok-Replay-clause-some c =
    let names = c.in_ok-sources_of-in-Ok-Replay.field-0.items in
    λ asks. (sources_count c.args.words.now (map string_bytes names) _ asks (length-map names string_bytes) c.in_ok-sources_of-in-Ok-Replay.ensures).0

pub returns-in_ok-sources_of-in-Ok-Replay-clause-few : goal.returns-in_ok-sources_of-in-Ok-Replay-clause-few
returns-in_ok-sources_of-in-Ok-Replay-clause-few c =
    let names = c.in_ok-sources_of-in-Ok-Replay.field-0.items in
    (sources_count c.args.words.now (map string_bytes names) _ (subst (λ command. Asks command c.args.words.now) c.in-Ok-Replay.field-0-is c.in-Ok-Replay.ensures)
    (length-map names string_bytes) c.in_ok-sources_of-in-Ok-Replay.ensures).1
