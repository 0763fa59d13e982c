-- The bytes of a log from those of its items.
use Rattle.std.proofs.Common.{◌≡◌, List, [], ◌∷◌, ◌++◌, reverse, flat_map, refl, ap, ◌∙◌, append-nil}
use Rattle.std.proofs.lemmas.Grind.{reverse_onto}
use Rattle.std.proofs.lemmas.List.Concat.{flat_map-append}
use Rattle.spec_log.specs.declared.item.Record.{Record}
use Rattle.spec_log.specs.Bytes.{item_bytes, log_bytes}

pub bytes_in_order : (log : List Record) → flat_map item_bytes (reverse log) ≡ log_bytes log
bytes_in_order [] = refl
bytes_in_order (x ∷ older) =
    ap (flat_map item_bytes) (reverse_onto older x []) ∙ flat_map-append item_bytes (reverse older) (x ∷ [])
    ∙ ap (λ l. l ++ (item_bytes x ++ [])) (bytes_in_order older) ∙ ap (λ l. log_bytes older ++ l) (append-nil (item_bytes x))
