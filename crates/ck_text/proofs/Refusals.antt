-- The line of a refusal that names an object.
use Rattle.std.specs.Prelude.{◌≡◌, Bool, ◌++◌, codes, decimal, true}
use Rattle.std.proofs.Common.{ap, sym, ◌∙◌, append_assoc, cond}
use Rattle.spec_script.specs.Replies.{is_named, place_text, refusal_line}
use Rattle.spec_script.specs.declared.reply.Refusal.{Refusal}

pub named_line : (refusal : Refusal) → is_named refusal.number ≡ true
    → refusal_line refusal ≡ codes "MSG " ++ decimal refusal.number ++ codes " " ++ refusal.name ++ codes "\n"
unfolding refusal_line
named_line refusal h =
    ap (λ (t : Bool). codes "MSG " ++ decimal refusal.number ++ cond t (codes " " ++ refusal.name) (place_text refusal) ++ codes "\n") h
    ∙ ap (λ l. l ++ codes "\n") (sym (append_assoc (codes "MSG " ++ decimal refusal.number) (codes " ") refusal.name))
