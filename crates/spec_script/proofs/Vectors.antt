-- Vectors of the script language and of replies.
use Rattle.std.specs.Prelude.{◌≡◌, [], ◌∷◌, codes, Some, refl}
use Rattle.std.specs.Str.Lines.{lines}
use Rattle.std.proofs.Common.{arith, inl, inr}
use Rattle.std.proofs.lemmas.Fmt.{decimal_digit}
use Rattle.spec_file.specs.declared.data.Resource.TheVariants.{Extent}
use Rattle.spec_script.specs.declared.statement.Statement.TheVariants.{Begin, Commit, Insert, Select, Check}
use Rattle.spec_script.specs.declared.reply.Reply.TheVariants.{Done}
use Rattle.spec_script.specs.Lines.{IsStatementLine}
use Rattle.spec_script.specs.Texts.{IsScript, kept}
use Rattle.spec_script.specs.Replies.{payload_line, place_of_reply, holder_text, reply_text}

insert_vector : IsStatementLine (codes "INSERT t 1 'it is'") (Insert (codes "t") 1 (codes "it is"))
insert_vector = record { allowed = refl; spelled = inl (rw (decimal_digit 1 (omega arith)) refl) }

select_vector : IsStatementLine (codes "SELECT t 1") (Select (codes "t") 1)
select_vector = record { allowed = refl; spelled = inl (rw (decimal_digit 1 (omega arith)) refl) }

check_vector : IsStatementLine (codes "DBCC CHECKDB") (Check 4)
check_vector = record { allowed = refl; spelled = inr (refl, refl) }

-- a CR before LF, an empty line, a note, and a last line without its LF
lines_vector : kept (lines (codes "BEGIN\r\n\n-- note\nCOMMIT")) ≡ codes "BEGIN" ∷ codes "COMMIT" ∷ []
lines_vector = refl

script_vector : IsScript (codes "BEGIN\r\n\n-- note\nCOMMIT") (Begin ∷ Commit ∷ [])
script_vector = record {
  size = omega arith;
  said = (record { allowed = refl; spelled = inl refl }, (record { allowed = refl; spelled = inl refl }, tt));
  count = omega arith;
}

payload_vector : payload_line (39 ∷ 92 ∷ 10 ∷ 255 ∷ 126 ∷ []) ≡ codes "  '\\27\\5c\\0a\\ff~'\n"
unfolding payload_line
payload_vector = refl

-- the second session's first statement is done
done_vector : reply_text 2 1 Done ≡ codes "2.1 OK\n"
unfolding reply_text place_of_reply
done_vector = rw (decimal_digit 2 (omega arith), decimal_digit 1 (omega arith)) refl

holder_vector : holder_text (Some (Extent (record { 0 = 2 }))) 8 ≡ codes " EXTENT 2 TRAN 8"
holder_vector = rw (decimal_digit 2 (omega arith), decimal_digit 8 (omega arith)) refl
