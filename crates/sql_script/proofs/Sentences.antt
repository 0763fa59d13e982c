-- Lines and their statements: each line of the language is read into its statement, and no other line is read.
use Rattle.std.specs.Prelude.{◌≡◌, ℕ, ◌^◌, ◌<◌, ◌&&◌, ◌⊎◌, Bool, IsTrue, nat_lt, nat_le, List, ◌++◌, codes, decimal, bytes_eq, Option, Some, None, option_map, true, false}
use Rattle.std.proofs.Common.{refl, ap, sym, ◌∙◌, arith, cond, subst, inl, inr, ⊎_elim}
use Rattle.std.proofs.lemmas.Bool.{and_parts, and_from, lt-ltb, ltb-true, leb-true}
use Rattle.std.proofs.lemmas.Option.{none-some, same_Some}
use Rattle.std.proofs.lemmas.Slice.Eq.{bytes_eq-Decides}
use Rattle.spec_file.specs.Catalog.{is_name}
use Rattle.spec_script.specs.Lines.{is_payload, is_statement, statement_line, IsStatementLine, IsTurnsLine, turns_line}
use Rattle.spec_script.specs.declared.statement.Statement.{Statement}
use Rattle.spec_script.specs.declared.statement.Statement.TheVariants.{Begin, Commit, Rollback, CreateHeap, Drop, Insert, Count, Select, Check}
use Rattle.sql_script.specs.Reading.{◌>>=◌, after, cut_at_space, number_of, number_within, name_of, payload_of, row_of, create_of, drop_of, insert_of, count_of, select_of, check_of, keyword_of, said, other_of, statement_of, turns_of}
use Rattle.sql_script.specs.Stops.{Tells}
use Rattle.sql_script.proofs.Spelling.{bind_ok, map_ok, after_parts, cut_spelled, cut_parts}
use Rattle.sql_script.proofs.Figures.{decimal_no_space, name_no_space, number_spelled, number_parts, within_spelled, within_parts, name_spelled, name_parts, payload_spelled, payload_parts}

row_spelled : (table : List ℕ) (key : ℕ) (payload : List ℕ) → IsTrue (is_name table) → key < 2 ^ 64 → is_payload payload ≡ true
    → row_of (table ++ (codes " " ++ (decimal key ++ (codes " '" ++ (payload ++ codes "'"))))) ≡ Some (table, key, payload)
unfolding row_of
row_spelled table key payload named small plain =
    let quoted = codes "'" ++ (payload ++ codes "'") in
    rw (
      cut_spelled table (decimal key ++ (codes " '" ++ (payload ++ codes "'"))) (name_no_space table named),
      cut_spelled (decimal key) quoted (decimal_no_space key small),
      name_spelled table named,
      number_spelled key small,
      payload_spelled payload plain,
    ) refl

-- a record of what a row's words are
record IsRow (words table : List ℕ) (key : ℕ) (payload : List ℕ) : Type 0 where
  spelled : words ≡ table ++ (codes " " ++ (decimal key ++ (codes " '" ++ (payload ++ codes "'"))))
  named : IsTrue (is_name table)
  small : key < 2 ^ 64
  plain : is_payload payload ≡ true

row_parts : (words : List ℕ) (row : List ℕ × ℕ × List ℕ) → row_of words ≡ Some row → IsRow words row.0 row.1 row.2
unfolding row_of
row_parts words row e =
    let last = λ (table : List ℕ) (key : ℕ) (payload : List ℕ). Some (table, key, payload) in
    let from_payload = λ (quoted table : List ℕ) (key : ℕ). payload_of quoted >>= λ payload. last table key payload in
    let from_key = λ (second : List ℕ × List ℕ) (table : List ℕ). number_of second.0 >>= λ key. from_payload second.1 table key in
    let from_name = λ (first second : List ℕ × List ℕ). name_of first.0 >>= λ table. from_key second table in
    let first = bind_ok (cut_at_space words) (λ first. cut_at_space first.1 >>= λ second. from_name first second) row e in
    let second = bind_ok (cut_at_space first.0.1) (λ second. from_name first.0 second) row first.2 in
    let table = bind_ok (name_of first.0.0) (λ table. from_key second.0 table) row second.2 in
    let key = bind_ok (number_of second.0.0) (λ key. from_payload second.0.1 table.0 key) row table.2 in
    let payload = bind_ok (payload_of second.0.1) (λ payload. last table.0 key.0 payload) row key.2 in
    let same = same_Some (table.0, key.0, payload.0) row payload.2 in
    let name = name_parts first.0.0 table.0 table.1 in
    let number = number_parts second.0.0 key.0 key.1 in
    let quoted = payload_parts second.0.1 payload.0 payload.1 in
    subst (λ (r : List ℕ × ℕ × List ℕ). IsRow words r.0 r.1 r.2) same (record {
      spelled = cut_parts words first.0 first.1 ∙ ap (λ l. l ++ (codes " " ++ first.0.1)) name.0
          ∙ ap (λ l. table.0 ++ (codes " " ++ l)) (cut_parts first.0.1 second.0 second.1 ∙ ap (λ l. l ++ (codes " " ++ second.0.1)) number.0)
          ∙ ap (λ l. table.0 ++ (codes " " ++ (decimal key.0 ++ (codes " " ++ l)))) quoted.0;
      named = name.1;
      small = number.1;
      plain = quoted.1;
    })

-- a record of what a select's words are
record IsSelect (words table : List ℕ) (key : ℕ) : Type 0 where
  spelled : words ≡ table ++ (codes " " ++ decimal key)
  named : IsTrue (is_name table)
  small : key < 2 ^ 64

select_spelled : (table : List ℕ) (key : ℕ) → IsTrue (is_name table) → key < 2 ^ 64 → select_of (table ++ (codes " " ++ decimal key)) ≡ Some (Select table key)
unfolding select_of
select_spelled table key named small =
    rw (cut_spelled table (decimal key) (name_no_space table named), name_spelled table named, number_spelled key small) refl

-- the line of a statement is read into it
pub spelled : (s : Statement) → IsTrue (is_statement s) → statement_of (statement_line s) ≡ Some s
unfolding statement_of other_of keyword_of after create_of drop_of insert_of count_of check_of
spelled Begin h = refl
spelled Commit h = refl
spelled Rollback h = refl
spelled (CreateHeap table) h = ap (option_map (λ name. CreateHeap name)) (name_spelled table h)
spelled (Drop table) h = ap (option_map (λ name. Drop name)) (name_spelled table h)
spelled (Insert table key payload) h =
    let parts = and_parts (is_name table && nat_lt key (2 ^ 64)) (is_payload payload) h in
    let front = and_parts (is_name table) (nat_lt key (2 ^ 64)) parts.0 in
    ap (option_map (λ row. Insert row.0 row.1 row.2)) (row_spelled table key payload front.0 (ltb-true key (2 ^ 64) front.1) parts.1)
spelled (Count table) h = ap (option_map (λ name. Count name)) (name_spelled table h)
spelled (Select table key) h =
    let parts = and_parts (is_name table) (nat_lt key (2 ^ 64)) h in
    select_spelled table key parts.0 (ltb-true key (2 ^ 64) parts.1)
spelled (Check workers) h =
    let parts = and_parts (nat_le 1 workers) (nat_le workers 16) h in
    ap (option_map (λ n. Check n)) (within_spelled 1 16 workers (omega (arith, leb-true workers 16 parts.1)) h)

short_check : statement_of (codes "DBCC CHECKDB") ≡ Some (Check 4)
unfolding statement_of other_of keyword_of after
short_check = refl

pub complete : (line : List ℕ) (s : Statement) → IsStatementLine line s → statement_of line ≡ Some s
complete line s h = ⊎_elim (λ e. ap statement_of e ∙ spelled s h.allowed) (λ e. ap statement_of e.0 ∙ short_check ∙ ap Some (sym e.1)) h.spelled

-- what is said was said by the rest, or by the other
said_ok : (o : Option (List ℕ)) (f : List ℕ → Option Statement) (other : Option Statement) (s : Statement) → said o f other ≡ Some s
    → ((rest : List ℕ) × (o ≡ Some rest) × (f rest ≡ Some s)) ⊎ (other ≡ Some s)
said_ok (Some rest) f other s e = inl (rest, refl, e)
said_ok None f other s e = inr e

create_parts : (line rest : List ℕ) (s : Statement) → line ≡ codes "CREATE HEAP " ++ rest → create_of rest ≡ Some s → IsStatementLine line s
unfolding create_of
create_parts line rest s spelling e =
    let name = map_ok (λ (table : List ℕ). CreateHeap table) (name_of rest) s e in
    let is = name_parts rest name.0 name.1 in
    subst (IsStatementLine line) name.2 (record { allowed = is.1; spelled = inl (spelling ∙ ap (λ l. codes "CREATE HEAP " ++ l) is.0) })

drop_parts : (line rest : List ℕ) (s : Statement) → line ≡ codes "DROP " ++ rest → drop_of rest ≡ Some s → IsStatementLine line s
unfolding drop_of
drop_parts line rest s spelling e =
    let name = map_ok (λ (table : List ℕ). Drop table) (name_of rest) s e in
    let is = name_parts rest name.0 name.1 in
    subst (IsStatementLine line) name.2 (record { allowed = is.1; spelled = inl (spelling ∙ ap (λ l. codes "DROP " ++ l) is.0) })

insert_parts : (line rest : List ℕ) (s : Statement) → line ≡ codes "INSERT " ++ rest → insert_of rest ≡ Some s → IsStatementLine line s
unfolding insert_of
insert_parts line rest s spelling e =
    let row = map_ok (λ (row : List ℕ × ℕ × List ℕ). Insert row.0 row.1 row.2) (row_of rest) s e in
    let is = row_parts rest row.0 row.1 in
    subst (IsStatementLine line) row.2 (record {
      allowed = and_from (is_name row.0.0 && nat_lt row.0.1 (2 ^ 64)) (is_payload row.0.2)
          (and_from (is_name row.0.0) (nat_lt row.0.1 (2 ^ 64)) is.named (lt-ltb row.0.1 (2 ^ 64) is.small)) is.plain;
      spelled = inl (spelling ∙ ap (λ l. codes "INSERT " ++ l) is.spelled);
    })

count_parts : (line rest : List ℕ) (s : Statement) → line ≡ codes "COUNT " ++ rest → count_of rest ≡ Some s → IsStatementLine line s
unfolding count_of
count_parts line rest s spelling e =
    let name = map_ok (λ (table : List ℕ). Count table) (name_of rest) s e in
    let is = name_parts rest name.0 name.1 in
    subst (IsStatementLine line) name.2 (record { allowed = is.1; spelled = inl (spelling ∙ ap (λ l. codes "COUNT " ++ l) is.0) })

select_words : (words : List ℕ) (s : Statement) → select_of words ≡ Some s → (table : List ℕ) × (key : ℕ) × IsSelect words table key × (Select table key ≡ s)
unfolding select_of
select_words words s e =
    let from_name = λ (parts : List ℕ × List ℕ) (table : List ℕ). number_of parts.1 >>= λ key. Some (Select table key) in
    let parts = bind_ok (cut_at_space words) (λ parts. name_of parts.0 >>= λ table. from_name parts table) s e in
    let table = bind_ok (name_of parts.0.0) (λ table. from_name parts.0 table) s parts.2 in
    let key = bind_ok (number_of parts.0.1) (λ key. Some (Select table.0 key)) s table.2 in
    let name = name_parts parts.0.0 table.0 table.1 in
    let number = number_parts parts.0.1 key.0 key.1 in (
      table.0,
      key.0,
      record {
        spelled = cut_parts words parts.0 parts.1 ∙ ap (λ l. l ++ (codes " " ++ parts.0.1)) name.0 ∙ ap (λ l. table.0 ++ (codes " " ++ l)) number.0;
        named = name.1;
        small = number.1;
      },
      same_Some (Select table.0 key.0) s key.2,
    )

select_parts : (line rest : List ℕ) (s : Statement) → line ≡ codes "SELECT " ++ rest → select_of rest ≡ Some s → IsStatementLine line s
select_parts line rest s spelling e =
    let w = select_words rest s e in
    subst (IsStatementLine line) w.3 (record {
      allowed = and_from (is_name w.0) (nat_lt w.1 (2 ^ 64)) w.2.named (lt-ltb w.1 (2 ^ 64) w.2.small);
      spelled = inl (spelling ∙ ap (λ l. codes "SELECT " ++ l) w.2.spelled);
    })

check_parts : (line rest : List ℕ) (s : Statement) → line ≡ codes "DBCC CHECKDB WITH MAXDOP = " ++ rest → check_of rest ≡ Some s → IsStatementLine line s
unfolding check_of
check_parts line rest s spelling e =
    let workers = map_ok (λ (n : ℕ). Check n) (number_within 1 16 rest) s e in
    let is = within_parts 1 16 rest workers.0 workers.1 in
    subst (IsStatementLine line) workers.2 (record { allowed = is.2; spelled = inl (spelling ∙ ap (λ l. codes "DBCC CHECKDB WITH MAXDOP = " ++ l) is.0) })

keyword_case_at : (b : Bool) (line word : List ℕ) (s t : Statement) (other : Option Statement) → (b ≡ true → line ≡ word) → cond b (Some t) other ≡ Some s
    → ((line ≡ word) × (t ≡ s)) ⊎ (other ≡ Some s)
keyword_case_at true line word s t other h e = inl (h refl, same_Some t s e)
keyword_case_at false line word s t other h e = inr e

-- one keyword, or one of the others
keyword_case : (line word : List ℕ) (s t : Statement) (other : Option Statement) → cond (bytes_eq line word) (Some t) other ≡ Some s
    → ((line ≡ word) × (t ≡ s)) ⊎ (other ≡ Some s)
keyword_case line word s t other e = keyword_case_at (bytes_eq line word) line word s t other (λ b. (bytes_eq-Decides line word).0 b) e

keyword_parts : (line : List ℕ) (s : Statement) → keyword_of line ≡ Some s → IsStatementLine line s
unfolding keyword_of
keyword_parts line s e =
    let plain = λ (t : Statement) (fine : IsTrue (is_statement t)) (p : (line ≡ statement_line t) × (t ≡ s)).
    subst (IsStatementLine line) p.1 (record { allowed = fine; spelled = inl p.0 }) in
    ⊎_elim (plain Begin refl)
    (λ e1. ⊎_elim (plain Commit refl)
    (λ e2. ⊎_elim (plain Rollback refl)
    (λ e3. ⊎_elim (λ p. subst (IsStatementLine line) p.1 (record { allowed = refl; spelled = inr (p.0, refl) })) (λ e4. absurd (none-some s e4))
    (keyword_case line (codes "DBCC CHECKDB") s (Check 4) None e3))
    (keyword_case line (codes "ROLLBACK") s Rollback _ e2))
    (keyword_case line (codes "COMMIT") s Commit _ e1))
    (keyword_case line (codes "BEGIN") s Begin _ e)

other_parts : (line : List ℕ) (s : Statement) → other_of line ≡ Some s → IsStatementLine line s
unfolding other_of
other_parts line s e =
    ⊎_elim (λ p. create_parts line p.0 s (after_parts (codes "CREATE HEAP ") line p.0 p.1) p.2)
    (λ e1. ⊎_elim (λ p. drop_parts line p.0 s (after_parts (codes "DROP ") line p.0 p.1) p.2)
    (λ e2. ⊎_elim (λ p. check_parts line p.0 s (after_parts (codes "DBCC CHECKDB WITH MAXDOP = ") line p.0 p.1) p.2)
    (λ e3. keyword_parts line s e3)
    (said_ok (after (codes "DBCC CHECKDB WITH MAXDOP = ") line) check_of (keyword_of line) s e2))
    (said_ok (after (codes "DROP ") line) drop_of _ s e1))
    (said_ok (after (codes "CREATE HEAP ") line) create_of _ s e)

pub sound : (line : List ℕ) (s : Statement) → statement_of line ≡ Some s → IsStatementLine line s
unfolding statement_of
sound line s e =
    ⊎_elim (λ p. insert_parts line p.0 s (after_parts (codes "INSERT ") line p.0 p.1) p.2)
    (λ e1. ⊎_elim (λ p. count_parts line p.0 s (after_parts (codes "COUNT ") line p.0 p.1) p.2)
    (λ e2. ⊎_elim (λ p. select_parts line p.0 s (after_parts (codes "SELECT ") line p.0 p.1) p.2)
    (λ e3. other_parts line s e3)
    (said_ok (after (codes "SELECT ") line) select_of (other_of line) s e2))
    (said_ok (after (codes "COUNT ") line) count_of _ s e1))
    (said_ok (after (codes "INSERT ") line) insert_of _ s e)

tells_of : (line : List ℕ) (o : Option Statement) → statement_of line ≡ o → Tells IsStatementLine line o
tells_of line None e = λ s h. none-some s (sym e ∙ complete line s h)
tells_of line (Some s) e = sound line s e

pub tells : (line : List ℕ) → Tells IsStatementLine line (statement_of line)
tells line = tells_of line (statement_of line) refl

turns_spelled : (sessions : ℕ) (turns : ℕ × ℕ) → sessions < 2 ^ 32 → IsTrue (nat_le 1 turns.0 && nat_le turns.0 sessions) → IsTrue (nat_le 1 turns.1 && nat_le turns.1 10000000)
    → turns_of sessions (turns_line turns) ≡ Some turns
unfolding turns_of
turns_spelled sessions turns few session count =
    let small = leb-true turns.0 sessions (and_parts (nat_le 1 turns.0) (nat_le turns.0 sessions) session).1 in
    let short = leb-true turns.1 10000000 (and_parts (nat_le 1 turns.1) (nat_le turns.1 10000000) count).1 in
    rw (
      cut_spelled (decimal turns.0) (decimal turns.1) (decimal_no_space turns.0 (omega (arith, small, few))),
      within_spelled 1 sessions turns.0 (omega (arith, small, few)) session,
      within_spelled 1 10000000 turns.1 (omega (arith, short)) count,
    ) refl

turns_sound : (sessions : ℕ) (line : List ℕ) (turns : ℕ × ℕ) → turns_of sessions line ≡ Some turns → IsTurnsLine sessions line turns
unfolding turns_of
turns_sound sessions line turns e =
    let last = λ (session count : ℕ). Some (session, count) in
    let from_count = λ (words : List ℕ × List ℕ) (session : ℕ). number_within 1 10000000 words.1 >>= λ count. last session count in
    let words = bind_ok (cut_at_space line) (λ words. number_within 1 sessions words.0 >>= λ session. from_count words session) turns e in
    let session = bind_ok (number_within 1 sessions words.0.0) (λ session. from_count words.0 session) turns words.2 in
    let count = bind_ok (number_within 1 10000000 words.0.1) (λ count. last session.0 count) turns session.2 in
    let first = within_parts 1 sessions words.0.0 session.0 session.1 in
    let second = within_parts 1 10000000 words.0.1 count.0 count.1 in
    subst (IsTurnsLine sessions line) (same_Some (session.0, count.0) turns count.2) (record {
      session = first.2;
      count = second.2;
      spelled = cut_parts line words.0 words.1 ∙ ap (λ l. l ++ (codes " " ++ words.0.1)) first.0 ∙ ap (λ l. decimal session.0 ++ (codes " " ++ l)) second.0;
    })

pub turns_complete : (sessions : ℕ) (line : List ℕ) (turns : ℕ × ℕ) → sessions < 2 ^ 32 → IsTurnsLine sessions line turns → turns_of sessions line ≡ Some turns
turns_complete sessions line turns few h = ap (turns_of sessions) h.spelled ∙ turns_spelled sessions turns few h.session h.count

turns_tell_of : (sessions : ℕ) (line : List ℕ) (o : Option (ℕ × ℕ)) → sessions < 2 ^ 32 → turns_of sessions line ≡ o → Tells (IsTurnsLine sessions) line o
turns_tell_of sessions line None few e = λ t h. none-some t (sym e ∙ turns_complete sessions line t few h)
turns_tell_of sessions line (Some t) few e = turns_sound sessions line t e

pub turns_tell : (sessions : ℕ) (line : List ℕ) → sessions < 2 ^ 32 → Tells (IsTurnsLine sessions) line (turns_of sessions line)
turns_tell sessions line few = turns_tell_of sessions line (turns_of sessions line) few refl

pub one_statement : (line : List ℕ) (a b : Statement) → IsStatementLine line a → IsStatementLine line b → a ≡ b
one_statement line a b p q = same_Some a b (sym (complete line a p) ∙ complete line b q)

pub one_turns : (sessions : ℕ) → sessions < 2 ^ 32 → (line : List ℕ) (a b : ℕ × ℕ) → IsTurnsLine sessions line a → IsTurnsLine sessions line b → a ≡ b
one_turns sessions few line a b p q = same_Some a b (sym (turns_complete sessions line a few p) ∙ turns_complete sessions line b few q)
