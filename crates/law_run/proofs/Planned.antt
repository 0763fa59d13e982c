-- How the plan of a statement ends on what its transaction sees.
use Rattle.std.proofs.Common.{◌≡◌, ℕ, ◌<◌, ◌&&◌, ltb, leb, not, eqb, true, List, [], ◌∷◌, ◌++◌, length, arith}
use Rattle.std.specs.List.{list_all}
use Rattle.std.proofs.lemmas.Bool.{and_parts, leb-true}
use Rattle.spec_file.specs.Catalog.{is_name}
use Rattle.spec_log.specs.declared.item.Record.{Record}
use Rattle.spec_log.specs.Images.{view_of}
use Rattle.spec_log.specs.Log.{holds, holder_of}
use Rattle.spec_log.specs.Sound.{IsSound}
use Rattle.spec_script.specs.Lines.{is_statement, is_payload, is_payload_byte}
use Rattle.spec_script.specs.declared.reply.Reply.{Reply}
use Rattle.spec_script.specs.declared.statement.Statement.{Statement}
use Rattle.spec_script.specs.declared.statement.Statement.TheVariants as statement
use Rattle.spec_words.specs.Views.{View, End, Gives, Stops, Plan}
use Rattle.spec_statements.specs.Statements.{StatementKind, Transacts, Plans, Checks, kind_of}
use Rattle.spec_run.specs.Begun.{Setting, shape_of, view_at}
use Rattle.spec_run.specs.OfBytes.{AllPutBytes}
use Rattle.law_undo.proofs.Shapes.{view_shape, whole_shape}
use Rattle.law_net.specs.Files.{IsImageOf}
use Rattle.law_net.specs.GoodViews.{IfGives}
use Rattle.law_statements.specs.Statements.{IsGoodEnd, HasSameBeginning, HasBytes, IfPlanned}
use Rattle.law_statements.proofs.Statements.{statements_are_good}
use Rattle.law_statements.proofs.StatementEnds.{statements_keep_beginning}
use Rattle.law_net.proofs.RowBytes.{Low, low_bytes}
use Rattle.law_run.specs.Laws.{IsStart}
use Rattle.law_run.proofs.OfBytes.{view_bytes}

-- a reply leaves a good end, over what the statement's transaction sees
abbrev pub EndsGood : Setting → List Record → ℕ → Reply → View → Type 0
EndsGood run log t reply view = HasSameBeginning (view_at run log t) view × IsGoodEnd view

-- so does the plan of a statement, if it has one
abbrev pub KindEndsGood : Setting → List Record → ℕ → StatementKind → Type 0
KindEndsGood run log t kind = IfPlanned (λ plan. IfGives (EndsGood run log t) (plan (view_at run log t)).ending) kind

printed_low : (b : ℕ) → is_payload_byte b ≡ true → b < 256
printed_low b h =
    let printable = and_parts (leb 32 b && leb b 126) (not (eqb b 39)) h in
    let le = leb-true b 126 (and_parts (leb 32 b) (leb b 126) printable.0).1 in
    omega (arith, le)

payload_low : (payload : List ℕ) → list_all is_payload_byte payload ≡ true → Low payload
payload_low [] h = tt
payload_low (b ∷ payload) h =
    let parts = and_parts (is_payload_byte b) (list_all is_payload_byte payload) h in
    (printed_low b parts.0, payload_low payload parts.1)

-- what a statement of a script puts into rows are bytes, and a name that it gives is one
statement_bytes : (st : Statement) → is_statement st ≡ true → HasBytes st
statement_bytes statement.Begin h = tt
statement_bytes statement.Commit h = tt
statement_bytes statement.Rollback h = tt
statement_bytes (statement.CreateHeap name) h = h
statement_bytes (statement.Drop name) h = tt
statement_bytes (statement.Insert table key payload) h =
    low_bytes payload (payload_low payload (and_parts (list_all is_payload_byte payload) (leb (length payload) 1013) (and_parts (is_name table && ltb key _) (is_payload payload) h).1).0)
statement_bytes (statement.Count table) h = tt
statement_bytes (statement.Select table key) h = tt
statement_bytes (statement.Check workers) h = tt

pub view_is_image : (run : Setting) (log : List Record) (t : ℕ) → IsStart run → IsSound run.geometry (length run.image) run.opened run.image log →
    AllPutBytes (log ++ run.opened) → IsImageOf (shape_of run) (view_of t run.opened log run.image)
view_is_image run log t start sound puts =
    let view = view_of t run.opened log run.image in
    let shape = view_shape run.geometry run.opened log run.image t sound in
    record { file = start.shape; pages = shape.pages; whole = whole_shape run.image view shape start.whole; bytes = view_bytes run.opened log run.image t puts start.pages }

both_planned : (P Q : Plan Reply → Type 0) (kind : StatementKind) → IfPlanned P kind → IfPlanned Q kind → IfPlanned (λ plan. P plan × Q plan) kind
both_planned P Q (Transacts word) p q = tt
both_planned P Q (Plans plan) p q = (p, q)
both_planned P Q Checks p q = tt

planned_by : (P Q : Plan Reply → Type 0) (kind : StatementKind) → ((plan : Plan Reply) → P plan → Q plan) → IfPlanned P kind → IfPlanned Q kind
planned_by P Q (Transacts word) w h = tt
planned_by P Q (Plans plan) w h = w plan h
planned_by P Q Checks w h = tt

both_given : (P Q : Reply → View → Type 0) (e : End Reply) → IfGives P e → IfGives Q e → IfGives (λ reply view. P reply view × Q reply view) e
both_given P Q (Gives reply view) p q = (p, q)
both_given P Q (Stops refusal) p q = tt

pub statement_ends_good : (run : Setting) (log : List Record) (t : ℕ) (st : Statement) → IsStart run → IsSound run.geometry (length run.image) run.opened run.image log →
    AllPutBytes (log ++ run.opened) → is_statement st ≡ true → KindEndsGood run log t (kind_of (shape_of run) st)
statement_ends_good run log t st start sound puts proper =
    let first = view_at run log t in
    let shape = shape_of run in
    let Good : Plan Reply → Type 0 = λ plan. IfGives (λ reply view. IsGoodEnd view) (plan first).ending in
    let Same : Plan Reply → Type 0 = λ plan. (view : View) → IfGives (λ reply after. HasSameBeginning view after) (plan view).ending in
    planned_by (λ plan. Good plan × Same plan) (λ plan. IfGives (EndsGood run log t) (plan first).ending) (kind_of shape st)
    (λ plan h. both_given (λ reply view. HasSameBeginning first view) (λ reply view. IsGoodEnd view) (plan first).ending (h.1 first) h.0)
    (both_planned Good Same (kind_of shape st)
    (statements_are_good shape (view_of t run.opened log run.image) (λ r. holder_of (log ++ run.opened) r t) (λ r. holds (log ++ run.opened) t r) st
    (view_is_image run log t start sound puts) (statement_bytes st proper))
    (statements_keep_beginning shape st))
