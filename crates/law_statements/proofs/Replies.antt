-- What planned statements reply.
use Rattle.std.proofs.Common.{ℕ, List, [], length}
use Rattle.std.specs.Prelude.{sum_by, flat_map}
use Rattle.spec_file.specs.declared.data.Resource.TheVariants as resource
use Rattle.spec_rows.specs.Slots.{slot_count}
use Rattle.spec_script.specs.declared.reply.Reply.{Reply}
use Rattle.spec_script.specs.declared.reply.Reply.TheVariants.{Done, Rows}
use Rattle.spec_script.specs.declared.statement.Statement.TheVariants as statement
use Rattle.spec_plan.specs.Refusals.{no_room}
use Rattle.spec_plan.specs.Rows.{heap_row, payloads_of}
use Rattle.spec_words.specs.NetChanges.{FileShape}
use Rattle.spec_words.specs.Views.{View}
use Rattle.spec_words.specs.Words.{refuse, take, found_or, first_of, all_of}
use Rattle.spec_words.specs.Tables.{table_of, table_pages}
use Rattle.spec_words.specs.Heaps.{heap_page, room_on, row_put, insert_plan, count_plan, select_plan, rows_found}
use Rattle.spec_words.specs.Orders.{in_rising_order}
use Rattle.spec_statements.specs.Objects.{create_plan, drop_plan}
use Rattle.law_net.specs.GoodViews.{Leads}
use Rattle.law_statements.specs.Statements.{IsPlain, StatementsReplyPlainly}
use Rattle.law_net.proofs.WordLaws.{leads_then, leads_give}
use Rattle.law_net.proofs.InsertTakes.{always, behind}

abbrev Plain : Reply → View → Type 0
Plain reply view = IsPlain reply

insert_replies : (shape : FileShape) (name : List ℕ) (key : ℕ) (payload : List ℕ) (v : View) → Leads (insert_plan shape name key payload) v Plain
insert_replies shape name key payload v =
    let bytes = heap_row key payload in
    leads_then (table_of name) _ v Plain (always (table_of name) v _ (λ row w.
    leads_then (table_pages shape row) _ w Plain (always (table_pages shape row) w _ (λ pages x.
    leads_then (take (resource.Table (record { 0 = row.id }))) _ x Plain (always (take (resource.Table (record { 0 = row.id }))) x _ (λ u y.
    leads_then (first_of (room_on shape row (length bytes)) pages) _ y Plain (always (first_of (room_on shape row (length bytes)) pages) y _ (λ found z.
    leads_then (found_or found (refuse no_room)) _ z Plain (always (found_or found (refuse no_room)) z _ (λ p q.
    leads_then (row_put shape p bytes) _ q Plain (always (row_put shape p bytes) q _ (λ s a. leads_give (Rows 1 []) a Plain tt))))))))))))

count_replies : (shape : FileShape) (name : List ℕ) (v : View) → Leads (count_plan shape name) v Plain
count_replies shape name v =
    leads_then (table_of name) _ v Plain (always (table_of name) v _ (λ row w.
    leads_then (table_pages shape row) _ w Plain (always (table_pages shape row) w _ (λ pages x.
    leads_then (all_of (heap_page shape row) pages) _ x Plain (always (all_of (heap_page shape row) pages) x _ (λ found y.
    leads_give (Rows (sum_by slot_count found) []) y Plain tt))))))

select_replies : (shape : FileShape) (name : List ℕ) (key : ℕ) (v : View) → Leads (select_plan shape name key) v Plain
select_replies shape name key v =
    leads_then (table_of name) _ v Plain (always (table_of name) v _ (λ row w.
    leads_then (table_pages shape row) _ w Plain (always (table_pages shape row) w _ (λ pages x.
    leads_then (all_of (heap_page shape row) pages) _ x Plain (always (all_of (heap_page shape row) pages) x _ (λ found y.
    leads_give (rows_found (in_rising_order (flat_map (payloads_of key) found))) y Plain tt))))))

create_replies : (shape : FileShape) (name : List ℕ) (v : View) → Leads (create_plan shape name) v Plain
create_replies shape name v =
    behind _ _ v Plain (λ boot a.
    behind _ _ a Plain (λ x b.
    behind _ _ b Plain (λ y c.
    behind _ _ c Plain (λ id d.
    behind _ _ d Plain (λ i e.
    behind _ _ e Plain (λ z f.
    behind _ _ f Plain (λ q g.
    behind _ _ g Plain (λ u h. leads_give Done h Plain tt))))))))

drop_replies : (shape : FileShape) (name : List ℕ) (v : View) → Leads (drop_plan shape name) v Plain
drop_replies shape name v =
    behind _ _ v Plain (λ row a.
    behind _ _ a Plain (λ x b.
    behind _ _ b Plain (λ y c.
    behind _ _ c Plain (λ z d.
    behind _ _ d Plain (λ entry e.
    behind _ _ e Plain (λ u f. leads_give Done f Plain tt))))))

pub statements_reply_plainly : StatementsReplyPlainly
statements_reply_plainly shape statement.Begin = tt
statements_reply_plainly shape statement.Commit = tt
statements_reply_plainly shape statement.Rollback = tt
statements_reply_plainly shape (statement.CreateHeap table) = create_replies shape table
statements_reply_plainly shape (statement.Drop table) = drop_replies shape table
statements_reply_plainly shape (statement.Insert table key payload) = insert_replies shape table key payload
statements_reply_plainly shape (statement.Count table) = count_replies shape table
statements_reply_plainly shape (statement.Select table key) = select_replies shape table key
statements_reply_plainly shape (statement.Check workers) = tt
