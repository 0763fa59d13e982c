-- Whatever INSERT gives, it has taken something.
use Rattle.std.proofs.Common.{◌≡◌, ℕ, ◌+◌, ◌-◌, true, List, [], length, subst}
use Rattle.std.proofs.lemmas.Bool.{false≢true}
use Rattle.spec_file.specs.declared.data.Resource.{Resource}
use Rattle.spec_file.specs.Image.{page}
use Rattle.spec_file.specs.Pfs.{fullness_of}
use Rattle.spec_file.specs.declared.data.Resource.TheVariants as resource
use Rattle.spec_chain.specs.Uses.{pfs_byte}
use Rattle.spec_log.specs.declared.item.Cell.TheVariants.{Bytes}
use Rattle.spec_script.specs.declared.reply.Reply.{Reply}
use Rattle.spec_script.specs.declared.reply.Reply.TheVariants.{Rows}
use Rattle.spec_plan.specs.Refusals.{no_room}
use Rattle.spec_plan.specs.Rows.{heap_row, with_row, free_count, with_fullness}
use Rattle.spec_words.specs.NetChanges.{FileShape}
use Rattle.spec_words.specs.Takes.{is_among}
use Rattle.spec_words.specs.Views.{View, End, Gives, Stops, Plan}
use Rattle.spec_words.specs.Words.{◌then◌, sees, refuse, take, put_pfs, found_or, first_of, with_taken}
use Rattle.spec_words.specs.Tables.{table_of, table_pages}
use Rattle.spec_words.specs.Heaps.{room_on, row_put, insert_plan}
use Rattle.law_net.specs.GoodViews.{IfGives, Leads}
use Rattle.law_net.proofs.GoodViews.{taken_mine}
use Rattle.law_net.proofs.WordLaws.{leads_then, leads_give, leads_write, leads_weaker}

-- something is taken
abbrev pub HasTaken : View → Type 0
HasTaken view = view.taken ≡ [] → ⊥

pub taking_takes : (r : Resource) (v : View) → HasTaken (with_taken r v)
taking_takes r v none = false≢true (subst (λ taken. is_among taken r ≡ true) none (taken_mine r v))

-- what holds of whatever is given
pub always : {A : Type 0} (plan : Plan A) (v : View) (K : A → View → Type 0) → ((x : A) (w : View) → K x w) → Leads plan v K
always {A = A} plan v K all = by_end (plan v).ending
  where
    by_end : (e : End A) → IfGives K e
    by_end (Gives x w) = all x w
    by_end (Stops refusal) = tt

-- a plan, and then what leads somewhere whatever it gives
pub behind : {A B : Type 0} (plan : Plan A) (next : A → Plan B) (v : View) (K : B → View → Type 0) → ((x : A) (w : View) → Leads (next x) w K) → Leads (plan then next) v K
behind plan next v K h = leads_then plan next v K (always plan v _ h)

row_takes : (shape : FileShape) (p : ℕ) (row : List ℕ) (v : View) → Leads (row_put shape p row) v (λ u w. HasTaken w)
row_takes shape p row v =
    let K : Unit {0} → View → Type 0 = λ u w. HasTaken w in
    let read_byte : Plan ℕ = sees (λ view. pfs_byte shape.geometry view.now p) in
    let read_page : Plan (List ℕ) = sees (λ view. page view.now p) in
    leads_then read_byte _ v K (always read_byte v _ (λ byte w.
    leads_then read_page _ w K (always read_page w _ (λ bytes x.
    let put : Plan (Unit {0}) = put_pfs shape p (with_fullness byte (fullness_of (free_count bytes - (length row + 2)))) in
    leads_then put _ x K (always put x _ (λ u y.
    leads_write (resource.Page (record { 0 = p })) (Bytes (record { 0 = p }) 0) (with_row bytes row) y K (λ free. taking_takes (resource.Page (record { 0 = p })) y)))))))

-- where INSERT gives a reply it has taken something
pub insert_takes : (shape : FileShape) (name : List ℕ) (key : ℕ) (payload : List ℕ) (v : View) → Leads (insert_plan shape name key payload) v (λ reply w. HasTaken w)
insert_takes shape name key payload v =
    let bytes = heap_row key payload in
    let K : Reply → View → Type 0 = λ reply w. HasTaken w in
    leads_then (table_of name) _ v K (always (table_of name) v _ (λ row w.
    leads_then (table_pages shape row) _ w K (always (table_pages shape row) w _ (λ pages x.
    leads_then (take (resource.Table (record { 0 = row.id }))) _ x K (always (take (resource.Table (record { 0 = row.id }))) x _ (λ u y.
    leads_then (first_of (room_on shape row (length bytes)) pages) _ y K (always (first_of (room_on shape row (length bytes)) pages) y _ (λ found z.
    leads_then (found_or found (refuse no_room)) _ z K (always (found_or found (refuse no_room)) z _ (λ p q.
    leads_then (row_put shape p bytes) _ q K
    (leads_weaker (row_put shape p bytes) q (λ u a. HasTaken a) _ (λ u a h. leads_give (Rows 1 []) a K h) (row_takes shape p bytes q))))))))))))
