-- A session whose check ends, or goes on to be read.
use Rattle.std.proofs.Common.{◌≡◌, [], ◌∷◌, ◌++◌, inl, inr, ap, ◌∙◌, arith, Result, Ok, Err, OnOk}
use Rattle.spec_log.specs.declared.item.Record.{Record}
use Rattle.spec_script.specs.declared.reply.Reply.{Reply}
use Rattle.db_core.specs.declared.session.Check.{Check}
use Rattle.db_core.specs.declared.session.Doing.TheVariants.{Idle, Checking}
use Rattle.db_core.specs.declared.session.Session.{Session}
use Rattle.db_core.specs.declared.starts.StatementNo.{StatementNo}
use Rattle.db_core.specs.Checks.{EndsAtOnce, EndsBy, EndsWith, ReadsIn, StaysAs}
use Rattle.db_core.specs.Reading.{ReadsOn}
use Rattle.db_core.specs.States.{Keeps, KeepsRoom}

keeps_then : (a b c : Session) → Keeps a b → Keeps b c → Keeps a c
keeps_then a b c p q = record { script = q.script ∙ p.script; tran = q.tran ∙ p.tran; held = q.held ∙ p.held; used = q.used ∙ p.used }

room_then : (a b c : Session) → KeepsRoom a b → KeepsRoom b c → KeepsRoom a c
room_then a b c p q =
    let pr = p.replies in let qr = q.replies in let pl = p.left in let ql = q.left in
    record { replies = omega (arith, pr, qr); left = omega (arith, pl, ql) }

with_reply : (old mid new : Session) (reply : Reply) → StaysAs old mid → new.replies.items ≡ mid.replies.items ++ reply ∷ [] → new.replies.items ≡ old.replies.items ++ reply ∷ []
with_reply old mid new reply stays e = e ∙ ap (λ rs. rs ++ reply ∷ []) stays.replies

-- the end of a check that was taken out of its session, or read on in it
pub ended : (place : StatementNo) (check : Check) (old mid new : Session) (x : Record) → old.doing ≡ Checking check → StaysAs old mid → EndsWith place check mid new x →
    Keeps mid new → new.left.items ≡ mid.left.items → new.doing ≡ Idle → KeepsRoom mid new → EndsBy place old new x
ended place check old mid new x was stays ends kept left doing room = record {
  check = check;
  was = was;
  ends = elim ends [
    | inl r ↦ inl (r.0, r.1, r.2, with_reply old mid new _ stays r.3, r.4)
    | inr r ↦ inr (with_reply old mid new _ stays r.0, r.1)
  ];
  kept = keeps_then old mid new stays.kept kept;
  left = left ∙ stays.left;
  doing = doing;
  room = room_then old mid new stays.room room;
}

-- and for want of memory
pub ended_short : (place : StatementNo) (check : Check) (old mid new : Session) (x : Record) → old.doing ≡ Checking check → StaysAs old mid → EndsAtOnce place mid new x → EndsBy place old new x
ended_short place check old mid new x was stays e = ended place check old mid new x was stays (inr (e.replies, e.item)) e.kept e.left e.doing e.room

-- a check that reads on in its session
pub reads_in_session : {E : Type 0} (old new : Session) (before after : Check) (r : Result Unit E) → old.doing ≡ Checking before → new.doing ≡ Checking after → StaysAs old new →
    after.point ≡ before.point → after.pages ≡ before.pages → after.ongoing ≡ before.ongoing → after.place ≡ before.place →
    OnOk r (ReadsOn before.pages before.phase after.phase) → OnOk r (ReadsIn old new)
reads_in_session {E} old new before after (Ok u) was is stays point pages ongoing place reads = record {
  before = before;
  after = after;
  was = was;
  is = is;
  step = record { point = point; pages = pages; ongoing = ap (λ o. o.items) ongoing; place = place; reads = reads };
  stays = stays;
}
reads_in_session {E} old new before after (Err e) was is stays point pages ongoing place reads = tt
