use Rattle.std.proofs.Common.{◌≡◌, ◌<◌, ◌≤◌, ◌∙◌, Some, ap, map, refl, slice_get, subst, sum_by, sym}
use Rattle.std.proofs.lemmas.List.{length-map}
use Rattle.db_core.specs.declared.state.State.{State}
use Rattle.db_core.specs.Rooms.{owed_by}
use Rattle.db_core.proofs.Begun.{each_room_new, low_new, IsFresh, good_fresh, seen_fresh}
use Rattle.db_core.proofs.db.Core.begin.Goals as goal

pub room_for_all-requires-clause-room : goal.room_for_all-requires-clause-room
room_for_all-requires-clause-room c k x here =
    each_room_new (map (λ s. s.items) c.args.scripts.items) c.in_ok-sessions.sessions.items c.in_ok-sessions.ensures c.requires.short k x
    (subst (λ ss. slice_get ss k ≡ Some x) c.deref.ensures.value here)

pub room_for_all-requires-clause-low : goal.room_for_all-requires-clause-low
room_for_all-requires-clause-low c =
    subst (λ ss. sum_by owed_by ss < 9223372036854775808) (sym c.deref.ensures.value)
    (low_new (map (λ s. s.items) c.args.scripts.items) c.in_ok-sessions.sessions.items c.in_ok-sessions.ensures c.requires.short
    (subst (λ n. n ≤ 16) (sym (length-map c.args.scripts.items (λ s. s.items))) c.requires.few))

-- the state that is made
abbrev state_of : goal.After-of-2 → State
state_of c = record {
  alloc = c.args.alloc;
  base = c.of.result;
  first = c.of-2.result;
  items = c.room_for_all.new.items;
  frames = c.args.frames;
  sessions = c.in_ok-sessions.sessions;
  last = 0;
  all = 0;
  size = 0;
  owed = c.in_ok-owed.owed;
}

is_fresh : (c : goal.After-of-2) → IsFresh c.args.frames (map (λ s. s.items) c.args.scripts.items) (state_of c)
is_fresh c = record {
  whole = c.requires.whole;
  bytes = c.are_of_bytes.ensures;
  shape = c.requires.shape;
  few = subst (λ n. n ≤ 16) (sym (length-map c.args.scripts.items (λ s. s.items))) c.requires.few;
  short = c.requires.short;
  proper = c.requires.proper;
  new = c.in_ok-sessions.ensures;
  base = c.of.ensures;
  first = ap (λ v. v.items) c.of-2.ensures;
  frames = refl;
  items = c.room_for_all.ensures.items ∙ c.new-items.ensures.items;
  room = c.in_ok-owed.ensures.owed.1;
  owed = c.in_ok-owed.ensures.owed.0 ∙ ap (sum_by owed_by) c.deref.ensures.value;
  last = refl;
  all = refl;
  size = refl;
}

pub invariant_of-result : goal.invariant_of-result
invariant_of-result c = good_fresh c.args.frames (map (λ s. s.items) c.args.scripts.items) (state_of c) (is_fresh c)

pub returns : goal.returns
returns c = seen_fresh c.args.frames (map (λ s. s.items) c.args.scripts.items) (state_of c) (is_fresh c)
