-- Sessions that have done nothing yet.
use Rattle.std.specs.Prelude.{◌≡◌, ◌≤◌, List, [], ◌∷◌, length, vec_capacity}
use Rattle.spec_script.specs.declared.statement.Statement.{Statement}
use Rattle.db_core.specs.declared.session.Doing.TheVariants.{Idle}
use Rattle.db_core.specs.declared.session.Session.{Session}

-- a session with this script that has done nothing, with room for its replies
pub record IsNew (script : List Statement) (x : Session) : Type 0 where
  pub script_is : x.script.items ≡ script
  pub replies : x.replies.items ≡ []
  pub room : length script ≤ vec_capacity x.replies
  pub tran : x.tran ≡ 0
  pub left : x.left.items ≡ []
  pub held : x.held.items ≡ []
  pub used : x.used ≡ 0
  pub doing : x.doing ≡ Idle

-- one such session for each script
abbrev pub AreNew : List (List Statement) → List Session → Type 0
AreNew [] [] = Unit {0}
AreNew [] (x ∷ xs) = ⊥
AreNew (script ∷ scripts) [] = ⊥
AreNew (script ∷ scripts) (x ∷ xs) = IsNew script x × AreNew scripts xs
