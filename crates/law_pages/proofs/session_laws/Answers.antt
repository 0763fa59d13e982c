use Rattle.law_pages.proofs.Sessions.{holder_is_session, first_is_among}
use Rattle.law_pages.proofs.session_laws.Goals as goal

pub returns : goal.returns
returns c c2 = record { session = holder_is_session _; first = first_is_among _ }
