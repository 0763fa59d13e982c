use Rattle.ck_error.specs.Gathered.{Adds, Below}
use Rattle.pg_iam.specs.Views.{bytes_of}
use Rattle.ck_chain.specs.Pages.{MarksBehind}
use Rattle.ck_chain.proofs.pages.note_marks.Given as goal

abbrev pub invariant-loop-n : goal.invariant-loop-n
invariant-loop-n l = Adds l.initial.errors.items l.errors.items (Below l.n (MarksBehind l.g l.extents l.id l.q (bytes_of l.iam)))
