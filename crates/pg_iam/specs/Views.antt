-- An IAM page as its reader shows it.
use Rattle.std.specs.Prelude.{◌≡◌, ℕ, List}
use Rattle.spec_file.specs.Header.{header_of}
use Rattle.spec_file.specs.Iam.{iam_interval, iam_sequence}
use Rattle.pg_iam.specs.declared.view.IamView.{IamView}

-- the bytes of the page that is shown
abbrev pub bytes_of : IamView → List ℕ
bytes_of view = view.page.now.bytes

-- the view is of this page, and tells its object, its interval, its place in the chain and its neighbours
pub record Views (bytes : List ℕ) (view : IamView) : Type 0 where
  pub page : bytes_of view ≡ bytes
  pub object : view.object ≡ (header_of bytes).object
  pub interval : view.interval ≡ iam_interval bytes
  pub sequence : view.sequence ≡ iam_sequence bytes
  pub next : view.next ≡ (header_of bytes).next
  pub prev : view.prev ≡ (header_of bytes).prev
