use Rattle.db_alloc.proofs.IamBytes.{new_iam_bytes}
use Rattle.db_alloc.proofs.object.fill_iam.Goals as goal

pub returns : goal.returns
returns c =
    new_iam_bytes c.make_iam.new.page.bytes c.args.q c.args.object c.args.prev c.args.interval c.args.sequence c.is_whole.ensures.bytes c.is_whole.ensures.long
    c.make_iam.ensures.header c.make_iam.ensures.version c.make_iam.ensures.interval c.make_iam.ensures.sequence c.make_iam.ensures.unused c.make_iam.ensures.between c.make_iam.ensures.behind
