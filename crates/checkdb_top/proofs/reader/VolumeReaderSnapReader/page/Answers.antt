use Rattle.checkdb_top.specs.WholeFiles.{told_page}
use Rattle.checkdb_top.proofs.reader.VolumeReaderSnapReader.page.Goals as goal

pub returns-in-Ok-clause-page : goal.returns-in-Ok-clause-page
returns-in-Ok-clause-page g c = told_page _ _ _ _ c.args.self.now.whole c.requires c.in-Ok.ensures.ok
