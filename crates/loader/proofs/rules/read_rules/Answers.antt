use Rattle.loader.proofs.ReadAlone.{reads_rules}
use Rattle.loader.proofs.rules.read_rules.Goals as goal

pub returns : goal.returns
returns c = reads_rules c.args.file.now c.args.loaded.now c.lay_rules.new.loaded c.args.work.now c.lay_rules.new.work c.lay_rules.result c.lay_rules.ensures
