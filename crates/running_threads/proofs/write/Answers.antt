use Rattle.running_threads.specs.Laws.{wrote}
use Rattle.running_threads.proofs.write.Goals as goal

pub returns : goal.returns
returns c =
    wrote c.requires.0 c.requires.1 c.args.register c.args.value c.requires.2
