use Rattle.wait_script.proofs.Spelled.{spelled, fits, plays, again}
use Rattle.wait_script.proofs.reader.read_script.Goals as goal

pub returns-clause-spelled : goal.returns-clause-spelled
returns-clause-spelled c = spelled c.args.bytes.now c.read_headed.result c.read_headed.ensures

pub returns-clause-fits : goal.returns-clause-fits
returns-clause-fits c = fits c.args.bytes.now c.read_headed.result c.read_headed.ensures

pub returns-clause-plays : goal.returns-clause-plays
returns-clause-plays c = plays c.args.bytes.now c.read_headed.result c.read_headed.ensures

pub returns-clause-read : goal.returns-clause-read
returns-clause-read c = again c.args.bytes.now c.read_headed.result c.read_headed.ensures
