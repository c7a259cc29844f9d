use Rattle.disk_model.proofs.Pick.{picked_is_image}
use Rattle.disk_model.proofs.memory.Memory.crashed.Goals as goal

pub returns-clause-image : goal.returns-clause-image
returns-clause-image c = picked_is_image c.args.self.now c.args.moment c.args.tear c.picked_copy.result c.picked_copy.ensures.new
