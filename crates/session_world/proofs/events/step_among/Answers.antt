use Rattle.store_core.specs.declared.fault.StoreFault.TheVariants.{NoMemory}
use Rattle.session_world.proofs.Turning.{failed_before}
use Rattle.session_world.proofs.events.step_among.Goals as goal

pub returns-in-Err-clause-moved : goal.returns-in-Err-clause-moved
returns-in-Err-clause-moved g c = λ scripts R0 R e session at. failed_before g.D.Disk.meaning scripts R0 R c.args.who c.args.store.now c.args.run.now NoMemory tt at
