-- A page's fault, as an undo block's.
use Rattle.page_bytes.specs.declared.fault.PageFault.{PageFault}
use Rattle.undo_block.specs.declared.fault.UndoFault.{UndoFault}
use Rattle.undo_block.specs.declared.fault.UndoFault.TheVariants.{BadPage, NoMemory}
use Rattle.page_bytes.specs.declared.fault.PageFault.TheVariants as page

abbrev pub fault_of : PageFault → UndoFault
fault_of (page.BadPage offset) = BadPage offset
fault_of page.NoMemory = NoMemory
