-- A page's fault, as a row block's.
use Rattle.page_bytes.specs.declared.fault.PageFault.{PageFault}
use Rattle.row_block.specs.declared.fault.BlockFault.{BlockFault}
use Rattle.row_block.specs.declared.fault.BlockFault.TheVariants.{BadPage, NoMemory}
use Rattle.page_bytes.specs.declared.fault.PageFault.TheVariants as page

abbrev pub fault_of : PageFault → BlockFault
fault_of (page.BadPage at) = BadPage at
fault_of page.NoMemory = NoMemory
