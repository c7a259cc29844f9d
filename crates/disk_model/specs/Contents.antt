use Rattle.disk_model.specs.Files.{Files}
use Rattle.disk_model.specs.History.{both}
use Rattle.disk_model.specs.declared.crashed.Contents.{Contents}

abbrev pub files_of : Contents → Files
files_of pair = both pair.data_bytes.items pair.log_bytes.items
