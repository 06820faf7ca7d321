-- Why bytes are not read, as a walk answers it.
use Rattle.fc_tree.specs.declared.reading.ReadError.{ReadError}
use Rattle.fc_tree.specs.declared.reading.ReadError.TheVariants as errors
use Rattle.fc_tree.specs.declared.node.TreeError.{TreeError}
use Rattle.fc_tree.specs.declared.node.TreeError.TheVariants.{DiskFault, NoMemory}

abbrev pub unread : ReadError → TreeError
unread errors.DiskFault = DiskFault
unread errors.NoMemory = NoMemory
