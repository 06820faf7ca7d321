-- Why a line gives no command, by why its path isn't read.
use Rattle.fc_names.specs.declared.path.PathError.{PathError}
use Rattle.fc_script.specs.declared.command.LineError.{LineError}

abbrev pub of_path : PathError → LineError
of_path PathError.BadName = LineError.BadName
of_path PathError.NoMemory = LineError.NoMemory
