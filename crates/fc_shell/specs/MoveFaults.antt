-- Why lines that may move files aren't answered, by why those that don't aren't, and files aren't copied.
use Rattle.std.specs.Prelude.{Bool, Result, Ok, Err}
use Rattle.fc_export.specs.declared.file.ExportFault.{ExportFault}
use Rattle.fc_export.specs.declared.file.ExportFault.TheVariants as exports
use Rattle.fc_shell.specs.declared.answer.LineFault.{LineFault}
use Rattle.fc_shell.specs.declared.answer.LineFault.TheVariants as lines
use Rattle.fc_shell.specs.declared.moving.MoveFault.{MoveFault}

abbrev pub export_fault : ExportFault → MoveFault
export_fault exports.Disk = MoveFault.Disk
export_fault exports.Host = MoveFault.Host

abbrev pub move_fault : LineFault → MoveFault
move_fault lines.Disk = MoveFault.Disk
move_fault lines.Out = MoveFault.Out
move_fault lines.NoMemory = MoveFault.NoMemory

abbrev pub moved_result : Result Bool LineFault → Result Bool MoveFault
moved_result (Ok refused) = Ok refused
moved_result (Err fault) = Err (move_fault fault)
