-- Commands without the room of their lists.
use Rattle.std.specs.Prelude.{List, Option}
use Rattle.jl_versions.specs.declared.version.Version.{Version}
use Rattle.pkg_world.specs.Path.{Path}
use Rattle.project_file.specs.Said as project
use Rattle.offer_terms.specs.Offered.{Text, Id}
use Rattle.pkg_commands.specs.declared.command.Command.{Command}
use Rattle.pkg_commands.specs.declared.command.Command.TheVariants.{Resolve, Add, Rm, Pin, Free, Develop}

pub data SaidCommand : Type 0 where
  resolve : SaidCommand
  add : List (Text × Option Id) → SaidCommand
  rm : List Text → SaidCommand
  pin : Text → Option Version → SaidCommand
  free : Text → SaidCommand
  develop : Path → project.Said → SaidCommand

abbrev pub said_command : Command → SaidCommand
said_command Resolve = resolve
said_command (Add words) = add words.items
said_command (Rm names) = rm names.items
said_command (Pin name version) = pin name version
said_command (Free name) = free name
said_command (Develop path folder) = develop path (project.said folder)
