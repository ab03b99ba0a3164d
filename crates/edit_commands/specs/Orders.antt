-- What a command that writes is asked for, beside the files.
--     begins order               whether the project file need not be there
--     wish_of order              what is to be done with the project
--     options_of order budget    what the search and its telling go by
use Rattle.std.specs.Prelude.{ℕ, Bool, true, false, List, Option, None}
use Rattle.jl_versions.specs.declared.version.Version.{Version}
use Rattle.pkg_world.specs.Path.{Path}
use Rattle.offer_terms.specs.Offered.{Text, Id}
use Rattle.pkg_commands.specs.Commands as commands
use Rattle.project_phases.specs.Phases.{SaidWish, ready, folder}
use Rattle.edit_commands.specs.declared.options.Options.{Options}
use Rattle.edit_commands.specs.declared.order.Order as code
use Rattle.edit_commands.specs.declared.order.Order.TheVariants.{Resolve, Add, Remove, Pin, Free, Develop}

pub data SaidOrder : Type 0 where
  resolve : Bool → Option Path → SaidOrder
  add : List (Text × Option Id) → SaidOrder
  remove : List Text → SaidOrder
  pin : Text → Option Version → SaidOrder
  free : Text → SaidOrder
  develop : Path → SaidOrder

-- the same without the room of its lists
abbrev pub said_order : code.Order → SaidOrder
said_order (Resolve classes proof) = resolve classes proof
said_order (Add words) = add words.items
said_order (Remove names) = remove names.items
said_order (Pin name version) = pin name version
said_order (Free name) = free name
said_order (Develop path) = develop path

-- `add` and `develop` take a missing project file as an empty one
abbrev pub begins : SaidOrder → Bool
begins (resolve classes proof) = false
begins (add words) = true
begins (remove names) = false
begins (pin name version) = false
begins (free name) = false
begins (develop path) = true

abbrev pub wish_of : SaidOrder → SaidWish
wish_of (resolve classes proof) = ready commands.resolve
wish_of (add words) = ready (commands.add words)
wish_of (remove names) = ready (commands.rm names)
wish_of (pin name version) = ready (commands.pin name version)
wish_of (free name) = ready (commands.free name)
wish_of (develop path) = folder path

-- `add`, `rm` and `develop` replace the project file
abbrev pub changes : SaidOrder → Bool
changes (resolve classes proof) = false
changes (add words) = true
changes (remove names) = true
changes (pin name version) = false
changes (free name) = false
changes (develop path) = true

-- `resolve` alone tells classes, and has a file for the proof
abbrev pub tells_classes : SaidOrder → Bool
tells_classes (resolve classes proof) = classes
tells_classes _ = false

abbrev pub proof_file : SaidOrder → Option Path
proof_file (resolve classes proof) = proof
proof_file _ = None

abbrev pub options_by : ℕ → Bool → Bool → Option Path → Options
options_by budget rewrites classes proof = record { budget = budget; rewrites = rewrites; classes = classes; proof = proof }

abbrev pub options_of : SaidOrder → ℕ → Options
options_of order budget = options_by budget (changes order) (tells_classes order) (proof_file order)
