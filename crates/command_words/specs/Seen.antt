-- The definitions' values that the types of the code stand for.
use Rattle.std.specs.Prelude.{List, map, String, string_bytes}
use Rattle.std.specs.declared.alloc.Global.{Global}
use Rattle.clap.specs.Matches.{found_of}
use Rattle.clap.specs.Walk.{Row, rows_of}
use Rattle.clap.specs.declared.parser.matches.ArgMatches.{ArgMatches}
use Rattle.command_words.specs.declared.asked.Asked as code
use Rattle.command_words.specs.declared.asked.Asked.TheVariants.{Which, Offers, Status, Verify, Check, Resolve, Add, Remove, Pin, Free, Develop, Make, BadWords}
use Rattle.command_words.specs.declared.table.Entry.{Entry as CodeEntry}
use Rattle.command_words.specs.declared.table.Entry.TheVariants.{One, Several, Valued, Flag}
use Rattle.command_words.specs.Table.{Word, Entry, one, several, option, flag}
use Rattle.command_words.specs.Words.{Asked, which, offers, status, verify, check, resolve, add, remove, pin, free, develop, make, refused_words}

abbrev pub entry_of : CodeEntry → Entry
entry_of (One name) = one name.now
entry_of (Several name) = several name.now
entry_of (Valued name) = option name.now
entry_of (Flag name) = flag name.now

-- what `clap` found, argument by argument
abbrev pub rows : ArgMatches → List Row
rows found = rows_of (found_of found)

abbrev pub asked_of : code.Asked → Asked
asked_of (Which name context) = which name context
asked_of (Offers name) = offers name
asked_of (Status all extensions) = status all extensions
asked_of (Verify name list) = verify name list
asked_of (Check proof) = check proof
asked_of (Resolve budget classes proof) = resolve budget classes proof
asked_of (Add words budget) = add words.items budget
asked_of (Remove names budget) = remove names.items budget
asked_of (Pin name version budget) = pin name version budget
asked_of (Free name budget) = free name budget
asked_of (Develop path budget) = develop path budget
asked_of (Make number budget) = make number budget
asked_of (BadWords word) = refused_words word

abbrev pub texts : List (String Global) → List Word
texts words = map string_bytes words
