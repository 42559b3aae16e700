-- What the words after the program's name ask for. Assumes nothing.
use Rattle.std.specs.Prelude.{ℕ, Bool, false, cond, ◌||◌, ◌==◌, List, [], ◌∷◌, Some, None, Ok, Err, Option, Result, is_some, codes}
use Rattle.std.specs.Str.{bytes_eq}
use Rattle.reports.specs.declared.command.Input.{Input}
use Rattle.reports.specs.declared.command.Input.TheVariants.{Standard, File}
use Rattle.reports.specs.declared.command.Command.{Command}
use Rattle.reports.specs.declared.command.Command.TheVariants.{Help, Scopes}
use Rattle.reports.specs.declared.command.Usage.{Usage}
use Rattle.reports.specs.declared.command.Usage.TheVariants.{Nothing, UnknownCommand, UnknownOption, ExtraWord}

-- what is asked for, with the bytes of the words that it speaks of
pub data Request : Type 0 where
  help : Request
  -- the namespaces of a listing: of standard input, or of a file
  scopes_of_input : Request
  scopes_of_file : List ℕ → Request
  nothing : Request
  unknown_command : List ℕ → Request
  unknown_option : List ℕ → Request
  extra_word : List ℕ → Request

abbrev pub asks_help : List ℕ → Bool
asks_help w = bytes_eq w (codes "--help") || bytes_eq w (codes "-h")

-- a `-` (45) with something behind it; a lone one stands for standard input
abbrev pub is_option : List ℕ → Bool
is_option [] = false
is_option (c ∷ []) = false
is_option (c ∷ d ∷ w) = c == 45

abbrev pub listing_named : List ℕ → Request
listing_named w = cond (bytes_eq w (codes "-")) scopes_of_input (scopes_of_file w)

-- without FILE it is standard input
abbrev pub listing_given : Option (List ℕ) → Request
listing_given None = scopes_of_input
listing_given (Some w) = listing_named w

-- the words after `scopes`, behind the FILE that was given: the first that is no FILE, or one too many, decides
abbrev pub after_scopes : Option (List ℕ) → List (List ℕ) → Request
after_scopes file [] = listing_given file
after_scopes file (w ∷ ws) =
    cond (asks_help w) help
    (cond (is_option w) (unknown_option w)
    (cond (is_some file) (extra_word w)
    (after_scopes (Some w) ws)))

-- the first word names the subcommand
abbrev pub request : List (List ℕ) → Request
request [] = nothing
request (w ∷ ws) =
    cond (bytes_eq w (codes "scopes")) (after_scopes None ws)
    (cond (bytes_eq w (codes "help") || asks_help w) help
    (cond (is_option w) (unknown_option w)
    (unknown_command w)))

-- what the code answers
abbrev pub listing_of : Input → Request
listing_of Standard = scopes_of_input
listing_of (File w) = scopes_of_file w.now

abbrev pub request_of : Result Command Usage → Request
request_of (Ok Help) = help
request_of (Ok (Scopes i)) = listing_of i
request_of (Err Nothing) = nothing
request_of (Err (UnknownCommand w)) = unknown_command w.now
request_of (Err (UnknownOption w)) = unknown_option w.now
request_of (Err (ExtraWord w)) = extra_word w.now
