-- The token that right words make, with what is entered into the name table and written to the attribute table.
-- Assumes nothing.
use Rattle.std.specs.Prelude.{ℕ, ◌+◌, Bool, false, ◌||◌, List, [], ◌++◌, length, drop, None, Ok, Err, Option, Result, nat_lt, slice_index}
use Rattle.std.specs.Option.{option_map}
use Rattle.names.specs.Names.{numbered}
use Rattle.names.specs.declared.qualified.QualName.{QualName}
use Rattle.names.specs.declared.refusals.NameFault.{NameFault}
use Rattle.names.specs.declared.spans.Attribute.{Attribute}
use Rattle.tape.specs.declared.tokens.Tag.{Tag}
use Rattle.tape.specs.declared.tokens.TagKind.{TagKind}
use Rattle.tape.specs.declared.tokens.TagKind.TheVariants as kind
use Rattle.tape.specs.declared.tokens.Token.{Token}
use Rattle.tape.specs.declared.tokens.Token.TheVariants as token
use Rattle.tape.specs.declared.words.Head.{Head}
use Rattle.tape.specs.declared.words.Head.TheVariants as head
use Rattle.tape.specs.Words.{payload_of}
use Rattle.tape.specs.Parts.{text_of, maybe_text}
use Rattle.names.specs.Entering.{Entered, and_then}
use Rattle.tape.specs.Entering.{name_entered, attributes_entered}

-- a token with the bytes of its texts
pub data TokenValue : Type 0 where
  tag : Tag → ℕ → TokenValue
  comment : List ℕ → TokenValue
  characters : List ℕ → TokenValue
  instruction : List ℕ → List ℕ → TokenValue
  doctype : Option (List ℕ) → Option (List ℕ) → Option (List ℕ) → TokenValue
  null_character : TokenValue
  end_of_file : TokenValue
  parse_error : List ℕ → TokenValue

abbrev pub token_value : Token → TokenValue
token_value (token.Tag t n) = tag t n
token_value (token.Comment s) = comment s.now
token_value (token.Characters s) = characters s.now
token_value (token.ProcessingInstruction p) = instruction p.target.now p.«data».now
token_value (token.Doctype d) = doctype (option_map (λ x. x.now) d.name) (option_map (λ x. x.now) d.public_id) (option_map (λ x. x.now) d.system_id)
token_value token.NullCharacter = null_character
token_value token.EndOfFile = end_of_file
token_value (token.ParseError s) = parse_error s.now

-- a tag of more than 32 attributes, or of more than the table has room for
abbrev pub crowded : Head → ℕ → Bool
crowded (head.Tag k n) room = nat_lt 32 n || nat_lt room n
crowded head.ShortTag room = false
crowded head.Comment room = false
crowded head.Characters room = false
crowded head.Instruction room = false
crowded head.Doctype room = false
crowded head.NullCharacter room = false
crowded head.EndOfFile room = false
crowded head.Error room = false

-- what making a token gives and leaves
pub record Made : Type 0 where
  pub answer : Result TokenValue NameFault
  pub names : List (List ℕ)
  pub table : List Attribute

-- a token that leaves both tables alone
abbrev pub plain : TokenValue → List (List ℕ) → List Attribute → Made
plain v ts table = record { answer = Ok v; names = ts; table = table }

abbrev pub instruction_made : List ℕ → List ℕ → ℕ → TokenValue
instruction_made ws bs at = instruction (text_of bs at (slice_index ws 0)) (text_of bs (at + payload_of (slice_index ws 0)) (slice_index ws 1))

-- name, public identifier and system identifier
abbrev pub doctype_made : List ℕ → List ℕ → ℕ → TokenValue
doctype_made ws bs at =
    doctype (maybe_text bs at (slice_index ws 0))
    (maybe_text bs (at + payload_of (slice_index ws 0)) (slice_index ws 1))
    (maybe_text bs (at + payload_of (slice_index ws 0) + payload_of (slice_index ws 1)) (slice_index ws 2))

-- `</>`: it has no name and no attributes
abbrev pub short_tag : TokenValue
short_tag = tag (record { kind = kind.Short; name = record { prefix = None; ns = numbered 0; local = numbered 0 } }) 0

-- the name of a tag and its attributes, from the words of both
abbrev pub tag_entered : List (List ℕ) → List ℕ → ℕ → List ℕ → Entered (QualName × List Attribute)
tag_entered ts bs at ws =
    and_then (name_entered ts bs at (slice_index ws 0) (slice_index ws 1)) (λ us name.
    and_then (attributes_entered [] us bs (at + payload_of (slice_index ws 0) + payload_of (slice_index ws 1)) (drop 2 ws)) (λ vs attrs.
    (vs, Ok (name, attrs))))

-- the attributes stand at the front of the table, and the rest of it is as it was; a refused name changes nothing there
abbrev pub tag_by : TagKind → List Attribute → List (List ℕ) → Result (QualName × List Attribute) NameFault → Made
tag_by k table ts (Ok p) =
    record {
      answer = Ok (tag (record { kind = k; name = p.0 }) (length p.1));
      names = ts;
      table = p.1 ++ drop (length p.1) table;
    }
tag_by k table ts (Err e) = record { answer = Err e; names = ts; table = table }

abbrev pub tag_made : TagKind → List ℕ → List ℕ → ℕ → List (List ℕ) → List Attribute → Made
tag_made k ws bs at ts table = tag_by k table (tag_entered ts bs at ws).0 (tag_entered ts bs at ws).1

-- the token of the words ws behind a first word, with its texts from a place of bs on
abbrev pub token_made : Head → List ℕ → List ℕ → ℕ → List (List ℕ) → List Attribute → Made
token_made (head.Tag k n) ws bs at ts table = tag_made k ws bs at ts table
token_made head.ShortTag ws bs at ts table = plain short_tag ts table
token_made head.Comment ws bs at ts table = plain (comment (text_of bs at (slice_index ws 0))) ts table
token_made head.Characters ws bs at ts table = plain (characters (text_of bs at (slice_index ws 0))) ts table
token_made head.Instruction ws bs at ts table = plain (instruction_made ws bs at) ts table
token_made head.Doctype ws bs at ts table = plain (doctype_made ws bs at) ts table
token_made head.NullCharacter ws bs at ts table = plain null_character ts table
token_made head.EndOfFile ws bs at ts table = plain end_of_file ts table
token_made head.Error ws bs at ts table = plain (parse_error (text_of bs at (slice_index ws 0))) ts table

-- what the code answers and leaves
abbrev pub value_of : {E : Type 0} → Result Token E → Result TokenValue E
value_of (Ok t) = Ok (token_value t)
value_of (Err e) = Err e

abbrev pub made_of : Result Token NameFault → List (List ℕ) → List Attribute → Made
made_of r ts table = record { answer = value_of r; names = ts; table = table }
