-- What reading the next token of a tape gives and leaves. Assumes nothing.
use Rattle.std.specs.Prelude.{ℕ, ◌+◌, cond, List, length, Ok, Err, Result, nat_le}
use Rattle.names.specs.declared.refusals.NameFault.{NameFault}
use Rattle.names.specs.declared.spans.Attribute.{Attribute}
use Rattle.tape.specs.declared.faults.TapeCause.{TapeCause}
use Rattle.tape.specs.declared.faults.TapeCause.TheVariants.{TooManyAttributes, PastText, Names}
use Rattle.tape.specs.declared.faults.TapeFault.{TapeFault}
use Rattle.tape.specs.declared.tokens.Token.{Token}
use Rattle.tape.specs.Cursors.{Cursor}
use Rattle.tape.specs.Parts.{total}
use Rattle.tape.specs.Scans.{Scan, scanned}
use Rattle.tape.specs.Tokens.{TokenValue, crowded, token_made, value_of}

-- the token or what is wrong, where the reader then stands, the texts of the name table, and the attribute table
pub record Reading (E : Type 0) : Type 0 where
  pub answer : Result TokenValue E
  pub cursor : Cursor
  pub names : List (List ℕ)
  pub table : List Attribute

-- before a fault has its place
abbrev pub Taken : Type 0
Taken = Reading TapeCause

-- a refusal that changes nothing
abbrev pub refused : Cursor → List (List ℕ) → List Attribute → TapeCause → Taken
refused c ts table e = record { answer = Err e; cursor = c; names = ts; table = table }

-- the cursor behind a token: its first word and its parts are passed, and so are its texts
abbrev pub behind : Cursor → Scan → Cursor
behind c s =
    record {
      words = s.rest;
      index = c.index + (1 + length s.parts);
      text = c.text;
      position = c.position + total s.parts;
    }

-- a token that is made is passed; a name that is refused leaves the cursor where it was
abbrev pub passing : Cursor → Cursor → Result TokenValue NameFault → List (List ℕ) → List Attribute → Taken
passing c next (Ok v) ts table = record { answer = Ok v; cursor = next; names = ts; table = table }
passing c next (Err e) ts table = refused c ts table (Names e)

-- where the words are right: first the number of attributes is weighed, then the lengths of the texts, then the names
abbrev pub weighed : Cursor → List (List ℕ) → List Attribute → Result Scan TapeCause → Taken
weighed c ts table (Err e) = refused c ts table e
weighed c ts table (Ok s) =
    let m = token_made s.head s.parts c.text c.position ts table in
    cond (crowded s.head (length table)) (refused c ts table TooManyAttributes)
    (cond (nat_le (c.position + total s.parts) (length c.text))
    (passing c (behind c s) m.answer m.names m.table)
    (refused c ts table PastText))

-- the words come before all else
abbrev pub taken : Cursor → List (List ℕ) → List Attribute → Taken
taken c ts table = weighed c ts table (scanned c.words)

-- a fault tells the index of the token's first word
abbrev pub placed : ℕ → Result TokenValue TapeCause → Result TokenValue TapeFault
placed at (Ok v) = Ok v
placed at (Err e) = Err (record { at = at; cause = e })

abbrev pub reading_at : ℕ → Taken → Reading TapeFault
reading_at at t = record { answer = placed at t.answer; cursor = t.cursor; names = t.names; table = t.table }

abbrev pub read_token : Cursor → List (List ℕ) → List Attribute → Reading TapeFault
read_token c ts table = reading_at c.index (taken c ts table)

-- what the code answers and leaves
abbrev pub reading_of : {E : Type 0} → Result Token E → Cursor → List (List ℕ) → List Attribute → Reading E
reading_of r c ts table = record { answer = value_of r; cursor = c; names = ts; table = table }
