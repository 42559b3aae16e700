-- Which names a tag enters, one by one in the order of its words: its own, then those of each attribute. Those that were
-- entered before one is refused stay. Assumes nothing.
use Rattle.std.specs.Prelude.{ℕ, ◌+◌, List, [], ◌∷◌, ◌++◌, ⊤, Ok, Err, Result}
use Rattle.names.specs.Entering.{Entered, and_then}
use Rattle.names.specs.Entering as naming
use Rattle.names.specs.declared.qualified.QualName.{QualName}
use Rattle.names.specs.declared.refusals.NameFault.{NameFault}
use Rattle.names.specs.declared.spans.Attribute.{Attribute}
use Rattle.tape.specs.Words.{payload_of}
use Rattle.tape.specs.Parts.{text_of, maybe_text}

-- a prefix and a local name
abbrev pub name_entered : List (List ℕ) → List ℕ → ℕ → ℕ → ℕ → Entered QualName
name_entered ts bs at p l = naming.name_entered ts (maybe_text bs at p) (text_of bs (at + payload_of p) l)

-- an attribute: its name is entered, and of its value only the place is kept
abbrev pub attribute_entered : List (List ℕ) → List ℕ → ℕ → ℕ → ℕ → ℕ → Entered Attribute
attribute_entered ts bs at p l v =
    and_then (name_entered ts bs at p l) (λ us name.
    (us, Ok (record { name = name; value = record { start = at + payload_of p + payload_of l; len = payload_of v } })))

-- the attributes of the words that are left, behind those that are done
abbrev pub attributes_entered : List Attribute → List (List ℕ) → List ℕ → ℕ → List ℕ → Entered (List Attribute)
attributes_entered done ts bs at [] = (ts, Ok done)
attributes_entered done ts bs at (p ∷ []) = (ts, Ok done)
attributes_entered done ts bs at (p ∷ l ∷ []) = (ts, Ok done)
attributes_entered done ts bs at (p ∷ l ∷ v ∷ ws) =
    and_then (attribute_entered ts bs at p l v) (λ us a.
    attributes_entered (done ++ a ∷ []) us bs (at + payload_of p + payload_of l + payload_of v) ws)

-- what the code answers: the records that it has written, or the fault
abbrev pub read_attributes : Result ⊤ NameFault → List Attribute → Result (List Attribute) NameFault
read_attributes (Ok done) records = Ok records
read_attributes (Err e) records = Err e
