-- What entering several texts one by one answers and leaves: those that were entered before one is refused stay.
-- Assumes nothing.
use Rattle.std.specs.Prelude.{ℕ, List, Some, None, Ok, Err, Option, Result}
use Rattle.names.specs.declared.qualified.Name.{Name}
use Rattle.names.specs.declared.qualified.QualName.{QualName}
use Rattle.names.specs.declared.refusals.NameFault.{NameFault}
use Rattle.names.specs.Names.{numbered}
use Rattle.names.specs.Texts.{entered, after}

-- the texts of the name table after some entering, and what came of it
abbrev pub Entered : Type 0 → Type 0
Entered X = List (List ℕ) × Result X NameFault

abbrev pub go_on : {X Y : Type 0} → List (List ℕ) → Result X NameFault → (List (List ℕ) → X → Entered Y) → Entered Y
go_on ts (Ok x) next = next ts x
go_on ts (Err e) next = (ts, Err e)

-- goes on with the names so far, unless one was refused
abbrev pub and_then : {X Y : Type 0} → Entered X → (List (List ℕ) → X → Entered Y) → Entered Y
and_then e next = go_on e.0 e.1 next

-- one text
abbrev pub text_entered : List (List ℕ) → List ℕ → Entered Name
text_entered ts t = (after ts t, entered ts t)

-- a prefix, which may be absent
abbrev pub prefix_entered : List (List ℕ) → Option (List ℕ) → Entered (Option Name)
prefix_entered ts None = (ts, Ok None)
prefix_entered ts (Some t) = and_then (text_entered ts t) (λ us n. (us, Ok (Some n)))

-- a prefix and a local name; the namespace is not known yet and stands at 0, the empty one
abbrev pub name_entered : List (List ℕ) → Option (List ℕ) → List ℕ → Entered QualName
name_entered ts prefix local =
    and_then (prefix_entered ts prefix) (λ us p.
    and_then (text_entered us local) (λ vs l.
    (vs, Ok (record { prefix = p; ns = numbered 0; local = l }))))
