-- Which attributes are declarations, and what comes of one. Assumes nothing.
use Rattle.std.specs.Prelude.{◌≡◌, ℕ, ◌<◌, Bool, true, false, cond, List, [], ◌∷◌, length, Some, None, Ok, Err, Decides, Option, Result, ◌==◌, ◌≢◌, slice_index_or}
use Rattle.std.specs.Str.{bytes_eq}
use Rattle.names.specs.declared.errors.ErrorCode.{ErrorCode}
use Rattle.names.specs.declared.errors.ErrorCode.TheVariants.{XmlnsUriDeclared, XmlPrefixDeclared, XmlnsPrefixDeclared, DeclaredTwice}
use Rattle.names.specs.declared.qualified.Name.{Name}
use Rattle.names.specs.declared.qualified.QualName.{QualName}
use Rattle.names.specs.BuiltIn.{xml_uri, xmlns_uri}
use Rattle.scopes.specs.declared.bindings.Binding.{Binding}
use Rattle.scopes.specs.declared.declarations.Declares.{Declares}
use Rattle.scopes.specs.declared.declarations.Effect.{Effect}
use Rattle.scopes.specs.declared.declarations.Effect.TheVariants.{Binds, Undeclares, Nothing}
use Rattle.scopes.specs.Prefixes.{named, reserved}
use Rattle.scopes.specs.Rows.{binds}

-- an attribute that declares the prefix p
abbrev pub declaring : Option Name → Declares
declaring p = record { 0 = p }

-- `xmlns:L` declares L, and `xmlns` without a prefix the absent prefix (2 is the number of `xmlns`); no other declares
abbrev pub declared_by : QualName → Option Declares
declared_by q =
    elim q.prefix [
      | None ↦ cond (q.local.0 == 2) (Some (declaring None)) None
      | Some p ↦ cond (p.0 == 2) (Some (declaring (Some q.local))) None
    ]

-- what comes of a declaration: what it does, or the error that is noted
abbrev pub Verdict : Type 0
Verdict = Result Effect ErrorCode

abbrev pub binds_or_undeclares : List ℕ → Verdict
binds_or_undeclares [] = Ok Undeclares
binds_or_undeclares (c ∷ cs) = Ok Binds

-- what comes of declaring p with the value v, where `tag` was accepted before: the lines are tried in turn
abbrev pub weighed : List Binding → Option Name → List ℕ → Verdict
weighed tag p v =
    cond (bytes_eq v xmlns_uri) (Err XmlnsUriDeclared)
    (cond (named 1 p) (cond (bytes_eq v xml_uri) (Ok Nothing) (Err XmlPrefixDeclared))
    (cond (named 2 p) (Err XmlnsPrefixDeclared)
    (cond (bytes_eq v xml_uri) (Err XmlPrefixDeclared)
    (cond (binds tag p) (Err DeclaredTwice)
    (binds_or_undeclares v)))))

-- a verdict that takes effect
abbrev pub takes_effect : Verdict → Bool
takes_effect (Ok Binds) = true
takes_effect (Ok Undeclares) = true
takes_effect (Ok Nothing) = false
takes_effect (Err e) = false

-- what Namespaces in XML 1.0 asks of a declaration for the sake of `xml` and `xmlns`: neither prefix, neither namespace;
-- an empty value for a prefix, which that document forbids as well, passes here and undeclares the prefix
pub record Unreserved (p : Option Name) (v : List ℕ) : Type 0 where
  pub prefix : reserved p ≡ false
  pub not_xml : v ≡ xml_uri → ⊥
  pub not_xmlns : v ≡ xmlns_uri → ⊥

-- the tag has not declared the prefix
abbrev pub New : List Binding → Option Name → Type 0
New tag p = (i : ℕ) → i < length tag → (slice_index_or tag i (record { prefix = None; ns = None })).prefix ≢ p

-- a declaration takes effect exactly if it touches nothing reserved and is the first of its prefix on the tag
abbrev pub AcceptsUnreserved : List Binding → Option Name → List ℕ → Verdict → Type 0
AcceptsUnreserved tag p v r = Decides (takes_effect r) (Unreserved p v × New tag p)
