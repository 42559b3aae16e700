-- What Namespaces in XML 1.0 says of the prefixes in scope, as a relation. Assumes nothing.
-- The elements around a place are given innermost first, each by the declarations on its start tag, in their order there;
-- a tag that is being read stands at the head. An element is named by how many others are open around it.
use Rattle.std.specs.Prelude.{◌≡◌, ℕ, ◌<◌, false, cond, List, [], ◌∷◌, length, Some, None, Option, MatchOption, ◌==◌, slice_index_or}
use Rattle.names.specs.declared.qualified.Name.{Name}
use Rattle.names.specs.Names.{numbered}
use Rattle.scopes.specs.declared.bindings.Binding.{Binding}
use Rattle.scopes.specs.declared.bindings.Found.{Found}
use Rattle.scopes.specs.declared.bindings.Lookup.{Lookup}
use Rattle.scopes.specs.declared.bindings.Lookup.TheVariants.{Declared, BuiltIn, Unbound}
use Rattle.scopes.specs.Prefixes.{reserved}

-- the declarations on the start tag of element k
abbrev pub tag_of : List (List Binding) → ℕ → List Binding
tag_of [] k = []
tag_of (tag ∷ outer) k = cond (k == length outer) tag (tag_of outer k)

-- the declaration at place i of that tag
abbrev pub declaration_at : List (List Binding) → ℕ → ℕ → Binding
declaration_at elements k i = slice_index_or (tag_of elements k) i (record { prefix = None; ns = None })

-- element k declares the prefix p at place i of its start tag
pub record Declares (elements : List (List Binding)) (p : Option Name) (k i : ℕ) : Type 0 where
  pub element : k < length elements
  pub place : i < length (tag_of elements k)
  pub prefix : (declaration_at elements k i).prefix ≡ p

-- a declaration holds from its own start tag to the matching end tag, save where an element further in declares the same
-- prefix again; a tag declares a prefix once, so of several declarations the first counts
pub record InScope (elements : List (List Binding)) (p : Option Name) (k i : ℕ) : Type 0 where
  pub declares : Declares elements p k i
  pub innermost : (j m : ℕ) → k < j → Declares elements p j m → ⊥
  pub first : (m : ℕ) → m < i → Declares elements p k m → ⊥

-- no declaration of the prefix is in scope
abbrev pub Undeclared : List (List Binding) → Option Name → Type 0
Undeclared elements p = (k i : ℕ) → Declares elements p k i → ⊥

-- the declaration that was found is in scope, and has this value
pub record Applies (elements : List (List Binding)) (p : Option Name) (f : Found) : Type 0 where
  pub in_scope : InScope elements p f.row f.place
  pub value : (declaration_at elements f.row f.place).ns ≡ f.ns

-- what a prefix stands for, line by line
pub data Scoped (elements : List (List Binding)) (p : Option Name) (r : Lookup) : Type 0 where
  -- a declaration in scope binds its prefix, or the default namespace, to the namespace that is its value
  bound : (f : Found) (n : Name) → reserved p ≡ false → Applies elements p f → f.ns ≡ Some n → r ≡ Declared f → Scoped elements p r
  -- a default declaration with an empty value takes the default namespace away
  default_undeclared : (f : Found) → p ≡ None → Applies elements p f → f.ns ≡ None → r ≡ Declared f → Scoped elements p r
  -- our own extension, for what that document forbids: a prefix declared with an empty value is undeclared
  prefix_undeclared : (f : Found) (q : Name) → p ≡ Some q → reserved p ≡ false → Applies elements p f → f.ns ≡ None → r ≡ Declared f → Scoped elements p r
  -- `xml` and `xmlns` are bound by definition, and nothing rebinds them
  xml : p ≡ Some (numbered 1) → r ≡ BuiltIn (numbered 4) → Scoped elements p r
  xmlns : p ≡ Some (numbered 2) → r ≡ BuiltIn (numbered 5) → Scoped elements p r
  -- without a default declaration in scope there is no default namespace: the empty one
  no_default : p ≡ None → Undeclared elements p → r ≡ BuiltIn (numbered 0) → Scoped elements p r
  -- any other prefix has to be declared
  not_bound : (q : Name) → p ≡ Some q → reserved p ≡ false → Undeclared elements p → r ≡ Unbound → Scoped elements p r

-- and it stands for nothing else
abbrev pub OnlyScoped : List (List Binding) → Option Name → Lookup → Type 0
OnlyScoped elements p r = (other : Lookup) → Scoped elements p other → other ≡ r

-- where nothing is built in: the declaration in scope, which is the only one, or none
abbrev pub Answered : List (List Binding) → Option Name → Option Found → Type 0
Answered elements p r =
    MatchOption r (Undeclared elements p) (λ f. Applies elements p f × ((k i : ℕ) → InScope elements p k i → (k ≡ f.row) × (i ≡ f.place)))
