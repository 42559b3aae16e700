-- The look-up of a prefix: which binding answers, and what it gives. Assumes nothing.
use Rattle.std.specs.Prelude.{ℕ, cond, ◌&&◌, List, is_some, Some, None, Option, ◌==◌}
use Rattle.std.specs.Option.{unwrap_or}
use Rattle.names.specs.declared.errors.ErrorCode.{ErrorCode}
use Rattle.names.specs.declared.errors.ErrorCode.TheVariants.{UnboundPrefix}
use Rattle.names.specs.declared.qualified.Name.{Name}
use Rattle.names.specs.Names.{numbered}
use Rattle.scopes.specs.declared.bindings.Binding.{Binding}
use Rattle.scopes.specs.declared.bindings.Found.{Found}
use Rattle.scopes.specs.declared.bindings.Lookup.{Lookup}
use Rattle.scopes.specs.declared.bindings.Lookup.TheVariants.{Declared, BuiltIn, Unbound}
use Rattle.scopes.specs.Prefixes.{reserved}
use Rattle.scopes.specs.Rows.{in_row, nearest}

-- what is built in: no prefix, `xml` and `xmlns`
abbrev pub built_in : Option Name → Lookup
built_in None = BuiltIn (numbered 0)
built_in (Some n) = cond (n.0 == 1) (BuiltIn (numbered 4)) (cond (n.0 == 2) (BuiltIn (numbered 5)) Unbound)

abbrev pub declared_or : Option Found → Lookup → Lookup
declared_or (Some f) l = Declared f
declared_or None l = l

-- what the row k of a tag says of p; no tag binds `xml` or `xmlns`
abbrev pub on_tag : ℕ → List Binding → Option Name → Option Found
on_tag k tag p = cond (reserved p) None (in_row k 0 tag p)

-- the nearest binding of p, innermost row first, else what is built in; no row binds `xml` or `xmlns`
abbrev pub look : List (List Binding) → Option Name → Lookup
look rows p = cond (reserved p) (built_in p) (declared_or (nearest rows p) (built_in p))

-- the namespace, the empty one (number 0) where there is none
abbrev pub namespace_of : Lookup → Name
namespace_of (Declared f) = unwrap_or f.ns (numbered 0)
namespace_of (BuiltIn n) = n
namespace_of Unbound = numbered 0

-- a prefix that is there has to have a namespace; an absent one need not
abbrev pub error_of : Option Name → Lookup → Option ErrorCode
error_of p l = cond (is_some p && (namespace_of l).0 == 0) (Some UnboundPrefix) None
