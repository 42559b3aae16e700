-- When two prefixes are the same. Assumes nothing.
use Rattle.std.proofs.Common.{◌≡◌, ℕ, true, Some, None, Decides, Option, refl, ap}
use Rattle.std.proofs.lemmas.Bool.{eqb-true, eq-eqb, false≢true}
use Rattle.names.specs.declared.qualified.Name.{Name}
use Rattle.names.specs.Names.{numbered}
use Rattle.scopes.specs.Prefixes.{same, named}

pub same-Decides : (a b : Option Name) → Decides (same a b) (a ≡ b)
same-Decides None None = (λ h. refl, λ e. refl)
same-Decides None (Some n) = (λ h. absurd (false≢true h), λ e. cc)
same-Decides (Some m) None = (λ h. absurd (false≢true h), λ e. cc)
same-Decides (Some m) (Some n) =
    (λ h. ap (λ k. Some (numbered k)) (eqb-true m.0 n.0 h), λ e. let z : m.0 ≡ n.0 = cc in eq-eqb m.0 n.0 z)

pub named_is : (n : ℕ) (p : Option Name) → named n p ≡ true → p ≡ Some (numbered n)
named_is n None h = absurd (false≢true h)
named_is n (Some m) h = ap (λ k. Some (numbered k)) (eqb-true m.0 n h)
