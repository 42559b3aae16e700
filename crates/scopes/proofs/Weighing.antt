-- What the chain of a declaration's weighing comes to. Assumes nothing.
use Rattle.std.proofs.Common.{◌≡◌, ℕ, zero, suc, ◌+◌, Bool, true, false, ◌||◌, List, [], ◌∷◌, Ok, Err, is_some, Decides, Option, sym, refl, ap, ◌∙◌, subst, inl, inr, arith}
use Rattle.std.specs.Str.{bytes_eq}
use Rattle.std.proofs.lemmas.Slice.Eq.{bytes_eq-Decides}
use Rattle.std.proofs.lemmas.Bool.{cond-true, cond-false, cases_Bool, or_parts, or_left, or_right, or_from, both_ways, false≢true}
use Rattle.names.specs.declared.errors.ErrorCode.TheVariants.{XmlnsUriDeclared, XmlPrefixDeclared, XmlnsPrefixDeclared, DeclaredTwice}
use Rattle.names.specs.declared.qualified.Name.{Name}
use Rattle.names.specs.BuiltIn.{xml_uri, xmlns_uri}
use Rattle.scopes.specs.declared.bindings.Binding.{Binding}
use Rattle.scopes.specs.declared.declarations.Effect.TheVariants.{Nothing}
use Rattle.scopes.specs.Declarations.{Verdict, binds_or_undeclares, weighed, takes_effect, Unreserved, New, AcceptsUnreserved}
use Rattle.scopes.specs.Prefixes.{same, named}
use Rattle.scopes.specs.Rows.{binds, in_row}
use Rattle.scopes.proofs.Comparing.{same-Decides}

skip : (x y : Bool) → x ≡ false → (x || y) ≡ y
skip x y n = ap (λ b. b || y) n

-- a row binds p exactly if a look-up in it finds p
pub binds_found : (k i : ℕ) (bs : List Binding) (p : Option Name) → is_some (in_row k i bs p) ≡ binds bs p
binds_found k i [] p = refl
binds_found k i (b ∷ bs) p =
    elim (cases_Bool (same b.prefix p)) [
      | inl y ↦ ap is_some (cond-true _ _ _ y) ∙ sym (or_left _ _ y)
      | inr n ↦ ap is_some (cond-false _ _ _ n) ∙ binds_found k (i + 1) bs p ∙ sym (skip (same b.prefix p) (binds bs p) n)
    ]

-- and exactly if some binding of it is of p
not_new : (bs : List Binding) (p : Option Name) → binds bs p ≡ true → New bs p → ⊥
not_new [] p h new = false≢true h
not_new (b ∷ bs) p h new =
    elim (cases_Bool (same b.prefix p)) [
      | inl y ↦ new 0 (omega arith) ((same-Decides b.prefix p).0 y)
      | inr n ↦ not_new bs p (sym (skip (same b.prefix p) (binds bs p) n) ∙ h) (λ i lt e. new (suc i) (omega arith) e)
    ]

is_new : (bs : List Binding) (p : Option Name) → binds bs p ≡ false → New bs p
is_new [] p h i lt e = omega arith
is_new (b ∷ bs) p h zero lt e = both_ways _ (or_parts (same b.prefix p) (binds bs p) h).0 ((same-Decides b.prefix p).1 e)
is_new (b ∷ bs) p h (suc i) lt e = is_new bs p (or_parts (same b.prefix p) (binds bs p) h).1 i (omega arith) e

effect : (v : List ℕ) → takes_effect (binds_or_undeclares v) ≡ true
effect [] = refl
effect (c ∷ cs) = refl

-- a verdict without effect, where the declaration cannot take effect
rejects : {P : Type 0} (r : Verdict) → takes_effect r ≡ false → (P → ⊥) → Decides (takes_effect r) P
rejects r e no_way = (λ h. absurd (both_ways _ e h), λ x. absurd (no_way x))

module _ (tag : List Binding) (p : Option Name) (v : List ℕ) where
  -- the lines of the chain, each under the failure of those before it
  pub at_xmlns_uri : bytes_eq v xmlns_uri ≡ true → weighed tag p v ≡ Err XmlnsUriDeclared
  at_xmlns_uri a = cond-true _ _ _ a

  module _ (a : bytes_eq v xmlns_uri ≡ false) where
    pub at_xml : named 1 p ≡ true → bytes_eq v xml_uri ≡ true → weighed tag p v ≡ Ok Nothing
    at_xml b d = cond-false _ _ _ a ∙ cond-true _ _ _ b ∙ cond-true _ _ _ d

    pub at_xml_other : named 1 p ≡ true → bytes_eq v xml_uri ≡ false → weighed tag p v ≡ Err XmlPrefixDeclared
    at_xml_other b d = cond-false _ _ _ a ∙ cond-true _ _ _ b ∙ cond-false _ _ _ d

    module _ (b : named 1 p ≡ false) where
      pub at_xmlns : named 2 p ≡ true → weighed tag p v ≡ Err XmlnsPrefixDeclared
      at_xmlns d = cond-false _ _ _ a ∙ cond-false _ _ _ b ∙ cond-true _ _ _ d

      module _ (d : named 2 p ≡ false) where
        pub at_xml_uri : bytes_eq v xml_uri ≡ true → weighed tag p v ≡ Err XmlPrefixDeclared
        at_xml_uri e = cond-false _ _ _ a ∙ cond-false _ _ _ b ∙ cond-false _ _ _ d ∙ cond-true _ _ _ e

        module _ (e : bytes_eq v xml_uri ≡ false) where
          pub at_twice : binds tag p ≡ true → weighed tag p v ≡ Err DeclaredTwice
          at_twice f = cond-false _ _ _ a ∙ cond-false _ _ _ b ∙ cond-false _ _ _ d ∙ cond-false _ _ _ e ∙ cond-true _ _ _ f

          pub at_end : binds tag p ≡ false → weighed tag p v ≡ binds_or_undeclares v
          at_end f = cond-false _ _ _ a ∙ cond-false _ _ _ b ∙ cond-false _ _ _ d ∙ cond-false _ _ _ e ∙ cond-false _ _ _ f

  by_verdict : (r : Verdict) → weighed tag p v ≡ r → AcceptsUnreserved tag p v r → AcceptsUnreserved tag p v (weighed tag p v)
  by_verdict r e h = subst (AcceptsUnreserved tag p v) (sym e) h

  fine : bytes_eq v xmlns_uri ≡ false → named 1 p ≡ false → named 2 p ≡ false → bytes_eq v xml_uri ≡ false → Unreserved p v
  fine a b d e =
      record {
        prefix = or_from _ _ b d;
        not_xml = λ q. both_ways _ e ((bytes_eq-Decides v xml_uri).1 q);
        not_xmlns = λ q. both_ways _ a ((bytes_eq-Decides v xmlns_uri).1 q);
      }

  -- a declaration takes effect exactly if it touches nothing reserved and is new on its tag
  pub accepts : AcceptsUnreserved tag p v (weighed tag p v)
  accepts =
      elim (cases_Bool (bytes_eq v xmlns_uri)) [
        | inl a ↦ by_verdict _ (at_xmlns_uri a) (rejects (Err XmlnsUriDeclared) refl (λ x. x.0.not_xmlns ((bytes_eq-Decides v xmlns_uri).0 a)))
        | inr a ↦
            elim (cases_Bool (named 1 p)) [
              | inl b ↦
                  elim (cases_Bool (bytes_eq v xml_uri)) [
                    | inl d ↦ by_verdict _ (at_xml a b d) (rejects (Ok Nothing) refl (λ x. both_ways _ x.0.prefix (or_left _ _ b)))
                    | inr d ↦ by_verdict _ (at_xml_other a b d) (rejects (Err XmlPrefixDeclared) refl (λ x. both_ways _ x.0.prefix (or_left _ _ b)))
                  ]
              | inr b ↦
                  elim (cases_Bool (named 2 p)) [
                    | inl d ↦ by_verdict _ (at_xmlns a b d) (rejects (Err XmlnsPrefixDeclared) refl (λ x. both_ways _ x.0.prefix (or_right _ _ d)))
                    | inr d ↦
                        elim (cases_Bool (bytes_eq v xml_uri)) [
                          | inl e ↦ by_verdict _ (at_xml_uri a b d e) (rejects (Err XmlPrefixDeclared) refl (λ x. x.0.not_xml ((bytes_eq-Decides v xml_uri).0 e)))
                          | inr e ↦
                              elim (cases_Bool (binds tag p)) [
                                | inl f ↦ by_verdict _ (at_twice a b d e f) (rejects (Err DeclaredTwice) refl (λ x. not_new tag p f x.1))
                                | inr f ↦ by_verdict _ (at_end a b d e f) ((λ _. (fine a b d e, is_new tag p f)), (λ _. effect v))
                              ]
                        ]
                  ]
            ]
      ]
