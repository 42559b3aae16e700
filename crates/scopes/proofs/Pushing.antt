-- What one item more in a list of at most n items comes to, by what the call that pushed it answers. Assumes nothing.
use Rattle.std.proofs.Common.{◌≡◌, ℕ, ◌+◌, ◌<◌, ◌≤◌, Ok, Err, Option, ltb, set, ap, ◌∙◌, inl, inr}
use Rattle.std.specs.Option.{ok_or}
use Rattle.std.proofs.lemmas.Bool.{cond-true, cond-false, cases_Bool, ltb-true, ltb-false}
use Rattle.scopes.specs.declared.stack.Stack.{Stack}
use Rattle.scopes.specs.Pushing.{pushed}

module _ {A E : Type 0} (n : ℕ) (s : Stack A n) (x : A) (e : E) (r : Option (Stack A n)) (h : r ≡ pushed n s x) where
  pub record Pushed (t : Stack A n) : Type 0 where
    pub room : s.len < n
    pub items : t.items ≡ set s.items s.len x
    pub len : t.len ≡ s.len + 1

  pub one_more : (t : Stack A n) → Ok t ≡ ok_or r e → Pushed t
  one_more t k =
      elim (cases_Bool (ltb s.len n)) [
        | inl y ↦
            let grown : Stack A n = record { items = set s.items s.len x; len = s.len + 1 } in
            let same : Ok t ≡ Ok grown = k ∙ ap (λ o. ok_or o e) (h ∙ cond-true _ _ _ y) in
            let is : t ≡ grown = cc in
            record { room = ltb-true s.len n y; items = λ i. (is i).items; len = λ i. (is i).len }
        | inr z ↦ let none : Ok t ≡ Err e = k ∙ ap (λ o. ok_or o e) (h ∙ cond-false _ _ _ z) in cc
      ]

  -- without room, it is the error of the caller
  pub record Full (f : E) : Type 0 where
    pub full : n ≤ s.len
    pub error : f ≡ e

  pub none_left : (f : E) → Err f ≡ ok_or r e → Full f
  none_left f k =
      elim (cases_Bool (ltb s.len n)) [
        | inl y ↦
            let grown : Stack A n = record { items = set s.items s.len x; len = s.len + 1 } in
            let some : Err f ≡ Ok grown = k ∙ ap (λ o. ok_or o e) (h ∙ cond-true _ _ _ y) in cc
        | inr z ↦
            let same : Err f ≡ Err e = k ∙ ap (λ o. ok_or o e) (h ∙ cond-false _ _ _ z) in
            let is : f ≡ e = cc in
            record { full = ltb-false s.len n z; error = is }
      ]
