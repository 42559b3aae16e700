-- The look-up through the rows agrees with the relation on declarations and their scopes, both ways. Assumes nothing.
use Rattle.std.proofs.Common.{◌≡◌, ℕ, zero, suc, ◌+◌, ◌<◌, true, false, eqb, List, [], ◌∷◌, length, get_or, Some, None, Option, sym, refl, ap, ◌∙◌, subst, inl, inr, add-zero, zero-add, arith}
use Rattle.std.specs.Option.{option_or}
use Rattle.std.proofs.lemmas.Bool.{cond-true, cond-false, cases_Bool, cases_lt, cases_order, or_parts, or_from, eq-eqb, ne_eqb, both_ways}
use Rattle.names.specs.declared.qualified.Name.{Name}
use Rattle.scopes.specs.declared.bindings.Binding.{Binding}
use Rattle.scopes.specs.declared.bindings.Found.{Found}
use Rattle.scopes.specs.declared.bindings.Lookup.TheVariants.{Declared, Unbound}
use Rattle.scopes.specs.Prefixes.{same, named, reserved}
use Rattle.scopes.specs.Rows.{in_row, nearest}
use Rattle.scopes.specs.Lookups.{built_in, declared_or, look}
use Rattle.scopes.specs.Scoping.{tag_of, declaration_at, Declares, InScope, Undeclared, Applies, Scoped, OnlyScoped, Answered}
use Rattle.scopes.specs.Scoping.Scoped.{bound, default_undeclared, prefix_undeclared, xml, xmlns, no_default, not_bound}
use Rattle.scopes.proofs.Comparing.{same-Decides, named_is}
use Rattle.scopes.proofs.Searching.{blank}

without_more : (b : Binding) (bs : List Binding) (p : Option Name) (n : ℕ) → same b.prefix p ≡ false → ((m : ℕ) → m < n → (get_or bs m blank).prefix ≡ p → ⊥) → (m : ℕ) → m < suc n → (get_or (b ∷ bs) m blank).prefix ≡ p → ⊥
without_more b bs p n nr h zero lt e = both_ways _ nr ((same-Decides b.prefix p).1 e)
without_more b bs p n nr h (suc m) lt e = h m (omega arith) e

-- the binding that a row gives
record RowFound (k j : ℕ) (bs : List Binding) (p : Option Name) (f : Found) : Type 0 where
  offset : ℕ
  below : offset < length bs
  prefix : (get_or bs offset blank).prefix ≡ p
  earlier : (m : ℕ) → m < offset → (get_or bs m blank).prefix ≡ p → ⊥
  is : f ≡ record { row = k; place = j + offset; ns = (get_or bs offset blank).ns }

row_found : (k j : ℕ) (bs : List Binding) (p : Option Name) (f : Found) → Some f ≡ in_row k j bs p → RowFound k j bs p f
row_found k j [] p f h = cc
row_found k j (b ∷ bs) p f h =
    elim (cases_Bool (same b.prefix p)) [
      | inl y ↦
          let e : Some f ≡ Some (record { row = k; place = j; ns = b.ns }) = h ∙ cond-true _ _ _ y in
          let g : f ≡ record { row = k; place = j; ns = b.ns } = cc in
          record {
            offset = 0;
            below = omega arith;
            prefix = (same-Decides b.prefix p).0 y;
            earlier = λ m lt _. omega arith;
            is = g ∙ ap (λ n. record { row = k; place = n; ns = b.ns }) (sym (add-zero j));
          }
      | inr n ↦
          let r = row_found k (j + 1) bs p f (h ∙ cond-false _ _ _ n) in
          let next : j + 1 + r.offset ≡ j + suc r.offset = omega arith in
          record {
            offset = suc r.offset;
            below = omega (arith, r.below);
            prefix = r.prefix;
            earlier = without_more b bs p r.offset n r.earlier;
            is = r.is ∙ ap (λ i. record { row = k; place = i; ns = (get_or bs r.offset blank).ns }) next;
          }
    ]

row_none : (k j : ℕ) (bs : List Binding) (p : Option Name) → None ≡ in_row k j bs p → (m : ℕ) → m < length bs → (get_or bs m blank).prefix ≡ p → ⊥
row_none k j [] p h m lt e = omega arith
row_none k j (b ∷ bs) p h m lt e =
    elim (cases_Bool (same b.prefix p)) [
      | inl y ↦ let some = h ∙ cond-true _ _ _ y in cc
      | inr n ↦ without_more b bs p (length bs) n (row_none k (j + 1) bs p (h ∙ cond-false _ _ _ n)) m lt e
    ]

-- the tags of the innermost element and of the others
tag_inner : (tag : List Binding) (outer : List (List Binding)) → tag_of (tag ∷ outer) (length outer) ≡ tag
tag_inner tag outer = cond-true _ _ _ (eq-eqb (length outer) (length outer) refl)

tag_outer : (tag : List Binding) (outer : List (List Binding)) (k : ℕ) → k < length outer → tag_of (tag ∷ outer) k ≡ tag_of outer k
tag_outer tag outer k lt = cond-false _ _ _ (ne_eqb k (length outer) (λ e. omega arith))

outward : (tag : List Binding) (outer : List (List Binding)) (p : Option Name) (k i : ℕ) → k < length outer → Declares (tag ∷ outer) p k i → Declares outer p k i
outward tag outer p k i lt d =
    let e = tag_outer tag outer k lt in
    record {
      element = lt;
      place = subst (λ t. i < length t) e d.place;
      prefix = subst (λ t. (get_or t i blank).prefix ≡ p) e d.prefix;
    }

inward : (tag : List Binding) (outer : List (List Binding)) (p : Option Name) (k i : ℕ) → Declares outer p k i → Declares (tag ∷ outer) p k i
inward tag outer p k i d =
    let e = sym (tag_outer tag outer k d.element) in
    record {
      element = omega (arith, d.element);
      place = subst (λ t. i < length t) e d.place;
      prefix = subst (λ t. (get_or t i blank).prefix ≡ p) e d.prefix;
    }

-- where the innermost tag does not declare p, a declaration of p stands further out
further : (tag : List Binding) (outer : List (List Binding)) (p : Option Name) (k i : ℕ) → ((m : ℕ) → m < length tag → (get_or tag m blank).prefix ≡ p → ⊥) → Declares (tag ∷ outer) p k i → Declares outer p k i
further tag outer p k i none d =
    elim (cases_lt k (length outer)) [
      | inl lt ↦ outward tag outer p k i lt d
      | inr ge ↦
          let here : k ≡ length outer = omega (arith, d.element) in
          let e = ap (tag_of (tag ∷ outer)) here ∙ tag_inner tag outer in
          absurd (none i (subst (λ t. i < length t) e d.place) (subst (λ t. (get_or t i blank).prefix ≡ p) e d.prefix))
    ]

-- what the innermost row gives applies
applies_here : (tag : List Binding) (outer : List (List Binding)) (p : Option Name) (f : Found) → RowFound (length outer) 0 tag p f → Applies (tag ∷ outer) p f
applies_here tag outer p f r =
    let k = length outer in
    let i = r.offset in
    let e = sym (tag_inner tag outer) in
    let whole : f ≡ record { row = k; place = i; ns = (get_or tag i blank).ns } = r.is ∙ ap (λ n. record { row = k; place = n; ns = (get_or tag i blank).ns }) (zero-add i) in
    subst (Applies (tag ∷ outer) p) (sym whole) (record {
      in_scope = record {
        declares = record {
          element = omega arith;
          place = subst (λ t. i < length t) e r.below;
          prefix = subst (λ t. (get_or t i blank).prefix ≡ p) e r.prefix;
        };
        innermost = λ j m lt d. omega (arith, d.element);
        first = λ m lt d. r.earlier m lt (subst (λ t. (get_or t m blank).prefix ≡ p) (tag_inner tag outer) d.prefix);
      };
      value = ap (λ t. (get_or t i blank).ns) (tag_inner tag outer);
    })

-- and what the others give still applies where the innermost row has none
applies_further : (tag : List Binding) (outer : List (List Binding)) (p : Option Name) (f : Found) → ((m : ℕ) → m < length tag → (get_or tag m blank).prefix ≡ p → ⊥) → Applies outer p f → Applies (tag ∷ outer) p f
applies_further tag outer p f none a =
    let s = a.in_scope in
    let lt = s.declares.element in
    record {
      in_scope = record {
        declares = inward tag outer p f.row f.place s.declares;
        innermost = λ j m after d. s.innermost j m after (further tag outer p j m none d);
        first = λ m before d. s.first m before (outward tag outer p f.row m lt d);
      };
      value = ap (λ t. (get_or t f.place blank).ns) (tag_outer tag outer f.row lt) ∙ a.value;
    }

-- the step through the innermost row, by what it gives
found_step : (tag : List Binding) (outer : List (List Binding)) (p : Option Name) (f : Found) (o : Option Found) → o ≡ in_row (length outer) 0 tag p → Some f ≡ option_or o (nearest outer p) → (Some f ≡ nearest outer p → Applies outer p f) → Applies (tag ∷ outer) p f
found_step tag outer p f None e h onward = applies_further tag outer p f (row_none _ _ tag p e) (onward h)
found_step tag outer p f (Some g) e h onward =
    let same_one : Some f ≡ in_row (length outer) 0 tag p = h ∙ e in applies_here tag outer p f (row_found (length outer) 0 tag p f same_one)

pub nearest_applies : (elements : List (List Binding)) (p : Option Name) (f : Found) → Some f ≡ nearest elements p → Applies elements p f
nearest_applies [] p f h = cc
nearest_applies (tag ∷ outer) p f h = found_step tag outer p f (in_row (length outer) 0 tag p) refl h (nearest_applies outer p f)

none_step : (tag : List Binding) (outer : List (List Binding)) (p : Option Name) (o : Option Found) → o ≡ in_row (length outer) 0 tag p → None ≡ option_or o (nearest outer p) → (None ≡ nearest outer p → Undeclared outer p) → Undeclared (tag ∷ outer) p
none_step tag outer p None e h onward k i d = onward h k i (further tag outer p k i (row_none _ _ tag p e) d)
none_step tag outer p (Some g) e h onward k i d = cc

pub nearest_undeclared : (elements : List (List Binding)) (p : Option Name) → None ≡ nearest elements p → Undeclared elements p
nearest_undeclared [] p h k i d = omega (arith, d.element)
nearest_undeclared (tag ∷ outer) p h k i d =
    none_step tag outer p (in_row (length outer) 0 tag p) refl h (nearest_undeclared outer p) k i d

-- at most one declaration of a prefix is in scope
pub only_one : (elements : List (List Binding)) (p : Option Name) (k i l j : ℕ) → InScope elements p k i → InScope elements p l j → (k ≡ l) × (i ≡ j)
only_one elements p k i l j a b =
    elim (cases_order k l) [
      | inl e ↦ (
        e,
        elim (cases_order i j) [
          | inl d ↦ d
          | inr (inl lt) ↦ absurd (b.first i lt (subst (λ n. Declares elements p n i) e a.declares))
          | inr (inr gt) ↦ absurd (a.first j gt (subst (λ n. Declares elements p n j) (sym e) b.declares))
        ],
      )
      | inr (inl lt) ↦ absurd (a.innermost l j lt b.declares)
      | inr (inr gt) ↦ absurd (b.innermost k i gt a.declares)
    ]

-- what applies is what the look-up through the rows gives
applies_step : (elements : List (List Binding)) (p : Option Name) (f : Found) (o : Option Found) → o ≡ nearest elements p → Applies elements p f → o ≡ Some f
applies_step elements p f None e a = absurd (nearest_undeclared elements p e f.row f.place a.in_scope.declares)
applies_step elements p f (Some g) e a =
    let b = nearest_applies elements p g e in
    let at = only_one elements p g.row g.place f.row f.place b.in_scope a.in_scope in
    let ns : g.ns ≡ f.ns = sym b.value ∙ (λ i. (declaration_at elements (at.0 i) (at.1 i)).ns) ∙ a.value in
    ap Some (λ i. record { row = at.0 i; place = at.1 i; ns = ns i })

undeclared_step : (elements : List (List Binding)) (p : Option Name) (o : Option Found) → o ≡ nearest elements p → Undeclared elements p → o ≡ None
undeclared_step elements p None e u = refl
undeclared_step elements p (Some g) e u =
    let a = nearest_applies elements p g e in absurd (u g.row g.place a.in_scope.declares)

look_applies : (elements : List (List Binding)) (p : Option Name) (f : Found) → reserved p ≡ false → Applies elements p f → look elements p ≡ Declared f
look_applies elements p f nr a =
    cond-false _ _ _ nr ∙ ap (λ o. declared_or o (built_in p)) (applies_step elements p f (nearest elements p) refl a)

look_undeclared : (elements : List (List Binding)) (p : Option Name) → reserved p ≡ false → Undeclared elements p → look elements p ≡ built_in p
look_undeclared elements p nr u =
    cond-false _ _ _ nr ∙ ap (λ o. declared_or o (built_in p)) (undeclared_step elements p (nearest elements p) refl u)

built_in_none : (q : Name) → reserved (Some q) ≡ false → built_in (Some q) ≡ Unbound
built_in_none q nr =
    let p = or_parts (eqb q.0 1) (eqb q.0 2) nr in cond-false _ _ _ p.0 ∙ cond-false _ _ _ p.1

-- nothing but the look-up's answer is a line of the relation
pub only_scoped : (elements : List (List Binding)) (p : Option Name) → OnlyScoped elements p (look elements p)
only_scoped elements p other (bound f n nr a v r) = r ∙ sym (look_applies elements p f nr a)
only_scoped elements p other (default_undeclared f e a v r) = r ∙ sym (look_applies elements p f (ap reserved e) a)
only_scoped elements p other (prefix_undeclared f q e nr a v r) = r ∙ sym (look_applies elements p f nr a)
only_scoped elements p other (xml e r) = r ∙ sym (ap (look elements) e)
only_scoped elements p other (xmlns e r) = r ∙ sym (ap (look elements) e)
only_scoped elements p other (no_default e u r) = r ∙ sym (look_undeclared elements p (ap reserved e) u ∙ ap built_in e)
only_scoped elements p other (not_bound q e nr u r) =
    r ∙ sym (look_undeclared elements p nr u ∙ ap built_in e ∙ built_in_none q (ap reserved (sym e) ∙ nr))

-- a declaration that applies is one of the first three lines
by_value : (elements : List (List Binding)) (p : Option Name) (f : Found) (v : Option Name) → f.ns ≡ v → reserved p ≡ false → Applies elements p f → Scoped elements p (Declared f)
by_value elements p f (Some n) e nr a = bound f n nr a e refl
by_value elements None f None e nr a = default_undeclared f refl a e refl
by_value elements (Some q) f None e nr a = prefix_undeclared f q refl nr a e refl

no_value : (elements : List (List Binding)) (p : Option Name) → reserved p ≡ false → Undeclared elements p → Scoped elements p (built_in p)
no_value elements None nr u = no_default refl u refl
no_value elements (Some q) nr u = not_bound q refl nr u (built_in_none q nr)

open_line : (elements : List (List Binding)) (p : Option Name) (o : Option Found) → o ≡ nearest elements p → reserved p ≡ false → Scoped elements p (declared_or o (built_in p))
open_line elements p (Some f) e nr = by_value elements p f f.ns refl nr (nearest_applies elements p f e)
open_line elements p None e nr = no_value elements p nr (nearest_undeclared elements p e)

reserved_line : (elements : List (List Binding)) (p : Option Name) → reserved p ≡ true → Scoped elements p (built_in p)
reserved_line elements p h =
    elim (cases_Bool (named 1 p)) [
      | inl y ↦ let e = named_is 1 p y in xml e (ap built_in e)
      | inr n ↦
          elim (cases_Bool (named 2 p)) [
            | inl y ↦ let e = named_is 2 p y in xmlns e (ap built_in e)
            | inr m ↦ absurd (both_ways (reserved p) (or_from _ _ n m) h)
          ]
    ]

-- the look-up's answer is a line of the relation
pub scoped : (elements : List (List Binding)) (p : Option Name) → Scoped elements p (look elements p)
scoped elements p =
    elim (cases_Bool (reserved p)) [
      | inl y ↦ subst (Scoped elements p) (sym (cond-true _ _ _ y)) (reserved_line elements p y)
      | inr n ↦ subst (Scoped elements p) (sym (cond-false _ _ _ n)) (open_line elements p (nearest elements p) refl n)
    ]

-- where nothing is built in
pub answered : (elements : List (List Binding)) (p : Option Name) (o : Option Found) → o ≡ nearest elements p → Answered elements p o
answered elements p None e = nearest_undeclared elements p e
answered elements p (Some f) e =
    let a = nearest_applies elements p f e in (a, λ k i s. only_one elements p k i f.row f.place s a.in_scope)
