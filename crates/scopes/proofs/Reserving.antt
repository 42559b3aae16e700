-- The built-in bindings, and that no row binds `xml` or `xmlns`. Assumes nothing.
use Rattle.std.proofs.Common.{◌≡◌, ℕ, zero, suc, ◌+◌, true, false, not, ltb, List, [], ◌∷◌, ◌++◌, length, Some, None, Ok, Option, sym, refl, ap, ◌∙◌, inl, inr}
use Rattle.std.specs.Option.{option_or}
use Rattle.std.proofs.lemmas.Bool.{cond-true, cond-false, cases_Bool, and_parts, and_from, not-true, not_from_false, both_ways}
use Rattle.names.specs.declared.qualified.Name.{Name}
use Rattle.scopes.specs.declared.bindings.Binding.{Binding}
use Rattle.scopes.specs.declared.bindings.Found.{Found}
use Rattle.scopes.specs.declared.bindings.Lookup.{Lookup}
use Rattle.scopes.specs.declared.bindings.Lookup.TheVariants.{Declared}
use Rattle.scopes.specs.Prefixes.{same, reserved, free_row, free, keeps_free}
use Rattle.scopes.specs.Rows.{size, refuses, added, closed, in_row, nearest}
use Rattle.scopes.specs.Lookups.{built_in, declared_or, on_tag, look}
use Rattle.scopes.proofs.Comparing.{same-Decides}

joined : (o q : Option Found) (l : Lookup) → declared_or o (declared_or q l) ≡ declared_or (option_or o q) l
joined (Some f) q l = refl
joined None q l = refl

-- a row without reserved prefixes gives none of them
in_row-free_row : (k i : ℕ) (bs : List Binding) (p : Option Name) → free_row bs ≡ true → reserved p ≡ true → in_row k i bs p ≡ None
in_row-free_row k i [] p h r = refl
in_row-free_row k i (b ∷ bs) p h r =
    let q = and_parts (not (reserved b.prefix)) (free_row bs) h in
    elim (cases_Bool (same b.prefix p)) [
      | inl y ↦ absurd (both_ways (reserved p) (ap reserved (sym ((same-Decides b.prefix p).0 y)) ∙ not-true _ q.0) r)
      | inr n ↦ cond-false _ _ _ n ∙ in_row-free_row k (i + 1) bs p q.1 r
    ]

pub nearest-free : (rows : List (List Binding)) (p : Option Name) → free rows ≡ true → reserved p ≡ true → nearest rows p ≡ None
nearest-free [] p h r = refl
nearest-free (row ∷ rows) p h r =
    let q = and_parts (free_row row) (free rows) h in
    ap (λ o. option_or o (nearest rows p)) (in_row-free_row (length rows) 0 row p q.0 r) ∙ nearest-free rows p q.1 r

-- the look-up in a table, by what its rows give
pub look_found : (rows : List (List Binding)) (p : Option Name) (f : Found) → free rows ≡ true → Some f ≡ nearest rows p → Declared f ≡ look rows p
look_found rows p f h e =
    elim (cases_Bool (reserved p)) [
      | inl y ↦ let none = e ∙ nearest-free rows p h y in cc
      | inr n ↦ ap (λ o. declared_or o (built_in p)) e ∙ sym (cond-false _ _ _ n)
    ]

-- the same with a tag inside the rows
pub tag_look : (tag : List Binding) (rows : List (List Binding)) (p : Option Name) → declared_or (on_tag (length rows) tag p) (look rows p) ≡ look (tag ∷ rows) p
tag_look tag rows p =
    elim (cases_Bool (reserved p)) [
      | inl y ↦ ap (λ o. declared_or o (look rows p)) (cond-true _ _ _ y) ∙ cond-true _ _ _ y ∙ sym (cond-true _ _ _ y)
      | inr n ↦
          (λ i. declared_or (cond-false (reserved p) None (in_row (length rows) 0 tag p) n i) (cond-false (reserved p) (built_in p) (declared_or (nearest rows p) (built_in p)) n i))
          ∙ joined (in_row (length rows) 0 tag p) (nearest rows p) (built_in p)
          ∙ sym (cond-false _ _ _ n)
    ]

-- a binding of another prefix keeps the rows free
free_push : (bs : List Binding) (b : Binding) → free_row bs ≡ true → reserved b.prefix ≡ false → free_row (bs ++ b ∷ []) ≡ true
free_push [] b h n = and_from _ _ (not_from_false _ n) refl
free_push (a ∷ bs) b h n =
    let p = and_parts (not (reserved a.prefix)) (free_row bs) h in and_from _ _ p.0 (free_push bs b p.1 n)

pub free-added : (below : ℕ) (rows us : List (List Binding)) (b : Binding) → Ok us ≡ added below rows b → free rows ≡ true → reserved b.prefix ≡ false → free us ≡ true
free-added below [] us b e h n = cc
free-added below (row ∷ rows) us b e h n =
    let p = and_parts (free_row row) (free rows) h in
    elim (cases_Bool (ltb (below + size (row ∷ rows)) 256)) [
      | inl y ↦
          let g = e ∙ cond-true _ _ _ y in
          let same_rows : us ≡ (row ++ b ∷ []) ∷ rows = cc in
          ap free same_rows ∙ and_from _ _ (free_push row b p.0 n) p.1
      | inr z ↦ let full = e ∙ cond-false _ _ _ z in cc
    ]

-- and so does closing a row
pub free-closed : (rows us : List (List Binding)) → Ok us ≡ closed rows → free rows ≡ true → free us ≡ true
free-closed [] us e h = cc
free-closed (row ∷ rows) us e h =
    let same_rows : us ≡ rows = cc in ap free same_rows ∙ (and_parts (free_row row) (free rows) h).1

-- so where no row has a reserved prefix, none has after a binding was added that is not refused
pub keeps_free-added : (n : ℕ) (rows us : List (List Binding)) (b : Binding) → Ok us ≡ added n rows b → keeps_free n rows ≡ true → refuses n b.prefix ≡ false → keeps_free n us ≡ true
keeps_free-added zero rows us b e h r = refl
keeps_free-added (suc n) rows us b e h r = free-added (suc n) rows us b e h r

pub keeps_free-opened : (n : ℕ) (rows : List (List Binding)) → keeps_free n rows ≡ true → keeps_free n ([] ∷ rows) ≡ true
keeps_free-opened zero rows h = refl
keeps_free-opened (suc n) rows h = h
