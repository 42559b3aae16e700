-- One step of the search for a text, and what finding none means. Assumes nothing.
use Rattle.std.proofs.Common.{◌≡◌, ℕ, zero, suc, ◌+◌, ◌<◌, true, false, not, ltb, List, [], ◌∷◌, ◌++◌, length, get_or, drop, Some, None, sym, refl, ap, ◌∙◌, inl, inr, add-zero, zero-add, arith}
use Rattle.std.specs.Str.{bytes_eq}
use Rattle.std.proofs.lemmas.Slice.Eq.{bytes_eq-Decides}
use Rattle.std.proofs.lemmas.Bool.Decides.{same_from_decides}
use Rattle.std.proofs.lemmas.List.{drop_more}
use Rattle.std.proofs.lemmas.Bool.{and_parts, and_from, or_parts, or_from, or_left, or_right, not-true, not_from_false, cond-true, cond-false, cases_Bool, both_ways, false≢true, lt-ltb, ltb-true}
use Rattle.names.specs.declared.qualified.Name.{Name}
use Rattle.names.specs.Names.{numbered}
use Rattle.names.specs.Cuts.{chained}
use Rattle.names.specs.Texts.{seek, contains, distinct, begins, text_at, NumberOf}
use Rattle.names.proofs.Cutting.{Front, front}

-- the bounds of the text at place i
pub front_at : (xs es : List ℕ) (i f n : ℕ) → xs ≡ es → i < length xs → chained f (drop i es) n ≡ true → Front f (get_or xs i 0) (drop (i + 1) es) n
front_at xs es i f n e lt h =
    let l : i < length es = omega (arith, ap length e) in
    let g : chained f (get_or es i 0 ∷ drop (i + 1) es) n ≡ true = ap (λ x. chained f x n) (sym (drop_more es i 0 l)) ∙ h in
    rw e (front f (get_or es i 0) (drop (i + 1) es) n g)

same_sym : (t u : List ℕ) → bytes_eq t u ≡ bytes_eq u t
same_sym t u = same_from_decides _ _ (bytes_eq-Decides t u) ((λ h. sym ((bytes_eq-Decides u t).0 h)), (λ e. (bytes_eq-Decides u t).1 (sym e)))

-- a search that finds none has passed every text
pub none_contained : (i : ℕ) (ts : List (List ℕ)) (t : List ℕ) → None ≡ seek i ts t → contains ts t ≡ false
none_contained i [] t h = refl
none_contained i (u ∷ us) t h =
    elim (cases_Bool (bytes_eq u t)) [
      | inl y ↦ let some = h ∙ cond-true _ _ _ y in cc
      | inr n ↦ or_from _ _ n (none_contained (i + 1) us t (h ∙ cond-false _ _ _ n))
    ]

-- a text that stands at a place is contained
contained_at : (ts : List (List ℕ)) (t : List ℕ) (n : ℕ) → n < length ts → get_or ts n [] ≡ t → contains ts t ≡ true
contained_at [] t n lt e = absurd (omega arith)
contained_at (u ∷ us) t zero lt e = or_left _ _ ((bytes_eq-Decides u t).1 e)
contained_at (u ∷ us) t (suc n) lt e = or_right (bytes_eq u t) _ (contained_at us t n (omega arith) e)

-- where no text stands twice, the search finds the place of the text, whichever it is
seek_at : (i : ℕ) (ts : List (List ℕ)) (t : List ℕ) (n : ℕ) → distinct ts ≡ true → n < length ts → get_or ts n [] ≡ t → seek i ts t ≡ Some (numbered (i + n))
seek_at i [] t n d lt e = absurd (omega arith)
seek_at i (u ∷ us) t zero d lt e =
    cond-true _ _ _ ((bytes_eq-Decides u t).1 e) ∙ ap (λ k. Some (numbered k)) (sym (add-zero i))
seek_at i (u ∷ us) t (suc n) d lt e =
    let p = and_parts (not (contains us u)) (distinct us) d in
    let inner : contains us t ≡ true = contained_at us t n (omega arith) e in
    let other : bytes_eq u t ≡ false = elim (cases_Bool (bytes_eq u t)) [
      | inl y ↦ absurd (both_ways (contains us t) (ap (contains us) (sym ((bytes_eq-Decides u t).0 y)) ∙ not-true _ p.0) inner)
      | inr m ↦ m
    ] in
    let next : i + 1 + n ≡ i + suc n = omega arith in
    cond-false _ _ _ other ∙ seek_at (i + 1) us t n p.1 (omega arith) e ∙ ap (λ k. Some (numbered k)) next

-- the place that the search finds
record Place (i : ℕ) (ts : List (List ℕ)) (t : List ℕ) (n : ℕ) : Type 0 where
  offset : ℕ
  is : n ≡ i + offset
  below : offset < length ts
  text : get_or ts offset [] ≡ t

found_place : (i : ℕ) (ts : List (List ℕ)) (t : List ℕ) (n : ℕ) → seek i ts t ≡ Some (numbered n) → Place i ts t n
found_place i [] t n h = cc
found_place i (u ∷ us) t n h =
    elim (cases_Bool (bytes_eq u t)) [
      | inl y ↦
          let e : Some (numbered i) ≡ Some (numbered n) = sym (cond-true _ _ _ y) ∙ h in
          let same_number : numbered i ≡ numbered n = cc in
          record { offset = 0; is = sym (ap (λ (m : Name). m.0) same_number) ∙ sym (add-zero i); below = omega arith; text = (bytes_eq-Decides u t).0 y }
      | inr z ↦
          let p = found_place (i + 1) us t n (sym (cond-false _ _ _ z) ∙ h) in
          record { offset = suc p.offset; is = omega (arith, p.is); below = omega (arith, p.below); text = p.text }
    ]

pub found_text : (ts : List (List ℕ)) (t : List ℕ) (n : ℕ) → seek 0 ts t ≡ Some (numbered n) → text_at ts n ≡ Some t
found_text ts t n h =
    let p = found_place 0 ts t n h in
    let at : n ≡ p.offset = p.is ∙ zero-add p.offset in
    cond-true _ _ _ (lt-ltb n (length ts) (omega (arith, p.below))) ∙ ap Some (ap (λ k. get_or ts k []) at ∙ p.text)

text_found : (ts : List (List ℕ)) (t : List ℕ) (n : ℕ) → distinct ts ≡ true → text_at ts n ≡ Some t → seek 0 ts t ≡ Some (numbered n)
text_found ts t n d h =
    elim (cases_Bool (ltb n (length ts))) [
      | inl y ↦
          let e : Some (get_or ts n []) ≡ Some t = sym (cond-true _ _ _ y) ∙ h in
          let text : get_or ts n [] ≡ t = cc in
          seek_at 0 ts t n d (ltb-true n (length ts) y) text ∙ ap (λ k. Some (numbered k)) (zero-add n)
      | inr z ↦ let none = sym (cond-false _ _ _ z) ∙ h in cc
    ]

pub number_of : (ts : List (List ℕ)) (t : List ℕ) → distinct ts ≡ true → NumberOf ts t (seek 0 ts t)
number_of ts t d n = (found_text ts t n, text_found ts t n d)

contains_push : (ts : List (List ℕ)) (t u : List ℕ) → contains ts u ≡ false → bytes_eq t u ≡ false → contains (ts ++ t ∷ []) u ≡ false
contains_push [] t u h n = or_from _ _ n refl
contains_push (x ∷ xs) t u h n =
    let p = or_parts (bytes_eq x u) (contains xs u) h in or_from _ _ p.0 (contains_push xs t u p.1 n)

-- a new text keeps the texts apart
pub distinct_push : (ts : List (List ℕ)) (t : List ℕ) → distinct ts ≡ true → contains ts t ≡ false → distinct (ts ++ t ∷ []) ≡ true
distinct_push [] t d h = refl
distinct_push (u ∷ us) t d h =
    let p = and_parts (not (contains us u)) (distinct us) d in
    let q = or_parts (bytes_eq u t) (contains us t) h in
    and_from _ _ (not_from_false _ (contains_push us t u (not-true _ p.0) (same_sym t u ∙ q.0))) (distinct_push us t p.1 q.1)

-- and what stands first stays first
pub begins_push : (us ts : List (List ℕ)) (t : List ℕ) → begins us ts ≡ true → begins us (ts ++ t ∷ []) ≡ true
begins_push [] ts t h = refl
begins_push (u ∷ us) [] t h = absurd (false≢true h)
begins_push (u ∷ us) (x ∷ xs) t h =
    let p = and_parts (bytes_eq u x) (begins us xs) h in and_from _ _ p.0 (begins_push us xs t p.1)

-- a name that stands first has the place that it has there
pub begins_at : (us ts : List (List ℕ)) (n : ℕ) → begins us ts ≡ true → n < length us → get_or ts n [] ≡ get_or us n []
begins_at [] ts n h lt = absurd (omega arith)
begins_at (u ∷ us) [] n h lt = absurd (false≢true h)
begins_at (u ∷ us) (x ∷ xs) zero h lt = sym ((bytes_eq-Decides u x).0 (and_parts (bytes_eq u x) (begins us xs) h).0)
begins_at (u ∷ us) (x ∷ xs) (suc n) h lt = begins_at us xs n (and_parts (bytes_eq u x) (begins us xs) h).1 (omega arith)
