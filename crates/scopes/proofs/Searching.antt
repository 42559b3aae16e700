-- The steps of the two searches: through the bindings of a row, and through the rows. Assumes nothing.
use Rattle.std.proofs.Common.{◌≡◌, ℕ, suc, ◌+◌, Bool, true, not, cond, ltb, List, [], ◌∷◌, ◌++◌, ◌≤◌, length, get_or, take, drop, Some, None, Option, sym, refl, ap, ◌∙◌, inl, inr, add-zero, zero-add, arith}
use Rattle.std.specs.List.{between}
use Rattle.std.specs.Option.{option_or, option_map}
use Rattle.std.specs.List.{position, position_or_len}
use Rattle.std.proofs.lemmas.Bool.{cond-true, cond-false, cases_Bool, ltb-true, ltb-false}
use Rattle.std.proofs.Math.Seq.{take-suc, take-append_seam}
use Rattle.std.proofs.lemmas.List.{drop_more, drop_all, length_push, length-take-le, get_or_push, take-append-le, take_all}
use Rattle.names.specs.declared.qualified.Name.{Name}
use Rattle.scopes.specs.declared.bindings.Binding.{Binding}
use Rattle.scopes.specs.declared.bindings.Found.{Found}
use Rattle.scopes.specs.Prefixes.{same}
use Rattle.scopes.specs.Rows.{in_row, nearest}
use Rattle.scopes.specs.Stacks.{stacked, climbs}
use Rattle.scopes.proofs.Stacking.{length_stacked, top}

-- what is read past the end of a row
abbrev pub blank : Binding
blank = record { prefix = None; ns = None }

-- the answer that the first of these bindings gives, which has the place i in the row k
abbrev first : ℕ → ℕ → List Binding → Option Found
first k i [] = None
first k i (b ∷ bs) = Some (record { row = k; place = i; ns = b.ns })

one-plus : (n : ℕ) → 1 + n ≡ suc n
one-plus n = omega arith

row_by_place : (k i : ℕ) (bs : List Binding) (p : Option Name) → in_row k i bs p ≡ first k (i + position_or_len (λ b. same b.prefix p) bs) (drop (position_or_len (λ b. same b.prefix p) bs) bs)
row_by_place k i [] p = refl
row_by_place k i (b ∷ bs) p =
    let later = position_or_len (λ b. same b.prefix p) bs in
    let by : Bool → Option Found = λ t. first k (i + cond (not t) (1 + later) 0) (drop (cond (not t) (1 + later) 0) (b ∷ bs)) in
    elim (cases_Bool (same b.prefix p)) [
      | inl y ↦
          let here : in_row k i (b ∷ bs) p ≡ first k i (b ∷ bs) = cond-true _ _ _ y in
          here ∙ ap (λ n. first k n (b ∷ bs)) (sym (add-zero i)) ∙ ap by (sym y)
      | inr n ↦
          let next : i + 1 + later ≡ i + (1 + later) = omega arith in
          let behind : drop later bs ≡ drop (1 + later) (b ∷ bs) = ap (λ m. drop m (b ∷ bs)) (sym (one-plus later)) in
          let on : in_row k i (b ∷ bs) p ≡ in_row k (i + 1) bs p = cond-false _ _ _ n in
          on ∙ row_by_place k (i + 1) bs p ∙ (λ j. first k (next j) (behind j)) ∙ ap by (sym n)
    ]

-- the first binding of a prefix in a row, by its place
pub row_found_at : (k : ℕ) (bs : List Binding) (p : Option Name) (r : Option ℕ) → r ≡ position (λ b. same b.prefix p) bs → in_row k 0 bs p ≡ option_map (λ n. record { row = k; place = n; ns = (get_or bs n blank).ns }) r
row_found_at k bs p r h =
    let n = position_or_len (λ b. same b.prefix p) bs in
    let found : Option ℕ → Option Found = option_map (λ n. record { row = k; place = n; ns = (get_or bs n blank).ns }) in
    row_by_place k 0 bs p
    ∙ ap (λ m. first k m (drop n bs)) (zero-add n)
    ∙ elim (cases_Bool (ltb n (length bs))) [
      | inl y ↦ ap (first k n) (drop_more bs n blank (ltb-true n (length bs) y)) ∙ ap found (sym (h ∙ cond-true _ _ _ y))
      | inr z ↦ ap (first k n) (drop_all n bs (ltb-false n (length bs) z)) ∙ ap found (sym (h ∙ cond-false _ _ _ z))
    ]

-- the innermost of n + 1 rows
pub rows_more : (s : List ℕ) (xs : List Binding) (n e : ℕ) (p : Option Name) → nearest (stacked s xs (suc n) e) p ≡ option_or (in_row n 0 (between (get_or s n 0) e xs) p) (nearest (stacked s xs n (get_or s n 0)) p)
rows_more s xs n e p =
    ap (λ k. option_or (in_row k 0 (between (get_or s n 0) e xs) p) (nearest (stacked s xs n (get_or s n 0)) p)) (length_stacked s xs n (get_or s n 0))

-- the last of the starts that are left
record Last (s left front : List ℕ) (start : ℕ) : Type 0 where
  more : length left ≡ suc (length front)
  at : start ≡ get_or s (length front) 0
  begins : front ≡ take (length front) s

last : (s left front : List ℕ) (start : ℕ) → length left ≤ length s → left ≡ front ++ start ∷ [] → left ≡ take (length left) s → Last s left front start
last s left front start few p q =
    let n = length front in
    let more : length left ≡ suc n = omega (arith, ap length p, length_push front start) in
    let whole = length-take-le n s (omega arith) in
    let same : front ++ start ∷ [] ≡ take n s ++ get_or s n 0 ∷ [] = sym p ∙ q ∙ ap (λ k. take k s) more ∙ take-suc s n 0 (omega arith) in
    record {
      more = more;
      at =
          sym (get_or_push front start 0 n refl)
          ∙ ap (λ l. get_or l n 0) same
          ∙ get_or_push (take n s) (get_or s n 0) 0 n whole;
      begins =
          sym (take-append_seam front (start ∷ []))
          ∙ ap (take n) same
          ∙ take-append-le n (take n s) (get_or s n 0 ∷ []) (omega (arith, whole))
          ∙ take_all n (take n s) (omega (arith, whole));
    }

-- the row that begins at the last of the starts that are left, and the rows around it
pub record Innermost (b : ℕ) (s : List ℕ) (xs : List Binding) (left front : List ℕ) (start e : ℕ) (p : Option Name) : Type 0 where
  pub few : length front ≤ length s
  pub begins : front ≡ take (length front) s
  pub low : start ≤ e
  pub on : climbs b s (length front) start ≡ true
  pub gives : nearest (stacked s xs (length left) e) p ≡ option_or (in_row (length front) 0 (between start e xs) p) (nearest (stacked s xs (length front) start) p)

pub innermost : (b : ℕ) (s : List ℕ) (xs : List Binding) (left front : List ℕ) (start e : ℕ) (p : Option Name) → length left ≤ length s → left ≡ front ++ start ∷ [] → left ≡ take (length left) s → climbs b s (length left) e ≡ true → Innermost b s xs left front start e p
innermost b s xs left front start e p few parts begins h =
    let n = length front in
    let l = last s left front start few parts begins in
    let t = top b s n e (ap (λ k. climbs b s k e) (sym l.more) ∙ h) in
    record {
      few = omega (arith, l.more);
      begins = l.begins;
      low = omega (arith, t.low, l.at);
      on = ap (climbs b s n) l.at ∙ t.on;
      gives =
          ap (λ k. nearest (stacked s xs k e) p) l.more
          ∙ rows_more s xs n e p
          ∙ ap (λ f. option_or (in_row n 0 (between f e xs) p) (nearest (stacked s xs n f) p)) (sym l.at);
    }
