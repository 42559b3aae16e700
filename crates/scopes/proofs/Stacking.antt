-- What a change of the arrays means for the rows that they hold. Assumes nothing.
use Rattle.std.proofs.Common.{◌≡◌, ℕ, zero, suc, ◌+◌, ◌-◌, ◌<◌, ◌≤◌, true, ◌&&◌, leb, ◌≢◌, List, [], ◌∷◌, ◌++◌, length, get_or, take, drop, set, Ok, Err, sym, refl, ap, ◌∙◌, add-one, arith, length-set}
use Rattle.std.specs.List.{between}
use Rattle.std.proofs.lemmas.List.Sums.{sum_by-cons}
use Rattle.std.proofs.lemmas.List.Edits.{between_none, between_more, length-between}
use Rattle.std.proofs.lemmas.List.{get_or-set_same, get_or-set_other, take-set-le, drop-set-add}
use Rattle.std.proofs.lemmas.Bool.{and_parts, and_from, leb-true, le-leb, eqb-true, cond-true, cond-false, lt-ltb, le-ltb}
use Rattle.scopes.specs.declared.bindings.Binding.{Binding}
use Rattle.scopes.specs.declared.faults.ScopeFault.TheVariants.{TooManyBindings}
use Rattle.scopes.specs.Stacks.{stacked, climbs}
use Rattle.scopes.specs.Rows.{size, added}

-- the innermost row lies above the others
pub record Top (b : ℕ) (s : List ℕ) (n e : ℕ) : Type 0 where
  pub low : get_or s n 0 ≤ e
  pub on : climbs b s n (get_or s n 0) ≡ true

pub top : (b : ℕ) (s : List ℕ) (n e : ℕ) → climbs b s (suc n) e ≡ true → Top b s n e
top b s n e h =
    let p = and_parts (leb (get_or s n 0) e) (climbs b s n (get_or s n 0)) h in record { low = leb-true _ _ p.0; on = p.1 }

pub above_bottom : (b : ℕ) (s : List ℕ) (n e : ℕ) → climbs b s n e ≡ true → b ≤ e
above_bottom b s zero e h = omega (arith, eqb-true b e h)
above_bottom b s (suc n) e h = let t = top b s n e h in omega (arith, t.low, above_bottom b s n (get_or s n 0) t.on)

pub length_stacked : {A : Type 0} (s : List ℕ) (xs : List A) (n e : ℕ) → length (stacked s xs n e) ≡ n
length_stacked s xs zero e = refl
length_stacked s xs (suc n) e = ap suc (length_stacked s xs n (get_or s n 0))

pub size_stacked : (b : ℕ) (s : List ℕ) (xs : List Binding) (n e : ℕ) → climbs b s n e ≡ true → e ≤ length xs → b + size (stacked s xs n e) ≡ e
size_stacked b s xs zero e h le = omega (arith, eqb-true b e h)
size_stacked b s xs (suc n) e h le =
    let t = top b s n e h in
    let f = get_or s n 0 in
    omega (arith, t.low, sum_by-cons length (between f e xs) (stacked s xs n f), length-between xs f e le, size_stacked b s xs n f t.on (omega arith))

-- a start that is not read does not matter
stacked_starts : {A : Type 0} (s : List ℕ) (xs : List A) (n e k v : ℕ) → n ≤ k → stacked (set s k v) xs n e ≡ stacked s xs n e
stacked_starts s xs zero e k v le = refl
stacked_starts s xs (suc n) e k v le =
    let ne : n ≢ k = omega arith in
    let g = get_or-set_other s k n v 0 ne in
    (λ i. between (g i) e xs ∷ stacked (set s k v) xs n (g i))
    ∙ ap (λ l. between (get_or s n 0) e xs ∷ l) (stacked_starts s xs n (get_or s n 0) k v (omega arith))

climbs_starts : (b : ℕ) (s : List ℕ) (n e k v : ℕ) → n ≤ k → climbs b (set s k v) n e ≡ climbs b s n e
climbs_starts b s zero e k v le = refl
climbs_starts b s (suc n) e k v le =
    let ne : n ≢ k = omega arith in
    let g = get_or-set_other s k n v 0 ne in
    (λ i. leb (g i) e && climbs b (set s k v) n (g i))
    ∙ ap (λ t. leb (get_or s n 0) e && t) (climbs_starts b s n (get_or s n 0) k v (omega arith))

between-set : {A : Type 0} (xs : List A) (f e k : ℕ) (y : A) → f ≤ e → e ≤ k → between f e (set xs k y) ≡ between f e xs
between-set xs f e k y low high =
    let back : f + (k - f) ≡ k = omega arith in
    let short : e - f ≤ k - f = omega arith in
    ap (λ m. take (e - f) (drop f (set xs m y))) (sym back)
    ∙ ap (take (e - f)) (drop-set-add f xs (k - f) y)
    ∙ take-set-le (e - f) (drop f xs) (k - f) y short

-- nor does an entry past the end
stacked_entries : {A : Type 0} (b : ℕ) (s : List ℕ) (xs : List A) (n e k : ℕ) (y : A) → climbs b s n e ≡ true → e ≤ k → stacked s (set xs k y) n e ≡ stacked s xs n e
stacked_entries b s xs zero e k y h le = refl
stacked_entries b s xs (suc n) e k y h le =
    let t = top b s n e h in
    (λ i. between-set xs (get_or s n 0) e k y t.low le i ∷ stacked_entries b s xs n (get_or s n 0) k y t.on (omega (arith, t.low)) i)

-- a row more
pub open_stacked : {A : Type 0} (s : List ℕ) (xs : List A) (n e : ℕ) → n < length s → stacked (set s n e) xs (n + 1) e ≡ [] ∷ stacked s xs n e
open_stacked s xs n e lt =
    let g = get_or-set_same s n e 0 lt in
    ap (λ m. stacked (set s n e) xs m e) (add-one n)
    ∙ (λ i. between (g i) e xs ∷ stacked (set s n e) xs n (g i))
    ∙ (λ i. between_none xs e i ∷ stacked_starts s xs n e n e (omega arith) i)

pub open_climbs : (b : ℕ) (s : List ℕ) (n e : ℕ) → n < length s → climbs b s n e ≡ true → climbs b (set s n e) (n + 1) e ≡ true
open_climbs b s n e lt h =
    let g = get_or-set_same s n e 0 lt in
    ap (λ m. climbs b (set s n e) m e) (add-one n)
    ∙ (λ i. leb (g i) e && climbs b (set s n e) n (g i))
    ∙ and_from _ _ (le-leb e e (omega arith)) (climbs_starts b s n e n e (omega arith) ∙ h)

-- a binding more
pub add_climbs : (b : ℕ) (s : List ℕ) (n e : ℕ) → (n ≡ 0 → ⊥) → climbs b s n e ≡ true → climbs b s n (e + 1) ≡ true
add_climbs b s zero e some h = absurd (some refl)
add_climbs b s (suc n) e some h = let t = top b s n e h in and_from _ _ (le-leb _ _ (omega (arith, t.low))) t.on

pub add_stacked : (b : ℕ) (s : List ℕ) (xs : List Binding) (n e : ℕ) (y : Binding) → (n ≡ 0 → ⊥) → climbs b s n e ≡ true → e < 256 → e < length xs → Ok (stacked s (set xs e y) n (e + 1)) ≡ added b (stacked s xs n e) y
add_stacked b s xs zero e y some h lt le = absurd (some refl)
add_stacked b s xs (suc n) e y some h lt le =
    let t = top b s n e h in
    let f = get_or s n 0 in
    let long : e < length (set xs e y) = rw length-set le in
    let here : get_or (set xs e y) e y ≡ y = get_or-set_same xs e y y le in
    let row : between f (e + 1) (set xs e y) ≡ between f e xs ++ y ∷ [] =
    between_more (set xs e y) f e y t.low long ∙ (λ i. between-set xs f e e y t.low (omega arith) i ++ here i ∷ []) in
    ap Ok (λ i. row i ∷ stacked_entries b s xs n f e y t.on t.low i)
    ∙ sym (cond-true _ _ _ (lt-ltb (b + size (stacked s xs (suc n) e)) 256 (omega (arith, size_stacked b s xs (suc n) e h (omega arith)))))

pub add_full : (b : ℕ) (s : List ℕ) (xs : List Binding) (n e : ℕ) (y : Binding) → (n ≡ 0 → ⊥) → climbs b s n e ≡ true → 256 ≤ e → e ≤ length xs → Err TooManyBindings ≡ added b (stacked s xs n e) y
add_full b s xs zero e y some h ge le = absurd (some refl)
add_full b s xs (suc n) e y some h ge le =
    sym (cond-false _ _ _ (le-ltb (b + size (stacked s xs (suc n) e)) 256 (omega (arith, size_stacked b s xs (suc n) e h le))))
