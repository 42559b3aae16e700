-- Bytes cut into texts: adding one, counting them, and finding one by its place. Assumes nothing.
use Rattle.std.proofs.Common.{◌≡◌, ℕ, zero, suc, ◌+◌, ◌-◌, ◌<◌, ◌≤◌, true, eqb, leb, List, [], ◌∷◌, ◌++◌, length, get_or, drop, Some, sym, refl, ap, ◌∙◌, arith, length-drop}
use Rattle.std.specs.List.{between}
use Rattle.std.proofs.lemmas.List.{take-append-le, drop-append-le, drop_at, take_all}
use Rattle.std.proofs.lemmas.List.Edits.{length-between}
use Rattle.std.proofs.lemmas.List.Sums.{sum_by-cons}
use Rattle.std.proofs.lemmas.Bool.{and_parts, and_from, leb-true, le-leb, lt-ltb, eqb-true, eq-eqb, cond-true}
use Rattle.names.specs.Cuts.{chained, cuts, start_of}
use Rattle.names.specs.Texts.{total, text_at}

-- no end lies before `from`
pub within : (f : ℕ) (es : List ℕ) (n : ℕ) → chained f es n ≡ true → f ≤ n
within f [] n h = omega (arith, eqb-true f n h)
within f (e ∷ es) n h =
    let p = and_parts (leb f e) (chained e es n) h in omega (arith, leb-true f e p.0, within e es n p.1)

-- the bounds of the first text, and the chain of the others
pub record Front (f e : ℕ) (es : List ℕ) (n : ℕ) : Type 0 where
  pub low : f ≤ e
  pub high : e ≤ n
  pub on : chained e es n ≡ true

pub front : (f e : ℕ) (es : List ℕ) (n : ℕ) → chained f (e ∷ es) n ≡ true → Front f e es n
front f e es n h =
    let p = and_parts (leb f e) (chained e es n) h in
    record { low = leb-true f e p.0; high = within e es n p.1; on = p.1 }

pub chained_push : (f : ℕ) (es : List ℕ) (n m : ℕ) → chained f es n ≡ true → n ≤ m → chained f (es ++ m ∷ []) m ≡ true
chained_push f [] n m h le =
    and_from (leb f m) (eqb m m) (le-leb f m (omega (arith, eqb-true f n h))) (eq-eqb m m refl)
chained_push f (e ∷ es) n m h le =
    let p = front f e es n h in
    and_from (leb f e) (chained e (es ++ m ∷ []) m) (le-leb f e p.low) (chained_push e es n m p.on le)

between-append : (f e : ℕ) (bs t : List ℕ) → f ≤ e → e ≤ length bs → between f e (bs ++ t) ≡ between f e bs
between-append f e bs t low high =
    let a : f ≤ length bs = omega arith in
    let b : e - f ≤ length (drop f bs) = simp length-drop (omega arith) in
    rw (drop-append-le, take-append-le)

between_last : (bs t : List ℕ) (n : ℕ) → length bs ≡ n → between n (n + length t) (bs ++ t) ≡ t
between_last bs t n h =
    let a : length t ≤ n + length t - n = omega arith in rw (drop_at bs t n h) (take_all _ t a)

pub cuts_push : (f : ℕ) (es bs t : List ℕ) (n : ℕ) → length bs ≡ n → chained f es n ≡ true → cuts f (es ++ (n + length t) ∷ []) (bs ++ t) ≡ cuts f es bs ++ t ∷ []
cuts_push f [] bs t n h c =
    let e : f ≡ n = eqb-true f n c in
    rw e (ap (λ x. x ∷ []) (between_last bs t n h))
cuts_push f (e ∷ es) bs t n h c =
    let p = front f e es n c in
    let a = between-append f e bs t p.low (omega arith) in
    let b = cuts_push e es bs t n h p.on in
    cc

pub length-cuts : (f : ℕ) (es bs : List ℕ) → length (cuts f es bs) ≡ length es
length-cuts f [] bs = refl
length-cuts f (e ∷ es) bs = ap suc (length-cuts e es bs)

pub total-cuts : (f : ℕ) (es bs : List ℕ) (n : ℕ) → length bs ≡ n → chained f es n ≡ true → f + total (cuts f es bs) ≡ n
total-cuts f [] bs n h c = omega (arith, eqb-true f n c)
total-cuts f (e ∷ es) bs n h c =
    let p = front f e es n c in
    omega (arith, p.low, p.high, sum_by-cons length (between f e bs) (cuts e es bs), length-between bs f e (omega arith), total-cuts e es bs n h p.on)

-- the text at place i
pub record Placed (f : ℕ) (es bs : List ℕ) (n i : ℕ) : Type 0 where
  pub low : start_of f es i ≤ get_or es i 0
  pub high : get_or es i 0 ≤ n
  pub cut : get_or (cuts f es bs) i [] ≡ between (start_of f es i) (get_or es i 0) bs

pub placed : (f : ℕ) (es bs : List ℕ) (n i : ℕ) → chained f es n ≡ true → i < length es → Placed f es bs n i
placed f [] bs n i h lt = absurd (omega arith)
placed f (e ∷ es) bs n zero h lt = let p = front f e es n h in record { low = p.low; high = p.high; cut = refl }
placed f (e ∷ es) bs n (suc zero) h lt =
    let p = placed e es bs n 0 (front f e es n h).on (omega arith) in
    record { low = p.low; high = p.high; cut = p.cut }
placed f (e ∷ es) bs n (suc (suc i)) h lt =
    let p = placed e es bs n (suc i) (front f e es n h).on (omega arith) in
    record { low = p.low; high = p.high; cut = p.cut }

-- the text at place i, by bounds and bytes that were read on the way
pub text_there : (es bs raw : List ℕ) (n i start end : ℕ) → chained 0 es n ≡ true → i < length es → start ≡ start_of 0 es i → end ≡ get_or es i 0 → raw ≡ bs → Some (between start end raw) ≡ text_at (cuts 0 es bs) i
text_there es bs raw n i start end h lt from to same =
    let inside = lt-ltb i (length (cuts 0 es bs)) (omega (arith, length-cuts 0 es bs)) in
    ap Some ((λ k. between (from k) (to k) (same k)) ∙ sym (placed 0 es bs n i h lt).cut) ∙ sym (cond-true _ _ _ inside)
