-- The attributes of a tag, entered one by one. Assumes nothing.
use Rattle.std.proofs.Common.{◌≡◌, ℕ, ◌≤◌, List, [], ◌∷◌, ◌++◌, length, get_or, Ok, sym, ap, ◌∙◌, arith}
use Rattle.names.specs.declared.spans.Attribute.{Attribute}
use Rattle.tape.specs.Parts.{PartsLeft, passed}
use Rattle.names.specs.Entering.{Entered, and_then}
use Rattle.tape.specs.Entering.{attribute_entered, attributes_entered}

module _ (done : List Attribute) (ts us : List (List ℕ)) (bs : List ℕ) (at : ℕ) (a : Attribute) (q : PartsLeft) where
  -- the first three words make an attribute, and the others follow
  pub one_more : (ws : List ℕ) → 3 ≤ length ws → (us, Ok a) ≡ attribute_entered ts bs at (get_or ws 0 0) (get_or ws 1 0) (get_or ws 2 0) → q ≡ passed (passed (passed (record { words = ws; text = bs; at = at }))) → attributes_entered done ts bs at ws ≡ attributes_entered (done ++ a ∷ []) us q.text q.at q.words
  one_more [] h e f = absurd (omega arith)
  one_more (p ∷ []) h e f = absurd (omega arith)
  one_more (p ∷ l ∷ []) h e f = absurd (omega arith)
  one_more (p ∷ l ∷ v ∷ ws) h e f =
      let left = passed (passed (passed (record { words = p ∷ l ∷ v ∷ ws; text = bs; at = at }))) in
      sym (ap (λ (r : Entered Attribute). and_then r (λ us a. attributes_entered (done ++ a ∷ []) us left.text left.at left.words)) e)
      ∙ sym (ap (λ (r : PartsLeft). attributes_entered (done ++ a ∷ []) us r.text r.at r.words) f)
