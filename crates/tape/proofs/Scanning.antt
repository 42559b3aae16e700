-- Words that fill slots, one after another. Assumes nothing.
use Rattle.std.proofs.Common.{◌≡◌, ℕ, zero, suc, ◌+◌, ◌-◌, ◌*◌, ◌<◌, Bool, true, false, cond, List, [], ◌∷◌, length, Ok, Err, Result, IfOk, Bor, sym, refl, ap, arith}
use Rattle.tape.specs.declared.faults.TapeCause.{TapeCause}
use Rattle.tape.specs.declared.faults.TapeCause.TheVariants.{WrongWord}
use Rattle.tape.specs.declared.words.Head.{Head}
use Rattle.tape.specs.declared.words.Head.TheVariants as head
use Rattle.tape.specs.declared.words.Slot.{Slot}
use Rattle.tape.specs.declared.words.Slot.TheVariants.{Text, Optional}
use Rattle.tape.specs.Words.{takes}
use Rattle.tape.specs.Scans.{attribute_slots, slots_of, after, part_count, rest_of}

passed_by : (b : Bool) (ss : List Slot) (ws rest : List ℕ) → (after ss ws ≡ Ok rest → length ws ≡ length ss + length rest) → cond b (after ss ws) (Err WrongWord) ≡ Ok rest → suc (length ws) ≡ suc (length ss) + length rest
passed_by true ss ws rest ih e = omega (arith, ih e)
passed_by false ss ws rest ih e = cc

-- one by one, as many words as slots are passed
pub passed_length : (ss : List Slot) (ws rest : List ℕ) → after ss ws ≡ Ok rest → length ws ≡ length ss + length rest
passed_length [] ws rest e = let q : ws ≡ rest = cc in omega (arith, ap length q)
passed_length (s ∷ ss) [] rest e = cc
passed_length (s ∷ ss) (w ∷ ws) rest e = passed_by (takes s w) ss ws rest (passed_length ss ws rest) e

pub attribute_slots_length : (n : ℕ) → length (attribute_slots n) ≡ 3 * n
attribute_slots_length zero = refl
attribute_slots_length (suc n) = omega (arith, attribute_slots_length n)

pub slots_length : (h : Head) → length (slots_of h) ≡ part_count h
slots_length (head.Tag k n) = omega (arith, attribute_slots_length n)
slots_length head.ShortTag = refl
slots_length head.Comment = refl
slots_length head.Characters = refl
slots_length head.Instruction = refl
slots_length head.Doctype = refl
slots_length head.NullCharacter = refl
slots_length head.EndOfFile = refl
slots_length head.Error = refl

-- there are as many parts as the first word says
pub words_length : (h : Head) (rest ws : List ℕ) → Ok rest ≡ after (slots_of h) ws → length ws ≡ part_count h + length rest
words_length h rest ws e = omega (arith, passed_length (slots_of h) ws rest (sym e), slots_length h)

pub parts_length : (h : Head) (ws : List ℕ) (r : Result (Bor (List ℕ)) TapeCause) → rest_of r ≡ after (slots_of h) ws → IfOk r (λ rest. length ws ≡ part_count h + length rest.now)
parts_length h ws (Ok rest) e = words_length h rest.now ws e
parts_length h ws (Err f) e = tt

-- the slots of the attributes that are left, one by one
pub one_attribute : (n i : ℕ) → i < n → attribute_slots (n - i) ≡ Optional ∷ Text ∷ Text ∷ attribute_slots (n - (i + 1))
one_attribute n i h = let e : n - i ≡ suc (n - (i + 1)) = omega arith in ap attribute_slots e
