-- A name table as a list of texts: the number of a text is its place. Assumes nothing.
use Rattle.std.specs.Prelude.{◌≡◌, ℕ, ◌+◌, ◌<◌, Bool, true, false, cond, not, ◌&&◌, List, [], ◌∷◌, ◌++◌, length, Some, None, Ok, Err, Option, Result, nat_le, nat_lt, slice_index_or}
use Rattle.std.specs.List.{sum_by, list_any}
use Rattle.std.specs.Str.{bytes_eq}
use Rattle.names.specs.declared.qualified.Name.{Name}
use Rattle.names.specs.declared.refusals.NameFault.{NameFault}
use Rattle.names.specs.declared.refusals.NameFault.TheVariants.{TooManyNames, TooManyBytes}
use Rattle.names.specs.Names.{numbered}

-- the text at place n
abbrev pub text_at : List (List ℕ) → ℕ → Option (List ℕ)
text_at ts n = cond (nat_lt n (length ts)) (Some (slice_index_or ts n [])) None

-- the search for t among texts that are numbered from i on
abbrev pub seek : ℕ → List (List ℕ) → List ℕ → Option Name
seek i [] t = None
seek i (u ∷ us) t = cond (bytes_eq u t) (Some (numbered i)) (seek (i + 1) us t)

-- the bytes of all texts
abbrev pub total : List (List ℕ) → ℕ
total ts = sum_by length ts

-- the number of one name more, of `len` bytes, beside `held` names of `bytes` bytes: the limits are 512 and 16,384
abbrev pub fits : ℕ → ℕ → ℕ → Result Name NameFault
fits held bytes len =
    cond (nat_lt held 512) (cond (nat_le (bytes + len) 16384) (Ok (numbered held)) (Err (TooManyBytes held))) (Err (TooManyNames held))

-- the same for the text t beside the texts ts
abbrev pub added : List (List ℕ) → List ℕ → Result Name NameFault
added ts t = fits (length ts) (total ts) (length t)

abbrev pub known_or : Option Name → Result Name NameFault → Result Name NameFault
known_or (Some n) r = Ok n
known_or None r = r

-- what entering t answers: its number if it is known, else the next number, within the limits
abbrev pub entered : List (List ℕ) → List ℕ → Result Name NameFault
entered ts t = known_or (seek 0 ts t) (added ts t)

abbrev pub grown : Option Name → Result Name NameFault → List (List ℕ) → List ℕ → List (List ℕ)
grown (Some n) r ts t = ts
grown None (Ok n) ts t = ts ++ t ∷ []
grown None (Err f) ts t = ts

-- what the table holds after t was entered or refused
abbrev pub after : List (List ℕ) → List ℕ → List (List ℕ)
after ts t = grown (seek 0 ts t) (added ts t) ts t

-- the texts begin with these
abbrev pub begins : List (List ℕ) → List (List ℕ) → Bool
begins [] ts = true
begins (u ∷ us) [] = false
begins (u ∷ us) (t ∷ ts) = bytes_eq u t && begins us ts

abbrev pub contains : List (List ℕ) → List ℕ → Bool
contains ts t = list_any (λ u. bytes_eq u t) ts

-- no text stands there twice
abbrev pub distinct : List (List ℕ) → Bool
distinct [] = true
distinct (t ∷ ts) = not (contains ts t) && distinct ts

-- equal texts have one number: a number is the answer exactly if its text is the one that was asked for
abbrev pub NumberOf : List (List ℕ) → List ℕ → Option Name → Type 0
NumberOf ts t r = (n : ℕ) → (r ≡ Some (numbered n) → text_at ts n ≡ Some t) × (text_at ts n ≡ Some t → r ≡ Some (numbered n))

-- a number never changes: what had one keeps it
abbrev pub KeepsNumbers : List (List ℕ) → List (List ℕ) → Type 0
KeepsNumbers ts us = (n : ℕ) → n < length ts → slice_index_or us n [] ≡ slice_index_or ts n []
