-- The six names that every table begins with. Assumes nothing.
use Rattle.std.specs.Prelude.{ℕ, List, [], ◌∷◌, codes}

-- the namespace that `xml` is bound to
unfoldable pub xml_uri : List ℕ
xml_uri = codes "http://www.w3.org/XML/1998/namespace"

-- the namespace that `xmlns` is bound to
unfoldable pub xmlns_uri : List ℕ
xmlns_uri = codes "http://www.w3.org/2000/xmlns/"

-- in the order of their numbers, from 0 on
unfoldable pub built_in : List (List ℕ)
built_in = codes "" ∷ codes "xml" ∷ codes "xmlns" ∷ codes "script" ∷ xml_uri ∷ xmlns_uri ∷ []
